-- Which form of an UPDATE message is taken.
use Rattle.std.proofs.Common.{◌≡◌, ℕ, Bool, true, false, not, ◌&&◌, inl, inr, List, refl, sym, ap, subst, ◌∙◌}
use Rattle.bmp_specs.specs.declared.wire.Width.{Width}
use Rattle.bmp_specs.specs.PeerHeader.{HeaderValue}
use Rattle.bmp_specs.specs.UpdateForms.{FitsWidth, Takes, departs, width_in}
use Rattle.bmp_specs.specs.Values.{OpensValue}
use Rattle.path_attrs.specs.Framed.{HasValueIn}

-- the last form fits
pub takes_last : (Fits : Bool → Type 0) (last : Bool) → Fits last → Takes Fits last last
takes_last Fits last fits = record { fits = fits; first = inl refl }

-- the other one does, and the last doesn't
pub takes_other : (Fits : Bool → Type 0) (last : Bool) → ¬ (Fits last) → Fits (not last) → Takes Fits last (not last)
takes_other Fits last none fits = record { fits = fits; first = inr none }

-- a family for which identifiers were agreed on has the other form, and one for which they weren't has no other
pub identified : (Fits : Bool → Type 0) (last agreed : Bool) → agreed ≡ true → Fits last → Fits (not (not last) && agreed)
identified Fits true agreed e fits = subst Fits (sym e) fits
identified Fits false agreed e fits = fits

pub no_other : (Fits : Bool → Type 0) (last agreed : Bool) → agreed ≡ false → ¬ (Fits (not last && agreed)) → (bare : Bool) → Fits (not bare && agreed) → ⊥
no_other Fits last agreed e none bare fits = none (subst Fits (neither bare ∙ sym (neither last)) fits)
  where
    alone : (b : Bool) → (b && false) ≡ false
    alone true = refl
    alone false = refl

    neither : (b : Bool) → (not b && agreed) ≡ false
    neither b = ap (λ (a : Bool). not b && a) e ∙ alone (not b)

pub no_form : (Fits : Bool → Type 0) (last agreed : Bool) → agreed ≡ true → ¬ (Fits (not last && agreed)) → ¬ (Fits last) → (bare : Bool) → Fits (not bare && agreed) → ⊥
no_form Fits true agreed e none other true fits = none fits
no_form Fits true agreed e none other false fits = other (subst Fits e fits)
no_form Fits false agreed e none other true fits = other fits
no_form Fits false agreed e none other false fits = none fits

module _ (opens : OpensValue) (h : HeaderValue) (field : List ℕ) where
  pub fits_in : (width : Width) (nonzero two_octets : Bool) → width ≡ width_in opens h two_octets → nonzero ≡ departs opens h two_octets → HasValueIn width field nonzero → FitsWidth opens h field two_octets
  fits_in width nonzero two_octets w n p =
      let here = subst (λ (x : Bool). HasValueIn (width_in opens h two_octets) field x) n (subst (λ (x : Width). HasValueIn x field nonzero) w p) in
      record { read = here.read; are = here.are; no_zero = here.no_zero }

  pub has_in : (width : Width) (nonzero two_octets : Bool) → width ≡ width_in opens h two_octets → nonzero ≡ departs opens h two_octets → FitsWidth opens h field two_octets → HasValueIn width field nonzero
  has_in width nonzero two_octets w n p =
      let there : HasValueIn (width_in opens h two_octets) field (departs opens h two_octets) = record { read = p.read; are = p.are; no_zero = p.no_zero } in
      subst (λ (x : Width). HasValueIn x field nonzero) (sym w) (subst (λ (x : Bool). HasValueIn (width_in opens h two_octets) field x) (sym n) there)
