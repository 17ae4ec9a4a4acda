-- The frame of the body of an UPDATE message, and the prefixes at its places.
use Rattle.std.proofs.Common.{◌≡◌, ℕ, List, [], ◌∷◌, ◌++◌, option_map, option_to_list, Option, Some, None, refl, sym, ap, subst, ◌∙◌, append-nil, append_assoc}
use Rattle.std.specs.Prelude.{MatchOption}
use Rattle.bmp_specs.specs.declared.wire.Family.{Family}
use Rattle.bmp_specs.specs.declared.wire.Family.TheVariants.{V4}
use Rattle.bmp_specs.specs.declared.wire.IdUse.{IdUse}
use Rattle.bmp_specs.specs.AddressFamily.{unicast_family, uses_ids}
use Rattle.bmp_specs.specs.Attribute.{IsAttribute}
use Rattle.bmp_specs.specs.FramedUpdate.{FramedValue, IsFramed, PlaceValue, place_in, places}
use Rattle.bmp_specs.specs.Nlri.{AreNlri}
use Rattle.bmp_specs.specs.Parts.{AreParts}
use Rattle.bmp_specs.specs.TreatAsWithdraw.{ArePlaced}
use Rattle.bmp_specs.specs.Update.{AreMpNlri}
use Rattle.bmp_specs.specs.Values.{MpValue, NlriValue}
use Rattle.bmp_specs.proofs.UpdateOne.{UpdateFields, fields_one}
use Rattle.path_attrs.specs.Framed.{HasNoFrame}
use Rattle.bgp_update.proofs.OneBody.{HasFields}

-- attributes without a frame are in no body with one
pub no_frame : (body withdrawn attributes nlri : List ℕ) → HasFields body withdrawn attributes nlri → HasNoFrame attributes → (f : FramedValue) → IsFramed body f → ⊥
no_frame body withdrawn attributes nlri here none f p =
    let same : f.path_attributes ≡ attributes = ap (λ (x : UpdateFields). x.1.0) (fields_one body (f.withdrawn_routes, (f.path_attributes, f.nlri)) (withdrawn, (attributes, nlri)) p.fields here) in
    none p.parts f.reach f.unreach (record { are = subst (λ (l : List ℕ). AreParts IsAttribute l p.parts) same p.are; distinct = p.distinct }) p.reach_is p.unreach_is

-- the prefixes at places are those at the first ones, and then those at the others
pub placed_split : (ids : IdUse) (ps qs : List PlaceValue) (ns : List NlriValue) → ArePlaced ids (ps ++ qs) ns → (xs ys : List NlriValue) × ArePlaced ids ps xs × ArePlaced ids qs ys × (ns ≡ xs ++ ys)
placed_split ids [] qs ns p = ([], ns, refl, p, refl)
placed_split ids (place ∷ ps) qs ns (here, there, are, p, e) =
    let q = placed_split ids ps qs there p in
    (here ++ q.0, q.1, (here, q.0, are, q.2, refl), q.3, e ∙ ap (λ (l : List NlriValue). here ++ l) q.4 ∙ sym (append_assoc here q.0 q.1))

-- those in a multiprotocol attribute are its items
pub placed_in : (ids : IdUse) (part : Option MpValue) (ns : List NlriValue) → ArePlaced ids (place_in part) ns → AreMpNlri ids part ns
placed_in ids None ns p = p
placed_in ids (Some m) ns p = at (unicast_family m.afi m.safi) p
  where
    at : (o : Option Family) → ArePlaced ids (option_to_list (option_map (λ f. record { family = f; prefixes = m.prefixes }) o)) ns
        → MatchOption o (ns ≡ []) (λ family. AreNlri family (uses_ids ids family) m.prefixes ns)
    at None p = p
    at (Some family) (here, there, are, none, e) =
        subst (λ (l : List NlriValue). AreNlri family (uses_ids ids family) m.prefixes l) (sym (e ∙ ap (λ (l : List NlriValue). here ++ l) none ∙ append-nil here)) are

-- a list that the prefixes at all places were added to, one place after another
pub contained_are : (ids : IdUse) (f : FramedValue) (first second third fourth last : List NlriValue) → ((ns : List NlriValue) → AreNlri V4 (uses_ids ids V4) f.withdrawn_routes ns → second ≡ first ++ ns)
    → ((ns : List NlriValue) → AreMpNlri ids f.unreach ns → third ≡ second ++ ns) → ((ns : List NlriValue) → AreNlri V4 (uses_ids ids V4) f.nlri ns → fourth ≡ third ++ ns)
    → ((ns : List NlriValue) → AreMpNlri ids f.reach ns → last ≡ fourth ++ ns) → (ns : List NlriValue) → ArePlaced ids (places f) ns → last ≡ first ++ ns
contained_are ids f first second third fourth last a b c d ns (gone, later, gone_are, others, e) =
    let q = placed_split ids (place_in f.unreach) (record { family = V4; prefixes = f.nlri } ∷ place_in f.reach) later others in
    let lost = q.0 in
    let rest = q.3 in
    let plain = rest.0 in
    let multi = rest.1 in
    let one : second ≡ first ++ gone = a gone gone_are in
    let two : third ≡ (first ++ gone) ++ lost = b lost (placed_in ids f.unreach lost q.2) ∙ ap (λ (l : List NlriValue). l ++ lost) one in
    let three : fourth ≡ ((first ++ gone) ++ lost) ++ plain = c plain rest.2 ∙ ap (λ (l : List NlriValue). l ++ plain) two in
    let four : last ≡ (((first ++ gone) ++ lost) ++ plain) ++ multi = d multi (placed_in ids f.reach multi rest.3) ∙ ap (λ (l : List NlriValue). l ++ multi) three in
    let whole : ns ≡ gone ++ (lost ++ (plain ++ multi)) = e ∙ ap (λ (l : List NlriValue). gone ++ l) (q.4 ∙ ap (λ (l : List NlriValue). lost ++ l) rest.4) in
    four ∙ append_assoc ((first ++ gone) ++ lost) plain multi ∙ append_assoc (first ++ gone) lost (plain ++ multi) ∙ append_assoc first gone (lost ++ (plain ++ multi)) ∙ ap (λ (l : List NlriValue). first ++ l) (sym whole)
