-- UPDATE messages in the forms that are taken.
use Rattle.std.proofs.Common.{◌≡◌, ◌⊎◌, ℕ, ◌+◌, Bool, true, false, cond, not, ◌&&◌, inl, inr, List, [], ◌∷◌, ◌++◌, None, refl, sym, ap, subst, ◌∙◌}
use Rattle.bmp_specs.specs.declared.wire.Family.{Family}
use Rattle.bmp_specs.specs.declared.wire.Family.TheVariants.{V4, V6}
use Rattle.bmp_specs.specs.declared.wire.IdUse.{IdUse}
use Rattle.bmp_specs.specs.declared.wire.Side.{Side}
use Rattle.bmp_specs.specs.declared.wire.Side.TheVariants.{Inward, Outward, Local}
use Rattle.bmp_specs.specs.declared.wire.Width.{Width}
use Rattle.bmp_specs.specs.declared.wire.Width.TheVariants.{Two}
use Rattle.bmp_specs.specs.AddressFamily.{afi_of, unicast}
use Rattle.bmp_specs.specs.BgpMessage.{IsBgpMessage}
use Rattle.bmp_specs.specs.FramedUpdate.{FitsFamily, FramedValue, IsFramed}
use Rattle.bmp_specs.specs.LenientBody.{IsLenientUpdate, IsMalformed, IsReadInForms}
use Rattle.bmp_specs.specs.MessageBody.{IsRouteMonitoring, id_use, side_of, width_of}
use Rattle.bmp_specs.specs.PathIds.{uses_path_ids}
use Rattle.bmp_specs.specs.PeerHeader.{HeaderValue}
use Rattle.bmp_specs.specs.TreatAsWithdraw.{IsTreatedAsWithdraw, withdrawal_of}
use Rattle.bmp_specs.specs.Update.{IsUpdate, passed_over}
use Rattle.bmp_specs.specs.UpdateForms.{FitsWidth, FormsValue, Takes, as_agreed, departs, ids_in, width_in}
use Rattle.bmp_specs.specs.Values.{BgpMessageValue, CapValue, OpenValue, OpensValue, UpdateValue}
use Rattle.bmp_specs.proofs.BgpMessageCode.{IsBgpMessage-one}
use Rattle.bmp_specs.proofs.FramedOne.{IsFramed-one}
use Rattle.bmp_specs.proofs.LenientOne.{takes_one}
use Rattle.bmp_specs.proofs.LenientStrict.{lenient_update}
use Rattle.bmp_specs.proofs.UpdateOne.{UpdateFields, fields_one}
use Rattle.path_attrs.specs.Framed.{HasValueIn}
use Rattle.bgp_update.proofs.Withdrawing.{places_have}
use Rattle.bmp_message.specs.BodyForms.{IsBodyInForms, IsReadAsLast}
use Rattle.bmp_message.proofs.Choosing.{fits_in}
use Rattle.bmp_message.proofs.UpdateOf.{as_update, update_with}

-- ---- OPEN messages that agree on path identifiers for these families

abbrev entry_if : Bool → Family → List CapValue
entry_if true family = record { afi = afi_of family; safi = unicast; value = 3 } ∷ []
entry_if false family = []

abbrev speaker : Bool → Bool → OpenValue
speaker v4 v6 = record { version = 4; my_as = 0; hold = 0; identifier = []; four = None; families = []; paths = entry_if v4 V4 ++ entry_if v6 V6; extended = false }

abbrev agreeing : IdUse → OpensValue
agreeing ids = record { sent = speaker ids.v4 ids.v6; received = speaker ids.v4 ids.v6 }

agree : (v4 v6 : Bool) (side : Side) → (uses_path_ids (speaker v4 v6) (speaker v4 v6) V4 side ≡ v4) × (uses_path_ids (speaker v4 v6) (speaker v4 v6) V6 side ≡ v6)
agree true true Inward = (refl, refl)
agree true true Outward = (refl, refl)
agree true true Local = (refl, refl)
agree true false Inward = (refl, refl)
agree true false Outward = (refl, refl)
agree true false Local = (refl, refl)
agree false true Inward = (refl, refl)
agree false true Outward = (refl, refl)
agree false true Local = (refl, refl)
agree false false Inward = (refl, refl)
agree false false Outward = (refl, refl)
agree false false Local = (refl, refl)

-- ---- the body of the message

module _ (opens : OpensValue) (h : HeaderValue) (body : List ℕ) (last : FormsValue) where
  -- a value in the last forms
  pub in_last : (width : Width) (agreed ids : IdUse) → departs opens h last.two_octets ≡ false → width ≡ width_of h → agreed ≡ id_use opens h → ids ≡ ids_in last agreed
      → (u : UpdateValue) → IsUpdate width ids body u → IsReadAsLast opens h body last u
  in_last width agreed ids stays w a i u p =
      let used : ids ≡ ids_in last (id_use opens h) = i ∙ ap (λ (x : IdUse). ids_in last x) a in
      record { stays = stays; is = subst (λ (x : IdUse). IsUpdate (width_of h) x body u) used (subst (λ (x : Width). IsUpdate x ids body u) w p) }

  pub no_frame : ((f : FramedValue) → IsFramed body f → ⊥) → (taken : FormsValue) (u : UpdateValue) → IsBodyInForms opens h body last taken u → ⊥
  no_frame none taken u p = none p.framed p.frames

  module _ (f : FramedValue) (frames : IsFramed body f) (agreed : IdUse) (same : agreed ≡ id_use opens h) where
    pub no_v4 : ((bare : Bool) → FitsFamily f V4 (not bare && agreed.v4) → ⊥) → (taken : FormsValue) (u : UpdateValue) → IsBodyInForms opens h body last taken u → ⊥
    no_v4 none taken u p =
        none taken.bare_v4
        (subst (λ (x : IdUse). FitsFamily f V4 (not taken.bare_v4 && x.v4)) (sym same) (subst (λ (g : FramedValue). FitsFamily g V4 (not taken.bare_v4 && (id_use opens h).v4)) (IsFramed-one body p.framed f p.frames frames) p.v4.fits))

    pub no_v6 : ((bare : Bool) → FitsFamily f V6 (not bare && agreed.v6) → ⊥) → (taken : FormsValue) (u : UpdateValue) → IsBodyInForms opens h body last taken u → ⊥
    no_v6 none taken u p =
        none taken.bare_v6
        (subst (λ (x : IdUse). FitsFamily f V6 (not taken.bare_v6 && x.v6)) (sym same) (subst (λ (g : FramedValue). FitsFamily g V6 (not taken.bare_v6 && (id_use opens h).v6)) (IsFramed-one body p.framed f p.frames frames) p.v6.fits))

    module _ (a b : Bool) (v4 : Takes (λ bare. FitsFamily f V4 (not bare && agreed.v4)) last.bare_v4 a) (v6 : Takes (λ bare. FitsFamily f V6 (not bare && agreed.v6)) last.bare_v6 b) where
      pub taken_v4 : Takes (λ bare. FitsFamily f V4 (not bare && (id_use opens h).v4)) last.bare_v4 a
      taken_v4 = subst (λ (x : IdUse). Takes (λ bare. FitsFamily f V4 (not bare && x.v4)) last.bare_v4 a) same v4

      pub taken_v6 : Takes (λ bare. FitsFamily f V6 (not bare && (id_use opens h).v6)) last.bare_v6 b
      taken_v6 = subst (λ (x : IdUse). Takes (λ bare. FitsFamily f V6 (not bare && x.v6)) last.bare_v6 b) same v6

      module _ (w : Bool) (two : Takes (FitsWidth opens h f.path_attributes) last.two_octets w) (width : Width) (ids : IdUse) (is_width : width ≡ width_in opens h w)
          (is_ids : ids ≡ ids_in (record { bare_v4 = a; bare_v6 = b; two_octets = w }) agreed) where
        used : ids ≡ ids_in (record { bare_v4 = a; bare_v6 = b; two_octets = w }) (id_use opens h)
        used = is_ids ∙ ap (λ (x : IdUse). ids_in (record { bare_v4 = a; bare_v6 = b; two_octets = w }) x) same

        -- a value in the forms that fit
        pub in_fitting : (u : UpdateValue) → IsUpdate width ids body u → IsBodyInForms opens h body last (record { bare_v4 = a; bare_v6 = b; two_octets = w }) u
        in_fitting u p = record {
          framed = f;
          frames = frames;
          v4 = taken_v4;
          v6 = taken_v6;
          routes = inl (record {
            width = two;
            is = subst (λ (x : IdUse). IsUpdate (width_in opens h w) x body u) used (subst (λ (x : Width). IsUpdate x ids body u) is_width p);
          });
        }

        -- none in these, and so none in any
        pub not_fitting : ((u : UpdateValue) → IsUpdate width ids body u → ⊥) → (t : FormsValue) (u : UpdateValue) → IsBodyInForms opens h body last t u → ⊥
        not_fitting none t u p =
            let one : p.framed ≡ f = IsFramed-one body p.framed f p.frames frames in
            let four : t.bare_v4 ≡ a = takes_one (λ bare. FitsFamily f V4 (not bare && (id_use opens h).v4)) last.bare_v4 t.bare_v4 a
            (subst (λ (g : FramedValue). Takes (λ bare. FitsFamily g V4 (not bare && (id_use opens h).v4)) last.bare_v4 t.bare_v4) one p.v4) taken_v4 in
            let six : t.bare_v6 ≡ b = takes_one (λ bare. FitsFamily f V6 (not bare && (id_use opens h).v6)) last.bare_v6 t.bare_v6 b
            (subst (λ (g : FramedValue). Takes (λ bare. FitsFamily g V6 (not bare && (id_use opens h).v6)) last.bare_v6 t.bare_v6) one p.v6) taken_v6 in
            elim (subst (λ (g : FramedValue). IsReadInForms opens h body g last t u ⊎ IsMalformed opens h g last t u) one p.routes) [
              | inl q ↦
                  let octets : t.two_octets ≡ w = takes_one (FitsWidth opens h f.path_attributes) last.two_octets t.two_octets w q.width two in
                  let forms : t ≡ record { bare_v4 = a; bare_v6 = b; two_octets = w } = λ i. record { bare_v4 = four i; bare_v6 = six i; two_octets = octets i } in
                  let is = subst (λ (x : FormsValue). IsUpdate (width_in opens h x.two_octets) (ids_in x (id_use opens h)) body u) forms q.is in
                  none u (subst (λ (x : Width). IsUpdate x ids body u) (sym is_width) (subst (λ (x : IdUse). IsUpdate (width_in opens h w) x body u) (sym used) is))
              | inr q ↦ q.none w two.fits
            ]

      -- a value of the attributes in no width
      pub malformed : ((two_octets : Bool) → FitsWidth opens h f.path_attributes two_octets → ⊥) → (ids : IdUse) → ids ≡ ids_in (record { bare_v4 = a; bare_v6 = b; two_octets = last.two_octets }) agreed
          → (u : UpdateValue) → IsTreatedAsWithdraw ids f u → IsBodyInForms opens h body last (record { bare_v4 = a; bare_v6 = b; two_octets = last.two_octets }) u
      malformed none ids is_ids u p = record {
        framed = f;
        frames = frames;
        v4 = taken_v4;
        v6 = taken_v6;
        routes = inr (record {
          none = none;
          kept = refl;
          withdraws = subst (λ (x : IdUse). IsTreatedAsWithdraw x f u) (is_ids ∙ ap (λ (x : IdUse). ids_in (record { bare_v4 = a; bare_v6 = b; two_octets = last.two_octets }) x) same) p;
        });
      }

      -- and then its routes can be withdrawn
      pub withdrawn_so : ((two_octets : Bool) → FitsWidth opens h f.path_attributes two_octets → ⊥) → (u : UpdateValue) × IsBodyInForms opens h body last (record { bare_v4 = a; bare_v6 = b; two_octets = last.two_octets }) u
      withdrawn_so none =
          let p = places_have (ids_in (record { bare_v4 = a; bare_v6 = b; two_octets = last.two_octets }) agreed) f v4.fits v6.fits in
          let u : UpdateValue = withdrawal_of p.0 (1 + (passed_over f.reach + passed_over f.unreach)) in
          (u, malformed none (ids_in (record { bare_v4 = a; bare_v6 = b; two_octets = last.two_octets }) agreed) refl u (record { contained = p.0; are = p.1; is = refl }))

-- ---- the message

module _ (opens : OpensValue) (h : HeaderValue) (rest : List ℕ) (last : FormsValue) where
  pub no_message : ((body : List ℕ) → IsBgpMessage rest (update_with body) → ⊥) → (taken : FormsValue) (u : UpdateValue) → IsLenientUpdate opens h rest last taken u → ⊥
  no_message none taken u p = none p.message.body (as_update rest p.message p.is_update p.is)

  module _ (body : List ℕ) (is : IsBgpMessage rest (update_with body)) where
    pub of_body : (taken : FormsValue) (u : UpdateValue) → IsLenientUpdate opens h rest last taken u → IsBodyInForms opens h body last taken u
    of_body taken u p =
        let same : p.message.body ≡ body = ap (λ (m : BgpMessageValue). m.body) (IsBgpMessage-one rest p.message (update_with body) p.is is) in
        let here : IsBodyInForms opens h p.message.body last taken u = record { framed = p.framed; frames = p.frames; v4 = p.v4; v6 = p.v6; routes = p.routes } in
        subst (λ (l : List ℕ). IsBodyInForms opens h l last taken u) same here

    -- a value in the last forms, which has a frame as one by the RFCs of a peer that agreed on these path identifiers
    pub of_last : (u : UpdateValue) → IsReadAsLast opens h body last u → IsLenientUpdate opens h rest last last u
    of_last u p =
        let ids : IdUse = ids_in last (id_use opens h) in
        let both = agree ids.v4 ids.v6 (side_of h) in
        let used : ids ≡ id_use (agreeing ids) h = λ i. record { v4 = sym both.0 i; v6 = sym both.1 i } in
        let routes : IsRouteMonitoring (agreeing ids) h rest u = record { message = update_with body; is = is; is_update = refl; body_is = subst (λ (x : IdUse). IsUpdate (width_of h) x body u) used p.is } in
        let q : IsLenientUpdate (agreeing ids) h rest as_agreed as_agreed u = lenient_update (agreeing ids) h rest u routes in
        let f : FramedValue = q.framed in
        let same : q.message.body ≡ body = ap (λ (m : BgpMessageValue). m.body) (IsBgpMessage-one rest q.message (update_with body) q.is is) in
        let frames : IsFramed body f = subst (λ (l : List ℕ). IsFramed l f) same q.frames in
        let fields = fields_one body (p.is.withdrawn_routes, (p.is.path_attributes, p.is.nlri)) (f.withdrawn_routes, (f.path_attributes, f.nlri)) p.is.fields frames.fields in
        let has : HasValueIn (width_of h) p.is.path_attributes false = record { read = p.is.read; are = p.is.attributes; no_zero = tt } in
        let width : width_of h ≡ width_in opens h last.two_octets = sym (ap (λ (d : Bool). cond d Two (width_of h)) p.stays) in
        record {
          message = update_with body;
          is = is;
          is_update = refl;
          framed = f;
          frames = frames;
          v4 = record { fits = subst (λ (x : IdUse). FitsFamily f V4 x.v4) (sym used) q.v4.fits; first = inl refl };
          v6 = record { fits = subst (λ (x : IdUse). FitsFamily f V6 x.v6) (sym used) q.v6.fits; first = inl refl };
          routes = inl (record {
            width = record {
              fits = fits_in opens h f.path_attributes (width_of h) false last.two_octets width (sym p.stays) (subst (λ (l : List ℕ). HasValueIn (width_of h) l false) (ap (λ (x : UpdateFields). x.1.0) fields) has);
              first = inl refl;
            };
            is = subst (λ (x : Width). IsUpdate x ids body u) width p.is;
          });
        }
