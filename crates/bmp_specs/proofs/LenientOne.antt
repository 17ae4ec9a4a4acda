-- A body has one lenient meaning at most under a state, and leaves one state; so a stream is read leniently in one way.
use Rattle.std.proofs.Common.{◌≡◌, ℕ, ◌+◌, ◌⊎◌, Bool, true, false, true≢false, inl, inr, List, [], ◌∷◌, ◌++◌, length, take, drop, not, ◌&&◌, Option, Some, None, refl, sym, ap, ◌∙◌, subst}
use Rattle.std.specs.Prelude.{MatchOption}
use Rattle.bmp_specs.specs.declared.wire.Family.TheVariants.{V4, V6}
use Rattle.bmp_specs.specs.declared.wire.IdUse.{IdUse}
use Rattle.bmp_specs.specs.AddressFamily.{uses_ids}
use Rattle.bmp_specs.specs.FramedUpdate.{FitsFamily, FramedValue, IsFramed, PlaceValue, places}
use Rattle.bmp_specs.specs.LenientBody.{HasPeerLeniently, IsAsStrict, IsLenientUpdate, IsMalformed, IsNoReport, IsOrphan, IsReadInForms, IsUnreadable, OfPeerLeniently, OfTypeLeniently, TellsRoutes, TellsStatistics, implied_up, lenient}
use Rattle.bmp_specs.specs.LenientState.{LenientState, opens_for, with_shown, with_told}
use Rattle.bmp_specs.specs.Meaning.{IsExact}
use Rattle.bmp_specs.specs.MessageBody.{MessageType, id_use, message_type, initiation_message, peer_down_notification, peer_up_notification, route_mirroring, route_monitoring, statistics_report, termination_message, unassigned}
use Rattle.bmp_specs.specs.MessageEffects.{effects_of}
use Rattle.bmp_specs.specs.PeerHeader.{HeaderValue, header_size, key_of, view_of}
use Rattle.bmp_specs.specs.TreatAsWithdraw.{ArePlaced, IsTreatedAsWithdraw, withdrawal_of}
use Rattle.bmp_specs.specs.Update.{IsUpdate, passed_over}
use Rattle.bmp_specs.specs.UpdateForms.{FitsWidth, FormsValue, Takes, ids_in, width_in}
use Rattle.bmp_specs.specs.Values.{BgpMessageValue, DownInfoValue, EffectValue, KeyValue, MessageValue, NlriValue, OpensValue, PeerUpValue, StatisticsValue, UpdateValue, mirrored_routes, passed, peer_down, peer_up, routes, statistics}
use Rattle.bmp_specs.proofs.BgpMessageCode.{IsBgpMessage-one}
use Rattle.bmp_specs.proofs.BodiesOne.{IsMirroring-one, IsPeerDown-one, IsPeerUp-one, IsStatistics-one}
use Rattle.bmp_specs.proofs.FramedOne.{IsFramed-one}
use Rattle.bmp_specs.proofs.MessageOne.{of_type_one}
use Rattle.bmp_specs.proofs.NlriCode.{AreNlri-one}
use Rattle.bmp_specs.proofs.OneHead.{header_one, same_entry}
use Rattle.bmp_specs.proofs.UpdateOne.{IsUpdate-one}

-- one form is taken
pub takes_one : (Fits : Bool → Type 0) (last a b : Bool) → Takes Fits last a → Takes Fits last b → a ≡ b
takes_one Fits last true true p q = refl
takes_one Fits last false false p q = refl
takes_one Fits true true false p q = elim q.first [ inl e ↦ absurd (true≢false (sym e)) | inr misfit ↦ absurd (misfit p.fits) ]
takes_one Fits false true false p q = elim p.first [ inl e ↦ absurd (true≢false e) | inr misfit ↦ absurd (misfit q.fits) ]
takes_one Fits true false true p q = elim p.first [ inl e ↦ absurd (true≢false (sym e)) | inr misfit ↦ absurd (misfit q.fits) ]
takes_one Fits false false true p q = elim q.first [ inl e ↦ absurd (true≢false e) | inr misfit ↦ absurd (misfit p.fits) ]

placed_one : (ids : IdUse) (ps : List PlaceValue) (ns ms : List NlriValue) → ArePlaced ids ps ns → ArePlaced ids ps ms → ns ≡ ms
placed_one ids [] ns ms p q = p ∙ sym q
placed_one ids (place ∷ ps) ns ms (a, b, p, r, e) (c, d, q, s, f) =
    let here : a ≡ c = AreNlri-one place.family (uses_ids ids place.family) place.prefixes a c p q in
    let there : b ≡ d = placed_one ids ps b d r s in
    e ∙ (λ i. here i ++ there i) ∙ sym f

treated_one : (ids : IdUse) (f : FramedValue) (u v : UpdateValue) → IsTreatedAsWithdraw ids f u → IsTreatedAsWithdraw ids f v → u ≡ v
treated_one ids f u v p q =
    let same : p.contained ≡ q.contained = placed_one ids (places f) p.contained q.contained p.are q.are in
    p.is ∙ ap (λ (ns : List NlriValue). withdrawal_of ns (1 + (passed_over f.reach + passed_over f.unreach))) same ∙ sym q.is

-- an UPDATE message in the frame that it has
record IsInForms (opens : OpensValue) (h : HeaderValue) (body : List ℕ) (f : FramedValue) (last taken : FormsValue) (u : UpdateValue) : Type 0 where
  v4 : Takes (λ bare. FitsFamily f V4 (not bare && (id_use opens h).v4)) last.bare_v4 taken.bare_v4
  v6 : Takes (λ bare. FitsFamily f V6 (not bare && (id_use opens h).v6)) last.bare_v6 taken.bare_v6
  routes : IsReadInForms opens h body f last taken u ⊎ IsMalformed opens h f last taken u

module _ (opens : OpensValue) (h : HeaderValue) (last s t : FormsValue) (u v : UpdateValue) where
  same_forms : s.bare_v4 ≡ t.bare_v4 → s.bare_v6 ≡ t.bare_v6 → s.two_octets ≡ t.two_octets → s ≡ t
  same_forms a b c = λ i. record { bare_v4 = a i; bare_v6 = b i; two_octets = c i }

  routes_one : (body : List ℕ) (f : FramedValue) → s.bare_v4 ≡ t.bare_v4 → s.bare_v6 ≡ t.bare_v6 → IsReadInForms opens h body f last s u ⊎ IsMalformed opens h f last s u
      → IsReadInForms opens h body f last t v ⊎ IsMalformed opens h f last t v → (s ≡ t) × (u ≡ v)
  routes_one body f v4 v6 (inl p) (inl q) =
      let forms = same_forms v4 v6 (takes_one (FitsWidth opens h f.path_attributes) last.two_octets s.two_octets t.two_octets p.width q.width) in
      let is = subst (λ (x : FormsValue). IsUpdate (width_in opens h x.two_octets) (ids_in x (id_use opens h)) body u) forms p.is in
      (forms, IsUpdate-one (width_in opens h t.two_octets) (ids_in t (id_use opens h)) body u v is q.is)
  routes_one body f v4 v6 (inl p) (inr q) = absurd (q.none s.two_octets p.width.fits)
  routes_one body f v4 v6 (inr p) (inl q) = absurd (p.none t.two_octets q.width.fits)
  routes_one body f v4 v6 (inr p) (inr q) =
      let forms = same_forms v4 v6 (p.kept ∙ sym q.kept) in
      let withdraws = subst (λ (x : FormsValue). IsTreatedAsWithdraw (ids_in x (id_use opens h)) f u) forms p.withdraws in
      (forms, treated_one (ids_in t (id_use opens h)) f u v withdraws q.withdraws)

  forms_one : (body : List ℕ) (f : FramedValue) → IsInForms opens h body f last s u → IsInForms opens h body f last t v → (s ≡ t) × (u ≡ v)
  forms_one body f p q = routes_one body f
      (takes_one (λ bare. FitsFamily f V4 (not bare && (id_use opens h).v4)) last.bare_v4 s.bare_v4 t.bare_v4 p.v4 q.v4)
      (takes_one (λ bare. FitsFamily f V6 (not bare && (id_use opens h).v6)) last.bare_v6 s.bare_v6 t.bare_v6 p.v6 q.v6) p.routes q.routes

  pub IsLenientUpdate-one : (rest : List ℕ) → IsLenientUpdate opens h rest last s u → IsLenientUpdate opens h rest last t v → (s ≡ t) × (u ≡ v)
  IsLenientUpdate-one rest p q =
      let bodies : p.message.body ≡ q.message.body = ap (λ (m : BgpMessageValue). m.body) (IsBgpMessage-one rest p.message q.message p.is q.is) in
      let frames : p.framed ≡ q.framed = IsFramed-one q.message.body p.framed q.framed (subst (λ (l : List ℕ). IsFramed l p.framed) bodies p.frames) q.frames in
      let mine : IsInForms opens h p.message.body p.framed last s u = record { v4 = p.v4; v6 = p.v6; routes = p.routes } in
      let theirs : IsInForms opens h q.message.body q.framed last t v = record { v4 = q.v4; v6 = q.v6; routes = q.routes } in
      let moved = subst (λ (l : List ℕ). IsInForms opens h l p.framed last s u) bodies mine in
      forms_one q.message.body q.framed (subst (λ (f : FramedValue). IsInForms opens h q.message.body f last s u) frames moved) theirs

-- the effects of a message, and the state after it
record SameReading (a b : List EffectValue) (s t : LenientState) : Type 0 where
  effects : a ≡ b
  next : s ≡ t

module _ (state : LenientState) (a b : List EffectValue) (s t : LenientState) where
  orphans_one : IsOrphan state a s → IsOrphan state b t → SameReading a b s t
  orphans_one p q = record { effects = p.effects_are ∙ sym q.effects_are; next = p.next_is ∙ sym q.next_is }

  module _ (h : HeaderValue) (key : KeyValue) (rest : List ℕ) where
    told_one : (found : Option OpensValue)
        → MatchOption found (IsOrphan state a s) (λ opens. TellsRoutes state opens h key rest a s ⊎ IsUnreadable state opens h key rest a s)
        → MatchOption found (IsOrphan state b t) (λ opens. TellsRoutes state opens h key rest b t ⊎ IsUnreadable state opens h key rest b t) → SameReading a b s t
    told_one None p q = orphans_one p q
    told_one (Some opens) (inl p) (inl q) =
        let same = IsLenientUpdate-one opens h (state.shown key (view_of h)) p.taken q.taken p.update q.update rest p.is q.is in
        record {
          effects = p.effects_are ∙ ap (λ (u : UpdateValue). implied_up (state.opens key) key h ++ effects_of (routes key (view_of h) u)) same.1 ∙ sym q.effects_are;
          next = p.next_is ∙ ap (λ (f : FormsValue). with_shown state key (view_of h) opens f) same.0 ∙ sym q.next_is;
        }
    told_one (Some opens) (inl p) (inr q) = absurd (q.none p.taken p.update p.is)
    told_one (Some opens) (inr p) (inl q) = absurd (p.none q.taken q.update q.is)
    told_one (Some opens) (inr p) (inr q) = orphans_one p.orphaned q.orphaned

    reports_one : (found : Option OpensValue)
        → MatchOption found (IsOrphan state a s) (λ opens. TellsStatistics state key rest a s ⊎ IsNoReport state key rest a s)
        → MatchOption found (IsOrphan state b t) (λ opens. TellsStatistics state key rest b t ⊎ IsNoReport state key rest b t) → SameReading a b s t
    reports_one None p q = orphans_one p q
    reports_one (Some opens) (inl p) (inl q) = record {
      effects = p.effects_are ∙ ap (λ (r : StatisticsValue). effects_of (statistics key r)) (IsStatistics-one rest p.report q.report p.is q.is) ∙ sym q.effects_are;
      next = p.next_is ∙ sym q.next_is;
    }
    reports_one (Some opens) (inl p) (inr q) = absurd (q.none p.report p.is)
    reports_one (Some opens) (inr p) (inl q) = absurd (p.none q.report q.is)
    reports_one (Some opens) (inr p) (inr q) = orphans_one p.orphaned q.orphaned

    peers_one : (kind : MessageType) → OfPeerLeniently kind state h key rest a s → OfPeerLeniently kind state h key rest b t → SameReading a b s t
    peers_one route_monitoring p q = told_one (opens_for state h key) p q
    peers_one statistics_report p q = reports_one (state.opens key) p q
    peers_one peer_down_notification (d, p, x, i) (e, q, y, j) = record {
      effects = x ∙ ap (λ (v : DownInfoValue). effects_of (peer_down key v)) (IsPeerDown-one rest d e p q) ∙ sym y;
      next = i ∙ sym j;
    }
    peers_one peer_up_notification (u, p, x, i) (v, q, y, j) =
        let same : u ≡ v = IsPeerUp-one h rest u v p q in
        record {
          effects = x ∙ ap (λ (w : PeerUpValue). effects_of (peer_up key w)) same ∙ sym y;
          next = i ∙ ap (λ (w : PeerUpValue). with_told state key (Some (record { sent = w.info.sent; received = w.info.received }))) same ∙ sym j;
        }
    peers_one route_mirroring (m, p, x, i) (n, q, y, j) = record {
      effects = x ∙ ap (λ (c : ℕ). effects_of (mirrored_routes c)) (IsMirroring-one rest m n p q) ∙ sym y;
      next = i ∙ sym j;
    }
    peers_one initiation_message p q = absurd p
    peers_one termination_message p q = absurd p
    peers_one unassigned p q = absurd p

  keys_one : (found : Option KeyValue) (kind : MessageType) (h : HeaderValue) (rest : List ℕ)
      → MatchOption found ((a ≡ passed ∷ []) × (s ≡ state)) (λ key. OfPeerLeniently kind state h key rest a s)
      → MatchOption found ((b ≡ passed ∷ []) × (t ≡ state)) (λ key. OfPeerLeniently kind state h key rest b t) → SameReading a b s t
  keys_one None kind h rest p q = record { effects = p.0 ∙ sym q.0; next = p.1 ∙ sym q.1 }
  keys_one (Some key) kind h rest p q = peers_one h key rest kind p q

  headers_one : (kind : MessageType) (body : List ℕ) → HasPeerLeniently kind state body a s → HasPeerLeniently kind state body b t → SameReading a b s t
  headers_one kind body p q =
      let same : p.header ≡ q.header = header_one (take header_size body) p.header q.header p.is q.is in
      let moved = subst (λ (h : HeaderValue). MatchOption (key_of h) ((a ≡ passed ∷ []) × (s ≡ state)) (λ key. OfPeerLeniently kind state h key (drop header_size body) a s)) same p.means in
      keys_one (key_of q.header) kind q.header (drop header_size body) moved q.means

  strict_one : (kind : MessageType) (body : List ℕ) → IsAsStrict kind state body a s → IsAsStrict kind state body b t → SameReading a b s t
  strict_one kind body p q =
      let same = of_type_one kind state.opens body p.value q.value state.opens state.opens p.means q.means in
      record { effects = p.effects_are ∙ ap (λ (m : MessageValue). effects_of m) same.message ∙ sym q.effects_are; next = p.next_is ∙ sym q.next_is }

  types_one : (kind : MessageType) (body : List ℕ) → OfTypeLeniently kind state body a s → OfTypeLeniently kind state body b t → SameReading a b s t
  types_one initiation_message body p q = strict_one initiation_message body p q
  types_one termination_message body p q = strict_one termination_message body p q
  types_one unassigned body p q = strict_one unassigned body p q
  types_one route_monitoring body p q = headers_one route_monitoring body p q
  types_one statistics_report body p q = headers_one statistics_report body p q
  types_one peer_down_notification body p q = headers_one peer_down_notification body p q
  types_one peer_up_notification body p q = headers_one peer_up_notification body p q
  types_one route_mirroring body p q = headers_one route_mirroring body p q

-- the lenient meaning is exact
pub lenient_exact : IsExact lenient
lenient_exact s t u kind body e f p q =
    let same = types_one s p.effects q.effects t u (message_type kind) body p.means q.means in
    (p.entry_is ∙ same_entry kind body p.effects q.effects p.head q.head same.effects p.is_head q.is_head ∙ sym q.entry_is, same.next)
