-- A message of a Loc-RIB of which nothing told: the lenient reading gives it some meaning, and that is of this peer
-- alone.
use Rattle.std.proofs.Common.{◌≡◌, ◌⊎◌, ℕ, eqb, Bool, true, false, cond, inl, inr, true≢false, not, ◌&&◌, List, [], ◌∷◌, ◌++◌, map, take, drop, eqb-true, Option, Some, None, refl, sym, subst}
use Rattle.std.specs.Prelude.{MatchOption}
use Rattle.std.specs.List.{AllByRecursion}
use Rattle.bmp_specs.specs.Conservative.{SpeaksOf}
use Rattle.bmp_specs.specs.LenientBody.{HasPeerLeniently, IsLenientUpdate, IsNoReport, IsOrphan, IsUnreadable, OfPeerLeniently, OfTypeLeniently, TellsRoutes, TellsStatistics, implied_up}
use Rattle.bmp_specs.specs.LenientState.{LenientState, is_untold, opens_for, with_shown}
use Rattle.bmp_specs.specs.MessageBody.{MessageType, ReadingState, route_monitoring, statistics_report}
use Rattle.bmp_specs.specs.MessageEffects.{effect_of, effects_of}
use Rattle.bmp_specs.specs.PeerHeader.{HeaderValue, header_size, key_of, view_of}
use Rattle.bmp_specs.specs.Statistics.{IsStatistics}
use Rattle.bmp_specs.specs.UpdateForms.{FormsValue}
use Rattle.bmp_specs.specs.Values.{EffectValue, KeyValue, MessageValue, NlriValue, OpensValue, StatisticsValue, StatValue, UpdateValue, announce, mark, orphan, passed, routes, statistic, statistics, unread, withdraw}
use Rattle.bmp_specs.proofs.LenientAgrees.{Agrees, AreOf, agrees_apart, agrees_still}
use Rattle.bmp_specs.proofs.LenientKeeps.{IsUntoldBody}
use Rattle.bmp_specs.proofs.OneHead.{header_one}

-- ---- effects of one peer
abbrev Speak : KeyValue → List EffectValue → Type 0
Speak key effects = AllByRecursion (SpeaksOf key) effects

join : (key : KeyValue) (a b : List EffectValue) → Speak key a → Speak key b → Speak key (a ++ b)
join key [] b p q = q
join key (e ∷ a) b p q = (p.0, join key a b p.1 q)

each : {V : Type 0} (key : KeyValue) (f : V → EffectValue) → ((v : V) → SpeaksOf key (f v)) → (vs : List V) → Speak key (map f vs)
each key f p [] = tt
each key f p (v ∷ vs) = (p v, each key f p vs)

some : {V : Type 0} (key : KeyValue) (f : V → EffectValue) → ((v : V) → SpeaksOf key (f v)) → (found : Option V) → Speak key (effect_of f found)
some key f p None = tt
some key f p (Some v) = (p v, tt)

counted : (key : KeyValue) (zero : Bool) (n : ℕ) → Speak key (cond zero [] (unread n ∷ []))
counted key true n = tt
counted key false n = (tt, tt)

routes_speak : (key : KeyValue) (view : _) (u : UpdateValue) → Speak key (effects_of (routes key view u))
routes_speak key view u = join key _ _ (join key _ _ (join key _ _ (join key _ _
    (each key (λ (n : NlriValue). withdraw key view n) (λ n. refl) u.withdrawn)
    (each key (λ (n : NlriValue). announce key view n u.plain_attrs) (λ n. refl) u.plain))
    (each key (λ (n : NlriValue). announce key view n u.multi_attrs) (λ n. refl) u.multi))
    (some key (λ family. mark key view family) (λ family. refl) u.mark))
    (counted key _ u.unread)

statistics_speak : (key : KeyValue) (s : StatisticsValue) → Speak key (effects_of (statistics key s))
statistics_speak key s = join key _ _ (each key (λ (stat : StatValue). statistic key stat) (λ stat. refl) s.stats) (counted key _ s.unread)

up_speaks : (found : Option OpensValue) (key : KeyValue) (h : HeaderValue) → Speak key (implied_up found key h)
up_speaks None key h = (refl, tt)
up_speaks (Some opens) key h = tt

-- ---- the meaning
-- the effects are one Orphan, or of this peer alone
pub record ReadsApart (before : List EffectValue) (s : ReadingState) (key : KeyValue) (effects : List EffectValue) (next : LenientState) : Type 0 where
  pub speaks : (effects ≡ orphan ∷ []) ⊎ Speak key effects
  pub agrees : Agrees (before ++ orphan ∷ []) s next

module _ (before : List EffectValue) (s : ReadingState) (t : LenientState) (agrees : Agrees before s t) (key : KeyValue) (untold : is_untold t key ≡ true) (h : HeaderValue) (rest : List ℕ) where
  other : (k : KeyValue) → AreOf k (orphan ∷ [])
  other k = (λ names. names, tt)

  orphan_apart : (effects : List EffectValue) (next : LenientState) → IsOrphan t effects next → ReadsApart before s key effects next
  orphan_apart effects next o = record {
    speaks = inl o.effects_are;
    agrees = subst (λ (x : LenientState). Agrees (before ++ orphan ∷ []) s x) (sym o.next_is) (agrees_still before s t agrees (orphan ∷ []) other);
  }

  routes_apart : (found : Option OpensValue) (effects : List EffectValue) (next : LenientState)
      → MatchOption found (IsOrphan t effects next) (λ opens. TellsRoutes t opens h key rest effects next ⊎ IsUnreadable t opens h key rest effects next) → ReadsApart before s key effects next
  routes_apart None effects next o = orphan_apart effects next o
  routes_apart (Some opens) effects next (inr p) = orphan_apart effects next p.orphaned
  routes_apart (Some opens) effects next (inl p) =
      let speaks = join key (implied_up (t.opens key) key h) (effects_of (routes key (view_of h) p.update)) (up_speaks (t.opens key) key h) (routes_speak key (view_of h) p.update) in
      record {
        speaks = inr (subst (λ (l : List EffectValue). Speak key l) (sym p.effects_are) speaks);
        agrees = subst (λ (x : LenientState). Agrees (before ++ orphan ∷ []) s x) (sym p.next_is) (agrees_apart before s t agrees (orphan ∷ []) key (view_of h) opens p.taken other untold);
      }

  reports_apart : (found : Option OpensValue) (effects : List EffectValue) (next : LenientState)
      → MatchOption found (IsOrphan t effects next) (λ opens. TellsStatistics t key rest effects next ⊎ IsNoReport t key rest effects next) → ReadsApart before s key effects next
  reports_apart None effects next o = orphan_apart effects next o
  reports_apart (Some opens) effects next (inr p) = orphan_apart effects next p.orphaned
  reports_apart (Some opens) effects next (inl p) = record {
    speaks = inr (subst (λ (l : List EffectValue). Speak key l) (sym p.effects_are) (statistics_speak key p.report));
    agrees = subst (λ (x : LenientState). Agrees (before ++ orphan ∷ []) s x) (sym p.next_is) (agrees_still before s t agrees (orphan ∷ []) other);
  }

  -- it isn't so that there is no meaning
  orphaned : IsOrphan t (orphan ∷ []) t
  orphaned = record { effects_are = refl; next_is = refl }

  routes_somehow : (found : Option OpensValue)
      → ((effects : List EffectValue) (next : LenientState) → ¬ (MatchOption found (IsOrphan t effects next) (λ opens. TellsRoutes t opens h key rest effects next ⊎ IsUnreadable t opens h key rest effects next))) → ⊥
  routes_somehow None none = none (orphan ∷ []) t orphaned
  routes_somehow (Some opens) none =
      let unreadable : (taken : FormsValue) (u : UpdateValue) → ¬ (IsLenientUpdate opens h rest (t.shown key (view_of h)) taken u) = λ taken u is.
      none (implied_up (t.opens key) key h ++ effects_of (routes key (view_of h) u)) (with_shown t key (view_of h) opens taken)
      (inl (record { taken = taken; update = u; is = is; effects_are = refl; next_is = refl })) in
      none (orphan ∷ []) t (inr (record { untold = untold; none = unreadable; orphaned = orphaned }))

  reports_somehow : (found : Option OpensValue)
      → ((effects : List EffectValue) (next : LenientState) → ¬ (MatchOption found (IsOrphan t effects next) (λ opens. TellsStatistics t key rest effects next ⊎ IsNoReport t key rest effects next))) → ⊥
  reports_somehow None none = none (orphan ∷ []) t orphaned
  reports_somehow (Some opens) none =
      let unreadable : (r : StatisticsValue) → ¬ (IsStatistics rest r) = λ r is. none (effects_of (statistics key r)) t (inl (record { report = r; is = is; effects_are = refl; next_is = refl })) in
      none (orphan ∷ []) t (inr (record { untold = untold; none = unreadable; orphaned = orphaned }))

module _ (before : List EffectValue) (s : ReadingState) (t : LenientState) (agrees : Agrees before s t) (body : List ℕ) (m : MessageValue) (after : ReadingState) where
  -- the peer of a lenient meaning is that of the message
  peer_of : (kind : MessageType) (o : IsUntoldBody kind t body m s after) (effects : List EffectValue) (next : LenientState) → HasPeerLeniently kind t body effects next
      → OfPeerLeniently kind t o.header o.key (drop header_size body) effects next
  peer_of kind o effects next p =
      let same : p.header ≡ o.header = header_one (take header_size body) p.header o.header p.is o.is_header in
      let moved = subst (λ (h : HeaderValue). MatchOption (key_of h) ((effects ≡ passed ∷ []) × (next ≡ t)) (λ key. OfPeerLeniently kind t h key (drop header_size body) effects next)) same p.means in
      subst (λ (found : Option KeyValue). MatchOption found ((effects ≡ passed ∷ []) × (next ≡ t)) (λ key. OfPeerLeniently kind t o.header key (drop header_size body) effects next)) o.key_is moved

  with_header : (kind : MessageType) (o : IsUntoldBody kind t body m s after) (effects : List EffectValue) (next : LenientState) → OfPeerLeniently kind t o.header o.key (drop header_size body) effects next
      → HasPeerLeniently kind t body effects next
  with_header kind o effects next p = record {
    header = o.header;
    is = o.is_header;
    means = subst (λ (found : Option KeyValue). MatchOption found ((effects ≡ passed ∷ []) × (next ≡ t)) (λ key. OfPeerLeniently kind t o.header key (drop header_size body) effects next)) (sym o.key_is) p;
  }

  pub untold_apart : (kind : MessageType) (o : IsUntoldBody kind t body m s after) (effects : List EffectValue) (next : LenientState) → OfTypeLeniently kind t body effects next
      → ReadsApart before s o.key effects next
  untold_apart route_monitoring o effects next p = routes_apart before s t agrees o.key o.message.untold o.header (drop header_size body) (opens_for t o.header o.key) effects next (peer_of route_monitoring o effects next p)
  untold_apart statistics_report o effects next p = reports_apart before s t agrees o.key o.message.untold o.header (drop header_size body) (t.opens o.key) effects next (peer_of statistics_report o effects next p)
  untold_apart _ o effects next p = absurd (elim o.message.type_is [ inl e ↦ cc | inr e ↦ cc ])

  pub untold_somehow : (kind : MessageType) → IsUntoldBody kind t body m s after → ((effects : List EffectValue) (next : LenientState) → ¬ (OfTypeLeniently kind t body effects next)) → ⊥
  untold_somehow route_monitoring o none = routes_somehow before s t agrees o.key o.message.untold o.header (drop header_size body) (opens_for t o.header o.key) (λ effects next p. none effects next (with_header route_monitoring o effects next p))
  untold_somehow statistics_report o none = reports_somehow before s t agrees o.key o.message.untold o.header (drop header_size body) (t.opens o.key) (λ effects next p. none effects next (with_header statistics_report o effects next p))
  untold_somehow _ o none = elim o.message.type_is [ inl e ↦ cc | inr e ↦ cc ]

loc_rib_of : (told : Bool) (kind : ℕ) → (not told && eqb kind 3) ≡ true → kind ≡ 3
loc_rib_of true kind e = absurd (true≢false (sym e))
loc_rib_of false kind e = eqb-true kind 3 e

-- a peer that wasn't told of is a Loc-RIB
pub untold_loc_rib : (t : LenientState) (key : KeyValue) → is_untold t key ≡ true → key.kind ≡ 3
untold_loc_rib t key e = loc_rib_of (t.told key) key.kind e
