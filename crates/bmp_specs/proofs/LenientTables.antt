-- Where a strict walk doesn't break at a body, a lenient one of the same bytes leaves the same of every peer that is no
-- Loc-RIB.
use Rattle.std.proofs.Common.{◌≡◌, ◌↔◌, ◌⊎◌, ℕ, inl, inr, List, [], ◌∷◌, ◌++◌, length, flat_map, refl, sym, ap, ◌∙◌, subst, append-nil, append_assoc, arith}
use Rattle.std.specs.List.{AllByRecursion}
use mathlib.Core.Logic.Iff.{trans as then_iff}
use Rattle.bmp_specs.specs.declared.causes.Why.TheVariants.{Body}
use Rattle.bmp_specs.specs.declared.peers.View.{View}
use Rattle.bmp_specs.specs.declared.wire.Family.{Family}
use Rattle.bmp_specs.specs.Conservative.{AreReadAlike, IsReadAlike, LeaveSame, SpeaksOf, row_at}
use Rattle.bmp_specs.specs.LenientBody.{lenient}
use Rattle.bmp_specs.specs.Meaning.{WalksBy}
use Rattle.bmp_specs.specs.MessageEffects.{strict}
use Rattle.bmp_specs.specs.PeerHeader.{loc_rib}
use Rattle.bmp_specs.specs.PeerUp.{IsUp, Names}
use Rattle.bmp_specs.specs.Rows.{ReplacesRow, ReplacesStatistic}
use Rattle.bmp_specs.specs.Session.{effects_in}
use Rattle.bmp_specs.specs.Values.{EffectValue, EntryValue, KeyValue, StatValue, announce, down, mark, orphan, statistic, unread, up, withdraw}
use Rattle.bmp_specs.specs.Walk.{Verdict, broken}
use Rattle.bmp_specs.proofs.LenientWalks.{lenient_conservative}
use Rattle.bmp_specs.proofs.PeerLaws.{complete_kept, complete_step, down_kept, down_with_step, up_kept, up_with_step}
use Rattle.bmp_specs.proofs.RowLaws.{row_kept, row_step}
use Rattle.bmp_specs.proofs.StatisticLaws.{statistic_kept, statistic_step}

-- ---- one more effect, the same in both
one_step : {X Y N Q R E : Type 0} → X ↔ (N ⊎ (Q × ¬ E)) → Y ↔ (N ⊎ (R × ¬ E)) → Q ↔ R → X ↔ Y
one_step x y same = (
  λ p. y.1 (elim (x.0 p) [ inl n ↦ inl n | inr q ↦ inr (same.0 q.0, q.1) ]),
  λ p. x.1 (elim (y.0 p) [ inl n ↦ inl n | inr q ↦ inr (same.1 q.0, q.1) ]),
)

one_step_up : {X Y N U V Q R E : Type 0} → X ↔ ((N × U) ⊎ (Q × ¬ E)) → Y ↔ ((N × V) ⊎ (R × ¬ E)) → U ↔ V → Q ↔ R → X ↔ Y
one_step_up x y live same = (
  λ p. y.1 (elim (x.0 p) [ inl n ↦ inl (n.0, live.0 n.1) | inr q ↦ inr (same.0 q.0, q.1) ]),
  λ p. x.1 (elim (y.0 p) [ inl n ↦ inl (n.0, live.1 n.1) | inr q ↦ inr (same.1 q.0, q.1) ]),
)

module _ (key : KeyValue) where
  is_up : (a b : List EffectValue) → LeaveSame key a b → IsUp a key ↔ IsUp b key
  is_up a b same = (λ u. (u.0, (same.up u.0).0 u.1), λ u. (u.0, (same.up u.0).1 u.1))

  same_step : (a b : List EffectValue) (e : EffectValue) → LeaveSame key a b → LeaveSame key (a ++ e ∷ []) (b ++ e ∷ [])
  same_step a b e same = record {
    up = λ info. one_step (up_with_step a key e info) (up_with_step b key e info) (same.up info);
    down = λ info. one_step (down_with_step a key e info) (down_with_step b key e info) (same.down info);
    complete = λ view family. one_step_up (complete_step a key e view family) (complete_step b key e view family) (is_up a b same) (same.complete view family);
    statistic = λ stat. one_step_up (statistic_step a e key stat) (statistic_step b e key stat) (is_up a b same) (same.statistic stat);
    row = λ view nlri route. one_step_up (row_step a e (row_at key view nlri route)) (row_step b e (row_at key view nlri route)) (is_up a b same) (same.row view nlri route);
  }

  same_more : (a b more : List EffectValue) → LeaveSame key a b → LeaveSame key (a ++ more) (b ++ more)
  same_more a b [] same = rw (append-nil a, append-nil b) same
  same_more a b (e ∷ more) same = rw (← append_assoc a (e ∷ []) more, ← append_assoc b (e ∷ []) more) (same_more (a ++ e ∷ []) (b ++ e ∷ []) more (same_step a b e same))

  -- ---- effects of other peers
  Touches : EffectValue → Type 0
  Touches (up k info) = k ≡ key
  Touches (down k info) = k ≡ key
  Touches (announce k view n attrs) = k ≡ key
  Touches (withdraw k view n) = k ≡ key
  Touches (mark k view family) = k ≡ key
  Touches (statistic k stat) = k ≡ key
  Touches _ = ⊥

  names_touch : (e : EffectValue) → Names key e → Touches e
  unfolding Touches
  names_touch (up k info) p = p
  names_touch (down k info) p = p
  names_touch _ p = absurd p

  row_touches : (view : _) (nlri : _) (e : EffectValue) → ReplacesRow (record { key = key; view = view; nlri = nlri }) e → Touches e
  unfolding Touches
  row_touches view nlri (up k info) p = p
  row_touches view nlri (down k info) p = p
  row_touches view nlri (announce k v n attrs) p = p.0
  row_touches view nlri (withdraw k v n) p = p.0
  row_touches view nlri _ p = absurd p

  statistic_touches : (stat : StatValue) (e : EffectValue) → ReplacesStatistic key stat e → Touches e
  unfolding Touches
  statistic_touches stat (up k info) p = p
  statistic_touches stat (down k info) p = p
  statistic_touches stat (statistic k other) p = p.0
  statistic_touches stat _ p = absurd p

  mark_touches : (e : EffectValue) (view : View) (family : Family) → e ≡ mark key view family → Touches e
  unfolding Touches
  mark_touches e view family same = subst Touches (sym same) refl

  untouched_step : (es : List EffectValue) (e : EffectValue) → ¬ (Touches e) → LeaveSame key es (es ++ e ∷ [])
  untouched_step es e other =
      let unnamed : ¬ (Names key e) = λ n. other (names_touch e n) in
      record {
        up = λ info. up_kept es e key unnamed info;
        down = λ info. down_kept es e key unnamed info;
        complete = λ view family. complete_kept es e key unnamed view family (λ m. other (mark_touches e view family m.0));
        statistic = λ stat. statistic_kept es e key stat (λ r. other (statistic_touches stat e r));
        row = λ view nlri route. row_kept es e (row_at key view nlri route) (λ r. other (row_touches view nlri e r));
      }

  same_then : (a b c : List EffectValue) → LeaveSame key a b → LeaveSame key b c → LeaveSame key a c
  same_then a b c p q = record {
    up = λ info. then_iff (p.up info) (q.up info);
    down = λ info. then_iff (p.down info) (q.down info);
    complete = λ view family. then_iff (p.complete view family) (q.complete view family);
    statistic = λ stat. then_iff (p.statistic stat) (q.statistic stat);
    row = λ view nlri route. then_iff (p.row view nlri route) (q.row view nlri route);
  }

  back : {X Y : Type 0} → X ↔ Y → Y ↔ X
  back p = (p.1, p.0)

  same_back : (a b : List EffectValue) → LeaveSame key a b → LeaveSame key b a
  same_back a b p = record {
    up = λ info. back (p.up info);
    down = λ info. back (p.down info);
    complete = λ view family. back (p.complete view family);
    statistic = λ stat. back (p.statistic stat);
    row = λ view nlri route. back (p.row view nlri route);
  }

  same_itself : (a : List EffectValue) → LeaveSame key a a
  same_itself a = record {
    up = λ info. (λ x. x, λ x. x);
    down = λ info. (λ x. x, λ x. x);
    complete = λ view family. (λ x. x, λ x. x);
    statistic = λ stat. (λ x. x, λ x. x);
    row = λ view nlri route. (λ x. x, λ x. x);
  }

  untouched : (es more : List EffectValue) → AllByRecursion (λ e. ¬ (Touches e)) more → LeaveSame key es (es ++ more)
  untouched es [] all = rw (append-nil es) (same_itself es)
  untouched es (e ∷ more) all = rw (← append_assoc es (e ∷ []) more) (same_then es (es ++ e ∷ []) ((es ++ e ∷ []) ++ more) (untouched_step es e all.0) (untouched (es ++ e ∷ []) more all.1))

  -- what speaks of one peer touches no other
  speaks_apart : (other : KeyValue) (e : EffectValue) → ¬ (other ≡ key) → SpeaksOf other e → ¬ (Touches e)
  unfolding Touches
  speaks_apart other (up k info) apart p t = apart (sym p ∙ t)
  speaks_apart other (announce k view n attrs) apart p t = apart (sym p ∙ t)
  speaks_apart other (withdraw k view n) apart p t = apart (sym p ∙ t)
  speaks_apart other (mark k view family) apart p t = apart (sym p ∙ t)
  speaks_apart other (statistic k stat) apart p t = apart (sym p ∙ t)
  speaks_apart other (unread n) apart p t = t
  speaks_apart other _ apart p t = absurd p

  all_apart : (other : KeyValue) (es : List EffectValue) → ¬ (other ≡ key) → AllByRecursion (SpeaksOf other) es → AllByRecursion (λ e. ¬ (Touches e)) es
  all_apart other [] apart p = tt
  all_apart other (e ∷ es) apart p = (speaks_apart other e apart p.0, all_apart other es apart p.1)

  orphan_apart : AllByRecursion (λ e. ¬ (Touches e)) (orphan ∷ [])
  unfolding Touches
  orphan_apart = (λ t. t, tt)

  module _ (no_loc_rib : ¬ (key.kind ≡ loc_rib)) where
    -- one message
    same_entry : (before a b : List EffectValue) (e f : EntryValue) → IsReadAlike before e f → LeaveSame key a b → LeaveSame key (a ++ effects_in e) (b ++ effects_in f)
    same_entry before a b e f (inl alike) same = subst (λ (d : EntryValue). LeaveSame key (a ++ effects_in e) (b ++ effects_in d)) alike (same_more a b (effects_in e) same)
    same_entry before a b e f (inr p) same =
        let apart : ¬ (p.key ≡ key) = λ k. no_loc_rib (sym (ap (λ (j : KeyValue). j.kind) k) ∙ p.is_loc_rib) in
        let left = same_back a (a ++ orphan ∷ []) (untouched a (orphan ∷ []) orphan_apart) in
        let right = untouched b p.effects (all_apart p.key p.effects apart p.speaks) in
        let both = same_then (a ++ orphan ∷ []) a (b ++ p.effects) left (same_then a b (b ++ p.effects) same right) in
        let moved = subst (λ (d : EntryValue). LeaveSame key (a ++ effects_in d) (b ++ p.effects)) (sym p.strictly_is) both in
        subst (λ (d : EntryValue). LeaveSame key (a ++ effects_in e) (b ++ effects_in d)) (sym p.leniently_is) moved

    same_entries : (before a b : List EffectValue) (es fs : List EntryValue) → AreReadAlike before es fs → length fs ≡ length es → LeaveSame key a b
        → LeaveSame key (a ++ flat_map effects_in es) (b ++ flat_map effects_in fs)
    same_entries before a b [] [] alike many same = same_more a b [] same
    same_entries before a b [] (f ∷ fs) alike many same = absurd (omega (arith, many))
    same_entries before a b (e ∷ es) [] alike many same = absurd alike
    same_entries before a b (e ∷ es) (f ∷ fs) alike many same =
        rw (← append_assoc a (effects_in e) (flat_map effects_in es), ← append_assoc b (effects_in f) (flat_map effects_in fs))
        (same_entries (before ++ effects_in e) (a ++ effects_in e) (b ++ effects_in f) es fs alike.1 (omega (arith, many)) (same_entry before a b e f alike.0 same))

-- one stream: of a peer that is no Loc-RIB both readings leave the same
pub lenient_leaves_same : (bytes : List ℕ) (es fs : List EntryValue) (o p : ℕ) (v w : Verdict) → WalksBy strict bytes es o v → WalksBy lenient bytes fs p w → ¬ (v ≡ broken Body)
    → (key : KeyValue) → ¬ (key.kind ≡ loc_rib) → LeaveSame key (flat_map effects_in es) (flat_map effects_in fs)
lenient_leaves_same bytes es fs o p v w x y whole key other =
    let both = lenient_conservative bytes es fs o p v w x y in
    same_entries key other [] [] [] es fs both.alike (both.ends whole).as_many (same_itself key [])
