-- What one more effect does to a complete table.
use Rattle.std.proofs.Common.{◌≡◌, ◌⊎◌, inl, inr, List, [], ◌∷◌, ◌++◌, refl, sym, ap, ◌∙◌, subst, append_assoc, arith}
use Rattle.std.specs.List.{AllByRecursion, Contains}
use Rattle.std.proofs.lemmas.List.Elements.{Contains-push, Contains-push_cases, Contains-append_left}
use Rattle.bmp_specs.specs.declared.wire.Family.{Family}
use Rattle.bmp_specs.specs.declared.peers.View.{View}
use Rattle.bmp_specs.specs.Complete.{IsComplete}
use Rattle.bmp_specs.specs.PeerUp.{Names, IsUpWith, IsUp}
use Rattle.bmp_specs.specs.Values.{KeyValue, PeerInfoValue, EffectValue, up, mark}
use Rattle.bmp_specs.proofs.LatestLaws.{EndCases, end_cases, all_front, all_push}

-- the last Up of a peer stays its last one after what doesn't name it
still_up : (es : List EffectValue) (e : EffectValue) (key : KeyValue) (info : PeerInfoValue) → ¬ (Names key e) → (l : IsUpWith es key info) → (m : IsUpWith (es ++ e ∷ []) key info) × (m.after ≡ l.after ++ e ∷ [])
still_up es e key info other l = (
  record {
    before = l.before;
    after = l.after ++ e ∷ [];
    split = ap (λ (xs : List EffectValue). xs ++ e ∷ []) l.split ∙ append_assoc l.before (up key info ∷ l.after) (e ∷ []);
    last = all_push (λ d. ¬ (Names key d)) l.after e l.last other;
  },
  refl,
)

-- a mark of a peer that is up completes its table
pub complete_now : (es : List EffectValue) (key : KeyValue) (view : View) (family : Family) → IsUp es key → IsComplete (es ++ mark key view family ∷ []) key view family
complete_now es key view family (info, l) =
    let m = still_up es (mark key view family) key info (λ n. n) l in
    record { info = info; up = m.0; marked = subst (λ (xs : List EffectValue). Contains xs (mark key view family)) (sym m.1) (Contains-push l.after (mark key view family)) }

pub complete_still : (es : List EffectValue) (e : EffectValue) (key : KeyValue) (view : View) (family : Family) → ¬ (Names key e) → IsComplete es key view family → IsComplete (es ++ e ∷ []) key view family
complete_still es e key view family other c =
    let m = still_up es e key c.info other c.up in
    record { info = c.info; up = m.0; marked = subst (λ (xs : List EffectValue). Contains xs (mark key view family)) (sym m.1) (Contains-append_left c.up.after (e ∷ []) (mark key view family) c.marked) }

-- a table was complete and this effect doesn't name its peer, or this effect is the mark of a peer that is up
pub complete_from : (es : List EffectValue) (e : EffectValue) (key : KeyValue) (view : View) (family : Family) → IsComplete (es ++ e ∷ []) key view family
    → ((e ≡ mark key view family) × IsUp es key) ⊎ (IsComplete es key view family × ¬ (Names key e))
complete_from es e key view family c = go (end_cases es c.up.before c.up.after e (up key c.info) c.up.split)
  where
    go : EndCases es c.up.before c.up.after e (up key c.info) → ((e ≡ mark key view family) × IsUp es key) ⊎ (IsComplete es key view family × ¬ (Names key e))
    go (inl (a, s, t)) = let none : Contains [] (mark key view family) = subst (λ (l : List EffectValue). Contains l (mark key view family)) a c.marked in absurd (omega (arith, none.1))
    go (inr (rest, a, s)) =
        let h = all_front (λ d. ¬ (Names key d)) rest e (subst (AllByRecursion (λ d. ¬ (Names key d))) a c.up.last) in
        let marked : Contains (rest ++ e ∷ []) (mark key view family) = subst (λ (l : List EffectValue). Contains l (mark key view family)) a c.marked in
        elim (Contains-push_cases rest e (mark key view family) marked) [
          | inl there ↦ inr (record { info = c.info; up = record { before = c.up.before; after = rest; split = s; last = h.0 }; marked = there }, h.1)
          | inr is ↦ inl (is, (c.info, record { before = c.up.before; after = rest; split = s; last = h.0 }))
        ]
