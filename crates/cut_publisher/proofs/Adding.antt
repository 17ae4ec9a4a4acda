-- The exchange that adds a step to the log keeps its rule.
use Rattle.std.proofs.Common.{◌≡◌, ℕ, ◌+◌, ◌<◌, ◌==◌, Bool, true, false, List, [], ◌∷◌, ◌++◌, length, refl, ap, sym, subst, arith, inl, length-append, None}
use Rattle.std.proofs.lemmas.List.{append-nil}
use Rattle.std.proofs.lemmas.Bool.Decides.{nat_tests}
use mathlib.Core.List.{IsPrefix}
use prog.Atomic.{either}
use Rattle.logbook.specs.Pages.{Cell, cell, keeps, no_nib, step, Moves, Goes}
use Rattle.cut_publisher.specs.declared.history.Step.{Step}
use Rattle.cut_publisher.specs.declared.history.Step.TheVariants.{Batch, End}
use Rattle.cut_publisher.proofs.Prefixes.{prefix_whole}
use Rattle.cut_publisher.specs.Logs.{Adds, IsKept, IsLog, IsOpen}

module _ {E : Type 0} where
  abbrev pub shown : List (Step E) → List (Step E)
  shown log = []

  abbrev pub moved : List (Step E) → List (Step E) → ℕ → Type 0
  moved xs ys n = Unit {0}

  -- a step may follow where the mark isn't there
  pub open_then : (log : List (Step E)) (e : Step E) → IsOpen log → IsLog (log ++ e ∷ [])
  open_then [] (Batch k es) fresh = tt
  open_then [] End fresh = refl
  open_then (Batch k es ∷ log) e fresh = open_then log e fresh
  open_then (End ∷ log) e fresh = absurd fresh

  -- what the exchange finds: the length of what was seen, and then the log has not gone on; or another
  pub adds_goes : (log v : List (Step E)) (e : Step E) (old : ℕ) → length v ≡ old → IsOpen v → IsLog log → IsPrefix v log
      → (b : Bool) → (length log == old) ≡ b
      → Goes IsKept shown moved 0 (v, (no_nib, None)) (λ n. either (n == old) (old + 1) n) (Adds (step 0 old (old + 1) e) (v, (no_nib, None))) ((length log, true) ∷ (0, true) ∷ []) log
  adds_goes log v e old len fresh marked pre true is =
      let here : length log ≡ old = grind (arith, nat_tests) in
      let same : log ≡ v = prefix_whole v log pre (omega arith) in
      let after : IsLog (log ++ e ∷ []) = subst (λ l. IsLog (l ++ e ∷ [])) (sym same) (open_then v e fresh) in
      let n : either (length log == old) (old + 1) (length log) ≡ length (log ++ e ∷ []) = rw is (omega (arith, here, length-append log (e ∷ []))) in (
        keeps,
        e ∷ [],
        None,
        tt,
        record { words = ap (λ (k : ℕ). (k, true) ∷ (0, true) ∷ []) n; marked = after },
        inl (refl, refl),
        rw is (ap (λ w. w ++ e ∷ []) same, after),
      )
  adds_goes log v e old len fresh marked pre false is =
      let all = append-nil log in
      let after : IsLog (log ++ []) = subst IsLog (sym all) marked in
      let n : either (length log == old) (old + 1) (length log) ≡ length (log ++ []) = rw is (ap length (sym all)) in (
        keeps,
        [],
        None,
        tt,
        record { words = ap (λ (k : ℕ). (k, true) ∷ (0, true) ∷ []) n; marked = after },
        inl (refl, refl),
        rw is after,
      )

  -- whatever the log is, the exchange adds the step to all that was seen, or finds that the log is longer
  pub adds_moves : (v : List (Step E)) (e : Step E) (old : ℕ) → length v ≡ old → IsOpen v
      → Moves IsKept shown moved 0 (v, (no_nib, None)) (λ n. either (n == old) (old + 1) n) (Adds (step 0 old (old + 1) e) (v, (no_nib, None)))
  adds_moves v e old len fresh cs log kept pre away =
      let Goal : List Cell → Type 0 = λ c. (0 < length c) × ((cell c 0).1 ≡ true) × Goes IsKept shown moved 0 (v, (no_nib, None)) (λ n. either (n == old) (old + 1) n) (Adds (step 0 old (old + 1) e) (v, (no_nib, None))) c log in
      subst Goal (sym kept.words) (omega arith, refl, adds_goes log v e old len fresh kept.marked pre (length log == old) refl)
