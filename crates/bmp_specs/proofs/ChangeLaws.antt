-- Changes of a prefix between two totals: asking again from the number of steps that was told misses nothing unsaid.
use Rattle.std.proofs.Common.{◌≡◌, ℕ, zero, suc, ◌+◌, ◌-◌, List, [], ◌∷◌, ◌++◌, length, sym, ◌∙◌, ap, arith}
use Rattle.std.specs.Prelude.{slice_get, max}
use Rattle.std.proofs.lemmas.Grind.{flat_map-append}
use Rattle.bmp_specs.specs.Changes.{ChangeValue, IsChange, AreChanges, IsLaterChange, AreLaterChanges, oldest_kept}
use Rattle.bmp_specs.specs.Steps.{steps_in, steps_of}
use Rattle.bmp_specs.specs.Values.{EntryValue, PrefixValue, StepValue}

-- what stands after the first of two lists
behind : {X : Type 0} (xs ys : List X) (k i : ℕ) → k ≡ length xs + i → slice_get (xs ++ ys) k ≡ slice_get ys i
behind [] ys k i e = let same : k ≡ i = omega arith in ap (slice_get ys) same
behind (x ∷ xs) ys zero i e = absurd (omega arith)
behind (x ∷ xs) ys (suc k) i e = behind xs ys k i (omega arith)

steps_joined : (before after : List EntryValue) → steps_of (before ++ after) ≡ steps_of before ++ steps_of after
steps_joined before after = flat_map-append steps_in before after

module _ (before after : List EntryValue) (prefix : PrefixValue) where
  later : (change : ChangeValue) → IsChange (steps_of (before ++ after)) (max (length (steps_of before)) (oldest_kept (length (steps_of (before ++ after))))) prefix change
      → IsLaterChange (length (steps_of before)) (oldest_kept (length (steps_of (before ++ after))) - length (steps_of before)) (steps_of after) prefix change
  later change c =
      let index = change.number - length (steps_of before) in
      let is : change.number ≡ length (steps_of before) + index = omega (arith, c.later) in
      record {
        index = index;
        number_is = is;
        kept = omega (arith, c.later);
        stands = sym (behind (steps_of before) (steps_of after) change.number index is) ∙ ap (λ (l : List StepValue). slice_get l change.number) (sym (steps_joined before after)) ∙ c.stands;
        concerns = c.concerns;
      }

  back : (change : ChangeValue) → IsLaterChange (length (steps_of before)) (oldest_kept (length (steps_of (before ++ after))) - length (steps_of before)) (steps_of after) prefix change
      → IsChange (steps_of (before ++ after)) (max (length (steps_of before)) (oldest_kept (length (steps_of (before ++ after))))) prefix change
  back change c = record {
    later = omega (arith, c.number_is, c.kept);
    stands = ap (λ (l : List StepValue). slice_get l change.number) (steps_joined before after) ∙ behind (steps_of before) (steps_of after) change.number c.index c.number_is ∙ c.stands;
    concerns = c.concerns;
  }

  -- the changes from the total of the earlier entries on are those of the later ones, past the steps that are missed
  pub changes_since : (changes : List ChangeValue) → AreChanges (before ++ after) (length (steps_of before)) prefix changes → AreLaterChanges before after prefix changes
  changes_since changes a = record { ordered = a.ordered; exact = λ c. (λ m. later c ((a.exact c).0 m), λ l. (a.exact c).1 (back c l)) }
