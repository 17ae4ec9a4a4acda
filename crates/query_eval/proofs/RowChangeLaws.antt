-- The steps that are asked for as a list are those that are kept, and the next one is the first of them.
use Rattle.std.specs.Prelude.{MatchBool, if◌then◌else◌}
use Rattle.std.proofs.Common.{◌≡◌, ◌↔◌, ◌⊎◌, inl, inr, ℕ, zero, suc, ◌+◌, ◌-◌, ◌<◌, ◌≤◌, max, min, Bool, true, false, nat_lt, List, [], ◌∷◌, ◌++◌, length, drop, map, slice_get, Option, None, Some, arith, refl, sym, ap, ◌∙◌, subst, Decides}
use Rattle.std.specs.declared.cmp.Ordering.TheVariants.{Less}
use Rattle.std.specs.Ordering.{nat_cmp}
use Rattle.std.specs.List.{AllByRecursion, Contains}
use Rattle.std.specs.List.Sorted.{IsStrictlySortedBy}
use Rattle.std.proofs.lemmas.Bool.{cases_eq, cond_both, false≢true, ltb-true, ltb-false, lt-ltb}
use Rattle.std.proofs.lemmas.Bool.Decides.{nat_tests}
use Rattle.std.proofs.lemmas.Cmp.{nat_cmp_total}
use Rattle.std.proofs.lemmas.List.{drop-drop, length-map}
use Rattle.std.proofs.lemmas.Option.{slice_get_within}
use Rattle.ask_specs.specs.AskReply.{AreAskedChangeLines, IsAskedStep, told_change}
use Rattle.bmp_specs.specs.Changes.{ChangeValue, Concerns, oldest_kept}
use Rattle.bmp_specs.specs.ChangeLines.{steps_line, missed_lines}
use Rattle.bmp_specs.specs.Listed.{AreAll}
use Rattle.bmp_specs.specs.Orders.{prefix_cmp}
use Rattle.bmp_specs.specs.QueryReply.{most_told}
use Rattle.bmp_specs.specs.Steps.{steps_of}
use Rattle.bmp_specs.specs.Values.{EntryValue, PrefixValue, StepValue, opened_step, closed_step, up_step, down_step, announce_step, withdraw_step}
use Rattle.bmp_specs.proofs.ListedOne.{all_one, contains_cases, contains_first, contains_later}
use Rattle.bmp_specs.proofs.OrderLaws.{prefix_total, prefix_exact}
use Rattle.recent_ring.specs.Recent.{RecentValue, last_items, recent}
use Rattle.recent_ring.proofs.TwoParts.{slice_get-drop}
use Rattle.rib_model.specs.declared.step.Step.{Step}
use Rattle.rib_model.specs.Steps.{step_value}
use Rattle.route_watch.specs.Watch.{IsAsked, IsFirst, IsKeptChange}
use Rattle.route_watch.proofs.Kept.{asked_of, of_asked}
use Rattle.router_tables.specs.Tables.{TablesValue, StandsFor, steps_told}
use Rattle.query_eval.specs.RowChanges.{concerns, is_asked, changes_in, kept_changes, told_changes}
use Rattle.query_eval.proofs.RowDeciding.{same_decides}
use Rattle.query_eval.proofs.RowLists.{all_of}

concerns_decides : (p : PrefixValue) (step : StepValue) → Decides (concerns p step) (Concerns p step)
concerns_decides p opened_step = (λ _. tt, λ _. refl)
concerns_decides p (closed_step cause) = (λ _. tt, λ _. refl)
concerns_decides p (up_step key) = (λ _. tt, λ _. refl)
concerns_decides p (down_step key) = (λ _. tt, λ _. refl)
concerns_decides p (announce_step key view nlri route) = same_decides prefix_cmp prefix_total prefix_exact nlri.prefix p
concerns_decides p (withdraw_step key view nlri) = same_decides prefix_cmp prefix_total prefix_exact nlri.prefix p

asked_decides : (p : Option PrefixValue) (step : StepValue) → Decides (is_asked p step) (IsAsked p step)
asked_decides None step = (λ _. tt, λ _. refl)
asked_decides (Some p) step = concerns_decides p step

-- one of these steps, which are numbered on from a number, that is asked for
record IsIn (steps : List StepValue) (p : Option PrefixValue) (n : ℕ) (change : ChangeValue) : Type 0 where
  pub index : ℕ
  pub number_is : change.number ≡ n + index
  pub stands : slice_get steps index ≡ Some change.step
  pub asked : IsAsked p change.step

abbrev number : ChangeValue → ℕ
number change = change.number

later_number : (n m k : ℕ) → m ≡ suc n + k → nat_cmp n m ≡ Less
later_number n m k e = let less : n < m = omega (arith, e) in grind (arith, nat_tests, less)

module _ (step : StepValue) (steps : List StepValue) (p : Option PrefixValue) (n : ℕ) where
  abbrev head : ChangeValue
  head = record { number = n; step = step }

  in_later : (change : ChangeValue) → IsIn steps p (suc n) change → IsIn (step ∷ steps) p n change
  in_later change i = record { index = suc i.index; number_is = omega (arith, i.number_is); stands = i.stands; asked = i.asked }

  in_cases : (change : ChangeValue) → IsIn (step ∷ steps) p n change → (head ≡ change) ⊎ IsIn steps p (suc n) change
  in_cases change i = go i.index i.number_is i.stands
    where
      go : (k : ℕ) → change.number ≡ n + k → slice_get (step ∷ steps) k ≡ Some change.step → (head ≡ change) ⊎ IsIn steps p (suc n) change
      go zero at there = let same : step ≡ change.step = cc in let here : n ≡ change.number = omega (arith, at) in inl (λ j. record { number = here j; step = same j })
      go (suc k) at there = inr (record { index = k; number_is = omega (arith, at); stands = there; asked = i.asked })

none_ordered : IsStrictlySortedBy nat_cmp (map number [])
unfolding IsStrictlySortedBy
none_ordered = tt

head_ordered : (change : ChangeValue) (rest : List ChangeValue) → AllByRecursion (λ m. nat_cmp change.number m ≡ Less) (map number rest) → IsStrictlySortedBy nat_cmp (map number rest) → IsStrictlySortedBy nat_cmp (map number (change ∷ rest))
unfolding IsStrictlySortedBy
head_ordered change rest a s = (a, s)

module _ (step : StepValue) (steps : List StepValue) (p : Option PrefixValue) (n : ℕ) (rest : List ChangeValue) (are : AreAll number nat_cmp (IsIn steps p (suc n)) rest) where
  with_head : is_asked p step ≡ true → AreAll number nat_cmp (IsIn (step ∷ steps) p n) (head step steps p n ∷ rest)
  with_head t = record {
    ordered = head_ordered (head step steps p n) rest (all_of number (λ m. nat_cmp n m ≡ Less) rest (λ change c. let i = (are.exact change).0 c in later_number n change.number i.index i.number_is)) are.ordered;
    exact = λ change. (
      λ c. elim (contains_cases (head step steps p n) rest change c) [
        | inl is ↦ subst (IsIn (step ∷ steps) p n) is (record { index = 0; number_is = omega arith; stands = refl; asked = (asked_decides p step).0 t })
        | inr d ↦ in_later step steps p n change ((are.exact change).0 d)
      ],
      λ i. elim (in_cases step steps p n change i) [
        | inl is ↦ subst (Contains (head step steps p n ∷ rest)) is (contains_first (head step steps p n) rest)
        | inr j ↦ contains_later (head step steps p n) rest change ((are.exact change).1 j)
      ],
    );
  }

  without_head : is_asked p step ≡ false → AreAll number nat_cmp (IsIn (step ∷ steps) p n) rest
  without_head f = record {
    ordered = are.ordered;
    exact = λ change. (
      λ c. in_later step steps p n change ((are.exact change).0 c),
      λ i. elim (in_cases step steps p n change i) [
        | inl is ↦ absurd (false≢true (sym f ∙ (asked_decides p step).1 (subst (λ (x : ChangeValue). IsAsked p x.step) (sym is) i.asked)))
        | inr j ↦ (are.exact change).1 j
      ],
    );
  }

are_in : (steps : List StepValue) (p : Option PrefixValue) (n : ℕ) → AreAll number nat_cmp (IsIn steps p n) (changes_in steps p n)
are_in [] p n = record { ordered = none_ordered; exact = λ change. (λ c. absurd (omega (arith, c.1)), λ i. let none_there : None ≡ Some change.step = i.stands in absurd cc) }
are_in (step ∷ steps) p n =
    let are = are_in steps p (suc n) in
    let rest = changes_in steps p (suc n) in
    cond_both (is_asked p step) (head step steps p n ∷ rest) rest (AreAll number nat_cmp (IsIn (step ∷ steps) p n)) (with_head step steps p n rest are) (without_head step steps p n rest are)

-- in other words
as_others : (Is Other : ChangeValue → Type 0) (list : List ChangeValue) → ((change : ChangeValue) → Is change ↔ Other change) → AreAll number nat_cmp Is list → AreAll number nat_cmp Other list
as_others Is Other list same a = record { ordered = a.ordered; exact = λ change. (λ c. (same change).0 ((a.exact change).0 c), λ o. (a.exact change).1 ((same change).1 o)) }

-- ---- the changes of all steps
pub all_changes : (steps : List StepValue) (first : ℕ) (p : Option PrefixValue) → AreAll number nat_cmp (IsAskedStep p steps first) (changes_in (drop first steps) p first)
all_changes steps first p = as_others (IsIn (drop first steps) p first) (IsAskedStep p steps first) (changes_in (drop first steps) p first)
    (λ change. (
      λ i. asked_of p steps first change (omega (arith, i.number_is)) (ap (slice_get steps) i.number_is ∙ sym (slice_get-drop first steps i.index) ∙ i.stands) i.asked,
      λ c. let is = of_asked p steps first change c in
          let at : first + (change.number - first) ≡ change.number = omega (arith, is.0) in
          record { index = change.number - first; number_is = sym at; stands = slice_get-drop first steps (change.number - first) ∙ ap (slice_get steps) at ∙ is.1; asked = is.2 },
    ))
    (are_in (drop first steps) p first)

-- ---- the changes that are kept
module _ (ring : RecentValue Step) (p : Option PrefixValue) where
  pub kept_are : (from : ℕ) → AreAll number nat_cmp (IsKeptChange ring from p) (kept_changes (steps_told ring) from p)
  kept_are from =
      let oldest = oldest_kept ring.total in
      let items = (steps_told ring).items in
      as_others (IsIn (drop (from - oldest) items) p (max from oldest)) (IsKeptChange ring from p) (kept_changes (steps_told ring) from p)
      (λ change. (
        λ i. let at : change.number - oldest ≡ from - oldest + i.index = omega (arith, i.number_is) in
            record {
              later = omega (arith, i.number_is);
              kept = omega (arith, i.number_is);
              stands = ap (slice_get items) at ∙ sym (slice_get-drop (from - oldest) items i.index) ∙ i.stands;
              asked = i.asked;
            },
        λ c. let at : from - oldest + (change.number - max from oldest) ≡ change.number - oldest = omega (arith, c.later, c.kept) in
            record {
              index = change.number - max from oldest;
              number_is = omega (arith, c.later, c.kept);
              stands = slice_get-drop (from - oldest) items (change.number - max from oldest) ∙ ap (slice_get items) at ∙ c.stands;
              asked = c.asked;
            },
      ))
      (are_in (drop (from - oldest) items) p (max from oldest))

  -- a change that is kept has a number below that of the steps
  pub kept_below : (from : ℕ) (change : ChangeValue) → length ring.items ≡ min ring.total 1024 → IsKeptChange ring from p change → change.number < ring.total
  kept_below from change many k =
      let within : change.number - oldest_kept ring.total < length (steps_told ring).items = slice_get_within (steps_told ring).items (change.number - oldest_kept ring.total) change.step k.stands in
      omega (arith, within, length-map ring.items step_value, many, k.kept)

  some_one : (x y : StepValue) → Some x ≡ Some y → x ≡ y
  some_one x y e = cc

  -- the first change and those after it
  one_number : (from : ℕ) (a b : ChangeValue) → IsKeptChange ring from p a → IsKeptChange ring from p b → a.number ≡ b.number → a ≡ b
  one_number from a b i j same =
      let step : a.step ≡ b.step = some_one a.step b.step (sym i.stands ∙ ap (λ (n : ℕ). slice_get (steps_told ring).items (n - oldest_kept ring.total)) same ∙ j.stands) in
      λ k. record { number = same k; step = step k }

  behind_are : (from : ℕ) (f : ChangeValue) → IsFirst (IsKeptChange ring from p) (Some f) → AreAll number nat_cmp (IsKeptChange ring from p) (f ∷ kept_changes (steps_told ring) (f.number + 1) p)
  behind_are from f first =
      let rest = kept_changes (steps_told ring) (f.number + 1) p in
      let are = kept_are (f.number + 1) in
      record {
        ordered = head_ordered f rest (all_of number (λ m. nat_cmp f.number m ≡ Less) rest (λ change c. let k = (are.exact change).0 c in later_number f.number change.number (change.number - suc f.number) (omega (arith, k.later)))) are.ordered;
        exact = λ change. (
          λ c. elim (contains_cases f rest change c) [
            | inl is ↦ subst (IsKeptChange ring from p) is first.0
            | inr d ↦ let k = (are.exact change).0 d in record { later = omega (arith, k.later, first.0.later); kept = k.kept; stands = k.stands; asked = k.asked }
          ],
          λ k. elim (cases_eq f.number change.number) [
            | inl same ↦ subst (Contains (f ∷ rest)) (one_number from f change first.0 k same) (contains_first f rest)
            | inr other ↦ contains_later f rest change ((are.exact change).1 (record { later = omega (arith, other, first.1 change k); kept = k.kept; stands = k.stands; asked = k.asked }))
          ],
        );
      }

  pub next_kept : (from : ℕ) (f : ChangeValue) → IsFirst (IsKeptChange ring from p) (Some f) → kept_changes (steps_told ring) from p ≡ f ∷ kept_changes (steps_told ring) (f.number + 1) p
  next_kept from f first = all_one number nat_cmp nat_cmp_total (IsKeptChange ring from p) (kept_changes (steps_told ring) from p) (f ∷ kept_changes (steps_told ring) (f.number + 1) p) (kept_are from) (behind_are from f first)

  none_in : (l : List ChangeValue) → ((change : ChangeValue) → Contains l change → ⊥) → l ≡ []
  none_in [] none = refl
  none_in (x ∷ xs) none = absurd (none x (contains_first x xs))

  pub none_kept : (from : ℕ) → IsFirst (IsKeptChange ring from p) None → kept_changes (steps_told ring) from p ≡ []
  none_kept from none = none_in (kept_changes (steps_told ring) from p) (λ change c. none change (((kept_are from).exact change).0 c))

-- ---- the lines
module _ (full : Bool) (ring : RecentValue StepValue) (lane from : ℕ) (p : Option PrefixValue) where
  abbrev more_lines : List (List ℕ)
  more_lines = missed_lines from (oldest_kept ring.total) ++ map (told_change full lane) (kept_changes ring from p)

  pub told_all : ring.total < most_told → told_changes full ring lane from p ≡ steps_line lane ring.total ∷ more_lines
  told_all less = ap (λ (b : Bool). steps_line lane ring.total ∷ (if b then more_lines else [])) (lt-ltb ring.total most_told less)

module _ (full : Bool) (lane from : ℕ) (p : Option PrefixValue) (entries : List EntryValue) where
  abbrev steps : List StepValue
  steps = steps_of entries

  abbrev first : ℕ
  first = max from (oldest_kept (length steps))

  -- what is kept of all steps
  last_changes : length steps ≤ most_told → kept_changes (recent steps) from p ≡ changes_in (drop first steps) p first
  last_changes small =
      let total : min (length steps) most_told ≡ length steps = omega (arith, small) in
      let oldest = oldest_kept (length steps) in
      let there : oldest + (from - oldest) ≡ first = omega arith in
      ap (λ (n : ℕ). changes_in (drop (from - oldest_kept n) (last_items steps)) p (max from (oldest_kept n))) total
      ∙ ap (λ (l : List StepValue). changes_in l p first) (drop-drop (from - oldest) oldest steps ∙ ap (λ (n : ℕ). drop n steps) there)

  told_cases : (b : Bool) → nat_lt (length steps) most_told ≡ b → MatchBool b (told_changes full (recent steps) lane from p ≡ steps_line lane (length steps) ∷ (missed_lines from (oldest_kept (length steps)) ++ map (told_change full lane) (changes_in (drop first steps) p first))) (told_changes full (recent steps) lane from p ≡ steps_line lane most_told ∷ [])
  told_cases true t =
      let less : length steps < most_told = ltb-true (length steps) most_told t in
      let total : min (length steps) most_told ≡ length steps = omega (arith, less) in
      let kept = map (told_change full lane) (kept_changes (recent steps) from p) in
      ap (λ (n : ℕ). steps_line lane n ∷ (if nat_lt n most_told then missed_lines from (oldest_kept n) ++ kept else [])) total
      ∙ ap (λ (b : Bool). steps_line lane (length steps) ∷ (if b then missed_lines from (oldest_kept (length steps)) ++ kept else [])) t
      ∙ ap (λ (l : List ChangeValue). steps_line lane (length steps) ∷ (missed_lines from (oldest_kept (length steps)) ++ map (told_change full lane) l)) (last_changes (omega (arith, less)))
  told_cases false f =
      let more : most_told ≤ length steps = ltb-false (length steps) most_told f in
      let total : min (length steps) most_told ≡ most_told = omega (arith, more) in
      ap (λ (n : ℕ). steps_line lane n ∷ (if nat_lt n most_told then missed_lines from (oldest_kept n) ++ map (told_change full lane) (kept_changes (recent steps) from p) else [])) total

  pub change_lines : AreAskedChangeLines full lane entries from p (told_changes full (recent steps) lane from p)
  change_lines = record { known = changes_in (drop first steps) p first; are_known = all_changes steps first p; told = told_cases (nat_lt (length steps) most_told) refl }

  pub change_lines_one : (a b : List (List ℕ)) → AreAskedChangeLines full lane entries from p a → AreAskedChangeLines full lane entries from p b → a ≡ b
  change_lines_one a b x y = go (nat_lt (length steps) most_told) x.told y.told
    where
      known_one : x.known ≡ y.known
      known_one = all_one number nat_cmp nat_cmp_total (IsAskedStep p steps first) x.known y.known x.are_known y.are_known

      go : (t : Bool) → MatchBool t (a ≡ steps_line lane (length steps) ∷ (missed_lines from (oldest_kept (length steps)) ++ map (told_change full lane) x.known)) (a ≡ steps_line lane most_told ∷ [])
          → MatchBool t (b ≡ steps_line lane (length steps) ∷ (missed_lines from (oldest_kept (length steps)) ++ map (told_change full lane) y.known)) (b ≡ steps_line lane most_told ∷ []) → a ≡ b
      go true u v = u ∙ ap (λ (known : List ChangeValue). steps_line lane (length steps) ∷ (missed_lines from (oldest_kept (length steps)) ++ map (told_change full lane) known)) known_one ∙ sym v
      go false u v = u ∙ sym v

-- what the tables of a lane tell of its changes
pub tables_told : (full : Bool) (value : TablesValue) (ring : RecentValue Step) (lane from : ℕ) (p : Option PrefixValue) → steps_told ring ≡ value.steps → (entries : List EntryValue) → StandsFor value entries → AreAskedChangeLines full lane entries from p (told_changes full (steps_told ring) lane from p)
tables_told full value ring lane from p is entries stands =
    subst (λ (r : RecentValue StepValue). AreAskedChangeLines full lane entries from p (told_changes full r lane from p)) (sym (is ∙ stands.steps)) (change_lines full lane from p entries)

-- a lane has such lines
pub changes_there : (full : Bool) (lane : ℕ) (tables : TablesValue) (entries : List EntryValue) (from : ℕ) (prefix : Option PrefixValue) → StandsFor tables entries → (lines : List (List ℕ)) × AreAskedChangeLines full lane entries from prefix lines
changes_there full lane tables entries from prefix stands = (told_changes full (recent (steps_of entries)) lane from prefix, change_lines full lane from prefix entries)
