-- What one more family makes of the families that were counted.
use Rattle.std.proofs.Common.{◌≡◌, ℕ, ◌+◌, ◌<◌, ◌≤◌, suc, Bool, true, false, cond, List, [], ◌∷◌, ◌++◌, length, map, refl, sym, ap, ◌∙◌, subst, arith, length-append}
use Rattle.std.specs.Prelude.{◌||◌, nat_le, count_by}
use Rattle.std.specs.List.{list_any}
use Rattle.std.proofs.lemmas.Bool.{cond-true, cond-false, or_left, or_right, or_from, or_parts, le-leb, lt-leb}
use Rattle.std.proofs.lemmas.List.{map-append}
use Rattle.bmp_specs.specs.Reply.{told_count}
use Rattle.bmp_specs.specs.Values.{FamilyCodeValue}
use Rattle.bmp_specs.proofs.ReplyCounts.{told_sum}
use Rattle.ask_specs.specs.Connection.{FamilyCountValue, family_counts, first_others, later_others, most_others, same_family}
use Rattle.stats_book.specs.Others.{OthersValue, counted, is_named, others_of}
use Rattle.stats_book.proofs.CountedNames.{uncounted}
use Rattle.stats_book.proofs.Families.{AreApart, are_first, count_pushed, first_pushed, first_time, is_later, known_counts, later_counts, pushed_counts, same_exact, same_itself, same_turned}

-- families with their counts
abbrev counts_in : List FamilyCodeValue → List FamilyCodeValue → List FamilyCountValue
counts_in all kept = map (λ f. record { family = f; count = told_count (count_by (same_family f) all) }) kept

-- the families of which the new one is none keep their counts
counts_stay : (all kept : List FamilyCodeValue) (f : FamilyCodeValue) → list_any (same_family f) kept ≡ false → counts_in (all ++ f ∷ []) kept ≡ counts_in all kept
counts_stay all [] f new = refl
counts_stay all (g ∷ gs) f new =
    let parts = or_parts (same_family f g) (list_any (same_family f) gs) new in
    let zero_here : cond {A = ℕ} (same_family g f) 1 0 ≡ 0 = ap (λ (b : Bool). cond {A = ℕ} b 1 0) (same_turned f g parts.0) in
    let count : count_by (same_family g) (all ++ f ∷ []) ≡ count_by (same_family g) all = omega (arith, count_pushed (same_family g) all f, zero_here) in
    let rest = counts_stay all gs f parts.1 in
    λ i. record { family = g; count = told_count (count i) } ∷ rest i

-- a family that is among them is counted
counts_known : (all kept : List FamilyCodeValue) (f : FamilyCodeValue) → AreApart kept → list_any (same_family f) kept ≡ true → counts_in (all ++ f ∷ []) kept ≡ counted f (counts_in all kept)
counts_known all [] f apart known = absurd cc
counts_known all (g ∷ gs) f apart known = go (same_family f g) refl known (counts_known all gs f apart.1)
  where
    go : (b : Bool) → same_family f g ≡ b → (b || list_any (same_family f) gs) ≡ true → (list_any (same_family f) gs ≡ true → counts_in (all ++ f ∷ []) gs ≡ counted f (counts_in all gs))
        → counts_in (all ++ f ∷ []) (g ∷ gs) ≡ cond b (record { family = g; count = told_count (told_count (count_by (same_family g) all) + 1) } ∷ counts_in all gs) (record { family = g; count = told_count (count_by (same_family g) all) } ∷ counted f (counts_in all gs))
    go true is k rest =
        let same : f ≡ g = same_exact f g is in
        let one_here : cond {A = ℕ} (same_family g f) 1 0 ≡ 1 = ap (λ (b : Bool). cond {A = ℕ} b 1 0) (subst (λ (h : FamilyCodeValue). same_family h f ≡ true) same (subst (λ (h : FamilyCodeValue). same_family f h ≡ true) (sym same) is)) in
        let more : count_by (same_family g) (all ++ f ∷ []) ≡ count_by (same_family g) all + 1 = omega (arith, count_pushed (same_family g) all f, one_here) in
        let count = ap told_count more ∙ sym (told_sum (count_by (same_family g) all) 1) in
        let stay = counts_stay all gs f (subst (λ (h : FamilyCodeValue). list_any (same_family h) gs ≡ false) (sym same) apart.0) in
        λ i. record { family = g; count = count i } ∷ stay i
    go false is k rest =
        let zero_here : cond {A = ℕ} (same_family g f) 1 0 ≡ 0 = ap (λ (b : Bool). cond {A = ℕ} b 1 0) (same_turned f g is) in
        let count : count_by (same_family g) (all ++ f ∷ []) ≡ count_by (same_family g) all = omega (arith, count_pushed (same_family g) all f, zero_here) in
        let others = rest k in
        λ i. record { family = g; count = told_count (count i) } ∷ others i

named_same : (all kept : List FamilyCodeValue) (f : FamilyCodeValue) → is_named f (counts_in all kept) ≡ list_any (same_family f) kept
named_same all [] f = refl
named_same all (g ∷ gs) f = ap (λ (b : Bool). same_family f g || b) (named_same all gs f)

counts_length : (all kept : List FamilyCodeValue) → length (counts_in all kept) ≡ length kept
counts_length all [] = refl
counts_length all (g ∷ gs) = ap suc (counts_length all gs)

-- with one more family
module _ (all : List FamilyCodeValue) (f : FamilyCodeValue) where
  abbrev kept : List FamilyCodeValue
  kept = first_others [] all

  families_more : told_count (length (all ++ f ∷ [])) ≡ told_count (told_count (length all) + 1)
  families_more = ap told_count (length-append all (f ∷ [])) ∙ sym (told_sum (length all) 1)

  -- that is among the first ones
  pub known_step : is_named f (others_of all).named ≡ true → others_of (all ++ f ∷ []) ≡ record { families = told_count ((others_of all).families + 1); named = counted f (others_of all).named; more = (others_of all).more }
  known_step named =
      let known : list_any (same_family f) kept ≡ true = sym (named_same all kept f) ∙ named in
      let same : first_others [] (all ++ f ∷ []) ≡ kept = first_pushed [] all f ∙ cond-true _ _ _ (or_left _ _ known) in
      let names : family_counts (all ++ f ∷ []) ≡ counted f (family_counts all) = ap (counts_in (all ++ f ∷ [])) same ∙ counts_known all kept f (are_first all).apart known in
      let more : later_others (all ++ f ∷ []) ≡ later_others all = ap (λ (k : List FamilyCodeValue). told_count (count_by (is_later k) (all ++ f ∷ []))) same ∙ ap told_count (known_counts all kept f known) in
      λ i. record { families = families_more i; named = names i; more = more i }

  -- that is new, with room among them
  pub new_step : is_named f (others_of all).named ≡ false → length (others_of all).named < most_others
      → others_of (all ++ f ∷ []) ≡ record { families = told_count ((others_of all).families + 1); named = (others_of all).named ++ record { family = f; count = 1 } ∷ []; more = (others_of all).more }
  new_step named room =
      let new : list_any (same_family f) kept ≡ false = sym (named_same all kept f) ∙ named in
      let free : nat_le most_others (length kept) ≡ false = lt-leb most_others (length kept) (omega (arith, room, counts_length all kept)) in
      let one : first_others [] (all ++ f ∷ []) ≡ kept ++ f ∷ [] = first_pushed [] all f ∙ cond-false _ _ _ (or_from _ _ new free) in
      let none = (are_first all).covers free in
      let itself : cond {A = ℕ} (same_family f f) 1 0 ≡ 1 = ap (λ (b : Bool). cond {A = ℕ} b 1 0) (same_itself f) in
      let first : told_count (count_by (same_family f) (all ++ f ∷ [])) ≡ 1 = omega (arith, count_pushed (same_family f) all f, itself, first_time all kept f new none) in
      let names : family_counts (all ++ f ∷ []) ≡ family_counts all ++ record { family = f; count = 1 } ∷ [] =
      ap (counts_in (all ++ f ∷ [])) one ∙ map-append _ kept (f ∷ []) ∙ (let stay = counts_stay all kept f new in λ i. stay i ++ record { family = f; count = first i } ∷ []) in
      let more : later_others (all ++ f ∷ []) ≡ later_others all =
      ap (λ (k : List FamilyCodeValue). told_count (count_by (is_later k) (all ++ f ∷ []))) one ∙ ap told_count (pushed_counts all kept f none ∙ sym none) in
      λ i. record { families = families_more i; named = names i; more = more i }

  -- that is new, without
  pub later_step : is_named f (others_of all).named ≡ false → most_others ≤ length (others_of all).named
      → others_of (all ++ f ∷ []) ≡ record { families = told_count ((others_of all).families + 1); named = (others_of all).named; more = told_count ((others_of all).more + 1) }
  later_step named full =
      let new : list_any (same_family f) kept ≡ false = sym (named_same all kept f) ∙ named in
      let taken : nat_le most_others (length kept) ≡ true = le-leb most_others (length kept) (omega (arith, full, counts_length all kept)) in
      let same : first_others [] (all ++ f ∷ []) ≡ kept = first_pushed [] all f ∙ cond-true _ _ _ (or_right _ _ taken) in
      let names : family_counts (all ++ f ∷ []) ≡ family_counts all = ap (counts_in (all ++ f ∷ [])) same ∙ counts_stay all kept f new in
      let more : later_others (all ++ f ∷ []) ≡ told_count (later_others all + 1) =
      ap (λ (k : List FamilyCodeValue). told_count (count_by (is_later k) (all ++ f ∷ []))) same ∙ ap told_count (later_counts all kept f new) ∙ sym (told_sum (count_by (is_later kept) all) 1) in
      λ i. record { families = families_more i; named = names i; more = more i }

-- the same of what was counted, with its parts as they were found: the list before and after the look for the family
module _ (old : OthersValue) (f : FamilyCodeValue) (families : ℕ) (before after : List FamilyCountValue) where
  pub takes_known : families ≡ told_count (old.families + 1) → before ≡ old.named → true ≡ is_named f before → after ≡ counted f before
      → (all : List FamilyCodeValue) → old ≡ others_of all → record { families = families; named = after; more = old.more } ≡ others_of (all ++ f ∷ [])
  takes_known more same found is all was =
      let named : is_named f (others_of all).named ≡ true = ap (λ (o : OthersValue). is_named f o.named) (sym was) ∙ ap (is_named f) (sym same) ∙ sym found in
      (let names = is ∙ ap (counted f) same in λ i. record { families = more i; named = names i; more = old.more })
      ∙ ap (λ (o : OthersValue). record { families = told_count (o.families + 1); named = counted f o.named; more = o.more }) was ∙ sym (known_step all f named)

  pub takes_new : families ≡ told_count (old.families + 1) → before ≡ old.named → false ≡ is_named f before → after ≡ counted f before → length old.named < most_others
      → (all : List FamilyCodeValue) → old ≡ others_of all → record { families = families; named = after ++ record { family = f; count = 1 } ∷ []; more = old.more } ≡ others_of (all ++ f ∷ [])
  takes_new more same found is room all was =
      let named : is_named f (others_of all).named ≡ false = ap (λ (o : OthersValue). is_named f o.named) (sym was) ∙ ap (is_named f) (sym same) ∙ sym found in
      (let names = is ∙ sym (uncounted f before (sym found)) ∙ same in λ i. record { families = more i; named = names i ++ record { family = f; count = 1 } ∷ []; more = old.more })
      ∙ ap (λ (o : OthersValue). record { families = told_count (o.families + 1); named = o.named ++ record { family = f; count = 1 } ∷ []; more = o.more }) was
      ∙ sym (new_step all f named (subst (λ (o : OthersValue). length o.named < most_others) was room))

  pub takes_later : (later : ℕ) → families ≡ told_count (old.families + 1) → before ≡ old.named → false ≡ is_named f before → after ≡ counted f before → most_others ≤ length old.named
      → later ≡ told_count (old.more + 1) → (all : List FamilyCodeValue) → old ≡ others_of all → record { families = families; named = after; more = later } ≡ others_of (all ++ f ∷ [])
  takes_later later more same found is full one_later all was =
      let named : is_named f (others_of all).named ≡ false = ap (λ (o : OthersValue). is_named f o.named) (sym was) ∙ ap (is_named f) (sym same) ∙ sym found in
      (let names = is ∙ sym (uncounted f before (sym found)) ∙ same in λ i. record { families = more i; named = names i; more = one_later i })
      ∙ ap (λ (o : OthersValue). record { families = told_count (o.families + 1); named = o.named; more = told_count (o.more + 1) }) was
      ∙ sym (later_step all f named (subst (λ (o : OthersValue). most_others ≤ length o.named) was full))
