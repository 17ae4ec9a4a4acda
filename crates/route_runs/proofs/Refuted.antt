-- Wrong tables and walks, which the clauses of their calls refuse.
use Rattle.std.proofs.Common.{◌≡◌, ℕ, Bool, false, nat_eq, List, [], ◌∷◌, ◌++◌, take, replicate, length, Option, None, Some, option_to_list, ap, refl, arith, nat_cmp}
use Rattle.bmp_specs.specs.declared.wire.Family.TheVariants.{V4}
use Rattle.bmp_specs.specs.declared.wire.SegmentKind.TheVariants.{Sequence}
use Rattle.bmp_specs.specs.Values.{AttrsValue, NlriValue}
use Rattle.route_runs.specs.Origins.{with_origin}
use Rattle.route_runs.specs.Override.{value_at}
use Rattle.route_runs.specs.Places.{IsFirst, is_after}
use Rattle.route_runs.specs.Runs.{IsChanged, IsSettled, contents}
use Rattle.route_runs.specs.Sift.{sifted}

some_not_none : (n : ℕ) → Some n ≡ None → ⊥
some_not_none n e = absurd (cc)

same_value : (m n : ℕ) → Some m ≡ Some n → m ≡ n
same_value m n e = cc

-- two runs of a table: the oldest has the pair of 1, and the later one that of 2
abbrev two_runs : List (List (ℕ × Option ℕ))
two_runs = ((1, Some 7) ∷ []) ∷ ((2, Some 8) ∷ []) ∷ []

-- the pair of 1 is withdrawn
abbrev withdrawal : List (ℕ × Option ℕ)
withdrawal = (1, None) ∷ []

-- what it comes to with the later run, where the withdrawal is let go though the oldest run has the pair
abbrev merged_too_early : List (ℕ × Option ℕ)
merged_too_early = (2, Some 8) ∷ []

-- A merge lets a withdrawal go while an older run has the pair: the run doesn't stand for what it was made of.
a_withdrawal_stays_above_the_oldest_run : IsSettled nat_cmp two_runs withdrawal merged_too_early 1 → ⊥
a_withdrawal_stays_above_the_oldest_run s = some_not_none 7 (s.same 1)

-- And the pair is in the table again.
a_withdrawn_pair_does_not_come_back : IsChanged nat_cmp (contents nat_cmp two_runs) withdrawal (contents nat_cmp (take 1 two_runs ++ merged_too_early ∷ [])) → ⊥
a_withdrawn_pair_does_not_come_back c = some_not_none 7 (c.values 1)

-- Of a key that two runs have a walk gives the pair of the older run.
the_pair_of_the_older_run_is_not_given : IsFirst {K = ℕ} {A = ℕ} nat_cmp (is_after nat_cmp None) (λ q. value_at nat_cmp q (contents nat_cmp (((1, Some 7) ∷ []) ∷ ((1, Some 8) ∷ []) ∷ []))) (Some (1, 7)) → ⊥
the_pair_of_the_older_run_is_not_given f = omega (arith, same_value 8 7 f.there)

-- 10.0.0.0/8
abbrev ten : NlriValue
ten = record { prefix = record { address = record { family = V4; octets = 10 ∷ replicate 15 0 }; bits = 8 }; id = None }

-- the attributes of a route with this path
abbrev by_path : List ℕ → AttrsValue
by_path numbers = record { origin = Some 0; path = Some (record { kind = Sequence; numbers = numbers } ∷ []); hop = None; med = None; pref = None; atomic = false; aggregator = None; communities = []; others = [] }

-- a table with a route of AS 64500
abbrev of_64500 : List (NlriValue × AttrsValue)
of_64500 = (ten, by_path (64496 ∷ 64500 ∷ [])) ∷ []

a_row_of_the_origin_is_given : with_origin 64500 of_64500 ≡ of_64500
a_row_of_the_origin_is_given = refl

-- A walk over the routes of AS 0 gives a route of another origin: it is none of those that are left.
a_row_of_another_origin_is_not_given : (rest : List (NlriValue × AttrsValue)) → with_origin 0 of_64500 ≡ option_to_list (Some (ten, by_path (64496 ∷ 64500 ∷ []))) ++ rest → ⊥
a_row_of_another_origin_is_not_given rest e = omega (arith, ap length e)

-- whether a set passes
abbrev is_seven : ℕ → Bool
is_seven n = nat_eq n 7

-- two runs of a table: both keys of the oldest pass, and the later one overrides the first of them with a set that doesn't
abbrev overridden : List (List (ℕ × Option ℕ))
overridden = ((1, Some 7) ∷ (2, Some 7) ∷ []) ∷ ((1, Some 8) ∷ []) ∷ []

-- A walk over the pairs that pass gives one that a later run overrides.
an_overridden_row_is_not_given : (rest : List (ℕ × ℕ)) → sifted is_seven (contents nat_cmp overridden) ≡ option_to_list (Some (1, 7)) ++ rest → ⊥
an_overridden_row_is_not_given rest e = omega (arith, ap (λ (l : List (ℕ × ℕ)). first_key l) e)
  where
    first_key : List (ℕ × ℕ) → ℕ
    first_key [] = 0
    first_key (p ∷ ps) = p.0

-- It ends at a pair that fails, though one behind it passes.
a_row_that_fails_ends_nothing : sifted is_seven (contents nat_cmp (((1, Some 8) ∷ (2, Some 7) ∷ []) ∷ [])) ≡ [] → ⊥
a_row_that_fails_ends_nothing e = omega (arith, ap length e)

-- It gives a pair that fails.
a_row_that_fails_is_not_given : (rest : List (ℕ × ℕ)) → sifted is_seven (contents nat_cmp (((1, Some 8) ∷ []) ∷ [])) ≡ option_to_list (Some (1, 8)) ++ rest → ⊥
a_row_that_fails_is_not_given rest e = omega (arith, ap length e)
