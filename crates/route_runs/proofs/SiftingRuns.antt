-- The loops of a walk over the rows that pass a test: over the runs, and from row to row.
use Rattle.std.proofs.Common.{◌≡◌, ℕ, zero, suc, ◌<◌, ◌⊎◌, inl, inr, Bool, true, false, if◌then◌else◌, IfSome, List, [], ◌∷◌, ◌++◌, length, get_or, map, drop, set, option_to_list, Option, None, Some, MatchOption, refl, ap, sym, ◌∙◌, subst, arith}
use Rattle.std.specs.declared.cmp.Ordering.{Ordering}
use Rattle.std.specs.Cmp.{IsTotalOrder}
use Rattle.std.specs.List.{filter}
use Rattle.std.specs.Option.{is_some, option_map}
use Rattle.std.specs.Ordering.{is_lt}
use Rattle.std.proofs.lemmas.List.{get_or_default, length-map}
use Rattle.std.proofs.lemmas.Map.Lookups.{CmpEqualImpliesEq}
use Rattle.route_runs.specs.Cursor.{Walking, moved}
use Rattle.route_runs.specs.Override.{value_at}
use Rattle.route_runs.specs.Places.{is_after, IsFirst, IsFirstPair, IsPassed}
use Rattle.route_runs.specs.Runs.{contents, joined, latest, seen}
use Rattle.route_runs.specs.Sift.{front, key_at, lesser_spot, passing, sifted, AreEnded, AreNotBefore, AreSpots, IfFront, IsLeastFrom, IsSpot}
use Rattle.route_runs.specs.Walk.{left}
use Rattle.route_runs.proofs.Contents.{at_mapped, rising-contents, value-contents, value-joined}
use Rattle.route_runs.proofs.Left.{ended_on, walked_on}
use Rattle.route_runs.proofs.Searching.{after_trans, bools, fewer, first_ext, itself, less_is, not_both, tie}
use Rattle.route_runs.proofs.Sifting.{rising_sifted, value_sifted}
use Rattle.route_runs.proofs.SiftingRows.{drop_there}

number_at : (ns : List ℕ) (at : ℕ) → (drop at ns ≡ []) ⊎ (drop at ns ≡ get_or ns at 0 ∷ drop (suc at) ns)
number_at [] zero = inl refl
number_at [] (suc at) = inl refl
number_at (n ∷ ns) zero = inr refl
number_at (n ∷ ns) (suc at) = number_at ns at

drop_set : (ns : List ℕ) (at n : ℕ) → at < length ns → drop at (set ns at n) ≡ n ∷ drop (suc at) ns
drop_set [] at n lt = absurd (omega (arith, lt))
drop_set (m ∷ ns) zero n lt = refl
drop_set (m ∷ ns) (suc at) n lt = drop_set ns at n (omega (arith, lt))

-- a run that was read at its place
pub mapped_at : {X Y : Type 0} (f : X → List Y) (xs : List X) (i : ℕ) (x : X) → i < length xs → x ≡ get_or xs i x → get_or (map f xs) i [] ≡ f x
mapped_at f xs i x lt is = get_or_default (map f xs) i [] (f x) (let n = length-map xs f in omega (arith, lt, n)) ∙ at_mapped f xs i x ∙ ap f (sym is)

pub said_some : {A : Type 0} (v : Option (Option A)) → is_some (option_map (is_some {T = A}) v) ≡ true → (o : Option A) × (Some o ≡ v)
said_some None h = absurd cc
said_some (Some o) h = (o, refl)

pub said_none : {A : Type 0} (v : Option (Option A)) → is_some (option_map (is_some {T = A}) v) ≡ false → None ≡ v
said_none None h = refl
said_none (Some o) h = absurd cc

front_none : {X Y : Type 0} (f : X → Y) (xs : List X) → option_map f (front xs) ≡ None → xs ≡ []
front_none f [] e = refl
front_none f (x ∷ xs) e = absurd cc

front_if : {X Y : Type 0} (f : X → Y) (P : Y → Type 0) (xs : List X) → IfSome (option_map f (front xs)) P → IfFront (λ x. P (f x)) xs
front_if f P [] h = tt
front_if f P (x ∷ xs) h = h

module _ {K A : Type 0} (cmp : K → K → Ordering) (total : IsTotalOrder cmp) (exact : CmpEqualImpliesEq cmp) where
  ended_not_before : (q : K) (runs : List (List (K × Option A))) (ns : List ℕ) → AreEnded runs ns → AreNotBefore cmp q runs ns
  ended_not_before q [] ns a = tt
  ended_not_before q (run ∷ runs) [] a = tt
  ended_not_before q (run ∷ runs) (n ∷ ns) a = (subst (IfFront (λ (e : K × Option A). is_lt (cmp e.0 q) ≡ false)) (sym a.0) tt, ended_not_before q runs ns a.1)

  lesser_front : (p q : K) (rest : List (K × Option A)) → is_lt (cmp p q) ≡ true → IfFront (λ (e : K × Option A). is_lt (cmp e.0 q) ≡ false) rest → IfFront (λ (e : K × Option A). is_lt (cmp e.0 p) ≡ false) rest
  lesser_front p q [] less h = tt
  lesser_front p q (e ∷ es) less h = elim (bools (is_lt (cmp e.0 p))) [
    | inl l ↦ absurd (not_both (is_lt (cmp e.0 q)) (ap is_lt (total.trans e.0 p q (less_is _ l) (less_is _ less))) h)
    | inr m ↦ m
  ]

  lesser_not_before : (p q : K) (runs : List (List (K × Option A))) (ns : List ℕ) → is_lt (cmp p q) ≡ true → AreNotBefore cmp q runs ns → AreNotBefore cmp p runs ns
  lesser_not_before p q [] ns less b = tt
  lesser_not_before p q (run ∷ runs) [] less b = tt
  lesser_not_before p q (run ∷ runs) (n ∷ ns) less b = (lesser_front p q (drop n run) less b.0, lesser_not_before p q runs ns less b.1)

  module _ (runs : List (List (K × Option A))) (ns : List ℕ) (at : ℕ) (lt : at < length runs) where
    ended_more : key_at runs ns at ≡ None → AreEnded (drop (suc at) runs) (drop (suc at) ns) → AreEnded (drop at runs) (drop at ns)
    ended_more none rest = subst (λ l. AreEnded l (drop at ns)) (sym (drop_there runs at [] lt)) (elim (number_at ns at) [
      | inl e ↦ subst (AreEnded (get_or runs at [] ∷ drop (suc at) runs)) (sym e) tt
      | inr e ↦ subst (AreEnded (get_or runs at [] ∷ drop (suc at) runs)) (sym e) (front_none (λ (e : K × Option A). e.0) (drop (get_or ns at 0) (get_or runs at [])) none, rest)
    ])

    not_before_more : (q : K) → IfSome (key_at runs ns at) (λ k. is_lt (cmp k q) ≡ false) → AreNotBefore cmp q (drop (suc at) runs) (drop (suc at) ns) → AreNotBefore cmp q (drop at runs) (drop at ns)
    not_before_more q h rest = subst (λ l. AreNotBefore cmp q l (drop at ns)) (sym (drop_there runs at [] lt)) (elim (number_at ns at) [
      | inl e ↦ subst (AreNotBefore cmp q (get_or runs at [] ∷ drop (suc at) runs)) (sym e) tt
      | inr e ↦ subst (AreNotBefore cmp q (get_or runs at [] ∷ drop (suc at) runs)) (sym e) (front_if (λ (e : K × Option A). e.0) (λ k. is_lt (cmp k q) ≡ false) (drop (get_or ns at 0) (get_or runs at [])) h, rest)
    ])

    abbrev Least : ℕ → Option (ℕ × K) → Type 0
    Least from found = MatchOption found (AreEnded (drop from runs) (drop from ns)) (IsLeastFrom cmp runs ns from)

    least_by : (found : Option (ℕ × K)) (key : Option K) → key_at runs ns at ≡ key → Least (suc at) found → Least at (lesser_spot cmp found at key)
    least_by None None is f = ended_more is f
    least_by None (Some k) is f = record {
      within = lt;
      key = is;
      least = not_before_more k (subst (λ o. IfSome o (λ p. is_lt (cmp p k) ≡ false)) (sym is) (ap is_lt (itself cmp total exact k))) (ended_not_before k (drop (suc at) runs) (drop (suc at) ns) f);
    }
    least_by (Some found) None is f = record {
      within = f.within;
      key = f.key;
      least = not_before_more found.1 (subst (λ o. IfSome o (λ p. is_lt (cmp p found.1) ≡ false)) (sym is) tt) f.least;
    }
    least_by (Some found) (Some k) is f = by_test (is_lt (cmp k found.1)) refl
      where
        by_test : (t : Bool) → is_lt (cmp k found.1) ≡ t → Least at (if t then Some (at, k) else Some found)
        by_test true less = record {
          within = lt;
          key = is;
          least = not_before_more k (subst (λ o. IfSome o (λ p. is_lt (cmp p k) ≡ false)) (sym is) (ap is_lt (itself cmp total exact k))) (lesser_not_before k found.1 (drop (suc at) runs) (drop (suc at) ns) less f.least);
        }
        by_test false more = record {
          within = f.within;
          key = f.key;
          least = not_before_more found.1 (subst (λ o. IfSome o (λ p. is_lt (cmp p found.1) ≡ false)) (sym is) more) f.least;
        }

    pub least_step : (found found' : Option (ℕ × K)) (n : ℕ) → n ≡ suc at → found' ≡ lesser_spot cmp found at (key_at runs ns at) → MatchOption found (AreEnded (drop n runs) (drop n ns)) (IsLeastFrom cmp runs ns n) → MatchOption found' (AreEnded (drop at runs) (drop at ns)) (IsLeastFrom cmp runs ns at)
    least_step found found' n e is f = subst (Least at) (sym is) (least_by found (key_at runs ns at) refl (subst (λ n. Least n found) e f))

  module _ (test : A → Bool) where
    pub spots_more : (runs : List (List (K × Option A))) (ns : List ℕ) (at n m : ℕ) → m ≡ suc at → at < length runs → at < length ns → AreSpots cmp test None (drop m runs) (drop m ns) → IsSpot cmp test None (drop (suc at) runs) (get_or runs at []) n → AreSpots cmp test None (drop at runs) (drop at (set ns at n))
    spots_more runs ns at n m e lt short a s =
        subst (λ l. AreSpots cmp test None l (drop at (set ns at n))) (sym (drop_there runs at [] lt))
        (subst (AreSpots cmp test None (get_or runs at [] ∷ drop (suc at) runs)) (sym (drop_set ns at n short)) (s, subst (λ m. AreSpots cmp test None (drop m runs) (drop m ns)) e a))

    -- ---- from row to row
    some_of : (o : Option A) → is_some (passing test o) ≡ true → is_some o ≡ true
    some_of None h = h
    some_of (Some x) h = refl

    none_of : (o : Option A) → is_some o ≡ false → o ≡ None
    none_of None h = refl
    none_of (Some x) h = absurd cc

    seen_some : (o : Option (Option A)) (x : A) → seen o ≡ Some x → is_some o ≡ true
    seen_some None x e = absurd cc
    seen_some (Some p) x e = refl

    module _ (runs : List (List (K × Option A))) (place at : Option K) (s : IsPassed cmp (λ q. Some (passing test (seen (latest cmp q runs)))) place at) where
      pub rows_ended : IsFirst cmp (is_after cmp at) (λ q. seen (latest cmp q runs)) None → IsFirst cmp (is_after cmp place) (λ q. passing test (seen (latest cmp q runs))) None
      rows_ended f q beyond = elim (bools (is_after cmp at q)) [
        | inl after ↦ ap (passing test) (f q after)
        | inr early ↦ s.passed q beyond early
      ]

      module _ (e : K × A) (f : IsFirstPair cmp (is_after cmp at) (λ q. seen (latest cmp q runs)) e) where
        pub rows_found : test e.1 ≡ true → IsFirstPair cmp (is_after cmp place) (λ q. passing test (seen (latest cmp q runs))) e
        rows_found is = record {
          there = ap (passing test) f.there ∙ ap (λ (b : Bool). if b then Some e.1 else None) is;
          beyond = s.further e.0 f.beyond;
          first = λ q beyond has. elim (bools (is_after cmp at q)) [
            | inl after ↦ f.first q after (some_of (seen (latest cmp q runs)) has)
            | inr early ↦ absurd (not_both (is_some (passing test (seen (latest cmp q runs)))) has (ap is_some (s.passed q beyond early)))
          ];
        }

        pub rows_on : test e.1 ≡ false → IsPassed cmp (λ q. Some (passing test (seen (latest cmp q runs)))) place (Some e.0)
        rows_on fails = record {
          passed = λ q beyond before. elim (bools (is_after cmp at q)) [
            | inl after ↦ elim (bools (is_some (seen (latest cmp q runs)))) [
              | inl has ↦ ap (λ k. passing test (seen (latest cmp k runs))) (tie cmp total exact q e.0 (f.first q after has) before) ∙ ap (passing test) f.there ∙ ap (λ (b : Bool). if b then Some e.1 else None) fails
              | inr lacks ↦ ap (passing test) (none_of (seen (latest cmp q runs)) lacks)
            ]
            | inr early ↦ s.passed q beyond early
          ];
          further = λ q after. s.further q (after_trans cmp total at e.0 q f.beyond after);
        }

        pub rows_fewer : length (filter (λ (p : K × Option A). is_after cmp (Some e.0) p.0) (joined runs)) < length (filter (λ (p : K × Option A). is_after cmp at p.0) (joined runs))
        rows_fewer = fewer cmp exact (is_after cmp at) (is_after cmp (Some e.0)) e.0 (λ q after. after_trans cmp total at e.0 q f.beyond after) f.beyond (ap is_lt (itself cmp total exact e.0)) (joined runs)
            (ap is_some (value-joined cmp e.0 runs) ∙ seen_some (latest cmp e.0 runs) e.1 f.there)

    -- ---- the pairs that are left
    abbrev pub sifting : Option K → List (List (K × Option A)) → Walking K A
    sifting place runs = record { pairs = sifted test (contents cmp runs); place = place }

    module _ (runs : List (List (K × Option A))) (place : Option K) (l : List (K × A)) (r : Option (K × A)) (view : left cmp None (sifting place runs) ≡ l)
        (f : IsFirst cmp (is_after cmp place) (λ q. passing test (seen (latest cmp q runs))) r) where
      of_list : IsFirst cmp (is_after cmp place) (λ q. value_at cmp q (sifted test (contents cmp runs))) r
      of_list = first_ext cmp (is_after cmp place) (λ q. passing test (seen (latest cmp q runs))) (λ q. value_at cmp q (sifted test (contents cmp runs))) r
          (λ q. value_sifted cmp total exact test q (contents cmp runs) (rising-contents cmp total exact runs) ∙ ap (passing test) (value-contents cmp total exact q runs)) f

      pub sift_next : (place' : Option K) → place' ≡ moved place r → l ≡ option_to_list r ++ left cmp None (sifting place' runs)
      sift_next place' on = walked_on cmp total exact None (sifting place runs) (sifting place' runs) l r view refl (rising_sifted cmp total exact test (contents cmp runs) (rising-contents cmp total exact runs)) of_list on refl

      pub sift_ended : r ≡ None → l ≡ []
      sift_ended end = ended_on cmp total exact None (sifting place runs) l r view refl of_list end
