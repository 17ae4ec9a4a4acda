-- A cut of given lanes stands for each history whose parts they have.
use Rattle.std.proofs.Common.{◌≡◌, ◌≢◌, ℕ, ◌^◌, ◌<◌, ◌≤◌, cond, List, [], ◌∷◌, length, get_or, set, refl, ap, sym, ◌∙◌, subst, arith, length-set, eq-eqb, ne_eqb, get_or-set_other, get_or-set_same}
use Rattle.std.proofs.lemmas.List.Sums.{sum_by-set, sum_by-le}
use Rattle.std.specs.Prelude.{All}
use native.Mathlib.Decide.{ℕ_discrete}
use Rattle.cut_publisher.specs.declared.history.Event.{Event}
use Rattle.cut_publisher.specs.declared.history.Event.TheVariants.{Of, Finish}
use Rattle.cut_publisher.specs.History.{part, revision, IsWithin}
use Rattle.cut_publisher.specs.Cuts.{most_passes, total, Stands, IsCutOf}

module _ {E : Type 0} where
  part_same : (k : ℕ) (e : E) (h : List (Event E)) → part k (Of k e ∷ h) ≡ e ∷ part k h
  part_same k e h = ap (λ b. cond b (e ∷ part k h) (part k h)) (eq-eqb k k refl)

  part_other : (k j : ℕ) (e : E) (h : List (Event E)) → k ≢ j → part j (Of k e ∷ h) ≡ part j h
  part_other k j e h ne = ap (λ b. cond b (e ∷ part j h) (part j h)) (ne_eqb k j ne)

module _ {S E : Type 0} where
  -- each count is the length of the lane's part
  abbrev Counts : List (S × ℕ) → List (Event E) → Type 0
  Counts c h = (k : ℕ) (d : S × ℕ) → k < length c → (get_or c k d).1 ≡ length (part k h)

  -- with the first entry's lane one entry shorter, the counts are those of the rest
  counts_rest : (c : List (S × ℕ)) (k : ℕ) (e : E) (h : List (Event E)) (y : S × ℕ) → k < length c → y.1 ≡ length (part k h) → Counts c (Of k e ∷ h)
      → (j : ℕ) (d : S × ℕ) → j < length c → Dec (j ≡ k) → (get_or (set c k y) j d).1 ≡ length (part j h)
  counts_rest c k e h y lt n counts j d lt' (yes is) =
      ap (λ (i : ℕ). (get_or (set c k y) i d).1) is ∙ ap (λ (z : S × ℕ). z.1) (get_or-set_same c k y d lt) ∙ n ∙ ap (λ (i : ℕ). length (part i h)) (sym is)
  counts_rest c k e h y lt n counts j d lt' (no ne) =
      ap (λ (z : S × ℕ). z.1) (get_or-set_other c k j y d ne) ∙ counts j d lt' ∙ ap length (part_other k j e h (λ is. ne (sym is)))

  -- the sum of the counts is the revision
  total_is : (h : List (Event E)) (c : List (S × ℕ)) → IsWithin (length c) h → Counts c h → total c ≡ revision h
  total_is [] c within counts =
      let none = sum_by-le (λ (x : S × ℕ). x.1) 0 c (λ k d lt. omega (arith, counts k d lt)) in
      omega (arith, none)
  total_is (Finish ∷ h) c within counts = total_is h c within counts
  total_is (Of k e ∷ h) [] within counts = absurd (omega (arith, within.0))
  total_is (Of k e ∷ h) (x ∷ c) within counts =
      let all : List (S × ℕ) = x ∷ c in
      let y : S × ℕ = (x.0, length (part k h)) in
      let len : length (set all k y) ≡ length all = length-set all k y in
      let rest : total (set all k y) ≡ revision h = total_is h (set all k y) (subst (λ (n : ℕ). IsWithin n h) (sym len) within.1) (λ j d lt. counts_rest all k e h y within.0 refl counts j d (subst (λ (n : ℕ). j < n) len lt) (ℕ_discrete j k)) in
      let sums = sum_by-set (λ (x : S × ℕ). x.1) all k y y within.0 in
      omega (arith, rest, sums, counts k y within.0, ap length (part_same k e h))

module _ {S E : Type 0} (stands : S → List E → Type 0) where
  pub stands_given : (given c : List (S × ℕ)) → c ≡ given → length given ≤ most_passes → All (λ (x : S × ℕ). x.1 ≤ 2 ^ 57) given → IsCutOf stands given c
  stands_given given c is few room h within lanes =
      subst (λ (z : List (S × ℕ)). Stands stands z h) (sym is) (record {
        lanes = lanes;
        rev = total_is h given within (λ k d lt. (lanes k d lt).count);
        few = few;
        room = room;
      })
