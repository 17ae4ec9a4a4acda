-- A ring with many items more, which are a piece of their own.
use Rattle.std.proofs.Common.{◌≡◌, ℕ, ◌+◌, ◌-◌, ◌^◌, ◌<◌, ◌≤◌, ◌⊎◌, inl, inr, min, List, [], ◌∷◌, ◌++◌, length, drop, sym, ap, ◌∙◌, subst, arith, append_assoc, append-nil, length-append, length-drop, drop-drop}
use Rattle.std.specs.declared.alloc.Global.{Global}
use Rattle.std.specs.declared.sync.Arc.{Arc}
use Rattle.std.specs.declared.vec.Vec.{Vec}
use Rattle.std.specs.List.{AllZip}
use Rattle.std.proofs.lemmas.Bool.{cases_lt}
use Rattle.std.proofs.lemmas.List.{drop-append-le}
use Rattle.std.proofs.lemmas.List.Elements.{length_all_zip}
use Rattle.std.proofs.Math.Seq.{drop-append-add}
use Rattle.recent_ring.specs.Recent.{RecentValue, IsCopy, joined, last_items, recent}
use Rattle.recent_ring.proofs.Joined.{needed_alone}
use Rattle.recent_ring.proofs.LastItems.{length-last_items}
use Rattle.recent_ring.proofs.TwoParts.{all_zip_append, all_zip_same, shared_copy}

module _ {X : Type 0} where
  -- the last items of a list are all that any more need
  pub last_items-append : (all more : List X) → last_items (last_items all ++ more) ≡ last_items (all ++ more)
  last_items-append all more =
      let n = length all - 1024 in
      let m = length (drop n all ++ more) - 1024 in
      let long : length (all ++ more) ≡ length all + length more = length-append all more in
      let cut : length (drop n all ++ more) ≡ (length all - n) + length more = length-append (drop n all) more ∙ ap (λ (k : ℕ). k + length more) (length-drop n all) in
      let whole : n + m ≡ length (all ++ more) - 1024 = omega arith in
      ap (drop m) (sym (drop-append-le n all more (omega arith))) ∙ drop-drop m n (all ++ more) ∙ ap (λ (k : ℕ). drop k (all ++ more)) whole

  -- where there are many more, nothing else is among the last ones
  pub last_of : (front more : List X) → 1024 ≤ length more → last_items (front ++ more) ≡ last_items more
  last_of front more long =
      let whole : length (front ++ more) ≡ length front + length more = length-append front more in
      let n : length (front ++ more) - 1024 ≡ length front + (length more - 1024) = omega arith in
      ap (λ (k : ℕ). drop k (front ++ more)) n ∙ drop-append-add front more (length more - 1024)

  -- with items that were passed over in front of as many
  pub last_of_passed : (all passed more : List X) → (length passed ≡ 0) ⊎ (1024 ≤ length more) → last_items (all ++ passed ++ more) ≡ last_items (all ++ more)
  last_of_passed all [] more h = ap (λ (l : List X). last_items (l ++ more)) (append-nil all)
  last_of_passed all (x ∷ xs) more (inl none) = absurd (omega arith)
  last_of_passed all (x ∷ xs) more (inr long) = last_of (all ++ x ∷ xs) more long ∙ sym (last_of all more long)

module _ {T : Type 0} (R : T → T → Type 0) (same : (x : T) → R x x) where
  pub all_more : (front more back : List T) → 1024 ≤ length more → back ≡ more → AllZip R (last_items (front ++ more)) (last_items back)
  all_more front more back long is = subst (λ (l : List T). AllZip R (last_items (front ++ more)) l) (last_of front more long ∙ ap (λ (l : List T). last_items l) (sym is)) (all_zip_same R same (last_items (front ++ more)))

  -- the pieces that are needed, one of the newer items, and more items behind them
  pub front_copy : (ps : List (Arc (Vec T Global) Global)) (ys zs items more front : List T) (first left : ℕ) → (first ≡ 0) ⊎ (left ≤ length (joined (drop first ps))) → 1024 ≤ (left + length ys) + length more
      → last_items (joined ps ++ ys) ≡ items → AllZip R ys zs → front ≡ joined (drop first ps) ++ zs → AllZip R (last_items (items ++ more)) (last_items (front ++ more))
  front_copy ps ys zs items more front first left enough long seen alike is =
      let rest = joined (drop first ps) in
      let need : (first ≡ 0) ⊎ (1024 - length (ys ++ more) ≤ length rest) = elim enough [
        | inl none ↦ inl none
        | inr e ↦ inr (omega (arith, e, long, length-append ys more))
      ] in
      let whole : last_items (items ++ more) ≡ last_items (joined ps ++ (ys ++ more)) =
      ap (λ (l : List T). last_items (l ++ more)) (sym seen) ∙ last_items-append (joined ps ++ ys) more ∙ ap (λ (l : List T). last_items l) (append_assoc (joined ps) ys more) in
      let copy : AllZip R (last_items (items ++ more)) (last_items (rest ++ (zs ++ more))) =
      shared_copy R same rest (ys ++ more) (zs ++ more) (last_items (items ++ more)) (needed_alone ps (ys ++ more) first need ∙ sym whole) (all_zip_append R ys zs more more alike (all_zip_same R same more)) in
      subst (λ (l : List T). AllZip R (last_items (items ++ more)) (last_items l)) (sym (ap (λ (l : List T). l ++ more) is ∙ append_assoc rest zs more)) copy

  pub none_alike : (ys : List T) → length ys ≡ 0 → AllZip R ys []
  none_alike [] none = tt
  none_alike (y ∷ ys) none = absurd (omega arith)

  -- how many they are
  pub length_copy : (items more copy : List T) (was total passed : ℕ) → AllZip R (last_items (items ++ more)) copy → length items ≡ min was 1024
      → (1024 ≤ length more → total ≡ min (was + passed + length more) (2 ^ 64 - 1)) → (length more < 1024 → total ≡ min (was + length more) (2 ^ 64 - 1)) → length copy ≡ min total 1024
  length_copy items more copy was total passed alike long many few =
      let n : length (last_items (items ++ more)) ≡ length copy = length_all_zip R (last_items (items ++ more)) copy alike in
      let k : length (last_items (items ++ more)) ≡ min (length (items ++ more)) 1024 = length-last_items (items ++ more) in
      let s : length (items ++ more) ≡ length items + length more = length-append items more in
      by_count n k s
    where
      by_count : length (last_items (items ++ more)) ≡ length copy → length (last_items (items ++ more)) ≡ min (length (items ++ more)) 1024 → length (items ++ more) ≡ length items + length more → length copy ≡ min total 1024
      by_count n k s = elim (cases_lt (length more) 1024) [
        | inl short ↦ let t = few short in omega (arith, t, n, k, s, long)
        | inr enough ↦ let t = many (omega (arith, enough)) in omega (arith, t, n, k, s, long)
      ]

  -- the ring of a list with the others
  pub copy_of_all : (now ring : RecentValue T) (all passed more : List T) (count : ℕ) → AllZip R (last_items (now.items ++ more)) ring.items
      → (1024 ≤ length more → ring.total ≡ min (now.total + count + length more) (2 ^ 64 - 1)) → (length more < 1024 → ring.total ≡ min (now.total + length more) (2 ^ 64 - 1))
      → now ≡ recent all → length passed ≡ count → (count ≡ 0) ⊎ (1024 ≤ length more) → IsCopy R (recent (all ++ passed ++ more)) ring
  copy_of_all now ring all passed more count alike many few is long h =
      let before : now.total ≡ min (length all) (2 ^ 64 - 1) = ap (λ (r : RecentValue T). r.total) is in
      let sum : length (all ++ passed ++ more) ≡ length all + (length passed + length more) = ap (λ (l : List T). length l) (append_assoc all passed more) ∙ length-append all (passed ++ more) ∙ ap (λ (k : ℕ). length all + k) (length-append passed more) in
      let kind : (length passed ≡ 0) ⊎ (1024 ≤ length more) = elim h [ inl none ↦ inl (long ∙ none) | inr enough ↦ inr enough ] in
      let items : last_items (now.items ++ more) ≡ last_items (all ++ passed ++ more) = ap (λ (r : RecentValue T). last_items (r.items ++ more)) is ∙ last_items-append all more ∙ sym (last_of_passed all passed more kind) in
      record { total = total before sum; items = subst (λ (l : List T). AllZip R l ring.items) items alike }
    where
      total : now.total ≡ min (length all) (2 ^ 64 - 1) → length (all ++ passed ++ more) ≡ length all + (length passed + length more) → ring.total ≡ min (length (all ++ passed ++ more)) (2 ^ 64 - 1)
      total before sum = elim (cases_lt (length more) 1024) [
        | inl short ↦ let t = few short in elim h [
          | inl none ↦ omega (arith, t, before, sum, long, none)
          | inr enough ↦ absurd (omega (arith, short, enough))
        ]
        | inr enough ↦ let t = many (omega (arith, enough)) in omega (arith, t, before, sum, long)
      ]
