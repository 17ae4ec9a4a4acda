-- Changes of both families: each half with those of its own family, and both halves together.
use Rattle.std.proofs.Common.{◌≡◌, ◌++◌, ◌⊎◌, inl, inr, ℕ, ◌+◌, ◌<◌, Bool, true, false, cond, List, [], ◌∷◌, length, get_or, take, Option, refl, ap, sym, ◌∙◌, subst, arith}
use Rattle.std.specs.List.{All, Contains, filter}
use Rattle.std.proofs.lemmas.Bool.{false≢true, cond_both}
use Rattle.std.proofs.lemmas.List.Elements.{filter_more}
use Rattle.bmp_specs.specs.declared.wire.Family.{Family}
use Rattle.bmp_specs.specs.declared.wire.Family.TheVariants.{V4, V6}
use Rattle.bmp_specs.specs.Orders.{nlri_cmp}
use Rattle.bmp_specs.specs.Values.{NlriValue}
use Rattle.bmp_specs.proofs.ListedOne.{contains_cases, contains_first, contains_later}
use Rattle.bmp_specs.proofs.OrderLaws.{nlri_exact, nlri_total}
use Rattle.route_runs.specs.Layers.{all_to, AreChangedTo, IsLayered}
use Rattle.route_runs.specs.Message.{IsAllSet}
use Rattle.route_runs.specs.Nlri.{is_same, is_family, of_family, IsNlri, IsNlriOf, AreKeys, AreHalves}
use Rattle.route_runs.specs.Override.{value_at}
use Rattle.route_runs.specs.Runs.{changed, IsChanged}
use Rattle.route_runs.proofs.Contents.{all_changed}
use Rattle.route_runs.proofs.Halves.{value_low, value_high, rising_cat}
use Rattle.route_runs.proofs.KeptNlri.{keys_changed, keys_layered}
use Rattle.route_runs.proofs.Listing.{all_to_set}

family_cases : (f : Family) → (f ≡ V4) ⊎ (f ≡ V6)
family_cases V4 = inl refl
family_cases V6 = inr refl

-- ---- a table with the rows of a run set
module _ {A : Type 0} (old4 old6 : List (NlriValue × A)) (run4 run6 : List (NlriValue × Option A)) (new4 new6 : List (NlriValue × A)) (olds : AreHalves old4 old6) (runs : AreHalves run4 run6)
    (low : IsChanged nlri_cmp old4 run4 new4) (high : IsChanged nlri_cmp old6 run6 new6) where
  pub halves_changed : AreHalves new4 new6
  halves_changed = record {
    low = keys_changed (IsNlriOf V4) old4 new4 run4 low olds.low runs.low;
    high = keys_changed (IsNlriOf V6) old6 new6 run6 high olds.high runs.high;
  }

  pub changed_cat : IsChanged nlri_cmp (old4 ++ old6) (run4 ++ run6) (new4 ++ new6)
  changed_cat = record {
    ordered = rising_cat new4 new6 halves_changed low.ordered high.ordered;
    values = λ q. elim (family_cases q.prefix.address.family) [
      | inl f ↦ value_low new4 new6 halves_changed q f ∙ low.values q ∙ ap (λ o. changed o (value_at nlri_cmp q old4)) (sym (value_low run4 run6 runs q f))
          ∙ ap (changed (value_at nlri_cmp q (run4 ++ run6))) (sym (value_low old4 old6 olds q f))
      | inr f ↦ value_high new4 new6 halves_changed q f ∙ high.values q ∙ ap (λ o. changed o (value_at nlri_cmp q old6)) (sym (value_high run4 run6 runs q f))
          ∙ ap (changed (value_at nlri_cmp q (run4 ++ run6))) (sym (value_high old4 old6 olds q f))
    ];
  }

-- ---- what a filter keeps
module _ {X : Type 0} (test : X → Bool) where
  from_filter : (xs : List X) (x : X) → Contains (filter test xs) x → Contains xs x × (test x ≡ true)
  from_filter [] x c = absurd (omega (arith, c.1))
  from_filter (y ∷ ys) x c = cond_both (test y) (y ∷ filter test ys) (filter test ys) (λ (l : List X). Contains l x → Contains (y ∷ ys) x × (test x ≡ true))
      (λ kept d. elim (contains_cases y (filter test ys) x d) [
        | inl is ↦ (subst (Contains (y ∷ ys)) is (contains_first y ys), subst (λ (z : X). test z ≡ true) is kept)
        | inr e ↦ let h = from_filter ys x e in (contains_later y ys x h.0, h.1)
      ])
      (λ passed d. let h = from_filter ys x d in (contains_later y ys x h.0, h.1))
      c

  to_filter : (xs : List X) (x : X) → Contains xs x → test x ≡ true → Contains (filter test xs) x
  to_filter [] x c t = absurd (omega (arith, c.1))
  to_filter (y ∷ ys) x c t = cond_both (test y) (y ∷ filter test ys) (filter test ys) (λ (l : List X). Contains l x)
      (λ kept. elim (contains_cases y ys x c) [
        | inl is ↦ subst (Contains (y ∷ filter test ys)) is (contains_first y (filter test ys))
        | inr d ↦ contains_later y (filter test ys) x (to_filter ys x d t)
      ])
      (λ passed. elim (contains_cases y ys x c) [
        | inl is ↦ absurd (false≢true (sym passed ∙ ap test is ∙ t))
        | inr d ↦ to_filter ys x d t
      ])

-- ---- the NLRI of a family
same_true : (f g : Family) → f ≡ g → is_same f g ≡ true
same_true f g e = subst (λ h. is_same f h ≡ true) e (itself f)
  where
    itself : (f : Family) → is_same f f ≡ true
    itself V4 = refl
    itself V6 = refl

true_same : (f g : Family) → is_same f g ≡ true → f ≡ g
true_same V4 V4 e = refl
true_same V4 V6 e = absurd cc
true_same V6 V4 e = absurd cc
true_same V6 V6 e = refl

module _ (f : Family) (ns : List NlriValue) where
  from_family : (q : NlriValue) → Contains (of_family f ns) q → Contains ns q
  from_family q c = (from_filter (is_family f) ns q c).0

  to_family : (q : NlriValue) → q.prefix.address.family ≡ f → Contains ns q → Contains (of_family f ns) q
  to_family q e c = to_filter (is_family f) ns q c (same_true q.prefix.address.family f e)

  ones_of_family : All IsNlri ns → (q : NlriValue) → Contains (of_family f ns) q → IsNlriOf f q
  ones_of_family all q c = let h = from_filter (is_family f) ns q c in record {
    nlri = subst IsNlri h.0.2 (all h.0.0 q h.0.1);
    family = true_same q.prefix.address.family f h.1;
  }

-- up to a place, and the one there
module _ (f : Family) (ns : List NlriValue) (n : ℕ) (x : NlriValue) (within : n < length ns) (is : x ≡ get_or ns n x) where
  family_more : (b : Bool) → is_family f x ≡ b → of_family f (take (n + 1) ns) ≡ of_family f (take n ns) ++ cond b (x ∷ []) []
  family_more b e = filter_more (is_family f) ns n x within ∙ ap (λ y. of_family f (take n ns) ++ cond (is_family f y) (y ∷ []) []) (sym is) ∙ ap (λ b. of_family f (take n ns) ++ cond b (x ∷ []) []) e

-- ---- one half

module _ {A : Type 0} (f : Family) (keys : List NlriValue) (to : Option A) (old new : List (NlriValue × Option A)) (l : IsLayered nlri_cmp old (all_to (of_family f keys) to) new) where
  all_set : IsAllSet nlri_cmp (of_family f keys) to (all_to (of_family f keys) to)
  all_set = all_to_set nlri_cmp nlri_total nlri_exact to (of_family f keys)

  pub half_changed : AreChangedTo nlri_cmp (of_family f keys) to old new
  half_changed = all_changed nlri_cmp (of_family f keys) to old (all_to (of_family f keys) to) new all_set l

  pub half_keys : All IsNlri keys → AreKeys (IsNlriOf f) old → AreKeys (IsNlriOf f) new
  half_keys all had = keys_layered (IsNlriOf f) (of_family f keys) to old (all_to (of_family f keys) to) new (ones_of_family f keys all) all_set l had

-- ---- both halves
module _ {A : Type 0} (keys : List NlriValue) (to : Option A) (old4 old6 new4 new6 : List (NlriValue × Option A)) (olds : AreHalves old4 old6) (news : AreHalves new4 new6)
    (low : AreChangedTo nlri_cmp (of_family V4 keys) to old4 new4) (high : AreChangedTo nlri_cmp (of_family V6 keys) to old6 new6) where
  pub changed_to_cat : AreChangedTo nlri_cmp keys to (old4 ++ old6) (new4 ++ new6)
  changed_to_cat = record {
    ordered = rising_cat new4 new6 news low.ordered high.ordered;
    these = λ q has. elim (family_cases q.prefix.address.family) [
      | inl f ↦ value_low new4 new6 news q f ∙ low.these q (to_family V4 keys q f has)
      | inr f ↦ value_high new4 new6 news q f ∙ high.these q (to_family V6 keys q f has)
    ];
    others = λ q lacks. elim (family_cases q.prefix.address.family) [
      | inl f ↦ value_low new4 new6 news q f ∙ low.others q (λ c. lacks (from_family V4 keys q c)) ∙ sym (value_low old4 old6 olds q f)
      | inr f ↦ value_high new4 new6 news q f ∙ high.others q (λ c. lacks (from_family V6 keys q c)) ∙ sym (value_high old4 old6 olds q f)
    ];
  }
