-- The first pair that passes a test and those behind it, in a list of pairs in the order of their keys.
use Rattle.std.proofs.Common.{◌≡◌, ◌++◌, IsNone, option_to_list, rules, inl, inr, Bool, true, false, cond, not, List, [], ◌∷◌, Option, None, Some, refl, ap, sym, ◌∙◌, subst}
use Rattle.std.specs.declared.cmp.Ordering.{Ordering}
use Rattle.std.specs.declared.cmp.Ordering.TheVariants.{Less}
use Rattle.std.specs.Ordering.{is_lt, is_eq}
use Rattle.std.specs.Cmp.{IsTotalOrder}
use Rattle.std.specs.BTreeMap.{is_at}
use Rattle.std.specs.List.{AllByRecursion, filter}
use Rattle.std.specs.Option.{is_some, option_map}
use Rattle.std.proofs.lemmas.Map.Lookups.{CmpEqualImpliesEq}
use Rattle.std.proofs.lemmas.Map.Views.{tells_apart}
use Rattle.route_runs.specs.Override.{value_at}
use Rattle.route_runs.specs.Places.{is_after, is_from, IsFirst, IsFirstPair}
use Rattle.route_runs.specs.Cursor.{Walking, moved}
use Rattle.route_runs.specs.Walk.{left}
use Rattle.route_runs.proofs.Merging.{Below, Rising, rising_head, rising_tail}
use Rattle.route_runs.proofs.Searching.{bools, not_both, less_is, itself, turned_is, after_trans}

some_one : {X : Type 0} (x y : X) → Some x ≡ Some y → x ≡ y
some_one x y e = cc

pub all_pass : {X : Type 0} (es : List X) → filter (λ e. true) es ≡ es
all_pass [] = refl
all_pass (e ∷ es) = ap (λ l. e ∷ l) (all_pass es)

module _ {K A : Type 0} (cmp : K → K → Ordering) (total : IsTotalOrder cmp) (exact : CmpEqualImpliesEq cmp) where
  here : (x : K × A) (xs : List (K × A)) → value_at cmp x.0 (x ∷ xs) ≡ Some x.1
  here x xs = ap (λ o. cond (is_eq o) (Some x.1) (value_at cmp x.0 xs)) (itself cmp total exact x.0)

  -- what the list has at a key that has no pair at its front
  behind : (q : K) (x : K × A) (xs : List (K × A)) → is_at (cmp q) x.0 ≡ false → value_at cmp q (x ∷ xs) ≡ value_at cmp q xs
  behind q x xs apart = ap (λ b. cond b (Some x.1) (value_at cmp q xs)) apart

  some_cons : (b : Bool) (v : A) (o : Option A) → is_some o ≡ true → is_some (cond b (Some v) o) ≡ true
  some_cons true v o e = refl
  some_cons false v o e = e

  none_cons : (b : Bool) (v : A) (o : Option A) → cond b (Some v) o ≡ None → o ≡ None
  none_cons true v o e = absurd cc
  none_cons false v o e = e

  pub all_from : (test : K → Bool) (es : List (K × A)) → AllByRecursion (λ (e : K × A). test e.0 ≡ true) es → filter (λ (e : K × A). test e.0) es ≡ es
  all_from test [] a = refl
  all_from test (e ∷ es) a = ap (λ b. cond b (e ∷ filter (λ (e : K × A). test e.0) es) (filter (λ (e : K × A). test e.0) es)) a.0 ∙ ap (λ l. e ∷ l) (all_from test es a.1)

  module _ (test : K → Bool) (up : (x y : K) → test x ≡ true → cmp x y ≡ Less → test y ≡ true) where
    above : (x : K) (es : List (K × A)) → test x ≡ true → Below cmp x es → AllByRecursion (λ (e : K × A). test e.0 ≡ true) es
    above x [] passes b = tt
    above x (e ∷ es) passes b = (up x e.0 passes b.0, above x es passes b.1)

    pub none_left : (es : List (K × A)) → ((q : K) → test q ≡ true → value_at cmp q es ≡ None) → filter (λ (e : K × A). test e.0) es ≡ []
    none_left [] none = refl
    none_left (x ∷ xs) none = elim (bools (test x.0)) [
      | inl passes ↦ absurd (let clash : Some x.1 ≡ None = sym (here x xs) ∙ none x.0 passes in cc)
      | inr fails ↦ ap (λ b. cond b (x ∷ filter (λ (e : K × A). test e.0) xs) (filter (λ (e : K × A). test e.0) xs)) fails ∙ none_left xs (λ q passes. none_cons (is_at (cmp q) x.0) x.1 (value_at cmp q xs) (none q passes))
    ]

    -- the first pair that passes and those behind it are all that pass
    pub first_left : (es : List (K × A)) → Rising cmp es → (e : K × A) → IsFirstPair cmp test (λ q. value_at cmp q es) e → filter (λ (p : K × A). test p.0) es ≡ e ∷ filter (λ (p : K × A). is_after cmp (Some e.0) p.0) es
    first_left [] s e f = absurd (let clash : None ≡ Some e.1 = f.there in cc)
    first_left (x ∷ xs) s e f = elim (bools (test x.0)) [
      | inl passes ↦ elim (bools (is_at (cmp e.0) x.0)) [
        | inl at ↦
            let key : e.0 ≡ x.0 = tells_apart exact e.0 x.0 at in
            let set : e.1 ≡ x.1 = (let same : Some e.1 ≡ Some x.1 = sym f.there ∙ ap (λ b. cond b (Some x.1) (value_at cmp e.0 xs)) at in some_one e.1 x.1 same) in
            let pair : x ≡ e = (λ i. (sym key i, sym set i)) in
            let rest : filter (λ (p : K × A). is_after cmp (Some x.0) p.0) (x ∷ xs) ≡ xs =
            ap (λ o. cond (is_lt o) (x ∷ filter (λ (p : K × A). is_after cmp (Some x.0) p.0) xs) (filter (λ (p : K × A). is_after cmp (Some x.0) p.0) xs)) (itself cmp total exact x.0)
            ∙ all_from (is_after cmp (Some x.0)) xs (all_after x.0 xs (rising_head cmp x xs s)) in
            all_from test (x ∷ xs) (passes, above x.0 xs passes (rising_head cmp x xs s)) ∙ ap (λ l. x ∷ l) (sym rest) ∙ ap (λ (p : K × A). p ∷ filter (λ (r : K × A). is_after cmp (Some p.0) r.0) (x ∷ xs)) pair
        | inr apart ↦
            let there : value_at cmp e.0 xs ≡ Some e.1 = sym (behind e.0 x xs apart) ∙ f.there in
            let less : cmp x.0 e.0 ≡ Less = below_listed e xs (x.0) there (rising_head cmp x xs s) in
            absurd (not_both (is_lt (cmp x.0 e.0)) (ap is_lt less) (f.first x.0 passes (ap is_some (here x xs))))
      ]
      | inr fails ↦
          let apart : is_at (cmp e.0) x.0 ≡ false = elim (bools (is_at (cmp e.0) x.0)) [ inl at ↦ absurd (not_both (test e.0) f.beyond (ap test (tells_apart exact e.0 x.0 at) ∙ fails)) | inr apart ↦ apart ] in
          let there : value_at cmp e.0 xs ≡ Some e.1 = sym (behind e.0 x xs apart) ∙ f.there in
          let less : cmp x.0 e.0 ≡ Less = below_listed e xs (x.0) there (rising_head cmp x xs s) in
          let rest = first_left xs (rising_tail cmp x xs s) e (record { there = there; beyond = f.beyond; first = λ q passes some. f.first q passes (some_cons (is_at (cmp q) x.0) x.1 (value_at cmp q xs) some) }) in
          let not_after : is_lt (cmp e.0 x.0) ≡ false = ap is_lt (turned_is cmp total exact x.0 e.0 Less less) in
          ap (λ b. cond b (x ∷ filter (λ (p : K × A). test p.0) xs) (filter (λ (p : K × A). test p.0) xs)) fails ∙ rest
          ∙ ap (λ l. e ∷ l) (sym (ap (λ b. cond b (x ∷ filter (λ (p : K × A). is_after cmp (Some e.0) p.0) xs) (filter (λ (p : K × A). is_after cmp (Some e.0) p.0) xs)) not_after))
    ]
      where
        all_after : (k : K) (ps : List (K × A)) → Below cmp k ps → AllByRecursion (λ (p : K × A). is_after cmp (Some k) p.0 ≡ true) ps
        all_after k [] b = tt
        all_after k (p ∷ ps) b = (ap is_lt b.0, all_after k ps b.1)

        below_listed : (e : K × A) (ps : List (K × A)) (k : K) → value_at cmp e.0 ps ≡ Some e.1 → Below cmp k ps → cmp k e.0 ≡ Less
        below_listed e [] k has b = absurd (let clash : None ≡ Some e.1 = has in cc)
        below_listed e (p ∷ ps) k has b = elim (bools (is_at (cmp e.0) p.0)) [
          | inl at ↦ subst (λ y. cmp k y ≡ Less) (sym (tells_apart exact e.0 p.0 at)) b.0
          | inr apart ↦ below_listed e ps k (sym (behind e.0 p ps apart) ∙ has) b.1
        ]

module _ {K : Type 0} (cmp : K → K → Ordering) (total : IsTotalOrder cmp) where
  -- both tests of a place pass for all keys after one that passes
  pub after_up : (place : Option K) (x y : K) → is_after cmp place x ≡ true → cmp x y ≡ Less → is_after cmp place y ≡ true
  after_up place x y passes less = after_trans cmp total place x y passes (ap is_lt less)

  pub from_up : (k x y : K) → is_from cmp k x ≡ true → cmp x y ≡ Less → is_from cmp k y ≡ true
  from_up k x y passes less = elim (bools (is_lt (cmp y k))) [
    | inl before ↦ absurd (not_both (is_from cmp k x) passes (ap (λ o. not (is_lt o)) (total.trans x y k less (less_is _ before))))
    | inr from ↦ ap not from
  ]

module _ {K : Type 0} (cmp : K → K → Ordering) (total : IsTotalOrder cmp) (exact : CmpEqualImpliesEq cmp) where
  after_from : (k q : K) → is_lt (cmp k q) ≡ true → is_from cmp k q ≡ true
  after_from k q less = ap (λ o. not (is_lt o)) (turned_is cmp total exact k q Less (less_is _ less))

module _ {K A : Type 0} (cmp : K → K → Ordering) (total : IsTotalOrder cmp) (exact : CmpEqualImpliesEq cmp) where
  left_is : (test : K → Bool) → ((x y : K) → test x ≡ true → cmp x y ≡ Less → test y ≡ true) → (place : Option K) → ((q : K) → is_after cmp place q ≡ true → test q ≡ true) → (pairs : List (K × A)) → Rising cmp pairs
      → (r : Option (K × A)) → IsFirst cmp test (λ q. value_at cmp q pairs) r → filter (λ (e : K × A). test e.0) pairs ≡ option_to_list r ++ filter (λ (e : K × A). is_after cmp (moved place r) e.0) pairs
  left_is test up place within pairs s None f = none_left cmp total exact test up pairs f ∙ sym (none_left cmp total exact (is_after cmp place) (after_up cmp total place) pairs (λ q after. f q (within q after)))
  left_is test up place within pairs s (Some e) f = first_left cmp total exact test up pairs s e f

  moved_on : (w w' : Walking K A) (r : Option (K × A)) (place : Option K) → w'.place ≡ moved place r → w'.pairs ≡ w.pairs → filter (λ (e : K × A). is_after cmp (moved place r) e.0) w.pairs ≡ filter (λ (e : K × A). is_after cmp w'.place e.0) w'.pairs
  moved_on w w' r place at same = ap (λ p. filter (λ (e : K × A). is_after cmp p e.0) w.pairs) (sym at) ∙ ap (filter (λ (e : K × A). is_after cmp w'.place e.0)) (sym same)

  -- a step of a walk
  pub walked_on : (from : Option K) (w w' : Walking K A) (l : List (K × A)) (r : Option (K × A)) → left cmp from w ≡ l → from ≡ None → Rising cmp w.pairs → IsFirst cmp (is_after cmp w.place) (λ q. value_at cmp q w.pairs) r
      → w'.place ≡ moved w.place r → w'.pairs ≡ w.pairs → l ≡ option_to_list r ++ left cmp from w'
  walked_on from w w' l r view none s f at same =
      sym view ∙ ap (λ o. left cmp o w) none ∙ left_is (is_after cmp w.place) (after_up cmp total w.place) w.place (λ q after. after) w.pairs s r f
      ∙ ap (λ m. option_to_list r ++ m) (moved_on w w' r w.place at same) ∙ ap (λ o. option_to_list r ++ left cmp o w') (sym none)

  pub walked_from : (from : Option K) (k : K) (w w' : Walking K A) (l : List (K × A)) (r : Option (K × A)) → left cmp from w ≡ l → from ≡ Some k → Rising cmp w.pairs → IsFirst cmp (is_from cmp k) (λ q. value_at cmp q w.pairs) r
      → w'.place ≡ moved (Some k) r → w'.pairs ≡ w.pairs → l ≡ option_to_list r ++ left cmp None w'
  walked_from from k w w' l r view some s f at same =
      sym view ∙ ap (λ o. left cmp o w) some ∙ left_is (is_from cmp k) (from_up cmp total k) (Some k) (after_from cmp total exact k) w.pairs s r f ∙ ap (λ m. option_to_list r ++ m) (moved_on w w' r (Some k) at same)

  pub ended_on : (from : Option K) (w : Walking K A) (l : List (K × A)) (r : Option (K × A)) → left cmp from w ≡ l → from ≡ None → IsFirst cmp (is_after cmp w.place) (λ q. value_at cmp q w.pairs) r → r ≡ None → l ≡ []
  ended_on from w l r view none f end = sym view ∙ ap (λ o. left cmp o w) none ∙ none_left cmp total exact (is_after cmp w.place) (after_up cmp total w.place) w.pairs (subst (IsFirst cmp (is_after cmp w.place) (λ q. value_at cmp q w.pairs)) end f)

  pub ended_from : (from : Option K) (k : K) (w : Walking K A) (l : List (K × A)) (r : Option (K × A)) → left cmp from w ≡ l → from ≡ Some k → IsFirst cmp (is_from cmp k) (λ q. value_at cmp q w.pairs) r → r ≡ None → l ≡ []
  ended_from from k w l r view some f end = sym view ∙ ap (λ o. left cmp o w) some ∙ none_left cmp total exact (is_from cmp k) (from_up cmp total k) w.pairs (subst (IsFirst cmp (is_from cmp k) (λ q. value_at cmp q w.pairs)) end f)

-- none is left exactly where nothing was given
pub none_exactly : {X Y : Type 0} (f : X → Y) (r : Option X) (l rest : List Y) → l ≡ option_to_list (option_map f r) ++ rest → (option_map f r ≡ None → l ≡ []) → (IsNone r → l ≡ []) × (l ≡ [] → IsNone r)
none_exactly f None l rest e ended = (λ none. ended refl, λ empty. search rules)
none_exactly f (Some x) l rest e ended = (λ none. absurd (search (rules, none)), λ empty. absurd (let clash : f x ∷ rest ≡ [] = sym e ∙ empty in cc))
