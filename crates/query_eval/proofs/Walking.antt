-- Pairs in the order of their keys are walked by going from each to the first after it.
use Rattle.std.proofs.Common.{◌≡◌, Bool, true, false, cond, List, [], ◌∷◌, map, Option, None, Some, refl, sym, ap, ◌∙◌, subst}
use Rattle.std.specs.Prelude.{slice_get}
use Rattle.std.specs.declared.cmp.Ordering.{Ordering}
use Rattle.std.specs.declared.cmp.Ordering.TheVariants.{Less, Equal, Greater}
use Rattle.std.specs.Ordering.{is_lt, ordering_reverse}
use Rattle.std.specs.Cmp.{IsTotalOrder}
use Rattle.std.specs.List.{AllByRecursion, filter}
use Rattle.std.specs.List.Sorted.{IsStrictlySortedBy}
use Rattle.std.specs.Map.{keys_of}
use Rattle.std.specs.Option.{option_map}
use Rattle.std.proofs.lemmas.Bool.{cond-true, cond-false}
use Rattle.std.proofs.lemmas.Cmp.{tied_itself}
use Rattle.std.proofs.lemmas.Map.Keys.{sorted_head, sorted_tail}
use Rattle.query_eval.specs.Later.{later}

module _ {K V : Type 0} (cmp : K → K → Ordering) where
  pass_all : (p : K) (es : List (K × V)) → AllByRecursion (λ k. cmp p k ≡ Less) (keys_of es) → filter (λ e. is_lt (cmp p e.0)) es ≡ es
  pass_all p [] a = refl
  pass_all p (e ∷ es) a = cond-true (is_lt (cmp p e.0)) _ _ (ap is_lt a.0) ∙ ap (λ (l : List (K × V)). e ∷ l) (pass_all p es a.1)

  found_is : (P : K → Type 0) (test : K × V → Bool) (es : List (K × V)) (e : K × V) → AllByRecursion P (keys_of es) → slice_get (filter test es) 0 ≡ Some e → P e.0
  found_is P test [] e a h = absurd cc
  found_is P test (x ∷ xs) e a h = go (test x) h (found_is P test xs e a.1)
    where
      go : (b : Bool) → slice_get (cond b (x ∷ filter test xs) (filter test xs)) 0 ≡ Some e → (slice_get (filter test xs) 0 ≡ Some e → P e.0) → P e.0
      go true g rest = let same : x ≡ e = cc in subst (λ (z : K × V). P z.0) same a.0
      go false g rest = rest g

  below_later : (p x : K) (es : List (K × V)) → IsTotalOrder cmp → cmp p x ≡ Less → AllByRecursion (λ k. cmp x k ≡ Less) (keys_of es) → AllByRecursion (λ k. cmp p k ≡ Less) (keys_of es)
  below_later p x [] total less a = tt
  below_later p x (e ∷ es) total less a = (total.trans p x e.0 less a.0, below_later p x es total less a.1)

less_is : (o : Ordering) → is_lt o ≡ true → o ≡ Less
less_is Less h = refl
less_is Equal h = absurd cc
less_is Greater h = absurd cc

module _ {K : Type 0} (cmp : K → K → Ordering) (total : IsTotalOrder cmp) where
  not_after : (x y : K) → cmp x y ≡ Less → is_lt (cmp y x) ≡ false
  not_after x y less = ap is_lt (total.antisymm y x ∙ ap ordering_reverse less)

module _ {K V : Type 0} (cmp : K → K → Ordering) (total : IsTotalOrder cmp) where
  -- what is after the first pair
  after_first : (x : K × V) (es : List (K × V)) → IsStrictlySortedBy cmp (keys_of (x ∷ es)) → filter (λ e. is_lt (cmp x.0 e.0)) (x ∷ es) ≡ es
  after_first x es s = cond-false (is_lt (cmp x.0 x.0)) _ _ (ap is_lt (tied_itself total x.0)) ∙ pass_all cmp x.0 es (sorted_head cmp x.0 (keys_of es) s)

  after_found : (p : K) (es : List (K × V)) (e : K × V) → IsStrictlySortedBy cmp (keys_of es) → slice_get (filter (λ z. is_lt (cmp p z.0)) es) 0 ≡ Some e
      → filter (λ z. is_lt (cmp p z.0)) es ≡ e ∷ filter (λ z. is_lt (cmp e.0 z.0)) es
  after_found p [] e s h = absurd cc
  after_found p (x ∷ xs) e s h = go (is_lt (cmp p x.0)) refl (after_found p xs e (sorted_tail cmp x.0 (keys_of xs) s))
    where
      go : (b : Bool) → is_lt (cmp p x.0) ≡ b → (slice_get (filter (λ z. is_lt (cmp p z.0)) xs) 0 ≡ Some e → filter (λ z. is_lt (cmp p z.0)) xs ≡ e ∷ filter (λ z. is_lt (cmp e.0 z.0)) xs)
          → filter (λ z. is_lt (cmp p z.0)) (x ∷ xs) ≡ e ∷ filter (λ z. is_lt (cmp e.0 z.0)) (x ∷ xs)
      go true t others =
          let all : filter (λ z. is_lt (cmp p z.0)) (x ∷ xs) ≡ x ∷ filter (λ z. is_lt (cmp p z.0)) xs = cond-true (is_lt (cmp p x.0)) _ _ t in
          let same : x ≡ e = let g : slice_get (x ∷ filter (λ z. is_lt (cmp p z.0)) xs) 0 ≡ Some e = ap (λ (l : List (K × V)). slice_get l 0) (sym all) ∙ h in cc in
          let rest : filter (λ z. is_lt (cmp p z.0)) xs ≡ xs = pass_all cmp p xs (below_later cmp p x.0 xs total (less_is (cmp p x.0) t) (sorted_head cmp x.0 (keys_of xs) s)) in
          let behind : filter (λ z. is_lt (cmp x.0 z.0)) (x ∷ xs) ≡ xs = after_first x xs s in
          all ∙ ap (λ (l : List (K × V)). x ∷ l) (rest ∙ sym behind) ∙ ap (λ (y : K × V). y ∷ filter (λ z. is_lt (cmp y.0 z.0)) (x ∷ xs)) same
      go false f others =
          let all : filter (λ z. is_lt (cmp p z.0)) (x ∷ xs) ≡ filter (λ z. is_lt (cmp p z.0)) xs = cond-false (is_lt (cmp p x.0)) _ _ f in
          let g : slice_get (filter (λ z. is_lt (cmp p z.0)) xs) 0 ≡ Some e = ap (λ (l : List (K × V)). slice_get l 0) (sym all) ∙ h in
          let less : cmp x.0 e.0 ≡ Less = found_is cmp (λ k. cmp x.0 k ≡ Less) (λ z. is_lt (cmp p z.0)) xs e (sorted_head cmp x.0 (keys_of xs) s) g in
          let behind : filter (λ z. is_lt (cmp e.0 z.0)) (x ∷ xs) ≡ filter (λ z. is_lt (cmp e.0 z.0)) xs = cond-false (is_lt (cmp e.0 x.0)) _ _ (not_after cmp total x.0 e.0 less) in
          all ∙ others g ∙ ap (λ (l : List (K × V)). e ∷ l) (sym behind)

  -- the first of what is left, and what is left behind it
  pub next_is : (place : Option K) (es : List (K × V)) (e : K × V) → IsStrictlySortedBy cmp (keys_of es) → slice_get (later cmp place es) 0 ≡ Some e → later cmp place es ≡ e ∷ later cmp (Some e.0) es
  next_is None [] e s h = absurd cc
  next_is None (x ∷ xs) e s h = let same : x ≡ e = cc in ap (λ (l : List (K × V)). x ∷ l) (sym (after_first x xs s)) ∙ ap (λ (y : K × V). y ∷ filter (λ z. is_lt (cmp y.0 z.0)) (x ∷ xs)) same
  next_is (Some p) es e s h = after_found p es e s h

-- none is left
pub none_left : {X : Type 0} (xs : List X) → slice_get xs 0 ≡ None → xs ≡ []
none_left [] h = refl
none_left (x ∷ xs) h = absurd cc

-- a change of the values commutes with what is left
module _ {K V W : Type 0} (cmp : K → K → Ordering) (f : K × V → K × W) (same_key : (e : K × V) → (f e).0 ≡ e.0) where
  pub keys_same : (es : List (K × V)) → keys_of (map f es) ≡ keys_of es
  keys_same [] = refl
  keys_same (e ∷ es) = λ i. same_key e i ∷ keys_same es i

  filter_same : (p : K) (es : List (K × V)) → filter (λ e. is_lt (cmp p e.0)) (map f es) ≡ map f (filter (λ e. is_lt (cmp p e.0)) es)
  filter_same p [] = refl
  filter_same p (e ∷ es) = ap (λ (k : K). cond (is_lt (cmp p k)) (f e ∷ filter (λ e. is_lt (cmp p e.0)) (map f es)) (filter (λ e. is_lt (cmp p e.0)) (map f es))) (same_key e) ∙ go (is_lt (cmp p e.0)) (filter_same p es)
    where
      go : (b : Bool) → filter (λ e. is_lt (cmp p e.0)) (map f es) ≡ map f (filter (λ e. is_lt (cmp p e.0)) es) → cond b (f e ∷ filter (λ e. is_lt (cmp p e.0)) (map f es)) (filter (λ e. is_lt (cmp p e.0)) (map f es)) ≡ map f (cond b (e ∷ filter (λ e. is_lt (cmp p e.0)) es) (filter (λ e. is_lt (cmp p e.0)) es))
      go true rest = ap (λ (l : List (K × W)). f e ∷ l) rest
      go false rest = rest

  pub later_same : (place : Option K) (es : List (K × V)) → later cmp place (map f es) ≡ map f (later cmp place es)
  later_same None es = refl
  later_same (Some p) es = filter_same p es

pub first_mapped : {X Y : Type 0} (f : X → Y) (xs : List X) → slice_get (map f xs) 0 ≡ option_map f (slice_get xs 0)
first_mapped f [] = refl
first_mapped f (x ∷ xs) = refl
