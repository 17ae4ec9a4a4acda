-- Lists of pairs in the order of their keys: they stay so after an insertion and after a removal, and what they have then at a key.
use Rattle.std.proofs.Common.{◌≡◌, ◌+◌, length, Bool, true, false, cond, ◌&&◌, T, List, [], ◌∷◌, None, Some, refl, ap, sym, ◌∙◌, subst}
use Rattle.std.specs.declared.cmp.Ordering.{Ordering}
use Rattle.std.specs.declared.cmp.Ordering.TheVariants.{Less, Equal, Greater}
use Rattle.std.specs.Ordering.{is_lt, eq_by_cmp, match_ordering}
use Rattle.std.specs.Cmp.{IsTotalOrder, eq_by_cmp_equiv}
use Rattle.std.specs.BTreeMap.{insert_entry, is_at}
use Rattle.std.specs.FinMap.Entries.{put, find, by_order, below_all, is_sorted, is_sorted-put, find-put, length-put, same_entries}
use Rattle.std.specs.List.{AllByRecursion}
use Rattle.std.specs.List.Sorted.{IsStrictlySortedBy}
use Rattle.std.specs.Map.{keys_of, lookup, remove_entry}
use Rattle.std.specs.Option.{is_some}
use Rattle.std.proofs.lemmas.Map.{lookup-remove_entry}
use Rattle.std.proofs.lemmas.Map.Keys.{IsDistinct-from_sorted}
use Rattle.std.proofs.lemmas.Map.Lookups.{CmpEqualImpliesEq}

both : (a b : Bool) → T a → T b → T (a && b)
both true b p q = q
both false b p q = p

first : (a b : Bool) → T (a && b) → T a
first true b p = tt
first false b p = p

second : (a b : Bool) → T (a && b) → T b
second true b p = p
second false b p = absurd p

less_is : (o : Ordering) → T (is_lt o) → o ≡ Less
less_is Less p = refl
less_is Equal p = absurd p
less_is Greater p = absurd p

module _ {K X : Type 0} (cmp : K → K → Ordering) where
  -- ---- as `FinMap` has them
  put_cases : (o : Ordering) (a b c d : List (K × X)) → c ≡ d → match_ordering o a b c ≡ by_order o a b d
  put_cases Less a b c d e = refl
  put_cases Equal a b c d e = refl
  put_cases Greater a b c d e = e

  put_is : (es : List (K × X)) (k : K) (v : X) → insert_entry cmp es k v ≡ put cmp k v es
  put_is [] k v = refl
  put_is (e ∷ es) k v = put_cases (cmp k e.0) _ _ _ _ (ap (λ l. e ∷ l) (put_is es k v))

  find_is : (q : K) (es : List (K × X)) → find cmp q es ≡ lookup (is_at (cmp q)) es
  find_is q [] = refl
  find_is q (e ∷ es) = ap (cond (is_at (cmp q) e.0) (Some e.1)) (find_is q es)

  below_to : (x : K) (es : List (K × X)) → AllByRecursion (λ y. cmp x y ≡ Less) (keys_of es) → T (below_all cmp x es)
  below_to x [] a = tt
  below_to x (e ∷ es) a = both _ _ (subst (λ o. T (is_lt o)) (sym a.0) tt) (below_to x es a.1)

  below_from : (x : K) (es : List (K × X)) → T (below_all cmp x es) → AllByRecursion (λ y. cmp x y ≡ Less) (keys_of es)
  below_from x [] a = tt
  below_from x (e ∷ es) a = (less_is _ (first _ _ a), below_from x es (second _ _ a))

  sorted_to : (es : List (K × X)) → IsStrictlySortedBy cmp (keys_of es) → T (is_sorted cmp es)
  unfolding IsStrictlySortedBy
  sorted_to [] s = tt
  sorted_to (e ∷ es) s = both _ _ (below_to e.0 es s.0) (sorted_to es s.1)

  sorted_from : (es : List (K × X)) → T (is_sorted cmp es) → IsStrictlySortedBy cmp (keys_of es)
  unfolding IsStrictlySortedBy
  sorted_from [] s = tt
  sorted_from (e ∷ es) s = (below_from e.0 es (first _ _ s), sorted_from es (second _ _ s))

  -- ---- after a removal
  below-remove : (x : K) (test : K → Bool) (es : List (K × X)) → AllByRecursion (λ y. cmp x y ≡ Less) (keys_of es) → AllByRecursion (λ y. cmp x y ≡ Less) (keys_of (remove_entry test es))
  below-remove x test [] a = tt
  below-remove x test (e ∷ es) a =
      elim (test e.0) as (λ b. AllByRecursion (λ y. cmp x y ≡ Less) (keys_of (cond b es (e ∷ remove_entry test es)))) [ true ↦ a.1 | false ↦ (a.0, below-remove x test es a.1) ]

  pub sorted-remove : (test : K → Bool) (es : List (K × X)) → IsStrictlySortedBy cmp (keys_of es) → IsStrictlySortedBy cmp (keys_of (remove_entry test es))
  unfolding IsStrictlySortedBy
  sorted-remove test [] s = tt
  sorted-remove test (e ∷ es) s =
      elim (test e.0) as (λ b. IsStrictlySortedBy cmp (keys_of (cond b es (e ∷ remove_entry test es)))) [ true ↦ s.1 | false ↦ (below-remove e.0 test es s.0, sorted-remove test es s.1) ]

  module _ (total : IsTotalOrder cmp) where
    pub lookup-remove : (q k : K) (es : List (K × X)) → IsStrictlySortedBy cmp (keys_of es) → lookup (is_at (cmp q)) (remove_entry (is_at (cmp k)) es) ≡ cond (eq_by_cmp cmp q k) None (lookup (is_at (cmp q)) es)
    lookup-remove q k es s =
        let laws = eq_by_cmp_equiv total in
        lookup-remove_entry laws (is_at (cmp k)) (laws.congr k) q es (IsDistinct-from_sorted cmp (keys_of es) s) ∙ ap (λ b. cond b None (lookup (is_at (cmp q)) es)) (laws.symm k q)

    -- ---- after an insertion
    pub sorted-insert : (es : List (K × X)) (k : K) (v : X) → IsStrictlySortedBy cmp (keys_of es) → IsStrictlySortedBy cmp (keys_of (insert_entry cmp es k v))
    sorted-insert es k v s = sorted_from _ (subst (λ l. T (is_sorted cmp l)) (sym (put_is es k v)) (is_sorted-put cmp total k v es (sorted_to es s)))

    pub lookup-insert : (q k : K) (v : X) (es : List (K × X)) → lookup (is_at (cmp q)) (insert_entry cmp es k v) ≡ cond (eq_by_cmp cmp q k) (Some v) (lookup (is_at (cmp q)) es)
    lookup-insert q k v es = ap (lookup (is_at (cmp q))) (put_is es k v) ∙ sym (find_is q (put cmp k v es)) ∙ find-put cmp total q k v es ∙ ap (cond (eq_by_cmp cmp q k) (Some v)) (find_is q es)

    pub length-insert : (es : List (K × X)) (k : K) (v : X) → IsStrictlySortedBy cmp (keys_of es) → length (insert_entry cmp es k v) ≡ cond (is_some (lookup (is_at (cmp k)) es)) (length es) (length es + 1)
    length-insert es k v s = ap length (put_is es k v) ∙ length-put cmp total k v es (sorted_to es s) ∙ ap (λ o. cond (is_some o) (length es) (length es + 1)) (find_is k es)

    -- two lists that have the same at each key are one
    pub one_list : CmpEqualImpliesEq cmp → (es fs : List (K × X)) → IsStrictlySortedBy cmp (keys_of es) → IsStrictlySortedBy cmp (keys_of fs) → ((q : K) → lookup (is_at (cmp q)) es ≡ lookup (is_at (cmp q)) fs) → es ≡ fs
    one_list exact es fs s t same = same_entries cmp total exact es fs (sorted_to es s) (sorted_to fs t) (λ q. find_is q es ∙ same q ∙ sym (find_is q fs))
