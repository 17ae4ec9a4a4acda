-- What a list of pairs has at a key and at every other, after a change at this key, where the order tells all keys apart.
use Rattle.std.proofs.Common.{◌≡◌, true, false, cond, List, [], ◌∷◌, None, Some, IsSome, refl, sym, ap, ◌∙◌, subst}
use Rattle.std.specs.declared.cmp.Ordering.{Ordering}
use Rattle.std.specs.declared.cmp.Ordering.TheVariants.{Less, Equal, Greater}
use Rattle.std.specs.Ordering.{is_eq, match_ordering}
use Rattle.std.specs.Cmp.{IsTotalOrder, eq_by_cmp_equiv}
use Rattle.std.specs.BTreeMap.{insert_entry, is_at}
use Rattle.std.specs.List.Sorted.{IsStrictlySortedBy}
use Rattle.std.specs.Map.{keys_of, lookup, set_value}
use Rattle.std.proofs.lemmas.Cmp.{tied_itself}
use Rattle.std.proofs.lemmas.Map.{lookup-none, lookup-set_value}
use Rattle.std.proofs.lemmas.Map.Entries.{none_below_head}
use Rattle.std.proofs.lemmas.Map.Keys.{sorted_tail}
use Rattle.std.proofs.lemmas.Map.Lookups.{CmpEqualImpliesEq}
use Rattle.bmp_specs.proofs.SortedPairs.{lookup-insert}

module _ {K : Type 0} (cmp : K → K → Ordering) (total : IsTotalOrder cmp) (exact : CmpEqualImpliesEq cmp) where
  at_itself : (k : K) → is_at (cmp k) k ≡ true
  at_itself k = ap is_eq (tied_itself total k)

  pub at_other : (q k : K) → ¬ (q ≡ k) → is_at (cmp q) k ≡ false
  at_other q k other = go (cmp q k) refl
    where
      go : (o : Ordering) → cmp q k ≡ o → is_eq o ≡ false
      go Less is = refl
      go Equal is = absurd (other (exact q k is))
      go Greater is = refl

  module _ {X : Type 0} (es : List (K × X)) (k : K) where
    pub inserted_here : (v : X) → lookup (is_at (cmp k)) (insert_entry cmp es k v) ≡ Some v
    inserted_here v = lookup-insert cmp total k k v es ∙ ap (λ b. cond b (Some v) (lookup (is_at (cmp k)) es)) (at_itself k)

    pub inserted_elsewhere : (v : X) (q : K) → ¬ (q ≡ k) → lookup (is_at (cmp q)) (insert_entry cmp es k v) ≡ lookup (is_at (cmp q)) es
    inserted_elsewhere v q other = lookup-insert cmp total q k v es ∙ ap (λ b. cond b (Some v) (lookup (is_at (cmp q)) es)) (at_other q k other)

    module _ (v w : X) (there : lookup (is_at (cmp k)) es ≡ Some v) where
      set : (q : K) → lookup (is_at (cmp q)) (set_value (is_at (cmp k)) es w) ≡ cond (is_at (cmp k) q) (Some w) (lookup (is_at (cmp q)) es)
      set q = let laws = eq_by_cmp_equiv total in lookup-set_value laws (is_at (cmp k)) (laws.congr k) q w es (subst IsSome (sym there) refl)

      pub set_here : lookup (is_at (cmp k)) (set_value (is_at (cmp k)) es w) ≡ Some w
      set_here = set k ∙ ap (λ b. cond b (Some w) (lookup (is_at (cmp k)) es)) (at_itself k)

      pub set_elsewhere : (q : K) → ¬ (q ≡ k) → lookup (is_at (cmp q)) (set_value (is_at (cmp k)) es w) ≡ lookup (is_at (cmp q)) es
      set_elsewhere q other = set q ∙ ap (λ b. cond b (Some w) (lookup (is_at (cmp q)) es)) (at_other k q (λ same. other (sym same)))

  -- where the key is, an insertion sets its value
  pub inserted_there : {X : Type 0} (es : List (K × X)) (k : K) (v w : X) → IsStrictlySortedBy cmp (keys_of es) → lookup (is_at (cmp k)) es ≡ Some v → insert_entry cmp es k w ≡ set_value (is_at (cmp k)) es w
  inserted_there [] k v w sorted there = absurd cc
  inserted_there {X} (e ∷ es) k v w sorted there = go (cmp k e.0) refl there (inserted_there es k v w (sorted_tail cmp e.0 (keys_of es) sorted))
    where
      go : (o : Ordering) → cmp k e.0 ≡ o → cond (is_at (cmp k) e.0) (Some e.1) (lookup (is_at (cmp k)) es) ≡ Some v
          → (lookup (is_at (cmp k)) es ≡ Some v → insert_entry cmp es k w ≡ set_value (is_at (cmp k)) es w)
          → match_ordering o ((k, w) ∷ e ∷ es) ((e.0, w) ∷ es) (e ∷ insert_entry cmp es k w) ≡ cond (is_at (cmp k) e.0) ((e.0, w) ∷ es) (e ∷ set_value (is_at (cmp k)) es w)
      go Less is h rest = let none : lookup (is_at (cmp k)) (e ∷ es) ≡ None = lookup-none (is_at (cmp k)) (e ∷ es) (none_below_head total k e es sorted is) in absurd cc
      go Equal is h rest = rw is refl
      go Greater is h rest = rw is (ap (λ (fs : List (K × X)). e ∷ fs) (rest (rw is at h)))
