-- The walk from parent to parent: it passes no entry that contains the prefix.
use Rattle.std.proofs.Common.{◌≡◌, ℕ, ◌+◌, ◌<◌, ◌≤◌, List, [], ◌∷◌, ◌++◌, length, get_or, false, refl, sym, ap, subst, ◌∙◌, inl, inr, arith, length-append}
use Rattle.std.specs.List.{All}
use Rattle.std.specs.List.Sorted.{IsSortedByKey}
use Rattle.std.specs.declared.cmp.Ordering.{Ordering}
use Rattle.std.specs.declared.cmp.Ordering.TheVariants.{Less, Equal, Greater}
use Rattle.std.specs.Ordering.{is_gt, is_lt, ordering_reverse}
use Rattle.std.proofs.lemmas.Bool.{cases_lt}
use Rattle.std.proofs.lemmas.List.{get_or_append_left, get_or_default, get_or_push}
use Rattle.std.proofs.lemmas.List.Sorted.{ranks_by, sorted_far}
use Rattle.bmp_specs.specs.Address.{IsAddressPrefix}
use Rattle.bmp_specs.specs.Containment.{ContainsPrefix}
use Rattle.bmp_specs.specs.Orders.{prefix_cmp}
use Rattle.bmp_specs.specs.Values.{PrefixValue}
use Rattle.bmp_specs.proofs.OrderLaws.{prefix_total}
use Rattle.bmp_specs.proofs.PrefixOrder.{contained_between}
use Rattle.rov_table.specs.declared.vrp.Vrp.{Vrp}
use Rattle.rov_table.specs.Index.{NoneContains, NoneAfter, IsNearest, IsParent, AreParents}

gt_reverse : (o : Ordering) → is_gt (ordering_reverse o) ≡ is_lt o
gt_reverse Less = refl
gt_reverse Equal = refl
gt_reverse Greater = refl

-- from one place up to another, and at the next
pub none_more : (sorted : List Vrp) (p : PrefixValue) (at high : ℕ) → ((d : Vrp) → ContainsPrefix (get_or sorted at d).prefix p → ⊥) → NoneContains sorted p (at + 1) high → NoneContains sorted p at high
none_more sorted p at high here above k d low less = elim (cases_lt at k) [
  | inl later ↦ above k d (omega arith) less
  | inr most ↦ λ holds. here d (subst (λ (i : ℕ). ContainsPrefix (get_or sorted i d).prefix p) (omega arith) holds)
]

pub none_join : (sorted : List Vrp) (p : PrefixValue) (low mid high : ℕ) → NoneContains sorted p low mid → NoneContains sorted p mid high → NoneContains sorted p low high
none_join sorted p low mid high front back k d from less = elim (cases_lt k mid) [
  | inl early ↦ front k d from early
  | inr late ↦ back k d late less
]

module _ (sorted : List Vrp) (exact : All (λ v. IsAddressPrefix v.prefix) sorted) (ordered : IsSortedByKey (λ v. v.prefix) prefix_cmp sorted) where
  -- of two entries the later is not before the other
  pub rises : (i j : ℕ) (d : Vrp) → i ≤ j → j < length sorted → is_gt (prefix_cmp (get_or sorted i d).prefix (get_or sorted j d).prefix) ≡ false
  rises i j d up l =
      ap is_gt (prefix_total.antisymm (get_or sorted i d).prefix (get_or sorted j d).prefix)
      ∙ gt_reverse (prefix_cmp (get_or sorted j d).prefix (get_or sorted i d).prefix)
      ∙ sorted_far (λ x y. is_lt (prefix_cmp x.prefix y.prefix)) (ranks_by prefix_total (λ (v : Vrp). v.prefix)) sorted ordered i j d up l

  pub entry_after : (i : ℕ) (d : Vrp) → i < length sorted → NoneAfter sorted (get_or sorted i d).prefix i
  entry_after i d l k e less = subst (λ (v : Vrp). is_gt (prefix_cmp (get_or sorted k e).prefix v.prefix) ≡ false) (get_or_default sorted i e d l) (rises k i e (omega arith) l)

  module _ (p : PrefixValue) (of_p : IsAddressPrefix p) where
    -- between an entry that is not after a prefix and its parent none contains the prefix
    pub passes : (i parent : ℕ) → IsParent sorted i parent → i < length sorted → ((d : Vrp) → is_gt (prefix_cmp (get_or sorted i d).prefix p) ≡ false) → NoneContains sorted p parent i
    passes i parent is l before k d low less holds =
        is.none d k d low less (contained_between (get_or sorted k d).prefix (get_or sorted i d).prefix p (exact k d (omega arith)) (exact i d l) of_p (rises k i d (omega arith) l) (before d) holds)

    -- one step of the walk
    pub walked : (i parent from : ℕ) → IsParent sorted i parent → i < length sorted → ((d : Vrp) → is_gt (prefix_cmp (get_or sorted i d).prefix p) ≡ false)
        → ((d : Vrp) → ContainsPrefix (get_or sorted i d).prefix p → ⊥) → NoneContains sorted p (i + 1) from → NoneContains sorted p parent from
    walked i parent from is l before here above = none_join sorted p parent i from (passes i parent is l before) (none_more sorted p i from here above)

-- the nearest entry before an entry is its parent
pub parent_at : (sorted : List Vrp) (i parent : ℕ) (d : Vrp) → i < length sorted → IsNearest sorted i (get_or sorted i d).prefix parent → IsParent sorted i parent
parent_at sorted i parent d l h = record {
  before = h.within;
  none = λ e. subst (λ (v : Vrp). NoneContains sorted v.prefix parent i) (get_or_default sorted i d e l) h.none;
}

pub parents_push : (sorted : List Vrp) (parents : List ℕ) (i parent : ℕ) → length parents ≡ i → AreParents sorted parents → IsParent sorted i parent → AreParents sorted (parents ++ (parent ∷ []))
parents_push sorted parents i parent len are is j l = elim (cases_lt j (length parents)) [
  | inl early ↦ subst (IsParent sorted j) (sym (get_or_append_left parents (parent ∷ []) 0 j early)) (are j early)
  | inr late ↦
      let same : i ≡ j = omega (arith, l, length-append parents (parent ∷ []), len) in
      subst (IsParent sorted j) (sym (get_or_push parents parent 0 j (len ∙ same))) (subst (λ (k : ℕ). IsParent sorted k parent) same is)
]
