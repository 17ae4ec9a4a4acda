-- What the last entry of a range says.
use Rattle.std.proofs.Common.{◌≡◌, Bool, true, false, List, Option, None, Some, refl, sym, ◌∙◌, BTreeMap}
use Rattle.std.specs.declared.ops.Bound.TheVariants.{Included, Unbounded}
use Rattle.std.specs.Option.{option_map, IsSome}
use Rattle.std.specs.Map.Iter.{TakesLast}
use Rattle.std.specs.BTreeMap.{IsOrdered}
use Rattle.std.specs.BTreeMap.Range.{IsRangeOf}
use Rattle.std.proofs.lemmas.Map.Views.{btree_map_get_iff}
use Rattle.bmp_specs.specs.Orders.{prefix_cmp}
use Rattle.bmp_specs.specs.Values.{PrefixValue}
use Rattle.bmp_specs.proofs.OrderLaws.{prefix_total, prefix_exact}
use Rattle.prefix_trie.specs.Looking.{IsLastUpTo}

not_after : (b : Bool) → (b ≡ false → ⊥) → b ≡ true
not_after true h = refl
not_after false h = absurd (h refl)

some_is : {X : Type 0} (o : Option X) (x : X) → o ≡ Some x → IsSome o
some_is None x e = cc
some_is (Some y) x e = refl

none_is : {X : Type 0} (o : Option X) (x : X) → o ≡ None → o ≡ Some x → ⊥
none_is o x e f = let clash : None ≡ Some x = sym e ∙ f in absurd cc

pub last_up_to : {A T : Type 0} (shows : A → PrefixValue × T) (m : BTreeMap PrefixValue T) (place : PrefixValue) (s t : List (PrefixValue × T)) (r : Option A)
    → IsOrdered prefix_cmp m → IsRangeOf prefix_cmp Unbounded (Included place) m s → TakesLast shows s r t → IsLastUpTo place m.entries (option_map shows r)
last_up_to shows m place s t None ordered within h = λ d listed. not_after _ (λ before.
    let (all, first, least, here, greatest, empty) = within in
    let none = empty h.0 d.0 (tt, before) in
    none_is _ d.1 none ((btree_map_get_iff prefix_total prefix_exact m ordered d.0 d.1).1 listed))
last_up_to shows m place s t (Some x) ordered within h =
    let (all, first, least, here, greatest, empty) = within in
    let at = here (shows x) t h in
    record {
      listed = (btree_map_get_iff prefix_total prefix_exact m ordered (shows x).0 (shows x).1).0 at.1;
      up_to = at.0.1;
      last = λ d listed before. greatest (shows x) t h d.0 (tt, before) (some_is _ d.1 ((btree_map_get_iff prefix_total prefix_exact m ordered d.0 d.1).1 listed));
    }
