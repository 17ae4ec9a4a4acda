use Rattle.std.proofs.Common.{◌≡◌, ◌≤◌, true, false, refl, sym, ◌∙◌, arith, rules, true≢false}
use Rattle.std.specs.List.Sorted.{IsPartitionedBy}
use Rattle.std.specs.declared.cmp.Ordering.{Ordering}
use Rattle.std.specs.declared.cmp.Ordering.TheVariants.{Less, Equal, Greater}
use Rattle.std.specs.Ordering.{is_gt, is_le, ordering_index}
use Rattle.std.proofs.lemmas.List.Sorted.{IsPartitionPoint-from_clause, searchable_from_sorted}
use Rattle.bmp_specs.specs.Orders.{prefix_cmp}
use Rattle.bmp_specs.proofs.OrderLaws.{prefix_total}
use Rattle.bmp_specs.proofs.PrefixOrder.{contained_later}
use Rattle.rov_table.specs.declared.vrp.Vrp.{Vrp}
use Rattle.rov_table.proofs.judge.count_up_to.Goals as goal

le_down : (a b : Ordering) → ordering_index a ≤ ordering_index b → is_le b ≡ true → is_le a ≡ true
le_down Less b h e = refl
le_down Equal b h e = refl
le_down Greater Greater h e = e
le_down Greater Equal h e = absurd (omega arith)
le_down Greater Less h e = absurd (omega arith)

not_gt : (o : Ordering) → is_le o ≡ true → is_gt o ≡ false
not_gt Less e = refl
not_gt Equal e = refl
not_gt Greater e = sym e

up_to : (o : Ordering) → is_gt o ≡ false → is_le o ≡ true
up_to Less e = refl
up_to Equal e = refl
up_to Greater e = sym e

pub returns-clause-before : goal.returns-clause-before
returns-clause-before c =
    let up = searchable_from_sorted prefix_total (λ (v : Vrp). v.prefix) c.args.sorted.now c.args.prefix.now c.requires.ordered in
    let parted : IsPartitionedBy (λ (v : Vrp). is_le (prefix_cmp v.prefix c.args.prefix.now)) c.args.sorted.now = λ i j d below l e. le_down _ _ (up i j d below l) e in
    let point = IsPartitionPoint-from_clause (λ (v : Vrp). is_le (prefix_cmp v.prefix c.args.prefix.now)) _ _ c.partition_point.ensures.partitioned parted (λ a r q k. search rules) in
    λ k d h. not_gt _ (point.0 k d (omega arith) h)

pub returns-clause-none : goal.returns-clause-none
returns-clause-none c =
    let up = searchable_from_sorted prefix_total (λ (v : Vrp). v.prefix) c.args.sorted.now c.args.prefix.now c.requires.ordered in
    let parted : IsPartitionedBy (λ (v : Vrp). is_le (prefix_cmp v.prefix c.args.prefix.now)) c.args.sorted.now = λ i j d below l e. le_down _ _ (up i j d below l) e in
    let point = IsPartitionPoint-from_clause (λ (v : Vrp). is_le (prefix_cmp v.prefix c.args.prefix.now)) _ _ c.partition_point.ensures.partitioned parted (λ a r q k. search rules) in
    λ k d low l holds. true≢false (sym (up_to _ (contained_later _ _ (c.requires.all_exact k d l) c.requires.exact holds)) ∙ point.1 k d low l)
