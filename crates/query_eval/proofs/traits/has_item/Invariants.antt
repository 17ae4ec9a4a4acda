use Rattle.std.proofs.Common.{◌≡◌, ◌*◌, ◌-◌, ◌/◌, length}
use Rattle.std.specs.List.{list_any}
use Rattle.std.specs.Str.{bytes_eq}
use Rattle.ask_specs.specs.Items.{items, items_in}
use Rattle.query_eval.proofs.traits.has_item.Given as goal

abbrev pub invariant-loop : goal.invariant-loop
invariant-loop l = record {
  left : length l.rest ≡ l.size * (length l.value / l.size - l.counter);
  more : list_any (λ x. bytes_eq x l.item) (items l.size l.value) ≡ list_any (λ x. bytes_eq x l.item) (items_in (length l.value / l.size - l.counter) l.size l.rest);
}
