use Rattle.std.proofs.Common.{◌∙◌, ◌/◌, length, sym}
use Rattle.std.specs.Str.{bytes_eq}
use Rattle.query_eval.proofs.TraitLaws.{item_on, octets_on}
use Rattle.query_eval.proofs.traits.has_item.Goals as goal

pub loop-preserved : goal.loop-preserved
loop-preserved c =
    let count = length c.args.value.now / c.args.size in
    record {
      left = octets_on count c.loop.counter c.args.size c.loop.rest.now c.split_at.result.1.now c.loop-test.true c.loop.invariant.left c.split_at.ensures.back_len;
      more = c.loop.invariant.more
          ∙ item_on (λ x. bytes_eq x c.args.item.now) count c.loop.counter c.args.size c.loop.rest.now c.split_at.result.0.now c.split_at.result.1.now c.loop-test.true c.split_at.ensures.front c.split_at.ensures.back (sym c.eq.ensures ∙ c.if-eq.false);
    }
