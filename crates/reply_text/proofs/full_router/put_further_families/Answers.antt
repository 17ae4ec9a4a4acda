use Rattle.std.proofs.Common.{◌≡◌, ap, get_or, suc, map, take, drop, Ok, add-one, arith}
use Rattle.ask_specs.specs.FullRouters.{family_count_text}
use Rattle.reply_text.specs.Pieces.{behind}
use Rattle.reply_text.proofs.Pieces.{behind_next, behind_split}
use Rattle.wire_io.proofs.Joins.{join, join_failed, writes_none}
use Rattle.reply_text.proofs.full_router.put_further_families.Goals as goal

pub loop-count-init : goal.loop-count-init
loop-count-init g c = writes_none c.args.out.now

pub returns-in_err-put_family : goal.returns-in_err-put_family
returns-in_err-put_family g c =
    let is : family_count_text c.count-item.result ≡ family_count_text (get_or c.args.counts.now c.loop-count.count-index c.count-item.result) = ap family_count_text c.count-item.is in
    join_failed c.args.out.now c.loop-count.out c.put_family.new.out (behind 44 (map family_count_text (take c.loop-count.count-index c.args.counts.now))) _ (behind 44 (map family_count_text (drop (suc c.loop-count.count-index) c.args.counts.now))) (behind 44 (map family_count_text c.args.counts.now)) _ c.from_residual.result
    c.loop-count.invariant (rw is at c.in_err-put_family.ensures) c.from_residual.ensures.0 (behind_split 44 family_count_text c.args.counts.now c.loop-count.count-index c.count-item.result (omega arith))

pub loop-count-preserved : goal.loop-count-preserved
loop-count-preserved g c =
    let is : family_count_text c.count-item.result ≡ family_count_text (get_or c.args.counts.now c.loop-count.count-index c.count-item.result) = ap family_count_text c.count-item.is in
    join c.args.out.now c.loop-count.out c.put_family.new.out (behind 44 (map family_count_text (take c.loop-count.count-index c.args.counts.now))) _ _ tt (Ok tt) c.loop-count.invariant (rw is at c.in_ok-put_family.ensures)
    (rw add-one (behind_next 44 family_count_text c.args.counts.now c.loop-count.count-index c.count-item.result (omega arith)))
