use Rattle.bmp_writer.specs.WrittenAttributes.{IsOther}
use Rattle.bmp_writer.proofs.Still.{parts_more}
use Rattle.bmp_writer.proofs.others.put_others.Goals as goal

pub loop-other-preserved : goal.loop-other-preserved
loop-other-preserved c =
    let (piece, joined, is) = c.in_ok-put_other.ensures.ok in
    parts_more IsOther c.args.others.now c.loop-other.other-index _ c.other-item.result c.args.out.now c.loop-other.out piece c.put_other.new.out c.loop-other-test.true c.other-item.is c.loop-other.invariant joined is
