use Rattle.bmp_writer.specs.WrittenNlri.{IsOwnNlri}
use Rattle.bmp_writer.proofs.Still.{parts_more}
use Rattle.bmp_writer.proofs.nlri.put_nlris.Goals as goal

pub loop-nlri-preserved : goal.loop-nlri-preserved
loop-nlri-preserved c =
    let (piece, joined, is) = c.in_ok-put_nlri.ensures.ok in
    parts_more IsOwnNlri c.args.list.now c.loop-nlri.nlri-index _ c.nlri-item.result c.args.out.now c.loop-nlri.out piece c.put_nlri.new.out c.loop-nlri-test.true c.nlri-item.is c.loop-nlri.invariant joined is
