use Rattle.std.proofs.lemmas.Result.{on_ok_weaker, on_err_weaker}
use Rattle.bmp_specs.specs.Values.{SegmentValue}
use Rattle.bmp_writer.proofs.AttributesRead.{segment_put}
use Rattle.bmp_writer.proofs.Still.{keeps_piece, keeps_then}
use Rattle.std.proofs.Common.{refl}
use Rattle.bmp_writer.proofs.path.put_segment.Goals as goal

pub returns-clause-ok : goal.returns-clause-ok
returns-clause-ok c =
    let m = c.segment.inside in
    let inside : SegmentValue = record { kind = m.kind; numbers = m.numbers } in
    on_ok_weaker c.put_numbers.result (segment_put inside c.args.segment.now c.segment.view_is c.type_of.result _ c.as_slice-numbers.result.now c.args.out.now c.extend.new.self c.put_numbers.new.out c.as_slice-numbers.ensures c.type_of.ensures refl c.in_ok-extend.ensures.ok) c.put_numbers.ensures.ok

pub returns-clause-err : goal.returns-clause-err
returns-clause-err c = on_err_weaker c.put_numbers.result (keeps_then c.args.out.now c.extend.new.self c.put_numbers.new.out (keeps_piece c.args.out.now _ c.extend.new.self c.in_ok-extend.ensures.ok)) c.put_numbers.ensures.err
