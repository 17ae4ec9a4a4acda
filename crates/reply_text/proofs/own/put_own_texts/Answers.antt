use Rattle.std.proofs.Common.{◌≡◌, ◌∙◌, false, take, Ok, refl, add-one, arith}
use Rattle.std.proofs.lemmas.List.{take_all}
use Rattle.std.specs.Prelude.{filter_map}
use Rattle.bmp_specs.specs.RouteLine.{comma_list}
use Rattle.ask_specs.specs.FullLine.{text_of_own}
use Rattle.reply_text.specs.Own.{own_value}
use Rattle.reply_text.specs.Pieces.{goes_on, more_texts}
use Rattle.reply_text.proofs.Texts.{comma_list-more, goes_next, texts_next, texts_split}
use Rattle.wire_io.proofs.Joins.{join, join_failed, writes_none}
use Rattle.reply_text.proofs.own.put_own_texts.Goals as goal

pub loop-other-init : goal.loop-other-init
loop-other-init g c = record { written = writes_none c.args.out.now; some = refl }

pub returns-in_err-put_if_own : goal.returns-in_err-put_if_own
returns-in_err-put_if_own g c =
    let f = text_of_own (own_value c.args.own) in
    let i = c.loop-other.invariant in
    let split = texts_split f false c.loop-other.some c.args.others.now c.loop-other.other-index c.other-item.result (omega arith) c.other-item.is i.some in
    join_failed c.args.out.now c.loop-other.out c.put_if_own.new.out (more_texts false (filter_map f (take c.loop-other.other-index c.args.others.now))) _ split.0 (comma_list (filter_map f c.args.others.now)) _ c.from_residual.result
    i.written c.in_err-put_if_own.ensures c.from_residual.ensures.0 (comma_list-more (filter_map f c.args.others.now) ∙ split.1)

pub loop-other-preserved : goal.loop-other-preserved
loop-other-preserved g c =
    let f = text_of_own (own_value c.args.own) in
    let i = c.loop-other.invariant in
    record {
      written = join c.args.out.now c.loop-other.out c.put_if_own.new.out (more_texts false (filter_map f (take c.loop-other.other-index c.args.others.now))) _ _ tt (Ok tt) i.written c.in_ok-put_if_own.ensures
          (rw add-one (texts_next f false c.loop-other.some c.args.others.now c.loop-other.other-index c.other-item.result (omega arith) c.other-item.is i.some));
      some = rw add-one (c.goes_on-some.ensures ∙ goes_next f false c.loop-other.some c.args.others.now c.loop-other.other-index c.other-item.result (omega arith) c.other-item.is i.some);
    }

pub returns : goal.returns
returns g c =
    let f = text_of_own (own_value c.args.own) in
    let i = c.loop-other.invariant in
    let all : take c.loop-other.other-index c.args.others.now ≡ c.args.others.now = take_all c.loop-other.other-index c.args.others.now c.loop-other-test.false in
    let some : c.loop-other.some ≡ goes_on false (filter_map f c.args.others.now) = rw all at i.some in
    join c.args.out.now c.loop-other.out c.put_absent.new.out (more_texts false (filter_map f c.args.others.now)) _ (comma_list (filter_map f c.args.others.now)) tt _ (rw all at i.written) c.put_absent.ensures
    (rw some (comma_list-more (filter_map f c.args.others.now)))
