use Rattle.std.proofs.Common.{◌≡◌, ◌∙◌, ◌++◌, take, Ok, refl, add-one, arith}
use Rattle.std.proofs.lemmas.List.{take_all}
use Rattle.std.specs.Prelude.{filter_map}
use Rattle.ask_specs.specs.FullLine.{raw_of}
use Rattle.reply_text.specs.Pieces.{absent_word, goes_on, more_texts}
use Rattle.reply_text.proofs.Texts.{goes_next, goes_none, none_texts, texts_next, texts_split}
use Rattle.wire_io.proofs.Joins.{join, join_failed, writes_none}
use Rattle.reply_text.proofs.raw.put_raw_others.Goals as goal

pub loop-other-init : goal.loop-other-init
loop-other-init g c = record { written = rw (none_texts c.args.begun) (writes_none c.args.out.now); some = goes_none c.args.begun }

pub returns-in_err-put_if_raw : goal.returns-in_err-put_if_raw
returns-in_err-put_if_raw g c =
    let begun = c.args.begun in
    let i = c.loop-other.invariant in
    let split = texts_split raw_of begun c.loop-other.some c.args.others.now c.loop-other.other-index c.other-item.result (omega arith) c.other-item.is i.some in
    join_failed c.args.out.now c.loop-other.out c.put_if_raw.new.out (more_texts begun (filter_map raw_of (take c.loop-other.other-index c.args.others.now))) _ split.0
    (more_texts begun (filter_map raw_of c.args.others.now) ++ absent_word (goes_on begun (filter_map raw_of c.args.others.now))) _ c.from_residual.result
    i.written c.in_err-put_if_raw.ensures c.from_residual.ensures.0 split.1

pub loop-other-preserved : goal.loop-other-preserved
loop-other-preserved g c =
    let begun = c.args.begun in
    let i = c.loop-other.invariant in
    record {
      written = join c.args.out.now c.loop-other.out c.put_if_raw.new.out (more_texts begun (filter_map raw_of (take c.loop-other.other-index c.args.others.now))) _ _ tt (Ok tt) i.written c.in_ok-put_if_raw.ensures
          (rw add-one (texts_next raw_of begun c.loop-other.some c.args.others.now c.loop-other.other-index c.other-item.result (omega arith) c.other-item.is i.some));
      some = rw add-one (c.goes_on-some.ensures ∙ goes_next raw_of begun c.loop-other.some c.args.others.now c.loop-other.other-index c.other-item.result (omega arith) c.other-item.is i.some);
    }

pub returns : goal.returns
returns g c =
    let begun = c.args.begun in
    let i = c.loop-other.invariant in
    let all : take c.loop-other.other-index c.args.others.now ≡ c.args.others.now = take_all c.loop-other.other-index c.args.others.now c.loop-other-test.false in
    let some : c.loop-other.some ≡ goes_on begun (filter_map raw_of c.args.others.now) = rw all at i.some in
    join c.args.out.now c.loop-other.out c.put_absent.new.out (more_texts begun (filter_map raw_of c.args.others.now)) _ (more_texts begun (filter_map raw_of c.args.others.now) ++ absent_word (goes_on begun (filter_map raw_of c.args.others.now))) tt _ (rw all at i.written) c.put_absent.ensures
    (rw some refl)
