use Rattle.std.proofs.Common.{[], refl, sym, ◌∙◌, append-nil}
use Rattle.rand_pcg.proofs.LcgLemmas.{advance_zero}
use Rattle.rand_pcg.specs.Pcg.{multiplier_64}
use Rattle.drill_streams.specs.Drawn.{generator}
use Rattle.drill_streams.specs.DrillStream.{IsMessageAt}
use Rattle.drill_streams.proofs.Drawing.{all_up, drawn, left, message_at, turned_at}
use Rattle.drill_streams.proofs.Parts.{range_put}
use Rattle.drill_streams.proofs.stream.put_drawn.Goals as goal

pub loop-init : goal.loop-init
loop-init c = record {
  generator = c.new-words.ensures ∙ sym (advance_zero 64 multiplier_64 (generator c.args.seed c.args.lane));
  written = ([], sym (append-nil c.args.out.now), refl);
  ups = all_up;
}

pub loop-preserved : goal.loop-preserved
loop-preserved c =
    let seed = c.args.seed in
    let lane = c.args.lane in
    let i = c.loop.counter in
    let w = c.next_word-word.result in
    let word = drawn seed lane i w c.loop.words c.next_word-word.new.self c.loop.invariant.generator c.next_word-word.ensures in
    let put = message_at seed lane i w c.peer_of.result _ word c.peer_of.ensures.same (c.loop.invariant.ups c.peer_of.result c.peer_of.ensures.few) c.loop.out c.put_message.new.out c.in_ok-put_message.ensures in
    record {
      generator = left seed lane i w c.loop.words c.next_word-word.new.self c.loop.invariant.generator c.next_word-word.ensures;
      written = range_put (IsMessageAt seed lane) i c.args.out.now c.loop.out c.put_message.new.out c.loop.invariant.written put;
      ups = λ p few. turned_at seed lane i w p _ _ word (c.loop.invariant.ups p few) (c.turned-up.ensures p few);
    }
