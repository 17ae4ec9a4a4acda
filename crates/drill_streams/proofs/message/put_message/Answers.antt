use Rattle.std.proofs.Common.{◌≡◌, ◌≤◌, ap, ◌∙◌, arith}
use Rattle.std.proofs.lemmas.Result.{on_ok_weaker}
use Rattle.drill_streams.specs.Drawn.{choice_of}
use Rattle.drill_streams.specs.Peers.{peer_key}
use Rattle.drill_streams.proofs.Written.{announcement_of, down_of, mark_of, up_of, withdrawal_of}
use Rattle.drill_streams.proofs.message.put_message.Goals as goal

pub returns-in-1 : goal.returns-in-1
returns-in-1 c =
    let choice : choice_of c.args.word ≡ 1 = omega (arith, c.choice_of.ensures, c.in-1.is) in
    on_ok_weaker c.put_mark.result (mark_of c.args.word c.args.is_up c.key_of.result (c.key_of.ensures ∙ ap peer_key c.peer_of-peer.ensures.same) c.args.out.now c.put_mark.new.out choice) c.put_mark.ensures.bytes

pub returns-in-2-to-5 : goal.returns-in-2-to-5
returns-in-2-to-5 c =
    let low : 2 ≤ choice_of c.args.word = omega (arith, c.choice_of.ensures, c.in-2-to-5) in
    let high : choice_of c.args.word ≤ 5 = omega (arith, c.choice_of.ensures, c.in-2-to-5) in
    on_ok_weaker c.put_withdrawal.result (withdrawal_of c.args.word c.args.is_up c.args.out.now c.put_withdrawal.new.out low high) c.put_withdrawal.ensures

pub returns-in_default : goal.returns-in_default
returns-in_default c =
    let low : 6 ≤ choice_of c.args.word = omega (arith, c.choice_of.ensures, c.in_default) in
    on_ok_weaker c.put_announcement.result (announcement_of c.args.word c.args.is_up c.args.out.now c.put_announcement.new.out low) c.put_announcement.ensures

pub returns-in-0 : goal.returns-in-0
returns-in-0 c =
    let choice : choice_of c.args.word ≡ 0 = omega (arith, c.choice_of.ensures, c.in-0.is) in
    on_ok_weaker c.put_down.result (λ e. down_of c.args.word c.peer_of-peer.result c.peer_of-peer.ensures.same c.args.is_up c.args.out.now c.put_down.new.out choice c.if-is_up.true e) c.put_down.ensures

pub returns-in-0-2 : goal.returns-in-0-2
returns-in-0-2 c =
    let choice : choice_of c.args.word ≡ 0 = omega (arith, c.choice_of.ensures, c.in-0.is) in
    on_ok_weaker c.put_up.result (λ e. up_of c.args.word c.peer_of-peer.result c.peer_of-peer.ensures.same c.args.is_up c.args.out.now c.put_up.new.out choice c.if-is_up.false e) c.put_up.ensures
