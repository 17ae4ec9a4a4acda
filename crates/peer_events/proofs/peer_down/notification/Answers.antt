use Rattle.std.proofs.Common.{◌≡◌, drop, length, arith, rules, length-drop}
use Rattle.std.proofs.lemmas.List.{get_or-drop}
use Rattle.bmp_specs.proofs.BgpMessageCode.{BeginsWithMessage-whole, whole-BeginsWithMessage}
use Rattle.peer_events.proofs.peer_down.notification.Goals as goal

pub returns-in_err-frame-clause-none : goal.returns-in_err-frame-clause-none
returns-in_err-frame-clause-none c =
    rw c.from_residual.ensures (λ code sub n. c.in_err-frame.ensures.none n.message.kind (length c.args.bytes.now) (whole-BeginsWithMessage c.args.bytes.now n.message n.is))

pub returns-clause-found : goal.returns-clause-found
returns-clause-found c =
    let bytes = c.args.bytes.now in
    let all : c.in_ok-frame.frame.length ≡ length bytes = search rules in
    let kind : c.in_ok-frame.frame.kind ≡ 3 = search rules in
    record {
      message = record { kind = c.in_ok-frame.frame.kind; body = drop 19 bytes };
      is = BeginsWithMessage-whole bytes c.in_ok-frame.frame.kind c.in_ok-frame.frame.length c.in_ok-frame.ensures.found all;
      is_notification = kind;
      header = omega (arith, length-drop 19 bytes, c.if-bytes.false);
      code_is = get_or-drop 19 bytes 0 0;
      sub_is = get_or-drop 19 bytes 1 0;
    }
