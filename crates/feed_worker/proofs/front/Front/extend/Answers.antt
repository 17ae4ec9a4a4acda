use Rattle.std.proofs.Common.{◌≡◌, ◌++◌, ◌∙◌, length, sym, ap, arith, length-append}
use Rattle.std.proofs.lemmas.List.{take_all}
use Rattle.feed_worker.proofs.FrontLaws.{take_room}
use Rattle.feed_worker.proofs.front.Front.extend.Goals as goal

pub returns-then-piece-room : goal.returns-then-piece-room
returns-then-piece-room c =
    let old = c.args.self.now.octets in
    let piece = c.args.piece.now in
    c.extend.ensures ∙ sym (take_all 64 (old ++ piece) (omega (arith, length-append old piece, ap length c.as_slice.ensures)))

pub returns-else-piece-room : goal.returns-else-piece-room
returns-else-piece-room c =
    let old = c.args.self.now.octets in
    c.extend-else-piece-room.ensures ∙ sym (take_room old c.args.piece.now _ 64 (omega (arith, ap length c.as_slice.ensures)))
