use Rattle.std.proofs.Common.{refl, arith, length-take}
use Rattle.station_core.proofs.Pieces.{piece_ends, piece_fills, piece_goes}
use Rattle.station_core.proofs.lane.take_piece.Goals as goal

pub overflow_sub-present : goal.overflow_sub-present
overflow_sub-present g c = omega (arith, c.requires.1.taken, c.requires.1.room)

pub overflow_add-present : goal.overflow_add-present
overflow_add-present g c = omega (arith, c.requires.1.taken, c.requires.1.room, c.min-count.ensures)

pub slice_bounds-feed-end : goal.slice_bounds-feed-end
slice_bounds-feed-end g c = omega (arith, length-take c.min-count.result c.args.piece.now, c.min-count.ensures)

pub returns-in-Some : goal.returns-in-Some
returns-in-Some g c =
    piece_ends g.B.BodyReading.meaning g.B.BodyReading.state c.args.due.now c.gather.new.due c.args.present.now c.feed.new.self c.gather.new.walk c.args.piece.now c.min-count.result c.min-count.ensures c.in_ok-feed.ensures.run
    c.in-Some.cause (rw c.in-Some.is at c.in_ok-cause.ensures.gathers) _ refl

pub returns-then-present-lt-MOST_TAKEN : goal.returns-then-present-lt-MOST_TAKEN
returns-then-present-lt-MOST_TAKEN g c =
    piece_goes g.B.BodyReading.meaning g.B.BodyReading.state c.args.due.now c.gather.new.due c.args.present.now c.feed.new.self c.gather.new.walk c.args.piece.now c.min-count.result c.min-count.ensures c.in_ok-feed.ensures.run
    (rw c.in-None.is at c.in_ok-cause.ensures.gathers) (omega (arith, c.if-present-lt-MOST_TAKEN.true))

pub returns-else-present-lt-MOST_TAKEN : goal.returns-else-present-lt-MOST_TAKEN
returns-else-present-lt-MOST_TAKEN g c =
    piece_fills g.B.BodyReading.meaning g.B.BodyReading.state c.args.due.now c.gather.new.due c.args.present.now c.feed.new.self c.gather.new.walk c.args.piece.now c.min-count.result c.min-count.ensures c.in_ok-feed.ensures.run
    (rw c.in-None.is at c.in_ok-cause.ensures.gathers) _ refl (omega (arith, c.if-present-lt-MOST_TAKEN.false))
