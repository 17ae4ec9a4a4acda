use Rattle.bgp_update.specs.Framed.{framed_value}
use Rattle.bmp_message.proofs.Heads.{no_frame_of_others, no_others, others_are_of}
use Rattle.bmp_message.proofs.head.others_in.Goals as goal

pub returns-in_default : goal.returns-in_default
returns-in_default c others has = absurd (no_others c.args.bytes.now c.in_default.ensures.none others has)

pub returns-in_default-frame_update : goal.returns-in_default-frame_update
returns-in_default-frame_update c others has = absurd (no_frame_of_others c.args.bytes.now c.in-Some.body.now c.in-Some.ensures.found c.in_default-frame_update.ensures.none others has)

pub returns : goal.returns
returns c others has =
    rw (c.other_of.ensures, c.other_of-2.ensures) (others_are_of c.args.bytes.now c.in-Some.body.now c.in-Some.ensures.found (framed_value c.in-Some-frame_update.framed) c.in-Some-frame_update.ensures.some others has)
