use Rattle.bmp_message.proofs.Heads.{nothing_behind}
use Rattle.bmp_message.proofs.head.after_header.Goals as goal

pub returns-in-None : goal.returns-in-None
returns-in-None c = nothing_behind c.args.body.now c.in-None.ensures.cases
