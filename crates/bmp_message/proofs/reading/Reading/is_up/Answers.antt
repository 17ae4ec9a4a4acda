use Rattle.std.proofs.Common.{◌∙◌}
use Rattle.bmp_message.proofs.Peers.{up_at}
use Rattle.bmp_message.proofs.reading.Reading.is_up.Goals as goal

pub returns : goal.returns
returns c = rw (← c.self.view_is) (c.contains_key.ensures ∙ up_at c.self.inside.peers.entries c.args.key.now)
