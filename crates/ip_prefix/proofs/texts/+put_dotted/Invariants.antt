use Rattle.std.proofs.Common.{length}
use Rattle.ip_prefix.proofs.texts.+put_dotted.Given as goal

abbrev pub decreases-put_dotted : goal.decreases-put_dotted
decreases-put_dotted l = length l.numbers.now
