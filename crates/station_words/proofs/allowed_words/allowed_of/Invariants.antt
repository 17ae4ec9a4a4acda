use Rattle.std.proofs.Common.{◌≡◌, length}
use Rattle.station_words.proofs.AllowedText.{AreRead}
use Rattle.station_words.proofs.allowed_words.allowed_of.Given as goal

abbrev pub invariant-loop : goal.invariant-loop
invariant-loop l = AreRead l.value l.left l.allowed × (length l.allowed ≡ l.counter)
