use Rattle.std.proofs.Common.{◌≡◌, take, length}
use Rattle.query_lang.proofs.AsnsReading.{Seen}
use Rattle.query_lang.proofs.trait_texts.parse_asns.Given as goal

abbrev pub invariant-loop-count : goal.invariant-loop-count
invariant-loop-count l = record { seen : Seen (take l.count l.numbers) l.text l.left; long : length l.numbers ≡ 4 }
