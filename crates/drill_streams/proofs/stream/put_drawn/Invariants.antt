use Rattle.std.proofs.Common.{◌≡◌, ◌<◌, ℕ, false}
use Rattle.std.specs.List.{range_with_len}
use Rattle.std.specs.Prelude.{slice_index_or}
use Rattle.bmp_specs.specs.Parts.{AreParts}
use Rattle.bmp_writer.specs.Written.{Appends}
use Rattle.rand_pcg.specs.Lcg.{advance}
use Rattle.rand_pcg.specs.Pcg.{multiplier_64}
use Rattle.drill_streams.specs.Drawn.{generator}
use Rattle.drill_streams.specs.DrillStream.{IsMessageAt, is_up}
use Rattle.drill_streams.proofs.stream.put_drawn.Given as goal

abbrev pub invariant-loop : goal.invariant-loop
invariant-loop l = record {
  generator : l.words ≡ advance 64 multiplier_64 l.counter (generator l.seed l.lane);
  written : Appends (λ bytes. AreParts (IsMessageAt l.seed l.lane) bytes (range_with_len 0 l.counter)) l.fn.out l.out;
  ups : (p : ℕ) → p < 4 → slice_index_or l.up p false ≡ is_up l.seed l.lane p l.counter;
}
