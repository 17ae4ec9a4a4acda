use Rattle.std.proofs.Common.{ℕ, List}
use Rattle.std.specs.List.{All}
use Rattle.bmp_specs.specs.Address.{IsAddressPrefix}
use Rattle.rov_table.specs.Records.{Gives}
use Rattle.rov_table.proofs.Files.{HasRead}
use Rattle.rov_table.proofs.file.read_into.Given as goal

abbrev pub invariant-loop-line : goal.invariant-loop-line
invariant-loop-line l = ((rows : List (List (List ℕ))) → Gives l.fn.rdr rows → (others : List (List (List ℕ))) × Gives l.rdr others × HasRead rows l.line l.vrps.items others) × All (λ v. IsAddressPrefix v.prefix) l.vrps.items
