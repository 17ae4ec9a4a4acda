use Rattle.std.proofs.Common.{◌∙◌, ap, sym}
use Rattle.std.proofs.lemmas.List.Sorted.{All-permutation}
use Rattle.bmp_specs.specs.Address.{IsAddressPrefix}
use Rattle.rov_table.specs.declared.vrp.Vrp.{Vrp}
use Rattle.rov_table.specs.VrpFile.{file_records}
use Rattle.rov_table.proofs.OneFile.{file_one}
use Rattle.rov_table.proofs.table.VrpTable.read.Goals as goal

pub parents_of-requires-clause-exact : goal.parents_of-requires-clause-exact
parents_of-requires-clause-exact c =
    rw c.as_slice.ensures.value (All-permutation (λ (v : Vrp). IsAddressPrefix v.prefix) c.in_ok-sorted.sorted.items c.sort.new.vrps.items c.sort.ensures.same c.in_ok-sorted.ensures.exact)

pub returns-clause-only : goal.returns-clause-only
returns-clause-only c others are = file_one (file_records c.args.file.now) others c.in_ok-sorted.sorted.items are c.in_ok-sorted.ensures.are ∙ ap (λ v. v.items) (sym c.of-listed.ensures)
