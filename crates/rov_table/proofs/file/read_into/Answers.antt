use Rattle.std.proofs.Common.{◌≡◌, [], ◌∷◌, ◌++◌, ◌+◌, refl, sym, subst, arith, List, ℕ}
use Rattle.std.proofs.lemmas.List.Elements.{All-nil, All-push}
use Rattle.csv.specs.Records.{fields_of}
use Rattle.bmp_specs.specs.Address.{IsAddressPrefix}
use Rattle.rov_table.specs.declared.vrp.Vrp.{Vrp}
use Rattle.rov_table.specs.VrpFile.{AreVrps}
use Rattle.rov_table.proofs.Files.{HasRead, read_none, read_first, read_more, read_bad, read_all}
use Rattle.rov_table.proofs.Giving.{none_left, some_left}
use Rattle.rov_table.proofs.file.read_into.Goals as goal

pub returns-then-not-any-clause-are : goal.returns-then-not-any-clause-are
returns-then-not-any-clause-are c = λ all first.
    let none : all ≡ [] = none_left c.args.rdr.now c.next_record.new.rdr c.in-Ok.any (fields_of c.next_record.new.row) all c.if-not-any.true (c.in-Ok.ensures.gives all first) in
    subst (AreVrps all) (sym c.requires) (read_all all all 0 [] (read_none all) none)

pub returns-then-not-any-clause-exact : goal.returns-then-not-any-clause-exact
returns-then-not-any-clause-exact c = rw c.requires (All-nil (λ (v : Vrp). IsAddressPrefix v.prefix))

pub loop-line-init : goal.loop-line-init
loop-line-init c = rw c.requires (
  λ all first.
      let (others, e, gives) = some_left c.args.rdr.now c.next_record.new.rdr c.in-Ok.any (fields_of c.next_record.new.row) all c.if-not-any.false (c.in-Ok.ensures.gives all first) in
      let read : HasRead all 1 [] others = read_first all all others (fields_of c.next_record.new.row) 0 [] (read_none all) e refl in
      (others, gives, read),
  All-nil (λ (v : Vrp). IsAddressPrefix v.prefix),
)

pub returns-then-not-found-clause-are : goal.returns-then-not-found-clause-are
returns-then-not-found-clause-are c = λ all first.
    let inv = c.loop-line.invariant.0 all first in
    let none = none_left c.loop-line.rdr c.next_record-in-loop-line.new.rdr c.in-Ok-next_record.found (fields_of c.next_record-in-loop-line.new.row) inv.0 c.if-not-found.true (c.in-Ok-next_record.ensures.gives inv.0 inv.1) in
    read_all all inv.0 c.loop-line.line c.loop-line.vrps.items inv.2 none

pub returns-in_default-vrp_of-clause-fault : goal.returns-in_default-vrp_of-clause-fault
returns-in_default-vrp_of-clause-fault c = λ all first.
    let inv = c.loop-line.invariant.0 all first in
    let (others, e, gives) = some_left c.loop-line.rdr c.next_record-in-loop-line.new.rdr c.in-Ok-next_record.found (fields_of c.next_record-in-loop-line.new.row) inv.0 c.if-not-found.false (c.in-Ok-next_record.ensures.gives inv.0 inv.1) in
    read_bad all inv.0 others (fields_of c.next_record-in-loop-line.new.row) c.loop-line.line c.loop-line.vrps.items inv.2 e (omega arith) c.in_default-vrp_of.ensures.none

pub loop-line-preserved : goal.loop-line-preserved
loop-line-preserved c =
    let items : c.push.new.self.items ≡ c.loop-line.vrps.items ++ (c.in-Some.vrp ∷ []) = rw c.if-is_err.ensures.negation at c.push.ensures.items in
    rw items (
      λ all first.
          let inv = c.loop-line.invariant.0 all first in
          let (others, e, gives) = some_left c.loop-line.rdr c.next_record-in-loop-line.new.rdr c.in-Ok-next_record.found (fields_of c.next_record-in-loop-line.new.row) inv.0 c.if-not-found.false (c.in-Ok-next_record.ensures.gives inv.0 inv.1) in
          let more : HasRead all (c.loop-line.line + 1) (c.loop-line.vrps.items ++ (c.in-Some.vrp ∷ [])) others =
          read_more all inv.0 others (fields_of c.next_record-in-loop-line.new.row) c.loop-line.line c.loop-line.vrps.items c.in-Some.vrp inv.2 e (omega arith) c.in-Some.ensures.some in
          (others, gives, more),
      All-push (λ (v : Vrp). IsAddressPrefix v.prefix) c.loop-line.vrps.items c.in-Some.vrp c.loop-line.invariant.1 c.in-Some.ensures.exact,
    )
