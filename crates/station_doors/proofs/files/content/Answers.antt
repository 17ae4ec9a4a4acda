use Rattle.std.proofs.Common.{◌≡◌, ◌+◌, ◌==◌, ◌<◌, length, ℕ, Bool, true, false, List, ◌∷◌, Some, map, drop, get_or, sym, ap, ◌∙◌}
use Rattle.std.specs.Cmp.Lexicographic.{pointwise}
use Rattle.std.specs.Prelude.{if◌then◌else◌}
use Rattle.std.proofs.lemmas.List.{at_drop_more}
use Rattle.station_doors.specs.declared.files.MemFile.{MemFile}
use Rattle.station_doors.specs.Files.{file_at}
use Rattle.station_doors.specs.MemYard.{file_value}
use Rattle.station_doors.proofs.files.content.Goals as goal

step : (path : List ℕ) (f : MemFile) (rest : List MemFile) (b : Bool) → pointwise (λ x y. x == y) f.path path ≡ b → file_at path (map file_value (f ∷ rest)) ≡ (if b then Some f.bytes else file_at path (map file_value rest))
step path f rest b e = ap (λ (t : Bool). if t then Some f.bytes else file_at path (map file_value rest)) e

module _ (path : List ℕ) (files : List MemFile) (at : ℕ) (item : MemFile) (less : at < length files) (is : item ≡ get_or files at item) where
  at_item : (b : Bool) → pointwise (λ x y. x == y) item.path path ≡ b → file_at path (map file_value (drop at files)) ≡ (if b then Some item.bytes else file_at path (map file_value (drop (at + 1) files)))
  at_item b e =
      at_drop_more (λ (l : List MemFile). file_at path (map file_value l)) files at item less
      ∙ ap (λ (f : MemFile). file_at path (map file_value (f ∷ drop (at + 1) files))) (sym is)
      ∙ step path item (drop (at + 1) files) b e

pub returns-then-eq : goal.returns-then-eq
returns-then-eq c =
    sym (at_item c.args.path.now c.args.files.now c.loop-file.file-index c.file-item.result c.loop-file-test.true c.file-item.is true
    (ap (λ (l : List ℕ). pointwise (λ x y. x == y) l c.args.path.now) (sym c.as_slice.ensures) ∙ sym c.eq.ensures ∙ c.if-eq.true)) ∙ c.loop-file.invariant

pub loop-file-preserved : goal.loop-file-preserved
loop-file-preserved c =
    sym (at_item c.args.path.now c.args.files.now c.loop-file.file-index c.file-item.result c.loop-file-test.true c.file-item.is false
    (ap (λ (l : List ℕ). pointwise (λ x y. x == y) l c.args.path.now) (sym c.as_slice.ensures) ∙ sym c.eq.ensures ∙ c.if-eq.false)) ∙ c.loop-file.invariant
