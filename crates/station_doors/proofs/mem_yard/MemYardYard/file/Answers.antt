use Rattle.std.proofs.Common.{sym, ap, subst, map, rules, Some, List, ℕ}
use Rattle.std.specs.List.{Contains}
use Rattle.station_doors.specs.Files.{GivesFile}
use Rattle.station_doors.specs.MemYard.{MemYardValue, file_value, tells_of}
use Rattle.station_doors.specs.declared.files.MemFile.{MemFile}
use Rattle.station_doors.proofs.mem_yard.MemYardYard.file.Goals as goal

pub returns-in-Err-Failed-clause-told : goal.returns-in-Err-Failed-clause-told
returns-in-Err-Failed-clause-told g c =
    let y = tells_of c.self.inside.ports.items c.self.inside.links.items c.self.inside.fails.items c.self.inside.out.items c.self.inside.links_out.items c.self.inside.back.items c.self.inside.links_back.items c.self.inside.files.items c.self.inside.disks.items in
    subst (λ (v : MemYardValue g.row.E.Denot). GivesFile c.args.path.now v.calls (Some v.tells) (Some y) c.copy_at-found.result) c.self.view_is (subst (λ (p : List ℕ). GivesFile p c.self.inside.calls (Some y) (Some y) c.copy_at-found.result) c.as_bytes.ensures.value (c.copy_at-found.ensures y c.self.inside.calls
    (λ t. subst (λ (l : List ℕ). Contains l c.self.inside.calls) c.as_slice.ensures.value (c.is_among-is_planned.ensures.planned t))
    (λ f k. c.is_among-is_planned.ensures.unplanned f (subst (λ (l : List ℕ). Contains l c.self.inside.calls) (sym c.as_slice.ensures.value) k))
    (sym (ap (λ (l : List MemFile). map file_value l) c.as_slice-2.ensures.value))))

pub returns : goal.returns
returns g c = record {
  told =
      let y = tells_of c.self.inside.ports.items c.self.inside.links.items c.self.inside.fails.items c.self.inside.out.items c.self.inside.links_out.items c.self.inside.back.items c.self.inside.links_back.items c.self.inside.files.items c.self.inside.disks.items in
      subst (λ (v : MemYardValue g.row.E.Denot). GivesFile c.args.path.now v.calls (Some v.tells) (Some y) c.copy_at-found.result) c.self.view_is (subst (λ (p : List ℕ). GivesFile p c.self.inside.calls (Some y) (Some y) c.copy_at-found.result) c.as_bytes.ensures.value (c.copy_at-found.ensures y c.self.inside.calls
      (λ t. subst (λ (l : List ℕ). Contains l c.self.inside.calls) c.as_slice.ensures.value (c.is_among-is_planned.ensures.planned t))
      (λ f k. c.is_among-is_planned.ensures.unplanned f (subst (λ (l : List ℕ). Contains l c.self.inside.calls) (sym c.as_slice.ensures.value) k))
      (sym (ap (λ (l : List MemFile). map file_value l) c.as_slice-2.ensures.value))));
  counted = search rules;
  cause = search rules;
  later = search rules;
}

pub returns-2-clause-told : goal.returns-2-clause-told
returns-2-clause-told g c =
    let y = tells_of c.self.inside.ports.items c.self.inside.links.items c.self.inside.fails.items c.self.inside.out.items c.self.inside.links_out.items c.self.inside.back.items c.self.inside.links_back.items c.self.inside.files.items c.self.inside.disks.items in
    subst (λ (v : MemYardValue g.row.E.Denot). GivesFile c.args.path.now v.calls (Some v.tells) (Some y) c.copy_at-found.result) c.self.view_is (subst (λ (p : List ℕ). GivesFile p c.self.inside.calls (Some y) (Some y) c.copy_at-found.result) c.as_bytes.ensures.value (c.copy_at-found.ensures y c.self.inside.calls
    (λ t. subst (λ (l : List ℕ). Contains l c.self.inside.calls) c.as_slice.ensures.value (c.is_among-is_planned.ensures.planned t))
    (λ f k. c.is_among-is_planned.ensures.unplanned f (subst (λ (l : List ℕ). Contains l c.self.inside.calls) (sym c.as_slice.ensures.value) k))
    (sym (ap (λ (l : List MemFile). map file_value l) c.as_slice-2.ensures.value))))
