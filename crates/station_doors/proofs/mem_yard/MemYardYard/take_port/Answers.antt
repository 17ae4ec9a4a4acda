use Rattle.std.proofs.Common.{◌≡◌, ◌∙◌, ◌++◌, ◌∷◌, [], ap, refl, rules, Bool, true, if◌then◌else◌}
use Rattle.std.specs.Result.{is_ok}
use Rattle.station_doors.proofs.Lent.{took_back}
use Rattle.station_doors.proofs.mem_yard.MemYardYard.take_port.Goals as goal

pub returns-else-is_err-clause-told : goal.returns-else-is_err-clause-told
returns-else-is_err-clause-told g c =
    let ok : is_ok c.push.result ≡ true = search rules in
    let put : c.push.new.self.items ≡ c.self.inside.back.items ++ record { lane = c.args.lane; port = c.args.port } ∷ [] = c.push.ensures.items ∙ ap (λ (b : Bool). if b then c.self.inside.back.items ++ record { lane = c.args.lane; port = c.args.port } ∷ [] else c.self.inside.back.items) ok in
    rw (← c.self.view_is) (took_back _ _ _ _ _ _ _ _ _ _ _ c.args.lane c.args.port (c.if-take_out.ensures.stood.0 refl) c.if-take_out.ensures.rest put)
