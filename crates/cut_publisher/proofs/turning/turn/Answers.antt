use Rattle.std.proofs.Common.{List, drop, ◌∙◌, sym, subst}
use Rattle.cut_publisher.specs.declared.cell.Shown.{Shown}
use Rattle.cut_publisher.specs.Rule.{IsAlike, IsReady}
use Rattle.cut_publisher.proofs.turning.turn.Goals as goal

pub try_turn-requires : goal.try_turn-requires
try_turn-requires g c =
    let S = g.row.S.Denot in
    let E = g.row.S-Entry.Denot in
    let inv = c.loop.invariant in
    subst (λ (x : Shown S E). IsReady g.S.Subject.stands x (drop c.loop.writer.behind c.loop.writer.log.items)) (sym inv.0) (subst (λ (l : List (Shown S E)). IsReady g.S.Subject.stands c.args.writer.desk.shown.value l) (sym inv.1) c.requires)

pub returns-in-Ok-clause-shown : goal.returns-in-Ok-clause-shown
returns-in-Ok-clause-shown g c before x is = c.in-Ok.ensures.shown before x (c.loop.invariant.1 ∙ is)

pub returns-in-Ok-clause-again : goal.returns-in-Ok-clause-again
returns-in-Ok-clause-again g c none = subst (λ (z : Shown g.row.S.Denot g.row.S-Entry.Denot). IsAlike c.in-Ok.turned.desk.shown.value z) c.loop.invariant.0 (c.in-Ok.ensures.again (c.loop.invariant.1 ∙ none))
