use Rattle.std.proofs.Common.{refl}
use Rattle.feed_archive.proofs.Telling.{tells_closes, inner_closes}
use Rattle.feed_archive.proofs.Asked.{plan_closes}
use Rattle.feed_archive.proofs.keeping.KeepPortPort.close.Goals as goal

pub invariant_of-self : goal.invariant_of-self
invariant_of-self g c = (
  c.self.invariant.0,
  c.self.invariant.1,
  tells_closes _ (g.P.Port.aside c.self.inside.inner) (g.P.Port.aside c.close.new.self) (g.P.Port.aside c.self.inside.before.value) c.self.inside.notes.events c.self.invariant.2 c.close.ensures.closes,
  c.self.invariant.3,
  c.self.invariant.4,
  inner_closes _ (g.P.Port.aside c.self.inside.inner) (g.P.Port.aside c.close.new.self) c.self.inside.notes.events _ c.self.invariant.5 c.close.ensures.closes refl,
  c.self.invariant.6,
  c.self.invariant.7,
  c.self.invariant.8,
  c.self.invariant.9,
  plan_closes _ (g.P.Port.aside c.self.inside.inner) (g.P.Port.aside c.close.new.self) _ _ _ c.self.inside.notes.events c.self.invariant.10 c.close.ensures.closes c.close.ensures.calls,
)
