use Rattle.std.proofs.Common.{refl, sym, subst}
use Rattle.std.specs.Arc.{arc_value}
use Rattle.bmp_specs.specs.Values.{up, down}
use Rattle.router_tables.specs.Pending.{RowsValue, StandsForRows}
use Rattle.router_tables.proofs.RowEffects.{rows_kept}
use Rattle.router_tables.proofs.rows.Rows.take.Goals as goal

pub returns-in-Up : goal.returns-in-Up
returns-in-Up c = rw c.in-Up.is (λ effects standing h.
    c.drop_gathered.ensures effects (up c.in-Up.key (arc_value c.in-Up.info)) refl (subst (λ (r : RowsValue). StandsForRows r effects) (sym c.self.view_is) h))

pub returns-in-Down : goal.returns-in-Down
returns-in-Down c = rw c.in-Down.is (λ effects standing h.
    c.drop_gathered-in-Down.ensures effects (down c.in-Down.key c.in-Down.info) refl (subst (λ (r : RowsValue). StandsForRows r effects) (sym c.self-in-Down.view_is) h))

pub returns-in-Announce : goal.returns-in-Announce
returns-in-Announce c = rw (c.in-Announce.is, ← c.as_slice.ensures) c.change.ensures

pub returns-in-Withdraw : goal.returns-in-Withdraw
returns-in-Withdraw c = rw (c.in-Withdraw.is, ← c.as_slice-in-Withdraw.ensures) c.change-in-Withdraw.ensures

pub returns-in_default : goal.returns-in_default
returns-in_default c effects standing h = rows_kept c.args.self.now c.args.effect.now c.in_default.not-Up c.in_default.not-Down c.in_default.not-Announce c.in_default.not-Withdraw effects h
