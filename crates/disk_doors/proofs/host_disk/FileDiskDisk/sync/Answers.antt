use Rattle.std.proofs.Common.{[], ◌∙◌, sym, Ok, Err}
use mathlib.Core.Bool.{false≢true}
use Rattle.disk_doors.specs.Disk.{Syncs}
use Rattle.disk_doors.proofs.Refusing.{fails_later, fails_unrefused, sync_refused, unrefused}
use Rattle.disk_doors.proofs.host_disk.FileDiskDisk.sync.Goals as goal

pub returns-then-self-clause-told : goal.returns-then-self-clause-told
returns-then-self-clause-told g c = rw (← c.self.view_is, c.refuse.ensures.noted) (λ t. sync_refused _ _ (c.self.invariant.all c.if-self.true t))

pub returns-in-Ok-clause-told : goal.returns-in-Ok-clause-told
returns-in-Ok-clause-told g c = rw (← c.self.view_is) (λ t. unrefused (λ old new. Syncs old new (Ok tt)) _ _ _ (c.self.invariant.none c.if-self.false) (c.in-Ok.ensures.told t))

pub returns-in-Err-clause-told : goal.returns-in-Err-clause-told
returns-in-Err-clause-told g c = rw (← c.self.view_is) (λ t. unrefused (λ old new. Syncs old new (Err c.fail.result)) _ _ _ (c.self.invariant.none c.if-self.false) (c.in-Err.ensures.told t))

pub invariant_of-self : goal.invariant_of-self
invariant_of-self g c = rw c.refuse.ensures.noted (record { none = λ e. absurd (false≢true (sym e ∙ c.if-self.true)); all = λ e t. fails_later _ 2 0 [] (c.self.invariant.all e t) })

pub invariant_of-self-in-Ok : goal.invariant_of-self-in-Ok
invariant_of-self-in-Ok g c = record { none = c.self.invariant.none; all = λ e t. absurd (false≢true (sym c.if-self.false ∙ e)) }

pub invariant_of-self-in-Err : goal.invariant_of-self-in-Err
invariant_of-self-in-Err g c = record { none = λ e. absurd (false≢true (sym e)); all = λ e t. fails_unrefused _ _ (c.self.invariant.none c.if-self.false) (c.in-Err.ensures.lost t) }
