use Rattle.std.proofs.Common.{Ok, Err, refl, inl}
use mathlib.Core.Bool.{false}
use Rattle.station_top.proofs.Coming.{is_new, takes_opened, takes_none, takes_unopened, breaks_opened, leaves_opened, went_opened, went_none, unopened_given}
use Rattle.station_top.proofs.Taking.{on_error}
use Rattle.station_top.proofs.take.take_input.Goals as goal

pub take_bytes-taken-requires-clause-new : goal.take_bytes-taken-requires-clause-new
take_bytes-taken-requires-clause-new g c = is_new (g.P.Port.aside c.args.port.now) _ (rw c.in-Ok-true.field-0-test at c.in-Ok-true.ensures.opens)

pub take_bytes-taken-requires-clause-opened : goal.take_bytes-taken-requires-clause-opened
take_bytes-taken-requires-clause-opened g c = c.in_ok-account.ensures

pub returns-in-Ok-clause-takes : goal.returns-in-Ok-clause-takes
returns-in-Ok-clause-takes g c = takes_opened g.R.BodyReading.meaning (g.A.Account.stands c.take_bytes-taken.new.account) (g.P.Port.aside c.args.port.now) (g.P.Port.aside c.next_connection.new.self) (g.P.Port.aside c.take_bytes-taken.new.port) (g.P.Port.aside c.close.new.self) (g.P.Port.went c.next_connection.new.self) (g.P.Port.went c.take_bytes-taken.new.port) (g.P.Port.calls c.args.port.now) _
    c.in-Ok.taken c.in-Ok.ensures.takes (rw c.in-Ok-true.field-0-test at c.in-Ok-true.ensures.opens) c.close.ensures.closes c.in-Ok-true.ensures.calls

pub returns-in-Ok-false-clause-takes : goal.returns-in-Ok-false-clause-takes
returns-in-Ok-false-clause-takes g c = takes_none g.R.BodyReading.meaning (g.A.Account.stands c.in_ok-account.account) (g.P.Port.aside c.args.port.now) (g.P.Port.aside c.next_connection.new.self) (g.P.Port.calls c.args.port.now) c.untaken.result (c.in_ok-account.ensures)
    (rw c.in-Ok-false.field-0-test at c.in-Ok-false.ensures.opens) c.untaken.ensures

pub returns-in-Err-clause-takes : goal.returns-in-Err-clause-takes
returns-in-Err-clause-takes g c = takes_unopened g.R.BodyReading.meaning (g.A.Account.stands c.in_ok-account.account) (g.P.Port.aside c.args.port.now) (g.P.Port.aside c.next_connection.new.self) (g.P.Port.calls c.args.port.now) c.in-Err.field-0 c.untaken-in-Err.result (c.in_ok-account.ensures)
    c.in-Err.ensures.opens c.in-Err.ensures.planned c.untaken-in-Err.ensures

pub returns-in-Err-taken-clause-breaks : goal.returns-in-Err-taken-clause-breaks
returns-in-Err-taken-clause-breaks g c = breaks_opened g.R.BodyReading.meaning (g.P.Port.aside c.args.port.now) (g.P.Port.aside c.next_connection.new.self) (g.P.Port.aside c.take_bytes-taken.new.port) (g.P.Port.aside c.close.new.self) (g.P.Port.went c.next_connection.new.self) (g.P.Port.went c.take_bytes-taken.new.port) (g.P.Port.calls c.args.port.now) _
    c.in-Err-taken.ensures.breaks (rw c.in-Ok-true.field-0-test at c.in-Ok-true.ensures.opens) c.close.ensures.closes c.in-Ok-true.ensures.calls

pub returns-in-Err-taken-clause-leaves : goal.returns-in-Err-taken-clause-leaves
returns-in-Err-taken-clause-leaves g c = leaves_opened g.R.BodyReading.meaning (g.P.Port.aside c.args.port.now) (g.P.Port.aside c.next_connection.new.self) (g.P.Port.aside c.take_bytes-taken.new.port) (g.P.Port.aside c.close.new.self) (g.P.Port.went c.next_connection.new.self) (g.P.Port.went c.take_bytes-taken.new.port) _ c.in-Err-taken.ensures.breaks (rw c.in-Ok-true.field-0-test at c.in-Ok-true.ensures.opens) c.close.ensures.closes

pub returns-in-Ok-clause-went : goal.returns-in-Ok-clause-went
returns-in-Ok-clause-went g c = let t = c.in-Ok.ensures.takes in went_opened g.R.BodyReading.meaning (g.P.Port.aside c.args.port.now) (g.P.Port.aside c.next_connection.new.self) (g.P.Port.aside c.take_bytes-taken.new.port) (g.P.Port.aside c.close.new.self) (g.P.Port.went c.args.port.now) (g.P.Port.went c.next_connection.new.self) (g.P.Port.went c.take_bytes-taken.new.port) (g.P.Port.went c.close.new.self) _ t.bytes t.last t.took (rw c.in-Ok-true.field-0-test at c.in-Ok-true.ensures.opens) c.close.ensures.closes c.next_connection.ensures.went c.close.ensures.went

pub returns-in-Err-taken-clause-went : goal.returns-in-Err-taken-clause-went
returns-in-Err-taken-clause-went g c = let t = c.in-Err-taken.ensures.breaks in went_opened g.R.BodyReading.meaning (g.P.Port.aside c.args.port.now) (g.P.Port.aside c.next_connection.new.self) (g.P.Port.aside c.take_bytes-taken.new.port) (g.P.Port.aside c.close.new.self) (g.P.Port.went c.args.port.now) (g.P.Port.went c.next_connection.new.self) (g.P.Port.went c.take_bytes-taken.new.port) (g.P.Port.went c.close.new.self) _ t.0 _ t.1 (rw c.in-Ok-true.field-0-test at c.in-Ok-true.ensures.opens) c.close.ensures.closes c.next_connection.ensures.went c.close.ensures.went

pub returns-in-Ok-false-clause-went : goal.returns-in-Ok-false-clause-went
returns-in-Ok-false-clause-went g c = went_none (g.P.Port.aside c.args.port.now) (g.P.Port.aside c.next_connection.new.self) (g.P.Port.went c.args.port.now) (g.P.Port.went c.next_connection.new.self) (unopened_given (g.P.Port.aside c.args.port.now) (g.P.Port.aside c.next_connection.new.self) (Ok false) (λ e. absurd cc) (rw c.in-Ok-false.field-0-test at c.in-Ok-false.ensures.opens)) c.next_connection.ensures.went

pub returns-in-Err-clause-went : goal.returns-in-Err-clause-went
returns-in-Err-clause-went g c = went_none (g.P.Port.aside c.args.port.now) (g.P.Port.aside c.next_connection.new.self) (g.P.Port.went c.args.port.now) (g.P.Port.went c.next_connection.new.self) (unopened_given (g.P.Port.aside c.args.port.now) (g.P.Port.aside c.next_connection.new.self) (Err c.in-Err.field-0) (λ e. absurd cc) c.in-Err.ensures.opens) c.next_connection.ensures.went

pub returns-in_err-account-clause-went : goal.returns-in_err-account-clause-went
returns-in_err-account-clause-went g c = went_none (g.P.Port.aside c.args.port.now) (g.P.Port.aside c.args.port.now) (g.P.Port.went c.args.port.now) (g.P.Port.went c.args.port.now) refl refl

pub returns-in_err-account-clause-leaves : goal.returns-in_err-account-clause-leaves
returns-in_err-account-clause-leaves g c = on_error _ (inl refl)
