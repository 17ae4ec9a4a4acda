use Rattle.std.proofs.Common.{rules}
use Rattle.bmp_message.specs.State.{opens_of}
use Rattle.bmp_message.proofs.InForms.{no_message, of_body, of_last}
use Rattle.bmp_message.proofs.in_forms.read_in_forms.Goals as goal

pub returns-in_default-clause-broken : goal.returns-in_default-clause-broken
returns-in_default-clause-broken c _ = no_message (opens_of c.args.peer.now) c.args.head.now c.args.rest.now c.args.last.now c.in_default.ensures.none

pub returns-in-Some-2-clause-ok : goal.returns-in-Some-2-clause-ok
returns-in-Some-2-clause-ok c =
    of_last (opens_of c.args.peer.now) c.args.head.now c.args.rest.now c.args.last.now c.in-Some.body.now c.in-Some.ensures.found c.in-Some-2.update (search (rules, c.in_ok-update.ensures, c.in-Some-2.is))

pub returns-in-None-clause-broken : goal.returns-in-None-clause-broken
returns-in-None-clause-broken c broken taken u p =
    c.read_fitting.ensures.broken broken taken u (of_body (opens_of c.args.peer.now) c.args.head.now c.args.rest.now c.args.last.now c.in-Some.body.now c.in-Some.ensures.found taken u p)
