use Rattle.std.proofs.Common.{◌∷◌, [], refl}
use Rattle.std.proofs.lemmas.Result.{IfOk-weaker}
use Rattle.bmp_specs.specs.Values.{passed}
use Rattle.bmp_message.specs.PeerMeaning.{OfTypeBy}
use Rattle.bmp_message.specs.Types.{message_type_of}
use Rattle.bmp_message.specs.declared.types.MessageType.TheVariants.{Initiation, Termination}
use Rattle.bmp_message.proofs.Making.{made_broken, made_ok}
use Rattle.bmp_message.proofs.PeerHeaders.{no_header, no_meaning, of_unknown, with_key}
use Rattle.bmp_message.proofs.dispatch.of_type.Goals as goal

pub returns-in_default-clause-broken : goal.returns-in_default-clause-broken
returns-in_default-clause-broken g c =
    rw c.in-OfPeer.is (λ _. no_header g.R.PeerReading.meaning (message_type_of c.in-OfPeer.kind) (g.R.PeerReading.state c.args.reading.now) c.args.body.now c.in_default.ensures.cases)

pub returns-in-Some-key-clause-ok : goal.returns-in-Some-key-clause-ok
returns-in-Some-key-clause-ok g c =
    let r = g.R.PeerReading in
    let cut = c.in-Some.ensures.cases in
    rw c.in-OfPeer.is
    (IfOk-weaker c.of_peer.result _ _
    (λ made p. (
      p.0,
      p.1,
      with_key r.meaning (message_type_of c.in-OfPeer.kind) (r.state c.args.reading.now) c.args.body.now c.in-Some.front.now c.in-Some.rest.now c.read-head.result cut.0 c.read-head.ensures cut.1 c.in-Some-key.key c.in-Some-key.ensures p.0 (r.state c.of_peer.new.reading) p.2,
    ))
    c.of_peer.ensures.ok)

pub returns-in-Some-key-clause-broken : goal.returns-in-Some-key-clause-broken
returns-in-Some-key-clause-broken g c =
    let r = g.R.PeerReading in
    let cut = c.in-Some.ensures.cases in
    rw c.in-OfPeer.is
    (λ broken. no_meaning r.meaning (message_type_of c.in-OfPeer.kind) (r.state c.args.reading.now) c.args.body.now c.in-Some.front.now c.in-Some.rest.now c.read-head.result cut.0 c.read-head.ensures cut.1 c.in-Some-key.key c.in-Some-key.ensures
    (c.of_peer.ensures.broken broken))

pub returns-in-None-clause-ok : goal.returns-in-None-clause-ok
returns-in-None-clause-ok g c =
    rw c.in-OfPeer.is
    (IfOk-weaker c.passed.result _ _
    (λ made is. (
      passed ∷ [],
      is,
      of_unknown g.R.PeerReading.meaning (message_type_of c.in-OfPeer.kind) (g.R.PeerReading.state c.args.reading.now) c.args.body.now c.in-Some.front.now c.in-Some.rest.now c.read-head.result c.in-Some.ensures.cases.0 c.read-head.ensures c.in-None.ensures,
    ))
    c.passed.ensures.ok)

pub returns-in-Initiation-clause-ok : goal.returns-in-Initiation-clause-ok
returns-in-Initiation-clause-ok g c =
    let r = g.R.PeerReading in
    let old = r.state c.args.reading.now in
    rw c.in-Initiation.is
    (made_ok g.M.Makes.is_of (OfTypeBy r.meaning Initiation old c.args.body.now) old c.initiation.result c.made_of.result c.made_of.ensures (IfOk-weaker c.initiation.result _ _ (λ effects p. (p, refl)) c.initiation.ensures.ok))

pub returns-in-Initiation-clause-broken : goal.returns-in-Initiation-clause-broken
returns-in-Initiation-clause-broken g c =
    rw c.in-Initiation.is (made_broken g.M.Makes.is_of c.initiation.result c.made_of.result c.made_of.ensures (λ broken effects next q. c.initiation.ensures.broken broken q.0.0 q.0.1))

pub returns-in-Termination-clause-ok : goal.returns-in-Termination-clause-ok
returns-in-Termination-clause-ok g c =
    let r = g.R.PeerReading in
    let old = r.state c.args.reading.now in
    rw c.in-Termination.is
    (made_ok g.M.Makes.is_of (OfTypeBy r.meaning Termination old c.args.body.now) old c.termination.result c.made_of-in-Termination.result c.made_of-in-Termination.ensures (IfOk-weaker c.termination.result _ _ (λ effects p. (p, refl)) c.termination.ensures.ok))

pub returns-in-Termination-clause-broken : goal.returns-in-Termination-clause-broken
returns-in-Termination-clause-broken g c =
    rw c.in-Termination.is (made_broken g.M.Makes.is_of c.termination.result c.made_of-in-Termination.result c.made_of-in-Termination.ensures (λ broken effects next q. c.termination.ensures.broken broken q.0.0))

pub returns-in-Unknown-clause-ok : goal.returns-in-Unknown-clause-ok
returns-in-Unknown-clause-ok g c = rw c.in-Unknown.is (IfOk-weaker c.passed-in-Unknown.result _ _ (λ made is. (passed ∷ [], is, (refl, refl))) c.passed-in-Unknown.ensures.ok)
