use Rattle.std.proofs.Common.{◌≡◌, Some, sym, subst}
use Rattle.bmp_specs.specs.MessageHead.{peer_head}
use Rattle.bmp_specs.specs.PeerHeader.{HeaderValue}
use Rattle.bmp_message.proofs.Heads.{none_told, told_one}
use Rattle.bmp_message.proofs.head.peer_head.Goals as goal

pub returns-in_default : goal.returns-in_default
returns-in_default c told has = absurd (none_told c.args.body.now c.in_default.ensures.cases told has)

pub returns : goal.returns
returns c told has =
    subst (λ (h : HeaderValue). Some (peer_head h) ≡ told) (sym c.header.view_is) (told_one c.in-Some.front.now c.args.body.now c.read-header.result c.in-Some.ensures.cases.0 c.read-header.ensures told has)
