use Rattle.std.proofs.Common.{List, sym, ap, ◌∙◌, subst}
use Rattle.bmp_specs.specs.PeerUp.{up_state}
use Rattle.peer_book.specs.Peers.{state_value}
use Rattle.relay_out.specs.Handed.{Hands}
use Rattle.relay_out.specs.Messages.{ItemValue}
use Rattle.relay_out.proofs.Steps.{line_items}
use Rattle.std.specs.List.{AllByRecursion}
use Rattle.relay_out.proofs.walk.hand_line.Goals as goal

pub returns-in-Up : goal.returns-in-Up
returns-in-Up g c =
    subst (λ (l : List ItemValue). Hands g.T.Takes.of g.T.Takes.took g.T.Takes.stopped l c.args.taker.now c.hand_peer.result c.hand_peer.new.taker)
    (line_items c.args.tables.now c.args.line.now.key (state_value c.args.line.now.state.now) c.deref.result.now (ap state_value c.in-Up.is ∙ ap up_state (sym c.deref.ensures)))
    c.hand_peer.ensures

pub hand_peer-requires : goal.hand_peer-requires
hand_peer-requires g c =
    subst (AllByRecursion g.T.Takes.may)
    (sym (line_items c.args.tables.now c.args.line.now.key (state_value c.args.line.now.state.now) c.deref.result.now (ap state_value c.in-Up.is ∙ ap up_state (sym c.deref.ensures))))
    c.requires
