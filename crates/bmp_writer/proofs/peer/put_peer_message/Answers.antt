use Rattle.std.proofs.Common.{ℕ, List, ◌++◌, ap, ◌∙◌, arith}
use Rattle.std.proofs.lemmas.Result.{on_ok_weaker}
use Rattle.bmp_writer.proofs.Peers.{peer_message_put}
use Rattle.bmp_writer.proofs.peer.put_peer_message.Goals as goal

pub returns-clause-ok : goal.returns-clause-ok
returns-clause-ok c =
    let (head, second, is) = c.put_peer_header-at.ensures.front in
    let first = c.put-at.ensures.front ∙ c.common_header.ensures in
    let joined = c.put-at-2.ensures.front ∙ ap (λ (l : List ℕ). l ++ c.args.rest.now) (second ∙ ap (λ (l : List ℕ). l ++ head) first) in
    let message = peer_message_put c.args.kind _ c.args.key.now c.args.view head c.args.rest.now _ is joined (omega arith) c.requires.short in
    on_ok_weaker c.extend.result (λ e. (_, e, message)) c.extend.ensures.ok
