use Rattle.std.proofs.Common.{ap, ◌∙◌, [], ◌∷◌}
use Rattle.std.proofs.lemmas.Result.{on_ok_weaker}
use Rattle.drill_streams.specs.Drawn.{attrs_of, peer_of, prefix_of}
use Rattle.drill_streams.specs.Peers.{peer_key}
use Rattle.drill_streams.proofs.Written.{routes_put}
use Rattle.drill_streams.proofs.routes.put_announcement.Goals as goal

pub returns : goal.returns
returns c =
    let key = c.key_of.ensures ∙ ap peer_key c.peer_of.ensures.same in
    on_ok_weaker c.put_routes-4.result (routes_put (peer_key (peer_of c.args.word)) c.key_of.result [] c.new.result (prefix_of c.args.word ∷ []) c.in_ok-list_of.field-0 (attrs_of c.args.word) c.in_ok-attrs_of.field-0 key c.new.ensures c.in_ok-list_of.ensures c.in_ok-attrs_of.ensures c.args.out.now c.put_routes-4.new.out) c.put_routes-4.ensures.bytes
