use Rattle.std.proofs.Common.{ap, ◌∙◌, [], ◌∷◌}
use Rattle.std.proofs.lemmas.Result.{on_ok_weaker}
use Rattle.bmp_specs.specs.TreatAsWithdraw.{no_attributes}
use Rattle.drill_streams.specs.Drawn.{peer_of, prefix_of}
use Rattle.drill_streams.specs.Peers.{peer_key}
use Rattle.drill_streams.proofs.Written.{routes_put}
use Rattle.drill_streams.proofs.routes.put_withdrawal.Goals as goal

pub returns : goal.returns
returns c =
    let key = c.key_of.ensures ∙ ap peer_key c.peer_of.ensures.same in
    on_ok_weaker c.put_routes-4.result (routes_put (peer_key (peer_of c.args.word)) c.key_of.result (prefix_of c.args.word ∷ []) c.in_ok-list_of.field-0 [] c.new.result no_attributes c.none.result key c.in_ok-list_of.ensures c.new.ensures c.none.ensures c.args.out.now c.put_routes-4.new.out) c.put_routes-4.ensures.bytes
