use Rattle.std.proofs.Common.{refl, [], ◌∷◌}
use Rattle.reply_text.specs.Router.{router_line}
use Rattle.query_eval.proofs.Leading.{puts_own, one_line, one_line_failed}
use Rattle.query_eval.proofs.PeersTold.{router_lines_one}
use Rattle.query_eval.proofs.routers.put_routers.Goals as goal

pub returns-in_err-put_router : goal.returns-in_err-put_router
returns-in_err-put_router g c =
    let line = router_line c.args.lane c.router_state.result in
    puts_own _ _ (line ∷ []) _ _ _ (λ entries stands. (line, c.router_state.ensures c.args.lane entries stands, refl)) (λ entries. router_lines_one c.args.lane entries)
    (one_line_failed _ _ line (line ∷ []) _ _ c.in_err-put_router.ensures c.from_residual.ensures.0 refl)

pub returns : goal.returns
returns g c =
    let line = router_line c.args.lane c.router_state.result in
    puts_own _ _ (line ∷ []) _ _ _ (λ entries stands. (line, c.router_state.ensures c.args.lane entries stands, refl)) (λ entries. router_lines_one c.args.lane entries)
    (one_line _ _ line (line ∷ []) c.in_ok-put_router.ensures refl)
