use Rattle.std.proofs.Common.{refl, [], ◌∷◌, ◌∙◌}
use Rattle.ask_specs.specs.FullRouters.{full_router_line}
use Rattle.reply_text.specs.FullRouter.{lane_state}
use Rattle.query_eval.proofs.FullRoutersTold.{are_full_router_lines, full_router_lines_one}
use Rattle.query_eval.proofs.Leading.{puts_own, one_line, one_line_failed}
use Rattle.query_eval.proofs.full_routers.put_full_routers.Goals as goal

pub returns-in_err-put_full_router : goal.returns-in_err-put_full_router
returns-in_err-put_full_router g c =
    let lane = c.args.lane in
    let state = lane_state c.connection_state.result in
    let line = full_router_line lane state c.connection.result in
    puts_own _ _ (line ∷ []) _ _ _ (are_full_router_lines lane c.args.tables.now state c.connection.result (c.connection_state.ensures ∙ c.state.ensures) c.connection.ensures) (λ entries. full_router_lines_one entries lane)
    (one_line_failed _ _ line (line ∷ []) _ _ c.in_err-put_full_router.ensures c.from_residual.ensures.0 refl)

pub returns : goal.returns
returns g c =
    let lane = c.args.lane in
    let state = lane_state c.connection_state.result in
    let line = full_router_line lane state c.connection.result in
    puts_own _ _ (line ∷ []) _ _ _ (are_full_router_lines lane c.args.tables.now state c.connection.result (c.connection_state.ensures ∙ c.state.ensures) c.connection.ensures) (λ entries. full_router_lines_one entries lane)
    (one_line _ _ line (line ∷ []) c.in_ok-put_full_router.ensures refl)
