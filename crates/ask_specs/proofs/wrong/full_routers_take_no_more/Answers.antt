use Rattle.ask_specs.proofs.WrongRouters.{full_routers_router, full_routers_through, steps_before_full_routers}
use Rattle.ask_specs.proofs.wrong.full_routers_take_no_more.Goals as goal

pub returns : goal.returns
returns c = (λ ask is. full_routers_through ask is, λ ask is. full_routers_router ask is, λ ask is. steps_before_full_routers ask is)
