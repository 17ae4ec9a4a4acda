use Rattle.ask_specs.proofs.RouterLaws.{begins_with_router}
use Rattle.ask_specs.proofs.laws.full_routers_begin_with_routers.Goals as goal

pub returns : goal.returns
returns c = begins_with_router
