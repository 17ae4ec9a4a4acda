-- The line of a router by its state.
use Rattle.std.specs.Prelude.{ℕ, List}
use Rattle.bmp_specs.specs.PeerLines.{idle_line, closed_line, live_line}
use Rattle.reply_text.specs.declared.router.RouterState.{RouterState}
use Rattle.reply_text.specs.declared.router.RouterState.TheVariants.{Idle, Closed, Live}

abbrev pub router_line : ℕ → RouterState → List ℕ
router_line lane Idle = idle_line lane
router_line lane (Closed cause) = closed_line lane cause
router_line lane (Live line) = live_line lane line.peers line.counts line.name.now line.descr.now
