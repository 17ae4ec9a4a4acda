-- The state of a lane as a full line tells it.
use Rattle.bmp_specs.specs.Session.{LaneStateValue, idle, live, shut}
use Rattle.reply_text.specs.declared.full_router.ConnectionState.{ConnectionState}
use Rattle.reply_text.specs.declared.full_router.ConnectionState.TheVariants.{Idle, Live, Closed}

abbrev pub lane_state : ConnectionState → LaneStateValue
lane_state Idle = idle
lane_state Live = live
lane_state (Closed cause) = shut cause
