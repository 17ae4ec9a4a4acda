-- What entries tell beside what most replies are made of: from where a connection came, when it was opened and closed, what
-- a Per-Peer Header told beside its peer, and the families that were passed over.
use Rattle.std.specs.Prelude.{ℕ, ◌↔◌, List, map}
use Rattle.bmp_specs.specs.MessageHead.{plain_head}
use Rattle.bmp_specs.specs.Openings.{closing_for, nothing_told}
use Rattle.bmp_specs.specs.Values.{EntryValue, opened, message, closed}
use Rattle.ask_specs.specs.AskReply.{IsAskReply}
use Rattle.ask_specs.specs.Asking.{AskValue, full_routers}

-- the entry without them
abbrev pub bare : EntryValue → EntryValue
bare (opened came) = opened nothing_told
bare (message head effects) = message (plain_head head.kind head.size) effects
bare (closed closing) = closed (closing_for closing.cause)

-- what is asked speaks of them
abbrev pub AsksFacts : AskValue → Type 0
AsksFacts full_routers = Unit {0}
AsksFacts _ = ⊥

-- No other reply depends on them: the replies on a history are those on the same history without them.
abbrev pub ForgetsFacts : Type 0
ForgetsFacts = (ask : AskValue) → ¬ (AsksFacts ask) → (lanes : List (List EntryValue)) (bytes : List ℕ) → IsAskReply ask lanes bytes ↔ IsAskReply ask (map (map bare) lanes) bytes
