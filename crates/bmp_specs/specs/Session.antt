-- The present session of a router, a notion of ours, read off all entries of its lane: the messages since the last opening, where no
-- closing stands after it.
use Rattle.std.specs.Prelude.{ℕ, List, [], ◌∷◌, Option, Some, None, filter_map, flat_map, unwrap_or}
use Rattle.std.specs.Option.{option_or, option_and_then}
use Rattle.std.specs.List.{last_or}
use Rattle.bmp_specs.specs.declared.causes.Cause.{Cause}
use Rattle.bmp_specs.specs.Values.{EffectValue, EntryValue, opened, message, closed, named, described}

-- the entries after the last opening, where there is an opening
abbrev pub since_opening : List EntryValue → Option (List EntryValue)
since_opening [] = None
since_opening (opened came ∷ entries) = option_or (since_opening entries) (Some entries)
since_opening (message head effects ∷ entries) = since_opening entries
since_opening (closed closing ∷ entries) = since_opening entries

abbrev pub cause_in : EntryValue → Option Cause
cause_in (opened came) = None
cause_in (message head effects) = None
cause_in (closed closing) = Some closing.cause

-- the cause of the last closing
abbrev pub last_cause : List EntryValue → Option Cause
last_cause entries = last_or None (filter_map cause_in entries)

-- the entries, unless a connection was closed among them
abbrev pub unless_closed : List EntryValue → Option Cause → Option (List EntryValue)
unless_closed entries None = Some entries
unless_closed entries (Some cause) = None

abbrev pub present_session : List EntryValue → Option (List EntryValue)
present_session entries = option_and_then (λ session. unless_closed session (last_cause session)) (since_opening entries)

-- the state of a lane: it never had an opening, it has a session, or its last connection was closed for this cause
pub data LaneStateValue : Type 0 where
  idle : LaneStateValue
  live : LaneStateValue
  shut : Cause → LaneStateValue

abbrev pub state_by : Option Cause → LaneStateValue
state_by None = live
state_by (Some cause) = shut cause

abbrev pub state_since : Option (List EntryValue) → LaneStateValue
state_since None = idle
state_since (Some entries) = state_by (last_cause entries)

abbrev pub state_of : List EntryValue → LaneStateValue
state_of entries = state_since (since_opening entries)

abbrev pub effects_in : EntryValue → List EffectValue
effects_in (opened came) = []
effects_in (message head effects) = effects
effects_in (closed closing) = []

-- the messages of the present session, none without a session
abbrev pub session_messages : List EntryValue → List EntryValue
session_messages entries = unwrap_or (present_session entries) []

-- the effects of the present session's messages, in order
abbrev pub session_effects : List EntryValue → List EffectValue
session_effects entries = flat_map effects_in (session_messages entries)

abbrev pub name_in : EffectValue → Option (List ℕ)
name_in (named bytes) = Some bytes
name_in _ = None

abbrev pub description_in : EffectValue → Option (List ℕ)
description_in (described bytes) = Some bytes
description_in _ = None

-- sysName (RFC 7854, section 4.4): the last one, or none
abbrev pub name_of : List EffectValue → List ℕ
name_of effects = unwrap_or (last_or None (filter_map name_in effects)) []

-- sysDescr (RFC 7854, section 4.4): the last one, or none
abbrev pub description_of : List EffectValue → List ℕ
description_of effects = unwrap_or (last_or None (filter_map description_in effects)) []

-- the sysName of the present session, none without a session
abbrev pub lane_name : List EntryValue → List ℕ
lane_name entries = name_of (session_effects entries)

-- the sysDescr of the present session, none without a session
abbrev pub lane_description : List EntryValue → List ℕ
lane_description entries = description_of (session_effects entries)
