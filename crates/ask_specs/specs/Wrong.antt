-- Wrong cases, at values: what isn't asked, and what would be lost if less were told or kept.
use Rattle.std.specs.Prelude.{◌≡◌, ℕ, false, List, [], ◌∷◌, Some, None, drop, replicate}
use Rattle.bmp_specs.specs.declared.peers.View.TheVariants.{InPre}
use Rattle.bmp_specs.specs.declared.wire.Family.TheVariants.{V4}
use Rattle.bmp_specs.specs.declared.wire.SegmentKind.TheVariants.{Sequence}
use Rattle.bmp_specs.specs.MessageHead.{plain_head}
use Rattle.bmp_specs.specs.Openings.{nothing_told}
use Rattle.bmp_specs.specs.RouteLine.{route_line}
use Rattle.bmp_specs.specs.Rows.{RowKeyValue, RowValue, HasRow}
use Rattle.bmp_specs.specs.Session.{session_effects}
use Rattle.bmp_specs.specs.Steps.{steps_of}
use Rattle.bmp_specs.specs.Values.{AddressValue, AttrsValue, EntryValue, KeyValue, OpenValue, OtherValue, PeerInfoValue, SegmentValue, opened, message, up, down, announce}
use Rattle.bmp_specs.specs.declared.peers.Detail.TheVariants.{Unread}
use Rattle.ask_specs.specs.Asking.{AskValue, IsAsk}
use Rattle.ask_specs.specs.FullLine.{IsGivenRow, full_line, further_fields}
use Rattle.ask_specs.specs.Mirror.{IsExact}
use Rattle.ask_specs.specs.StepRows.{AnnouncesOfUp, IsLeft}
use Rattle.ask_specs.specs.Traits.{CommunityValue}
use Rattle.ask_specs.specs.TraitText.{IsCommunityText}

-- the line asks nothing
abbrev pub AsksNothing : List ℕ → Type 0
AsksNothing line = (ask : AskValue) → ¬ (IsAsk line ask)

-- the text names no community
abbrev pub NamesNone : List ℕ → Type 0
NamesNone text = (community : CommunityValue) → ¬ (IsCommunityText text community)

-- ---- a route, with some of its attributes
abbrev pub some_address : AddressValue
some_address = record { family = V4; octets = 192 ∷ 0 ∷ 2 ∷ 1 ∷ replicate 12 0 }

abbrev pub some_key : KeyValue
some_key = record { kind = 0; distinguisher = 0; address = some_address }

abbrev pub some_place : RowKeyValue
some_place = record { key = some_key; view = InPre; nlri = record { prefix = record { address = record { family = V4; octets = 10 ∷ replicate 15 0 }; bits = 8 }; id = None } }

abbrev pub route_with : List SegmentValue → List OtherValue → AttrsValue
route_with path others = record { origin = Some 0; path = Some path; hop = None; med = None; pref = None; atomic = false; aggregator = None; communities = []; others = others }

abbrev pub row_with : List SegmentValue → List OtherValue → RowValue
row_with path others = record { row_key = some_place; route = route_with path others }

-- a large community with these flags
abbrev pub large_with : ℕ → OtherValue
large_with flags = record { flags = flags; code = 32; value = 0 ∷ 0 ∷ 251 ∷ 244 ∷ 0 ∷ 0 ∷ 0 ∷ 1 ∷ 0 ∷ 0 ∷ 0 ∷ 2 ∷ [] }

abbrev pub sequence : List ℕ → SegmentValue
sequence numbers = record { kind = Sequence; numbers = numbers }

-- Two routes that differ in the Partial bit of an attribute alone: all fields of them are the same but for `flags=`, and the
-- lines aren't.
pub record FlagsTell : Type 0 where
  pub differ : ¬ (row_with [] (large_with 192 ∷ []) ≡ row_with [] (large_with 224 ∷ []))
  pub line_is : (lane : ℕ) → route_line lane (row_with [] (large_with 192 ∷ [])) ≡ route_line lane (row_with [] (large_with 224 ∷ []))
  pub others_are : drop 1 (further_fields (route_with [] (large_with 192 ∷ []))) ≡ drop 1 (further_fields (route_with [] (large_with 224 ∷ [])))
  pub full_differ : ¬ (full_line 0 (row_with [] (large_with 192 ∷ [])) ≡ full_line 0 (row_with [] (large_with 224 ∷ [])))

-- one sequence of two numbers and two of one have the plain line in common, and not the full line
pub record DivisionTells : Type 0 where
  pub line_is : (lane : ℕ) → route_line lane (row_with (sequence (1 ∷ 2 ∷ []) ∷ []) []) ≡ route_line lane (row_with (sequence (1 ∷ []) ∷ sequence (2 ∷ []) ∷ []) [])
  pub full_differ : ¬ (full_line 0 (row_with (sequence (1 ∷ 2 ∷ []) ∷ []) []) ≡ full_line 0 (row_with (sequence (1 ∷ []) ∷ sequence (2 ∷ []) ∷ []) []))

-- ---- a lane whose peer goes down
abbrev pub some_open : OpenValue
some_open = record { version = 4; my_as = 64500; hold = 180; identifier = 192 ∷ 0 ∷ 2 ∷ 1 ∷ []; four = None; families = []; paths = []; extended = false }

abbrev pub some_info : PeerInfoValue
some_info = record { asn = 64500; identifier = 192 ∷ 0 ∷ 2 ∷ 1 ∷ []; local = some_address; local_port = 179; remote_port = 179; sent = some_open; received = some_open; filtered = false; table = None }

abbrev pub some_row : RowValue
some_row = row_with [] []

abbrev pub announced : List EntryValue
announced = opened nothing_told ∷ message (plain_head 3 100) (up some_key some_info ∷ []) ∷ message (plain_head 0 100) (announce some_key InPre some_place.nlri some_row.route ∷ []) ∷ []

abbrev pub went_down : List EntryValue
went_down = opened nothing_told ∷ message (plain_head 3 100) (up some_key some_info ∷ []) ∷ message (plain_head 0 100) (announce some_key InPre some_place.nlri some_row.route ∷ []) ∷ message (plain_head 2 100) (down some_key (record { reason = 4; detail = Unread }) ∷ []) ∷ []

-- A copy that takes no heed of `down` keeps the row, which was exact before, and is wrong then.
pub record DownTells : Type 0 where
  pub before : IsExact announced (record { number = 3; rows = some_row ∷ [] })
  pub after : ¬ (IsExact went_down (record { number = 4; rows = some_row ∷ [] }))
  pub none : IsExact went_down (record { number = 4; rows = [] })

-- Where a peer that isn't up announces, the steps leave a row that the lane hasn't: so `StepsLeaveRows` needs its premise.
abbrev pub unannounced : List EntryValue
unannounced = opened nothing_told ∷ message (plain_head 0 100) (announce some_key InPre some_place.nlri some_row.route ∷ []) ∷ []

pub record UpTells : Type 0 where
  pub is_left : IsLeft (steps_of unannounced) some_row
  pub isnt_there : ¬ (HasRow (session_effects unannounced) some_row)

-- ---- the premises can be met
-- a route with a path and an attribute that isn't read is as the readings give it, and so are the entries of a lane
pub record PremisesCanBeMet : Type 0 where
  pub is_given : IsGivenRow (row_with (sequence (1 ∷ 2 ∷ []) ∷ []) (large_with 192 ∷ []))
  pub of_up : AnnouncesOfUp announced
