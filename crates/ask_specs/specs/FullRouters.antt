-- `full routers`: the line of each router, from where its last connection came and when, what it counted, and which parts were
-- passed over. All of it stays after the close until the next connection is opened.
use Rattle.std.specs.Prelude.{◌≡◌, ℕ, ◌-◌, List, [], ◌∷◌, ◌++◌, length, map, take, Option, None, codes}
use Rattle.bmp_specs.specs.declared.wire.Family.{Family}
use Rattle.bmp_specs.specs.declared.wire.Family.TheVariants.{V4, V6}
use Rattle.bmp_specs.specs.AddressText.{address_text}
use Rattle.bmp_specs.specs.Counts.{CountsValue}
use Rattle.bmp_specs.specs.EscapedText.{escaped_text}
use Rattle.bmp_specs.specs.Lines.{line, cause_fields, further}
use Rattle.bmp_specs.specs.Listed.{AreAll}
use Rattle.bmp_specs.specs.NumberText.{number_text}
use Rattle.bmp_specs.specs.Openings.{nothing_told}
use Rattle.bmp_specs.specs.Orders.{key_cmp}
use Rattle.bmp_specs.specs.PeerLines.{closed_line, idle_line, live_line, named_field}
use Rattle.bmp_specs.specs.PeerUp.{IsUp}
use Rattle.bmp_specs.specs.QueryReply.{IsRouterLine}
use Rattle.bmp_specs.specs.Reply.{told_count}
use Rattle.bmp_specs.specs.RouteLine.{comma_list, text_or_absent}
use Rattle.bmp_specs.specs.Session.{LaneStateValue, idle, live, shut, description_of, name_of, state_of}
use Rattle.bmp_specs.specs.Values.{ClosingValue, EndpointValue, EntryValue, KeyValue, OpeningValue, closed}
use Rattle.ask_specs.specs.Connection.{FamilyCountValue, PassedValue, came_of, last_counts, last_effects, last_messages, malformed_of, passed_of, until_of}

-- the text of an address before a port: IPv6 stands in brackets
abbrev pub host_text : Family → List ℕ → List ℕ
host_text V4 text = text
host_text V6 text = codes "[" ++ (text ++ codes "]")

-- an address and a port: `ADDRESS:PORT`
abbrev pub endpoint_text : EndpointValue → List ℕ
endpoint_text e = host_text e.address.family (address_text e.address) ++ (codes ":" ++ number_text e.port)

-- from where a connection came, when it was opened, and when it was closed
abbrev pub opening_fields : OpeningValue → Option ℕ → List (List ℕ)
opening_fields came until =
    named_field (codes "from") (text_or_absent endpoint_text came.from)
    ∷ named_field (codes "since") (text_or_absent number_text came.since)
    ∷ named_field (codes "until") (text_or_absent number_text until)
    ∷ []

-- a family and its count: `AFI/SAFI:COUNT`
abbrev pub family_count_text : FamilyCountValue → List ℕ
family_count_text f = number_text f.family.afi ++ (codes "/" ++ (number_text f.family.safi ++ (codes ":" ++ number_text f.count)))

-- the parts that were passed over
abbrev pub passed_fields : PassedValue → List (List ℕ)
passed_fields p =
    named_field (codes "tlvs") (number_text p.tlvs)
    ∷ named_field (codes "stats") (number_text p.stats)
    ∷ named_field (codes "malformed") (number_text (malformed_of p))
    ∷ named_field (codes "others") (comma_list (map family_count_text p.others))
    ∷ named_field (codes "more") (number_text p.more)
    ∷ []

-- what a connection counted, and what its router calls itself, as the line of a live one has it
abbrev pub counted_fields : ℕ → CountsValue → List ℕ → List ℕ → List (List ℕ)
counted_fields up counts name descr =
    named_field (codes "peers") (number_text up)
    ∷ named_field (codes "messages") (number_text counts.messages)
    ∷ named_field (codes "bytes") (number_text counts.bytes)
    ∷ named_field (codes "orphans") (number_text counts.orphans)
    ∷ named_field (codes "unread") (number_text counts.unread)
    ∷ named_field (codes "mirrored") (number_text counts.mirrored)
    ∷ named_field (codes "passed") (number_text counts.passed)
    ∷ named_field (codes "name") (escaped_text name)
    ∷ named_field (codes "descr") (escaped_text descr)
    ∷ []

-- a connection: what it told and counted
pub record ConnectionValue : Type 0 where
  pub came : OpeningValue
  pub until : Option ℕ
  pub up : ℕ
  pub counts : CountsValue
  pub name : List ℕ
  pub descr : List ℕ
  pub passed : PassedValue

-- the line of a router, by the state of its lane
abbrev pub full_router_line : ℕ → LaneStateValue → ConnectionValue → List ℕ
full_router_line lane idle c = line (codes "router") (number_text lane ∷ codes "idle" ∷ opening_fields nothing_told None)
full_router_line lane live c = line (codes "router") (number_text lane ∷ codes "live" ∷ (counted_fields c.up c.counts c.name c.descr ++ (opening_fields c.came None ++ passed_fields c.passed)))
full_router_line lane (shut cause) c = line (codes "router") (number_text lane ∷ codes "closed" ∷ (cause_fields cause ++ (opening_fields c.came c.until ++ (counted_fields c.up c.counts c.name c.descr ++ passed_fields c.passed))))

-- the last connection of a lane with these entries
pub record IsLastConnection (entries : List EntryValue) (c : ConnectionValue) : Type 0 where
  pub came_is : c.came ≡ came_of entries
  pub until_is : c.until ≡ until_of entries
  pub known : List KeyValue
  pub are_up : AreAll (λ key. key) key_cmp (IsUp (last_effects entries)) known
  pub up_is : c.up ≡ told_count (length known)
  pub counts_are : c.counts ≡ last_counts entries
  pub name_is : c.name ≡ name_of (last_effects entries)
  pub descr_is : c.descr ≡ description_of (last_effects entries)
  pub passed_is : c.passed ≡ passed_of (last_messages entries)

-- the line of a lane
pub record AreFullRouterLines (lane : ℕ) (entries : List EntryValue) (lines : List (List ℕ)) : Type 0 where
  pub last : ConnectionValue
  pub is_last : IsLastConnection entries last
  pub told : lines ≡ full_router_line lane (state_of entries) last ∷ []

-- What a connection told and counted stays after it is closed: its line has it as before, and when that was.
abbrev pub StaysAfterClose : Type 0
StaysAfterClose = (entries : List EntryValue) (closing : ClosingValue) (c : ConnectionValue) → state_of entries ≡ live → IsLastConnection entries c
    → IsLastConnection (entries ++ closed closing ∷ []) (record c { until = closing.until })

-- the line of a lane as a plain `routers` tells it
abbrev pub plain_router_line : ℕ → LaneStateValue → ConnectionValue → List ℕ
plain_router_line lane idle c = idle_line lane
plain_router_line lane live c = live_line lane c.up c.counts c.name c.descr
plain_router_line lane (shut cause) c = closed_line lane cause

-- the fields behind it
abbrev pub behind_fields : LaneStateValue → ConnectionValue → List (List ℕ)
behind_fields idle c = opening_fields nothing_told None
behind_fields live c = opening_fields c.came None ++ passed_fields c.passed
behind_fields (shut cause) c = opening_fields c.came c.until ++ (counted_fields c.up c.counts c.name c.descr ++ passed_fields c.passed)

-- the line without its end, and then further fields
abbrev pub with_fields : List ℕ → List (List ℕ) → List ℕ
with_fields plain fields = take (length plain - 1) plain ++ further fields

-- The full line is the line of a plain `routers` on the same entries without its end, and then the fields.
pub record BeginsWithRouter : Type 0 where
  pub is_plain : (lane : ℕ) (entries : List EntryValue) (c : ConnectionValue) → IsLastConnection entries c → IsRouterLine lane entries (state_of entries) (plain_router_line lane (state_of entries) c)
  pub begins : (lane : ℕ) (state : LaneStateValue) (c : ConnectionValue) → full_router_line lane state c ≡ with_fields (plain_router_line lane state c) (behind_fields state c)
