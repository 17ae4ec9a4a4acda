-- The lines that tell of a router and of its peers, in a form of ours. N is the lane.
use Rattle.std.specs.Prelude.{ℕ, Bool, true, false, List, [], ◌∷◌, ◌++◌, Option, Some, None, ◌==◌, if◌then◌else◌, codes}
use Rattle.std.specs.Option.{option_map_or}
use Rattle.bmp_specs.specs.declared.peers.Detail.{Detail}
use Rattle.bmp_specs.specs.declared.peers.Detail.TheVariants.{Notified, Event, Unread}
use Rattle.bmp_specs.specs.declared.registry.Shape.{Shape}
use Rattle.bmp_specs.specs.declared.registry.Shape.TheVariants.{Counter32, Gauge64, FamilyGauge64, Exact, Multiple, Free}
use Rattle.bmp_specs.specs.declared.causes.Cause.{Cause}
use Rattle.bmp_specs.specs.declared.peers.View.{View}
use Rattle.bmp_specs.specs.declared.wire.Family.{Family}
use Rattle.bmp_specs.specs.declared.wire.Family.TheVariants.{V4, V6}
use Rattle.bmp_specs.specs.AddressText.{address_text, text_in}
use Rattle.bmp_specs.specs.Counts.{CountsValue}
use Rattle.bmp_specs.specs.EscapedText.{escaped_text}
use Rattle.bmp_specs.specs.Lines.{line, number_line, cause_fields}
use Rattle.bmp_specs.specs.NumberText.{number_text}
use Rattle.bmp_specs.specs.PeerHeader.{loc_rib}
use Rattle.bmp_specs.specs.PeerText.{key_text, view_text}
use Rattle.bmp_specs.specs.Registries.{CodeRowValue, first_row, peer_down_reasons, statistics_types}
use Rattle.bmp_specs.specs.RouteLine.{text_or_absent, yes_or_no}
use Rattle.bmp_specs.specs.Values.{KeyValue, PeerInfoValue, DownInfoValue, StatValue}

-- how many entries a lane has: `lane N ENTRIES`
abbrev pub lane_line : ℕ → ℕ → List ℕ
lane_line lane entries = line (codes "lane") (number_text lane ∷ number_text entries ∷ [])

-- how many rows there are: `count C`
abbrev pub count_line : ℕ → List ℕ
count_line rows = number_line (codes "count") rows

-- a field of a name and a value: `NAME=VALUE`
abbrev pub named_field : List ℕ → List ℕ → List ℕ
named_field name value = name ++ (codes "=" ++ value)

-- a lane that never had a connection: `router N idle`
abbrev pub idle_line : ℕ → List ℕ
idle_line lane = line (codes "router") (number_text lane ∷ codes "idle" ∷ [])

-- a lane whose last connection was closed, and its cause: `router N closed CAUSE`
abbrev pub closed_line : ℕ → Cause → List ℕ
closed_line lane cause = line (codes "router") (number_text lane ∷ codes "closed" ∷ cause_fields cause)

-- a lane with a connection: how many of its peers are up, its counts, sysName and sysDescr (RFC 7854, section 4.4)
abbrev pub live_line : ℕ → ℕ → CountsValue → List ℕ → List ℕ → List ℕ
live_line lane up counts name descr = line (codes "router") (
    number_text lane
    ∷ codes "live"
    ∷ named_field (codes "peers") (number_text up)
    ∷ named_field (codes "messages") (number_text counts.messages)
    ∷ named_field (codes "bytes") (number_text counts.bytes)
    ∷ named_field (codes "orphans") (number_text counts.orphans)
    ∷ named_field (codes "unread") (number_text counts.unread)
    ∷ named_field (codes "mirrored") (number_text counts.mirrored)
    ∷ named_field (codes "passed") (number_text counts.passed)
    ∷ named_field (codes "name") (escaped_text name)
    ∷ named_field (codes "descr") (escaped_text descr)
    ∷ [])

-- what a Loc-RIB tells beside its session: whether it is filtered, and its table name (RFC 9069, sections 4.2 and 5.2.1)
abbrev pub table_fields : ℕ → PeerInfoValue → List (List ℕ)
table_fields kind info =
    if kind == loc_rib then named_field (codes "filtered") (yes_or_no info.filtered) ∷ named_field (codes "table") (text_or_absent escaped_text info.table) ∷ [] else []

-- a peer that is up (RFC 7854, section 4.10): its AS, its BGP identifier, the local address, the local and the remote port
abbrev pub up_line : ℕ → KeyValue → PeerInfoValue → List ℕ
up_line lane key info = line (codes "peer") (
    number_text lane
    ∷ key_text key
    ∷ codes "up"
    ∷ named_field (codes "asn") (number_text info.asn)
    ∷ named_field (codes "id") (text_in V4 info.identifier)
    ∷ named_field (codes "local") (address_text info.local)
    ∷ named_field (codes "ports") (number_text info.local_port ++ (codes "," ++ number_text info.remote_port))
    ∷ table_fields key.kind info)

-- the name that a registry has for a code
abbrev pub name_or_other : Option CodeRowValue → List ℕ
name_or_other None = codes "other"
name_or_other (Some row) = row.name

-- what a Peer Down told beside its reason
abbrev pub detail_text : Detail → List ℕ
detail_text (Notified code sub) = named_field (codes "notification") (number_text code ++ (codes "/" ++ number_text sub))
detail_text (Event code) = named_field (codes "event") (number_text code)
detail_text Unread = codes "-"

-- a peer that went down (RFC 7854, section 4.9): the reason, its name, and what was told beside it
abbrev pub down_line : ℕ → KeyValue → DownInfoValue → List ℕ
down_line lane key info = line (codes "peer") (
    number_text lane
    ∷ key_text key
    ∷ codes "down"
    ∷ number_text info.reason
    ∷ name_or_other (first_row info.reason peer_down_reasons)
    ∷ detail_text info.detail
    ∷ [])

-- the text of a family
abbrev pub family_text : Family → List ℕ
family_text V4 = codes "4"
family_text V6 = codes "6"

abbrev pub mark_text : Bool → List ℕ
mark_text true = codes "complete"
mark_text false = codes "waiting"

-- whether the routes of a family that a peer has in a view are complete (RFC 4724, section 2)
abbrev pub mark_line : ℕ → KeyValue → View → Family → Bool → List ℕ
mark_line lane key view family complete = line (codes "mark") (number_text lane ∷ key_text key ∷ view_text view ∷ family_text family ∷ mark_text complete ∷ [])

-- the family that a gauge of one family counts: `AFI/SAFI`
abbrev pub family_fields : Shape → StatValue → List (List ℕ)
family_fields FamilyGauge64 stat = (number_text stat.afi ++ (codes "/" ++ number_text stat.safi)) ∷ []
family_fields Counter32 stat = []
family_fields Gauge64 stat = []
family_fields (Exact count) stat = []
family_fields (Multiple count) stat = []
family_fields Free stat = []

-- the fields of a statistic after its code: its name, its family where it has one, and its value
abbrev pub stat_fields : Option CodeRowValue → StatValue → List (List ℕ)
stat_fields row stat = name_or_other row ∷ (option_map_or (λ r. family_fields r.shape stat) row [] ++ number_text stat.value ∷ [])

-- a statistic of a peer (RFC 7854, section 4.8)
abbrev pub stat_line : ℕ → KeyValue → StatValue → List ℕ
stat_line lane key stat = line (codes "stat") (number_text lane ∷ key_text key ∷ number_text stat.code ∷ stat_fields (first_row stat.code statistics_types) stat)
