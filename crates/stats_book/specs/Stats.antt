-- What a book of statistics is to a contract.
use Rattle.std.specs.Prelude.{ℕ, List, [], Option, None, Some, unwrap_or}
use Rattle.std.specs.Borrow.{Bor}
use Rattle.std.specs.BTreeMap.{insert_entry, is_at}
use Rattle.std.specs.List.{filter}
use Rattle.std.specs.Map.{lookup, remove_entry}
use Rattle.std.specs.Ordering.{is_lt}
use Rattle.bmp_specs.specs.Orders.{key_cmp}
use Rattle.bmp_specs.specs.Values.{KeyValue, StatValue}
use Rattle.bmp_specs.specs.StatKind.{KindValue, kind_cmp, kind_of}

-- the statistics of one peer, in the order of their kinds
abbrev pub PeerStats : Type 0
PeerStats = List (KindValue × ℕ)

-- the peers of a book, in their order
abbrev pub Stats : Type 0
Stats = List (KeyValue × PeerStats)

-- the statistics of a peer
abbrev pub stats_at : Stats → KeyValue → PeerStats
stats_at stats key = unwrap_or (lookup (is_at (key_cmp key)) stats) []

-- the value of a peer's statistic
abbrev pub value_at : Stats → KeyValue → KindValue → Option ℕ
value_at stats key kind = lookup (is_at (kind_cmp kind)) (stats_at stats key)

-- with the statistic in the place of its kind
abbrev pub with_value : PeerStats → StatValue → PeerStats
with_value values stat = insert_entry kind_cmp values (kind_of stat) stat.value

-- the book with the peer's statistic in the place of its kind
abbrev pub with_stat : Stats → KeyValue → StatValue → Stats
with_stat stats key stat = insert_entry key_cmp stats key (with_value (stats_at stats key) stat)

-- the book without the peer
abbrev pub without_peer : Stats → KeyValue → Stats
without_peer stats key = remove_entry (is_at (key_cmp key)) stats

-- the statistics after that of a kind, or all of them
abbrev pub after_place : Option (Bor StatValue) → PeerStats → PeerStats
after_place None values = values
after_place (Some place) values = filter (λ e. is_lt (kind_cmp (kind_of place.now) e.0)) values

-- a statistic as its kind and its value
abbrev pub kind_and_value : StatValue → KindValue × ℕ
kind_and_value stat = (kind_of stat, stat.value)
