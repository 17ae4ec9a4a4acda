-- The replies of our query language: what each query is answered on a history, of which a list has the entries of each lane.
use Rattle.std.specs.Prelude.{◌≡◌, ◌↔◌, ℕ, ◌-◌, ◌^◌, ◌==◌, Bool, IsTrue, MatchBool, nat_lt, List, [], ◌∷◌, ◌++◌, length, map, flat_map, sum_by}
use Rattle.std.specs.declared.cmp.Ordering.{Ordering}
use Rattle.std.specs.Ordering.{on, then_cmp}
use Rattle.bmp_specs.specs.declared.peers.View.{View}
use Rattle.bmp_specs.specs.declared.wire.Family.{Family}
use Rattle.bmp_specs.specs.Changes.{ChangeValue, AreChanges, oldest_kept}
use Rattle.bmp_specs.specs.ChangeLines.{steps_line, missed_lines, change_line}
use Rattle.bmp_specs.specs.Complete.{IsComplete}
use Rattle.bmp_specs.specs.Counts.{counts_of}
use Rattle.bmp_specs.specs.Listed.{AreAll, AreParallel}
use Rattle.bmp_specs.specs.Orders.{key_cmp, view_cmp, family_cmp}
use Rattle.bmp_specs.specs.PeerHeader.{IsViewOf}
use Rattle.bmp_specs.specs.PeerLines.{lane_line, count_line, idle_line, closed_line, live_line, up_line, down_line, mark_line, stat_line}
use Rattle.bmp_specs.specs.PeerUp.{IsUp, StateValue, up_state, down_state, IsPeerAs}
use Rattle.bmp_specs.specs.Query.{QueryValue, routers, cut, peers, marks, table, count, exact, longest, within, origin, stats, changes, quit}
use Rattle.bmp_specs.specs.QueryRows.{AsksRow}
use Rattle.bmp_specs.specs.Reply.{reply, told_count}
use Rattle.bmp_specs.specs.RouteLine.{route_line}
use Rattle.bmp_specs.specs.Rows.{RowValue, HasStatistic}
use Rattle.bmp_specs.specs.Selection.{SelectValue, IsPeerSelected, IsSelected}
use Rattle.bmp_specs.specs.Session.{LaneStateValue, idle, live, shut, state_of, session_effects, lane_name, lane_description}
use Rattle.bmp_specs.specs.StatKind.{kind_of, kind_cmp}
use Rattle.bmp_specs.specs.Steps.{steps_of}
use Rattle.bmp_specs.specs.TableRows.{AreRows}
use Rattle.bmp_specs.specs.Values.{EntryValue, KeyValue, PrefixValue, StatValue}

-- the greatest number that a count tells
abbrev pub most_told : ℕ
most_told = 2 ^ 64 - 1

-- whether the routes of a family that a peer has in a view are complete
pub record MarkValue : Type 0 where
  pub key : KeyValue
  pub view : View
  pub family : Family
  pub complete : Bool

-- by peer, then by view, then by family
abbrev pub mark_cmp : MarkValue → MarkValue → Ordering
mark_cmp = then_cmp (on (λ m. m.key) key_cmp) (then_cmp (on (λ m. m.view) view_cmp) (on (λ m. m.family) family_cmp))

-- the peer is up and has the view, and this is whether its routes are complete there
pub record IsMark (entries : List EntryValue) (m : MarkValue) : Type 0 where
  pub up : IsUp (session_effects entries) m.key
  pub view_is : IsViewOf m.key m.view
  pub complete_is : IsTrue m.complete ↔ IsComplete (session_effects entries) m.key m.view m.family

-- the line of a lane in `routers`, by its state
abbrev pub IsRouterLine : ℕ → List EntryValue → LaneStateValue → List ℕ → Type 0
IsRouterLine lane entries idle text = text ≡ idle_line lane
IsRouterLine lane entries (shut cause) text = text ≡ closed_line lane cause
IsRouterLine lane entries live text = (up : List KeyValue) × AreAll (λ key. key) key_cmp (IsUp (session_effects entries)) up
    × (text ≡ live_line lane (told_count (length up)) (counts_of entries) (lane_name entries) (lane_description entries))

-- the line of a peer, by its state
abbrev pub peer_line : ℕ → KeyValue × StateValue → List ℕ
peer_line lane (key, up_state info) = up_line lane key info
peer_line lane (key, down_state info) = down_line lane key info

-- the lines of the peers that are selected, by peer
pub record ArePeerLines (lane : ℕ) (entries : List EntryValue) (Selects : KeyValue → Type 0) (lines : List (List ℕ)) : Type 0 where
  pub known : List (KeyValue × StateValue)
  pub are_known : AreAll (λ p. p.0) key_cmp (λ p. IsPeerAs (session_effects entries) p.0 p.1 × Selects p.0) known
  pub told : lines ≡ map (peer_line lane) known

-- the lines of the marks that are selected, by peer, view and family
pub record AreMarkLines (lane : ℕ) (entries : List EntryValue) (select : SelectValue) (lines : List (List ℕ)) : Type 0 where
  pub known : List MarkValue
  pub are_known : AreAll (λ m. m) mark_cmp (λ m. IsMark entries m × IsSelected select lane m.key m.view m.family) known
  pub told : lines ≡ map (λ m. mark_line lane m.key m.view m.family m.complete) known

-- the lines of a peer's statistics, by code and family
pub record AreStatLines (lane : ℕ) (entries : List EntryValue) (key : KeyValue) (lines : List (List ℕ)) : Type 0 where
  pub known : List StatValue
  pub are_known : AreAll kind_of kind_cmp (HasStatistic (session_effects entries) key) known
  pub told : lines ≡ map (stat_line lane key) known

-- The lines of the changes of a prefix from the step of this number on: how many steps the lane made, how many of those that
-- are asked for are no longer kept, and the changes. Past the greatest number of 64 bits no step is told.
pub record AreChangeLines (lane : ℕ) (entries : List EntryValue) (from : ℕ) (prefix : PrefixValue) (lines : List (List ℕ)) : Type 0 where
  pub known : List ChangeValue
  pub are_known : AreChanges entries from prefix known
  pub told : let total = length (steps_of entries) in
      MatchBool (nat_lt total most_told) (lines ≡ steps_line lane total ∷ (missed_lines from (oldest_kept total) ++ map (change_line lane) known)) (lines ≡ steps_line lane most_told ∷ [])

-- the lines of the rows that the query asks for, by peer, view, prefix and path identifier
pub record AreRowLines (query : QueryValue) (lane : ℕ) (entries : List EntryValue) (lines : List (List ℕ)) : Type 0 where
  pub rows : List RowValue
  pub are_rows : AreRows (AsksRow query lane (session_effects entries)) (session_effects entries) rows
  pub told : lines ≡ map (route_line lane) rows

-- the lines of a lane in the reply of a query that tells of each lane apart
abbrev pub AreLaneLines : QueryValue → ℕ → List EntryValue → List (List ℕ) → Type 0
AreLaneLines routers lane entries lines = (text : List ℕ) × IsRouterLine lane entries (state_of entries) text × (lines ≡ text ∷ [])
AreLaneLines cut lane entries lines = lines ≡ lane_line lane (length entries) ∷ []
AreLaneLines (peers router peer) lane entries lines = ArePeerLines lane entries (IsPeerSelected router peer lane) lines
AreLaneLines (marks select) lane entries lines = AreMarkLines lane entries select lines
AreLaneLines (table select) lane entries lines = AreRowLines (table select) lane entries lines
AreLaneLines (exact prefix select) lane entries lines = AreRowLines (exact prefix select) lane entries lines
AreLaneLines (longest address select) lane entries lines = AreRowLines (longest address select) lane entries lines
AreLaneLines (within prefix select) lane entries lines = AreRowLines (within prefix select) lane entries lines
AreLaneLines (origin asn select) lane entries lines = AreRowLines (origin asn select) lane entries lines
AreLaneLines (stats key) lane entries lines = AreStatLines lane entries key lines
AreLaneLines (changes number from prefix) lane entries lines = MatchBool (number == lane) (AreChangeLines lane entries from prefix lines) (lines ≡ [])
AreLaneLines (count select) lane entries lines = ⊥
AreLaneLines quit lane entries lines = ⊥

-- lanes with these entries have these lines in all, lane after lane
pub record AreLines (query : QueryValue) (lanes : List (List EntryValue)) (lines : List (List ℕ)) : Type 0 where
  pub parts : List (List (List ℕ))
  pub each : AreParallel (AreLaneLines query) lanes parts
  pub all : lines ≡ flat_map (λ part. part) parts

-- lanes with these entries have these rows in all that the query asks for, lane after lane
pub record AreAllRows (query : QueryValue) (lanes : List (List EntryValue)) (rows : List RowValue) : Type 0 where
  pub parts : List (List RowValue)
  pub each : AreParallel (λ lane entries part. AreRows (AsksRow query lane (session_effects entries)) (session_effects entries) part) lanes parts
  pub all : rows ≡ flat_map (λ part. part) parts

-- `count` has one row, which tells how many rows `table` has with the same selectors
pub record IsCountLine (select : SelectValue) (lanes : List (List EntryValue)) (lines : List (List ℕ)) : Type 0 where
  pub rows : List RowValue
  pub are_rows : AreAllRows (count select) lanes rows
  pub told : lines ≡ count_line (told_count (length rows)) ∷ []

-- the lines of the rows of a query
abbrev pub AreReplyLines : QueryValue → List (List EntryValue) → List (List ℕ) → Type 0
AreReplyLines (count select) lanes lines = IsCountLine select lanes lines
AreReplyLines routers lanes lines = AreLines routers lanes lines
AreReplyLines cut lanes lines = AreLines cut lanes lines
AreReplyLines (peers router peer) lanes lines = AreLines (peers router peer) lanes lines
AreReplyLines (marks select) lanes lines = AreLines (marks select) lanes lines
AreReplyLines (table select) lanes lines = AreLines (table select) lanes lines
AreReplyLines (exact prefix select) lanes lines = AreLines (exact prefix select) lanes lines
AreReplyLines (longest address select) lanes lines = AreLines (longest address select) lanes lines
AreReplyLines (within prefix select) lanes lines = AreLines (within prefix select) lanes lines
AreReplyLines (origin asn select) lanes lines = AreLines (origin asn select) lanes lines
AreReplyLines (stats key) lanes lines = AreLines (stats key) lanes lines
AreReplyLines (changes number from prefix) lanes lines = AreLines (changes number from prefix) lanes lines
-- the end of a session has no reply
AreReplyLines quit lanes lines = ⊥

-- The bytes are the reply of the query on a history whose lanes have these entries: the history's revision, which is the
-- number of all entries, the lines of the rows, and their number, at most the greatest of 64 bits.
pub record IsReply (query : QueryValue) (lanes : List (List EntryValue)) (bytes : List ℕ) : Type 0 where
  pub lines : List (List ℕ)
  pub are_lines : AreReplyLines query lanes lines
  pub told : bytes ≡ reply (sum_by length lanes) lines
