-- There is a reply on all entries that a cut stands for.
use Rattle.std.proofs.Common.{◌≡◌, ℕ, ◌<◌, Bool, List, [], ◌∷◌, length, Option, refl, ap, arith}
use Rattle.std.specs.Prelude.{sum_by, flat_map, slice_index_or}
use Rattle.ask_specs.specs.Asking.{plain, rows as asked_rows, steps as steps_asked, full_marks, full_routers}
use Rattle.ask_specs.specs.AskReply.{AreAskedLaneLines, AreAskedLines, AreFurtherLines, IsAskReply, IsAskedCount}
use Rattle.ask_specs.specs.Traits.{TraitsValue, no_traits}
use Rattle.bmp_specs.specs.PeerLines.{count_line}
use Rattle.bmp_specs.specs.Query.{QueryValue, routers, cut as cut_query, peers, marks, table, count, exact, longest, within, origin, stats, changes, quit}
use Rattle.bmp_specs.specs.QueryReply.{AreLaneLines, AreLines, AreReplyLines, IsReply}
use Rattle.bmp_specs.specs.Reply.{reply, told_count}
use Rattle.bmp_specs.specs.Rows.{RowValue}
use Rattle.bmp_specs.specs.Selection.{SelectValue}
use Rattle.bmp_specs.specs.Values.{EntryValue, PrefixValue}
use Rattle.query_lang.specs.Asks.{ask_value, row_query_value}
use Rattle.query_lang.specs.TraitValues.{traits_value}
use Rattle.query_lang.specs.declared.ask.RowsAsk.{RowsAsk}
use Rattle.query_lang.specs.declared.traits.Traits.{Traits}
use Rattle.query_lang.specs.declared.ask.Ask.{Ask}
use Rattle.query_lang.specs.declared.ask.Ask.TheVariants.{Query, Rows, Count, Changes, FullMarks, FullRouters}
use Rattle.query_lang.specs.declared.ask.RowQuery.{RowQuery}
use Rattle.query_lang.specs.declared.ask.RowQuery.TheVariants.{Table, Exact, Longest, Within, Origin}
use Rattle.query_lang.specs.Queries.{query_value}
use Rattle.router_tables.specs.Tables.{TablesValue}
use Rattle.query_eval.specs.Puts.{AreAskedRows, AreKeptRows}
use Rattle.query_eval.specs.Replies.{StandsForLane, StandForLanes, AreLanes, TellsByLane}
use Rattle.query_eval.proofs.LaneSteps.{gather}
use Rattle.query_eval.proofs.LinesThere.{changes_lines_there, full_marks_lines_there, full_routers_lines_there, lines_there, rows_lines_there, rows_there}
use Rattle.query_eval.proofs.RowAnswers.{rows_plain}

module _ (cut : List (TablesValue × ℕ)) (lanes : List (List EntryValue)) (stand : StandForLanes cut lanes) where
  stands_at : (k : ℕ) (d : List EntryValue) → k < length lanes → (x : TablesValue × ℕ) → StandsForLane (slice_index_or cut k x) (slice_index_or lanes k d)
  stands_at k d small x = stand.each k x d (let c = stand.count in omega (arith, c, small))

  -- what each lane has, where its tables stand for its entries
  module _ (Fit : ℕ → List EntryValue → List (List ℕ) → Type 0) (there : (number : ℕ) (lane : TablesValue × ℕ) (entries : List EntryValue) → StandsForLane lane entries → (lines : List (List ℕ)) × Fit number entries lines) where
    -- the tables of some lane, where there is one
    lane_lines : (k : ℕ) (d : List EntryValue) → k < length lanes → (lines : List (List ℕ)) × Fit k (slice_index_or lanes k d) lines
    lane_lines k d small = go cut stand.count (stands_at k d small)
      where
        go : (values : List (TablesValue × ℕ)) → length lanes ≡ length values → ((x : TablesValue × ℕ) → StandsForLane (slice_index_or cut k x) (slice_index_or lanes k d)) → (lines : List (List ℕ)) × Fit k (slice_index_or lanes k d) lines
        go [] as_many stands = absurd (omega (arith, as_many, small))
        go (x ∷ values) as_many stands = there k (slice_index_or cut k x) (slice_index_or lanes k d) (stands x)

    all_lines : (lines : List (List ℕ)) × AreLanes Fit lanes lines
    all_lines = let g = gather Fit lanes lane_lines in (flat_map (λ p. p) g.0, record { parts = g.0; each = g.1; all = refl })

  lane_rows : (select : SelectValue) (traits : TraitsValue) (k : ℕ) (d : List EntryValue) → k < length lanes → (rows : List RowValue) × AreKeptRows (count select) traits k (slice_index_or lanes k d) rows
  lane_rows select traits k d small = go cut stand.count (stands_at k d small)
    where
      go : (values : List (TablesValue × ℕ)) → length lanes ≡ length values → ((x : TablesValue × ℕ) → StandsForLane (slice_index_or cut k x) (slice_index_or lanes k d)) → (rows : List RowValue) × AreKeptRows (count select) traits k (slice_index_or lanes k d) rows
      go [] as_many stands = absurd (omega (arith, as_many, small))
      go (x ∷ values) as_many stands = rows_there select traits k (slice_index_or cut k x) (slice_index_or lanes k d) (stands x)

  plain_rows : (select : SelectValue) (k : ℕ) (d : List EntryValue) → k < length lanes → (rows : List RowValue) × AreAskedRows (count select) k (slice_index_or lanes k d) rows
  plain_rows select k d small = let h = lane_rows select no_traits k d small in (h.0, rows_plain (count select) k (slice_index_or lanes k d) h.0 h.1)

  by_lanes : (query : QueryValue) → TellsByLane query → (lines : List (List ℕ)) × AreLines query lanes lines
  by_lanes query tells = let h = all_lines (AreLaneLines query) (lines_there query tells) in (h.0, record { parts = h.1.parts; each = h.1.each; all = h.1.all })

  rows_by_lanes : (ask : RowsAsk) → (lines : List (List ℕ)) × AreAskedLines (ask_value (Rows ask)) lanes lines
  rows_by_lanes ask = let h = all_lines (AreAskedLaneLines (ask_value (Rows ask))) (rows_lines_there ask) in (h.0, record { parts = h.1.parts; each = h.1.each; all = h.1.all })

  reply_lines : (query : QueryValue) → (query ≡ quit → ⊥) → (lines : List (List ℕ)) × AreReplyLines query lanes lines
  reply_lines routers asks = by_lanes routers tt
  reply_lines cut_query asks = by_lanes cut_query tt
  reply_lines (peers router peer) asks = by_lanes (peers router peer) tt
  reply_lines (marks select) asks = by_lanes (marks select) tt
  reply_lines (table select) asks = by_lanes (table select) tt
  reply_lines (exact prefix select) asks = by_lanes (exact prefix select) tt
  reply_lines (longest address select) asks = by_lanes (longest address select) tt
  reply_lines (within prefix select) asks = by_lanes (within prefix select) tt
  reply_lines (origin asn select) asks = by_lanes (origin asn select) tt
  reply_lines (stats key) asks = by_lanes (stats key) tt
  reply_lines (changes number from prefix) asks = by_lanes (changes number from prefix) tt
  reply_lines (count select) asks =
      let g = gather (AreAskedRows (count select)) lanes (plain_rows select) in
      (count_line (told_count (length (flat_map (λ (p : List RowValue). p) g.0))) ∷ [], record { rows = flat_map (λ p. p) g.0; are_rows = record { parts = g.0; each = g.1; all = refl }; told = refl })
  reply_lines quit asks = absurd (asks refl)

  rows_lines : (with_steps full : Bool) (rows : RowQuery) (traits : Traits) → (lines : List (List ℕ)) × AreFurtherLines (asked_rows with_steps full (row_query_value rows) (traits_value traits)) lanes lines
  rows_lines with_steps full (Table select) traits = rows_by_lanes (record { steps = with_steps; full = full; query = Table select; traits = traits })
  rows_lines with_steps full (Exact prefix select) traits = rows_by_lanes (record { steps = with_steps; full = full; query = Exact prefix select; traits = traits })
  rows_lines with_steps full (Longest address select) traits = rows_by_lanes (record { steps = with_steps; full = full; query = Longest address select; traits = traits })
  rows_lines with_steps full (Within prefix select) traits = rows_by_lanes (record { steps = with_steps; full = full; query = Within prefix select; traits = traits })
  rows_lines with_steps full (Origin asn select) traits = rows_by_lanes (record { steps = with_steps; full = full; query = Origin asn select; traits = traits })

  count_lines : (select : SelectValue) (traits : TraitsValue) → (lines : List (List ℕ)) × IsAskedCount select traits lanes lines
  count_lines select traits =
      let g = gather (AreKeptRows (count select) traits) lanes (lane_rows select traits) in
      (count_line (told_count (sum_by length g.0)) ∷ [], record { parts = g.0; each = g.1; told = refl })

  changes_lines : (full : Bool) (asked from : ℕ) (prefix : Option PrefixValue) → (lines : List (List ℕ)) × AreFurtherLines (steps_asked full asked from prefix) lanes lines
  changes_lines full asked from prefix = let h = all_lines (AreAskedLaneLines (steps_asked full asked from prefix)) (changes_lines_there full asked from prefix) in (h.0, record { parts = h.1.parts; each = h.1.each; all = h.1.all })

  marks_lines : (select : SelectValue) → (lines : List (List ℕ)) × AreFurtherLines (full_marks select) lanes lines
  marks_lines select = let h = all_lines (AreAskedLaneLines (full_marks select)) (full_marks_lines_there select) in (h.0, record { parts = h.1.parts; each = h.1.each; all = h.1.all })

  routers_lines : (lines : List (List ℕ)) × AreFurtherLines full_routers lanes lines
  routers_lines = let h = all_lines (AreAskedLaneLines full_routers) full_routers_lines_there in (h.0, record { parts = h.1.parts; each = h.1.each; all = h.1.all })

pub reply_there : (cut : List (TablesValue × ℕ)) (query : QueryValue) (lanes : List (List EntryValue)) → (query ≡ quit → ⊥) → StandForLanes cut lanes → (text : List ℕ) × IsReply query lanes text
reply_there cut query lanes asks stand = let h = reply_lines cut lanes stand query asks in (reply (sum_by length lanes) h.0, record { lines = h.0; are_lines = h.1; told = refl })

pub ask_reply_there : (cut : List (TablesValue × ℕ)) (ask : Ask) (lanes : List (List EntryValue)) → (ask_value ask ≡ plain quit → ⊥) → StandForLanes cut lanes → (text : List ℕ) × IsAskReply (ask_value ask) lanes text
ask_reply_there cut (Query query) lanes asks stand = reply_there cut (query_value query) lanes (λ is. asks (ap plain is)) stand
ask_reply_there cut (Rows ask) lanes asks stand = let h = rows_lines cut lanes stand ask.steps ask.full ask.query ask.traits in (reply (sum_by length lanes) h.0, record { lines = h.0; are_lines = h.1; told = refl })
ask_reply_there cut (Count select traits) lanes asks stand = let h = count_lines cut lanes stand select (traits_value traits) in (reply (sum_by length lanes) h.0, record { lines = h.0; are_lines = h.1; told = refl })
ask_reply_there cut (Changes full asked from prefix) lanes asks stand = let h = changes_lines cut lanes stand full asked from prefix in (reply (sum_by length lanes) h.0, record { lines = h.0; are_lines = h.1; told = refl })
ask_reply_there cut (FullMarks select) lanes asks stand = let h = marks_lines cut lanes stand select in (reply (sum_by length lanes) h.0, record { lines = h.0; are_lines = h.1; told = refl })
ask_reply_there cut FullRouters lanes asks stand = let h = routers_lines cut lanes stand in (reply (sum_by length lanes) h.0, record { lines = h.0; are_lines = h.1; told = refl })
