-- The replies of the wider language. That of a plain query is its plain reply.
use Rattle.std.specs.Prelude.{◌≡◌, ◌↔◌, ◌⊎◌, ◌≤◌, ◌==◌, ℕ, Bool, true, false, MatchBool, nat_lt, max, List, [], ◌∷◌, ◌++◌, length, map, flat_map, sum_by, slice_get, Option, Some, None, if◌then◌else◌, codes}
use Rattle.std.specs.Ordering.{nat_cmp}
use Rattle.bmp_specs.specs.Changes.{ChangeValue, IsChange, oldest_kept}
use Rattle.bmp_specs.specs.ChangeLines.{steps_line, missed_lines, step_fields}
use Rattle.bmp_specs.specs.Lines.{line}
use Rattle.bmp_specs.specs.Listed.{AreAll, AreParallel}
use Rattle.bmp_specs.specs.NumberText.{number_text}
use Rattle.bmp_specs.specs.PeerLines.{count_line}
use Rattle.bmp_specs.specs.Query.{IsQuery, QueryValue, count, table, exact, longest, within, origin}
use Rattle.bmp_specs.specs.QueryReply.{IsReply, most_told}
use Rattle.bmp_specs.specs.QueryRows.{AsksRow}
use Rattle.bmp_specs.specs.Reply.{reply, told_count}
use Rattle.bmp_specs.specs.RouteLine.{route_line}
use Rattle.bmp_specs.specs.Rows.{RowValue}
use Rattle.bmp_specs.specs.Selection.{SelectValue, IsAskedFor, select_all}
use Rattle.bmp_specs.specs.Session.{session_effects}
use Rattle.bmp_specs.specs.Steps.{steps_of}
use Rattle.bmp_specs.specs.TableRows.{AreRows}
use Rattle.bmp_specs.specs.Values.{EntryValue, EffectValue, PrefixValue, StepValue, announce_step}
use Rattle.ask_specs.specs.Asking.{AskValue, IsAsk, plain, rows, steps, full_marks, full_routers}
use Rattle.ask_specs.specs.FullLine.{full_line, further_fields}
use Rattle.ask_specs.specs.FullMarks.{AreFullMarkLines}
use Rattle.ask_specs.specs.FullRouters.{AreFullRouterLines}
use Rattle.ask_specs.specs.Traits.{TraitsValue, HasTraits}

-- The plain query asks for the row, and its route has all that the selectors of path attributes ask. So the longest match
-- is that of all rows of a table: where its route isn't as asked, no shorter one is told in its place.
abbrev pub AsksTraitRow : QueryValue → TraitsValue → ℕ → List EffectValue → RowValue → Type 0
AsksTraitRow query traits lane effects row = AsksRow query lane effects row × HasTraits traits row.route

-- the selectors of a query for rows
abbrev pub selection : QueryValue → SelectValue
selection (table select) = select
selection (count select) = select
selection (exact prefix select) = select
selection (longest address select) = select
selection (within prefix select) = select
selection (origin asn select) = select
selection _ = select_all

-- the line of a row
abbrev pub row_line : Bool → ℕ → RowValue → List ℕ
row_line full lane row = if full then full_line lane row else route_line lane row

-- before the rows of a lane, how many steps it made, where that is asked for and the lane is
abbrev pub AreStepsLines : Bool → QueryValue → ℕ → List EntryValue → List (List ℕ) → Type 0
AreStepsLines false query lane entries lines = lines ≡ []
AreStepsLines true query lane entries lines = ((IsAskedFor (selection query).router lane) × (lines ≡ steps_line lane (told_count (length (steps_of entries))) ∷ []))
    ⊎ (¬ (IsAskedFor (selection query).router lane) × (lines ≡ []))

-- the lines of a lane: the number of its steps, and its rows by peer, view, prefix and path identifier
pub record AreAskedRowLines (with_steps full : Bool) (query : QueryValue) (traits : TraitsValue) (lane : ℕ) (entries : List EntryValue) (lines : List (List ℕ)) : Type 0 where
  pub steps_lines : List (List ℕ)
  pub known : List RowValue
  pub are_steps : AreStepsLines with_steps query lane entries steps_lines
  pub are_rows : AreRows (AsksTraitRow query traits lane (session_effects entries)) (session_effects entries) known
  pub told : lines ≡ steps_lines ++ map (row_line full lane) known

-- when a step was seen, and when its router told it: neither is known so far
abbrev pub time_fields : List (List ℕ)
time_fields = codes "seen=-" ∷ codes "told=-" ∷ []

-- the fields of what `step_fields` doesn't tell of an announcement
abbrev pub further_step_fields : StepValue → List (List ℕ)
further_step_fields (announce_step key view nlri route) = further_fields route
further_step_fields step = []

-- what a step did, as it is told without `full`, then the times, then all other path attributes of an announcement
abbrev pub full_step_fields : StepValue → List (List ℕ)
full_step_fields step = step_fields step ++ (time_fields ++ further_step_fields step)

abbrev pub told_change : Bool → ℕ → ChangeValue → List ℕ
told_change full lane change = line (codes "change") (number_text lane ∷ number_text change.number ∷ (if full then full_step_fields change.step else step_fields change.step))

-- a step of this number or a later one, whatever it speaks of
pub record IsStep (all : List StepValue) (first : ℕ) (change : ChangeValue) : Type 0 where
  pub later : first ≤ change.number
  pub stands : slice_get all change.number ≡ Some change.step

-- it is asked for: any step, or one that concerns the prefix
abbrev pub IsAskedStep : Option PrefixValue → List StepValue → ℕ → ChangeValue → Type 0
IsAskedStep None all first change = IsStep all first change
IsAskedStep (Some prefix) all first change = IsChange all first prefix change

-- the lines of the changes from the step of this number on, as those of a plain `changes`
pub record AreAskedChangeLines (full : Bool) (lane : ℕ) (entries : List EntryValue) (from : ℕ) (prefix : Option PrefixValue) (lines : List (List ℕ)) : Type 0 where
  pub known : List ChangeValue
  pub are_known : AreAll (λ change. change.number) nat_cmp (IsAskedStep prefix (steps_of entries) (max from (oldest_kept (length (steps_of entries))))) known
  pub told : let total = length (steps_of entries) in
      MatchBool (nat_lt total most_told) (lines ≡ steps_line lane total ∷ (missed_lines from (oldest_kept total) ++ map (told_change full lane) known)) (lines ≡ steps_line lane most_told ∷ [])

abbrev pub AreAskedLaneLines : AskValue → ℕ → List EntryValue → List (List ℕ) → Type 0
AreAskedLaneLines (plain query) lane entries lines = ⊥
AreAskedLaneLines (rows with_steps full query traits) lane entries lines = AreAskedRowLines with_steps full query traits lane entries lines
AreAskedLaneLines (steps full number from prefix) lane entries lines = MatchBool (number == lane) (AreAskedChangeLines full lane entries from prefix lines) (lines ≡ [])
AreAskedLaneLines (full_marks select) lane entries lines = AreFullMarkLines lane entries select lines
AreAskedLaneLines full_routers lane entries lines = AreFullRouterLines lane entries lines

-- lanes with these entries have these lines in all, lane after lane
pub record AreAskedLines (ask : AskValue) (lanes : List (List EntryValue)) (lines : List (List ℕ)) : Type 0 where
  pub parts : List (List (List ℕ))
  pub each : AreParallel (AreAskedLaneLines ask) lanes parts
  pub all : lines ≡ flat_map (λ part. part) parts

-- `count` with selectors of path attributes: how many rows `table` has with the same
pub record IsAskedCount (select : SelectValue) (traits : TraitsValue) (lanes : List (List EntryValue)) (lines : List (List ℕ)) : Type 0 where
  pub parts : List (List RowValue)
  pub each : AreParallel (λ lane entries part. AreRows (AsksTraitRow (count select) traits lane (session_effects entries)) (session_effects entries) part) lanes parts
  pub told : lines ≡ count_line (told_count (sum_by length parts)) ∷ []

abbrev pub AreFurtherLines : AskValue → List (List EntryValue) → List (List ℕ) → Type 0
AreFurtherLines (rows with_steps full (count select) traits) lanes lines = IsAskedCount select traits lanes lines
AreFurtherLines ask lanes lines = AreAskedLines ask lanes lines

-- the lines between the first and the last of the reply to a line with further words
pub record IsFurtherReply (ask : AskValue) (lanes : List (List EntryValue)) (bytes : List ℕ) : Type 0 where
  pub lines : List (List ℕ)
  pub are_lines : AreFurtherLines ask lanes lines
  pub told : bytes ≡ reply (sum_by length lanes) lines

-- the bytes are the reply on a history whose lanes have these entries
abbrev pub IsAskReply : AskValue → List (List EntryValue) → List ℕ → Type 0
IsAskReply (plain query) lanes bytes = IsReply query lanes bytes
IsAskReply ask lanes bytes = IsFurtherReply ask lanes bytes

-- Each plain line has its plain replies, and no others.
abbrev pub KeepsReplies : Type 0
KeepsReplies = (line : List ℕ) (query : QueryValue) (ask : AskValue) (lanes : List (List EntryValue)) (bytes : List ℕ) → IsQuery line query → IsAsk line ask → IsAskReply ask lanes bytes ↔ IsReply query lanes bytes
