-- What is answered to a line.
use Rattle.std.specs.Prelude.{◌≡◌, ◌≢◌, ℕ, ◌<◌, ◌≤◌, Bool, true, false, List, [], ◌∷◌, length, codes}
use Rattle.ask_specs.specs.Asking.{AskValue, plain}
use Rattle.ask_specs.specs.Offer.{IsOfferedAsk}
use Rattle.bmp_specs.specs.Lines.{line}
use Rattle.bmp_specs.specs.Query.{quit}
use Rattle.cut_publisher.specs.declared.history.Event.{Event}
use Rattle.query_eval.specs.Replies.{IsAskReplyOn}
use Rattle.rib_model.specs.declared.entry.Entry.{Entry}

-- a history: entries, each of a lane
abbrev pub History : Type 0
History = List (Event Entry)

-- how a line is taken: it has too many bytes, it asks nothing that is offered, it asks this, or it ends the session
pub data Heard : Type 0 where
  too_long : Heard
  unknown : Heard
  asked : AskValue → Heard
  over : Heard

abbrev pub IsHeard : List ℕ → Heard → Type 0
IsHeard text too_long = 1024 < length text
IsHeard text unknown = (length text ≤ 1024) × ((ask : AskValue) → IsOfferedAsk text ask → ⊥)
IsHeard text (asked ask) = (length text ≤ 1024) × IsOfferedAsk text ask × (ask ≢ plain quit)
IsHeard text over = (length text ≤ 1024) × IsOfferedAsk text (plain quit)

-- no line counts after it
abbrev pub is_over : Heard → Bool
is_over too_long = true
is_over unknown = false
is_over (asked ask) = false
is_over over = true

abbrev pub error_line : List ℕ
error_line = line (codes "error") (codes "line" ∷ [])

abbrev pub error_query : List ℕ
error_query = line (codes "error") (codes "query" ∷ [])

-- the text is what is written for a line, of so many lanes with this history
abbrev pub IsAnswer : ℕ → History → Heard → List ℕ → Type 0
IsAnswer lanes history too_long text = text ≡ error_line
IsAnswer lanes history unknown text = text ≡ error_query
IsAnswer lanes history (asked ask) text = IsAskReplyOn ask lanes history text
IsAnswer lanes history over text = text ≡ []
