-- The lines that the program writes, in a form of ours. Fields are separated by one space, and each line ends with a line feed.
use Rattle.std.specs.Prelude.{ℕ, List, [], ◌∷◌, ◌++◌, codes}
use Rattle.bmp_specs.specs.declared.causes.Cause.{Cause}
use Rattle.bmp_specs.specs.declared.causes.Cause.TheVariants.{Ended, Terminated, CutShort, Broken, ReadFault, Full}
use Rattle.bmp_specs.specs.declared.causes.Why.{Why}
use Rattle.bmp_specs.specs.declared.causes.Why.TheVariants.{Version, Length, Body}
use Rattle.bmp_specs.specs.NumberText.{number_text}

-- further fields, each after a space, and the end of the line
abbrev pub further : List (List ℕ) → List ℕ
further [] = codes "\n"
further (field ∷ fields) = 32 ∷ field ++ further fields

-- a line of a word and further fields
abbrev pub line : List ℕ → List (List ℕ) → List ℕ
line word fields = word ++ further fields

-- a line of a word and a number
abbrev pub number_line : List ℕ → ℕ → List ℕ
number_line word n = line word (number_text n ∷ [])

-- which rule of a stream is broken
abbrev pub why_text : Why → List ℕ
why_text Version = codes "version"
why_text Length = codes "length"
why_text Body = codes "body"

-- how a connection ended, and where
abbrev pub cause_fields : Cause → List (List ℕ)
cause_fields Ended = codes "ended" ∷ []
cause_fields Terminated = codes "terminated" ∷ []
cause_fields (CutShort offset) = codes "cutshort" ∷ number_text offset ∷ []
cause_fields (Broken offset why) = codes "broken" ∷ number_text offset ∷ why_text why ∷ []
cause_fields (ReadFault offset) = codes "readfault" ∷ number_text offset ∷ []
cause_fields Full = codes "full" ∷ []

-- how the stream ended
abbrev pub stop_line : Cause → List ℕ
stop_line cause = line (codes "stop") (cause_fields cause)

-- a reply's first line: the revision of the history that it speaks of
abbrev pub at_line : ℕ → List ℕ
at_line revision = number_line (codes "at") revision

-- a reply's last line: the number of its rows
abbrev pub end_line : ℕ → List ℕ
end_line rows = number_line (codes "end") rows

-- what is written where the words are no command
abbrev pub usage_line : List ℕ
usage_line = codes "usage: bmpstation replay QUERY, check, serve OPTIONS, or drill SEED LANES MESSAGES\n"
