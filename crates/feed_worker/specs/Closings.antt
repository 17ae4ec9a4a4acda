-- Why the connections ended whose closings were published.
use Rattle.std.specs.Prelude.{◌≡◌, List, [], ◌∷◌, Option, None, Some}
use Rattle.bmp_specs.specs.declared.causes.Cause.{Cause}
use Rattle.bmp_specs.specs.Values.{EntryValue, opened, message, closed}

-- the causes of the closings among these entries, in order
abbrev pub closings_of : List EntryValue → List Cause
closings_of [] = []
closings_of (opened came ∷ entries) = closings_of entries
closings_of (message head effects ∷ entries) = closings_of entries
closings_of (closed closing ∷ entries) = closing.cause ∷ closings_of entries

-- where the causes that a port was told are kept, they are those of the closings among these entries, in order
abbrev pub AreTold : Option (List Cause) → List EntryValue → Type 0
AreTold None entries = Unit {0}
AreTold (Some causes) entries = causes ≡ closings_of entries
