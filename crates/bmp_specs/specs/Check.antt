-- What `check` tells of a stream: how many messages it has, how many bytes they have, and how many of them are of
-- each type (RFC 7854, section 4.1).
use Rattle.std.specs.Prelude.{ℕ, Bool, true, false, List, [], ◌∷◌, ◌==◌, codes, count_by, sum_by, flat_map, nat_lt}
use Rattle.bmp_specs.specs.Values.{EntryValue, opened, message, closed}
use Rattle.bmp_specs.specs.Lines.{number_line}

abbrev pub is_message : EntryValue → Bool
is_message (opened came) = false
is_message (message head effects) = true
is_message (closed closing) = false

-- a message of this type
abbrev pub is_of_kind : ℕ → EntryValue → Bool
is_of_kind wanted (opened came) = false
is_of_kind wanted (message head effects) = head.kind == wanted
is_of_kind wanted (closed closing) = false

-- a message of a type that RFC 7854 doesn't define: its types are 0 to 6
abbrev pub is_of_other_kind : EntryValue → Bool
is_of_other_kind (opened came) = false
is_of_other_kind (message head effects) = nat_lt 6 head.kind
is_of_other_kind (closed closing) = false

-- the "Message Length" of a message: its bytes with its common header
abbrev pub length_of : EntryValue → ℕ
length_of (opened came) = 0
length_of (message head effects) = head.size
length_of (closed closing) = 0

-- the names and the numbers, in the order of the lines
abbrev pub check_counts : List EntryValue → List (List ℕ × ℕ)
check_counts entries =
    (codes "messages", count_by is_message entries)
    ∷ (codes "bytes", sum_by length_of entries)
    ∷ (codes "route-monitoring", count_by (is_of_kind 0) entries)
    ∷ (codes "statistics-report", count_by (is_of_kind 1) entries)
    ∷ (codes "peer-down", count_by (is_of_kind 2) entries)
    ∷ (codes "peer-up", count_by (is_of_kind 3) entries)
    ∷ (codes "initiation", count_by (is_of_kind 4) entries)
    ∷ (codes "termination", count_by (is_of_kind 5) entries)
    ∷ (codes "route-mirroring", count_by (is_of_kind 6) entries)
    ∷ (codes "other", count_by is_of_other_kind entries)
    ∷ []

-- the ten lines
abbrev pub check_lines : List EntryValue → List ℕ
check_lines entries = flat_map (λ c. number_line c.0 c.1) (check_counts entries)
