-- The last connection of a lane, open or closed: from where it came and when, its messages, and the parts of them that were
-- passed over, by cause and by family. What it told stays until the next one is opened.
use Rattle.std.specs.Prelude.{ℕ, ◌-◌, ◌==◌, ◌&&◌, ◌||◌, not, Bool, nat_le, List, [], ◌∷◌, ◌++◌, length, map, filter, filter_map, flat_map, count_by, sum_by, unwrap_or, Option, Some, None, if◌then◌else◌}
use Rattle.std.specs.Option.{option_and_then}
use Rattle.std.specs.List.{last_or, list_any}
use Rattle.bmp_specs.specs.Check.{is_of_kind, length_of}
use Rattle.bmp_specs.specs.Counts.{CountsValue, is_mirrored, is_orphan, is_passed, parts_in}
use Rattle.bmp_specs.specs.Openings.{nothing_told}
use Rattle.bmp_specs.specs.Reply.{told_count}
use Rattle.bmp_specs.specs.Session.{effects_in, since_opening}
use Rattle.bmp_specs.specs.Values.{ClosingValue, EffectValue, EntryValue, FamilyCodeValue, OpeningValue, opened, message, closed}

-- ---- the connection
abbrev pub opening_in : EntryValue → Option OpeningValue
opening_in (opened came) = Some came
opening_in (message head effects) = None
opening_in (closed closing) = None

-- what the last opening told; nothing before there is one
abbrev pub came_of : List EntryValue → OpeningValue
came_of entries = unwrap_or (last_or None (filter_map opening_in entries)) nothing_told

abbrev pub closing_in : EntryValue → Option ClosingValue
closing_in (opened came) = None
closing_in (message head effects) = None
closing_in (closed closing) = Some closing

-- when the last connection was closed; none where it is open, or where that wasn't told
abbrev pub until_of : List EntryValue → Option ℕ
until_of entries = option_and_then (λ closing. closing.until) (option_and_then (λ session. last_or None (filter_map closing_in session)) (since_opening entries))

-- the entries before the first closing
abbrev pub before_closing : List EntryValue → List EntryValue
before_closing [] = []
before_closing (opened came ∷ entries) = opened came ∷ before_closing entries
before_closing (message head effects ∷ entries) = message head effects ∷ before_closing entries
before_closing (closed closing ∷ entries) = []

-- the messages of the last connection: those after its opening, and before its closing where it is closed
abbrev pub last_messages : List EntryValue → List EntryValue
last_messages entries = before_closing (unwrap_or (since_opening entries) [])

-- their effects, in order
abbrev pub last_effects : List EntryValue → List EffectValue
last_effects entries = flat_map effects_in (last_messages entries)

-- what it counted, as a live session counts
abbrev pub last_counts : List EntryValue → CountsValue
last_counts entries = record {
  messages = told_count (length (last_messages entries));
  bytes = told_count (sum_by length_of (last_messages entries));
  orphans = told_count (count_by is_orphan (last_effects entries));
  unread = told_count (sum_by parts_in (last_effects entries));
  mirrored = told_count (count_by is_mirrored (last_effects entries));
  passed = told_count (count_by is_passed (last_effects entries));
}

-- ---- what was passed over
-- how many parts of an entry's message were passed over
abbrev pub parts_of : EntryValue → ℕ
parts_of entry = sum_by parts_in (effects_in entry)

-- the families of an entry's message that were passed over
abbrev pub others_in : EntryValue → List FamilyCodeValue
others_in (opened came) = []
others_in (message head effects) = head.others
others_in (closed closing) = []

-- "Route Monitoring" and "Statistics Report"; of other types TLVs alone are passed over
abbrev pub is_of_routes : EntryValue → Bool
is_of_routes entry = is_of_kind 0 entry

abbrev pub is_report : EntryValue → Bool
is_report entry = is_of_kind 1 entry

abbrev pub is_of_tlvs : EntryValue → Bool
is_of_tlvs entry = not (is_of_routes entry || is_report entry)

-- of one family
abbrev pub same_family : FamilyCodeValue → FamilyCodeValue → Bool
same_family a b = a.afi == b.afi && a.safi == b.safi

-- the most families that are told by name
abbrev pub most_others : ℕ
most_others = 16

-- the families, each once, in the order in which they came first; at most so many
unfoldable pub first_others : List FamilyCodeValue → List FamilyCodeValue → List FamilyCodeValue
first_others kept [] = kept
first_others kept (f ∷ fs) = first_others (if list_any (same_family f) kept || nat_le most_others (length kept) then kept else kept ++ f ∷ []) fs

-- a family, and how often it was passed over
pub record FamilyCountValue : Type 0 where
  pub family : FamilyCodeValue
  pub count : ℕ

-- The parts that were passed over: of TLVs, of statistics, and of UPDATE messages. The last ones are multiprotocol attributes of
-- other families, and else attributes that are malformed. Of the families the first ones are told by name, and those of
-- later ones are one number.
pub record PassedValue : Type 0 where
  pub tlvs : ℕ
  pub stats : ℕ
  pub routes : ℕ
  pub families : ℕ
  pub others : List FamilyCountValue
  pub more : ℕ

-- UPDATE messages that withdrew for a malformed attribute (RFC 7606, section 2)
abbrev pub malformed_of : PassedValue → ℕ
malformed_of p = p.routes - p.families

-- families with their counts, and the number of those that aren't told by name
abbrev pub family_counts : List FamilyCodeValue → List FamilyCountValue
family_counts all = map (λ f. record { family = f; count = told_count (count_by (same_family f) all) }) (first_others [] all)

abbrev pub later_others : List FamilyCodeValue → ℕ
later_others all = told_count (count_by (λ f. not (list_any (same_family f) (first_others [] all))) all)

-- what was passed over in these messages, by cause
abbrev pub passed_of : List EntryValue → PassedValue
passed_of messages = record {
  tlvs = told_count (sum_by parts_of (filter is_of_tlvs messages));
  stats = told_count (sum_by parts_of (filter is_report messages));
  routes = told_count (sum_by parts_of (filter is_of_routes messages));
  families = told_count (length (flat_map others_in messages));
  others = family_counts (flat_map others_in messages);
  more = later_others (flat_map others_in messages);
}
