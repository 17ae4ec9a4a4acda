-- What a live session counts, a choice of ours: its messages, their bytes, and the parts of them that fill no table.
use Rattle.std.specs.Prelude.{ℕ, Bool, true, false, List, length, count_by, sum_by}
use Rattle.bmp_specs.specs.Values.{EffectValue, EntryValue, orphan, mirrored, passed, unread}
use Rattle.bmp_specs.specs.Check.{length_of}
use Rattle.bmp_specs.specs.Session.{session_messages, session_effects}
use Rattle.bmp_specs.specs.Reply.{told_count}

pub record CountsValue : Type 0 where
  pub messages : ℕ
  pub bytes : ℕ
  pub orphans : ℕ
  pub unread : ℕ
  pub mirrored : ℕ
  pub passed : ℕ

abbrev pub is_orphan : EffectValue → Bool
is_orphan orphan = true
is_orphan _ = false

abbrev pub is_mirrored : EffectValue → Bool
is_mirrored mirrored = true
is_mirrored _ = false

abbrev pub is_passed : EffectValue → Bool
is_passed passed = true
is_passed _ = false

-- how many parts of its message were passed over
abbrev pub parts_in : EffectValue → ℕ
parts_in (unread parts) = parts
parts_in _ = 0

-- the counts of the present session, each at most the greatest number of 64 bits
abbrev pub counts_of : List EntryValue → CountsValue
counts_of entries = record {
  messages = told_count (length (session_messages entries));
  bytes = told_count (sum_by length_of (session_messages entries));
  orphans = told_count (count_by is_orphan (session_effects entries));
  unread = told_count (sum_by parts_in (session_effects entries));
  mirrored = told_count (count_by is_mirrored (session_effects entries));
  passed = told_count (count_by is_passed (session_effects entries));
}
