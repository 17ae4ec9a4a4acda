-- Counts that are added up. Each ends at the greatest number of 64 bits.
use Rattle.std.specs.Prelude.{ℕ, ◌+◌, List, count_by, sum_by, if◌then◌else◌}
use Rattle.bmp_specs.specs.Counts.{CountsValue, is_orphan, is_mirrored, is_passed, parts_in}
use Rattle.bmp_specs.specs.Reply.{told_count}
use Rattle.bmp_specs.specs.Values.{EffectValue}

abbrev pub no_counts : CountsValue
no_counts = record { messages = 0; bytes = 0; orphans = 0; unread = 0; mirrored = 0; passed = 0 }

abbrev pub sum_of : CountsValue → CountsValue → CountsValue
sum_of a b = record {
  messages = told_count (a.messages + b.messages);
  bytes = told_count (a.bytes + b.bytes);
  orphans = told_count (a.orphans + b.orphans);
  unread = told_count (a.unread + b.unread);
  mirrored = told_count (a.mirrored + b.mirrored);
  passed = told_count (a.passed + b.passed);
}

-- what one effect adds to the counts of its message
abbrev pub effect_counts : EffectValue → CountsValue
effect_counts e = record {
  messages = 0;
  bytes = 0;
  orphans = if is_orphan e then 1 else 0;
  unread = parts_in e;
  mirrored = if is_mirrored e then 1 else 0;
  passed = if is_passed e then 1 else 0;
}

-- what a message of this length with these effects adds to the counts of its session
abbrev pub message_counts : ℕ → List EffectValue → CountsValue
message_counts len effects = record {
  messages = 1;
  bytes = len;
  orphans = count_by is_orphan effects;
  unread = sum_by parts_in effects;
  mirrored = count_by is_mirrored effects;
  passed = count_by is_passed effects;
}
