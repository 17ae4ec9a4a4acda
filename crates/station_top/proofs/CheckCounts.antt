-- The counts of `check`, one entry after another, and their lines.
use Rattle.std.proofs.Common.{◌≡◌, ℕ, ◌+◌, ◌^◌, ◌<◌, Bool, cond, List, [], ◌∷◌, ◌++◌, length, get_or, take, drop, map, refl, sym, ap, ◌∙◌, arith, append-nil, take-append-drop, zero-add}
use Rattle.std.specs.Prelude.{sum_by, count_by, flat_map}
use Rattle.std.specs.Borrow.{Bor}
use Rattle.std.proofs.lemmas.Grind.{flat_map-append}
use Rattle.std.proofs.lemmas.List.{take_more, drop_more}
use Rattle.std.proofs.lemmas.List.Sums.{sum_by-append, count_by-le-length}
use Rattle.bmp_specs.specs.Check.{check_counts, check_lines, length_of, is_message, is_of_kind, is_of_other_kind}
use Rattle.bmp_specs.specs.Lines.{number_line}
use Rattle.bmp_specs.specs.Openings.{nothing_told}
use Rattle.bmp_specs.specs.Reply.{told_count}
use Rattle.bmp_specs.specs.Values.{EffectValue, EntryValue, HeadValue, opened, message}
use Rattle.bmp_message.specs.Effects.{HasTypeAndLength}
use Rattle.station_top.specs.Check.{AreCounts, TellCounts, counts_more, lines_of, number_lines}
use Rattle.station_top.specs.declared.counts.Counts.{Counts}

-- a count goes on where it stops
told_more : (x a d : ℕ) → x ≡ told_count a → told_count (x + d) ≡ told_count (a + d)
told_more x a d e = omega (arith, e)

sum_more : (f : EntryValue → ℕ) (entries : List EntryValue) (e : EntryValue) → sum_by f (entries ++ e ∷ []) ≡ sum_by f entries + f e
sum_more f entries e = sum_by-append f entries (e ∷ []) ∙ ap (λ (n : ℕ). sum_by f entries + n) (zero-add (f e))

-- one more number, behind an entry
module _ (entries : List EntryValue) (e : EntryValue) where
  told_sum : (f : EntryValue → ℕ) (x : ℕ) → x ≡ told_count (sum_by f entries) → told_count (x + f e) ≡ told_count (sum_by f (entries ++ e ∷ []))
  told_sum f x same = told_more x (sum_by f entries) (f e) same ∙ ap told_count (sym (sum_more f entries e))

  told_where : (p : EntryValue → Bool) (x : ℕ) → x ≡ told_count (count_by p entries) → told_count (x + cond (p e) 1 0) ≡ told_count (count_by p (entries ++ e ∷ []))
  told_where p x same = told_sum (λ m. cond (p m) 1 0) x same

-- the number of the line at a place
number_at : ℕ → List (List ℕ × ℕ) → ℕ
number_at k lines = (get_or lines k ([], 0)).1

-- the counts, one by one
pub record Each (c : Counts) (entries : List EntryValue) : Type 0 where
  pub messages : c.messages ≡ told_count (count_by is_message entries)
  pub bytes : c.bytes ≡ told_count (sum_by length_of entries)
  pub route_monitoring : c.route_monitoring ≡ told_count (count_by (is_of_kind 0) entries)
  pub statistics_report : c.statistics_report ≡ told_count (count_by (is_of_kind 1) entries)
  pub peer_down : c.peer_down ≡ told_count (count_by (is_of_kind 2) entries)
  pub peer_up : c.peer_up ≡ told_count (count_by (is_of_kind 3) entries)
  pub initiation : c.initiation ≡ told_count (count_by (is_of_kind 4) entries)
  pub termination : c.termination ≡ told_count (count_by (is_of_kind 5) entries)
  pub route_mirroring : c.route_mirroring ≡ told_count (count_by (is_of_kind 6) entries)
  pub other : c.other ≡ told_count (count_by is_of_other_kind entries)

each : (c : Counts) (entries : List EntryValue) → AreCounts c entries → Each c entries
unfolding number_at
each c entries h = record {
  messages = ap (number_at 0) h.counts;
  bytes = ap (number_at 1) h.counts;
  route_monitoring = ap (number_at 2) h.counts;
  statistics_report = ap (number_at 3) h.counts;
  peer_down = ap (number_at 4) h.counts;
  peer_up = ap (number_at 5) h.counts;
  initiation = ap (number_at 6) h.counts;
  termination = ap (number_at 7) h.counts;
  route_mirroring = ap (number_at 8) h.counts;
  other = ap (number_at 9) h.counts;
}

all : (c : Counts) (entries : List EntryValue) → Each c entries → AreCounts c entries
all c entries h = record { counts = cc (h.messages, h.bytes, h.route_monitoring, h.statistics_report, h.peer_down, h.peer_up, h.initiation, h.termination, h.route_mirroring, h.other) }

-- a message was counted
pub counts_message : (c : Counts) (head : HeadValue) (effects : List EffectValue) (entries : List EntryValue) → AreCounts c entries → AreCounts (counts_more c head.kind head.size) (entries ++ message head effects ∷ [])
counts_message c head effects entries h =
    let e = each c entries h in
    let m = message head effects in
    all (counts_more c head.kind head.size) (entries ++ m ∷ []) (record {
      messages = told_where entries m is_message c.messages e.messages;
      bytes = told_sum entries m length_of c.bytes e.bytes;
      route_monitoring = told_where entries m (is_of_kind 0) c.route_monitoring e.route_monitoring;
      statistics_report = told_where entries m (is_of_kind 1) c.statistics_report e.statistics_report;
      peer_down = told_where entries m (is_of_kind 2) c.peer_down e.peer_down;
      peer_up = told_where entries m (is_of_kind 3) c.peer_up e.peer_up;
      initiation = told_where entries m (is_of_kind 4) c.initiation e.initiation;
      termination = told_where entries m (is_of_kind 5) c.termination e.termination;
      route_mirroring = told_where entries m (is_of_kind 6) c.route_mirroring e.route_mirroring;
      other = told_where entries m is_of_other_kind c.other e.other;
    })

-- a message of this type and length was counted, whatever else it tells
pub takes_counted : (c now : Counts) (kind len : ℕ) → now ≡ counts_more c kind len → (e : EntryValue) → HasTypeAndLength kind len e → (entries : List EntryValue) → AreCounts c entries → AreCounts now (entries ++ e ∷ [])
takes_counted c now kind len is e has entries h =
    let counts : now ≡ counts_more c has.head.kind has.head.size = is ∙ (λ i. counts_more c (sym has.kind_is i) (sym has.size_is i)) in
    rw (counts, has.entry_is) (counts_message c has.head has.effects entries h)

-- no count counts it
record IsUncounted (e : EntryValue) : Type 0 where
  bytes : length_of e ≡ 0
  message : ◌≡◌ {A = ℕ} (cond (is_message e) 1 0) 0
  kind : (k : ℕ) → ◌≡◌ {A = ℕ} (cond (is_of_kind k e) 1 0) 0
  other : ◌≡◌ {A = ℕ} (cond (is_of_other_kind e) 1 0) 0

uncounted : (c : Counts) (entries : List EntryValue) (e : EntryValue) → IsUncounted e → AreCounts c entries → AreCounts c (entries ++ e ∷ [])
uncounted c entries e none h = let each_one = each c entries h in all c (entries ++ e ∷ []) (record {
  messages = each_one.messages ∙ same (λ m. cond (is_message m) 1 0) none.message;
  bytes = each_one.bytes ∙ same length_of none.bytes;
  route_monitoring = each_one.route_monitoring ∙ of_kind 0;
  statistics_report = each_one.statistics_report ∙ of_kind 1;
  peer_down = each_one.peer_down ∙ of_kind 2;
  peer_up = each_one.peer_up ∙ of_kind 3;
  initiation = each_one.initiation ∙ of_kind 4;
  termination = each_one.termination ∙ of_kind 5;
  route_mirroring = each_one.route_mirroring ∙ of_kind 6;
  other = each_one.other ∙ same (λ m. cond (is_of_other_kind m) 1 0) none.other;
})
  where
    same : (f : EntryValue → ℕ) → f e ≡ 0 → told_count (sum_by f entries) ≡ told_count (sum_by f (entries ++ e ∷ []))
    same f zero' = ap told_count (omega (arith, sum_more f entries e, zero'))

    of_kind : (k : ℕ) → told_count (count_by (is_of_kind k) entries) ≡ told_count (count_by (is_of_kind k) (entries ++ e ∷ []))
    of_kind k = same (λ m. cond (is_of_kind k m) 1 0) (none.kind k)

-- an opening is counted by none
pub counts_opened : (c : Counts) → AreCounts c [] → AreCounts c (opened nothing_told ∷ [])
counts_opened c h = uncounted c [] (opened nothing_told) (record { bytes = refl; message = refl; kind = λ k. refl; other = refl }) h

-- fewer than 2^64 entries and bytes are told as they are
told_small : (n : ℕ) → n < 2 ^ 64 → told_count n ≡ n
told_small n h = omega (arith, h)

pub lines_are : (c : Counts) (entries : List EntryValue) → TellCounts c entries → lines_of c ≡ check_lines entries
lines_are c entries h = ap (λ (lines : List (List ℕ × ℕ)). flat_map (λ line. number_line line.0 line.1) lines) (h.are.counts ∙ small)
  where
    count : (p : EntryValue → Bool) → told_count (count_by p entries) ≡ count_by p entries
    count p = told_small (count_by p entries) (omega (arith, h.few, count_by-le-length p entries))

    small : map (λ line. (line.0, told_count line.1)) (check_counts entries) ≡ check_counts entries
    small = cc (count is_message, told_small (sum_by length_of entries) h.short, count (is_of_kind 0), count (is_of_kind 1), count (is_of_kind 2), count (is_of_kind 3), count (is_of_kind 4), count (is_of_kind 5), count (is_of_kind 6), count is_of_other_kind)

-- the lines before a place, and the one at it
pub number_lines_more : (lines : List (Bor (List ℕ) × ℕ)) (i : ℕ) (d : Bor (List ℕ) × ℕ) → i < length lines → number_lines (take (i + 1) lines) ≡ number_lines (take i lines) ++ number_line (get_or lines i d).0.now (get_or lines i d).1
number_lines_more lines i d h =
    ap number_lines (take_more lines i d h) ∙ flat_map-append (λ line. number_line line.0.now line.1) (take i lines) (get_or lines i d ∷ [])
    ∙ ap (λ (l : List ℕ). number_lines (take i lines) ++ l) (append-nil (number_line (get_or lines i d).0.now (get_or lines i d).1))

pub number_lines_split : (lines : List (Bor (List ℕ) × ℕ)) (i : ℕ) (d : Bor (List ℕ) × ℕ) → i < length lines → number_lines lines ≡ number_lines (take i lines) ++ (number_line (get_or lines i d).0.now (get_or lines i d).1 ++ number_lines (drop (i + 1) lines))
number_lines_split lines i d h =
    ap number_lines (sym (take-append-drop i lines) ∙ ap (λ (l : List (Bor (List ℕ) × ℕ)). take i lines ++ l) (drop_more lines i d h))
    ∙ flat_map-append (λ line. number_line line.0.now line.1) (take i lines) (get_or lines i d ∷ drop (i + 1) lines)
