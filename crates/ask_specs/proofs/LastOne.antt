-- The last connection of a lane, and what one more entry makes of it.
use Rattle.std.proofs.Common.{◌≡◌, ℕ, unwrap_or, List, [], ◌∷◌, ◌++◌, length, Option, Some, None, refl, sym, ap, subst, ◌∙◌, append-nil}
use Rattle.std.specs.Prelude.{count_by, filter_map, flat_map, sum_by}
use Rattle.std.specs.Option.{option_or, option_map, option_and_then}
use Rattle.std.specs.List.{last_or}
use Rattle.std.proofs.lemmas.List.Elements.{filter_map-append}
use Rattle.bmp_specs.specs.declared.causes.Cause.{Cause}
use Rattle.bmp_specs.specs.Check.{length_of}
use Rattle.bmp_specs.specs.Counts.{CountsValue, counts_of, is_mirrored, is_orphan, is_passed, parts_in}
use Rattle.bmp_specs.specs.Listed.{AreAll}
use Rattle.bmp_specs.specs.Openings.{nothing_told}
use Rattle.bmp_specs.specs.Orders.{key_cmp}
use Rattle.bmp_specs.specs.PeerUp.{IsUp}
use Rattle.bmp_specs.specs.Reply.{told_count}
use Rattle.bmp_specs.specs.Session.{cause_in, description_of, effects_in, idle, last_cause, live, name_of, session_messages, shut, since_opening, state_by, state_of, state_since, unless_closed}
use Rattle.bmp_specs.specs.Values.{ClosingValue, EffectValue, EntryValue, HeadValue, OpeningValue, opened, message, closed}
use Rattle.ask_specs.specs.Connection.{before_closing, came_of, closing_in, last_counts, last_effects, last_messages, opening_in, passed_of, until_of}
use Rattle.ask_specs.specs.FullRouters.{StaysAfterClose}

-- ---- after the last opening
since_opened : (entries : List EntryValue) (came : OpeningValue) → since_opening (entries ++ opened came ∷ []) ≡ Some []
since_opened [] came = refl
since_opened (opened other ∷ entries) came = ap (λ (o : Option (List EntryValue)). option_or o (Some (entries ++ opened came ∷ []))) (since_opened entries came)
since_opened (message head effects ∷ entries) came = since_opened entries came
since_opened (closed closing ∷ entries) came = since_opened entries came

since_more : (entries : List EntryValue) (e : EntryValue) → opening_in e ≡ None → since_opening (entries ++ e ∷ []) ≡ option_map (λ s. s ++ e ∷ []) (since_opening entries)
since_more [] (opened came) none = absurd cc
since_more [] (message head effects) none = refl
since_more [] (closed closing) none = refl
since_more (opened came ∷ entries) e none = go (since_opening entries) (since_more entries e none)
  where
    go : (o : Option (List EntryValue)) → since_opening (entries ++ e ∷ []) ≡ option_map (λ s. s ++ e ∷ []) o
        → option_or (since_opening (entries ++ e ∷ [])) (Some (entries ++ e ∷ [])) ≡ option_map (λ s. s ++ e ∷ []) (option_or o (Some entries))
    go None is = ap (λ (p : Option (List EntryValue)). option_or p (Some (entries ++ e ∷ []))) is
    go (Some s) is = ap (λ (p : Option (List EntryValue)). option_or p (Some (entries ++ e ∷ []))) is
since_more (message head effects ∷ entries) e none = since_more entries e none
since_more (closed closing ∷ entries) e none = since_more entries e none

-- ---- before the first closing
cause_stays : (entries : List EntryValue) (cause : Cause) → last_or (Some cause) (filter_map cause_in entries) ≡ None → ⊥
cause_stays [] cause none = cc
cause_stays (opened came ∷ entries) cause none = cause_stays entries cause none
cause_stays (message head effects ∷ entries) cause none = cause_stays entries cause none
cause_stays (closed closing ∷ entries) cause none = cause_stays entries closing.cause none

-- all of it, where none is there
before_none : (entries more : List EntryValue) → last_cause entries ≡ None → before_closing (entries ++ more) ≡ entries ++ before_closing more
before_none [] more none = refl
before_none (opened came ∷ entries) more none = ap (λ (l : List EntryValue). opened came ∷ l) (before_none entries more none)
before_none (message head effects ∷ entries) more none = ap (λ (l : List EntryValue). message head effects ∷ l) (before_none entries more none)
before_none (closed closing ∷ entries) more none = absurd (cause_stays entries closing.cause none)

before_all : (entries : List EntryValue) → last_cause entries ≡ None → before_closing entries ≡ entries
before_all entries none = sym (ap before_closing (append-nil entries)) ∙ before_none entries [] none ∙ append-nil entries

-- and what comes after one is outside
before_one : (entries more : List EntryValue) → (last_cause entries ≡ None → ⊥) → before_closing (entries ++ more) ≡ before_closing entries
before_one [] more some = absurd (some refl)
before_one (opened came ∷ entries) more some = ap (λ (l : List EntryValue). opened came ∷ l) (before_one entries more some)
before_one (message head effects ∷ entries) more some = ap (λ (l : List EntryValue). message head effects ∷ l) (before_one entries more some)
before_one (closed closing ∷ entries) more some = refl

before_closed : (entries : List EntryValue) (closing : ClosingValue) → before_closing (entries ++ closed closing ∷ []) ≡ before_closing entries
before_closed [] closing = refl
before_closed (opened came ∷ entries) closing = ap (λ (l : List EntryValue). opened came ∷ l) (before_closed entries closing)
before_closed (message head effects ∷ entries) closing = ap (λ (l : List EntryValue). message head effects ∷ l) (before_closed entries closing)
before_closed (closed other ∷ entries) closing = refl

-- ---- from where it came, and when
last_pushed : {A : Type 0} (found : Option A) (xs : List A) (x : A) → last_or found (xs ++ x ∷ []) ≡ Some x
last_pushed found [] x = refl
last_pushed found (y ∷ xs) x = last_pushed (Some y) xs x

pub came_after_opening : (entries : List EntryValue) (came : OpeningValue) → came_of (entries ++ opened came ∷ []) ≡ came
came_after_opening entries came =
    ap (λ (l : List OpeningValue). unwrap_or (last_or None l) nothing_told) (filter_map-append opening_in entries (opened came ∷ []))
    ∙ ap (λ (o : Option OpeningValue). unwrap_or o nothing_told) (last_pushed None (filter_map opening_in entries) came)

pub came_after_message : (entries : List EntryValue) (head : HeadValue) (effects : List EffectValue) → came_of (entries ++ message head effects ∷ []) ≡ came_of entries
came_after_message entries head effects =
    ap (λ (l : List OpeningValue). unwrap_or (last_or None l) nothing_told) (filter_map-append opening_in entries (message head effects ∷ []) ∙ append-nil (filter_map opening_in entries))

pub came_after_closing : (entries : List EntryValue) (closing : ClosingValue) → came_of (entries ++ closed closing ∷ []) ≡ came_of entries
came_after_closing entries closing =
    ap (λ (l : List OpeningValue). unwrap_or (last_or None l) nothing_told) (filter_map-append opening_in entries (closed closing ∷ []) ∙ append-nil (filter_map opening_in entries))

-- ---- when it was closed
abbrev until_since : Option (List EntryValue) → Option ℕ
until_since o = option_and_then (λ closing. closing.until) (option_and_then (λ session. last_or None (filter_map closing_in session)) o)

pub until_after_opening : (entries : List EntryValue) (came : OpeningValue) → until_of (entries ++ opened came ∷ []) ≡ None
until_after_opening entries came = ap until_since (since_opened entries came)

pub until_after_message : (entries : List EntryValue) (head : HeadValue) (effects : List EffectValue) → until_of (entries ++ message head effects ∷ []) ≡ until_of entries
until_after_message entries head effects = ap until_since (since_more entries (message head effects) refl) ∙ go (since_opening entries)
  where
    go : (o : Option (List EntryValue)) → until_since (option_map (λ s. s ++ message head effects ∷ []) o) ≡ until_since o
    go None = refl
    go (Some s) = ap (λ (l : List ClosingValue). option_and_then (λ closing. closing.until) (last_or None l))
        (filter_map-append closing_in s (message head effects ∷ []) ∙ append-nil (filter_map closing_in s))

pub until_after_closing : (entries : List EntryValue) (closing : ClosingValue) → (state_of entries ≡ idle → ⊥) → until_of (entries ++ closed closing ∷ []) ≡ closing.until
until_after_closing entries closing ever = ap until_since (since_more entries (closed closing) refl) ∙ go (since_opening entries) ever
  where
    go : (o : Option (List EntryValue)) → (state_since o ≡ idle → ⊥) → until_since (option_map (λ s. s ++ closed closing ∷ []) o) ≡ closing.until
    go None was = absurd (was refl)
    go (Some s) was =
        ap (λ (l : List ClosingValue). option_and_then (λ closing. closing.until) (last_or None l)) (filter_map-append closing_in s (closed closing ∷ []))
        ∙ ap (λ (o : Option ClosingValue). option_and_then (λ closing. closing.until) o) (last_pushed None (filter_map closing_in s) closing)

-- before any opening a closing tells nothing
pub until_stays_idle : (entries : List EntryValue) (closing : ClosingValue) → state_of entries ≡ idle → until_of (entries ++ closed closing ∷ []) ≡ until_of entries
until_stays_idle entries closing is_idle = ap until_since (since_more entries (closed closing) refl) ∙ go (since_opening entries) is_idle
  where
    by_cause : (c : Option Cause) → state_by c ≡ idle → ⊥
    by_cause None e = cc
    by_cause (Some d) e = cc

    go : (o : Option (List EntryValue)) → state_since o ≡ idle → until_since (option_map (λ s. s ++ closed closing ∷ []) o) ≡ until_since o
    go None was = refl
    go (Some s) was = absurd (by_cause (last_cause s) was)

-- ---- its messages
abbrev messages_since : Option (List EntryValue) → List EntryValue
messages_since o = before_closing (unwrap_or o [])

pub last_after_opening : (entries : List EntryValue) (came : OpeningValue) → last_messages (entries ++ opened came ∷ []) ≡ []
last_after_opening entries came = ap messages_since (since_opened entries came)

-- a message joins them, where the connection is open
pub last_after_message : (entries : List EntryValue) (head : HeadValue) (effects : List EffectValue) → state_of entries ≡ live → last_messages (entries ++ message head effects ∷ []) ≡ last_messages entries ++ message head effects ∷ []
last_after_message entries head effects is_live = ap messages_since (since_more entries (message head effects) refl) ∙ go (since_opening entries) is_live
  where
    at : (s : List EntryValue) (c : Option Cause) → last_cause s ≡ c → state_by c ≡ live → before_closing (s ++ message head effects ∷ []) ≡ before_closing s ++ message head effects ∷ []
    at s (Some cause) is was = absurd cc
    at s None is was = before_none s (message head effects ∷ []) is ∙ ap (λ (l : List EntryValue). l ++ message head effects ∷ []) (sym (before_all s is))

    go : (o : Option (List EntryValue)) → state_since o ≡ live → messages_since (option_map (λ s. s ++ message head effects ∷ []) o) ≡ messages_since o ++ message head effects ∷ []
    go None was = absurd cc
    go (Some s) was = at s (last_cause s) refl was

-- and goes nowhere, where none is
pub last_stays : (entries : List EntryValue) (head : HeadValue) (effects : List EffectValue) → (state_of entries ≡ live → ⊥) → last_messages (entries ++ message head effects ∷ []) ≡ last_messages entries
last_stays entries head effects isnt_live = ap messages_since (since_more entries (message head effects) refl) ∙ go (since_opening entries) isnt_live
  where
    go : (o : Option (List EntryValue)) → (state_since o ≡ live → ⊥) → messages_since (option_map (λ s. s ++ message head effects ∷ []) o) ≡ messages_since o
    go None was = refl
    go (Some s) was = before_one s (message head effects ∷ []) (λ none. was (ap state_by none))

-- all of them stay where it is closed
pub last_after_closing : (entries : List EntryValue) (closing : ClosingValue) → last_messages (entries ++ closed closing ∷ []) ≡ last_messages entries
last_after_closing entries closing = ap messages_since (since_more entries (closed closing) refl) ∙ go (since_opening entries)
  where
    go : (o : Option (List EntryValue)) → messages_since (option_map (λ s. s ++ closed closing ∷ []) o) ≡ messages_since o
    go None = refl
    go (Some s) = before_closed s closing

-- Of an open connection they are those of the present session; and a lane that never had a connection has none.
pub last_is_present : (entries : List EntryValue) → ((cause : Cause) → state_of entries ≡ shut cause → ⊥) → last_messages entries ≡ session_messages entries
last_is_present entries isnt_shut = go (since_opening entries) isnt_shut
  where
    at : (s : List EntryValue) (c : Option Cause) → last_cause s ≡ c → ((cause : Cause) → state_by c ≡ shut cause → ⊥) → before_closing s ≡ unwrap_or (unless_closed s c) []
    at s None is was = before_all s is
    at s (Some cause) is was = absurd (was cause refl)

    go : (o : Option (List EntryValue)) → ((cause : Cause) → state_since o ≡ shut cause → ⊥) → messages_since o ≡ unwrap_or (option_and_then (λ s. unless_closed s (last_cause s)) o) []
    go None was = refl
    go (Some s) was = at s (last_cause s) refl was

-- ---- what they count
abbrev counts_by : List EntryValue → CountsValue
counts_by messages = record {
  messages = told_count (length messages);
  bytes = told_count (sum_by length_of messages);
  orphans = told_count (count_by is_orphan (flat_map effects_in messages));
  unread = told_count (sum_by parts_in (flat_map effects_in messages));
  mirrored = told_count (count_by is_mirrored (flat_map effects_in messages));
  passed = told_count (count_by is_passed (flat_map effects_in messages));
}

pub last_counts_by : (a b : List EntryValue) → last_messages a ≡ last_messages b → last_counts a ≡ last_counts b
last_counts_by a b is = ap counts_by is

pub last_counts_present : (entries : List EntryValue) → last_messages entries ≡ session_messages entries → last_counts entries ≡ counts_of entries
last_counts_present entries is = ap counts_by is

-- ---- what stays after the close
pub stays_after_close : StaysAfterClose
stays_after_close entries closing c is_live last =
    let all : last_messages entries ≡ last_messages (entries ++ closed closing ∷ []) = sym (last_after_closing entries closing) in
    let told : last_effects entries ≡ last_effects (entries ++ closed closing ∷ []) = ap (flat_map effects_in) all in
    record {
      came_is = last.came_is ∙ sym (came_after_closing entries closing);
      until_is = sym (until_after_closing entries closing (λ idle_is. let e : live ≡ idle = sym is_live ∙ idle_is in cc));
      known = last.known;
      are_up = subst (λ (es : List EffectValue). AreAll (λ key. key) key_cmp (IsUp es) last.known) told last.are_up;
      up_is = last.up_is;
      counts_are = last.counts_are ∙ ap counts_by all;
      name_is = last.name_is ∙ ap name_of told;
      descr_is = last.descr_is ∙ ap description_of told;
      passed_is = last.passed_is ∙ ap passed_of all;
    }
