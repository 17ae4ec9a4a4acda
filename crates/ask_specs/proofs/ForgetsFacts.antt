-- No reply but that to `full routers` depends on what the port and the Per-Peer Headers told: `ForgetsFacts`.
use Rattle.std.proofs.Common.{◌≡◌, ◌↔◌, ℕ, ◌+◌, ◌<◌, Bool, true, false, inl, inr, List, [], ◌∷◌, ◌++◌, length, map, Option, Some, None, refl, sym, ap, ◌∙◌, subst, arith}
use Rattle.std.specs.Prelude.{IsTrue, MatchBool, count_by, nat_lt, ◌==◌, max, unwrap_or, filter_map, flat_map, sum_by, slice_index_or}
use Rattle.std.specs.List.{last_or}
use Rattle.std.specs.Option.{option_or, option_map, option_and_then}
use Rattle.std.specs.Ordering.{nat_cmp}
use Rattle.std.specs.declared.cmp.Ordering.{Ordering}
use Rattle.std.proofs.lemmas.List.{get_or-map, length-map}
use Rattle.std.proofs.lemmas.List.Sums.{sum_by-cons}
use Rattle.bmp_specs.specs.declared.causes.Cause.{Cause}
use Rattle.bmp_specs.specs.ChangeLines.{change_line, missed_lines, steps_line}
use Rattle.bmp_specs.specs.Changes.{IsChange, oldest_kept}
use Rattle.bmp_specs.specs.Check.{length_of}
use Rattle.bmp_specs.specs.Complete.{IsComplete}
use Rattle.bmp_specs.specs.Counts.{CountsValue, counts_of, is_mirrored, is_orphan, is_passed, parts_in}
use Rattle.bmp_specs.specs.Listed.{AreAll, AreParallel}
use Rattle.bmp_specs.specs.Orders.{key_cmp}
use Rattle.bmp_specs.specs.PeerLines.{lane_line, live_line}
use Rattle.bmp_specs.specs.PeerUp.{IsPeerAs, IsUp}
use Rattle.bmp_specs.specs.Query.{QueryValue, routers, cut, peers, marks, table, count, exact, longest, within, origin, stats, changes, quit}
use Rattle.bmp_specs.specs.QueryReply.{AreChangeLines, AreLaneLines, AreLines, AreMarkLines, ArePeerLines, AreReplyLines, AreRowLines, AreStatLines, IsCountLine, IsMark, IsReply, IsRouterLine, MarkValue, most_told}
use Rattle.bmp_specs.specs.QueryRows.{AsksRow}
use Rattle.bmp_specs.specs.Reply.{reply, told_count}
use Rattle.bmp_specs.specs.Rows.{HasStatistic, RowValue}
use Rattle.bmp_specs.specs.Selection.{IsPeerSelected, SelectValue}
use Rattle.bmp_specs.specs.Session.{LaneStateValue, cause_in, description_of, effects_in, idle, last_cause, live, name_of, session_effects, session_messages, shut, since_opening, state_of, state_since, state_by, unless_closed}
use Rattle.bmp_specs.specs.StatKind.{kind_cmp, kind_of}
use Rattle.bmp_specs.specs.Steps.{steps_in, steps_of}
use Rattle.bmp_specs.specs.TableRows.{AreRows}
use Rattle.bmp_specs.specs.Values.{EffectValue, EntryValue, KeyValue, PrefixValue, StepValue, opened, message, closed}
use Rattle.ask_specs.specs.AskReply.{AreAskedChangeLines, AreAskedLaneLines, AreAskedLines, AreAskedRowLines, AreFurtherLines, AreStepsLines, AsksTraitRow, IsAskedCount, IsAskedStep, IsFurtherReply, told_change}
use Rattle.ask_specs.specs.Asking.{AskValue, plain, rows, steps, full_marks, full_routers}
use Rattle.ask_specs.specs.Facts.{AsksFacts, ForgetsFacts, bare}
use Rattle.ask_specs.specs.FullMarks.{AreFullMarkLines, IsOfTable, IsRowCount, RowCountValue}
use Rattle.ask_specs.specs.Traits.{TraitsValue}

-- ---- what replies are made of
record Alike (a b : List EntryValue) : Type 0 where
  state : state_of a ≡ state_of b
  effects : session_effects a ≡ session_effects b
  counts : counts_of a ≡ counts_of b
  steps : steps_of a ≡ steps_of b
  len : length a ≡ length b

back : (a b : List EntryValue) → Alike a b → Alike b a
back a b e = record { state = sym e.state; effects = sym e.effects; counts = sym e.counts; steps = sym e.steps; len = sym e.len }

-- ---- entries without facts
since_bare : (es : List EntryValue) → since_opening (map bare es) ≡ option_map (map bare) (since_opening es)
since_bare [] = refl
since_bare (opened came ∷ es) = go (since_opening es) (since_bare es)
  where
    go : (o : Option (List EntryValue)) → since_opening (map bare es) ≡ option_map (map bare) o → option_or (since_opening (map bare es)) (Some (map bare es)) ≡ option_map (map bare) (option_or o (Some es))
    go None is = ap (λ (p : Option (List EntryValue)). option_or p (Some (map bare es))) is
    go (Some s) is = ap (λ (p : Option (List EntryValue)). option_or p (Some (map bare es))) is
since_bare (message head effects ∷ es) = since_bare es
since_bare (closed closing ∷ es) = since_bare es

causes_bare : (found : Option Cause) (es : List EntryValue) → last_or found (filter_map cause_in (map bare es)) ≡ last_or found (filter_map cause_in es)
causes_bare found [] = refl
causes_bare found (opened came ∷ es) = causes_bare found es
causes_bare found (message head effects ∷ es) = causes_bare found es
causes_bare found (closed closing ∷ es) = causes_bare (Some closing.cause) es

state_bare : (es : List EntryValue) → state_of (map bare es) ≡ state_of es
state_bare es = ap state_since (since_bare es) ∙ go (since_opening es)
  where
    go : (o : Option (List EntryValue)) → state_since (option_map (map bare) o) ≡ state_since o
    go None = refl
    go (Some s) = ap state_by (causes_bare None s)

messages_bare : (es : List EntryValue) → session_messages (map bare es) ≡ map bare (session_messages es)
messages_bare es = ap (λ (o : Option (List EntryValue)). unwrap_or (option_and_then (λ s. unless_closed s (last_cause s)) o) []) (since_bare es) ∙ go (since_opening es)
  where
    at : (s : List EntryValue) (c : Option Cause) → unwrap_or (unless_closed (map bare s) c) [] ≡ map bare (unwrap_or (unless_closed s c) [])
    at s None = refl
    at s (Some cause) = refl

    go : (o : Option (List EntryValue)) → unwrap_or (option_and_then (λ s. unless_closed s (last_cause s)) (option_map (map bare) o)) [] ≡ map bare (unwrap_or (option_and_then (λ s. unless_closed s (last_cause s)) o) [])
    go None = refl
    go (Some s) = ap (λ (c : Option Cause). unwrap_or (unless_closed (map bare s) c) []) (causes_bare None s) ∙ at s (last_cause s)

effects_of_bare : (es : List EntryValue) → flat_map effects_in (map bare es) ≡ flat_map effects_in es
effects_of_bare [] = refl
effects_of_bare (opened came ∷ es) = effects_of_bare es
effects_of_bare (message head effects ∷ es) = ap (λ (l : List EffectValue). effects ++ l) (effects_of_bare es)
effects_of_bare (closed closing ∷ es) = effects_of_bare es

effects_bare : (es : List EntryValue) → session_effects (map bare es) ≡ session_effects es
effects_bare es = ap (flat_map effects_in) (messages_bare es) ∙ effects_of_bare (session_messages es)

lengths_bare : (es : List EntryValue) → sum_by length_of (map bare es) ≡ sum_by length_of es
lengths_bare [] = refl
lengths_bare (opened came ∷ es) = lengths_bare es
lengths_bare (message head effects ∷ es) =
    sum_by-cons length_of (bare (message head effects)) (map bare es) ∙ ap (λ (n : ℕ). head.size + n) (lengths_bare es) ∙ sym (sum_by-cons length_of (message head effects) es)
lengths_bare (closed closing ∷ es) = lengths_bare es

abbrev counts_by : ℕ → ℕ → List EffectValue → CountsValue
counts_by messages bytes effects = record {
  messages = told_count messages;
  bytes = told_count bytes;
  orphans = told_count (count_by is_orphan effects);
  unread = told_count (sum_by parts_in effects);
  mirrored = told_count (count_by is_mirrored effects);
  passed = told_count (count_by is_passed effects);
}

counts_bare : (es : List EntryValue) → counts_of (map bare es) ≡ counts_of es
counts_bare es =
    let many : length (session_messages (map bare es)) ≡ length (session_messages es) = ap length (messages_bare es) ∙ length-map (session_messages es) bare in
    let bytes : sum_by length_of (session_messages (map bare es)) ≡ sum_by length_of (session_messages es) = ap (sum_by length_of) (messages_bare es) ∙ lengths_bare (session_messages es) in
    let effects = effects_bare es in
    λ i. counts_by (many i) (bytes i) (effects i)

steps_bare : (es : List EntryValue) → steps_of (map bare es) ≡ steps_of es
steps_bare [] = refl
steps_bare (opened came ∷ es) = ap (λ (l : List StepValue). steps_in (opened came) ++ l) (steps_bare es)
steps_bare (message head effects ∷ es) = ap (λ (l : List StepValue). steps_in (message head effects) ++ l) (steps_bare es)
steps_bare (closed closing ∷ es) = ap (λ (l : List StepValue). steps_in (closed closing) ++ l) (steps_bare es)

bare_alike : (es : List EntryValue) → Alike (map bare es) es
bare_alike es = record { state = state_bare es; effects = effects_bare es; counts = counts_bare es; steps = steps_bare es; len = length-map es bare }

total_bare : (lanes : List (List EntryValue)) → sum_by length (map (map bare) lanes) ≡ sum_by length lanes
total_bare [] = refl
total_bare (es ∷ lanes) =
    sum_by-cons length (map bare es) (map (map bare) lanes) ∙ (λ i. length-map es bare i + total_bare lanes i) ∙ sym (sum_by-cons length es lanes)

-- ---- lists of what is so
module _ {A K : Type 0} (key : A → K) (cmp : K → K → Ordering) (P Q : A → Type 0) where
  all_as : ((x : A) → P x → Q x) → ((x : A) → Q x → P x) → (list : List A) → AreAll key cmp P list → AreAll key cmp Q list
  all_as to from list p = record { ordered = p.ordered; exact = λ x. (λ c. to x ((p.exact x).0 c), λ q. (p.exact x).1 (from x q)) }

-- what is so of lanes, lane after lane, is so of them without facts, and the other way round
module _ {B : Type 0} (Fits : ℕ → List EntryValue → B → Type 0) (along : (lane : ℕ) (a b : List EntryValue) → Alike a b → (x : B) → Fits lane a x → Fits lane b x) where
  parts_to : (lanes : List (List EntryValue)) (parts : List B) → AreParallel Fits lanes parts → AreParallel Fits (map (map bare) lanes) parts
  parts_to lanes parts p = record {
    count = p.count ∙ sym (length-map lanes (map bare));
    each = λ k a b within.
        let here : k < length lanes = omega (arith, within, length-map lanes (map bare)) in
        let es : List EntryValue = slice_index_or lanes k [] in
        subst (λ (l : List EntryValue). Fits k l (slice_index_or parts k b)) (sym (get_or-map (map bare) lanes k [] a here))
        (along k es (map bare es) (back (map bare es) es (bare_alike es)) (slice_index_or parts k b) (p.each k [] b here));
  }

  parts_from : (lanes : List (List EntryValue)) (parts : List B) → AreParallel Fits (map (map bare) lanes) parts → AreParallel Fits lanes parts
  parts_from lanes parts p = record {
    count = p.count ∙ length-map lanes (map bare);
    each = λ k a b within.
        let there : k < length (map (map bare) lanes) = omega (arith, within, length-map lanes (map bare)) in
        let es : List EntryValue = slice_index_or lanes k a in
        along k (map bare es) es (bare_alike es) (slice_index_or parts k b)
        (subst (λ (l : List EntryValue). Fits k l (slice_index_or parts k b)) (get_or-map (map bare) lanes k a a within) (p.each k a b there));
  }

-- ---- the lines of a lane
module _ (lane : ℕ) (a b : List EntryValue) (e : Alike a b) where
  router_line : (s : LaneStateValue) (text : List ℕ) → IsRouterLine lane a s text → IsRouterLine lane b s text
  router_line idle text is = is
  router_line (shut cause) text is = is
  router_line live text (up, all, is) = (
    up,
    subst (λ (fx : List EffectValue). AreAll (λ key. key) key_cmp (IsUp fx) up) e.effects all,
    is ∙ (λ i. live_line lane (told_count (length up)) (e.counts i) (name_of (e.effects i)) (description_of (e.effects i))),
  )

  mark_as : (m : MarkValue) → IsMark a m → IsMark b m
  mark_as m p = record {
    up = subst (λ (fx : List EffectValue). IsUp fx m.key) e.effects p.up;
    view_is = p.view_is;
    complete_is = subst (λ (fx : List EffectValue). IsTrue m.complete ↔ IsComplete fx m.key m.view m.family) e.effects p.complete_is;
  }

  row_count_as : (c : RowCountValue) → IsRowCount a c → IsRowCount b c
  row_count_as c p = record {
    is_mark = mark_as c.mark p.is_mark;
    rows = p.rows;
    are_rows = subst (λ (fx : List EffectValue). AreRows (IsOfTable c.mark) fx p.rows) e.effects p.are_rows;
    count_is = p.count_is;
  }

  peer_lines : (Selects : KeyValue → Type 0) (lines : List (List ℕ)) → ArePeerLines lane a Selects lines → ArePeerLines lane b Selects lines
  peer_lines Selects lines p = record {
    known = p.known;
    are_known = subst (λ (fx : List EffectValue). AreAll (λ q. q.0) key_cmp (λ q. IsPeerAs fx q.0 q.1 × Selects q.0) p.known) e.effects p.are_known;
    told = p.told;
  }

  row_lines : (query : QueryValue) (lines : List (List ℕ)) → AreRowLines query lane a lines → AreRowLines query lane b lines
  row_lines query lines p = record {
    rows = p.rows;
    are_rows = subst (λ (fx : List EffectValue). AreRows (AsksRow query lane fx) fx p.rows) e.effects p.are_rows;
    told = p.told;
  }

  stat_lines : (key : KeyValue) (lines : List (List ℕ)) → AreStatLines lane a key lines → AreStatLines lane b key lines
  stat_lines key lines p = record { known = p.known; are_known = subst (λ (fx : List EffectValue). AreAll kind_of kind_cmp (HasStatistic fx key) p.known) e.effects p.are_known; told = p.told }

  change_lines : (from : ℕ) (prefix : PrefixValue) (lines : List (List ℕ)) → AreChangeLines lane a from prefix lines → AreChangeLines lane b from prefix lines
  change_lines from prefix lines p = record {
    known = p.known;
    are_known = subst (λ (st : List StepValue). AreAll (λ c. c.number) nat_cmp (IsChange st (max from (oldest_kept (length st))) prefix) p.known) e.steps p.are_known;
    told = subst (λ (st : List StepValue). MatchBool (nat_lt (length st) most_told)
        (lines ≡ steps_line lane (length st) ∷ (missed_lines from (oldest_kept (length st)) ++ map (change_line lane) p.known))
        (lines ≡ steps_line lane most_told ∷ [])) e.steps p.told;
  }

  at_lane : (yes : Bool) (P Q : Type 0) (N : Type 0) → (P → Q) → MatchBool yes P N → MatchBool yes Q N
  at_lane true P Q N f p = f p
  at_lane false P Q N f n = n

  asked_rows : (with_steps full : Bool) (query : QueryValue) (traits : TraitsValue) (lines : List (List ℕ)) → AreAskedRowLines with_steps full query traits lane a lines → AreAskedRowLines with_steps full query traits lane b lines
  asked_rows with_steps full query traits lines p = record {
    steps_lines = p.steps_lines;
    known = p.known;
    are_steps = steps_lines with_steps p.steps_lines p.are_steps;
    are_rows = subst (λ (fx : List EffectValue). AreRows (AsksTraitRow query traits lane fx) fx p.known) e.effects p.are_rows;
    told = p.told;
  }
    where
      steps_lines : (yes : Bool) (xs : List (List ℕ)) → AreStepsLines yes query lane a xs → AreStepsLines yes query lane b xs
      steps_lines false xs q = q
      steps_lines true xs (inl q) = inl (q.0, q.1 ∙ ap (λ (st : List StepValue). steps_line lane (told_count (length st)) ∷ []) e.steps)
      steps_lines true xs (inr q) = inr q

  asked_changes : (full : Bool) (from : ℕ) (prefix : Option PrefixValue) (lines : List (List ℕ)) → AreAskedChangeLines full lane a from prefix lines → AreAskedChangeLines full lane b from prefix lines
  asked_changes full from prefix lines p = record {
    known = p.known;
    are_known = subst (λ (st : List StepValue). AreAll (λ c. c.number) nat_cmp (IsAskedStep prefix st (max from (oldest_kept (length st)))) p.known) e.steps p.are_known;
    told = subst (λ (st : List StepValue). MatchBool (nat_lt (length st) most_told)
        (lines ≡ steps_line lane (length st) ∷ (missed_lines from (oldest_kept (length st)) ++ map (told_change full lane) p.known))
        (lines ≡ steps_line lane most_told ∷ [])) e.steps p.told;
  }

mark_lines : (lane : ℕ) (a b : List EntryValue) → Alike a b → (select : SelectValue) (lines : List (List ℕ)) → AreMarkLines lane a select lines → AreMarkLines lane b select lines
mark_lines lane a b e select lines p = record {
  known = p.known;
  are_known = all_as _ _ _ _ (λ m q. (mark_as lane a b e m q.0, q.1)) (λ m q. (mark_as lane b a (back a b e) m q.0, q.1)) p.known p.are_known;
  told = p.told;
}

full_mark_lines : (lane : ℕ) (a b : List EntryValue) → Alike a b → (select : SelectValue) (lines : List (List ℕ)) → AreFullMarkLines lane a select lines → AreFullMarkLines lane b select lines
full_mark_lines lane a b e select lines p = record {
  known = p.known;
  are_known = all_as _ _ _ _ (λ c q. (row_count_as lane a b e c q.0, q.1)) (λ c q. (row_count_as lane b a (back a b e) c q.0, q.1)) p.known p.are_known;
  told = p.told;
}

lane_lines : (query : QueryValue) (lane : ℕ) (a b : List EntryValue) → Alike a b → (lines : List (List ℕ)) → AreLaneLines query lane a lines → AreLaneLines query lane b lines
lane_lines routers lane a b e lines (text, is, told) = (text, router_line lane a b e (state_of b) text (subst (λ (s : LaneStateValue). IsRouterLine lane a s text) e.state is), told)
lane_lines cut lane a b e lines p = p ∙ ap (λ (n : ℕ). lane_line lane n ∷ []) e.len
lane_lines (peers router peer) lane a b e lines p = peer_lines lane a b e (IsPeerSelected router peer lane) lines p
lane_lines (marks select) lane a b e lines p = mark_lines lane a b e select lines p
lane_lines (table select) lane a b e lines p = row_lines lane a b e (table select) lines p
lane_lines (exact prefix select) lane a b e lines p = row_lines lane a b e (exact prefix select) lines p
lane_lines (longest address select) lane a b e lines p = row_lines lane a b e (longest address select) lines p
lane_lines (within prefix select) lane a b e lines p = row_lines lane a b e (within prefix select) lines p
lane_lines (origin asn select) lane a b e lines p = row_lines lane a b e (origin asn select) lines p
lane_lines (stats key) lane a b e lines p = stat_lines lane a b e key lines p
lane_lines (changes number from prefix) lane a b e lines p = at_lane lane a b e (number == lane) _ _ _ (change_lines lane a b e from prefix lines) p
lane_lines (count select) lane a b e lines p = absurd p
lane_lines quit lane a b e lines p = absurd p

asked_lane_lines : (ask : AskValue) → ¬ (AsksFacts ask) → (lane : ℕ) (a b : List EntryValue) → Alike a b → (lines : List (List ℕ)) → AreAskedLaneLines ask lane a lines → AreAskedLaneLines ask lane b lines
asked_lane_lines (plain query) other lane a b e lines p = absurd p
asked_lane_lines (rows with_steps full query traits) other lane a b e lines p = asked_rows lane a b e with_steps full query traits lines p
asked_lane_lines (steps full number from prefix) other lane a b e lines p = at_lane lane a b e (number == lane) _ _ _ (asked_changes lane a b e full from prefix lines) p
asked_lane_lines (full_marks select) other lane a b e lines p = full_mark_lines lane a b e select lines p
asked_lane_lines full_routers other lane a b e lines p = absurd (other tt)

-- ---- the rows that are counted
abbrev CountsRows : SelectValue → ℕ → List EntryValue → List RowValue → Type 0
CountsRows select lane es part = AreRows (AsksRow (count select) lane (session_effects es)) (session_effects es) part

counts_along : (select : SelectValue) (lane : ℕ) (a b : List EntryValue) → Alike a b → (part : List RowValue) → CountsRows select lane a part → CountsRows select lane b part
counts_along select lane a b e part p = subst (λ (fx : List EffectValue). AreRows (AsksRow (count select) lane fx) fx part) e.effects p

abbrev CountsAsked : SelectValue → TraitsValue → ℕ → List EntryValue → List RowValue → Type 0
CountsAsked select traits lane es part = AreRows (AsksTraitRow (count select) traits lane (session_effects es)) (session_effects es) part

asked_along : (select : SelectValue) (traits : TraitsValue) (lane : ℕ) (a b : List EntryValue) → Alike a b → (part : List RowValue) → CountsAsked select traits lane a part → CountsAsked select traits lane b part
asked_along select traits lane a b e part p = subst (λ (fx : List EffectValue). AreRows (AsksTraitRow (count select) traits lane fx) fx part) e.effects p

-- ---- the lines of all lanes
module _ (lanes : List (List EntryValue)) where
  abbrev bared : List (List EntryValue)
  bared = map (map bare) lanes

  lines_as : (query : QueryValue) (lines : List (List ℕ)) → AreLines query lanes lines ↔ AreLines query bared lines
  lines_as query lines = (
    λ p. record { parts = p.parts; each = parts_to (AreLaneLines query) (lane_lines query) lanes p.parts p.each; all = p.all },
    λ p. record { parts = p.parts; each = parts_from (AreLaneLines query) (lane_lines query) lanes p.parts p.each; all = p.all },
  )

  asked_lines_as : (ask : AskValue) → ¬ (AsksFacts ask) → (lines : List (List ℕ)) → AreAskedLines ask lanes lines ↔ AreAskedLines ask bared lines
  asked_lines_as ask other lines = (
    λ p. record { parts = p.parts; each = parts_to (AreAskedLaneLines ask) (asked_lane_lines ask other) lanes p.parts p.each; all = p.all },
    λ p. record { parts = p.parts; each = parts_from (AreAskedLaneLines ask) (asked_lane_lines ask other) lanes p.parts p.each; all = p.all },
  )

  count_as : (select : SelectValue) (lines : List (List ℕ)) → IsCountLine select lanes lines ↔ IsCountLine select bared lines
  count_as select lines = (
    λ p. record { rows = p.rows; are_rows = record { parts = p.are_rows.parts; each = parts_to (CountsRows select) (counts_along select) lanes p.are_rows.parts p.are_rows.each; all = p.are_rows.all }; told = p.told },
    λ p. record { rows = p.rows; are_rows = record { parts = p.are_rows.parts; each = parts_from (CountsRows select) (counts_along select) lanes p.are_rows.parts p.are_rows.each; all = p.are_rows.all }; told = p.told },
  )

  asked_count_as : (select : SelectValue) (traits : TraitsValue) (lines : List (List ℕ)) → IsAskedCount select traits lanes lines ↔ IsAskedCount select traits bared lines
  asked_count_as select traits lines = (
    λ p. record { parts = p.parts; each = parts_to (CountsAsked select traits) (asked_along select traits) lanes p.parts p.each; told = p.told },
    λ p. record { parts = p.parts; each = parts_from (CountsAsked select traits) (asked_along select traits) lanes p.parts p.each; told = p.told },
  )

  reply_lines_as : (query : QueryValue) (lines : List (List ℕ)) → AreReplyLines query lanes lines ↔ AreReplyLines query bared lines
  reply_lines_as (count select) lines = count_as select lines
  reply_lines_as routers lines = lines_as routers lines
  reply_lines_as cut lines = lines_as cut lines
  reply_lines_as (peers router peer) lines = lines_as (peers router peer) lines
  reply_lines_as (marks select) lines = lines_as (marks select) lines
  reply_lines_as (table select) lines = lines_as (table select) lines
  reply_lines_as (exact prefix select) lines = lines_as (exact prefix select) lines
  reply_lines_as (longest address select) lines = lines_as (longest address select) lines
  reply_lines_as (within prefix select) lines = lines_as (within prefix select) lines
  reply_lines_as (origin asn select) lines = lines_as (origin asn select) lines
  reply_lines_as (stats key) lines = lines_as (stats key) lines
  reply_lines_as (changes number from prefix) lines = lines_as (changes number from prefix) lines
  reply_lines_as quit lines = (λ p. p, λ p. p)

  rows_lines_as : (with_steps full : Bool) (query : QueryValue) (traits : TraitsValue) (lines : List (List ℕ)) → AreFurtherLines (rows with_steps full query traits) lanes lines ↔ AreFurtherLines (rows with_steps full query traits) bared lines
  rows_lines_as with_steps full (count select) traits lines = asked_count_as select traits lines
  rows_lines_as with_steps full routers traits lines = asked_lines_as (rows with_steps full routers traits) (λ f. f) lines
  rows_lines_as with_steps full cut traits lines = asked_lines_as (rows with_steps full cut traits) (λ f. f) lines
  rows_lines_as with_steps full (peers router peer) traits lines = asked_lines_as (rows with_steps full (peers router peer) traits) (λ f. f) lines
  rows_lines_as with_steps full (marks select) traits lines = asked_lines_as (rows with_steps full (marks select) traits) (λ f. f) lines
  rows_lines_as with_steps full (table select) traits lines = asked_lines_as (rows with_steps full (table select) traits) (λ f. f) lines
  rows_lines_as with_steps full (exact prefix select) traits lines = asked_lines_as (rows with_steps full (exact prefix select) traits) (λ f. f) lines
  rows_lines_as with_steps full (longest address select) traits lines = asked_lines_as (rows with_steps full (longest address select) traits) (λ f. f) lines
  rows_lines_as with_steps full (within prefix select) traits lines = asked_lines_as (rows with_steps full (within prefix select) traits) (λ f. f) lines
  rows_lines_as with_steps full (origin asn select) traits lines = asked_lines_as (rows with_steps full (origin asn select) traits) (λ f. f) lines
  rows_lines_as with_steps full (stats key) traits lines = asked_lines_as (rows with_steps full (stats key) traits) (λ f. f) lines
  rows_lines_as with_steps full (changes number from prefix) traits lines = asked_lines_as (rows with_steps full (changes number from prefix) traits) (λ f. f) lines
  rows_lines_as with_steps full quit traits lines = asked_lines_as (rows with_steps full quit traits) (λ f. f) lines

  -- ---- the replies
  reply_as : (query : QueryValue) (bytes : List ℕ) → IsReply query lanes bytes ↔ IsReply query bared bytes
  reply_as query bytes = (
    λ p. record { lines = p.lines; are_lines = (reply_lines_as query p.lines).0 p.are_lines; told = p.told ∙ ap (λ (n : ℕ). reply n p.lines) (sym (total_bare lanes)) },
    λ p. record { lines = p.lines; are_lines = (reply_lines_as query p.lines).1 p.are_lines; told = p.told ∙ ap (λ (n : ℕ). reply n p.lines) (total_bare lanes) },
  )

  further_as : (ask : AskValue) → ((lines : List (List ℕ)) → AreFurtherLines ask lanes lines ↔ AreFurtherLines ask bared lines) → (bytes : List ℕ) → IsFurtherReply ask lanes bytes ↔ IsFurtherReply ask bared bytes
  further_as ask same bytes = (
    λ p. record { lines = p.lines; are_lines = (same p.lines).0 p.are_lines; told = p.told ∙ ap (λ (n : ℕ). reply n p.lines) (sym (total_bare lanes)) },
    λ p. record { lines = p.lines; are_lines = (same p.lines).1 p.are_lines; told = p.told ∙ ap (λ (n : ℕ). reply n p.lines) (total_bare lanes) },
  )

pub forgets_facts : ForgetsFacts
forgets_facts (plain query) other lanes bytes = reply_as lanes query bytes
forgets_facts (rows with_steps full query traits) other lanes bytes = further_as lanes (rows with_steps full query traits) (rows_lines_as lanes with_steps full query traits) bytes
forgets_facts (steps full number from prefix) other lanes bytes = further_as lanes (steps full number from prefix) (asked_lines_as lanes (steps full number from prefix) other) bytes
forgets_facts (full_marks select) other lanes bytes = further_as lanes (full_marks select) (asked_lines_as lanes (full_marks select) other) bytes
forgets_facts full_routers other lanes bytes = absurd (other tt)
