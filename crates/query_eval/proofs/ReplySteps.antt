-- A reply, from its first line to its last, and through a buffer.
use Rattle.std.proofs.Common.{◌≡◌, inl, inr, ℕ, suc, ◌+◌, Bool, List, [], ◌∷◌, ◌++◌, length, Option, Result, Ok, Err, refl, sym, ap, ◌∙◌, subst, arith}
use mathlib.Core.Bool.{true, false≢true}
use Rattle.std.specs.Prelude.{sum_by, slice_index_or}
use Rattle.std.specs.List.{concat}
use Rattle.std.specs.Result.{is_err}
use Rattle.std.proofs.lemmas.List.Sums.{sum_by-cons}
use Rattle.ask_specs.specs.Asking.{AskValue, plain, rows as rows_asked, steps, full_marks, full_routers}
use Rattle.ask_specs.specs.AskReply.{AreAskedLines, IsAskReply, IsAskedCount}
use Rattle.ask_specs.specs.Traits.{TraitsValue, no_traits}
use Rattle.bmp_specs.specs.Lines.{at_line, end_line}
use Rattle.bmp_specs.specs.Listed.{AreParallel}
use Rattle.bmp_specs.specs.PeerLines.{count_line}
use Rattle.bmp_specs.specs.Query.{QueryValue, routers, cut as cut_query, peers, marks, table, count, exact, longest, within, origin, stats, changes, quit}
use Rattle.bmp_specs.specs.QueryReply.{AreLines, IsCountLine}
use Rattle.bmp_specs.specs.Reply.{reply, told_count}
use Rattle.bmp_specs.specs.Selection.{SelectValue}
use Rattle.bmp_specs.specs.Values.{EntryValue}
use Rattle.cut_publisher.specs.Cuts.{total}
use Rattle.router_tables.specs.Tables.{TablesValue}
use Rattle.wire_io.specs.declared.sink.Failed.{Failed}
use Rattle.wire_io.specs.Aside.{Aside}
use Rattle.wire_io.specs.Buffer.{GoesThrough}
use Rattle.wire_io.specs.Faults.{HasCause}
use Rattle.wire_io.specs.Writes.{Writes}
use Rattle.wire_io.proofs.Joins.{join, join_failed, more}
use Rattle.query_eval.specs.Puts.{PutsLines}
use Rattle.query_eval.specs.Replies.{PutsBuffered, PutsText, StandsForLane, StandForLanes, AreAskLaneLines, AreAskLines, AreLanes, AsksByLane, AsksCount, CountsAllRows}
use Rattle.query_eval.proofs.LaneSteps.{length_of_parts}
use Rattle.query_eval.proofs.Leading.{one_line, one_line_failed}
use Rattle.query_eval.proofs.RowAnswers.{rows_kept}

-- the revision of a cut is the number of all entries
pub revision_is : (cut : List (TablesValue × ℕ)) (lanes : List (List EntryValue)) → StandForLanes cut lanes → total cut ≡ sum_by length lanes
revision_is cut lanes stand = go (λ number lane es. StandsForLane lane es) (λ number x es s. s.count) cut lanes stand
  where
    go : (Fits : ℕ → TablesValue × ℕ → List EntryValue → Type 0) → ((k : ℕ) (x : TablesValue × ℕ) (es : List EntryValue) → Fits k x es → x.1 ≡ length es) → (xs : List (TablesValue × ℕ)) (ys : List (List EntryValue)) → AreParallel Fits xs ys → total xs ≡ sum_by length ys
    go Fits counts [] [] are = refl
    go Fits counts [] (y ∷ ys) are = absurd (omega (arith, are.count))
    go Fits counts (x ∷ xs) [] are = absurd (omega (arith, are.count))
    go Fits counts (x ∷ xs) (y ∷ ys) are =
        let first : x.1 ≡ length y = counts 0 x y (are.each 0 x y (omega arith)) in
        let rest : total xs ≡ sum_by length ys = go (λ k. Fits (suc k)) (λ k. counts (suc k)) xs ys (record { count = omega (arith, are.count); each = λ k a b small. are.each (suc k) a b (omega arith) }) in
        sum_by-cons (λ (z : TablesValue × ℕ). z.1) x xs ∙ (λ i. first i + rest i) ∙ sym (sum_by-cons length y ys)

-- the one line of the number of rows
lines_are : (cut : List (TablesValue × ℕ)) (select : SelectValue) (traits : TraitsValue) (rows : ℕ) → CountsAllRows (StandForLanes cut) (count select) traits rows → (lanes : List (List EntryValue)) (lines : List (List ℕ)) → StandForLanes cut lanes → IsAskedCount select traits lanes lines → lines ≡ count_line rows ∷ []
lines_are cut select traits rows all lanes lines stand are = are.told ∙ ap (λ (n : ℕ). count_line n ∷ []) (sym (all.counts lanes are.parts stand are.each))

-- that of a query which names no selector of path attributes
count_told : (select : SelectValue) (lanes : List (List EntryValue)) (lines : List (List ℕ)) → IsCountLine select lanes lines → IsAskedCount select no_traits lanes lines
count_told select lanes lines c = record {
  parts = c.are_rows.parts;
  each = record { count = c.are_rows.each.count; each = λ k entries rows small. rows_kept (count select) k (slice_index_or lanes k entries) (slice_index_or c.are_rows.parts k rows) (c.are_rows.each.each k entries rows small) };
  told = c.told ∙ ap (λ (n : ℕ). count_line (told_count n) ∷ []) (ap length c.are_rows.all ∙ length_of_parts c.are_rows.parts);
}

-- a text of lanes is a reply that these lines make
abbrev pub IsMadeOf : (List (List EntryValue) → List (List ℕ) → Type 0) → (List (List EntryValue) → List ℕ → Type 0) → Type 0
IsMadeOf AreThese IsText = (lanes : List (List EntryValue)) (text : List ℕ) → IsText lanes text → (lines : List (List ℕ)) × AreThese lanes lines × (text ≡ reply (sum_by length lanes) lines)

pub ask_made : (ask : AskValue) → IsMadeOf (AreAskLines ask) (IsAskReply ask)
ask_made (plain query) lanes text is = (is.lines, is.are_lines, is.told)
ask_made (rows_asked with_steps full query traits) lanes text is = (is.lines, is.are_lines, is.told)
ask_made (steps full lane from prefix) lanes text is = (is.lines, is.are_lines, is.told)
ask_made (full_marks select) lanes text is = (is.lines, is.are_lines, is.told)
ask_made full_routers lanes text is = (is.lines, is.are_lines, is.told)

text_is : (cut : List (TablesValue × ℕ)) (rev : ℕ) → rev ≡ total cut → (lanes : List (List EntryValue)) (text : List ℕ) (lines : List (List ℕ)) → StandForLanes cut lanes → text ≡ reply (sum_by length lanes) lines → text ≡ at_line rev ++ (concat lines ++ end_line (told_count (length lines)))
text_is cut rev rev_is lanes text lines stand is = is ∙ ap (λ (n : ℕ). at_line n ++ (concat lines ++ end_line (told_count (length lines)))) (sym (rev_is ∙ revision_is cut lanes stand))

-- the lines of a reply that tells of each lane apart are those of its lanes
of_lines : (query : QueryValue) (lanes : List (List EntryValue)) (lines : List (List ℕ)) → AreLines query lanes lines → AreLanes (AreAskLaneLines (plain query)) lanes lines
of_lines query lanes lines are = record { parts = are.parts; each = are.each; all = are.all }

of_rows : (with_steps full : Bool) (query : QueryValue) (traits : TraitsValue) (lanes : List (List EntryValue)) (lines : List (List ℕ)) → AreAskedLines (rows_asked with_steps full query traits) lanes lines → AreLanes (AreAskLaneLines (rows_asked with_steps full query traits)) lanes lines
of_rows with_steps full query traits lanes lines are = record { parts = are.parts; each = are.each; all = are.all }

by_lanes : (ask : AskValue) → AsksByLane ask → (lanes : List (List EntryValue)) (lines : List (List ℕ)) → AreAskLines ask lanes lines → AreLanes (AreAskLaneLines ask) lanes lines
by_lanes (plain routers) tells lanes lines are = of_lines routers lanes lines are
by_lanes (plain cut_query) tells lanes lines are = of_lines cut_query lanes lines are
by_lanes (plain (peers router peer)) tells lanes lines are = of_lines (peers router peer) lanes lines are
by_lanes (plain (marks select)) tells lanes lines are = of_lines (marks select) lanes lines are
by_lanes (plain (table select)) tells lanes lines are = of_lines (table select) lanes lines are
by_lanes (plain (exact prefix select)) tells lanes lines are = of_lines (exact prefix select) lanes lines are
by_lanes (plain (longest address select)) tells lanes lines are = of_lines (longest address select) lanes lines are
by_lanes (plain (within prefix select)) tells lanes lines are = of_lines (within prefix select) lanes lines are
by_lanes (plain (origin asn select)) tells lanes lines are = of_lines (origin asn select) lanes lines are
by_lanes (plain (stats key)) tells lanes lines are = of_lines (stats key) lanes lines are
by_lanes (plain (changes number from prefix)) tells lanes lines are = of_lines (changes number from prefix) lanes lines are
by_lanes (plain (count select)) tells lanes lines are = absurd tells
by_lanes (plain quit) tells lanes lines are = absurd tells
by_lanes (rows_asked with_steps full (table select) traits) tells lanes lines are = of_rows with_steps full (table select) traits lanes lines are
by_lanes (rows_asked with_steps full (exact prefix select) traits) tells lanes lines are = of_rows with_steps full (exact prefix select) traits lanes lines are
by_lanes (rows_asked with_steps full (longest address select) traits) tells lanes lines are = of_rows with_steps full (longest address select) traits lanes lines are
by_lanes (rows_asked with_steps full (within prefix select) traits) tells lanes lines are = of_rows with_steps full (within prefix select) traits lanes lines are
by_lanes (rows_asked with_steps full (origin asn select) traits) tells lanes lines are = of_rows with_steps full (origin asn select) traits lanes lines are
by_lanes (rows_asked with_steps full (count select) traits) tells lanes lines are = absurd tells
by_lanes (rows_asked with_steps full routers traits) tells lanes lines are = absurd tells
by_lanes (rows_asked with_steps full cut_query traits) tells lanes lines are = absurd tells
by_lanes (rows_asked with_steps full (peers router peer) traits) tells lanes lines are = absurd tells
by_lanes (rows_asked with_steps full (marks select) traits) tells lanes lines are = absurd tells
by_lanes (rows_asked with_steps full (stats key) traits) tells lanes lines are = absurd tells
by_lanes (rows_asked with_steps full (changes number from prefix) traits) tells lanes lines are = absurd tells
by_lanes (rows_asked with_steps full quit traits) tells lanes lines are = absurd tells
by_lanes (steps full lane from prefix) tells lanes lines are = record { parts = are.parts; each = are.each; all = are.all }
by_lanes (full_marks select) tells lanes lines are = record { parts = are.parts; each = are.each; all = are.all }
by_lanes full_routers tells lanes lines are = record { parts = are.parts; each = are.each; all = are.all }

module _ {O : Type 0} {faults : O → ℕ} {told : O → Option (List ℕ)} {aside : O → Aside} where
  -- the number of rows
  module _ (cut : List (TablesValue × ℕ)) (select : SelectValue) (traits : TraitsValue) (rows : ℕ) (all : CountsAllRows (StandForLanes cut) (count select) traits rows) where
    pub puts_count : (a b : O) → Writes faults told aside a (count_line rows) (Ok tt) b → PutsLines faults told aside (StandForLanes cut) (IsAskedCount select traits) a (Ok 1) b
    puts_count a b w = record {
      puts = λ lanes lines stand are. one_line a b (count_line rows) lines w (lines_are cut select traits rows all lanes lines stand are);
      kept = w.kept;
      cause = record { later = w.cause.later; failed = tt; fine = w.cause.fine };
    }

    pub puts_count_failed : (a b : O) (d : Failed) (r : Result ℕ Failed) → Writes faults told aside a (count_line rows) (Err d) b → is_err r ≡ true → PutsLines faults told aside (StandForLanes cut) (IsAskedCount select traits) a r b
    puts_count_failed a b d (Ok n) w h = absurd (false≢true h)
    puts_count_failed a b d (Err d') w h = record {
      puts = λ lanes lines stand are. one_line_failed a b (count_line rows) lines d (Err d') w h (lines_are cut select traits rows all lanes lines stand are);
      kept = w.kept;
      cause = record { later = w.cause.later; failed = w.cause.failed; fine = tt };
    }

  -- as the lines of what is asked
  pub puts_asked_count : (cut : List (TablesValue × ℕ)) (ask : AskValue) (select : SelectValue) (traits : TraitsValue) → AsksCount ask select traits → (a b : O) (r : Result ℕ Failed)
      → PutsLines faults told aside (StandForLanes cut) (IsAskedCount select traits) a r b → PutsLines faults told aside (StandForLanes cut) (AreAskLines ask) a r b
  puts_asked_count cut ask select traits (inl is) a b r p =
      let none = subst (λ (t : TraitsValue). PutsLines faults told aside (StandForLanes cut) (IsAskedCount select t) a r b) is.1 p in
      subst (λ (asked : AskValue). PutsLines faults told aside (StandForLanes cut) (AreAskLines asked) a r b) (sym is.0)
      (record { puts = λ lanes lines stand are. none.puts lanes lines stand (count_told select lanes lines are); kept = none.kept; cause = none.cause })
  puts_asked_count cut ask select traits (inr is) a b r p = subst (λ (asked : AskValue). PutsLines faults told aside (StandForLanes cut) (AreAskLines asked) a r b) (sym is) p

  -- the lines of a reply that tells of each lane apart
  pub puts_by_lanes : (ask : AskValue) → AsksByLane ask → (cut : List (TablesValue × ℕ)) (a b : O) (r : Result ℕ Failed) → PutsLines faults told aside (StandForLanes cut) (AreLanes (AreAskLaneLines ask)) a r b → PutsLines faults told aside (StandForLanes cut) (AreAskLines ask) a r b
  puts_by_lanes ask tells cut a b r p = record { puts = λ lanes lines stand are. p.puts lanes lines stand (by_lanes ask tells lanes lines are); kept = p.kept; cause = p.cause }

  -- the whole reply
  module _ (cut : List (TablesValue × ℕ)) (AreThese : List (List EntryValue) → List (List ℕ) → Type 0) (IsText : List (List EntryValue) → List ℕ → Type 0) (made : IsMadeOf AreThese IsText) (rev : ℕ) (rev_is : rev ≡ total cut) where
    pub first_failed : (a b : O) (d : Failed) (r : Result (Unit {0}) Failed) → Writes faults told aside a (at_line rev) (Err d) b → is_err r ≡ true → PutsText faults told aside (StandForLanes cut) IsText a r b
    first_failed a b d (Ok u) w h = absurd (false≢true h)
    first_failed a b d (Err d') w h = record {
      puts = λ lanes text stand is. let m = made lanes text is in more a b (at_line rev) (concat m.0 ++ end_line (told_count (length m.0))) text d (Err d') w refl (text_is cut rev rev_is lanes text m.0 stand m.2);
      kept = w.kept;
      cause = record { later = w.cause.later; failed = w.cause.failed; fine = tt };
    }

    pub lines_failed : (a b c : O) (d : Failed) (r : Result (Unit {0}) Failed) → Writes faults told aside a (at_line rev) (Ok tt) b → PutsLines faults told aside (StandForLanes cut) AreThese b (Err d) c → is_err r ≡ true → PutsText faults told aside (StandForLanes cut) IsText a r c
    lines_failed a b c d (Ok u) w p h = absurd (false≢true h)
    lines_failed a b c d (Err d') w p h = record {
      puts = λ lanes text stand is. let m = made lanes text is in join_failed a b c (at_line rev) (concat m.0) (end_line (told_count (length m.0))) text d (Err d') w (p.puts lanes m.0 stand m.1).written refl (text_is cut rev rev_is lanes text m.0 stand m.2);
      kept = p.kept ∙ w.kept;
      cause = subst (λ (before : ℕ). HasCause {T = Unit {0}} {E = Failed} before (faults c) (Err d')) w.cause.fine (record { later = p.cause.later; failed = p.cause.failed; fine = tt });
    }

    pub all_written : (a b c e : O) (n : ℕ) (r : Result (Unit {0}) Failed) → Writes faults told aside a (at_line rev) (Ok tt) b → PutsLines faults told aside (StandForLanes cut) AreThese b (Ok n) c → Writes faults told aside c (end_line n) r e
        → PutsText faults told aside (StandForLanes cut) IsText a r e
    all_written a b c e n r w p v = record {
      puts = λ lanes text stand is.
          let m = made lanes text is in
          let lines = p.puts lanes m.0 stand m.1 in
          join a b e (at_line rev) (concat m.0 ++ end_line n) text tt r w (join b c e (concat m.0) (end_line n) (concat m.0 ++ end_line n) tt r lines.written v refl)
          (text_is cut rev rev_is lanes text m.0 stand m.2 ∙ ap (λ (k : ℕ). at_line rev ++ (concat m.0 ++ end_line k)) (sym lines.counted));
      kept = v.kept ∙ p.kept ∙ w.kept;
      cause = subst (λ (before : ℕ). HasCause before (faults e) r) (p.cause.fine ∙ w.cause.fine) v.cause;
    }

-- what a sink holds beside, under a buffer that was laid over it
abbrev under_of : List (Option (List ℕ)) → List (Option (List ℕ))
under_of [] = []
under_of (x ∷ xs) = xs

-- a text that went through a buffer
pub text_through : {O E : Type 0} (faults : O → ℕ) (told : O → Option (List ℕ)) (aside : O → Aside) (Of : E → Type 0) (IsText : E → List ℕ → Type 0) (old new : O) (r : Result (Unit {0}) Failed)
    → GoesThrough faults told aside (PutsBuffered faults told aside Of IsText) old r new → PutsText faults told aside Of IsText old r new
text_through faults told aside Of IsText old new r through = record {
  puts = λ es text of is. through.written text (through.left.puts es text of is);
  kept = through.kept ∙ ap (λ (c : Aside). record c { laid = under_of c.laid }) through.left.kept;
  cause = through.cause through.left.cause;
}
