-- The lines of a query with further words: how many steps a lane made, and its rows.
use Rattle.std.proofs.Common.{◌≡◌, inl, inr, ℕ, ◌+◌, Bool, true, false, List, [], ◌∷◌, ◌++◌, length, map, Option, Result, Ok, Err, refl, sym, ap, ◌∙◌, subst}
use Rattle.std.specs.Ordering.{nat_cmp}
use Rattle.std.specs.Result.{is_err}
use Rattle.std.proofs.lemmas.Bool.{cond_both, false≢true}
use Rattle.std.proofs.lemmas.Cmp.{nat_cmp_total}
use Rattle.std.proofs.lemmas.Map.Lookups.{exact_unsigned}
use Rattle.ask_specs.specs.AskReply.{AreAskedRowLines, AreStepsLines, row_line, selection}
use Rattle.ask_specs.specs.Traits.{TraitsValue}
use Rattle.bmp_specs.specs.ChangeLines.{steps_line}
use Rattle.bmp_specs.specs.Query.{QueryValue}
use Rattle.bmp_specs.specs.Reply.{told_count}
use Rattle.bmp_specs.specs.Rows.{RowValue}
use Rattle.bmp_specs.specs.Steps.{steps_of}
use Rattle.bmp_specs.specs.Values.{EntryValue, StepValue}
use Rattle.recent_ring.specs.Recent.{RecentValue}
use Rattle.router_tables.specs.Tables.{TablesValue, StandsFor}
use Rattle.wire_io.specs.declared.sink.Failed.{Failed}
use Rattle.wire_io.specs.Aside.{Aside}
use Rattle.wire_io.specs.Faults.{HasCause}
use Rattle.query_eval.specs.Puts.{AreKeptRows, AreKeptLines, PutsLines, WritesLines}
use Rattle.query_eval.specs.RowSteps.{total_lines}
use Rattle.query_eval.specs.Selecting.{is_named}
use Rattle.query_eval.proofs.Keeping.{named_decides}
use Rattle.query_eval.proofs.Leading.{leads_failed, leads_first, leads_last, leads_last_failed, leads_begin}

-- ---- the number of steps
-- its line is what the definition tells
are_total : (with_steps : Bool) (query : QueryValue) (lane total : ℕ) (entries : List EntryValue) → total ≡ told_count (length (steps_of entries))
    → AreStepsLines with_steps query lane entries (total_lines with_steps (selection query).router lane total)
are_total false query lane total entries is = refl
are_total true query lane total entries is =
    let named = named_decides nat_cmp nat_cmp_total exact_unsigned (selection query).router lane in
    cond_both (is_named nat_cmp (selection query).router lane) (steps_line lane total ∷ []) [] (AreStepsLines true query lane entries)
    (λ t. inl (named.0 t, ap (λ (n : ℕ). steps_line lane n ∷ []) is)) (λ f. inr (λ asked. false≢true (sym f ∙ named.1 asked), refl))

steps_lines_one : (with_steps : Bool) (query : QueryValue) (lane : ℕ) (entries : List EntryValue) (xs ys : List (List ℕ)) → AreStepsLines with_steps query lane entries xs → AreStepsLines with_steps query lane entries ys → xs ≡ ys
steps_lines_one false query lane entries xs ys p q = p ∙ sym q
steps_lines_one true query lane entries xs ys (inl a) (inl b) = a.1 ∙ sym b.1
steps_lines_one true query lane entries xs ys (inl a) (inr b) = absurd (b.0 a.0)
steps_lines_one true query lane entries xs ys (inr a) (inl b) = absurd (a.0 b.0)
steps_lines_one true query lane entries xs ys (inr a) (inr b) = a.1 ∙ sym b.1

-- the total that the tables of a lane have
total_of : (value : TablesValue) (entries : List EntryValue) → StandsFor value entries → value.steps.total ≡ told_count (length (steps_of entries))
total_of value entries stands = ap (λ (r : RecentValue StepValue). r.total) stands.steps

-- there are such lines of a lane
pub asked_there : (with_steps full : Bool) (query : QueryValue) (traits : TraitsValue) (lane : ℕ) (value : TablesValue) (entries : List EntryValue) → StandsFor value entries → (rows : List RowValue) → AreKeptRows query traits lane entries rows
    → (lines : List (List ℕ)) × AreAskedRowLines with_steps full query traits lane entries lines
asked_there with_steps full query traits lane value entries stands rows are =
    let total = total_lines with_steps (selection query).router lane value.steps.total in (
      total ++ map (row_line full lane) rows,
      record {
        steps_lines = total;
        known = rows;
        are_steps = are_total with_steps query lane value.steps.total entries (total_of value entries stands);
        are_rows = are;
        told = refl;
      },
    )

-- ---- both are written
module _ (with_steps full : Bool) (query : QueryValue) (traits : TraitsValue) (lane : ℕ) (value : TablesValue) where
  abbrev first : List (List ℕ)
  first = total_lines with_steps (selection query).router lane value.steps.total

  -- the lines of the rows, behind those of the steps
  behind : (entries : List EntryValue) (lines : List (List ℕ)) → StandsFor value entries → AreAskedRowLines with_steps full query traits lane entries lines → (rest : List (List ℕ)) × AreKeptLines (row_line full) query traits lane entries rest × (lines ≡ first ++ rest)
  behind entries lines stands a = (
    map (row_line full lane) a.known,
    record { rows = a.known; are_rows = a.are_rows; told = refl },
    a.told ∙ ap (λ (l : List (List ℕ)). l ++ map (row_line full lane) a.known)
        (steps_lines_one with_steps query lane entries a.steps_lines first a.are_steps (are_total with_steps query lane value.steps.total entries (total_of value entries stands))),
  )

module _ {O : Type 0} {faults : O → ℕ} {told : O → Option (List ℕ)} {aside : O → Aside} (with_steps full : Bool) (query : QueryValue) (traits : TraitsValue) (lane : ℕ) (value : TablesValue) where
  pub both_written : (a b c : O) (n k m : ℕ) → WritesLines faults told aside a (first with_steps full query traits lane value) (Ok n) b → PutsLines faults told aside (StandsFor value) (AreKeptLines (row_line full) query traits lane) b (Ok k) c → m ≡ told_count (n + k)
      → PutsLines faults told aside (StandsFor value) (AreAskedRowLines with_steps full query traits lane) a (Ok m) c
  both_written a b c n k m w p more_is = record {
    puts = λ entries lines stands are.
        let s = behind with_steps full query traits lane value entries lines stands are in
        leads_last a b c n k m s.0 lines (leads_first a b n (first with_steps full query traits lane value) s.0 lines w s.2) (p.puts entries s.0 stands s.1) more_is;
    kept = p.kept ∙ w.written.kept;
    cause = subst (λ (before : ℕ). HasCause {T = ℕ} {E = Failed} before (faults c) (Ok m)) w.written.cause.fine (record { later = p.cause.later; failed = tt; fine = p.cause.fine });
  }

  pub total_failed : (a b : O) (d : Failed) (r : Result ℕ Failed) → WritesLines faults told aside a (first with_steps full query traits lane value) (Err d) b → is_err r ≡ true → PutsLines faults told aside (StandsFor value) (AreAskedRowLines with_steps full query traits lane) a r b
  total_failed a b d (Ok k) w h = absurd (false≢true h)
  total_failed a b d (Err d') w h = record {
    puts = λ entries lines stands are.
        let s = behind with_steps full query traits lane value entries lines stands are in
        leads_failed a a b 0 (first with_steps full query traits lane value) s.0 lines lines d (Err d') (leads_begin a lines) w refl s.2;
    kept = w.written.kept;
    cause = record { later = w.written.cause.later; failed = w.written.cause.failed; fine = tt };
  }

  pub rows_failed : (a b c : O) (n : ℕ) (d : Failed) (r : Result ℕ Failed) → WritesLines faults told aside a (first with_steps full query traits lane value) (Ok n) b → PutsLines faults told aside (StandsFor value) (AreKeptLines (row_line full) query traits lane) b (Err d) c → is_err r ≡ true
      → PutsLines faults told aside (StandsFor value) (AreAskedRowLines with_steps full query traits lane) a r c
  rows_failed a b c n d (Ok k) w p h = absurd (false≢true h)
  rows_failed a b c n d (Err d') w p h = record {
    puts = λ entries lines stands are.
        let s = behind with_steps full query traits lane value entries lines stands are in
        leads_last_failed a b c n s.0 lines d (Err d') (leads_first a b n (first with_steps full query traits lane value) s.0 lines w s.2) (p.puts entries s.0 stands s.1) refl;
    kept = p.kept ∙ w.written.kept;
    cause = subst (λ (before : ℕ). HasCause {T = ℕ} {E = Failed} before (faults c) (Err d')) w.written.cause.fine (record { later = p.cause.later; failed = p.cause.failed; fine = tt });
  }
