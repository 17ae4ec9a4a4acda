-- The lines of all lanes, lane after lane.
use Rattle.std.proofs.Common.{◌≡◌, inl, inr, ℕ, zero, suc, ◌+◌, ◌<◌, ◌≤◌, Bool, true, false, List, [], ◌∷◌, ◌++◌, length, drop, Option, Some, Result, Ok, Err, refl, sym, ap, ◌∙◌, subst, arith}
use mathlib.Core.Bool.{false≢true}
use Rattle.std.specs.Prelude.{MatchBool, flat_map, sum_by, slice_index_or, ◌==◌}
use Rattle.std.specs.Result.{is_err}
use Rattle.std.proofs.lemmas.Bool.{eq-eqb}
use Rattle.std.proofs.lemmas.Bool.Decides.{eqb_tells}
use Rattle.std.proofs.lemmas.List.Sums.{sum_by-cons}
use Rattle.std.proofs.lemmas.List.{at_drop_more, drop_all, length-append}
use Rattle.ask_specs.specs.Asking.{steps}
use Rattle.ask_specs.specs.AskReply.{AreAskedChangeLines, AreAskedLaneLines}
use Rattle.ask_specs.specs.Traits.{TraitsValue}
use Rattle.bmp_specs.specs.Listed.{AreParallel}
use Rattle.bmp_specs.specs.Query.{QueryValue, changes}
use Rattle.bmp_specs.specs.QueryReply.{AreChangeLines, AreLaneLines}
use Rattle.bmp_specs.specs.Reply.{told_count}
use Rattle.bmp_specs.specs.Rows.{RowValue}
use Rattle.bmp_specs.specs.Values.{EntryValue, PrefixValue}
use Rattle.router_tables.specs.Tables.{TablesValue, StandsFor}
use Rattle.wire_io.specs.declared.sink.Failed.{Failed}
use Rattle.wire_io.specs.Aside.{Aside}
use Rattle.wire_io.specs.Faults.{HasCause}
use Rattle.query_eval.specs.Puts.{WritesLines, PutsLines, AreKeptRows, CountsKeptRows}
use Rattle.query_eval.specs.Replies.{StandsForLane, StandForLanes, AreLanes, CountsAllRows}
use Rattle.query_eval.proofs.Leading.{LeadsTo, leads_begin, leads_on, leads_failed, leads_end, lines_as, puts_own, no_lines}

pub same_number : (m n : ℕ) → m ≡ n → (m == n) ≡ true
same_number m n same = eq-eqb m n same

pub other_number : (m n : ℕ) → (m ≡ n → ⊥) → (m == n) ≡ false
other_number m n other = elim (eqb_tells m n) [ inl same ↦ absurd (other same.1) | inr apart ↦ apart.0 ]

-- ---- one lane
abbrev no_line : List (List ℕ)
no_line = []

-- the same lines under other names
module _ {O E : Type 0} {faults : O → ℕ} {told : O → Option (List ℕ)} {aside : O → Aside} (Of Under : E → Type 0) (AreThese AreThose : E → List (List ℕ) → Type 0) where
  pub puts_as : (a b : O) (r : Result ℕ Failed) → ((e : E) → Under e → Of e) → ((e : E) (lines : List (List ℕ)) → AreThose e lines → AreThese e lines)
      → PutsLines faults told aside Of AreThese a r b → PutsLines faults told aside Under AreThose a r b
  puts_as a b r of back p = record { puts = λ e lines under those. p.puts e lines (of e under) (back e lines those); kept = p.kept; cause = p.cause }

module _ {O : Type 0} {faults : O → ℕ} {told : O → Option (List ℕ)} {aside : O → Aside} where
  -- the lines of a lane, by what its tables stand for, or by its count
  pub puts_of_tables : (lane : TablesValue × ℕ) (AreThese : List EntryValue → List (List ℕ) → Type 0) (a b : O) (r : Result ℕ Failed) → PutsLines faults told aside (StandsFor lane.0) AreThese a r b → PutsLines faults told aside (StandsForLane lane) AreThese a r b
  puts_of_tables lane AreThese a b r p = puts_as (StandsFor lane.0) (StandsForLane lane) AreThese AreThese a b r (λ e s. s.tables) (λ e l t. t) p

  pub puts_of_count : (lane : TablesValue × ℕ) (AreThese : List EntryValue → List (List ℕ) → Type 0) (a b : O) (r : Result ℕ Failed) → PutsLines faults told aside (λ es. lane.1 ≡ length es) AreThese a r b → PutsLines faults told aside (StandsForLane lane) AreThese a r b
  puts_of_count lane AreThese a b r p = puts_as (λ es. lane.1 ≡ length es) (StandsForLane lane) AreThese AreThese a b r (λ e s. s.count) (λ e l t. t) p

  -- steps are told of the lane of this number alone
  module _ (full : Bool) (number lane from : ℕ) (prefix : Option PrefixValue) (tables : TablesValue) where
    pub changes_elsewhere : (a : O) → (number == lane) ≡ false → PutsLines faults told aside (StandsFor tables) (AreAskedLaneLines (steps full number from prefix) lane) a (Ok 0) a
    changes_elsewhere a other =
        puts_own (StandsFor tables) (AreAskedLaneLines (steps full number from prefix) lane) [] a a (Ok 0)
        (λ entries stands. subst (λ (b : Bool). MatchBool b (AreAskedChangeLines full lane entries from prefix []) (no_line ≡ [])) (sym other) refl) (λ entries xs ys p q. none entries xs p ∙ sym (none entries ys q)) (no_lines a [] refl)
      where
        none : (entries : List EntryValue) (xs : List (List ℕ)) → AreAskedLaneLines (steps full number from prefix) lane entries xs → xs ≡ []
        none entries xs p = let q : MatchBool false (AreAskedChangeLines full lane entries from prefix xs) (xs ≡ []) = subst (λ (b : Bool). MatchBool b (AreAskedChangeLines full lane entries from prefix xs) (xs ≡ [])) other p in q

    pub changes_here : (a b : O) (r : Result ℕ Failed) → (number == lane) ≡ true → PutsLines faults told aside (StandsFor tables) (λ entries. AreAskedChangeLines full lane entries from prefix) a r b → PutsLines faults told aside (StandsFor tables) (AreAskedLaneLines (steps full number from prefix) lane) a r b
    changes_here a b r same p =
        puts_as (StandsFor tables) (StandsFor tables) (λ entries. AreAskedChangeLines full lane entries from prefix) (AreAskedLaneLines (steps full number from prefix) lane) a b r (λ e s. s)
        (λ e lines t. let q : MatchBool true (AreAskedChangeLines full lane e from prefix lines) (lines ≡ []) = subst (λ (b : Bool). MatchBool b (AreAskedChangeLines full lane e from prefix lines) (lines ≡ [])) same t in q) p

  -- the changes of a prefix are among them, in the words of a query
  pub plain_changes : (number lane from : ℕ) (prefix : PrefixValue) (tables : TablesValue) (a b : O) (r : Result ℕ Failed) → PutsLines faults told aside (StandsFor tables) (AreAskedLaneLines (steps false number from (Some prefix)) lane) a r b
      → PutsLines faults told aside (StandsFor tables) (AreLaneLines (changes number from prefix) lane) a r b
  plain_changes number lane from prefix tables a b r p =
      puts_as (StandsFor tables) (StandsFor tables) (AreAskedLaneLines (steps false number from (Some prefix)) lane) (AreLaneLines (changes number from prefix) lane) a b r (λ e s. s) (λ e lines t. go e lines (number == lane) t) p
    where
      go : (entries : List EntryValue) (lines : List (List ℕ)) (b : Bool) → MatchBool b (AreChangeLines lane entries from prefix lines) (lines ≡ []) → MatchBool b (AreAskedChangeLines false lane entries from (Some prefix) lines) (lines ≡ [])
      go entries lines true t = record { known = t.known; are_known = t.are_known; told = t.told }
      go entries lines false t = t

-- ---- all lanes
-- what each item has is a list of as many
pub gather : {A B : Type 0} (Fits : ℕ → A → B → Type 0) (items : List A) → ((k : ℕ) (d : A) → k < length items → (b : B) × Fits k (slice_index_or items k d) b) → (parts : List B) × AreParallel Fits items parts
gather Fits [] each = ([], record { count = refl; each = λ k a b small. absurd (omega arith) })
gather {A} {B} Fits (x ∷ items) each = joined (each 0 x (omega arith)) (gather (λ k. Fits (suc k)) items (λ k d small. each (suc k) d (omega arith)))
  where
    fits : (p : B) (ps : List B) → Fits 0 x p → AreParallel (λ k. Fits (suc k)) items ps → (k : ℕ) (a : A) (b : B) → k < length (x ∷ items) → Fits k (slice_index_or (x ∷ items) k a) (slice_index_or (p ∷ ps) k b)
    fits p ps first rest zero a b small = first
    fits p ps first rest (suc k) a b small = rest.each k a b (omega arith)

    joined : (first : (b : B) × Fits 0 x b) (rest : (parts : List B) × AreParallel (λ k. Fits (suc k)) items parts) → (parts : List B) × AreParallel Fits (x ∷ items) parts
    joined first rest = (first.0 ∷ rest.0, record { count = let n = rest.1.count in omega (arith, n); each = fits first.0 rest.0 first.1 rest.1 })

-- the parts of the first lanes, and those of the others
parts_first : {X : Type 0} (parts : List (List X)) (i : ℕ) (d : List X) → i < length parts → flat_map (λ (p : List X). p) (drop i parts) ≡ slice_index_or parts i d ++ flat_map (λ (p : List X). p) (drop (i + 1) parts)
parts_first parts i d small = at_drop_more (flat_map (λ p. p)) parts i d small

parts_over : {X : Type 0} (parts : List (List X)) (i : ℕ) → length parts ≤ i → flat_map (λ (p : List X). p) (drop i parts) ≡ []
parts_over parts i over = ap (flat_map (λ p. p)) (drop_all i parts over)

-- The lines of the first lanes were written and counted, whichever their entries are: to write those of the others is to
-- write all.
pub record LanesSoFar {O : Type 0} (faults : O → ℕ) (told : O → Option (List ℕ)) (aside : O → Aside) (cut : List (TablesValue × ℕ)) (Fit : ℕ → List EntryValue → List (List ℕ) → Type 0) (start now : O) (lane count : ℕ) : Type 0 where
  pub leads : (lanes : List (List EntryValue)) (parts : List (List (List ℕ))) → StandForLanes cut lanes → AreParallel Fit lanes parts
      → LeadsTo faults told aside start now count (flat_map (λ p. p) (drop lane parts)) (flat_map (λ p. p) parts)
  pub kept : aside now ≡ aside start
  pub calm : faults now ≡ faults start

module _ {O : Type 0} {faults : O → ℕ} {told : O → Option (List ℕ)} {aside : O → Aside} (cut : List (TablesValue × ℕ)) (Fit : ℕ → List EntryValue → List (List ℕ) → Type 0) where
  pub lanes_begin : (a : O) → LanesSoFar faults told aside cut Fit a a 0 0
  lanes_begin a = record {
    leads = λ lanes parts stand are. leads_begin a (flat_map (λ p. p) parts);
    kept = refl;
    calm = refl;
  }

  -- a lane's own lines, of a cut
  module _ (a b c : O) (lane n : ℕ) (tables : TablesValue) (entries : ℕ) (r : Result ℕ Failed) (small : lane < length cut) (tables_are : (d : TablesValue × ℕ) → tables ≡ (slice_index_or cut lane d).0) (entries_are : (d : TablesValue × ℕ) → entries ≡ (slice_index_or cut lane d).1) (so_far : LanesSoFar faults told aside cut Fit a b lane n)
      (puts : PutsLines faults told aside (StandsForLane (tables, entries)) (Fit lane) b r c) where
    stands_there : (lanes : List (List EntryValue)) (d : List EntryValue) → StandForLanes cut lanes → StandsForLane (tables, entries) (slice_index_or lanes lane d)
    stands_there lanes d stand =
        let x : TablesValue × ℕ = (tables, entries) in
        subst (λ (y : TablesValue × ℕ). StandsForLane y (slice_index_or lanes lane d)) (λ i. (sym (tables_are x) i, sym (entries_are x) i)) (stand.each lane x d small)

    lines_there : (lanes : List (List EntryValue)) (parts : List (List (List ℕ))) → StandForLanes cut lanes → AreParallel Fit lanes parts → WritesLines faults told aside b (slice_index_or parts lane []) r c
    lines_there lanes parts stand are =
        puts.puts (slice_index_or lanes lane []) (slice_index_or parts lane []) (stands_there lanes [] stand) (are.each lane [] [] (let m = stand.count in omega (arith, m, small)))

    split_there : (lanes : List (List EntryValue)) (parts : List (List (List ℕ))) → StandForLanes cut lanes → AreParallel Fit lanes parts
        → flat_map (λ p. p) (drop lane parts) ≡ slice_index_or parts lane [] ++ flat_map (λ p. p) (drop (lane + 1) parts)
    split_there lanes parts stand are = parts_first parts lane [] (let m = stand.count in let k = are.count in omega (arith, m, k, small))

  pub lanes_on : (a b c : O) (lane n k m : ℕ) (tables : TablesValue) (entries : ℕ) → lane < length cut → ((d : TablesValue × ℕ) → tables ≡ (slice_index_or cut lane d).0) → ((d : TablesValue × ℕ) → entries ≡ (slice_index_or cut lane d).1) → LanesSoFar faults told aside cut Fit a b lane n
      → PutsLines faults told aside (StandsForLane (tables, entries)) (Fit lane) b (Ok k) c → m ≡ told_count (n + k) → LanesSoFar faults told aside cut Fit a c (lane + 1) m
  lanes_on a b c lane n k m tables entries small tables_are entries_are so_far puts more_is = record {
    leads = λ lanes parts stand are.
        leads_on a b c n k m (slice_index_or parts lane []) (flat_map (λ p. p) (drop (lane + 1) parts)) (flat_map (λ p. p) (drop lane parts)) (flat_map (λ p. p) parts) (so_far.leads lanes parts stand are)
        (lines_there a b c lane n tables entries (Ok k) small tables_are entries_are so_far puts lanes parts stand are) (split_there a b c lane n tables entries (Ok k) small tables_are entries_are so_far puts lanes parts stand are) more_is;
    kept = puts.kept ∙ so_far.kept;
    calm = puts.cause.fine ∙ so_far.calm;
  }

  pub lanes_failed : (a b c : O) (lane n : ℕ) (tables : TablesValue) (entries : ℕ) (d : Failed) (r : Result ℕ Failed) → lane < length cut → ((x : TablesValue × ℕ) → tables ≡ (slice_index_or cut lane x).0) → ((x : TablesValue × ℕ) → entries ≡ (slice_index_or cut lane x).1) → LanesSoFar faults told aside cut Fit a b lane n
      → PutsLines faults told aside (StandsForLane (tables, entries)) (Fit lane) b (Err d) c → is_err r ≡ true → PutsLines faults told aside (StandForLanes cut) (AreLanes Fit) a r c
  lanes_failed a b c lane n tables entries d (Ok k) small tables_are entries_are so_far puts h = absurd (false≢true h)
  lanes_failed a b c lane n tables entries d (Err d') small tables_are entries_are so_far puts h = record {
    puts = λ lanes lines stand are.
        lines_as a c (flat_map (λ p. p) are.parts) lines (Err d') (sym are.all)
        (leads_failed a b c n (slice_index_or are.parts lane []) (flat_map (λ p. p) (drop (lane + 1) are.parts)) (flat_map (λ p. p) (drop lane are.parts)) (flat_map (λ p. p) are.parts) d (Err d') (so_far.leads lanes are.parts stand are.each)
        (lines_there a b c lane n tables entries (Err d) small tables_are entries_are so_far puts lanes are.parts stand are.each) refl (split_there a b c lane n tables entries (Err d) small tables_are entries_are so_far puts lanes are.parts stand are.each));
    kept = puts.kept ∙ so_far.kept;
    cause = subst (λ (before : ℕ). HasCause {T = ℕ} {E = Failed} before (faults c) (Err d')) so_far.calm (record { later = puts.cause.later; failed = puts.cause.failed; fine = tt });
  }

  pub lanes_end : (a b : O) (lane n : ℕ) → length cut ≤ lane → LanesSoFar faults told aside cut Fit a b lane n → PutsLines faults told aside (StandForLanes cut) (AreLanes Fit) a (Ok n) b
  lanes_end a b lane n over so_far = record {
    puts = λ lanes lines stand are.
        lines_as a b (flat_map (λ p. p) are.parts) lines (Ok n) (sym are.all)
        (leads_end a b n (flat_map (λ p. p) (drop lane are.parts)) (flat_map (λ p. p) are.parts) (so_far.leads lanes are.parts stand are.each) (parts_over are.parts lane (let m = stand.count in let k = are.each.count in omega (arith, m, k, over))));
    kept = so_far.kept;
    cause = record { later = let e = so_far.calm in omega (arith, e); failed = tt; fine = so_far.calm };
  }

-- parts have as many in all as they have together
pub length_of_parts : {X : Type 0} (parts : List (List X)) → length (flat_map (λ (p : List X). p) parts) ≡ sum_by length parts
length_of_parts [] = refl
length_of_parts (p ∷ parts) = length-append p (flat_map (λ q. q) parts) ∙ ap (λ (n : ℕ). length p + n) (length_of_parts parts) ∙ sym (sum_by-cons length p parts)

-- The rows of the first lanes were counted, whichever their entries are.
pub record CountsSoFar (cut : List (TablesValue × ℕ)) (query : QueryValue) (traits : TraitsValue) (lane count : ℕ) : Type 0 where
  pub counted : (lanes : List (List EntryValue)) (parts : List (List RowValue)) → StandForLanes cut lanes → AreParallel (AreKeptRows query traits) lanes parts
      → told_count (count + length (flat_map (λ p. p) (drop lane parts))) ≡ told_count (length (flat_map (λ p. p) parts))
  pub within : told_count count ≡ count

module _ (cut : List (TablesValue × ℕ)) (query : QueryValue) (traits : TraitsValue) where
  pub counts_begin : CountsSoFar cut query traits 0 0
  counts_begin = record {
    counted = λ lanes parts stand are. omega arith;
    within = omega arith;
  }

  pub counts_on : (lane n k m : ℕ) (tables : TablesValue) → lane < length cut → ((d : TablesValue × ℕ) → tables ≡ (slice_index_or cut lane d).0) → CountsSoFar cut query traits lane n → CountsKeptRows (StandsFor tables) query traits lane k → m ≡ told_count (n + k) → CountsSoFar cut query traits (lane + 1) m
  counts_on lane n k m tables small tables_are so_far rows more_is = record {
    counted = λ lanes parts stand are.
        let here = slice_index_or parts lane [] in
        let split : length (flat_map (λ p. p) (drop lane parts)) ≡ length here + length (flat_map (λ p. p) (drop (lane + 1) parts)) =
        ap length (parts_first parts lane [] (let c = stand.count in let e = are.count in omega (arith, c, e, small))) ∙ length-append here (flat_map (λ p. p) (drop (lane + 1) parts)) in
        let counted : k ≡ told_count (length here) = rows.counts (slice_index_or lanes lane []) here (stands_there lanes [] stand) (are.each lane [] [] (let c = stand.count in omega (arith, c, small))) in
        let before = so_far.counted lanes parts stand are in
        omega (arith, split, counted, before, more_is);
    within = omega (arith, more_is);
  }
    where
      stands_there : (lanes : List (List EntryValue)) (d : List EntryValue) → StandForLanes cut lanes → StandsFor tables (slice_index_or lanes lane d)
      stands_there lanes d stand =
          let x : TablesValue × ℕ = (tables, 0) in
          subst (λ (t : TablesValue). StandsFor t (slice_index_or lanes lane d)) (sym (tables_are x)) (stand.each lane x d small).tables

  pub counts_end : (lane n : ℕ) → length cut ≤ lane → CountsSoFar cut query traits lane n → CountsAllRows (StandForLanes cut) query traits n
  counts_end lane n over so_far = record {
    counts = λ lanes parts stand are.
        let before = so_far.counted lanes parts stand are in
        let none : length (flat_map (λ p. p) (drop lane parts)) ≡ 0 = ap length (parts_over parts lane (let m = stand.count in let k = are.count in omega (arith, m, k, over))) in
        let all : length (flat_map (λ (p : List RowValue). p) parts) ≡ sum_by length parts = length_of_parts parts in
        let within = so_far.within in
        omega (arith, before, none, all, within);
  }
