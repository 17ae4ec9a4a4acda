-- The rows that each query tells of a lane are those that it asks for, with what is asked of their routes.
use Rattle.std.proofs.Common.{◌≡◌, ◌≤◌, ◌&&◌, ℕ, List, Option, None, Some, length, map, refl, sym, ap, ◌∙◌, Result, Decides}
use Rattle.std.specs.List.{Contains}
use Rattle.std.specs.List.Sorted.{IsStrictlySortedBy}
use Rattle.std.specs.Map.{keys_of}
use Rattle.std.proofs.lemmas.Bool.Decides.{Decides-like, Decides-and, Decides-eqb}
use Rattle.ask_specs.specs.AskReply.{AsksTraitRow}
use Rattle.ask_specs.specs.Traits.{TraitsValue, HasTraits, no_traits}
use Rattle.bmp_specs.specs.Containment.{HoldsAddress, ContainsPrefix}
use Rattle.bmp_specs.specs.Orders.{family_cmp, key_cmp, prefix_cmp}
use Rattle.bmp_specs.specs.Query.{QueryValue, table, count, exact, longest, within, origin}
use Rattle.bmp_specs.specs.QueryReply.{AreLaneLines, AreRowLines}
use Rattle.bmp_specs.specs.QueryRows.{HasOrigin, IsLongestMatch}
use Rattle.bmp_specs.specs.Reply.{told_count}
use Rattle.bmp_specs.specs.RouteLine.{route_line}
use Rattle.bmp_specs.specs.Rows.{RowValue}
use Rattle.bmp_specs.specs.Selection.{SelectValue, IsAskedFor, IsRowSelected}
use Rattle.bmp_specs.specs.Session.{session_effects}
use Rattle.bmp_specs.specs.TableRows.{AreRows}
use Rattle.bmp_specs.specs.Values.{AddressValue, AttrsValue, EffectValue, EntryValue, NlriValue, PrefixValue}
use Rattle.bmp_specs.proofs.ListedOne.{rows_one}
use Rattle.bmp_specs.proofs.OrderLaws.{family_total, family_exact, prefix_total, prefix_exact}
use Rattle.route_runs.specs.Origins.{attrs_origin, is_number}
use Rattle.router_tables.specs.Tables.{TablesValue, StandsFor}
use Rattle.wire_io.specs.declared.sink.Failed.{Failed}
use Rattle.wire_io.specs.Aside.{Aside}
use Rattle.query_eval.specs.declared.run.Part.{Part}
use Rattle.query_eval.specs.declared.run.Part.TheVariants.{Whole, Exact, Within}
use Rattle.query_eval.specs.Puts.{WritesLines, PutsLines, AreAskedRows, AreKeptRows, AreKeptLines, CountsKeptRows}
use Rattle.query_eval.specs.Rows.{Asking, kept, row_of, lane_rows, asks_run, asks_origin, asks_longest, none_longer, part_query, part_rows}
use Rattle.query_eval.specs.RowRuns.{holds, in_part}
use Rattle.query_eval.specs.RowTables.{PeerTableValue}
use Rattle.query_eval.proofs.Keeping.{named_decides}
use Rattle.query_eval.proofs.Leading.{puts_own}
use Rattle.query_eval.proofs.RowDeciding.{same_decides, holds_decides, contains_decides}
use Rattle.query_eval.proofs.RowMembers.{IsAmong, are_asked_as, pair_stands, row_listed}
use Rattle.query_eval.proofs.RowTellings.{longer_from, longer_to}
use Rattle.query_eval.proofs.TraitLaws.{traits_decide}

-- ---- what the tests say
-- what is asked of a prefix
abbrev IsInPart : Part → PrefixValue → Type 0
IsInPart Whole q = Unit {0}
IsInPart (Exact p) q = q ≡ p
IsInPart (Within p) q = ContainsPrefix p q

part_decides : (part : Part) (q : PrefixValue) → Decides (in_part part q) (IsInPart part q)
part_decides Whole q = (λ _. tt, λ _. refl)
part_decides (Exact p) q = Decides-like (in_part (Exact p) q) (λ same. sym same) (λ same. sym same) (same_decides prefix_cmp prefix_total prefix_exact p q)
part_decides (Within p) q = contains_decides p q

number_decides : (asn : ℕ) (found : Option ℕ) → Decides (is_number asn found) (found ≡ Some asn)
number_decides asn None = (λ e. absurd cc, λ e. absurd cc)
number_decides asn (Some n) = Decides-like (is_number asn (Some n)) (λ same. ap Some same) (λ (same : Some n ≡ Some asn). let e : n ≡ asn = cc in e) (Decides-eqb n asn)

-- ---- the rows of a lane
module _ (select : SelectValue) (traits : TraitsValue) (lane : ℕ) (value : TablesValue) (entries : List EntryValue) (stands : StandsFor value entries) (ordered : IsStrictlySortedBy key_cmp (keys_of value.session.books.peers)) where
  abbrev effects : List EffectValue
  effects = session_effects entries

  -- rows of the family that is named, of which something more is asked
  module _ (asking : Asking) (IsSought : RowValue → Type 0)
      (decides : (t : PeerTableValue) → IsAmong select lane value entries stands ordered t → (e : NlriValue × AttrsValue) → Contains t.pairs e → Decides (asking t.pairs e) (IsAskedFor select.family e.0.prefix.address.family × IsSought (row_of t.key t.view e))) where
    are_sought : AreRows (λ row. (IsSought row × IsRowSelected select lane row) × HasTraits traits row.route) effects (lane_rows (kept traits asking) select lane value)
    are_sought = are_asked_as select lane value entries stands ordered (kept traits asking) (λ row. HasTraits traits row.route × (IsAskedFor select.family row.row_key.nlri.prefix.address.family × IsSought row))
        (λ t among e c. Decides-and _ _ (traits_decide traits e.1) (decides t among e c)) (λ row. (IsSought row × IsRowSelected select lane row) × HasTraits traits row.route)
        (λ row. (
          λ w. ((w.0.1.1, record { of_peer = w.1; view_is = w.2; family_is = w.0.1.0 }), w.0.0),
          λ h. ((h.1, (h.0.1.family_is, h.0.0)), h.0.1.of_peer, h.0.1.view_is),
        ))

  run_decides : (part : Part) (t : PeerTableValue) → IsAmong select lane value entries stands ordered t → (e : NlriValue × AttrsValue) → Contains t.pairs e
      → Decides (asks_run (record { family = select.family; part = part }) t.pairs e) (IsAskedFor select.family e.0.prefix.address.family × IsInPart part e.0.prefix)
  run_decides part t among e c = Decides-and _ _ (named_decides family_cmp family_total family_exact select.family e.0.prefix.address.family) (part_decides part e.0.prefix)

  are_run : (part : Part) → AreRows (λ row. (IsInPart part row.row_key.nlri.prefix × IsRowSelected select lane row) × HasTraits traits row.route) effects (part_rows part select traits lane value)
  are_run part = are_sought (asks_run (record { family = select.family; part = part })) (λ row. IsInPart part row.row_key.nlri.prefix) (run_decides part)

  pub are_table : AreKeptRows (table select) traits lane entries (part_rows Whole select traits lane value)
  are_table = let a = are_run Whole in record {
    ordered = a.ordered;
    exact = λ row. (λ c. let h = (a.exact row).0 c in (h.0, (h.1.0.1, h.1.1)), λ h. (a.exact row).1 (h.0, ((tt, h.1.0), h.1.1)));
  }

  pub are_counted : AreKeptRows (count select) traits lane entries (part_rows Whole select traits lane value)
  are_counted = are_table

  pub are_exact : (p : PrefixValue) → AreKeptRows (exact p select) traits lane entries (part_rows (Exact p) select traits lane value)
  are_exact p = are_run (Exact p)

  pub are_within : (p : PrefixValue) → AreKeptRows (within p select) traits lane entries (part_rows (Within p) select traits lane value)
  are_within p = are_run (Within p)

  pub are_origin : (asn : ℕ) → AreKeptRows (origin asn select) traits lane entries (lane_rows (kept traits (asks_origin asn select.family)) select lane value)
  are_origin asn = are_sought (asks_origin asn select.family) (λ row. HasOrigin row asn)
      (λ t among e c. Decides-and _ _ (named_decides family_cmp family_total family_exact select.family e.0.prefix.address.family) (number_decides asn (attrs_origin e.1)))

  longest_decides : (a : AddressValue) (t : PeerTableValue) → IsAmong select lane value entries stands ordered t → (e : NlriValue × AttrsValue) → Contains t.pairs e
      → Decides (holds e.0.prefix a && none_longer a e.0.prefix.bits t.pairs) (IsLongestMatch effects a (row_of t.key t.view e))
  longest_decides a t among e c =
      let longer : Decides (none_longer a e.0.prefix.bits t.pairs) ((f : NlriValue × AttrsValue) → Contains t.pairs f → HoldsAddress f.0.prefix a → f.0.prefix.bits ≤ e.0.prefix.bits) =
      (longer_from a e.0.prefix.bits t.pairs, longer_to a e.0.prefix.bits t.pairs) in
      Decides-like (holds e.0.prefix a && none_longer a e.0.prefix.bits t.pairs)
      (λ h. record {
        holds = h.0;
        longest_of = λ other has key view held. h.1 (other.row_key.nlri, other.route) (row_listed select lane value entries stands ordered t among.is other has key view) held;
      })
      (λ m. (m.holds, λ f d held. m.longest_of (row_of t.key t.view f) (pair_stands select lane value entries stands ordered t among.is f d) refl refl held))
      (Decides-and _ _ (holds_decides e.0.prefix a) longer)

  pub are_longest : (a : AddressValue) → AreKeptRows (longest a select) traits lane entries (lane_rows (kept traits (asks_longest a select.family)) select lane value)
  are_longest a = are_sought (asks_longest a select.family) (IsLongestMatch effects a)
      (λ t among e c. Decides-and _ _ (named_decides family_cmp family_total family_exact select.family e.0.prefix.address.family) (longest_decides a t among e c))

-- ---- what was written, and what was counted
module _ (query : QueryValue) (traits : TraitsValue) (lane : ℕ) (value : TablesValue) (rows : List RowValue) (are : (entries : List EntryValue) → StandsFor value entries → AreKeptRows query traits lane entries rows) where
  kept_one : (entries : List EntryValue) (xs ys : List RowValue) → AreKeptRows query traits lane entries xs → AreKeptRows query traits lane entries ys → xs ≡ ys
  kept_one entries xs ys p q = rows_one (AsksTraitRow query traits lane (session_effects entries)) (session_effects entries) xs ys p q

  lines_one : (line : ℕ → RowValue → List ℕ) (entries : List EntryValue) (xs ys : List (List ℕ)) → AreKeptLines line query traits lane entries xs → AreKeptLines line query traits lane entries ys → xs ≡ ys
  lines_one line entries xs ys p q = p.told ∙ ap (map (line lane)) (kept_one entries p.rows q.rows p.are_rows q.are_rows) ∙ sym q.told

  pub puts_rows : {O : Type 0} {faults : O → ℕ} {told : O → Option (List ℕ)} {aside : O → Aside} (line : ℕ → RowValue → List ℕ) (a b : O) (r : Result ℕ Failed) → WritesLines faults told aside a (map (line lane) rows) r b → PutsLines faults told aside (StandsFor value) (AreKeptLines line query traits lane) a r b
  puts_rows line a b r w = puts_own (StandsFor value) (AreKeptLines line query traits lane) (map (line lane) rows) a b r (λ entries stands. record { rows = rows; are_rows = are entries stands; told = refl }) (lines_one line) w

  pub counts_rows : (n : ℕ) → n ≡ told_count (length rows) → CountsKeptRows (StandsFor value) query traits lane n
  counts_rows n is = record {
    counts = λ entries others stands of. is ∙ ap (λ (l : List RowValue). told_count (length l)) (kept_one entries rows others (are entries stands) of);
  }

-- the lines of a part that were written are those that its query asks for
pub puts_part : {O : Type 0} {faults : O → ℕ} {told : O → Option (List ℕ)} {aside : O → Aside} (line : ℕ → RowValue → List ℕ) (part : Part) (select : SelectValue) (traits : TraitsValue) (lane : ℕ) (value : TablesValue) → IsStrictlySortedBy key_cmp (keys_of value.session.books.peers)
    → (a b : O) (r : Result ℕ Failed) → WritesLines faults told aside a (map (line lane) (part_rows part select traits lane value)) r b → PutsLines faults told aside (StandsFor value) (AreKeptLines line (part_query part select) traits lane) a r b
puts_part line Whole select traits lane value ordered a b r w = puts_rows (table select) traits lane value (part_rows Whole select traits lane value) (λ entries stands. are_table select traits lane value entries stands ordered) line a b r w
puts_part line (Exact p) select traits lane value ordered a b r w = puts_rows (exact p select) traits lane value (part_rows (Exact p) select traits lane value) (λ entries stands. are_exact select traits lane value entries stands ordered p) line a b r w
puts_part line (Within p) select traits lane value ordered a b r w = puts_rows (within p select) traits lane value (part_rows (Within p) select traits lane value) (λ entries stands. are_within select traits lane value entries stands ordered p) line a b r w

-- ---- where nothing is asked of a route
has_nothing : (route : AttrsValue) → HasTraits no_traits route
has_nothing route = record { through_is = tt; community_is = tt; other_is = tt }

pub rows_plain : (query : QueryValue) (lane : ℕ) (entries : List EntryValue) (rows : List RowValue) → AreKeptRows query no_traits lane entries rows → AreAskedRows query lane entries rows
rows_plain query lane entries rows a = record { ordered = a.ordered; exact = λ row. (λ c. let h = (a.exact row).0 c in (h.0, h.1.0), λ h. (a.exact row).1 (h.0, (h.1, has_nothing row.route))) }

pub rows_kept : (query : QueryValue) (lane : ℕ) (entries : List EntryValue) (rows : List RowValue) → AreAskedRows query lane entries rows → AreKeptRows query no_traits lane entries rows
rows_kept query lane entries rows a = record { ordered = a.ordered; exact = λ row. (λ c. let h = (a.exact row).0 c in (h.0, (h.1, has_nothing row.route)), λ h. (a.exact row).1 (h.0, h.1.0)) }

module _ {O : Type 0} {faults : O → ℕ} {told : O → Option (List ℕ)} {aside : O → Aside} (value : TablesValue) where
  pub lines_plain : (query : QueryValue) (lane : ℕ) (a b : O) (r : Result ℕ Failed) → PutsLines faults told aside (StandsFor value) (AreKeptLines route_line query no_traits lane) a r b → PutsLines faults told aside (StandsFor value) (AreRowLines query lane) a r b
  lines_plain query lane a b r p = record {
    puts = λ entries lines of are. p.puts entries lines of (record { rows = are.rows; are_rows = rows_kept query lane entries are.rows are.are_rows; told = are.told });
    kept = p.kept;
    cause = p.cause;
  }

  pub part_plain : (part : Part) (select : SelectValue) (lane : ℕ) (a b : O) (r : Result ℕ Failed) → PutsLines faults told aside (StandsFor value) (AreKeptLines route_line (part_query part select) no_traits lane) a r b → PutsLines faults told aside (StandsFor value) (AreLaneLines (part_query part select) lane) a r b
  part_plain Whole select lane a b r p = lines_plain (table select) lane a b r p
  part_plain (Exact q) select lane a b r p = lines_plain (exact q select) lane a b r p
  part_plain (Within q) select lane a b r p = lines_plain (within q select) lane a b r p
