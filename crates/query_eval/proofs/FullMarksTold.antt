-- The full marks that a lane's tables tell are its marks, each with the number of its rows.
use Rattle.std.proofs.Common.{◌≡◌, ◌↔◌, ℕ, Bool, List, [], ◌∷◌, length, map, Option, None, Some, refl, sym, ap, ◌∙◌, subst, append-nil}
use Rattle.std.specs.List.{Contains, filter}
use Rattle.std.specs.List.Sorted.{IsStrictlySortedBy}
use Rattle.std.specs.Map.{keys_of}
use Rattle.std.specs.Option.{option_map_or}
use Rattle.ask_specs.specs.FullMarks.{AreFullMarkLines, IsOfTable, IsRowCount, RowCountValue, full_mark_line}
use Rattle.ask_specs.specs.Traits.{no_traits}
use Rattle.ask_specs.proofs.FullMarkLaws.{counts_once}
use Rattle.bmp_specs.specs.declared.peers.View.{View}
use Rattle.bmp_specs.specs.declared.peers.View.TheVariants.{InPre, InPost, OutPre, OutPost, Loc}
use Rattle.bmp_specs.specs.declared.wire.Family.{Family}
use Rattle.bmp_specs.specs.Orders.{key_cmp, nlri_cmp}
use Rattle.bmp_specs.specs.QueryReply.{MarkValue, IsMark, mark_cmp}
use Rattle.bmp_specs.specs.Query.{table}
use Rattle.bmp_specs.specs.Reply.{told_count}
use Rattle.bmp_specs.specs.Rows.{RowValue}
use Rattle.bmp_specs.specs.Selection.{SelectValue, IsSelected}
use Rattle.bmp_specs.specs.Session.{session_effects}
use Rattle.bmp_specs.specs.TableRows.{AreRows}
use Rattle.bmp_specs.specs.Values.{KeyValue, EntryValue}
use Rattle.bmp_specs.proofs.ListedOne.{all_one}
use Rattle.bmp_specs.proofs.QueryReplies.{mark_total}
use Rattle.peer_book.specs.Peers.{Peers}
use Rattle.route_runs.specs.Nlri.{with_family}
use Rattle.route_runs.specs.Runs.{in_order}
use Rattle.router_tables.specs.Tables.{Tables, TablesValue, StandsFor, table_at}
use Rattle.router_tables.specs.Views.{Table}
use Rattle.query_eval.specs.declared.run.Part.TheVariants.{Whole}
use Rattle.query_eval.specs.Rows.{asked_of, asked_rows, asks_run, kept, part_rows}
use Rattle.query_eval.specs.RowTables.{PeerTableValue, peer_tables, view_table}
use Rattle.query_eval.specs.Told.{states_in, rows_at, mark_as, marks_in, keeps_mark, mark_lines, counted_mark}
use Rattle.query_eval.proofs.Keeping.{keeps_decides, from_filter, to_filter, from_map, to_map, sorted_kept}
use Rattle.query_eval.proofs.KeptPairs.{family_asked}
use Rattle.query_eval.proofs.MarksTold.{mark_told, marks_sorted, same_marks}
use Rattle.query_eval.proofs.RowAnswers.{are_table, rows_plain}

-- the keys of peers with their states are those of the peers
pub same_keys : (peers : Peers) → keys_of (states_in peers) ≡ keys_of peers
same_keys [] = refl
same_keys (e ∷ es) = ap (λ (l : List KeyValue). e.0 ∷ l) (same_keys es)

-- the selectors of one table
abbrev pub only : KeyValue → View → Family → SelectValue
only key view family = record { router = None; peer = Some key; view = Some view; family = Some family }

-- the one table of a peer and a view
one_view : (tables : Tables) (key : KeyValue) (view : View) → peer_tables tables (Some view) key ≡ view_table key view (table_at tables key view)
one_view tables key InPre = append-nil _
one_view tables key InPost = append-nil _
one_view tables key OutPre = append-nil _
one_view tables key OutPost = append-nil _
one_view tables key Loc = append-nil _

module _ (key : KeyValue) (view : View) (family : Family) where
  counted_rows : (found : Option Table)
      → option_map_or (λ (pairs : Table). told_count (length (with_family family (in_order nlri_cmp pairs)))) found 0
      ≡ told_count (length (asked_rows (kept no_traits (asks_run (record { family = Some family; part = Whole }))) (view_table key view found)))
  counted_rows None = refl
  counted_rows (Some pairs) =
      let t : PeerTableValue = record { key = key; view = view; pairs = in_order nlri_cmp pairs } in
      ap told_count (family_asked family (Some family) no_traits t refl refl ∙ ap length (sym (append-nil (asked_of (kept no_traits (asks_run (record { family = Some family; part = Whole }))) t))))

  -- the rows of one table are as many as are told
  pub rows_counted : (lane : ℕ) (value : TablesValue) → rows_at value.tables key view family ≡ told_count (length (part_rows Whole (only key view family) no_traits lane value))
  rows_counted lane value =
      counted_rows (table_at value.tables key view)
      ∙ ap (λ (ts : List PeerTableValue). told_count (length (asked_rows (kept no_traits (asks_run (record { family = Some family; part = Whole }))) ts))) (sym (append-nil (peer_tables value.tables (Some view) key) ∙ one_view value.tables key view))

  module _ (value : TablesValue) (entries : List EntryValue) (stands : StandsFor value entries) (ordered : IsStrictlySortedBy key_cmp (keys_of value.session.books.peers)) where
    -- they are those of the table
    pub only_rows : AreRows (λ row. IsSelected (only key view family) 0 row.row_key.key row.row_key.view row.row_key.nlri.prefix.address.family) (session_effects entries) (part_rows Whole (only key view family) no_traits 0 value)
    only_rows = rows_plain (table (only key view family)) 0 entries _ (are_table (only key view family) no_traits 0 value entries stands ordered)

    of_table : (complete : Bool) (row : RowValue) → IsSelected (only key view family) 0 row.row_key.key row.row_key.view row.row_key.nlri.prefix.address.family ↔ IsOfTable (mark_as key view family complete) row
    of_table complete row = (
      λ s. record { key_is = sym s.of_peer.peer_is; view_is = sym s.view_is; family_is = sym s.family_is },
      λ t. record { of_peer = record { router_is = tt; peer_is = sym t.key_is }; view_is = sym t.view_is; family_is = sym t.family_is },
    )

    pub table_rows : (complete : Bool) → AreRows (IsOfTable (mark_as key view family complete)) (session_effects entries) (part_rows Whole (only key view family) no_traits 0 value)
    table_rows complete = let a = only_rows in record {
      ordered = a.ordered;
      exact = λ row. (λ c. let h = (a.exact row).0 c in (h.0, (of_table complete row).0 h.1), λ h. (a.exact row).1 (h.0, (of_table complete row).1 h.1));
    }

marks_counted : (tables : Tables) (ms : List MarkValue) → map (λ (c : RowCountValue). c.mark) (map (counted_mark tables) ms) ≡ ms
marks_counted tables [] = refl
marks_counted tables (m ∷ ms) = ap (λ (l : List MarkValue). m ∷ l) (marks_counted tables ms)

both_maps : (tables : Tables) (lane : ℕ) (ms : List MarkValue) → map (λ (m : MarkValue). full_mark_line lane (counted_mark tables m)) ms ≡ map (full_mark_line lane) (map (counted_mark tables) ms)
both_maps tables lane [] = refl
both_maps tables lane (m ∷ ms) = ap (λ (l : List (List ℕ)). full_mark_line lane (counted_mark tables m) ∷ l) (both_maps tables lane ms)

-- the line of a mark with the number of its rows
abbrev pub counted_line : Tables → ℕ → MarkValue → List ℕ
counted_line tables lane m = full_mark_line lane (counted_mark tables m)

module _ (select : SelectValue) (lane : ℕ) (value : TablesValue) (entries : List EntryValue) (stands : StandsFor value entries) (ordered : IsStrictlySortedBy key_cmp (keys_of (states_in value.session.books.peers))) where
  abbrev peers : Peers
  peers = value.session.books.peers

  abbrev all : List MarkValue
  all = marks_in peers (states_in peers)

  abbrev asked : List MarkValue
  asked = filter (keeps_mark select lane) all

  in_keys : IsStrictlySortedBy key_cmp (keys_of peers)
  in_keys = subst (IsStrictlySortedBy key_cmp) (same_keys peers) ordered

  is_counted : (m : MarkValue) → IsMark entries m → IsRowCount entries (counted_mark value.tables m)
  is_counted m is = record {
    is_mark = is;
    rows = part_rows Whole (only m.key m.view m.family) no_traits 0 value;
    are_rows = table_rows m.key m.view m.family value entries stands in_keys m.complete;
    count_is = rows_counted m.key m.view m.family 0 value;
  }

  from_counted : (c : RowCountValue) → Contains (map (counted_mark value.tables) asked) c → IsRowCount entries c × IsSelected select lane c.mark.key c.mark.view c.mark.family
  from_counted c there =
      let h = from_map (counted_mark value.tables) asked c there in
      let k = from_filter (keeps_mark select lane) all h.0 h.1 in
      let is = is_counted h.0 ((mark_told peers ordered entries stands.session.books.peers h.0).0 k.0) in
      subst (λ (d : RowCountValue). IsRowCount entries d × IsSelected select lane d.mark.key d.mark.view d.mark.family) h.2 (is, (keeps_decides select lane h.0.key h.0.view h.0.family).0 k.1)

  to_counted : (c : RowCountValue) → IsRowCount entries c × IsSelected select lane c.mark.key c.mark.view c.mark.family → Contains (map (counted_mark value.tables) asked) c
  to_counted c h =
      let m = c.mark in
      let there = to_filter (keeps_mark select lane) all m ((mark_told peers ordered entries stands.session.books.peers m).1 h.0.is_mark) ((keeps_decides select lane m.key m.view m.family).1 h.1) in
      subst (Contains (map (counted_mark value.tables) asked)) (counts_once entries (counted_mark value.tables m) c (is_counted m h.0.is_mark) h.0 refl) (to_map (counted_mark value.tables) asked m there)

  pub are_full_mark_lines : AreFullMarkLines lane entries select (mark_lines (counted_line value.tables) select lane all)
  are_full_mark_lines = record {
    known = map (counted_mark value.tables) asked;
    are_known = record {
      ordered = subst (IsStrictlySortedBy mark_cmp) (sym (marks_counted value.tables asked))
          (subst (IsStrictlySortedBy mark_cmp) (same_marks asked) (sorted_kept (keeps_mark select lane) (λ (m : MarkValue). m) mark_cmp all (subst (IsStrictlySortedBy mark_cmp) (sym (same_marks all)) (marks_sorted peers (states_in peers) ordered))));
      exact = λ c. (from_counted c, to_counted c);
    };
    told = both_maps value.tables lane asked;
  }

-- two lists of full marks of the same entries are one
module _ (select : SelectValue) (lane : ℕ) (entries : List EntryValue) where
  abbrev Told : RowCountValue → Type 0
  Told c = IsRowCount entries c × IsSelected select lane c.mark.key c.mark.view c.mark.family

  pub full_mark_lines_one : (a b : List (List ℕ)) → AreFullMarkLines lane entries select a → AreFullMarkLines lane entries select b → a ≡ b
  full_mark_lines_one a b p q = p.told ∙ ap (map (full_mark_line lane)) (all_one (λ (c : RowCountValue). c.mark) mark_cmp mark_total Told p.known q.known p.are_known q.are_known) ∙ sym q.told
