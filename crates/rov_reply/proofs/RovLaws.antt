-- The lines by the peers of a table are those by the effects that it stands for.
use Rattle.std.proofs.Common.{◌≡◌, ℕ, List, [], ◌∷◌, ◌++◌, length, Option, None, Some, map, refl, sym, ap}
use Rattle.std.specs.List.{AllZip, Contains, concat}
use Rattle.std.specs.Option.{option_and_then, option_map}
use Rattle.bmp_specs.specs.PeerUp.{up_state}
use Rattle.bmp_specs.specs.Query.{within}
use Rattle.bmp_specs.specs.Lines.{at_line, end_line}
use Rattle.bmp_specs.specs.Reply.{told_count}
use Rattle.bmp_specs.specs.Rows.{RowValue, HasRow}
use Rattle.bmp_specs.specs.Session.{session_effects}
use Rattle.bmp_specs.specs.Values.{EffectValue, EntryValue, PeerInfoValue, PrefixValue}
use Rattle.bmp_specs.specs.Selection.{select_all}
use Rattle.bmp_specs.proofs.ListedOne.{contains_first, contains_later}
use Rattle.bmp_specs.proofs.RowLaws.{up_by_row}
use Rattle.peer_book.specs.Peers.{Peers, PeerValue, up_peer, down_peer, state_of, info_of, info_at, peer_at}
use Rattle.peer_book.specs.Standing.{StandsForPeers}
use Rattle.query_eval.specs.Puts.{AreAskedRows}
use Rattle.query_eval.proofs.LinesThere.{lines_there}
use Rattle.router_tables.specs.Tables.{TablesValue, StandsFor}
use Rattle.reply_text.specs.Rov.{rov_line}
use Rattle.rov_table.specs.declared.vrp.Vrp.{Vrp}
use Rattle.rov_table.specs.Origins.{route_origin}
use Rattle.rov_table.specs.Verdicts.{verdict_of}
use Rattle.rov_table.proofs.VerdictLaws.{verdict_found}
use Rattle.rov_reply.specs.RovLines.{verdict_text, IsRovLine, AreRovLines, info_origin, line_by_peers}

told_info : (p : Option PeerValue) (info : PeerInfoValue) → option_map state_of p ≡ Some (up_state info) → option_and_then info_of p ≡ Some info
told_info None info e = cc
told_info (Some (up_peer i marks)) info e = let same : i ≡ info = cc in ap Some same
told_info (Some (down_peer d)) info e = cc

-- the line of a row that stands
line_is : (vrps : List Vrp) (peers : Peers) (lane : ℕ) (effects : List EffectValue) → StandsForPeers peers effects → (row : RowValue) → HasRow effects row → IsRovLine vrps lane effects row (line_by_peers vrps peers lane row)
line_is vrps peers lane effects stands row has =
    let (info, up) = up_by_row effects row has in
    let there : info_at peers row.row_key.key ≡ Some info = told_info (peer_at peers row.row_key.key) info ((stands.up row.row_key.key info).1 up) in
    let origin : info_origin (info_at peers row.row_key.key) row.route ≡ route_origin row.route info = ap (option_and_then (route_origin row.route)) there in
    record {
      info = info;
      up = up;
      verdict = verdict_of vrps row.row_key.nlri.prefix (route_origin row.route info);
      is_verdict = verdict_found vrps row.row_key.nlri.prefix (route_origin row.route info);
      told = ap (λ (o : Option ℕ). rov_line lane row.row_key o (verdict_text (verdict_of vrps row.row_key.nlri.prefix o))) origin;
    }

zip_map : {A B : Type 0} (R : A → B → Type 0) (f : A → B) (xs : List A) → ((x : A) → Contains xs x → R x (f x)) → AllZip R xs (map f xs)
zip_map R f [] each = tt
zip_map R f (x ∷ xs) each = (each x (contains_first x xs), zip_map R f xs (λ y has. each y (contains_later x xs y has)))

pub lines_are : (vrps : List Vrp) (peers : Peers) (lane : ℕ) (prefix : PrefixValue) (entries : List EntryValue) → StandsForPeers peers (session_effects entries) → (rows : List RowValue) → AreAskedRows (within prefix select_all) lane entries rows
    → AreRovLines vrps prefix lane entries (map (line_by_peers vrps peers lane) rows)
lines_are vrps peers lane prefix entries stands rows are = record {
  rows = rows;
  are_rows = are;
  each = zip_map (IsRovLine vrps lane (session_effects entries)) (line_by_peers vrps peers lane) rows (λ row has. line_is vrps peers lane (session_effects entries) stands row ((are.exact row).0 has).0);
}

-- there are lines for all entries that tables stand for
pub lines_known : (vrps : List Vrp) (lane : ℕ) (prefix : PrefixValue) (tables : TablesValue) (entries : List EntryValue) → StandsFor tables entries → (lines : List (List ℕ)) × AreRovLines vrps prefix lane entries lines
lines_known vrps lane prefix tables entries stands =
    let (lines, are) = lines_there (within prefix select_all) tt lane (tables, length entries) entries (record { tables = stands; count = refl }) in
    (_, lines_are vrps tables.session.books.peers lane prefix entries stands.session.books.peers are.rows are.are_rows)

-- the text of a reply
pub reply_text : (revision : ℕ) (entries : List EntryValue) (lines : List (List ℕ)) → revision ≡ length entries → at_line (length entries) ++ (concat lines ++ end_line (told_count (length lines))) ≡ at_line revision ++ (concat lines ++ end_line (told_count (length lines)))
reply_text revision entries lines e = ap (λ (n : ℕ). at_line n ++ (concat lines ++ end_line (told_count (length lines)))) (sym e)
