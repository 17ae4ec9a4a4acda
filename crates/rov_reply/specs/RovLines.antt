-- The reply of `rov`: for each row within a prefix the origin of its route and the verdict on it (RFC 6811, section 2).
use Rattle.std.specs.Prelude.{◌≡◌, ℕ, List, length, Option, Result, codes}
use Rattle.std.specs.List.{AllZip}
use Rattle.std.specs.Option.{option_and_then}
use Rattle.bmp_specs.specs.PeerUp.{IsUpWith}
use Rattle.bmp_specs.specs.Query.{within}
use Rattle.bmp_specs.specs.Reply.{reply}
use Rattle.bmp_specs.specs.Rows.{RowValue}
use Rattle.bmp_specs.specs.Selection.{select_all}
use Rattle.bmp_specs.specs.Session.{session_effects}
use Rattle.bmp_specs.specs.Values.{AttrsValue, EffectValue, EntryValue, PeerInfoValue, PrefixValue}
use Rattle.peer_book.specs.Peers.{Peers, info_at}
use Rattle.query_eval.specs.Puts.{AreAskedRows, WritesLines}
use Rattle.reply_text.specs.Rov.{rov_line}
use Rattle.rov_table.specs.declared.vrp.Vrp.{Vrp}
use Rattle.rov_table.specs.declared.vrp.Verdict.{Verdict}
use Rattle.rov_table.specs.declared.vrp.Verdict.TheVariants.{Valid, Invalid, NotFound}
use Rattle.rov_table.specs.Origins.{route_origin}
use Rattle.rov_table.specs.Verdicts.{IsVerdict, verdict_of}
use Rattle.wire_io.specs.declared.sink.Failed.{Failed}
use Rattle.wire_io.specs.Aside.{Aside}

-- the word of a verdict
abbrev pub verdict_text : Verdict → List ℕ
verdict_text Valid = codes "valid"
verdict_text Invalid = codes "invalid"
verdict_text NotFound = codes "not-found"

-- the line of a row: its peer is up with some info, by which its route has an origin, and this is the verdict on it
pub record IsRovLine (vrps : List Vrp) (lane : ℕ) (effects : List EffectValue) (row : RowValue) (text : List ℕ) : Type 0 where
  pub info : PeerInfoValue
  pub up : IsUpWith effects row.row_key.key info
  pub verdict : Verdict
  pub is_verdict : IsVerdict vrps row.row_key.nlri.prefix (route_origin row.route info) verdict
  pub told : text ≡ rov_line lane row.row_key (route_origin row.route info) (verdict_text verdict)

-- the lines of the rows that `within P` asks for, by peer, view, prefix and path identifier
pub record AreRovLines (vrps : List Vrp) (prefix : PrefixValue) (lane : ℕ) (entries : List EntryValue) (lines : List (List ℕ)) : Type 0 where
  pub rows : List RowValue
  pub are_rows : AreAskedRows (within prefix select_all) lane entries rows
  pub each : AllZip (IsRovLine vrps lane (session_effects entries)) rows lines

-- for whichever of these lists of entries, these lines of them were written, or a front of them where a write failed
abbrev pub PutsRovLines : {O : Type 0} → (O → ℕ) → (O → Option (List ℕ)) → (O → Aside) → (List EntryValue → Type 0) → List Vrp → PrefixValue → ℕ → O → Result ℕ Failed → O → Type 0
PutsRovLines faults told aside Of vrps prefix lane old result new = (entries : List EntryValue) → Of entries → (lines : List (List ℕ)) × AreRovLines vrps prefix lane entries lines × WritesLines faults told aside old lines result new

-- the reply of `rov` on the one lane with these entries
pub record IsRovReply (vrps : List Vrp) (prefix : PrefixValue) (entries : List EntryValue) (text : List ℕ) : Type 0 where
  pub lines : List (List ℕ)
  pub are_lines : AreRovLines vrps prefix 0 entries lines
  pub told : text ≡ reply (length entries) lines

-- ---- the same by the peers of a session
-- the origin of a route, by what its peer told, where the peer is up
abbrev pub info_origin : Option PeerInfoValue → AttrsValue → Option ℕ
info_origin info route = option_and_then (route_origin route) info

abbrev pub line_by_info : List Vrp → Option PeerInfoValue → ℕ → RowValue → List ℕ
line_by_info vrps info lane row = rov_line lane row.row_key (info_origin info row.route) (verdict_text (verdict_of vrps row.row_key.nlri.prefix (info_origin info row.route)))

abbrev pub line_by_peers : List Vrp → Peers → ℕ → RowValue → List ℕ
line_by_peers vrps peers lane row = line_by_info vrps (info_at peers row.row_key.key) lane row
