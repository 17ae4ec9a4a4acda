-- What a wrong reply would tell, and that it isn't what the contract asks for.
use Rattle.std.proofs.Common.{◌≡◌, ℕ, List, [], ◌∷◌, Option, Some, None, unwrap_or, get_or, refl, ap, ◌∙◌, codes}
use Rattle.std.specs.Fmt.{digits}
use Rattle.std.proofs.lemmas.Bool.{eqb-false}
use Rattle.bmp_specs.specs.declared.peers.View.TheVariants.{InPre}
use Rattle.bmp_specs.specs.declared.wire.Family.TheVariants.{V4}
use Rattle.bmp_specs.specs.AddressText.{dotted}
use Rattle.bmp_specs.specs.PeerText.{distinguisher_text, hex_text}
use Rattle.bmp_specs.specs.Prefix.{padded, prefix_of}
use Rattle.bmp_specs.specs.Rows.{RowValue}
use Rattle.bmp_specs.specs.TreatAsWithdraw.{no_attributes}
use Rattle.bmp_specs.specs.Values.{KeyValue, PeerInfoValue, up}
use Rattle.bmp_specs.proofs.RowLaws.{up_one}
use Rattle.reply_text.specs.Rov.{rov_line}
use Rattle.rov_table.specs.Origins.{route_origin}
use Rattle.rov_reply.specs.RovLines.{IsRovLine, verdict_text}

-- the peer of this type and distinguisher at 10.0.0.1
abbrev peer : ℕ → ℕ → KeyValue
peer kind distinguisher = record { kind = kind; distinguisher = distinguisher; address = record { family = V4; octets = padded (10 ∷ 0 ∷ 0 ∷ 1 ∷ []) } }

-- a row of its own, of a route without a path
abbrev row : RowValue
row = record { row_key = record { key = peer 1 7; view = InPre; nlri = record { prefix = prefix_of V4 8 (10 ∷ []); id = None } }; route = no_attributes }

-- Of two peers at one address the second has AS 2: who goes by the Global Instance Peer tells its AS, 1.
a_row_is_judged_by_its_own_peer : (global own : PeerInfoValue) → unwrap_or own.sent.four own.sent.my_as ≡ 2 → IsRovLine [] 0 (up (peer 0 0) global ∷ up (peer 1 7) own ∷ []) row (rov_line 0 row.row_key (Some 1) (codes "not-found")) → ⊥
unfolding digits dotted distinguisher_text hex_text
a_row_is_judged_by_its_own_peer global own as_2 is =
    let same : is.info ≡ own = up_one (up (peer 0 0) global ∷ up (peer 1 7) own ∷ []) (peer 1 7) is.info own is.up (record { before = up (peer 0 0) global ∷ []; after = []; split = refl; last = tt }) in
    let origin : route_origin no_attributes is.info ≡ Some 2 = ap (λ (i : PeerInfoValue). route_origin no_attributes i) same ∙ ap (λ (n : ℕ). Some n) as_2 in
    let text : rov_line 0 row.row_key (Some 1) (codes "not-found") ≡ rov_line 0 row.row_key (Some 2) (verdict_text is.verdict) = is.told ∙ ap (λ (o : Option ℕ). rov_line 0 row.row_key o (verdict_text is.verdict)) origin in
    eqb-false 49 50 refl (ap (λ (l : List ℕ). get_or l 56 0) text)
