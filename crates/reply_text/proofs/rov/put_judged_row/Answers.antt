use Rattle.std.proofs.Common.{◌≡◌, ◌++◌, ◌∙◌, [], ◌∷◌, List, ℕ, Option, ap}
use Rattle.bmp_specs.specs.Lines.{further}
use Rattle.bmp_specs.specs.PeerText.{key_text, view_text}
use Rattle.bmp_specs.specs.PrefixText.{prefix_text}
use Rattle.bmp_specs.specs.RouteLine.{id_fields}
use Rattle.bmp_specs.specs.Rows.{RowKeyValue}
use Rattle.reply_text.specs.Pieces.{spaced}
use Rattle.reply_text.specs.Rov.{origin_word, judged_fields}
use Rattle.reply_text.proofs.Joining.{join_three}
use Rattle.reply_text.proofs.Pieces.{further-append}
use Rattle.wire_io.proofs.Joins.{join_failed, more}
use Rattle.reply_text.proofs.rov.put_judged_row.Goals as goal

abbrev place : RowKeyValue → List (List ℕ)
place row = key_text row.key ∷ view_text row.view ∷ prefix_text row.nlri.prefix ∷ []

abbrev told : Option ℕ → List ℕ → List (List ℕ)
told origin judged = origin_word origin ∷ judged ∷ []

parts : (row : RowKeyValue) (origin : Option ℕ) (judged : List ℕ) → further (judged_fields row origin judged) ≡ spaced (place row) ++ (spaced (told origin judged) ++ further (id_fields row.nlri.id))
parts row origin judged = further-append (place row) (told origin judged ++ id_fields row.nlri.id) ∙ ap (λ (l : List ℕ). spaced (place row) ++ l) (further-append (told origin judged) (id_fields row.nlri.id))

pub returns-in_err-put_row_key : goal.returns-in_err-put_row_key
returns-in_err-put_row_key g c =
    let row = c.args.row.now in
    more _ _ _ (spaced (told c.args.origin c.args.judged.now) ++ further (id_fields row.nlri.id)) _ _ _ c.in_err-put_row_key.ensures c.from_residual.ensures.0 (parts row c.args.origin c.args.judged.now)

pub returns-in_err-put_judged : goal.returns-in_err-put_judged
returns-in_err-put_judged g c =
    let row = c.args.row.now in
    join_failed _ _ _ _ _ (further (id_fields row.nlri.id)) _ _ _ c.in_ok-put_row_key.ensures c.in_err-put_judged.ensures c.from_residual-in_err-put_judged.ensures.0 (parts row c.args.origin c.args.judged.now)

pub returns : goal.returns
returns g c =
    let is : c.row.inside.nlri ≡ c.args.row.now.nlri = ap (λ (p : RowKeyValue). p.nlri) c.row.view_is in
    join_three _ _ _ _ _ _ _ _ _ _ _ c.in_ok-put_row_key.ensures c.in_ok-put_judged.ensures (rw is at c.put_id.ensures) (parts c.args.row.now c.args.origin c.args.judged.now)
