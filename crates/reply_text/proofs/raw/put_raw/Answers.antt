use Rattle.std.proofs.Common.{◌≡◌, ◌∙◌, false, List, ℕ, ◌++◌, codes, ap}
use Rattle.std.specs.Prelude.{filter_map}
use Rattle.bmp_specs.specs.RouteLine.{comma_list}
use Rattle.bmp_specs.specs.Values.{AttrsValue}
use Rattle.ask_specs.specs.FullLine.{raw_of, raw_path}
use Rattle.reply_text.specs.Pieces.{absent_word, goes_on, has_piece, more_texts}
use Rattle.reply_text.proofs.Joining.{join_three}
use Rattle.reply_text.proofs.Texts.{comma_list-append}
use Rattle.wire_io.proofs.Joins.{join_failed, more}
use Rattle.reply_text.proofs.raw.put_raw.Goals as goal

abbrev others_part : AttrsValue → List ℕ
others_part a = more_texts (has_piece (raw_path a.path)) (filter_map raw_of a.others) ++ absent_word (goes_on (has_piece (raw_path a.path)) (filter_map raw_of a.others))

raw_parts : (a : AttrsValue) → codes " raw=" ++ comma_list (raw_path a.path ++ filter_map raw_of a.others) ≡ codes " raw=" ++ (more_texts false (raw_path a.path) ++ others_part a)
raw_parts a = ap (λ (l : List ℕ). codes " raw=" ++ l) (comma_list-append (raw_path a.path) (filter_map raw_of a.others))

pub returns-in_err-write_all : goal.returns-in_err-write_all
returns-in_err-write_all g c = let a = c.args.attrs.now in more _ _ _ (more_texts false (raw_path a.path) ++ others_part a) _ _ _ c.in_err-write_all.ensures c.from_residual.ensures.0 (raw_parts a)

pub returns-in_err-put_raw_path : goal.returns-in_err-put_raw_path
returns-in_err-put_raw_path g c =
    let a = c.args.attrs.now in
    let path : c.attrs.inside.path ≡ a.path = ap (λ (v : AttrsValue). v.path) c.attrs.view_is in
    join_failed _ _ _ _ _ (others_part a) _ _ _ c.in_ok-write_all.ensures (rw path at c.in_err-put_raw_path.ensures) c.from_residual-in_err-put_raw_path.ensures.0 (raw_parts a)

pub returns : goal.returns
returns g c =
    let a = c.args.attrs.now in
    let path : c.attrs.inside.path ≡ a.path = ap (λ (v : AttrsValue). v.path) c.attrs.view_is in
    let begun : c.has_raw_path.result ≡ has_piece (raw_path a.path) = rw path at c.has_raw_path.ensures in
    let others : c.as_slice.result.now ≡ a.others = c.as_slice.ensures ∙ ap (λ (v : AttrsValue). v.others) c.attrs.view_is in
    join_three _ _ _ _ _ _ _ _ _ _ _ c.in_ok-write_all.ensures (rw path at c.in_ok-put_raw_path.ensures) (rw (begun, others) at c.put_raw_others.ensures) (raw_parts a)
