use Rattle.std.proofs.Common.{◌≡◌, ◌++◌, ◌∙◌, [], ◌∷◌, ap, List, ℕ, Option, None, Some, option_map}
use Rattle.std.specs.Option.{option_map_or}
use Rattle.bmp_specs.specs.declared.registry.Shape.{Shape}
use Rattle.bmp_specs.specs.Lines.{further}
use Rattle.bmp_specs.specs.NumberText.{number_text}
use Rattle.bmp_specs.specs.PeerLines.{family_fields, name_or_other, stat_fields}
use Rattle.bmp_specs.specs.Registries.{CodeRowValue, first_row, statistics_types}
use Rattle.bmp_specs.specs.Values.{StatValue}
use Rattle.reply_text.specs.Pieces.{spaced}
use Rattle.reply_text.proofs.Joining.{writes_same}
use Rattle.reply_text.proofs.Pieces.{further-append}
use Rattle.reply_text.proofs.stat.put_value.Goals as goal

value_parts : (row : Option CodeRowValue) (stat : StatValue) → further (stat_fields row stat) ≡ 32 ∷ name_or_other row ++ (spaced (option_map_or (λ s. family_fields s stat) (option_map (λ (r : CodeRowValue). r.shape) row) []) ++ further (number_text stat.value ∷ []))
value_parts None stat = ap (λ (l : List ℕ). 32 ∷ name_or_other None ++ l) (further-append [] (number_text stat.value ∷ []))
value_parts (Some row) stat = ap (λ (l : List ℕ). 32 ∷ name_or_other (Some row) ++ l) (further-append (family_fields row.shape stat) (number_text stat.value ∷ []))

pub returns : goal.returns
returns g c =
    let stat = c.args.stat.now in
    let row = first_row stat.code statistics_types in
    let family : c.as_slice.result.now ≡ spaced (option_map_or (λ s. family_fields s stat) (option_map (λ (r : CodeRowValue). r.shape) row) []) =
    c.as_slice.ensures ∙ c.family_field-family.ensures ∙ ap (λ (shape : Option Shape). spaced (option_map_or (λ s. family_fields s stat) shape [])) c.statistic_shape.ensures in
    writes_same _ _ _ _ _ c.put_named_value.ensures (rw (c.statistic_name-name.ensures, family) (value_parts row stat))
