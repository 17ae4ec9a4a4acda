use Rattle.std.proofs.Common.{◌≡◌, ◌≤◌, ◌∙◌, ℕ, List, ◌++◌, ap, sym, length, length-take, take, arith, subst}
use Rattle.bmp_specs.specs.Lines.{further}
use Rattle.bmp_specs.specs.PrefixText.{prefix_text}
use Rattle.bmp_specs.specs.RouteLine.{attribute_fields, id_fields}
use Rattle.ask_specs.specs.FullLine.{full_line, further_fields}
use Rattle.reply_text.specs.Fronts.{TableValue}
use Rattle.reply_text.specs.Pieces.{spaced}
use Rattle.reply_text.proofs.Fronts.{front_stays, full_parts_of}
use Rattle.reply_text.proofs.Joining.{writes_same}
use Rattle.reply_text.proofs.route_lines.RouteLines.put_full.Goals as goal

pub invariant_of-self : goal.invariant_of-self
invariant_of-self g c =
    let front = c.self.inside.front in
    let long : length (take front c.self.inside.line) ≡ front = omega (arith, length-take front c.self.inside.line, c.self.told, c.self.invariant.1) in
    let same : take front c.open_fields-end.new.line ≡ take front c.self.inside.line = subst (λ (k : ℕ). take k c.open_fields-end.new.line ≡ take front c.self.inside.line) long (front_stays _ _ _ _ c.open_fields-end.ensures.whole) in
    (same ∙ c.self.invariant.0, c.self.invariant.1)

pub returns-clause-writes : goal.returns-clause-writes
returns-clause-writes g c =
    let n = c.args.nlri.now in
    let a = c.args.attrs.now in
    let more : List ℕ = further (further_fields a) in
    let tail : List ℕ = prefix_text n.prefix ++ (spaced (attribute_fields a) ++ spaced (id_fields n.id)) in
    writes_same _ _ _ _ _ c.put_told.ensures
    (ap (λ (v : TableValue). full_line v.lane (record { row_key = record { key = v.key; view = v.view; nlri = n }; route = a })) (sym c.self.view_is) ∙ full_parts_of _ n a
    ∙ ap (λ (l : List ℕ). (l ++ tail) ++ more) (sym c.self.invariant.0) ∙ ap (λ (l : List ℕ). l ++ more) (sym c.open_fields-end.ensures.whole))
