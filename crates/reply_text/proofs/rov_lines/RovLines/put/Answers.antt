use Rattle.std.proofs.Common.{◌≡◌, ◌≤◌, ◌∙◌, ℕ, List, [], ◌∷◌, ◌++◌, ap, sym, length, length-take, take, arith, subst}
use Rattle.bmp_specs.specs.Lines.{further}
use Rattle.bmp_specs.specs.PrefixText.{prefix_text}
use Rattle.bmp_specs.specs.RouteLine.{id_fields}
use Rattle.reply_text.specs.Fronts.{TableValue}
use Rattle.reply_text.specs.Pieces.{spaced}
use Rattle.reply_text.specs.Rov.{origin_word, rov_line}
use Rattle.reply_text.proofs.Fronts.{front_stays, rov_parts_of}
use Rattle.reply_text.proofs.Joining.{writes_same}
use Rattle.reply_text.proofs.rov_lines.RovLines.put.Goals as goal

pub invariant_of-self : goal.invariant_of-self
invariant_of-self g c =
    let front = c.self.inside.front in
    let long : length (take front c.self.inside.line) ≡ front = omega (arith, length-take front c.self.inside.line, c.self.told, c.self.invariant.1) in
    let same : take front c.judged_row-end.new.line ≡ take front c.self.inside.line = subst (λ (k : ℕ). take k c.judged_row-end.new.line ≡ take front c.self.inside.line) long (front_stays _ _ _ _ c.judged_row-end.ensures.whole) in
    (same ∙ c.self.invariant.0, c.self.invariant.1)

pub returns-clause-writes : goal.returns-clause-writes
returns-clause-writes g c =
    let n = c.args.nlri.now in
    let origin = c.args.origin in
    let judged = c.args.judged.now in
    let tail : List ℕ = prefix_text n.prefix ++ (spaced (origin_word origin ∷ judged ∷ []) ++ further (id_fields n.id)) in
    writes_same _ _ _ _ _ c.write_all.ensures
    (ap (λ (v : TableValue). rov_line v.lane (record { key = v.key; view = v.view; nlri = n }) origin judged) (sym c.self.view_is) ∙ rov_parts_of _ n origin judged ∙ ap (λ (l : List ℕ). l ++ tail) (sym c.self.invariant.0) ∙ sym c.judged_row-end.ensures.whole)
