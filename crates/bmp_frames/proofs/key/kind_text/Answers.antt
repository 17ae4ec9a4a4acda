use Rattle.std.proofs.Common.{◌≡◌, ap, length, arith, ◌∙◌, ◌++◌, List, ℕ}
use Rattle.bmp_specs.specs.NumberText.{number_text}
use Rattle.ip_prefix.proofs.Joined.{octet_within}
use Rattle.bmp_frames.proofs.key.kind_text.Goals as goal

pub put_number-requires : goal.put_number-requires
put_number-requires c = omega (arith, octet_within c.args.kind c.ranges.kind.fits, ap length c.new-text.ensures)

pub returns-clause-short : goal.returns-clause-short
returns-clause-short c =
    let whole : c.put_number.new.self ≡ number_text c.args.kind = c.put_number.ensures ∙ ap (λ (l : List ℕ). l ++ number_text c.args.kind) c.new-text.ensures in
    omega (arith, octet_within c.args.kind c.ranges.kind.fits, ap length whole)
