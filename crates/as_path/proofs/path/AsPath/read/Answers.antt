use Rattle.std.proofs.Common.{ℕ, ◌*◌, sym, ap, ◌∙◌}
use Rattle.as_path.proofs.Judging.{path_all}
use Rattle.as_path.proofs.Reading.{split_joined, segment_more}
use Rattle.as_path.proofs.path.AsPath.read.Goals as goal

pub loop-kind-preserved : goal.loop-kind-preserved
loop-kind-preserved c = rw c.in_ok-push.ensures.ok (segment_more _ _ _ _ _ _ _ _ _ c.loop-kind.invariant c.in-Some-header.ensures.found (sym c.split_at.ensures.back ∙ split_joined _ _ _ _ c.split_at-in-Some-header.ensures.front c.split_at-in-Some-header.ensures.back) (c.split_at-in-Some-header.ensures.front_len ∙ ap (λ (n : ℕ). n * c.in-Some-header.count) c.width_bytes.ensures) c.in_ok-numbers.ensures)

pub returns-clause-ok : goal.returns-clause-ok
returns-clause-ok c = path_all _ _ _ _ _ c.in-Some.ensures.some c.loop-kind.invariant c.in_default-header.ensures.none
