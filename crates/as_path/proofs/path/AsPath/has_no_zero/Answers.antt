use Rattle.std.proofs.Common.{ℕ, ◌*◌, refl, sym, ap, ◌∙◌}
use Rattle.std.proofs.lemmas.Bool.{iff_false}
use Rattle.as_path.proofs.Passing.{segments_passed_end, segments_passed_more, segments_passed_not}
use Rattle.as_path.proofs.Reading.{split_joined}
use Rattle.as_path.proofs.path.AsPath.has_no_zero.Goals as goal

pub returns-then-not-none_zero : goal.returns-then-not-none_zero
returns-then-not-none_zero c path are = (
  λ yes. absurd (cc yes),
  λ all. absurd (segments_passed_not _ _ _ _ _ _ _ c.loop-count.invariant c.in-Some.ensures.found (sym c.split_at.ensures.back ∙ split_joined _ _ _ _ c.split_at-in-Some.ensures.front c.split_at-in-Some.ensures.back)
      (c.split_at-in-Some.ensures.front_len ∙ ap (λ (n : ℕ). n * c.in-Some.count) c.width_bytes.ensures) (λ asns numbers. iff_false (c.none_zero.ensures asns numbers) c.if-not-none_zero.true) path are all),
)

pub loop-count-preserved : goal.loop-count-preserved
loop-count-preserved c = segments_passed_more _ _ _ _ _ _ _ c.loop-count.invariant c.in-Some.ensures.found (sym c.split_at.ensures.back ∙ split_joined _ _ _ _ c.split_at-in-Some.ensures.front c.split_at-in-Some.ensures.back)
    (c.split_at-in-Some.ensures.front_len ∙ ap (λ (n : ℕ). n * c.in-Some.count) c.width_bytes.ensures) (λ asns numbers. (c.none_zero.ensures asns numbers).0 c.if-not-none_zero.false)

pub returns : goal.returns
returns c path are = (λ _. segments_passed_end _ _ _ c.loop-count.invariant c.in_default.ensures.none path are, λ _. refl)
