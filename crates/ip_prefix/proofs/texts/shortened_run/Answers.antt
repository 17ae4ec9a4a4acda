use Rattle.std.proofs.Common.{ℕ, Option, sym, subst}
use Rattle.bmp_specs.specs.ShortenedRun.{Shortens}
use Rattle.ip_prefix.proofs.Runs.{run_none, run_some}
use Rattle.ip_prefix.proofs.Rules.{shortened_run_Shortens}
use Rattle.ip_prefix.proofs.texts.shortened_run.Goals as goal

pub returns-then-longest-lt2-clause-run : goal.returns-then-longest-lt2-clause-run
returns-then-longest-lt2-clause-run c = run_none c.args.groups.now c.loop-i.i c.loop-i.longest c.told-groups c.loop-i-test.false c.loop-i.invariant.longest_is c.if-longest-lt2.true

pub returns-else-longest-lt2-clause-run : goal.returns-else-longest-lt2-clause-run
returns-else-longest-lt2-clause-run c = run_some c.args.groups.now c.loop-i.i c.loop-i.start c.loop-i.longest c.told-groups c.loop-i-test.false c.loop-i.invariant.start_is c.loop-i.invariant.longest_is c.if-longest-lt2.false

pub returns-then-longest-lt2-clause-rules : goal.returns-then-longest-lt2-clause-rules
returns-then-longest-lt2-clause-rules c = subst (λ (r : Option (ℕ × ℕ)). Shortens c.args.groups.now r) (sym (returns-then-longest-lt2-clause-run c)) (shortened_run_Shortens c.args.groups.now c.told-groups)

pub returns-else-longest-lt2-clause-rules : goal.returns-else-longest-lt2-clause-rules
returns-else-longest-lt2-clause-rules c = subst (λ (r : Option (ℕ × ℕ)). Shortens c.args.groups.now r) (sym (returns-else-longest-lt2-clause-run c)) (shortened_run_Shortens c.args.groups.now c.told-groups)
