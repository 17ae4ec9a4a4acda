use Rattle.std.proofs.Common.{arith}
use Rattle.bgp_update.proofs.Judging.{multi_broken, unreachable_broken}
use Rattle.bgp_update.proofs.OneBody.{attributes_none, fields_none, plain_none, withdrawn_none}
use Rattle.bgp_update.proofs.judge.find_update.Goals as goal

pub returns-in_default-clause-none : goal.returns-in_default-clause-none
returns-in_default-clause-none c = fields_none _ _ _ c.in_default.ensures.none

pub returns-in_default-judge_attrs-clause-none : goal.returns-in_default-judge_attrs-clause-none
returns-in_default-judge_attrs-clause-none c = attributes_none _ _ _ _ _ _ c.in-Some.ensures.found c.in_default-judge_attrs.ensures.none

pub returns-in_default-item_count-clause-none : goal.returns-in_default-item_count-clause-none
returns-in_default-item_count-clause-none c = withdrawn_none _ _ _ _ _ _ c.in-Some.ensures.found c.in_default-item_count.ensures.none

pub returns-in_default-item_count-2-clause-none : goal.returns-in_default-item_count-2-clause-none
returns-in_default-item_count-2-clause-none c = plain_none _ _ _ _ _ _ c.in-Some.ensures.found c.in_default-item_count-2.ensures.none

pub returns-in_default-multi_count-clause-none : goal.returns-in_default-multi_count-clause-none
returns-in_default-multi_count-clause-none c = unreachable_broken _ _ _ _ _ _ c.in-Some.ensures.found _ c.in-Some-judge_attrs.ensures.some c.in_default-multi_count.ensures.none

pub returns-in_default-multi_count-2-clause-none : goal.returns-in_default-multi_count-2-clause-none
returns-in_default-multi_count-2-clause-none c = multi_broken _ _ _ _ _ _ c.in-Some.ensures.found _ c.in-Some-judge_attrs.ensures.some c.in_default-multi_count-2.ensures.none

pub returns-clause-some : goal.returns-clause-some
returns-clause-some c =
    let gone = c.in-Some-item_count.ensures.some in
    let plain = c.in-Some-item_count-2.ensures.some in
    let lost = c.in-Some-multi_count.ensures.some in
    let multi = c.in-Some-multi_count-2.ensures.some in
    record {
      fields = c.in-Some.ensures.found;
      judged = c.in-Some-judge_attrs.ensures.some;
      gone = gone.0;
      gone_are = gone.1;
      lost = lost.0;
      lost_are = lost.1;
      plain = plain.0;
      plain_are = plain.1;
      multi = multi.0;
      multi_are = multi.1;
      withdrawn_count = omega (arith, gone.2, lost.2);
      plain_count = plain.2;
      multi_count = multi.2;
    }
