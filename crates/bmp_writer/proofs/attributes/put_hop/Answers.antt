use Rattle.std.proofs.Common.{◌≡◌, Option, List, ℕ, length, ap, subst, ◌∙◌}
use Rattle.std.proofs.lemmas.Result.{on_ok_weaker}
use Rattle.bmp_specs.specs.Sequence.{IsField}
use Rattle.bmp_writer.specs.WrittenAttributes.{HasHop}
use Rattle.bmp_writer.proofs.AttributesRead.{some_put}
use Rattle.bmp_writer.proofs.attributes.put_hop.Goals as goal

pub returns-in-Some-clause-ok : goal.returns-in-Some-clause-ok
returns-in-Some-clause-ok c =
    let four : length c.in-Some.hop ≡ 4 = subst (λ (o : Option (List ℕ)). HasHop o) c.in-Some.is c.requires in
    let value = c.as_slice.result.now in
    on_ok_weaker c.put_attribute.result (some_put _ _ (IsField 4) c.args.hop.now c.in-Some.hop value c.args.out.now c.put_attribute.new.out c.in-Some.is (record { len = ap (λ (l : List ℕ). length l) c.as_slice.ensures ∙ four; value_is = c.as_slice.ensures })) c.put_attribute.ensures.ok
