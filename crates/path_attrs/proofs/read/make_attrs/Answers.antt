use Rattle.std.proofs.Common.{refl}
use Rattle.std.proofs.lemmas.Result.{IfOk-weaker}
use Rattle.path_attrs.proofs.Making.{attrs_made, form_found}
use Rattle.path_attrs.proofs.read.make_attrs.Goals as goal

pub gather-requires-clause-no_values : goal.gather-requires-clause-no_values
gather-requires-clause-no_values c = refl

pub make_own-requires : goal.make_own-requires
make_own-requires c = form_found _ _ _ c.requires.1 _ c.in_ok-gather.ensures.values

pub returns : goal.returns
returns c =
    IfOk-weaker c.make_own.result _ _ (λ attrs v. attrs_made _ _ _ c.requires.1 _ c.in_ok-gather.ensures.values attrs _ v c.in_ok-gather.ensures.others) c.make_own.ensures
