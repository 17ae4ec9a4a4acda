use Rattle.std.proofs.Common.{◌≡◌, List, Option, length, ap, subst}
use Rattle.std.specs.Prelude.{IfSome, IfNone}
use Rattle.std.specs.Option.{option_map}
use Rattle.bmp_specs.specs.Values.{NlriValue}
use Rattle.path_attrs.specs.declared.mp.MpSlice.{MpSlice}
use Rattle.path_attrs.specs.Judged.{mp_value}
use Rattle.bgp_update.proofs.Multiprotocol.{of_family}
use Rattle.bgp_update.proofs.judge.multi_count.Goals as goal

pub returns-in-Some-unicast_family-clause-some : goal.returns-in-Some-unicast_family-clause-some
returns-in-Some-unicast_family-clause-some c =
    let part = mp_value c.in-Some.part in
    let same = of_family c.args.ids part _ c.in-Some-unicast_family.family _ (ap (λ (o : Option MpSlice). option_map mp_value o) c.in-Some.is) c.in-Some-unicast_family.ensures c.uses_ids.ensures in
    subst (λ (Are : List NlriValue → Type 0). IfSome c.item_count.result (λ count. (ns : List NlriValue) × Are ns × (count ≡ length ns))) same c.item_count.ensures.some

pub returns-in-Some-unicast_family-clause-none : goal.returns-in-Some-unicast_family-clause-none
returns-in-Some-unicast_family-clause-none c =
    let part = mp_value c.in-Some.part in
    let same = of_family c.args.ids part _ c.in-Some-unicast_family.family _ (ap (λ (o : Option MpSlice). option_map mp_value o) c.in-Some.is) c.in-Some-unicast_family.ensures c.uses_ids.ensures in
    subst (λ (Are : List NlriValue → Type 0). IfNone c.item_count.result ((ns : List NlriValue) → Are ns → ⊥)) same c.item_count.ensures.none
