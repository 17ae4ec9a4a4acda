use Rattle.std.proofs.Common.{◌≡◌, ◌++◌, List, Option, ap, subst}
use Rattle.std.specs.Prelude.{OnOk}
use Rattle.std.specs.Option.{option_map}
use Rattle.bmp_specs.specs.Values.{NlriValue}
use Rattle.path_attrs.specs.declared.mp.MpSlice.{MpSlice}
use Rattle.path_attrs.specs.Judged.{mp_value}
use Rattle.bgp_update.proofs.Multiprotocol.{of_family}
use Rattle.bgp_update.proofs.multi.add_multi.Goals as goal

pub returns-in-Some-unicast_family : goal.returns-in-Some-unicast_family
returns-in-Some-unicast_family c =
    let part = mp_value c.in-Some.part in
    let same = of_family c.args.ids part _ c.in-Some-unicast_family.family _ (ap (λ (o : Option MpSlice). option_map mp_value o) c.in-Some.is) c.in-Some-unicast_family.ensures c.uses_ids.ensures in
    subst (λ (Are : List NlriValue → Type 0). OnOk c.add_items.result ((ns : List NlriValue) → Are ns → c.add_items.new.list ≡ c.args.list.now ++ ns)) same c.add_items.ensures
