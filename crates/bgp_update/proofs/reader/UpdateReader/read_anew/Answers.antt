use Rattle.std.proofs.Common.{sym, ap}
use Rattle.bmp_specs.specs.Values.{UpdateValue}
use Rattle.bgp_update.proofs.Own.{own_of}
use Rattle.bgp_update.proofs.reader.UpdateReader.read_anew.Goals as goal

pub make_update-requires : goal.make_update-requires
make_update-requires c = c.in-Some.ensures.some.judged

pub keep-requires : goal.keep-requires
keep-requires c =
    let found = c.in-Some.ensures.some in
    own_of c.args.width c.args.ids c.args.body.now c.in-Some.found found _ _ c.is_none.ensures c.if-is_none.true c.is_none-then-is_none.ensures c.if-is_none-2.true _ (c.in_ok-update.ensures _ found) _
    (ap (λ (u : UpdateValue). u.plain_attrs) (sym c.update.view_is))

pub returns-clause-ok : goal.returns-clause-ok
returns-clause-ok c = c.in_ok-update.ensures _ c.in-Some.ensures.some
