use Rattle.std.proofs.Common.{sym}
use Rattle.std.proofs.lemmas.Result.{on_ok_weaker}
use Rattle.bmp_writer.specs.Written.{Appends}
use Rattle.bmp_writer.specs.WrittenRoutes.{IsRoutesMessage}
use Rattle.bmp_writer.proofs.Carrying.{carry_moved}
use Rattle.bmp_writer.proofs.RoutesPut.{routes_fill, routes_moved, routes_plain}
use Rattle.bmp_writer.proofs.RoutesWritten.{routes_appended}
use Rattle.bmp_writer.proofs.routes.put_routes.Goals as goal

pub put_whole-requires : goal.put_whole-requires
put_whole-requires c = carry_moved c.args.key.now c.args.view c.args.withdrawn.now c.as_slice.result.now c.args.announced.now c.as_slice-2.result.now c.args.attrs.now (sym c.as_slice.ensures) (sym c.as_slice-2.ensures) c.requires

pub returns-clause-ok : goal.returns-clause-ok
returns-clause-ok c =
    on_ok_weaker c.put_whole.result
    (λ (p : Appends (IsRoutesMessage c.args.key.now c.args.view c.as_slice.result.now c.as_slice-2.result.now c.args.attrs.now) c.args.out.now c.put_whole.new.out).
    routes_appended c.args.key.now c.args.view c.args.withdrawn.now c.args.announced.now c.args.attrs.now c.args.out.now c.put_whole.new.out c.requires
    (routes_moved c.args.key.now c.args.view c.as_slice.result.now c.args.withdrawn.now c.as_slice-2.result.now c.args.announced.now c.args.attrs.now c.args.out.now c.put_whole.new.out c.as_slice.ensures c.as_slice-2.ensures p))
    c.put_whole.ensures.ok

pub returns-clause-size : goal.returns-clause-size
returns-clause-size c =
    on_ok_weaker c.put_whole.result
    (λ (p : Appends (IsRoutesMessage c.args.key.now c.args.view c.as_slice.result.now c.as_slice-2.result.now c.args.attrs.now) c.args.out.now c.put_whole.new.out).
    routes_fill c.args.key.now c.args.view c.args.withdrawn.now c.args.announced.now c.args.attrs.now c.args.out.now c.put_whole.new.out
    (routes_moved c.args.key.now c.args.view c.as_slice.result.now c.args.withdrawn.now c.as_slice-2.result.now c.args.announced.now c.args.attrs.now c.args.out.now c.put_whole.new.out c.as_slice.ensures c.as_slice-2.ensures p))
    c.put_whole.ensures.ok

pub returns-clause-plain : goal.returns-clause-plain
returns-clause-plain c =
    on_ok_weaker c.put_whole.result
    (λ (p : Appends (IsRoutesMessage c.args.key.now c.args.view c.as_slice.result.now c.as_slice-2.result.now c.args.attrs.now) c.args.out.now c.put_whole.new.out).
    routes_plain c.args.key.now c.args.view c.args.withdrawn.now c.args.announced.now c.args.attrs.now c.args.out.now c.put_whole.new.out
    (routes_moved c.args.key.now c.args.view c.as_slice.result.now c.args.withdrawn.now c.as_slice-2.result.now c.args.announced.now c.args.attrs.now c.args.out.now c.put_whole.new.out c.as_slice.ensures c.as_slice-2.ensures p))
    c.put_whole.ensures.ok
