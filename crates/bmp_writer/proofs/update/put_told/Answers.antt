use Rattle.std.proofs.Common.{◌≡◌, ◌≤◌, subst, sym}
use Rattle.std.proofs.lemmas.Result.{on_ok_weaker}
use Rattle.bmp_specs.specs.Values.{AttrsValue}
use Rattle.bmp_writer.specs.Written.{Appends}
use Rattle.bmp_writer.specs.WrittenAttributes.{IsFront, front_size, with_hop}
use Rattle.bmp_writer.specs.WrittenUpdate.{told_of}
use Rattle.bmp_writer.proofs.Joining.{told_none, told_some}
use Rattle.bmp_writer.proofs.Sizes.{told_communities}
use Rattle.bmp_writer.proofs.update.put_told.Goals as goal

pub returns-then-is_empty-clause-ok : goal.returns-then-is_empty-clause-ok
returns-then-is_empty-clause-ok c = told_none c.args.plain c.args.announced.now c.args.attrs.now c.args.out.now c.is_empty.result c.is_empty.ensures c.if-is_empty.true

pub put_origin_to_communities-requires-clause-communities : goal.put_origin_to_communities-requires-clause-communities
put_origin_to_communities-requires-clause-communities c =
    let same : with_hop c.args.plain c.args.attrs.now ≡ told_of c.args.plain c.args.announced.now c.args.attrs.now = told_some c.args.plain c.args.announced.now c.args.attrs.now c.is_empty.result c.is_empty.ensures c.if-is_empty.false in
    told_communities (with_hop c.args.plain c.args.attrs.now) (subst (λ (a : AttrsValue). front_size a ≤ 65535) (sym same) c.requires.fits)

pub returns-clause-ok : goal.returns-clause-ok
returns-clause-ok c =
    let same : with_hop c.args.plain c.args.attrs.now ≡ told_of c.args.plain c.args.announced.now c.args.attrs.now = told_some c.args.plain c.args.announced.now c.args.attrs.now c.is_empty.result c.is_empty.ensures c.if-is_empty.false in
    on_ok_weaker c.put_origin_to_communities.result (λ (p : Appends (IsFront (with_hop c.args.plain c.args.attrs.now)) c.args.out.now c.put_origin_to_communities.new.out). subst (λ (a : AttrsValue). Appends (IsFront a) c.args.out.now c.put_origin_to_communities.new.out) same p) c.put_origin_to_communities.ensures.ok
