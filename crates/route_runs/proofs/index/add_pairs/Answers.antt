use Rattle.std.proofs.Common.{◌≡◌, ℕ, length, map, option_and_then, subst}
use Rattle.std.proofs.lemmas.Result.{on_ok_weaker}
use Rattle.route_runs.specs.Origins.{attrs_origin, told_origin, AreAdded, AreNamed}
use Rattle.route_runs.specs.Rows.{sets_of, set_at}
use Rattle.route_runs.proofs.Indexing.{named_as, named_rows, told_named}
use Rattle.route_runs.proofs.index.add_pairs.Goals as goal

pub returns-clause-added : goal.returns-clause-added
returns-clause-added g c = on_ok_weaker c.add_rows.result (λ named.
    let packs = sets_of c.run.inside.packs.items in
    let ks = c.run.inside.keys.items in
    let vs = c.run.inside.handles.items in
    let pairs = c.add_rows.new.pairs.items in
    let told : (h : ℕ) → told_origin (map (map attrs_origin) packs) h ≡ option_and_then attrs_origin (set_at packs h) = told_named attrs_origin packs c.run.invariant.few in
    let of_run : AreNamed g.K.TableKey.spot_of (told_origin (map (map attrs_origin) packs)) ks vs (length ks) pairs =
    rw (c.deref-4.ensures.value, c.in_ok-origins.ensures, c.deref.ensures.value, c.deref-2.ensures.value, c.deref-3.ensures.value) at named in
    subst (λ l. AreAdded g.K.Ord.cmp g.K.TableKey.spot_of attrs_origin l pairs) c.run.view_is
    (named_rows g.K.Ord.cmp g.met.K.Ord.total g.met.K.RunKey.exact g.K.TableKey.spot_of attrs_origin packs ks vs c.run.invariant pairs
    (named_as g.K.TableKey.spot_of (told_origin (map (map attrs_origin) packs)) ks vs (λ h. option_and_then attrs_origin (set_at packs h)) told (length ks) pairs of_run))) c.add_rows.ensures.added
