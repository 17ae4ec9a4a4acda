use Rattle.std.proofs.Common.{◌≡◌, ◌∙◌, ◌<◌, length, replicate, ap, sym, subst, arith, rules}
use Rattle.std.specs.Arc.{arc_value}
use Rattle.std.specs.Option.{option_map}
use Rattle.std.proofs.lemmas.List.{length-map}
use Rattle.route_runs.specs.Message.{IsAllSet}
use Rattle.route_runs.specs.Rows.{sets_of, set_at, rows, IsHandle}
use Rattle.route_runs.proofs.OneSet.{all_set}
use Rattle.route_runs.proofs.run.Run.many.Goals as goal

pub returns : goal.returns
returns g c =
    let new = sets_of c.turn.new.out.packs.items in
    let n : length new ≡ c.len.result = length-map c.turn.new.out.packs.items _ ∙ search rules in
    let few : length new < 1048576 = omega (arith, n, c.if-len-ge1048576.false) in
    let h : IsHandle new c.in_ok-handle.handle = subst (λ p. IsHandle p c.in_ok-handle.handle) (sym c.in_ok-turn.ensures.packs) c.in_ok-handle.ensures.handle in
    let names : set_at new c.in_ok-handle.handle ≡ option_map arc_value c.args.set = subst (λ p. set_at p c.in_ok-handle.handle ≡ option_map arc_value c.args.set) (sym c.in_ok-turn.ensures.packs) c.in_ok-handle.ensures.names in
    let m : c.len-2.result ≡ length c.in_order-keys.result.items = search rules in
    let handles : c.in_ok-handles.handles.items ≡ replicate (length c.in_order-keys.result.items) c.in_ok-handle.handle = c.in_ok-handles.ensures ∙ ap (λ n. replicate n c.in_ok-handle.handle) m in
    subst (λ v. IsAllSet g.K.Ord.cmp c.args.keys.items (option_map arc_value c.args.set) (rows new c.in_order-keys.result.items v)) (sym handles)
    (all_set g.K.Ord.cmp g.met.K.Ord.total g.met.K.RunKey.exact new c.args.keys.items c.in_order-keys.result.items c.in_ok-handle.handle (option_map arc_value c.args.set) c.in_order-keys.ensures.ordered c.in_order-keys.ensures.same h names few)
