use Rattle.std.proofs.Common.{◌≡◌, ◌∙◌, ◌+◌, ◌<◌, Some, [], suc, true, false, drop, length, map, get_or, ap, sym, subst, add-one, arith}
use Rattle.std.specs.Arc.{arc_value}
use Rattle.std.specs.Option.{is_some, option_map}
use Rattle.std.proofs.lemmas.List.{length-map}
use Rattle.route_runs.specs.Runs.{latest, shared}
use Rattle.route_runs.specs.Sift.{front, IfFront, IsOnward, Passes}
use Rattle.route_runs.proofs.Sifting.{none_left, spot_of, step_fewer, step_found, step_never, step_on, step_over}
use Rattle.route_runs.proofs.SiftingRuns.{mapped_at}
use Rattle.route_runs.proofs.spots.next_by_spots.Goals as goal

pub returns-in_default-clause-first : goal.returns-in_default-clause-first
returns-in_default-clause-first g c =
    none_left g.K.Ord.cmp g.met.K.Ord.total g.met.K.RunKey.exact (g.T.RouteTest.passes c.args.test.now) c.args.place (map arc_value c.args.runs.now) c.loop-found.spots c.loop-found.invariant c.in_default.ensures

pub next_passing-requires-clause-here : goal.next_passing-requires-clause-here
next_passing-requires-clause-here g c =
    let cmp = g.K.Ord.cmp in
    let P = g.T.RouteTest.passes c.args.test.now in
    let runs = map arc_value c.args.runs.now in
    let spots = c.loop-found.spots in
    let number = c.in-Some.found.0 in
    let q = c.in-Some.found.1 in
    let at = get_or spots number 0 in
    let short : number < length c.args.runs.now = omega (arith, c.in-Some.ensures.within, length-map c.args.runs.now (arc_value {X = _})) in
    let here : get_or runs number [] ≡ arc_value c.index-runs-number.result = mapped_at arc_value c.args.runs.now number c.index-runs-number.result short c.index-runs-number.is in
    subst (λ l. IfFront (λ e. Passes P e.1) (drop at l)) (here ∙ sym c.deref.ensures)
    (spot_of cmp g.met.K.Ord.total g.met.K.RunKey.exact P c.args.place runs spots number c.in-Some.ensures.within c.loop-found.invariant).here

pub returns-in-Some-set_in-clause-first : goal.returns-in-Some-set_in-clause-first
returns-in-Some-set_in-clause-first g c =
    let cmp = g.K.Ord.cmp in
    let P = g.T.RouteTest.passes c.args.test.now in
    let runs = map arc_value c.args.runs.now in
    let spots = c.loop-found.spots in
    let number = c.in-Some.found.0 in
    let q = c.in-Some.found.1 in
    let at = get_or spots number 0 in
    let short : number < length c.args.runs.now = omega (arith, c.in-Some.ensures.within, length-map c.args.runs.now (arc_value {X = _})) in
    let here : get_or runs number [] ≡ arc_value c.index-runs-number.result = mapped_at arc_value c.args.runs.now number c.index-runs-number.result short c.index-runs-number.is in
    let again : get_or runs number [] ≡ arc_value c.index-runs-number-then-not-is_overridden.result = mapped_at arc_value c.args.runs.now number c.index-runs-number-then-not-is_overridden.result short c.index-runs-number-then-not-is_overridden.is in
    let none : is_some (latest cmp q (drop (suc number) runs)) ≡ false = ap (λ n. is_some (latest cmp q (drop n runs))) (sym (add-one number)) ∙ sym c.is_overridden.ensures ∙ c.if-not-is_overridden.true in
    let set : Some (option_map shared c.set_in.result) ≡ option_map (λ e. e.1) (front (drop at (get_or runs number []))) = c.set_in.ensures ∙ ap (λ l. option_map (λ e. e.1) (front (drop at l))) (c.deref-then-not-is_overridden.ensures ∙ sym again) in
    step_found cmp g.met.K.Ord.total g.met.K.RunKey.exact P c.args.place runs spots c.loop-found.invariant number q c.in-Some.ensures none (option_map shared c.set_in.result) (shared c.in-Some-set_in.set) set (ap (option_map shared) c.in-Some-set_in.is)

pub returns-in-Some-set_in-clause-spots : goal.returns-in-Some-set_in-clause-spots
returns-in-Some-set_in-clause-spots g c =
    let cmp = g.K.Ord.cmp in
    let P = g.T.RouteTest.passes c.args.test.now in
    let runs = map arc_value c.args.runs.now in
    let spots = c.loop-found.spots in
    let number = c.in-Some.found.0 in
    let q = c.in-Some.found.1 in
    let at = get_or spots number 0 in
    let short : number < length c.args.runs.now = omega (arith, c.in-Some.ensures.within, length-map c.args.runs.now (arc_value {X = _})) in
    let here : get_or runs number [] ≡ arc_value c.index-runs-number.result = mapped_at arc_value c.args.runs.now number c.index-runs-number.result short c.index-runs-number.is in
    let m = c.next_passing.result in
    let o : IsOnward P (get_or runs number []) (suc at) m = subst (λ n. IsOnward P (get_or runs number []) n m) (add-one at) (subst (λ l. IsOnward P l (at + 1) m) (c.deref.ensures ∙ sym here) c.next_passing.ensures) in
    let none : is_some (latest cmp q (drop (suc number) runs)) ≡ false = ap (λ n. is_some (latest cmp q (drop n runs))) (sym (add-one number)) ∙ sym c.is_overridden.ensures ∙ c.if-not-is_overridden.true in
    step_on cmp g.met.K.Ord.total g.met.K.RunKey.exact P c.args.place runs spots c.loop-found.invariant number q c.in-Some.ensures none m o

pub loop-found-smaller-in_default-set_in : goal.loop-found-smaller-in_default-set_in
loop-found-smaller-in_default-set_in g c =
    let cmp = g.K.Ord.cmp in
    let P = g.T.RouteTest.passes c.args.test.now in
    let runs = map arc_value c.args.runs.now in
    let spots = c.loop-found.spots in
    let number = c.in-Some.found.0 in
    let q = c.in-Some.found.1 in
    let at = get_or spots number 0 in
    let short : number < length c.args.runs.now = omega (arith, c.in-Some.ensures.within, length-map c.args.runs.now (arc_value {X = _})) in
    let here : get_or runs number [] ≡ arc_value c.index-runs-number.result = mapped_at arc_value c.args.runs.now number c.index-runs-number.result short c.index-runs-number.is in
    let m = c.next_passing.result in
    let o : IsOnward P (get_or runs number []) (suc at) m = subst (λ n. IsOnward P (get_or runs number []) n m) (add-one at) (subst (λ l. IsOnward P l (at + 1) m) (c.deref.ensures ∙ sym here) c.next_passing.ensures) in
    step_fewer cmp g.met.K.Ord.total g.met.K.RunKey.exact P c.args.place runs spots c.loop-found.invariant number q c.in-Some.ensures m o

pub loop-found-preserved-in_default-set_in : goal.loop-found-preserved-in_default-set_in
loop-found-preserved-in_default-set_in g c =
    let cmp = g.K.Ord.cmp in
    let P = g.T.RouteTest.passes c.args.test.now in
    let runs = map arc_value c.args.runs.now in
    let spots = c.loop-found.spots in
    let number = c.in-Some.found.0 in
    let q = c.in-Some.found.1 in
    let at = get_or spots number 0 in
    let short : number < length c.args.runs.now = omega (arith, c.in-Some.ensures.within, length-map c.args.runs.now (arc_value {X = _})) in
    let here : get_or runs number [] ≡ arc_value c.index-runs-number.result = mapped_at arc_value c.args.runs.now number c.index-runs-number.result short c.index-runs-number.is in
    let again : get_or runs number [] ≡ arc_value c.index-runs-number-then-not-is_overridden.result = mapped_at arc_value c.args.runs.now number c.index-runs-number-then-not-is_overridden.result short c.index-runs-number-then-not-is_overridden.is in
    let none : is_some (latest cmp q (drop (suc number) runs)) ≡ false = ap (λ n. is_some (latest cmp q (drop n runs))) (sym (add-one number)) ∙ sym c.is_overridden.ensures ∙ c.if-not-is_overridden.true in
    let set : Some (option_map shared c.set_in.result) ≡ option_map (λ e. e.1) (front (drop at (get_or runs number []))) = c.set_in.ensures ∙ ap (λ l. option_map (λ e. e.1) (front (drop at l))) (c.deref-then-not-is_overridden.ensures ∙ sym again) in
    absurd (step_never cmp g.met.K.Ord.total g.met.K.RunKey.exact P c.args.place runs spots c.loop-found.invariant number q c.in-Some.ensures none (option_map shared c.set_in.result) set (ap (option_map shared) c.in_default-set_in.is))

pub loop-found-smaller : goal.loop-found-smaller
loop-found-smaller g c =
    let cmp = g.K.Ord.cmp in
    let P = g.T.RouteTest.passes c.args.test.now in
    let runs = map arc_value c.args.runs.now in
    let spots = c.loop-found.spots in
    let number = c.in-Some.found.0 in
    let q = c.in-Some.found.1 in
    let at = get_or spots number 0 in
    let short : number < length c.args.runs.now = omega (arith, c.in-Some.ensures.within, length-map c.args.runs.now (arc_value {X = _})) in
    let here : get_or runs number [] ≡ arc_value c.index-runs-number.result = mapped_at arc_value c.args.runs.now number c.index-runs-number.result short c.index-runs-number.is in
    let m = c.next_passing.result in
    let o : IsOnward P (get_or runs number []) (suc at) m = subst (λ n. IsOnward P (get_or runs number []) n m) (add-one at) (subst (λ l. IsOnward P l (at + 1) m) (c.deref.ensures ∙ sym here) c.next_passing.ensures) in
    step_fewer cmp g.met.K.Ord.total g.met.K.RunKey.exact P c.args.place runs spots c.loop-found.invariant number q c.in-Some.ensures m o

pub loop-found-preserved : goal.loop-found-preserved
loop-found-preserved g c =
    let cmp = g.K.Ord.cmp in
    let P = g.T.RouteTest.passes c.args.test.now in
    let runs = map arc_value c.args.runs.now in
    let spots = c.loop-found.spots in
    let number = c.in-Some.found.0 in
    let q = c.in-Some.found.1 in
    let at = get_or spots number 0 in
    let short : number < length c.args.runs.now = omega (arith, c.in-Some.ensures.within, length-map c.args.runs.now (arc_value {X = _})) in
    let here : get_or runs number [] ≡ arc_value c.index-runs-number.result = mapped_at arc_value c.args.runs.now number c.index-runs-number.result short c.index-runs-number.is in
    let m = c.next_passing.result in
    let o : IsOnward P (get_or runs number []) (suc at) m = subst (λ n. IsOnward P (get_or runs number []) n m) (add-one at) (subst (λ l. IsOnward P l (at + 1) m) (c.deref.ensures ∙ sym here) c.next_passing.ensures) in
    let over : is_some (latest cmp q (drop (suc number) runs)) ≡ true = ap (λ n. is_some (latest cmp q (drop n runs))) (sym (add-one number)) ∙ sym c.is_overridden.ensures ∙ c.if-not-is_overridden.false in
    step_over cmp g.met.K.Ord.total g.met.K.RunKey.exact P c.args.place runs spots c.loop-found.invariant number q c.in-Some.ensures m o over
