use Rattle.std.proofs.Common.{subst}
use Rattle.std.specs.Option.{option_map}
use Rattle.bmp_specs.specs.Orders.{nlri_cmp}
use Rattle.route_runs.specs.Layers.{all_to, IsLayered}
use Rattle.route_runs.specs.Nlri.{of_family}
use Rattle.route_runs.specs.Runs.{shared}
use Rattle.route_runs.proofs.ChangesOfHalves.{half_changed, half_keys}
use Rattle.route_runs.proofs.changes.change_half.Goals as goal

pub returns-clause-keys : goal.returns-clause-keys
returns-clause-keys g c =
    let own = of_family g.N.KeyAddress.family c.args.nlri.now in
    let to = option_map shared c.args.to in
    let told = subst (λ s. IsLayered nlri_cmp c.replace-taken.result (all_to own s) c.in_ok-half.field-0) c.in_ok-set.ensures c.in_ok-half.ensures in
    let layered = subst (λ l. IsLayered nlri_cmp l (all_to own to) c.in_ok-half.field-0) c.replace-taken.ensures.value told in
    half_keys g.N.KeyAddress.family c.args.nlri.now to c.args.half.now c.in_ok-half.field-0 layered c.requires.nlri c.requires.keys

pub returns-clause-changed : goal.returns-clause-changed
returns-clause-changed g c =
    let own = of_family g.N.KeyAddress.family c.args.nlri.now in
    let to = option_map shared c.args.to in
    let told = subst (λ s. IsLayered nlri_cmp c.replace-taken.result (all_to own s) c.in_ok-half.field-0) c.in_ok-set.ensures c.in_ok-half.ensures in
    let layered = subst (λ l. IsLayered nlri_cmp l (all_to own to) c.in_ok-half.field-0) c.replace-taken.ensures.value told in
    half_changed g.N.KeyAddress.family c.args.nlri.now to c.args.half.now c.in_ok-half.field-0 layered
