use Rattle.std.proofs.Common.{ap, List, ℕ, take, ◌∙◌}
use Rattle.std.proofs.lemmas.Result.{on_ok_weaker, on_err_weaker}
use Rattle.bmp_specs.specs.Values.{AddressValue}
use Rattle.bmp_specs.specs.Prefix.{bytes_for}
use Rattle.bmp_writer.specs.Written.{Keeps}
use Rattle.bmp_writer.proofs.NlriRead.{prefix_put}
use Rattle.bmp_writer.proofs.Still.{keeps_piece, keeps_same, keeps_still, on_err}
use Rattle.bmp_writer.proofs.nlri.put_prefix.Goals as goal

pub returns-clause-ok : goal.returns-clause-ok
returns-clause-ok c =
    let p = c.args.prefix.now in
    let octets = c.octets-octets.ensures.same ∙ ap (λ (a : AddressValue). a.octets) c.addr.ensures in
    let size = c.octets_for.ensures ∙ ap (λ (n : ℕ). bytes_for n) c.bits-bits.ensures.same in
    on_ok_weaker c.extend-2.result (prefix_put p c.bits-bits.result _ c.args.out.now c.extend.new.self c.extend-2.new.self c.bits-bits.ensures.valid c.bits-bits.ensures.same (ap (λ (n : ℕ). take n c.octets-octets.result) size ∙ ap (λ (l : List ℕ). take (bytes_for p.bits) l) octets) c.in_ok-extend.ensures.ok) c.extend-2.ensures.ok

pub returns-in_err-extend-clause-err : goal.returns-in_err-extend-clause-err
returns-in_err-extend-clause-err c =
    let old = c.args.out.now in
    on_err c.from_residual.result (Keeps old c.extend.new.self) (keeps_same old c.extend.new.self c.in_err-extend.ensures.err)

pub returns-clause-err : goal.returns-clause-err
returns-clause-err c =
    let old = c.args.out.now in
    let one : Keeps old c.extend.new.self = keeps_piece old _ c.extend.new.self c.in_ok-extend.ensures.ok in
    on_err_weaker c.extend-2.result (λ e. keeps_still old c.extend.new.self c.extend-2.new.self one e) c.extend-2.ensures.err
