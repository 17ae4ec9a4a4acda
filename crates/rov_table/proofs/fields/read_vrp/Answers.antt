use Rattle.std.proofs.Common.{◌≡◌, ℕ, ap, sym, subst, ◌∙◌, arith}
use Rattle.bmp_specs.specs.Prefix.{width_of}
use Rattle.bmp_specs.specs.Values.{PrefixValue}
use Rattle.rov_table.specs.VrpFile.{IsMaxText}
use Rattle.rov_table.proofs.OneFile.{max_one}
use Rattle.rov_table.proofs.fields.read_vrp.Goals as goal
use Rattle.rov_table.proofs.fields.read_vrp.Goals.{then-most-bits-via-then-most-bits, then-most-bits-via-else-most-bits+then-most-width}

pub returns-in_default-parse_prefix-clause-none : goal.returns-in_default-parse_prefix-clause-none
returns-in_default-parse_prefix-clause-none c v is = c.in_default-parse_prefix.ensures.none v.prefix is.prefix_is

pub returns-in_default-read_max-clause-none : goal.returns-in_default-read_max-clause-none
returns-in_default-read_max-clause-none c v is =
    c.in_default-read_max.ensures.none v.max
    (subst (λ (n : ℕ). IsMaxText c.args.max.now n v.max) (ap (λ (p : PrefixValue). p.bits) (c.in-Some-parse_prefix.ensures.only v.prefix is.prefix_is) ∙ sym c.bits-bits.ensures.same) is.max_is)

pub returns-then-most-bits-clause-none : goal.returns-then-most-bits-clause-none
returns-then-most-bits-clause-none c v is =
    let same : v.prefix ≡ c.in-Some-parse_prefix.own = c.in-Some-parse_prefix.ensures.only v.prefix is.prefix_is in
    let bits : v.prefix.bits ≡ c.bits-bits.result = ap (λ (p : PrefixValue). p.bits) same ∙ sym c.bits-bits.ensures.same in
    let most : v.max ≡ c.in-Some-read_max.most = max_one c.args.max.now v.prefix.bits c.bits-bits.result v.max c.in-Some-read_max.most bits is.max_is c.in-Some-read_max.ensures.some in
    let least = is.least in
    let top = is.most in
    elim c.then-most-bits.branch [
      | then-most-bits-via-then-most-bits w ↦ omega (arith, w.if-most-bits.true)
      | then-most-bits-via-else-most-bits+then-most-width w ↦
          let width : w.width.result ≡ width_of v.prefix.address.family = w.width.ensures ∙ ap width_of (w.family.ensures ∙ ap (λ a. a.family) w.addr.ensures ∙ ap (λ (p : PrefixValue). p.address.family) (sym same)) in
          omega (arith, w.if-most-width.true)
    ]
