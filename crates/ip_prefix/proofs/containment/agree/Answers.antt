-- src/containment.rt
use Rattle.std.proofs.Common.{◌≡◌, ℕ, ◌+◌, ◌-◌, ◌*◌, ◌/◌, ◌^◌, List, length, refl, sym, ap, ◌∙◌, arith, replicate, slice_index_or, ◌<◌, eq-eqb, eqb-true}
use Rattle.bmp_specs.specs.Prefix.{first_bits}
use Rattle.ip_prefix.proofs.Words.{worth, big_number-worth, agree_to, agree_from, first_none}
use Rattle.ip_prefix.proofs.containment.agree.Goals as goal

pub returns-then-bits-eq0 : goal.returns-then-bits-eq0
returns-then-bits-eq0 c =
    let none : (xs : List ℕ) → length xs ≡ 16 → ((k : ℕ) → slice_index_or xs k 0 < 256) → first_bits c.args.bits xs ≡ replicate 16 0 = λ xs len bytes. ap (λ (n : ℕ). first_bits n xs) c.if-bits-eq0.true ∙ first_none xs bytes ∙ ap (λ (n : ℕ). replicate n 0) len in
    (λ _. none c.args.a.now c.told-a c.fits-a ∙ sym (none c.args.b.now c.told-b c.fits-b), λ _. refl)

pub returns : goal.returns
returns c =
    let rest = 128 - c.args.bits in
    let a : c.read_u128.result ≡ worth c.args.a.now = c.read_u128.ensures ∙ big_number-worth c.args.a.now 16 (sym c.told-a) in
    let b : c.read_u128-2.result ≡ worth c.args.b.now = c.read_u128-2.ensures ∙ big_number-worth c.args.b.now 16 (sym c.told-b) in
    let e : c.args.bits + rest ≡ 8 * length c.args.a.now = omega (arith, c.told-a, c.requires) in
    let f : c.args.bits + rest ≡ 8 * length c.args.b.now = omega (arith, c.told-b, c.requires) in (
      λ same. agree_from c.args.bits rest c.args.a.now c.args.b.now c.fits-a c.fits-b e f (ap (λ (w : ℕ). w / 2 ^ rest) (sym a) ∙ eqb-true _ _ same ∙ ap (λ (w : ℕ). w / 2 ^ rest) b),
      λ same. eq-eqb _ _ (ap (λ (w : ℕ). w / 2 ^ rest) a ∙ agree_to c.args.bits rest c.args.a.now c.args.b.now c.fits-a c.fits-b e f same ∙ ap (λ (w : ℕ). w / 2 ^ rest) (sym b)),
    )
