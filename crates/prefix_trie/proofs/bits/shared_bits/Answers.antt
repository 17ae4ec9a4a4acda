use Rattle.std.proofs.Common.{sym, ◌∙◌, refl, arith}
use Rattle.std.specs.Int.Bits.{bit_xor}
use Rattle.std.specs.Prelude.{slice_index}
use Rattle.prefix_trie.proofs.SharedBits.{agrees_here, agrees_on, all_eight}
use Rattle.prefix_trie.proofs.bits.shared_bits.Goals as goal

pub returns-then-alike-lt8 : goal.returns-then-alike-lt8
returns-then-alike-lt8 c =
    agrees_here c.args.a.now c.args.b.now c.loop-i.i c.loop-i.bits _ (λ k. (c.type_inv.a k).fits) (λ k. (c.type_inv.b k).fits) (omega (arith, c.requires.a)) (omega (arith, c.requires.b)) (c.requires.a ∙ sym c.requires.b) refl c.loop-i.invariant.1 c.if-alike-lt8.true

pub loop-i-preserved : goal.loop-i-preserved
loop-i-preserved c =
    let eight = all_eight (bit_xor (slice_index c.args.a.now c.loop-i.i) (slice_index c.args.b.now c.loop-i.i)) c.if-alike-lt8.false in
    let on = agrees_on c.args.a.now c.args.b.now c.loop-i.i c.loop-i.bits _ (λ k. (c.type_inv.a k).fits) (λ k. (c.type_inv.b k).fits) (omega (arith, c.requires.a)) (omega (arith, c.requires.b)) (c.requires.a ∙ sym c.requires.b) refl c.loop-i.invariant.1 c.if-alike-lt8.false in
    (omega (arith, eight, c.loop-i.invariant.0), λ n a. rw eight (on n a))
