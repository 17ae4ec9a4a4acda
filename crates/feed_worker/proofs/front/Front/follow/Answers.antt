use Rattle.std.proofs.Common.{◌≡◌, ◌+◌, ◌-◌, ◌∙◌, ℕ, List, inl, inr, length, take, drop, ap, arith, length-drop}
use Rattle.std.proofs.lemmas.List.{take_all}
use Rattle.feed_worker.proofs.FrontLaws.{front_more, front_in_piece}
use Rattle.feed_worker.proofs.front.Front.follow.Goals as goal

pub returns-then-to-from : goal.returns-then-to-from
returns-then-to-from c bytes count front moved within = rw (c.extend.ensures, c.if-to-from.true) (front_more bytes c.args.piece.now c.args.self.now.octets c.args.from (omega (arith, c.requires, count)) front)

pub returns : goal.returns
returns c bytes count front moved within =
    let piece = c.args.piece.now in
    let skipped = c.min-skipped.result in
    elim moved [
      | inl same ↦ absurd (c.if-to-from.false same)
      | inr behind ↦
          let place : length bytes + skipped ≡ c.args.to = omega (arith, count, behind, within) in
          let rest : take (length piece - skipped) (drop skipped piece) ≡ drop skipped piece = take_all (length piece - skipped) (drop skipped piece) (omega (arith, length-drop skipped piece)) in
          rw (c.extend-2.ensures, c.new-self.ensures) (ap (λ (l : List ℕ). take 64 l) rest ∙ front_in_piece bytes piece skipped c.args.to place)
    ]
