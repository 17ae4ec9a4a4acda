use Rattle.std.proofs.Common.{◌≡◌, ℕ, ◌+◌, ◌-◌, ◌<◌, List, [], ◌∷◌, ◌++◌, length, take, replicate, refl, sym, ap, ◌∙◌, arith, append_assoc, length-take-le}
use Rattle.std.specs.Prelude.{slice_set}
use Rattle.std.proofs.lemmas.List.{length-set, replicate-append-replicate, set_at}
use Rattle.std.proofs.lemmas.Grind.{take-set_at}
use Rattle.bmp_specs.specs.Values.{PrefixValue}
use Rattle.station_doors.specs.Allowed.{unused}
use Rattle.station_doors.proofs.allowed.Allowed.add.Goals as goal

pub invariant_of-self : goal.invariant_of-self
invariant_of-self c =
    let xs = c.self.inside.prefixes in
    let n = c.self.inside.count in
    let p = c.args.prefix in
    let inv = c.self.invariant in
    let long : length (take n xs) ≡ n = length-take-le n xs (omega (arith, inv.0, inv.1)) in
    let room : n < 32 = omega (arith, long, ap length c.self.view_is, c.requires) in
    let rest = replicate (32 - (n + 1)) unused in
    let left : 32 - n ≡ 1 + (32 - (n + 1)) = omega (arith, room) in
    let split : replicate (32 - n) unused ≡ unused ∷ rest = ap (λ (k : ℕ). replicate k unused) left ∙ sym (replicate-append-replicate 1 (32 - (n + 1)) unused) in
    let whole : xs ≡ take n xs ++ unused ∷ rest = inv.2 ∙ ap (λ (l : List PrefixValue). take n xs ++ l) split in
    let new : slice_set xs n p ≡ take n xs ++ p ∷ rest = ap (λ (l : List PrefixValue). slice_set l n p) whole ∙ set_at (take n xs) unused rest p n long in
    let first : take (n + 1) (slice_set xs n p) ≡ take n xs ++ p ∷ [] = take-set_at xs n (n + 1) p refl (omega (arith, room, inv.1)) in
    (omega (arith, room), length-set xs n p ∙ inv.1, new ∙ sym (ap (λ (l : List PrefixValue). l ++ rest) first ∙ append_assoc (take n xs) (p ∷ []) rest))
