-- What a wrong generator would draw, and that it isn't what the contract asks for.
use Rattle.std.proofs.Common.{◌≡◌, refl, arith}
use Rattle.rand_pcg.specs.Lcg.{state_after}
use Rattle.drill_streams.specs.Drawn.{word_at}

-- Seed 42 on lane 54 begins as PCG's own demonstration does, with 0xa15c02b7, and then 0x7b47f409.
as_pcg_does : word_at 42 54 0 ≡ 0xa15c02b7
unfolding state_after
as_pcg_does = refl

and_goes_on_as_it_does : word_at 42 54 1 ≡ 0x7b47f409
unfolding state_after
and_goes_on_as_it_does = refl

-- With the lane for the seed and the seed for the lane another word comes first.
the_seed_is_not_the_lane : word_at 42 54 0 ≡ 0x3fd4c3ba → ⊥
the_seed_is_not_the_lane is = omega (arith, as_pcg_does, is)
