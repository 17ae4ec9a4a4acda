-- How many entries the lanes of a cut have together: where that is below the numbers of 64 bits, and where a publication
-- never waits for it.
use Rattle.std.proofs.Common.{ℕ, ◌-◌, ◌^◌, ◌<◌, ◌≤◌, List, length, get_or, set, arith, length-set}
use Rattle.std.proofs.lemmas.List.Elements.{All-set}
use Rattle.std.proofs.lemmas.List.Sums.{sum_by-set, sum_by-le}
use Rattle.std.specs.Prelude.{All}
use Rattle.cut_publisher.specs.declared.history.Event.{Event}
use Rattle.cut_publisher.specs.History.{part}
use Rattle.cut_publisher.specs.Cuts.{most_passes, total, Stands}

module _ {S : Type 0} where
  -- The sum of up to 64 lanes is a number of 64 bits, whatever each has up to 2^57.
  pub few_lanes_fit : (c : List (S × ℕ)) → length c ≤ 64 → All (λ (x : S × ℕ). x.1 ≤ 2 ^ 57) c → total c < 2 ^ 64
  few_lanes_fit c few room =
      let most = sum_by-le (λ (x : S × ℕ). x.1) (2 ^ 57) c room in
      omega (arith, most, few)

  -- As many lanes as there may be, of fewer than 2^53 entries each, never have as many as a publication waits at.
  pub usual_lanes_never_wait : (c : List (S × ℕ)) → length c ≤ most_passes → All (λ (x : S × ℕ). x.1 < 2 ^ 53) c → total c < 2 ^ 63
  usual_lanes_never_wait c few small =
      let most = sum_by-le (λ (x : S × ℕ). x.1) (2 ^ 53 - 1) c (λ k d lt. omega (arith, small k d lt)) in
      omega (arith, most, few)

module _ {S E : Type 0} (stands : S → List E → Type 0) where
  -- Nor do up to 64 lanes, where one has fewer than 2^57 entries, so that it may publish one more.
  pub few_lanes_never_wait : (c : List (S × ℕ)) (h : List (Event E)) (lane : ℕ) (d : S × ℕ) → Stands stands c h → length c ≤ 64 → lane < length c → length (part lane h) < 2 ^ 57 → total c < 2 ^ 63
  few_lanes_never_wait c h lane d s few lt more =
      let full : S × ℕ = (d.0, 2 ^ 57) in
      let all = All-set (λ (x : S × ℕ). x.1 ≤ 2 ^ 57) c lane full (omega arith) s.room in
      let most = sum_by-le (λ (x : S × ℕ). x.1) (2 ^ 57) (set c lane full) all in
      let sums = sum_by-set (λ (x : S × ℕ). x.1) c lane full d lt in
      omega (arith, most, sums, few, more, (s.lanes lane d lt).count, length-set c lane full)
