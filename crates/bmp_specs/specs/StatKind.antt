-- Which statistic it is: its "Stat Type" and the family that it counts (RFC 7854, section 4.8).
use Rattle.std.specs.Prelude.{ℕ}
use Rattle.std.specs.declared.cmp.Ordering.{Ordering}
use Rattle.std.specs.Ordering.{nat_cmp, on, then_cmp}
use Rattle.bmp_specs.specs.Values.{StatValue}

pub record KindValue : Type 0 where
  pub code : ℕ
  pub afi : ℕ
  pub safi : ℕ

-- by code, then AFI, then SAFI
abbrev pub kind_cmp : KindValue → KindValue → Ordering
kind_cmp = then_cmp (on (λ k. k.code) nat_cmp) (then_cmp (on (λ k. k.afi) nat_cmp) (on (λ k. k.safi) nat_cmp))

abbrev pub kind_of : StatValue → KindValue
kind_of stat = record { code = stat.code; afi = stat.afi; safi = stat.safi }

-- the statistic of a kind with a value
abbrev pub stat_of : KindValue → ℕ → StatValue
stat_of kind value = record { code = kind.code; afi = kind.afi; safi = kind.safi; value = value }
