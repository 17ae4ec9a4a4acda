-- What follows the Per-Peer Header in a Statistics Report (RFC 7854, section 4.8): a count, and as many TLVs.
use Rattle.std.specs.Prelude.{◌≡◌, ℕ, ◌≤◌, ◌==◌, if◌then◌else◌, List, length, drop, slice_index, Option, Some, None, is_none, option_and_then, count_by}
use Rattle.std.specs.List.{filter_map}
use Rattle.byteorder.specs.Endian.{big_number}
use Rattle.bmp_specs.specs.declared.registry.Shape.{Shape}
use Rattle.bmp_specs.specs.declared.registry.Shape.TheVariants.{Counter32, Gauge64, FamilyGauge64, Exact, Multiple, Free}
use Rattle.bmp_specs.specs.Registries.{first_row, statistics_types}
use Rattle.bmp_specs.specs.Tlv.{AreTlvs}
use Rattle.bmp_specs.specs.Values.{StatisticsValue, StatValue, TlvValue}

-- a 32-bit counter, a 64-bit gauge, and "a 2-byte AFI and 1-byte SAFI, followed by a 64-bit Gauge"
abbrev pub value_in : Shape → ℕ → List ℕ → Option StatValue
value_in Counter32 code value = if length value == 4 then Some (record { code = code; afi = 0; safi = 0; value = big_number 4 value }) else None
value_in Gauge64 code value = if length value == 8 then Some (record { code = code; afi = 0; safi = 0; value = big_number 8 value }) else None
value_in FamilyGauge64 code value = if length value == 11 then Some (record { code = code; afi = big_number 2 value; safi = slice_index value 2; value = big_number 8 (drop 3 value) }) else None
value_in (Exact count) code value = None
value_in (Multiple count) code value = None
value_in Free code value = None

-- the statistic that a TLV has: its type is registered, and its length is that of the type
abbrev pub statistic_of : TlvValue → Option StatValue
statistic_of t = option_and_then (λ row. value_in row.shape t.kind t.value) (first_row t.kind statistics_types)

-- "Stats Count (4 bytes)", and so many TLVs; those without a statistic are passed over
pub record IsStatistics (rest : List ℕ) (s : StatisticsValue) : Type 0 where
  pub header : 4 ≤ length rest
  pub tlvs : List TlvValue
  pub are : AreTlvs (drop 4 rest) tlvs
  pub count_is : big_number 4 rest ≡ length tlvs
  pub stats_are : s.stats ≡ filter_map statistic_of tlvs
  pub unread_is : s.unread ≡ count_by (λ t. is_none (statistic_of t)) tlvs
