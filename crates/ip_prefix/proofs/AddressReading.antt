-- Reading an address by std, which takes more texts of IPv6 than this grammar.
use Rattle.std.proofs.Common.{◌≡◌, ◌≢◌, ℕ, List, refl, sym, subst, arith, Contains}
use Rattle.std.proofs.lemmas.List.Elements.{All-contains}
use Rattle.std.specs.Net.Addr.{octets_of}
use Rattle.std.specs.Net.Grammar.{IsDotted, IsColonHex}
use Rattle.bmp_specs.specs.declared.wire.Family.{Family}
use Rattle.bmp_specs.specs.declared.wire.Family.TheVariants.{V4, V6}
use Rattle.bmp_specs.specs.AddressText.{IsTextIn, IsAddressText}
use Rattle.bmp_specs.specs.Prefix.{padded}
use Rattle.bmp_specs.specs.Values.{AddressValue}
use Rattle.ip_prefix.proofs.V4Text.{Lacks, v4_from, v4_to, v4_has_dot, v4_lacks}
use Rattle.ip_prefix.proofs.V6Text.{v6_from, v6_to, v6_lacks}

pub v4_reads : (text numbers : List ℕ) (a : AddressValue) → IsDotted text numbers → a.family ≡ V4 → a.octets ≡ padded numbers → IsAddressText text a
v4_reads text numbers a is family octets = subst (λ (f : Family). IsTextIn f text a.octets) (sym family) (numbers, v4_from text numbers is, octets)

pub v6_reads : (text groups : List ℕ) (a : AddressValue) → (Contains text 46 → ⊥) → IsColonHex text groups → a.family ≡ V6 → a.octets ≡ octets_of groups → IsAddressText text a
v6_reads text groups a lacks is family octets = subst (λ (f : Family). IsTextIn f text a.octets) (sym family) (groups, v6_from text groups lacks is, octets)

pub no_dot : (text groups : List ℕ) → Contains text 46 → Lacks 46 text → ⊥
no_dot text groups has lacks = All-contains (λ b. b ≢ 46) text 46 lacks has refl

v4_none_in : (family : Family) (text octets : List ℕ) → Contains text 46 → ((numbers : List ℕ) → IsDotted text numbers → ⊥) → IsTextIn family text octets → ⊥
v4_none_in V4 text octets has none (numbers, is, _) = none numbers (v4_to text numbers is)
v4_none_in V6 text octets has none (groups, is, _) = no_dot text groups has (v6_lacks 46 (omega arith) (λ e. omega (arith, e)) text groups is)

pub v4_none : (text : List ℕ) → Contains text 46 → ((numbers : List ℕ) → IsDotted text numbers → ⊥) → (a : AddressValue) → IsAddressText text a → ⊥
v4_none text has none a is = v4_none_in a.family text a.octets has none is

v6_none_in : (family : Family) (text octets : List ℕ) → (Contains text 46 → ⊥) → ((groups : List ℕ) → IsColonHex text groups → ⊥) → IsTextIn family text octets → ⊥
v6_none_in V4 text octets lacks none (numbers, is, _) = lacks (v4_has_dot text numbers (v4_to text numbers is))
v6_none_in V6 text octets lacks none (groups, is, _) = none groups (v6_to text groups is)

pub v6_none : (text : List ℕ) → (Contains text 46 → ⊥) → ((groups : List ℕ) → IsColonHex text groups → ⊥) → (a : AddressValue) → IsAddressText text a → ⊥
v6_none text lacks none a is = v6_none_in a.family text a.octets lacks none is

slash_lacks_in : (family : Family) (text octets : List ℕ) → IsTextIn family text octets → Lacks 47 text
slash_lacks_in V4 text octets (numbers, is, _) = v4_lacks 47 (omega arith) (λ e. omega (arith, e)) text numbers (v4_to text numbers is)
slash_lacks_in V6 text octets (groups, is, _) = v6_lacks 47 (omega arith) (λ e. omega (arith, e)) text groups is

-- no slash stands in an address
pub slash_lacks : (text : List ℕ) (a : AddressValue) → IsAddressText text a → Lacks 47 text
slash_lacks text a is = slash_lacks_in a.family text a.octets is
