-- A text writes one address, and one prefix, at most.
use Rattle.std.specs.Option.{IfSome}
use Rattle.std.proofs.Common.{◌≡◌, ℕ, List, Option, None, Some, sym, ap, subst, ◌∙◌}
use Rattle.std.proofs.NetLemmas.Theorems.{IsIpv4Text_unique, IsIpv6Text_unique}
use Rattle.std.specs.Net.Addr.{octets_of}
use Rattle.std.specs.declared.net.ipv4_addr.Ipv4Addr.{Ipv4Addr}
use Rattle.std.specs.declared.net.ipv6_addr.Ipv6Addr.{Ipv6Addr}
use Rattle.bmp_specs.specs.declared.wire.Family.{Family}
use Rattle.bmp_specs.specs.declared.wire.Family.TheVariants.{V4, V6}
use Rattle.bmp_specs.specs.Address.{prefix_at}
use Rattle.bmp_specs.specs.AddressText.{IsTextIn, IsAddressText}
use Rattle.bmp_specs.specs.NumberText.{IsNumberUpTo}
use Rattle.bmp_specs.specs.Prefix.{padded}
use Rattle.bmp_specs.specs.PrefixText.{IsPrefixText}
use Rattle.bmp_specs.specs.Values.{AddressValue, PrefixValue}
use Rattle.ip_prefix.proofs.V4Text.{v4_to}
use Rattle.ip_prefix.proofs.V6Text.{v6_to}
use Rattle.ip_prefix.proofs.PrefixReading.{same_family_in, same_number, same_cut}

v4_one : (text a b : List ℕ) → IsTextIn V4 text a → IsTextIn V4 text b → a ≡ b
v4_one text a b (m, is_m, p) (n, is_n, q) =
    let x : Ipv4Addr = record { octets = m } in
    let y : Ipv4Addr = record { octets = n } in
    p ∙ ap (λ (v : Ipv4Addr). padded v.octets) (IsIpv4Text_unique text x y (v4_to text m is_m) (v4_to text n is_n)) ∙ sym q

v6_one : (text a b : List ℕ) → IsTextIn V6 text a → IsTextIn V6 text b → a ≡ b
v6_one text a b (m, is_m, p) (n, is_n, q) =
    let x : Ipv6Addr = record { segments = m } in
    let y : Ipv6Addr = record { segments = n } in
    p ∙ ap (λ (v : Ipv6Addr). octets_of v.segments) (IsIpv6Text_unique text x y (v6_to text m is_m) (v6_to text n is_n)) ∙ sym q

in_family_one : (family : Family) (text a b : List ℕ) → IsTextIn family text a → IsTextIn family text b → a ≡ b
in_family_one V4 text a b p q = v4_one text a b p q
in_family_one V6 text a b p q = v6_one text a b p q

pub address_one : (text : List ℕ) (a b : AddressValue) → IsAddressText text a → IsAddressText text b → a ≡ b
address_one text a b p q =
    let family : a.family ≡ b.family = same_family_in a.family b.family text a.octets b.octets p q in
    let octets : a.octets ≡ b.octets = in_family_one b.family text a.octets b.octets (subst (λ (f : Family). IsTextIn f text a.octets) family p) q in
    ap (λ (f : Family). let v : AddressValue = record { family = f; octets = a.octets } in v) family ∙ ap (λ (os : List ℕ). let v : AddressValue = record { family = b.family; octets = os } in v) octets

pub prefix_one : (text : List ℕ) (p q : PrefixValue) → IsPrefixText text p → IsPrefixText text q → p ≡ q
prefix_one text p q is_p is_q =
    let cut = same_cut text p q is_p is_q in
    let address : is_p.address ≡ is_q.address = address_one is_q.front is_p.address is_q.address (subst (λ (l : List ℕ). IsAddressText l is_p.address) cut.0 is_p.is_address) is_q.is_address in
    let bits : is_p.bits ≡ is_q.bits = same_number is_q.back is_p.bits is_q.bits (subst (λ (l : List ℕ). IsNumberUpTo 4294967295 l is_p.bits) cut.1 is_p.is_number) is_q.is_number in
    is_p.value ∙ ap (λ (a : AddressValue). prefix_at a is_p.bits) address ∙ ap (λ (n : ℕ). prefix_at is_q.address n) bits ∙ sym is_q.value

pub address_only : (text : List ℕ) (r : Option AddressValue) → IfSome r (λ a. IsAddressText text a) → IfSome r (λ a. (b : AddressValue) → IsAddressText text b → b ≡ a)
address_only text None is = tt
address_only text (Some a) is = λ b is_b. address_one text b a is_b is

pub prefix_only : (text : List ℕ) (r : Option PrefixValue) → IfSome r (λ p. IsPrefixText text p) → IfSome r (λ p. (q : PrefixValue) → IsPrefixText text q → q ≡ p)
prefix_only text None is = tt
prefix_only text (Some p) is = λ q is_q. prefix_one text q p is_q is
