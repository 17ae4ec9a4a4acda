-- The spots of keys, by which the index by origin knows them.
use Rattle.std.proofs.Common.{◌≡◌, ℕ, ◌*◌, ◌/◌, ◌<◌, ◌≤◌, [], ◌∷◌, List, get_or, length, take, sym, ap, ◌∙◌, subst, arith}
use Rattle.std.specs.declared.cmp.Ordering.{Ordering}
use Rattle.std.specs.declared.cmp.Ordering.TheVariants.{Less, Equal, Greater}
use Rattle.std.specs.Cmp.{ranks, nat_cmp_is}
use Rattle.std.specs.Cmp.Lexicographic.{slice_cmp}
use Rattle.std.specs.Int.{w32, w64, from_be_bytes}
use Rattle.std.specs.Option.{option_cmp}
use Rattle.std.specs.Ordering.{nat_cmp, ordering_then, MatchOrdering}
use Rattle.std.specs.Slice.Scan.{big_endian}
use Rattle.bmp_specs.specs.declared.wire.Family.{Family}
use Rattle.bmp_specs.specs.declared.wire.Family.TheVariants.{V4, V6}
use Rattle.bmp_specs.specs.Orders.{family_number, nlri_cmp}
use Rattle.bmp_specs.specs.Address.{FitsFamily}
use Rattle.bmp_specs.specs.Prefix.{padded}
use Rattle.bmp_specs.specs.Values.{NlriValue}
use Rattle.ip_prefix.proofs.OctetsOrder.{by_front}
use Rattle.route_runs.specs.Nlri.{IsNlriOf}

-- the octets of an IPv4 address as one number
abbrev address_of : NlriValue → ℕ
address_of n = from_be_bytes w32 n.prefix.address.octets

less_than : (a b : ℕ) → nat_cmp a b ≡ Less → a < b
less_than a b e = by (nat_cmp a b) e (ranks a b)
  where
    by : (o : Ordering) → o ≡ Less → MatchOrdering o (a < b) (a ≡ b) (b < a) → a < b
    by Less e l = l
    by Equal e l = absurd cc
    by Greater e l = absurd cc

-- octets that come first make an NLRI come first, among those of a family
first_octets : (x y : NlriValue) → x.prefix.address.family ≡ y.prefix.address.family → slice_cmp nat_cmp x.prefix.address.octets y.prefix.address.octets ≡ Less → nlri_cmp x y ≡ Less
first_octets x y same less =
    let tied : nat_cmp (family_number x.prefix.address.family) (family_number y.prefix.address.family) ≡ Equal = sym (nat_cmp_is _ _ Equal (ap family_number same)) in
    λ i. ordering_then (ordering_then (ordering_then (tied i) (less i)) (nat_cmp x.prefix.bits y.prefix.bits)) (option_cmp nat_cmp x.id y.id)

-- the first eight octets as one number
pub front_word : (os : List ℕ) → 8 ≤ length os → from_be_bytes w64 os ≡ big_endian 0 (take 8 os)
front_word [] many = absurd (omega arith)
front_word (a ∷ []) many = absurd (omega arith)
front_word (a ∷ b ∷ []) many = absurd (omega arith)
front_word (a ∷ b ∷ c ∷ []) many = absurd (omega arith)
front_word (a ∷ b ∷ c ∷ d ∷ []) many = absurd (omega arith)
front_word (a ∷ b ∷ c ∷ d ∷ e ∷ []) many = absurd (omega arith)
front_word (a ∷ b ∷ c ∷ d ∷ e ∷ f ∷ []) many = absurd (omega arith)
front_word (a ∷ b ∷ c ∷ d ∷ e ∷ f ∷ g ∷ []) many = absurd (omega arith)
front_word (a ∷ b ∷ c ∷ d ∷ e ∷ f ∷ g ∷ h ∷ os) many = omega arith

-- the octets of an IPv4 address as one number, before four zeros
pub front_half : (os : List ℕ) → 8 ≤ length os → FitsFamily V4 os → from_be_bytes w32 os * 4294967296 ≡ big_endian 0 (take 8 os)
front_half [] many used = absurd (omega arith)
front_half (a ∷ []) many used = absurd (omega arith)
front_half (a ∷ b ∷ []) many used = absurd (omega arith)
front_half (a ∷ b ∷ c ∷ []) many used = absurd (omega arith)
front_half (a ∷ b ∷ c ∷ d ∷ []) many used = absurd (omega arith)
front_half (a ∷ b ∷ c ∷ d ∷ e ∷ []) many used = absurd (omega arith)
front_half (a ∷ b ∷ c ∷ d ∷ e ∷ f ∷ []) many used = absurd (omega arith)
front_half (a ∷ b ∷ c ∷ d ∷ e ∷ f ∷ g ∷ []) many used = absurd (omega arith)
front_half (a ∷ b ∷ c ∷ d ∷ e ∷ f ∷ g ∷ h ∷ os) many used =
    let at : (k : ℕ) → get_or (a ∷ b ∷ c ∷ d ∷ e ∷ f ∷ g ∷ h ∷ os) k 0 ≡ get_or (padded (a ∷ b ∷ c ∷ d ∷ [])) k 0 = λ k. ap (λ l. get_or l k 0) used in
    let p : e ≡ 0 = at 4 in
    let q : f ≡ 0 = at 5 in
    let r : g ≡ 0 = at 6 in
    let s : h ≡ 0 = at 7 in
    omega (arith, p, q, r, s)

-- the upper half of an IPv6 address
abbrev pub spot6_of : NlriValue → ℕ
spot6_of n = from_be_bytes w64 n.prefix.address.octets

pub spots6_rise : (x y : NlriValue) → IsNlriOf V6 x → IsNlriOf V6 y → nat_cmp (spot6_of x) (spot6_of y) ≡ Less → nlri_cmp x y ≡ Less
spots6_rise x y p q e =
    let less : spot6_of x < spot6_of y = less_than (spot6_of x) (spot6_of y) e in
    let os = x.prefix.address.octets in
    let ts = y.prefix.address.octets in
    let a = p.nlri.prefix.address in
    let b = q.nlri.prefix.address in
    first_octets x y (p.family ∙ sym q.family)
    (sym (by_front os ts a.len b.len a.bytes b.bytes (spot6_of x) (spot6_of y) (front_word os (omega (arith, a.len))) (front_word ts (omega (arith, b.len))) (λ s. omega (arith, less, s))) ∙ e)

-- the first 20 bits of an IPv4 address
abbrev pub spot4_of : NlriValue → ℕ
spot4_of n = address_of n / 4096

pub spots4_rise : (x y : NlriValue) → IsNlriOf V4 x → IsNlriOf V4 y → nat_cmp (spot4_of x) (spot4_of y) ≡ Less → nlri_cmp x y ≡ Less
spots4_rise x y p q e =
    let part : spot4_of x < spot4_of y = less_than _ _ e in
    let less : address_of x < address_of y = omega (arith, part) in
    let os = x.prefix.address.octets in
    let ts = y.prefix.address.octets in
    let a = p.nlri.prefix.address in
    let b = q.nlri.prefix.address in
    let first : FitsFamily V4 os = subst (λ (f : Family). FitsFamily f os) p.family a.used in
    let second : FitsFamily V4 ts = subst (λ (f : Family). FitsFamily f ts) q.family b.used in
    first_octets x y (p.family ∙ sym q.family)
    (sym (by_front os ts a.len b.len a.bytes b.bytes (address_of x * 4294967296) (address_of y * 4294967296) (front_half os (omega (arith, a.len)) first) (front_half ts (omega (arith, b.len)) second) (λ s. omega (arith, less, s)))
    ∙ sym (nat_cmp_is (address_of x * 4294967296) (address_of y * 4294967296) Less (omega (arith, less))))
