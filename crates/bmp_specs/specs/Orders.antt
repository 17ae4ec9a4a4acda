-- The orders of addresses, prefixes, routes, peers and views. No RFC sets them; they are the orders of our replies.
use Rattle.std.specs.Prelude.{ℕ}
use Rattle.std.specs.declared.cmp.Ordering.{Ordering}
use Rattle.std.specs.Ordering.{nat_cmp, on, then_cmp}
use Rattle.std.specs.Option.{option_cmp}
use Rattle.std.specs.Cmp.Lexicographic.{slice_cmp}
use Rattle.bmp_specs.specs.declared.wire.Family.{Family}
use Rattle.bmp_specs.specs.declared.wire.Family.TheVariants.{V4, V6}
use Rattle.bmp_specs.specs.declared.peers.View.{View}
use Rattle.bmp_specs.specs.declared.peers.View.TheVariants.{InPre, InPost, OutPre, OutPost, Loc}
use Rattle.bmp_specs.specs.Values.{AddressValue, PrefixValue, NlriValue, KeyValue}

-- IPv4 before IPv6
abbrev pub family_number : Family → ℕ
family_number V4 = 0
family_number V6 = 1

abbrev pub family_cmp : Family → Family → Ordering
family_cmp = on family_number nat_cmp

-- by family, then by bytes
abbrev pub address_cmp : AddressValue → AddressValue → Ordering
address_cmp = then_cmp (on (λ a. a.family) family_cmp) (on (λ a. a.octets) (slice_cmp nat_cmp))

-- by address, then by length
abbrev pub prefix_cmp : PrefixValue → PrefixValue → Ordering
prefix_cmp = then_cmp (on (λ p. p.address) address_cmp) (on (λ p. p.bits) nat_cmp)

-- by prefix, then by identifier; an identifier that isn't there comes before every one that is
abbrev pub nlri_cmp : NlriValue → NlriValue → Ordering
nlri_cmp = then_cmp (on (λ n. n.prefix) prefix_cmp) (on (λ n. n.id) (option_cmp nat_cmp))

-- by kind, then distinguisher, then address
abbrev pub key_cmp : KeyValue → KeyValue → Ordering
key_cmp =
    then_cmp (on (λ k. k.kind) nat_cmp)
    (then_cmp (on (λ k. k.distinguisher) nat_cmp) (on (λ k. k.address) address_cmp))

-- Adj-RIB-In, Adj-RIB-Out, each before and after policy, and then Loc-RIB
abbrev pub view_number : View → ℕ
view_number InPre = 0
view_number InPost = 1
view_number OutPre = 2
view_number OutPost = 3
view_number Loc = 4

abbrev pub view_cmp : View → View → Ordering
view_cmp = on view_number nat_cmp
