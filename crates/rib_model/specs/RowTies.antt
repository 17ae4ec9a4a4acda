-- Rows are equal, as `==` is derived, exactly where their order ties.
use Rattle.std.specs.Prelude.{◌≡◌, ℕ, nat_eq, Option, None, Some, refl}
use Rattle.std.specs.Ordering.{nat_cmp, is_eq, ordering_then}
use Rattle.std.specs.Option.{option_cmp, option_eq}
use Rattle.std.specs.Cmp.{both_tied, unsigned_ties}
use Rattle.std.specs.Cmp.Lexicographic.{texts_ties}
use Rattle.bmp_frames.specs.contracts.key.PeerKeyPartialEq.TheImpl as same_key
use Rattle.ip_prefix.specs.contracts.address.AddrPartialEq.TheImpl as same_address
use Rattle.ip_prefix.specs.contracts.prefixes.NlriPartialEq.TheImpl as same_nlri
use Rattle.ip_prefix.specs.contracts.prefixes.PrefixPartialEq.TheImpl as same_prefix
use Rattle.rib_model.specs.contracts.row.RowKeyPartialEq.TheImpl as same_row
use Rattle.bmp_specs.specs.contracts.peers.ViewPartialEq.TheImpl as same_view
use Rattle.bmp_specs.specs.contracts.wire.FamilyPartialEq.TheImpl as same_family
use Rattle.bmp_specs.specs.declared.peers.View.{View}
use Rattle.bmp_specs.specs.declared.peers.View.TheVariants.{InPre, InPost, OutPre, OutPost, Loc}
use Rattle.bmp_specs.specs.declared.wire.Family.{Family}
use Rattle.bmp_specs.specs.declared.wire.Family.TheVariants.{V4, V6}
use Rattle.bmp_specs.specs.Orders.{address_cmp, family_cmp, key_cmp, nlri_cmp, prefix_cmp, view_cmp}
use Rattle.bmp_specs.specs.Rows.{RowKeyValue}
use Rattle.bmp_specs.specs.Values.{AddressValue, PrefixValue, NlriValue, KeyValue}
use Rattle.bmp_specs.specs.TableRows.{row_key_cmp}

view_tied : (a b : View) → same_view.ghosts.eq a b ≡ is_eq (view_cmp a b)
view_tied InPre InPre = refl
view_tied InPre InPost = refl
view_tied InPre OutPre = refl
view_tied InPre OutPost = refl
view_tied InPre Loc = refl
view_tied InPost InPre = refl
view_tied InPost InPost = refl
view_tied InPost OutPre = refl
view_tied InPost OutPost = refl
view_tied InPost Loc = refl
view_tied OutPre InPre = refl
view_tied OutPre InPost = refl
view_tied OutPre OutPre = refl
view_tied OutPre OutPost = refl
view_tied OutPre Loc = refl
view_tied OutPost InPre = refl
view_tied OutPost InPost = refl
view_tied OutPost OutPre = refl
view_tied OutPost OutPost = refl
view_tied OutPost Loc = refl
view_tied Loc InPre = refl
view_tied Loc InPost = refl
view_tied Loc OutPre = refl
view_tied Loc OutPost = refl
view_tied Loc Loc = refl

family_tied : (a b : Family) → same_family.ghosts.eq a b ≡ is_eq (family_cmp a b)
family_tied V4 V4 = refl
family_tied V4 V6 = refl
family_tied V6 V4 = refl
family_tied V6 V6 = refl

id_tied : (a b : Option ℕ) → option_eq nat_eq a b ≡ is_eq (option_cmp nat_cmp a b)
id_tied None None = refl
id_tied None (Some n) = refl
id_tied (Some m) None = refl
id_tied (Some m) (Some n) = unsigned_ties m n

address_tied : (a b : AddressValue) → same_address.ghosts.eq a b ≡ is_eq (address_cmp a b)
address_tied a b = both_tied _ _ (family_cmp a.family b.family) _ (family_tied a.family b.family) (texts_ties a.octets b.octets)

prefix_tied : (p q : PrefixValue) → same_prefix.ghosts.eq p q ≡ is_eq (prefix_cmp p q)
prefix_tied p q = both_tied _ _ (address_cmp p.address q.address) (nat_cmp p.bits q.bits) (address_tied p.address q.address) (unsigned_ties p.bits q.bits)

key_tied : (k j : KeyValue) → same_key.ghosts.eq k j ≡ is_eq (key_cmp k j)
key_tied k j =
    both_tied _ _ (nat_cmp k.kind j.kind) (ordering_then (nat_cmp k.distinguisher j.distinguisher) (address_cmp k.address j.address)) (unsigned_ties k.kind j.kind)
    (both_tied _ _ (nat_cmp k.distinguisher j.distinguisher) (address_cmp k.address j.address) (unsigned_ties k.distinguisher j.distinguisher) (address_tied k.address j.address))

nlri_tied : (m n : NlriValue) → same_nlri.ghosts.eq m n ≡ is_eq (nlri_cmp m n)
nlri_tied m n = both_tied _ _ (prefix_cmp m.prefix n.prefix) (option_cmp nat_cmp m.id n.id) (prefix_tied m.prefix n.prefix) (id_tied m.id n.id)

pub row_tied : (a b : RowKeyValue) → same_row.ghosts.eq a b ≡ is_eq (row_key_cmp a b)
row_tied a b =
    both_tied _ _ (key_cmp a.key b.key) (ordering_then (view_cmp a.view b.view) (nlri_cmp a.nlri b.nlri)) (key_tied a.key b.key)
    (both_tied _ _ (view_cmp a.view b.view) (nlri_cmp a.nlri b.nlri) (view_tied a.view b.view) (nlri_tied a.nlri b.nlri))
