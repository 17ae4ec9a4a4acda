-- The orders of replies are strict and total: of two values that differ exactly one comes first.
use Rattle.std.proofs.Common.{◌≡◌, ℕ, cond, eqb, Option, Some, None, ◌⊎◌, inl, inr, refl, sym, ◌∙◌, ap, subst, arith}
use Rattle.std.specs.Option.{option_cmp}
use Rattle.std.specs.declared.cmp.Ordering.{Ordering}
use Rattle.std.specs.declared.cmp.Ordering.TheVariants.{Less, Equal, Greater}
use Rattle.std.specs.Ordering.{nat_cmp, ordering_then}
use Rattle.std.specs.Cmp.{IsTotalOrder}
use Rattle.std.specs.Cmp.Lexicographic.{slice_cmp, options_total}
use Rattle.std.proofs.lemmas.Cmp.{tied_itself, nat_cmp_total, nat_list_cmp_total, on_total, then_total}
use Rattle.std.proofs.lemmas.Map.Lookups.{CmpEqualImpliesEq, exact_unsigned, exact_bytes}
use Rattle.bmp_specs.specs.declared.wire.Family.{Family}
use Rattle.bmp_specs.specs.declared.wire.Family.TheVariants.{V4, V6}
use Rattle.bmp_specs.specs.declared.peers.View.{View}
use Rattle.bmp_specs.specs.declared.peers.View.TheVariants.{InPre, InPost, OutPre, OutPost, Loc}
use Rattle.bmp_specs.specs.Values.{AddressValue, PrefixValue, NlriValue, KeyValue}
use Rattle.bmp_specs.specs.Rows.{RowKeyValue}
use Rattle.bmp_specs.specs.Orders.{family_number, family_cmp, view_number, view_cmp, address_cmp, prefix_cmp, nlri_cmp, key_cmp}
use Rattle.bmp_specs.specs.StatKind.{KindValue, kind_cmp}
use Rattle.bmp_specs.specs.TableRows.{row_key_cmp}

-- two comparisons in a row tie exactly where both do
pub both_tie : (a b : Ordering) → ordering_then a b ≡ Equal → (a ≡ Equal) × (b ≡ Equal)
both_tie Less b e = absurd cc
both_tie Equal b e = (refl, e)
both_tie Greater b e = absurd cc

pub family_total : IsTotalOrder family_cmp
family_total = on_total family_number nat_cmp_total

one_family : (a b : Family) → family_number a ≡ family_number b → a ≡ b
one_family V4 V4 e = refl
one_family V4 V6 e = absurd (omega arith)
one_family V6 V4 e = absurd (omega arith)
one_family V6 V6 e = refl

pub family_exact : CmpEqualImpliesEq family_cmp
family_exact a b e = one_family a b (exact_unsigned (family_number a) (family_number b) e)

pub view_total : IsTotalOrder view_cmp
view_total = on_total view_number nat_cmp_total

-- the view of this rank
abbrev view_at : ℕ → View
view_at n = cond (eqb n 0) InPre (cond (eqb n 1) InPost (cond (eqb n 2) OutPre (cond (eqb n 3) OutPost Loc)))

ranked : (v : View) → view_at (view_number v) ≡ v
ranked InPre = refl
ranked InPost = refl
ranked OutPre = refl
ranked OutPost = refl
ranked Loc = refl

pub view_exact : CmpEqualImpliesEq view_cmp
view_exact a b e = sym (ranked a) ∙ ap view_at (exact_unsigned (view_number a) (view_number b) e) ∙ ranked b

pub address_total : IsTotalOrder address_cmp
address_total = then_total (on_total (λ (a : AddressValue). a.family) family_total) (on_total (λ (a : AddressValue). a.octets) nat_list_cmp_total)

pub address_exact : CmpEqualImpliesEq address_cmp
address_exact a b e =
    let tie = both_tie (family_cmp a.family b.family) (slice_cmp nat_cmp a.octets b.octets) e in
    let family = family_exact a.family b.family tie.0 in
    let octets = exact_bytes a.octets b.octets tie.1 in
    λ i. record { family = family i; octets = octets i }

pub prefix_total : IsTotalOrder prefix_cmp
prefix_total = then_total (on_total (λ (p : PrefixValue). p.address) address_total) (on_total (λ (p : PrefixValue). p.bits) nat_cmp_total)

pub prefix_exact : CmpEqualImpliesEq prefix_cmp
prefix_exact p q e =
    let tie = both_tie (address_cmp p.address q.address) (nat_cmp p.bits q.bits) e in
    let address = address_exact p.address q.address tie.0 in
    let bits = exact_unsigned p.bits q.bits tie.1 in
    λ i. record { address = address i; bits = bits i }

pub one_id : (a b : Option ℕ) → option_cmp nat_cmp a b ≡ Equal → a ≡ b
one_id None None e = refl
one_id None (Some n) e = absurd cc
one_id (Some m) None e = absurd cc
one_id (Some m) (Some n) e = ap Some (exact_unsigned m n e)

pub nlri_total : IsTotalOrder nlri_cmp
nlri_total = then_total (on_total (λ (n : NlriValue). n.prefix) prefix_total) (on_total (λ (n : NlriValue). n.id) (options_total nat_cmp_total))

pub nlri_exact : CmpEqualImpliesEq nlri_cmp
nlri_exact a b e =
    let tie = both_tie (prefix_cmp a.prefix b.prefix) (option_cmp nat_cmp a.id b.id) e in
    let prefix = prefix_exact a.prefix b.prefix tie.0 in
    let id = one_id a.id b.id tie.1 in
    λ i. record { prefix = prefix i; id = id i }

pub key_total : IsTotalOrder key_cmp
key_total = then_total (on_total (λ (k : KeyValue). k.kind) nat_cmp_total)
    (then_total (on_total (λ (k : KeyValue). k.distinguisher) nat_cmp_total) (on_total (λ (k : KeyValue). k.address) address_total))

pub key_exact : CmpEqualImpliesEq key_cmp
key_exact a b e =
    let first = both_tie (nat_cmp a.kind b.kind) (ordering_then (nat_cmp a.distinguisher b.distinguisher) (address_cmp a.address b.address)) e in
    let rest = both_tie (nat_cmp a.distinguisher b.distinguisher) (address_cmp a.address b.address) first.1 in
    let kind = exact_unsigned a.kind b.kind first.0 in
    let distinguisher = exact_unsigned a.distinguisher b.distinguisher rest.0 in
    let address = address_exact a.address b.address rest.1 in
    λ i. record { kind = kind i; distinguisher = distinguisher i; address = address i }

pub row_key_total : IsTotalOrder row_key_cmp
row_key_total = then_total (on_total (λ (p : RowKeyValue). p.key) key_total)
    (then_total (on_total (λ (p : RowKeyValue). p.view) view_total) (on_total (λ (p : RowKeyValue). p.nlri) nlri_total))

pub row_key_exact : CmpEqualImpliesEq row_key_cmp
row_key_exact a b e =
    let first = both_tie (key_cmp a.key b.key) (ordering_then (view_cmp a.view b.view) (nlri_cmp a.nlri b.nlri)) e in
    let rest = both_tie (view_cmp a.view b.view) (nlri_cmp a.nlri b.nlri) first.1 in
    let key = key_exact a.key b.key first.0 in
    let view = view_exact a.view b.view rest.0 in
    let nlri = nlri_exact a.nlri b.nlri rest.1 in
    λ i. record { key = key i; view = view i; nlri = nlri i }

pub kind_total : IsTotalOrder kind_cmp
kind_total = then_total (on_total (λ (k : KindValue). k.code) nat_cmp_total) (then_total (on_total (λ (k : KindValue). k.afi) nat_cmp_total) (on_total (λ (k : KindValue). k.safi) nat_cmp_total))

pub kind_exact : CmpEqualImpliesEq kind_cmp
kind_exact a b e =
    let first = both_tie (nat_cmp a.code b.code) (ordering_then (nat_cmp a.afi b.afi) (nat_cmp a.safi b.safi)) e in
    let rest = both_tie (nat_cmp a.afi b.afi) (nat_cmp a.safi b.safi) first.1 in
    let code = exact_unsigned a.code b.code first.0 in
    let afi = exact_unsigned a.afi b.afi rest.0 in
    let safi = exact_unsigned a.safi b.safi rest.1 in
    λ i. record { code = code i; afi = afi i; safi = safi i }

-- two values are one or not, where an order tells
pub same_or_other : {K : Type 0} (cmp : K → K → Ordering) → IsTotalOrder cmp → CmpEqualImpliesEq cmp → (a b : K) → (a ≡ b) ⊎ ¬ (a ≡ b)
same_or_other {K} cmp total exact a b = go (cmp a b) refl
  where
    apart : (o : Ordering) → cmp a b ≡ o → ¬ (o ≡ Equal) → ¬ (a ≡ b)
    apart o is other same = let e : cmp a b ≡ Equal = subst (λ (k : K). cmp a k ≡ Equal) same (tied_itself total a) in other cc

    go : (o : Ordering) → cmp a b ≡ o → (a ≡ b) ⊎ ¬ (a ≡ b)
    go Less is = inr (apart Less is (λ e. cc))
    go Equal is = inl (exact a b is)
    go Greater is = inr (apart Greater is (λ e. cc))
