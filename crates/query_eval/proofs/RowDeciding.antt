-- What the tests say.
use Rattle.std.proofs.Common.{◌≡◌, ◌≤◌, leb, subst, Decides}
use Rattle.std.specs.declared.cmp.Ordering.{Ordering}
use Rattle.std.specs.declared.cmp.Ordering.TheVariants.{Equal}
use Rattle.std.specs.Ordering.{is_eq, nat_cmp}
use Rattle.std.specs.Cmp.{IsTotalOrder, Equal-is}
use Rattle.std.specs.Cmp.Lexicographic.{slice_cmp}
use Rattle.std.proofs.lemmas.Bool.{leb-true, le-leb}
use Rattle.std.proofs.lemmas.Bool.Decides.{Decides-like, Decides-and}
use Rattle.std.proofs.lemmas.Cmp.{tied_itself, nat_list_cmp_total}
use Rattle.std.proofs.lemmas.Map.Lookups.{CmpEqualImpliesEq, exact_bytes}
use Rattle.bmp_specs.specs.Containment.{HoldsAddress, ContainsPrefix}
use Rattle.bmp_specs.specs.Orders.{family_cmp}
use Rattle.bmp_specs.specs.Prefix.{first_bits}
use Rattle.bmp_specs.specs.Values.{AddressValue, PrefixValue}
use Rattle.bmp_specs.proofs.OrderLaws.{family_total, family_exact}
use Rattle.query_eval.specs.RowRuns.{holds, contains}

-- a test by an order says whether two values are one
module _ {A : Type 0} (cmp : A → A → Ordering) (total : IsTotalOrder cmp) (exact : CmpEqualImpliesEq cmp) where
  pub same_decides : (a b : A) → Decides (is_eq (cmp a b)) (a ≡ b)
  same_decides a b = Decides-like (is_eq (cmp a b)) (exact a b) (λ same. subst (λ (v : A). cmp a v ≡ Equal) same (tied_itself total a)) (Equal-is (cmp a b))

pub holds_decides : (p : PrefixValue) (a : AddressValue) → Decides (holds p a) (HoldsAddress p a)
holds_decides p a =
    let family = same_decides family_cmp family_total family_exact p.address.family a.family in
    let bits = same_decides (slice_cmp nat_cmp) nat_list_cmp_total exact_bytes (first_bits p.bits p.address.octets) (first_bits p.bits a.octets) in
    Decides-like (holds p a) (λ h. record { family = h.0; agree = h.1 }) (λ h. (h.family, h.agree)) (Decides-and _ _ family bits)

pub contains_decides : (p q : PrefixValue) → Decides (contains p q) (ContainsPrefix p q)
contains_decides p q =
    let shorter : Decides (leb p.bits q.bits) (p.bits ≤ q.bits) = (leb-true p.bits q.bits, le-leb p.bits q.bits) in
    Decides-like (contains p q) (λ h. record { shorter = h.0; holds = h.1 }) (λ c. (c.shorter, c.holds)) (Decides-and _ _ shorter (holds_decides p q.address))
