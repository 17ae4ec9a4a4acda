-- Values tie in an order exactly where they are one.
use Rattle.std.proofs.Common.{◌≡◌, ◌↔◌, Bool, true, refl, sym, ap, ◌∙◌, subst}
use Rattle.std.specs.declared.cmp.Ordering.{Ordering}
use Rattle.std.specs.declared.cmp.Ordering.TheVariants.{Less, Equal, Greater}
use Rattle.std.specs.Ordering.{is_eq}
use Rattle.std.specs.Cmp.{IsTotalOrder}
use Rattle.std.proofs.lemmas.Cmp.{tied_itself}
use Rattle.std.proofs.lemmas.Map.Lookups.{CmpEqualImpliesEq}

tied : (o : Ordering) → is_eq o ≡ true → o ≡ Equal
tied Less e = cc
tied Equal e = refl
tied Greater e = cc

pub ties : {K : Type 0} (cmp : K → K → Ordering) → IsTotalOrder cmp → CmpEqualImpliesEq cmp → (a b : K) (o : Ordering) (r : Bool) → o ≡ cmp a b → r ≡ is_eq o → (r ≡ true) ↔ (a ≡ b)
ties {K} cmp total exact a b o r is test = (
  λ t. exact a b (sym is ∙ tied o (sym test ∙ t)),
  λ same. let e : cmp a b ≡ Equal = subst (λ (k : K). cmp a k ≡ Equal) same (tied_itself total a) in test ∙ ap is_eq (is ∙ e),
)
