-- The verdict is one, and the tests find it.
use Rattle.std.proofs.Common.{◌≡◌, ◌≢◌, ◌≤◌, ℕ, leb, Bool, true, false, not, ◌==◌, List, Option, None, Some, Decides, if◌then◌else◌, refl, sym, ap, subst, ◌∙◌, eqb-true, eq-eqb, true≢false}
use Rattle.std.specs.List.{Contains, list_any}
use Rattle.std.specs.declared.cmp.Ordering.{Ordering}
use Rattle.std.specs.declared.cmp.Ordering.TheVariants.{Equal}
use Rattle.std.specs.Ordering.{is_eq, nat_cmp}
use Rattle.std.specs.Cmp.{IsTotalOrder, Equal-is}
use Rattle.std.specs.Cmp.Lexicographic.{slice_cmp}
use Rattle.std.proofs.lemmas.Bool.{false≢true, leb-true, le-leb, not-true, not_from_false, false_from_ne_true}
use Rattle.std.proofs.lemmas.Bool.Decides.{Decides-like, Decides-and}
use Rattle.std.proofs.lemmas.Cmp.{tied_itself, nat_list_cmp_total}
use Rattle.std.proofs.lemmas.List.Folds.{Any-from_list_any, list_any_at}
use Rattle.std.proofs.lemmas.Map.Lookups.{CmpEqualImpliesEq, exact_bytes}
use Rattle.bmp_specs.specs.Containment.{ContainsPrefix}
use Rattle.bmp_specs.specs.Orders.{family_cmp}
use Rattle.bmp_specs.specs.Prefix.{first_bits}
use Rattle.bmp_specs.specs.Values.{PrefixValue}
use Rattle.bmp_specs.proofs.OrderLaws.{family_total, family_exact}
use Rattle.rov_table.specs.declared.vrp.Vrp.{Vrp}
use Rattle.rov_table.specs.declared.vrp.Verdict.{Verdict}
use Rattle.rov_table.specs.declared.vrp.Verdict.TheVariants.{Valid, Invalid, NotFound}
use Rattle.rov_table.specs.Verdicts.{Matches, IsVerdict, contains, is_number, matches, verdict_of}

pub verdict_one : (vrps : List Vrp) (p : PrefixValue) (origin : Option ℕ) (a b : Verdict) → IsVerdict vrps p origin a → IsVerdict vrps p origin b → a ≡ b
verdict_one vrps p origin Valid Valid x y = refl
verdict_one vrps p origin Valid Invalid (v, has, m) y = absurd (y.1 v has m)
verdict_one vrps p origin Valid NotFound (v, has, m) y = absurd (y v has m.0)
verdict_one vrps p origin Invalid Valid x (v, has, m) = absurd (x.1 v has m)
verdict_one vrps p origin Invalid Invalid x y = refl
verdict_one vrps p origin Invalid NotFound ((v, has, c), none) y = absurd (y v has c)
verdict_one vrps p origin NotFound Valid x (v, has, m) = absurd (x v has m.0)
verdict_one vrps p origin NotFound Invalid x ((v, has, c), none) = absurd (x v has c)
verdict_one vrps p origin NotFound NotFound x y = refl

module _ {A : Type 0} (cmp : A → A → Ordering) (total : IsTotalOrder cmp) (exact : CmpEqualImpliesEq cmp) where
  same_decides : (a b : A) → Decides (is_eq (cmp a b)) (a ≡ b)
  same_decides a b = Decides-like (is_eq (cmp a b)) (exact a b) (λ same. subst (λ (v : A). cmp a v ≡ Equal) same (tied_itself total a)) (Equal-is (cmp a b))

contains_decides : (p q : PrefixValue) → Decides (contains p q) (ContainsPrefix p q)
contains_decides p q =
    let shorter : Decides (leb p.bits q.bits) (p.bits ≤ q.bits) = (leb-true p.bits q.bits, le-leb p.bits q.bits) in
    let family = same_decides family_cmp family_total family_exact p.address.family q.address.family in
    let bits = same_decides (slice_cmp nat_cmp) nat_list_cmp_total exact_bytes (first_bits p.bits p.address.octets) (first_bits p.bits q.address.octets) in
    Decides-like (contains p q) (λ h. record { shorter = h.0; holds = record { family = h.1.0; agree = h.1.1 } }) (λ c. (c.shorter, (c.holds.family, c.holds.agree))) (Decides-and _ _ shorter (Decides-and _ _ family bits))

number_decides : (asn : ℕ) (origin : Option ℕ) → Decides (is_number asn origin) (origin ≡ Some asn)
number_decides asn None = (λ e. absurd (false≢true e), λ e. cc)
number_decides asn (Some n) = (λ e. ap (λ (k : ℕ). Some k) (eqb-true n asn e), λ e. eq-eqb n asn (let same : n ≡ asn = cc in same))

some_decides : (asn : ℕ) → Decides (not (asn == 0)) (asn ≢ 0)
some_decides asn = (λ e zero. true≢false (sym (eq-eqb asn 0 zero) ∙ not-true (asn == 0) e), λ other. not_from_false (asn == 0) (false_from_ne_true (asn == 0) (λ t. other (eqb-true asn 0 t))))

matches_decides : (v : Vrp) (p : PrefixValue) (origin : Option ℕ) → Decides (matches v p origin) (Matches v p origin)
matches_decides v p origin =
    let short : Decides (leb p.bits v.max) (p.bits ≤ v.max) = (leb-true p.bits v.max, le-leb p.bits v.max) in
    Decides-like (matches v p origin) (λ h. (h.0, record { short = h.1.0; some = h.1.1.0; same = h.1.1.1 })) (λ m. (m.0, (m.1.short, (m.1.some, m.1.same))))
    (Decides-and _ _ (contains_decides v.prefix p) (Decides-and _ _ short (Decides-and _ _ (some_decides v.asn) (number_decides v.asn origin))))

module _ (vrps : List Vrp) where
  -- some passes a test
  some_passes : (test : Vrp → Bool) → list_any test vrps ≡ true → (v : Vrp) × Contains vrps v × (test v ≡ true)
  some_passes test e = let (k, v, within, is, passes) = Any-from_list_any test vrps e in (v, (k, within, is), passes)

  -- or none does
  none_passes : (test : Vrp → Bool) → list_any test vrps ≡ false → (v : Vrp) → Contains vrps v → test v ≡ true → ⊥
  none_passes test e v (k, within, is) passes = true≢false (sym (list_any_at test vrps k v within (subst (λ (w : Vrp). test w ≡ true) (sym is) passes)) ∙ e)

module _ (vrps : List Vrp) (p : PrefixValue) (origin : Option ℕ) where
  pub verdict_found : IsVerdict vrps p origin (verdict_of vrps p origin)
  verdict_found = by (list_any (λ v. matches v p origin) vrps) refl
    where
      none_matches : list_any (λ v. matches v p origin) vrps ≡ false → (v : Vrp) → Contains vrps v → Matches v p origin → ⊥
      none_matches e v has m = none_passes vrps (λ (w : Vrp). matches w p origin) e v has ((matches_decides v p origin).1 m)

      further : list_any (λ v. matches v p origin) vrps ≡ false → (c : Bool) → list_any (λ v. contains v.prefix p) vrps ≡ c → IsVerdict vrps p origin (if c then Invalid else NotFound)
      further e true is = let (v, has, passes) = some_passes vrps (λ (w : Vrp). contains w.prefix p) is in ((v, has, (contains_decides v.prefix p).0 passes), none_matches e)
      further e false is = λ v has covers. none_passes vrps (λ (w : Vrp). contains w.prefix p) is v has ((contains_decides v.prefix p).1 covers)

      by : (b : Bool) → list_any (λ v. matches v p origin) vrps ≡ b → IsVerdict vrps p origin (if b then Valid else (if list_any (λ v. contains v.prefix p) vrps then Invalid else NotFound))
      by true is = let (v, has, passes) = some_passes vrps (λ (w : Vrp). matches w p origin) is in (v, has, (matches_decides v p origin).0 passes)
      by false is = further is (list_any (λ v. contains v.prefix p) vrps) refl

  pub verdict_is : (r : Verdict) → IsVerdict vrps p origin r → r ≡ verdict_of vrps p origin
  verdict_is r is = verdict_one vrps p origin r (verdict_of vrps p origin) is verdict_found
