-- What a walk over a table tells is what is asked of the table.
use Rattle.std.proofs.Common.{◌≡◌, ◌≤◌, inl, inr, ℕ, Bool, true, false, ◌&&◌, ◌||◌, not, leb, [], ◌∷◌, Option, arith, refl, sym, ap, ◌∙◌, subst}
use Rattle.std.specs.List.{Contains, filter}
use Rattle.std.specs.Ordering.{is_eq}
use Rattle.std.proofs.lemmas.Bool.{false≢true, cond-false, and_parts, and_from, and_right, or_cases, or_left, or_right, not-true, not_from_false, leb-true, le-leb, false_from_ne_true}
use Rattle.std.proofs.lemmas.Bool.Decides.{same_from_decides}
use Rattle.bmp_specs.specs.declared.wire.Family.{Family}
use Rattle.bmp_specs.specs.Address.{IsAddressPrefix}
use Rattle.bmp_specs.specs.Containment.{HoldsAddress}
use Rattle.bmp_specs.specs.Orders.{family_cmp, prefix_cmp, nlri_cmp}
use Rattle.bmp_specs.specs.Prefix.{first_bits}
use Rattle.bmp_specs.specs.Values.{AddressValue, AttrsValue, NlriValue, PrefixValue}
use Rattle.bmp_specs.proofs.ListedOne.{contains_cases, contains_first, contains_later}
use Rattle.bmp_specs.proofs.OrderLaws.{prefix_total, prefix_exact}
use Rattle.route_runs.specs.declared.walk.Place.{Place}
use Rattle.route_runs.specs.Longest.{HasPrefix, IsLongestPrefix, NoneHolds}
use Rattle.route_runs.specs.Nlri.{AreNlri}
use Rattle.route_runs.specs.Origins.{attrs_origin, is_number, with_origin}
use Rattle.route_runs.specs.Runs.{in_order}
use Rattle.route_runs.specs.Walk.{pairs_from}
use Rattle.route_runs.proofs.Merging.{Rising}
use Rattle.route_runs.proofs.Nearer.{listed_has}
use Rattle.route_runs.proofs.Searching.{bools}
use Rattle.route_runs.proofs.WithOrigin.{rising_with}
use Rattle.router_tables.specs.Views.{Table}
use Rattle.query_eval.specs.declared.run.Part.TheVariants.{Whole, Exact}
use Rattle.query_eval.specs.declared.run.Run.{Run}
use Rattle.query_eval.specs.Rows.{asks_run, asks_origin, asks_longest, none_longer}
use Rattle.query_eval.specs.RowRuns.{holds, in_run, begin_of, IsPart, front_of}
use Rattle.query_eval.specs.Selecting.{is_named}
use Rattle.query_eval.proofs.Keeping.{from_filter}
use Rattle.query_eval.proofs.RowDeciding.{same_decides, holds_decides}
use Rattle.query_eval.proofs.RowLists.{all_members, kept_twice, same_kept}
use Rattle.query_eval.proofs.RowOrder.{in_order_rising}
use Rattle.query_eval.proofs.RowRunLaws.{walked_run}

-- the prefix of a listed pair is one
pub listed_prefix : (es : Table) → AreNlri es → (e : NlriValue × AttrsValue) → Contains es e → IsAddressPrefix e.0.prefix
listed_prefix es all e c = (all e.0 (listed_has es e c)).prefix

module _ (es : Table) (rising : Rising nlri_cmp es) (all : AreNlri es) where
  same_order : es ≡ in_order nlri_cmp es
  same_order = sym (in_order_rising nlri_cmp es rising)

  -- a run
  pub run_told : (run : Run) (place : Place) (walk : Table) → IsPart run.part → place ≡ begin_of run → walk ≡ pairs_from place es → front_of run walk ≡ filter (asks_run run (in_order nlri_cmp es)) (in_order nlri_cmp es)
  run_told run place walk is at w =
      ap (front_of run) (w ∙ ap (λ (p : Place). pairs_from p es) at)
      ∙ walked_run run is es rising (all_members (λ (e : NlriValue × AttrsValue). IsAddressPrefix e.0.prefix) es (listed_prefix es all))
      ∙ ap (filter (λ (e : NlriValue × AttrsValue). in_run run e.0)) same_order

  -- the rows of an origin AS, of a family
  pub origin_told : (asn : ℕ) (family : Option Family) (place : Place) (walk : Table) → place ≡ begin_of (record { family = family; part = Whole }) → walk ≡ pairs_from place (with_origin asn es)
      → front_of (record { family = family; part = Whole }) walk ≡ filter (asks_origin asn family (in_order nlri_cmp es)) (in_order nlri_cmp es)
  origin_told asn family place walk at w =
      let run : Run = record { family = family; part = Whole } in
      ap (front_of run) (w ∙ ap (λ (p : Place). pairs_from p (with_origin asn es)) at)
      ∙ walked_run run tt (with_origin asn es) (rising_with asn es rising)
      (all_members (λ (e : NlriValue × AttrsValue). IsAddressPrefix e.0.prefix) (with_origin asn es) (λ e c. listed_prefix es all e (from_filter (λ (e : NlriValue × AttrsValue). is_number asn (attrs_origin e.1)) es e c).0))
      ∙ kept_twice (λ (e : NlriValue × AttrsValue). in_run run e.0) (λ (e : NlriValue × AttrsValue). is_number asn (attrs_origin e.1)) (λ (e : NlriValue × AttrsValue). is_named family_cmp family e.0.prefix.address.family && is_number asn (attrs_origin e.1))
      (λ e. whole_and (is_named family_cmp family e.0.prefix.address.family) (is_number asn (attrs_origin e.1))) es
      ∙ ap (filter (λ (e : NlriValue × AttrsValue). is_named family_cmp family e.0.prefix.address.family && is_number asn (attrs_origin e.1))) same_order
    where
      whole_and : (b c : Bool) → ((b && true) && c) ≡ (b && c)
      whole_and true c = refl
      whole_and false c = refl

-- ---- the longest match
module _ (a : AddressValue) (bits : ℕ) where
  pub longer_from : (es : Table) → none_longer a bits es ≡ true → (f : NlriValue × AttrsValue) → Contains es f → HoldsAddress f.0.prefix a → f.0.prefix.bits ≤ bits
  longer_from [] t f c h = absurd (omega (arith, c.1))
  longer_from (e ∷ es) t f c h =
      let parts = and_parts (not (holds e.0.prefix a) || leb e.0.prefix.bits bits) (none_longer a bits es) t in
      elim (contains_cases e es f c) [
        | inl is ↦ subst (λ (g : NlriValue × AttrsValue). g.0.prefix.bits ≤ bits) is (elim (or_cases (not (holds e.0.prefix a)) (leb e.0.prefix.bits bits) parts.0) [
          | inl none ↦ absurd (false≢true (sym (not-true (holds e.0.prefix a) none) ∙ (holds_decides e.0.prefix a).1 (subst (λ (g : NlriValue × AttrsValue). HoldsAddress g.0.prefix a) (sym is) h)))
          | inr short ↦ leb-true e.0.prefix.bits bits short
        ])
        | inr d ↦ longer_from es parts.1 f d h
      ]

  pub longer_to : (es : Table) → ((f : NlriValue × AttrsValue) → Contains es f → HoldsAddress f.0.prefix a → f.0.prefix.bits ≤ bits) → none_longer a bits es ≡ true
  longer_to [] each = refl
  longer_to (e ∷ es) each =
      let first : (not (holds e.0.prefix a) || leb e.0.prefix.bits bits) ≡ true = elim (bools (holds e.0.prefix a)) [
        | inl t ↦ or_right (not (holds e.0.prefix a)) (leb e.0.prefix.bits bits) (le-leb e.0.prefix.bits bits (each e (contains_first e es) ((holds_decides e.0.prefix a).0 t)))
        | inr f ↦ or_left (not (holds e.0.prefix a)) (leb e.0.prefix.bits bits) (not_from_false (holds e.0.prefix a) f)
      ] in
      and_from _ _ first (longer_to es (λ f c. each f (contains_later e es f c)))

-- two prefixes of one length that hold an address are one
one_prefix : (p q : PrefixValue) (a : AddressValue) → IsAddressPrefix p → IsAddressPrefix q → HoldsAddress p a → HoldsAddress q a → p.bits ≡ q.bits → p ≡ q
one_prefix p q a is_p is_q h k bits =
    let family : p.address.family ≡ q.address.family = h.family ∙ sym k.family in
    let octets : p.address.octets ≡ q.address.octets = sym is_p.clear ∙ h.agree ∙ ap (λ (n : ℕ). first_bits n a.octets) bits ∙ sym k.agree ∙ is_q.clear in
    λ i. record { address = record { family = family i; octets = octets i }; bits = bits i }

module _ (a : AddressValue) (family : Option Family) (es : Table) (rising : Rising nlri_cmp es) (all : AreNlri es) where
  longest_is : (p : PrefixValue) → IsLongestPrefix a es p → (e : NlriValue × AttrsValue) → Contains es e → is_eq (prefix_cmp p e.0.prefix) ≡ (holds e.0.prefix a && none_longer a e.0.prefix.bits es)
  longest_is p l e c =
      let has : HasPrefix es e.0.prefix = record { row = e; listed = c; same = refl } in
      let of_p : IsAddressPrefix p = subst IsAddressPrefix l.listed.same (listed_prefix es all l.listed.row l.listed.listed) in
      let to : (holds e.0.prefix a && none_longer a e.0.prefix.bits es) ≡ true → p ≡ e.0.prefix = λ t.
      let parts = and_parts (holds e.0.prefix a) (none_longer a e.0.prefix.bits es) t in
      let held = (holds_decides e.0.prefix a).0 parts.0 in
      let less : e.0.prefix.bits ≤ p.bits = l.longest e.0.prefix has held in
      let more : p.bits ≤ e.0.prefix.bits = subst (λ (q : PrefixValue). q.bits ≤ e.0.prefix.bits) l.listed.same
      (longer_from a e.0.prefix.bits es parts.1 l.listed.row l.listed.listed (subst (λ (q : PrefixValue). HoldsAddress q a) (sym l.listed.same) l.holds)) in
      one_prefix p e.0.prefix a of_p (listed_prefix es all e c) l.holds held (omega (arith, less, more)) in
      let back : p ≡ e.0.prefix → (holds e.0.prefix a && none_longer a e.0.prefix.bits es) ≡ true = λ same.
      and_from _ _ ((holds_decides e.0.prefix a).1 (subst (λ (q : PrefixValue). HoldsAddress q a) same l.holds))
      (longer_to a e.0.prefix.bits es (λ f d h. subst (λ (q : PrefixValue). f.0.prefix.bits ≤ q.bits) same (l.longest f.0.prefix (record { row = f; listed = d; same = refl }) h))) in
      same_from_decides (is_eq (prefix_cmp p e.0.prefix)) (holds e.0.prefix a && none_longer a e.0.prefix.bits es) (same_decides prefix_cmp prefix_total prefix_exact p e.0.prefix) (to, back)

  -- the rows of the prefix that was found
  pub found_told : (p : PrefixValue) → IsLongestPrefix a es p
      → filter (asks_run (record { family = family; part = Exact p }) (in_order nlri_cmp es)) (in_order nlri_cmp es) ≡ filter (asks_longest a family (in_order nlri_cmp es)) (in_order nlri_cmp es)
  found_told p l = subst (λ (fs : Table). filter (asks_run (record { family = family; part = Exact p }) fs) fs ≡ filter (asks_longest a family fs) fs) (sym (in_order_rising nlri_cmp es rising))
      (same_kept (asks_run (record { family = family; part = Exact p }) es) (asks_longest a family es) es (λ e c. ap (λ (b : Bool). is_named family_cmp family e.0.prefix.address.family && b) (longest_is p l e c)))

  none_asked : (fs : Table) → ((e : NlriValue × AttrsValue) → Contains fs e → ¬ (HoldsAddress e.0.prefix a)) → filter (asks_longest a family es) fs ≡ []
  none_asked [] none = refl
  none_asked (e ∷ fs) none =
      let other : holds e.0.prefix a ≡ false = false_from_ne_true (holds e.0.prefix a) (λ t. none e (contains_first e fs) ((holds_decides e.0.prefix a).0 t)) in
      let passed : asks_longest a family es e ≡ false = and_right (is_named family_cmp family e.0.prefix.address.family) (holds e.0.prefix a && none_longer a e.0.prefix.bits es) (ap (λ (b : Bool). b && none_longer a e.0.prefix.bits es) other) in
      cond-false (asks_longest a family es e) (e ∷ filter (asks_longest a family es) fs) (filter (asks_longest a family es) fs) passed ∙ none_asked fs (λ f c. none f (contains_later e fs f c))

  -- and that there is none
  pub none_told : NoneHolds a es → filter (asks_longest a family (in_order nlri_cmp es)) (in_order nlri_cmp es) ≡ []
  none_told none = subst (λ (fs : Table). filter (asks_longest a family fs) fs ≡ []) (sym (in_order_rising nlri_cmp es rising)) (none_asked es (λ e c. none e.0.prefix (record { row = e; listed = c; same = refl })))
