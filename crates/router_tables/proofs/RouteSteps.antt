-- The rows after the NLRI of one UPDATE message are announced or withdrawn.
use Rattle.std.proofs.Common.{◌≡◌, ◌↔◌, ◌⊎◌, inl, inr, ℕ, zero, suc, ◌<◌, length, get_or, List, [], ◌∷◌, ◌++◌, map, Option, Some, None, sym, ap, subst, arith, append_assoc, append-nil}
use Rattle.std.specs.List.{AllByRecursion, Contains}
use mathlib.Core.Logic.Iff.{trans as then_iff}
use Rattle.bmp_specs.specs.declared.peers.View.{View}
use Rattle.bmp_specs.specs.Orders.{nlri_cmp, view_cmp}
use Rattle.bmp_specs.specs.PeerUp.{Names, IsUp}
use Rattle.bmp_specs.specs.Rows.{RowKeyValue, RowValue, ReplacesRow, HasRow}
use Rattle.bmp_specs.specs.Values.{NlriValue, KeyValue, PeerInfoValue, AttrsValue, EffectValue, up, announce, withdraw}
use Rattle.bmp_specs.proofs.EffectCases.{same_key}
use Rattle.bmp_specs.proofs.OrderLaws.{nlri_total, nlri_exact, view_total, view_exact, same_or_other}
use Rattle.router_tables.specs.Pending.{route_effect}
use Rattle.bmp_specs.proofs.RowLaws.{up_still, up_from, row_now, row_from, row_kept_by_all, row_unheard}

-- these routes are exactly the rows that these effects leave
abbrev pub AreRoutesOf : (RowKeyValue → Option AttrsValue) → List EffectValue → Type 0
AreRoutesOf at effects = (row : RowValue) → (at row.row_key ≡ Some row.route) ↔ HasRow effects row

-- the place is one of these NLRI in this table of this peer
abbrev pub IsAmong : KeyValue → View → List NlriValue → RowKeyValue → Type 0
IsAmong key view nlris place = (key ≡ place.key) × (view ≡ place.view) × Contains nlris place.nlri

-- these NLRI have this route or none, and all other places what they had
pub record IsPut (key : KeyValue) (view : View) (nlris : List NlriValue) (to : Option AttrsValue) (at next : RowKeyValue → Option AttrsValue) : Type 0 where
  pub these : (place : RowKeyValue) → IsAmong key view nlris place → next place ≡ to
  pub others : (place : RowKeyValue) → ¬ (IsAmong key view nlris place) → next place ≡ at place

-- ---- NLRI in a list
first_of : (n q : NlriValue) (rest : List NlriValue) → n ≡ q → Contains (n ∷ rest) q
first_of n q rest same = (0, omega arith, same)

later_of : (n q : NlriValue) (rest : List NlriValue) → Contains rest q → Contains (n ∷ rest) q
later_of n q rest c = (suc c.0, omega arith, c.2)

-- the first, or one behind it
among_cases : (n q : NlriValue) (rest : List NlriValue) (k : ℕ) → k < length (n ∷ rest) → get_or (n ∷ rest) k q ≡ q → (n ≡ q) ⊎ Contains rest q
among_cases n q rest zero within is = inl is
among_cases n q rest (suc k) within is = inr (k, omega arith, is)

listed_or_not : (q : NlriValue) (ns : List NlriValue) → Contains ns q ⊎ ¬ (Contains ns q)
listed_or_not q [] = inr (λ c. let within : c.0 < 0 = c.1 in omega arith)
listed_or_not q (n ∷ rest) = elim (same_or_other nlri_cmp nlri_total nlri_exact n q) [
  | inl same ↦ inl (first_of n q rest same)
  | inr other ↦ elim (listed_or_not q rest) [
    | inl c ↦ inl (later_of n q rest c)
    | inr none ↦ inr (λ c. elim (among_cases n q rest c.0 c.1 c.2) [ inl same ↦ other same | inr later ↦ none later ])
  ]
]

among_or_not : (key : KeyValue) (view : View) (ns : List NlriValue) (place : RowKeyValue) → IsAmong key view ns place ⊎ ¬ (IsAmong key view ns place)
among_or_not key view ns place = elim (same_key key place.key) [
  | inl k ↦ elim (same_or_other view_cmp view_total view_exact view place.view) [
    | inl v ↦ elim (listed_or_not place.nlri ns) [ inl c ↦ inl (k, v, c) | inr none ↦ inr (λ t. none t.2) ]
    | inr other ↦ inr (λ t. other t.1)
  ]
  | inr other ↦ inr (λ t. other t.0)
]

-- ---- one effect
unnamed : (to : Option AttrsValue) (key : KeyValue) (view : View) (n : NlriValue) (k : KeyValue) → ¬ (Names k (route_effect key view to n))
unnamed None key view n k = λ names. names
unnamed (Some route) key view n k = λ names. names

not_an_up : (to : Option AttrsValue) (key : KeyValue) (view : View) (n : NlriValue) (k : KeyValue) (info : PeerInfoValue) → ¬ (route_effect key view to n ≡ up k info)
not_an_up None key view n k info e = cc
not_an_up (Some route) key view n k info e = cc

replaced : (to : Option AttrsValue) (key : KeyValue) (view : View) (n : NlriValue) (place : RowKeyValue) → ReplacesRow place (route_effect key view to n) → (key ≡ place.key) × (view ≡ place.view) × (n ≡ place.nlri)
replaced None key view n place r = r
replaced (Some route) key view n place r = r

-- what stands at the NLRI of an effect, while the peer is up
made : (to : Option AttrsValue) (key : KeyValue) (view : View) (n : NlriValue) (es : List EffectValue) (row : RowValue) → (key ≡ row.row_key.key) × (view ≡ row.row_key.view) × (n ≡ row.row_key.nlri)
    → IsUp es row.row_key.key → (to ≡ Some row.route) ↔ HasRow (es ++ route_effect key view to n ∷ []) row
made None key view n es row here is_up = (
  λ t. absurd cc,
  λ h. elim (row_from es (withdraw key view n) row h) [
    | inl now ↦ let e : withdraw key view n ≡ announce row.row_key.key row.row_key.view row.row_key.nlri row.route = now.0 in absurd cc
    | inr before ↦ absurd (before.1 here)
  ],
)
made (Some route) key view n es row here is_up = (
  λ t. let r : row.route ≡ route = cc in let k = sym here.0 in let v = sym here.1 in let m = sym here.2 in
      subst (λ (d : EffectValue). HasRow (es ++ d ∷ []) row) (λ i. announce (k i) (v i) (m i) (r i)) (row_now es row is_up),
  λ h. elim (row_from es (announce key view n route) row h) [
    | inl now ↦ let e : announce key view n route ≡ announce row.row_key.key row.row_key.view row.row_key.nlri row.route = now.0 in let r : route ≡ row.route = cc in ap Some r
    | inr before ↦ absurd (before.1 here)
  ],
)

-- ---- the effects of all NLRI of a message
module _ (key : KeyValue) (view : View) (to : Option AttrsValue) where
  none_there : (ns : List NlriValue) (place : RowKeyValue) → ¬ (IsAmong key view ns place) → AllByRecursion (λ e. ¬ (ReplacesRow place e)) (map (route_effect key view to) ns)
  none_there [] place other = tt
  none_there (n ∷ rest) place other = (
    λ r. let h = replaced to key view n place r in other (h.0, h.1, first_of n place.nlri rest h.2),
    none_there rest place (λ t. other (t.0, t.1, later_of n place.nlri rest t.2)),
  )

  listed : (ns : List NlriValue) (es : List EffectValue) (row : RowValue) → IsAmong key view ns row.row_key → IsUp es key → (to ≡ Some row.route) ↔ HasRow (es ++ map (route_effect key view to) ns) row
  listed [] es row here is_up = let within : here.2.0 < 0 = here.2.1 in absurd (omega arith)
  listed (n ∷ rest) es row here is_up =
      let e = route_effect key view to n in
      subst (λ (l : List EffectValue). (to ≡ Some row.route) ↔ HasRow l row) (append_assoc es (e ∷ []) (map (route_effect key view to) rest))
      (elim (listed_or_not row.row_key.nlri rest) [
        | inl later ↦ listed rest (es ++ e ∷ []) row (here.0, here.1, later) (up_still es e key (unnamed to key view n key) is_up)
        | inr none ↦
            let first : n ≡ row.row_key.nlri = elim (among_cases n row.row_key.nlri rest here.2.0 here.2.1 here.2.2) [ inl same ↦ same | inr later ↦ absurd (none later) ] in
            then_iff (made to key view n es row (here.0, here.1, first) (subst (IsUp es) here.0 is_up))
            (row_kept_by_all (es ++ e ∷ []) (map (route_effect key view to) rest) row (none_there rest row.row_key (λ t. none t.2)))
      ])

  -- the NLRI are announced or withdrawn, of a peer that is up
  pub routes_put : (ns : List NlriValue) (at next : RowKeyValue → Option AttrsValue) (es : List EffectValue) → IsUp es key → IsPut key view ns to at next
      → AreRoutesOf at es → AreRoutesOf next (es ++ map (route_effect key view to) ns)
  routes_put ns at next es is_up put h row = elim (among_or_not key view ns row.row_key) [
    | inl here ↦ subst (λ (o : Option AttrsValue). (o ≡ Some row.route) ↔ HasRow (es ++ map (route_effect key view to) ns) row) (sym (put.these row.row_key here)) (listed ns es row here is_up)
    | inr other ↦ subst (λ (o : Option AttrsValue). (o ≡ Some row.route) ↔ HasRow (es ++ map (route_effect key view to) ns) row) (sym (put.others row.row_key other))
        (then_iff (h row) (row_kept_by_all es (map (route_effect key view to) ns) row (none_there ns row.row_key other)))
  ]

  -- of a peer that isn't up they change no row
  row_unheard_by_all : (ns : List NlriValue) (es : List EffectValue) (row : RowValue) → ¬ (IsUp es key) → HasRow es row ↔ HasRow (es ++ map (route_effect key view to) ns) row
  row_unheard_by_all [] es row not_up = subst (λ (l : List EffectValue). HasRow es row ↔ HasRow l row) (sym (append-nil es)) (λ h. h, λ h. h)
  row_unheard_by_all (n ∷ rest) es row not_up =
      let e = route_effect key view to n in
      let still_not : ¬ (IsUp (es ++ e ∷ []) key) = (λ u. elim (up_from es e key u) [ inl now ↦ not_an_up to key view n key now.0 now.1 | inr before ↦ not_up before.0 ]) in
      subst (λ (l : List EffectValue). HasRow es row ↔ HasRow l row) (append_assoc es (e ∷ []) (map (route_effect key view to) rest))
      (then_iff (row_unheard es e row (λ r u. not_up (subst (IsUp es) (sym (replaced to key view n row.row_key r).0) u))) (row_unheard_by_all rest (es ++ e ∷ []) row still_not))

  pub routes_unheard : (ns : List NlriValue) (at : RowKeyValue → Option AttrsValue) (es : List EffectValue) → ¬ (IsUp es key) → AreRoutesOf at es → AreRoutesOf at (es ++ map (route_effect key view to) ns)
  routes_unheard ns at es not_up h row = then_iff (h row) (row_unheard_by_all ns es row not_up)
