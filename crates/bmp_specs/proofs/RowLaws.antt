-- What one more effect does to a peer and to a row, and that a place has one route and a peer one info.
use Rattle.std.proofs.Common.{◌≡◌, ◌↔◌, ◌⊎◌, inl, inr, List, [], ◌∷◌, ◌++◌, refl, sym, subst}
use Rattle.bmp_specs.specs.Latest.{Latest}
use Rattle.bmp_specs.specs.Values.{KeyValue, PeerInfoValue, DownInfoValue, AttrsValue, EffectValue, up, down, announce}
use Rattle.std.specs.List.{AllByRecursion}
use Rattle.bmp_specs.specs.PeerUp.{Names, IsUpWith, IsDownWith, IsUp}
use Rattle.bmp_specs.specs.Rows.{RowKeyValue, RowValue, ReplacesRow, HasRow}
use Rattle.bmp_specs.proofs.LatestLaws.{no_middle, latest_now, latest_still, latest_from, latest_one, latest_stands, all_weaker, still_by_all, kept_by_all}
use Rattle.bmp_specs.proofs.EffectCases.{names_cases, names_or_other, replaces_row_or_other, named_replaces_row}

pub up_now : (es : List EffectValue) (key : KeyValue) (info : PeerInfoValue) → IsUp (es ++ up key info ∷ []) key
up_now es key info = (info, latest_now (Names key) es (up key info))

pub up_still : (es : List EffectValue) (e : EffectValue) (key : KeyValue) → ¬ (Names key e) → IsUp es key → IsUp (es ++ e ∷ []) key
up_still es e key other (info, l) = let m = latest_still (Names key) es e (up key info) l other in (info, m.0)

-- a peer that was up before an effect is up after it and others, where each that names the peer would have ended it
pub up_while : (Ends : EffectValue → Type 0) (key : KeyValue) → ((e : EffectValue) → Names key e → Ends e) → (es : List EffectValue) (x : EffectValue) → ¬ (Names key x)
    → (l : Latest Ends es x) → IsUp l.before key → IsUp es key
up_while Ends key ends es x other l is_up =
    let after = all_weaker (λ e. ¬ (Ends e)) (λ e. ¬ (Names key e)) (λ e stays names. stays (ends e names)) l.after l.last in
    subst (λ (xs : List EffectValue). IsUp xs key) (sym l.split) (still_by_all (λ e. ¬ (Names key e)) (λ xs. IsUp xs key) (λ xs e unnamed. up_still xs e key unnamed) l.before (x ∷ l.after) (other, after) is_up)

-- a peer that is up was, or comes up by this effect
pub up_from : (es : List EffectValue) (e : EffectValue) (key : KeyValue) → IsUp (es ++ e ∷ []) key → ((info : PeerInfoValue) × (e ≡ up key info)) ⊎ (IsUp es key × ¬ (Names key e))
up_from es e key (info, m) = go (latest_from (Names key) es e (up key info) m)
  where
    go : ((e ≡ up key info) × (es ≡ m.before)) ⊎ ((l : Latest (Names key) es (up key info)) × (l.before ≡ m.before) × ¬ (Names key e)) → ((i : PeerInfoValue) × (e ≡ up key i)) ⊎ (IsUp es key × ¬ (Names key e))
    go (inl (s, _)) = inl (info, s)
    go (inr (l, _, other)) = inr ((info, l), other)

-- a peer that is up has one info, and isn't down
pub up_one : (es : List EffectValue) (key : KeyValue) (a b : PeerInfoValue) → IsUpWith es key a → IsUpWith es key b → a ≡ b
up_one es key a b p q = let e : up key a ≡ up key b = (latest_one (Names key) es (up key a) (up key b) p q refl refl).0 in cc

pub up_or_down : (es : List EffectValue) (key : KeyValue) (info : DownInfoValue) → IsUp es key → IsDownWith es key info → ⊥
up_or_down es key info (other, p) q = let e : up key other ≡ down key info = (latest_one (Names key) es (up key other) (down key info) p q refl refl).0 in cc

-- a place has one route
pub route_one : (es : List EffectValue) (place : RowKeyValue) (a b : AttrsValue) → HasRow es (record { row_key = place; route = a }) → HasRow es (record { row_key = place; route = b }) → a ≡ b
route_one es place a b p q =
    let e : announce place.key place.view place.nlri a ≡ announce place.key place.view place.nlri b =
    (latest_one (ReplacesRow place) es (announce place.key place.view place.nlri a) (announce place.key place.view place.nlri b) p.announced q.announced (refl, refl, refl) (refl, refl, refl)).0 in
    cc

pub row_now : (es : List EffectValue) (row : RowValue) → IsUp es row.row_key.key → HasRow (es ++ announce row.row_key.key row.row_key.view row.row_key.nlri row.route ∷ []) row
row_now es row is_up = record { announced = record { before = es; after = []; split = refl; last = tt }; while_up = is_up }

pub row_still : (es : List EffectValue) (e : EffectValue) (row : RowValue) → ¬ (ReplacesRow row.row_key e) → HasRow es row → HasRow (es ++ e ∷ []) row
row_still es e row other h =
    let m = latest_still (ReplacesRow row.row_key) es e (announce row.row_key.key row.row_key.view row.row_key.nlri row.route) h.announced other in
    record { announced = m.0; while_up = subst (λ (before : List EffectValue). IsUp before row.row_key.key) (sym m.1) h.while_up }

-- a row was there and this effect doesn't replace it, or this effect announces it while its peer is up
pub row_from : (es : List EffectValue) (e : EffectValue) (row : RowValue) → HasRow (es ++ e ∷ []) row
    → ((e ≡ announce row.row_key.key row.row_key.view row.row_key.nlri row.route) × IsUp es row.row_key.key) ⊎ (HasRow es row × ¬ (ReplacesRow row.row_key e))
row_from es e row h = go (latest_from (ReplacesRow row.row_key) es e (announce row.row_key.key row.row_key.view row.row_key.nlri row.route) h.announced)
  where
    go : ((e ≡ announce row.row_key.key row.row_key.view row.row_key.nlri row.route) × (es ≡ h.announced.before))
        ⊎ ((l : Latest (ReplacesRow row.row_key) es (announce row.row_key.key row.row_key.view row.row_key.nlri row.route)) × (l.before ≡ h.announced.before) × ¬ (ReplacesRow row.row_key e))
        → ((e ≡ announce row.row_key.key row.row_key.view row.row_key.nlri row.route) × IsUp es row.row_key.key) ⊎ (HasRow es row × ¬ (ReplacesRow row.row_key e))
    go (inl (s, t)) = inl (s, subst (λ (before : List EffectValue). IsUp before row.row_key.key) (sym t) h.while_up)
    go (inr (l, t, other)) = inr (record { announced = l; while_up = subst (λ (before : List EffectValue). IsUp before row.row_key.key) (sym t) h.while_up }, other)

-- no effects leave no row
pub none_row : (row : RowValue) → ¬ (HasRow [] row)
none_row row h = no_middle h.announced.before h.announced.after (announce row.row_key.key row.row_key.view row.row_key.nlri row.route) h.announced.split

-- a peer with a row is up
pub up_by_row : (es : List EffectValue) (row : RowValue) → HasRow es row → IsUp es row.row_key.key
up_by_row es row h =
    up_while (ReplacesRow row.row_key) row.row_key.key (named_replaces_row row.row_key) es (announce row.row_key.key row.row_key.view row.row_key.nlri row.route) (λ n. n) h.announced h.while_up

module _ (es : List EffectValue) (e : EffectValue) (row : RowValue) where
  pub row_step : HasRow (es ++ e ∷ []) row ↔ (((e ≡ announce row.row_key.key row.row_key.view row.row_key.nlri row.route) × IsUp es row.row_key.key) ⊎ (HasRow es row × ¬ (ReplacesRow row.row_key e)))
  row_step = (
    row_from es e row,
    λ c. elim c [ inl now ↦ subst (λ (d : EffectValue). HasRow (es ++ d ∷ []) row) (sym now.0) (row_now es row now.1) | inr h ↦ row_still es e row h.1 h.0 ],
  )

  -- what doesn't end a row leaves it there or not
  pub row_kept : ¬ (ReplacesRow row.row_key e) → HasRow es row ↔ HasRow (es ++ e ∷ []) row
  row_kept other = (
    row_still es e row other,
    λ h. elim (row_from es e row h) [ inl now ↦ absurd (other (subst (ReplacesRow row.row_key) (sym now.0) (refl, refl, refl))) | inr before ↦ before.0 ],
  )

  -- an Up or a Down of its peer ends it
  pub named_ends_row : Names row.row_key.key e → ¬ (HasRow (es ++ e ∷ []) row)
  named_ends_row names h = elim (row_from es e row h) [ inl now ↦ subst (Names row.row_key.key) now.0 names | inr before ↦ before.1 (named_replaces_row row.row_key e names) ]

  -- a peer that isn't up has no row, and no effect makes one
  pub row_kept_down : ¬ (IsUp es row.row_key.key) → HasRow es row ↔ HasRow (es ++ e ∷ []) row
  row_kept_down not_up = (
    λ h. absurd (not_up (up_by_row es row h)),
    λ h. elim (row_from es e row h) [ inl now ↦ absurd (not_up now.1) | inr before ↦ before.0 ],
  )

-- a route that is announced or withdrawn while its peer isn't up changes no row
pub row_unheard : (es : List EffectValue) (e : EffectValue) (row : RowValue) → (ReplacesRow row.row_key e → ¬ (IsUp es row.row_key.key)) → HasRow es row ↔ HasRow (es ++ e ∷ []) row
row_unheard es e row unheard = elim (replaces_row_or_other row.row_key e) [ inl r ↦ row_kept_down es e row (unheard r) | inr other ↦ row_kept es e row other ]

pub row_kept_by_all : (es more : List EffectValue) (row : RowValue) → AllByRecursion (λ e. ¬ (ReplacesRow row.row_key e)) more → HasRow es row ↔ HasRow (es ++ more) row
row_kept_by_all es more row others = kept_by_all (λ e. ¬ (ReplacesRow row.row_key e)) (λ xs. HasRow xs row) (λ xs e other. row_kept xs e row other) es more others

up_or_down_by : (es : List EffectValue) (key : KeyValue) (e : EffectValue) → Names key e → Latest (Names key) es e → IsUp es key ⊎ ((info : DownInfoValue) × IsDownWith es key info)
up_or_down_by es key e n l = elim (names_cases key e n) [ inl h ↦ inl (h.0, subst (Latest (Names key) es) h.1 l) | inr h ↦ inr (h.0, subst (Latest (Names key) es) h.1 l) ]

-- a peer is up, or it is down, or no effect names it
pub peer_cases : (es : List EffectValue) (key : KeyValue) → IsUp es key ⊎ ((info : DownInfoValue) × IsDownWith es key info) ⊎ AllByRecursion (λ e. ¬ (Names key e)) es
peer_cases es key = elim (latest_stands (Names key) (names_or_other key) es) [
  | inl h ↦ elim (up_or_down_by es key h.0 h.1 h.2) [ inl u ↦ inl u | inr d ↦ inr (inl d) ]
  | inr none ↦ inr (inr none)
]
