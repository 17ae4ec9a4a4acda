-- Which effects name a peer, end a row or end a statistic: each of them, and that it is told of any effect whether it does.
use Rattle.std.proofs.Common.{◌≡◌, ◌⊎◌, ℕ, inl, inr, refl, sym, ap, subst}
use Rattle.std.proofs.lemmas.Cmp.{nat_cmp_total}
use Rattle.std.proofs.lemmas.Map.Lookups.{exact_unsigned}
use Rattle.std.specs.Ordering.{nat_cmp}
use Rattle.bmp_specs.specs.declared.peers.View.{View}
use Rattle.bmp_specs.specs.Orders.{key_cmp}
use Rattle.bmp_specs.specs.PeerUp.{Names}
use Rattle.bmp_specs.specs.Rows.{RowKeyValue, ReplacesRow, ReplacesStatistic}
use Rattle.bmp_specs.specs.TableRows.{row_key_cmp}
use Rattle.bmp_specs.specs.Values.{NlriValue, KeyValue, PeerInfoValue, DownInfoValue, AttrsValue, StatValue, EffectValue, up, down, announce, withdraw, statistic}
use Rattle.bmp_specs.proofs.OrderLaws.{key_total, key_exact, row_key_total, row_key_exact, same_or_other}

-- ---- a peer
-- two peers are one or not
pub same_key : (a b : KeyValue) → (a ≡ b) ⊎ ¬ (a ≡ b)
same_key = same_or_other key_cmp key_total key_exact

-- an effect that names a peer is an Up or a Down of it
pub names_cases : (key : KeyValue) (e : EffectValue) → Names key e → ((info : PeerInfoValue) × (e ≡ up key info)) ⊎ ((info : DownInfoValue) × (e ≡ down key info))
names_cases key (up k info) same = inl (info, ap (λ (j : KeyValue). up j info) same)
names_cases key (down k info) same = inr (info, ap (λ (j : KeyValue). down j info) same)
names_cases key _ n = absurd n

-- an effect names a peer or not
pub names_or_other : (key : KeyValue) (e : EffectValue) → Names key e ⊎ ¬ (Names key e)
names_or_other key (up k info) = same_key k key
names_or_other key (down k info) = same_key k key
names_or_other key _ = inr (λ n. n)

-- an effect names one peer at most
pub names_one : (j k : KeyValue) (e : EffectValue) → Names j e → Names k e → j ≡ k
names_one j k e p q = elim (names_cases j e p) [ inl h ↦ subst (Names k) h.1 q | inr h ↦ subst (Names k) h.1 q ]

-- ---- a row
abbrev IsThere : KeyValue → View → NlriValue → RowKeyValue → Type 0
IsThere key view nlri place = (key ≡ place.key) × (view ≡ place.view) × (nlri ≡ place.nlri)

there_or_not : (key : KeyValue) (view : View) (nlri : NlriValue) (place : RowKeyValue) → IsThere key view nlri place ⊎ ¬ (IsThere key view nlri place)
there_or_not key view nlri place = elim (same_or_other row_key_cmp row_key_total row_key_exact (record { key = key; view = view; nlri = nlri }) place) [
  | inl same ↦ inl (ap (λ (p : RowKeyValue). p.key) same, ap (λ (p : RowKeyValue). p.view) same, ap (λ (p : RowKeyValue). p.nlri) same)
  | inr other ↦ inr (λ t. other (λ i. record { key = t.0 i; view = t.1 i; nlri = t.2 i }))
]

-- an effect ends what stands at a place or not
pub replaces_row_or_other : (place : RowKeyValue) (e : EffectValue) → ReplacesRow place e ⊎ ¬ (ReplacesRow place e)
replaces_row_or_other place (up k info) = same_key k place.key
replaces_row_or_other place (down k info) = same_key k place.key
replaces_row_or_other place (announce k view nlri route) = there_or_not k view nlri place
replaces_row_or_other place (withdraw k view nlri) = there_or_not k view nlri place
replaces_row_or_other place _ = inr (λ n. n)

-- an Up or a Down of a peer ends its rows
pub named_replaces_row : (place : RowKeyValue) (e : EffectValue) → Names place.key e → ReplacesRow place e
named_replaces_row place e n = elim (names_cases place.key e n) [ inl h ↦ subst (ReplacesRow place) (sym h.1) refl | inr h ↦ subst (ReplacesRow place) (sym h.1) refl ]

-- and what else ends a row announces or withdraws a route at its place
pub replaces_row_cases : (place : RowKeyValue) (e : EffectValue) → ReplacesRow place e
    → Names place.key e ⊎ ((route : AttrsValue) × (e ≡ announce place.key place.view place.nlri route)) ⊎ (e ≡ withdraw place.key place.view place.nlri)
replaces_row_cases place (up k info) r = inl r
replaces_row_cases place (down k info) r = inl r
replaces_row_cases place (announce k view nlri route) r = inr (inl (route, λ i. announce (r.0 i) (r.1 i) (r.2 i) route))
replaces_row_cases place (withdraw k view nlri) r = inr (inr (λ i. withdraw (r.0 i) (r.1 i) (r.2 i)))
replaces_row_cases place _ r = absurd r

-- ---- a statistic
-- which statistic it is, without its value
pub record IsSameKind (a b : StatValue) : Type 0 where
  pub code : a.code ≡ b.code
  pub afi : a.afi ≡ b.afi
  pub safi : a.safi ≡ b.safi

same_number : (a b : ℕ) → (a ≡ b) ⊎ ¬ (a ≡ b)
same_number = same_or_other nat_cmp nat_cmp_total exact_unsigned

pub same_kind_or_other : (a b : StatValue) → IsSameKind a b ⊎ ¬ (IsSameKind a b)
same_kind_or_other a b = elim (same_number a.code b.code) [
  | inr other ↦ inr (λ s. other s.code)
  | inl code ↦ elim (same_number a.afi b.afi) [
    | inr other ↦ inr (λ s. other s.afi)
    | inl afi ↦ elim (same_number a.safi b.safi) [ inr other ↦ inr (λ s. other s.safi) | inl safi ↦ inl (record { code = code; afi = afi; safi = safi }) ]
  ]
]

-- an effect ends a statistic or not
pub replaces_statistic_or_other : (key : KeyValue) (stat : StatValue) (e : EffectValue) → ReplacesStatistic key stat e ⊎ ¬ (ReplacesStatistic key stat e)
replaces_statistic_or_other key stat (up k info) = same_key k key
replaces_statistic_or_other key stat (down k info) = same_key k key
replaces_statistic_or_other key stat (statistic k s) = elim (same_key k key) [
  | inr other ↦ inr (λ r. other r.0)
  | inl same ↦ elim (same_kind_or_other s stat) [ inr other ↦ inr (λ r. other (record { code = r.1; afi = r.2; safi = r.3 })) | inl kind ↦ inl (same, kind.code, kind.afi, kind.safi) ]
]
replaces_statistic_or_other key stat _ = inr (λ n. n)

-- an Up or a Down of a peer ends its statistics
pub named_replaces_statistic : (key : KeyValue) (stat : StatValue) (e : EffectValue) → Names key e → ReplacesStatistic key stat e
named_replaces_statistic key stat e n = elim (names_cases key e n) [ inl h ↦ subst (ReplacesStatistic key stat) (sym h.1) refl | inr h ↦ subst (ReplacesStatistic key stat) (sym h.1) refl ]

-- and what else ends a statistic is another one of its kind
pub replaces_statistic_cases : (key : KeyValue) (stat : StatValue) (e : EffectValue) → ReplacesStatistic key stat e → Names key e ⊎ ((other : StatValue) × (e ≡ statistic key other) × IsSameKind other stat)
replaces_statistic_cases key stat (up k info) r = inl r
replaces_statistic_cases key stat (down k info) r = inl r
replaces_statistic_cases key stat (statistic k s) r = inr (s, ap (λ (j : KeyValue). statistic j s) r.0, record { code = r.1; afi = r.2; safi = r.3 })
replaces_statistic_cases key stat _ r = absurd r

-- an Up or a Down of one peer ends no statistic of another
pub named_other_statistic : (k key : KeyValue) (stat : StatValue) (e : EffectValue) → Names k e → ¬ (key ≡ k) → ¬ (ReplacesStatistic key stat e)
named_other_statistic k key stat e n other r = elim (replaces_statistic_cases key stat e r) [
  | inl named ↦ other (names_one key k e named n)
  | inr h ↦ subst (Names k) h.1 n
]

-- nor a row of another
pub named_other_row : (k : KeyValue) (place : RowKeyValue) (e : EffectValue) → Names k e → ¬ (place.key ≡ k) → ¬ (ReplacesRow place e)
named_other_row k place e n other r = elim (replaces_row_cases place e r) [
  | inl named ↦ other (names_one place.key k e named n)
  | inr h ↦ elim h [ inl a ↦ subst (Names k) a.1 n | inr w ↦ subst (Names k) w n ]
]
