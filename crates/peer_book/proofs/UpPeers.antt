-- The peers of a book that are up are those whose last Peer Up or Peer Down was a Peer Up.
use Rattle.std.proofs.Common.{◌≡◌, inl, inr, ℕ, ◌<◌, ◌^◌, suc, Bool, true, false, cond, List, [], ◌∷◌, length, map, Option, None, Some, refl, sym, ap, ◌∙◌, subst, arith}
use Rattle.std.specs.declared.cmp.Ordering.TheVariants.{Less}
use Rattle.std.specs.Cmp.{eq_by_cmp_equiv}
use Rattle.std.specs.List.{AllByRecursion, Contains, filter}
use Rattle.std.specs.List.Sorted.{IsStrictlySortedBy}
use Rattle.std.specs.Map.{keys_of}
use Rattle.std.specs.Option.{option_map}
use Rattle.std.proofs.lemmas.Bool.{cond_both, false≢true}
use Rattle.std.proofs.lemmas.Map.Keys.{IsDistinct-from_sorted}
use Rattle.std.proofs.lemmas.Map.Views.{Contains-from_lookup, lookup-from_Contains, tells_apart}
use Rattle.bmp_specs.specs.Listed.{AreAll}
use Rattle.bmp_specs.specs.Orders.{key_cmp}
use Rattle.bmp_specs.specs.PeerUp.{up_state, IsUp}
use Rattle.bmp_specs.specs.Reply.{told_count}
use Rattle.bmp_specs.specs.Values.{KeyValue, PeerInfoValue, EffectValue}
use Rattle.bmp_specs.proofs.ListedOne.{contains_cases, contains_first, contains_later}
use Rattle.bmp_specs.proofs.OrderLaws.{key_total, key_exact}
use Rattle.peer_book.specs.Peers.{Peers, PeerValue, up_peer, down_peer, is_up_peer, peer_at, state_of, up_keys}
use Rattle.peer_book.specs.Standing.{StandsForPeers}

-- ---- the keys that are up, in their order
keys_below : (P : KeyValue → Type 0) (peers : Peers) → AllByRecursion P (keys_of peers) → AllByRecursion P (map (λ key. key) (up_keys peers))
keys_below P [] a = tt
keys_below P (e ∷ es) a = cond_both (is_up_peer e.1) (e ∷ filter (λ d. is_up_peer d.1) es) (filter (λ d. is_up_peer d.1) es) (λ (l : Peers). AllByRecursion P (map (λ key. key) (map (λ d. d.0) l)))
    (λ kept. (a.0, keys_below P es a.1)) (λ passed. keys_below P es a.1)

up_ordered : (peers : Peers) → IsStrictlySortedBy key_cmp (keys_of peers) → IsStrictlySortedBy key_cmp (map (λ key. key) (up_keys peers))
unfolding IsStrictlySortedBy
up_ordered [] s = tt
up_ordered (e ∷ es) s = cond_both (is_up_peer e.1) (e ∷ filter (λ d. is_up_peer d.1) es) (filter (λ d. is_up_peer d.1) es) (λ (l : Peers). IsStrictlySortedBy key_cmp (map (λ key. key) (map (λ d. d.0) l)))
    (λ kept. (keys_below (λ k. key_cmp e.0 k ≡ Less) es s.0, up_ordered es s.1)) (λ passed. up_ordered es s.1)

-- ---- and which they are
from_up : (peers : Peers) (key : KeyValue) → Contains (up_keys peers) key → (p : PeerValue) × Contains peers (key, p) × (is_up_peer p ≡ true)
from_up [] key c = absurd (omega (arith, c.1))
from_up (e ∷ es) key c = cond_both (is_up_peer e.1) (e ∷ filter (λ d. is_up_peer d.1) es) (filter (λ d. is_up_peer d.1) es) (λ (l : Peers). Contains (map (λ d. d.0) l) key → (p : PeerValue) × Contains (e ∷ es) (key, p) × (is_up_peer p ≡ true))
    (λ kept d. elim (contains_cases e.0 (up_keys es) key d) [
      | inl is ↦ (e.1, subst (λ (k : KeyValue). Contains (e ∷ es) (k, e.1)) is (contains_first e es), kept)
      | inr later ↦ let h = from_up es key later in (h.0, contains_later e es (key, h.0) h.1, h.2)
    ])
    (λ passed d. let h = from_up es key d in (h.0, contains_later e es (key, h.0) h.1, h.2))
    c

to_up : (peers : Peers) (key : KeyValue) (p : PeerValue) → Contains peers (key, p) → is_up_peer p ≡ true → Contains (up_keys peers) key
to_up [] key p c up = absurd (omega (arith, c.1))
to_up (e ∷ es) key p c up = cond_both (is_up_peer e.1) (e ∷ filter (λ d. is_up_peer d.1) es) (filter (λ d. is_up_peer d.1) es) (λ (l : Peers). Contains (map (λ d. d.0) l) key)
    (λ kept. elim (contains_cases e es (key, p) c) [
      | inl is ↦ subst (Contains (e.0 ∷ up_keys es)) (ap (λ (d : KeyValue × PeerValue). d.0) is) (contains_first e.0 (up_keys es))
      | inr later ↦ contains_later e.0 (up_keys es) key (to_up es key p later up)
    ])
    (λ passed. elim (contains_cases e es (key, p) c) [
      | inl is ↦ absurd (false≢true (sym passed ∙ ap (λ (d : KeyValue × PeerValue). is_up_peer d.1) is ∙ up))
      | inr later ↦ to_up es key p later up
    ])

-- ---- of a book that stands for these effects
module _ (peers : Peers) (effects : List EffectValue) (ordered : IsStrictlySortedBy key_cmp (keys_of peers)) (stands : StandsForPeers peers effects) where
  up_since : (key : KeyValue) (p : PeerValue) → peer_at peers key ≡ Some p → is_up_peer p ≡ true → IsUp effects key
  up_since key (up_peer info marks) there up = (info, (stands.up key info).0 (ap (option_map state_of) there))
  up_since key (down_peer info) there up = absurd cc

  up_there : (o : Option PeerValue) (info : PeerInfoValue) → option_map state_of o ≡ Some (up_state info) → (p : PeerValue) × (o ≡ Some p) × (is_up_peer p ≡ true)
  up_there None info is = absurd cc
  up_there (Some (up_peer other marks)) info is = (up_peer other marks, refl, refl)
  up_there (Some (down_peer other)) info is = absurd cc

  pub all_up : AreAll (λ key. key) key_cmp (IsUp effects) (up_keys peers)
  all_up = record {
    ordered = up_ordered peers ordered;
    exact = λ key. (
      λ c. let h = from_up peers key c in up_since key h.0 (lookup-from_Contains (eq_by_cmp_equiv key_total) key h.0 peers (IsDistinct-from_sorted key_cmp (keys_of peers) ordered) h.1) h.2,
      λ up. let h = up_there (peer_at peers key) up.0 ((stands.up key up.0).1 up.1) in to_up peers key h.0 (Contains-from_lookup (tells_apart key_exact) key h.0 peers h.1) h.2,
    );
  }

-- ---- how many they are
up_length : (peers : Peers) → length (filter is_up_peer (map (λ e. e.1) peers)) ≡ length (up_keys peers)
up_length [] = refl
up_length (e ∷ es) = go (is_up_peer e.1) (up_length es)
  where
    go : (b : Bool) → length (filter is_up_peer (map (λ d. d.1) es)) ≡ length (up_keys es)
        → length (cond b (e.1 ∷ filter is_up_peer (map (λ d. d.1) es)) (filter is_up_peer (map (λ d. d.1) es))) ≡ length (map (λ d. d.0) (cond b (e ∷ filter (λ d. is_up_peer d.1) es) (filter (λ d. is_up_peer d.1) es)))
    go true rest = ap suc rest
    go false rest = rest

pub up_counted : (peers : Peers) (n : ℕ) → n < 2 ^ 64 → n ≡ length (filter is_up_peer (map (λ e. e.1) peers)) → n ≡ told_count (length (up_keys peers))
up_counted peers n fits is = omega (arith, fits, is, up_length peers)
