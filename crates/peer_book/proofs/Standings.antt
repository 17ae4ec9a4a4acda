-- The effects that a book stands for, with one more.
use Rattle.std.proofs.Common.{◌≡◌, inl, inr, Bool, false, List, [], ◌∷◌, ◌++◌, Option, None, Some, refl, sym, ap, ◌∙◌, subst}
use Rattle.std.specs.Prelude.{◌↔◌, IsSome, IsTrue, is_some}
use Rattle.std.specs.BTreeMap.{is_at}
use Rattle.std.specs.Map.{set_value}
use Rattle.std.specs.Option.{option_map, option_map_or}
use Rattle.std.proofs.lemmas.Map.Steps.{set_value_same}
use mathlib.Core.Logic.Iff.{trans as then_iff}
use Rattle.bmp_specs.specs.declared.wire.Family.{Family}
use Rattle.bmp_specs.specs.declared.peers.View.{View}
use Rattle.bmp_specs.specs.Orders.{key_cmp, view_cmp, family_cmp}
use Rattle.bmp_specs.specs.Values.{KeyValue, PeerInfoValue, DownInfoValue, EffectValue, up, down, mark}
use Rattle.bmp_specs.specs.Complete.{IsComplete}
use Rattle.bmp_specs.specs.PeerUp.{Names, IsNamed, IsUpWith, IsDownWith, IsUp, StateValue, up_state, down_state}
use Rattle.bmp_specs.proofs.CompleteLaws.{complete_now}
use Rattle.bmp_specs.proofs.OrderLaws.{key_total, key_exact, view_total, view_exact, family_total, family_exact, same_or_other}
use Rattle.bmp_specs.proofs.PairLookups.{inserted_here, inserted_elsewhere, set_here, set_elsewhere}
use Rattle.bmp_specs.proofs.PeerLaws.{none_up, none_down, none_complete, named_up, named_down, named_cases, down_one, up_with_now, down_with_now, up_ends_down, down_ends_up, named_ends_complete, up_kept, down_kept, complete_kept}
use Rattle.bmp_specs.proofs.RowLaws.{up_one}
use Rattle.peer_book.specs.declared.marks.Marks.{Marks}
use Rattle.peer_book.specs.Marks.{no_marks, is_marked, marked}
use Rattle.peer_book.specs.Peers.{Peers, PeerValue, up_peer, down_peer, state_of, is_up_peer, is_complete_peer, marked_peer, peer_at, state_at, is_up_at, is_complete_at, with_peer, with_peer_there, with_mark}
use Rattle.peer_book.specs.Standing.{StandsForPeers}
use Rattle.peer_book.proofs.MarkLaws.{none_marked, marked_here, marked_other_view, marked_other_family}

-- a key is named where it is up or down
named_by : (peers : Peers) (es : List EffectValue) → ((key : KeyValue) (info : PeerInfoValue) → (state_at peers key ≡ Some (up_state info)) ↔ IsUpWith es key info)
    → ((key : KeyValue) (info : DownInfoValue) → (state_at peers key ≡ Some (down_state info)) ↔ IsDownWith es key info) → (key : KeyValue) → IsSome (state_at peers key) ↔ IsNamed es key
named_by peers es ups downs key = (forth (state_at peers key) refl, back)
  where
    forth : (o : Option StateValue) → state_at peers key ≡ o → IsSome o → IsNamed es key
    forth None is some = absurd cc
    forth (Some (up_state info)) is some = named_up es key info ((ups key info).0 is)
    forth (Some (down_state info)) is some = named_down es key info ((downs key info).0 is)

    back : IsNamed es key → IsSome (state_at peers key)
    back n = elim (named_cases es key n) [
      | inl u ↦ ap is_some ((ups key u.0).1 u.1)
      | inr d ↦ ap is_some ((downs key d.0).1 d.1)
    ]

stands_by : (peers : Peers) (es : List EffectValue) → ((key : KeyValue) (info : PeerInfoValue) → (state_at peers key ≡ Some (up_state info)) ↔ IsUpWith es key info)
    → ((key : KeyValue) (info : DownInfoValue) → (state_at peers key ≡ Some (down_state info)) ↔ IsDownWith es key info)
    → ((key : KeyValue) (view : View) (family : Family) → IsTrue (is_complete_at peers key view family) ↔ IsComplete es key view family) → StandsForPeers peers es
stands_by peers es ups downs completes = record { up = ups; down = downs; named = named_by peers es ups downs; complete = completes }

-- no effect names a peer
pub stands_empty : StandsForPeers [] []
stands_empty = stands_by [] [] (λ key info. (λ h. absurd cc, λ l. absurd (none_up key info l))) (λ key info. (λ h. absurd cc, λ l. absurd (none_down key info l)))
    (λ key view family. (λ h. absurd cc, λ c. absurd (none_complete key view family c)))

-- an effect that is no Up, Down or Mark changes nothing
pub stands_still : (peers : Peers) (es : List EffectValue) (e : EffectValue) → ((key : KeyValue) → ¬ (Names key e)) → ((key : KeyValue) (view : View) (family : Family) → ¬ (e ≡ mark key view family))
    → StandsForPeers peers es → StandsForPeers peers (es ++ e ∷ [])
stands_still peers es e unnamed unmarked h =
    stands_by peers (es ++ e ∷ []) (λ key info. then_iff (h.up key info) (up_kept es e key (unnamed key) info))
    (λ key info. then_iff (h.down key info) (down_kept es e key (unnamed key) info))
    (λ key view family. then_iff (h.complete key view family) (complete_kept es e key (unnamed key) view family (λ m. unmarked key view family m.0)))

-- an effect that names one peer, whose place in the book is taken
stands_replaced : (peers : Peers) (es : List EffectValue) (e : EffectValue) (k : KeyValue) (peer : PeerValue) → ((key : KeyValue) → ¬ (key ≡ k) → ¬ (Names key e))
    → ((key : KeyValue) (view : View) (family : Family) → ¬ (e ≡ mark key view family)) → StandsForPeers peers es
    → ((info : PeerInfoValue) → (Some (state_of peer) ≡ Some (up_state info)) ↔ IsUpWith (es ++ e ∷ []) k info)
    → ((info : DownInfoValue) → (Some (state_of peer) ≡ Some (down_state info)) ↔ IsDownWith (es ++ e ∷ []) k info)
    → ((view : View) (family : Family) → IsTrue (is_complete_peer peer view family) ↔ IsComplete (es ++ e ∷ []) k view family)
    → StandsForPeers (with_peer peers k peer) (es ++ e ∷ [])
stands_replaced peers es e k peer unnamed unmarked h ups downs completes = stands_by (with_peer peers k peer) (es ++ e ∷ []) to_up to_down to_complete
  where
    here : peer_at (with_peer peers k peer) k ≡ Some peer
    here = inserted_here key_cmp key_total key_exact peers k peer

    elsewhere : (key : KeyValue) → ¬ (key ≡ k) → peer_at (with_peer peers k peer) key ≡ peer_at peers key
    elsewhere key other = inserted_elsewhere key_cmp key_total key_exact peers k peer key other

    to_up : (key : KeyValue) (info : PeerInfoValue) → (state_at (with_peer peers k peer) key ≡ Some (up_state info)) ↔ IsUpWith (es ++ e ∷ []) key info
    to_up key info = elim (same_or_other key_cmp key_total key_exact key k) [
      | inl same ↦ subst (λ (j : KeyValue). (state_at (with_peer peers k peer) j ≡ Some (up_state info)) ↔ IsUpWith (es ++ e ∷ []) j info) (sym same)
          (subst (λ (o : Option PeerValue). (option_map state_of o ≡ Some (up_state info)) ↔ IsUpWith (es ++ e ∷ []) k info) (sym here) (ups info))
      | inr other ↦ subst (λ (o : Option PeerValue). (option_map state_of o ≡ Some (up_state info)) ↔ IsUpWith (es ++ e ∷ []) key info) (sym (elsewhere key other))
          (then_iff (h.up key info) (up_kept es e key (unnamed key other) info))
    ]

    to_down : (key : KeyValue) (info : DownInfoValue) → (state_at (with_peer peers k peer) key ≡ Some (down_state info)) ↔ IsDownWith (es ++ e ∷ []) key info
    to_down key info = elim (same_or_other key_cmp key_total key_exact key k) [
      | inl same ↦ subst (λ (j : KeyValue). (state_at (with_peer peers k peer) j ≡ Some (down_state info)) ↔ IsDownWith (es ++ e ∷ []) j info) (sym same)
          (subst (λ (o : Option PeerValue). (option_map state_of o ≡ Some (down_state info)) ↔ IsDownWith (es ++ e ∷ []) k info) (sym here) (downs info))
      | inr other ↦ subst (λ (o : Option PeerValue). (option_map state_of o ≡ Some (down_state info)) ↔ IsDownWith (es ++ e ∷ []) key info) (sym (elsewhere key other))
          (then_iff (h.down key info) (down_kept es e key (unnamed key other) info))
    ]

    to_complete : (key : KeyValue) (view : View) (family : Family) → IsTrue (is_complete_at (with_peer peers k peer) key view family) ↔ IsComplete (es ++ e ∷ []) key view family
    to_complete key view family = elim (same_or_other key_cmp key_total key_exact key k) [
      | inl same ↦ subst (λ (j : KeyValue). IsTrue (is_complete_at (with_peer peers k peer) j view family) ↔ IsComplete (es ++ e ∷ []) j view family) (sym same)
          (subst (λ (o : Option PeerValue). IsTrue (option_map_or (λ p. is_complete_peer p view family) o false) ↔ IsComplete (es ++ e ∷ []) k view family) (sym here) (completes view family))
      | inr other ↦ subst (λ (o : Option PeerValue). IsTrue (option_map_or (λ p. is_complete_peer p view family) o false) ↔ IsComplete (es ++ e ∷ []) key view family) (sym (elsewhere key other))
          (then_iff (h.complete key view family) (complete_kept es e key (unnamed key other) view family (λ m. unmarked key view family m.0)))
    ]

pub stands_up : (peers : Peers) (es : List EffectValue) (k : KeyValue) (info : PeerInfoValue) → StandsForPeers peers es → StandsForPeers (with_peer peers k (up_peer info no_marks)) (es ++ up k info ∷ [])
stands_up peers es k info h = stands_replaced peers es (up k info) k (up_peer info no_marks) (λ key other n. other (sym n)) (λ key view family is. cc) h ups downs completes
  where
    now : IsUpWith (es ++ up k info ∷ []) k info
    now = up_with_now es k info

    ups : (i : PeerInfoValue) → (Some (up_state info) ≡ Some (up_state i)) ↔ IsUpWith (es ++ up k info ∷ []) k i
    ups i = (λ is. let same : info ≡ i = cc in subst (λ (j : PeerInfoValue). IsUpWith (es ++ up k info ∷ []) k j) same now, λ l. ap (λ (j : PeerInfoValue). Some (up_state j)) (up_one (es ++ up k info ∷ []) k info i now l))

    downs : (i : DownInfoValue) → (Some (up_state info) ≡ Some (down_state i)) ↔ IsDownWith (es ++ up k info ∷ []) k i
    downs i = (λ is. absurd cc, λ l. absurd (up_ends_down es k info i l))

    completes : (view : View) (family : Family) → IsTrue (is_marked no_marks view family) ↔ IsComplete (es ++ up k info ∷ []) k view family
    completes view family = (λ is. let none : is_marked no_marks view family ≡ false = none_marked view family in absurd cc, λ c. absurd (named_ends_complete es k (up k info) view family refl c))

pub stands_down : (peers : Peers) (es : List EffectValue) (k : KeyValue) (info : DownInfoValue) → StandsForPeers peers es → StandsForPeers (with_peer peers k (down_peer info)) (es ++ down k info ∷ [])
stands_down peers es k info h = stands_replaced peers es (down k info) k (down_peer info) (λ key other n. other (sym n)) (λ key view family is. cc) h ups downs completes
  where
    now : IsDownWith (es ++ down k info ∷ []) k info
    now = down_with_now es k info

    ups : (i : PeerInfoValue) → (Some (down_state info) ≡ Some (up_state i)) ↔ IsUpWith (es ++ down k info ∷ []) k i
    ups i = (λ is. absurd cc, λ l. absurd (down_ends_up es k info (i, l)))

    downs : (i : DownInfoValue) → (Some (down_state info) ≡ Some (down_state i)) ↔ IsDownWith (es ++ down k info ∷ []) k i
    downs i = (λ is. let same : info ≡ i = cc in subst (λ (j : DownInfoValue). IsDownWith (es ++ down k info ∷ []) k j) same now, λ l. ap (λ (j : DownInfoValue). Some (down_state j)) (down_one (es ++ down k info ∷ []) k info i now l))

    completes : (view : View) (family : Family) → IsTrue false ↔ IsComplete (es ++ down k info ∷ []) k view family
    completes view family = (λ is. absurd cc, λ c. absurd (named_ends_complete es k (down k info) view family refl c))

-- a mark of a peer that isn't up changes nothing
unmarked : (peers : Peers) (es : List EffectValue) (k : KeyValue) (view : View) (family : Family) → ¬ (IsUp es k) → StandsForPeers peers es → StandsForPeers peers (es ++ mark k view family ∷ [])
unmarked peers es k view family not_up h =
    stands_by peers (es ++ mark k view family ∷ []) (λ key info. then_iff (h.up key info) (up_kept es (mark k view family) key (λ n. n) info))
    (λ key info. then_iff (h.down key info) (down_kept es (mark k view family) key (λ n. n) info))
    (λ key w g. then_iff (h.complete key w g) (complete_kept es (mark k view family) key (λ n. n) w g (λ m. let same : k ≡ key = (let is : mark k view family ≡ mark key w g = m.0 in cc) in not_up (subst (IsUp es) (sym same) m.1))))

-- a mark of a peer that is up is set
mark_set : (peers : Peers) (es : List EffectValue) (k : KeyValue) (view : View) (family : Family) (info : PeerInfoValue) (marks : Marks) → peer_at peers k ≡ Some (up_peer info marks)
    → StandsForPeers peers es → StandsForPeers (set_value (is_at (key_cmp k)) peers (up_peer info (marked marks view family))) (es ++ mark k view family ∷ [])
mark_set peers es k view family info marks is h = stands_by next after to_up to_down to_complete
  where
    next : Peers
    next = set_value (is_at (key_cmp k)) peers (up_peer info (marked marks view family))

    after : List EffectValue
    after = es ++ mark k view family ∷ []

    here : peer_at next k ≡ Some (up_peer info (marked marks view family))
    here = set_here key_cmp key_total key_exact peers k (up_peer info marks) (up_peer info (marked marks view family)) is

    elsewhere : (key : KeyValue) → ¬ (key ≡ k) → peer_at next key ≡ peer_at peers key
    elsewhere key other = set_elsewhere key_cmp key_total key_exact peers k (up_peer info marks) (up_peer info (marked marks view family)) is key other

    same_state : (key : KeyValue) → state_at next key ≡ state_at peers key
    same_state key = elim (same_or_other key_cmp key_total key_exact key k) [
      | inl same ↦ subst (λ (j : KeyValue). state_at next j ≡ state_at peers j) (sym same) (ap (option_map state_of) here ∙ sym (ap (option_map state_of) is))
      | inr other ↦ ap (option_map state_of) (elsewhere key other)
    ]

    to_up : (key : KeyValue) (i : PeerInfoValue) → (state_at next key ≡ Some (up_state i)) ↔ IsUpWith after key i
    to_up key i = subst (λ (o : Option StateValue). (o ≡ Some (up_state i)) ↔ IsUpWith after key i) (sym (same_state key)) (then_iff (h.up key i) (up_kept es (mark k view family) key (λ n. n) i))

    to_down : (key : KeyValue) (i : DownInfoValue) → (state_at next key ≡ Some (down_state i)) ↔ IsDownWith after key i
    to_down key i = subst (λ (o : Option StateValue). (o ≡ Some (down_state i)) ↔ IsDownWith after key i) (sym (same_state key)) (then_iff (h.down key i) (down_kept es (mark k view family) key (λ n. n) i))

    is_up : IsUp es k
    is_up = (info, (h.up k info).0 (ap (option_map state_of) is))

    unchanged : (w : View) (g : Family) → ¬ (mark k view family ≡ mark k w g) → IsTrue (is_marked marks w g) ↔ IsComplete after k w g
    unchanged w g apart =
        then_iff (subst (λ (o : Option PeerValue). IsTrue (option_map_or (λ p. is_complete_peer p w g) o false) ↔ IsComplete es k w g) is (h.complete k w g))
        (complete_kept es (mark k view family) k (λ n. n) w g (λ m. apart m.0))

    at_view : (g : Family) → IsTrue (is_marked (marked marks view family) view g) ↔ IsComplete after k view g
    at_view g = elim (same_or_other family_cmp family_total family_exact g family) [
      | inl same ↦ subst (λ (j : Family). IsTrue (is_marked (marked marks view family) view j) ↔ IsComplete after k view j) (sym same)
          (λ _. complete_now es k view family is_up, λ _. marked_here marks view family)
      | inr other ↦ subst (λ (b : Bool). IsTrue b ↔ IsComplete after k view g) (sym (marked_other_family marks view family g other))
          (unchanged view g (λ m. other (let same : family ≡ g = cc in sym same)))
    ]

    at_key : (w : View) (g : Family) → IsTrue (is_marked (marked marks view family) w g) ↔ IsComplete after k w g
    at_key w g = elim (same_or_other view_cmp view_total view_exact w view) [
      | inl same ↦ subst (λ (j : View). IsTrue (is_marked (marked marks view family) j g) ↔ IsComplete after k j g) (sym same) (at_view g)
      | inr other ↦ subst (λ (b : Bool). IsTrue b ↔ IsComplete after k w g) (sym (marked_other_view marks view w family g other))
          (unchanged w g (λ m. other (let same : view ≡ w = cc in sym same)))
    ]

    to_complete : (key : KeyValue) (w : View) (g : Family) → IsTrue (is_complete_at next key w g) ↔ IsComplete after key w g
    to_complete key w g = elim (same_or_other key_cmp key_total key_exact key k) [
      | inl same ↦ subst (λ (j : KeyValue). IsTrue (is_complete_at next j w g) ↔ IsComplete after j w g) (sym same)
          (subst (λ (o : Option PeerValue). IsTrue (option_map_or (λ p. is_complete_peer p w g) o false) ↔ IsComplete after k w g) (sym here) (at_key w g))
      | inr other ↦ subst (λ (o : Option PeerValue). IsTrue (option_map_or (λ p. is_complete_peer p w g) o false) ↔ IsComplete after key w g) (sym (elsewhere key other))
          (then_iff (h.complete key w g) (complete_kept es (mark k view family) key (λ n. n) w g (λ m. other (let same : k ≡ key = (let e : mark k view family ≡ mark key w g = m.0 in cc) in sym same))))
    ]

pub stands_marked : (peers : Peers) (es : List EffectValue) (k : KeyValue) (view : View) (family : Family) → StandsForPeers peers es → StandsForPeers (with_mark peers k view family) (es ++ mark k view family ∷ [])
stands_marked peers es k view family h = go (peer_at peers k) refl
  where
    not_up : (o : Option StateValue) → state_at peers k ≡ o → ((info : PeerInfoValue) → ¬ (o ≡ Some (up_state info))) → ¬ (IsUp es k)
    not_up o is other u = other u.0 (sym is ∙ (h.up k u.0).1 u.1)

    go : (o : Option PeerValue) → peer_at peers k ≡ o → StandsForPeers (with_peer_there peers k (option_map (λ p. marked_peer p view family) o)) (es ++ mark k view family ∷ [])
    go None is = unmarked peers es k view family (not_up None (ap (option_map state_of) is) (λ info e. cc)) h
    go (Some (up_peer info marks)) is = mark_set peers es k view family info marks is h
    go (Some (down_peer info)) is =
        subst (λ (ps : Peers). StandsForPeers ps (es ++ mark k view family ∷ [])) (sym (set_value_same (is_at (key_cmp k)) peers (down_peer info) is))
        (unmarked peers es k view family (not_up (Some (down_state info)) (ap (option_map state_of) is) (λ i e. cc)) h)

-- which peers are up
pub up_stands : (peers : Peers) (es : List EffectValue) (key : KeyValue) → StandsForPeers peers es → IsTrue (is_up_at peers key) ↔ IsUp es key
up_stands peers es key h = (forth (peer_at peers key) refl, λ u. back (peer_at peers key) u.0 ((h.up key u.0).1 u.1))
  where
    forth : (o : Option PeerValue) → peer_at peers key ≡ o → IsTrue (option_map_or is_up_peer o false) → IsUp es key
    forth None is set = absurd cc
    forth (Some (up_peer info marks)) is set = (info, (h.up key info).0 (ap (option_map state_of) is))
    forth (Some (down_peer info)) is set = absurd cc

    back : (o : Option PeerValue) (info : PeerInfoValue) → option_map state_of o ≡ Some (up_state info) → IsTrue (option_map_or is_up_peer o false)
    back None info is = absurd cc
    back (Some (up_peer other marks)) info is = refl
    back (Some (down_peer other)) info is = absurd cc
