-- What Route Monitoring and Statistics Reports mean after what is known of their peer.
use Rattle.std.proofs.Common.{◌≡◌, eqb, ℕ, Bool, true, false, cond, not, ◌&&◌, List, [], ◌∷◌, ◌++◌, Some, None, sym, ap, subst, ◌∙◌}
use Rattle.std.specs.BTreeMap.{is_at}
use Rattle.bmp_specs.specs.declared.peers.View.{View}
use Rattle.bmp_specs.specs.ImpliedPeerUp.{implied_info, implied_opens}
use Rattle.bmp_specs.specs.LenientBody.{IsLenientUpdate, OfPeerLeniently}
use Rattle.bmp_specs.specs.LenientState.{is_untold, with_shown}
use Rattle.bmp_specs.specs.MessageBody.{route_monitoring, statistics_report}
use Rattle.bmp_specs.specs.MessageEffects.{effects_of}
use Rattle.bmp_specs.specs.Orders.{key_cmp}
use Rattle.bmp_specs.specs.PeerHeader.{HeaderValue, loc_rib, view_of}
use Rattle.bmp_specs.specs.Statistics.{IsStatistics}
use Rattle.bmp_specs.specs.UpdateForms.{FormsValue, as_agreed}
use Rattle.bmp_specs.specs.Values.{KeyValue, OpensValue, PeerInfoValue, StatisticsValue, UpdateValue, orphan, routes}
use Rattle.bmp_message.specs.Effects.{ReadsNothing}
use Rattle.bmp_message.specs.Lenient.{KnownPeers, UpPeerValue, forms_at, known_at, lenient_state, nothing_shown, opens_known, shown_known, told_known, up_if, with_forms}
use Rattle.bmp_message.specs.State.{opens_of}
use Rattle.bmp_message.proofs.KnownStates.{Kept, begins}
use Rattle.bmp_message.proofs.LenientTells.{no_report, no_report_of, no_routes_of, orphan_report, orphan_routes, tells_first, unreadable_first, unreadable_known}

module _ (peers : KnownPeers) (h : HeaderValue) (key : KeyValue) (rest : List ℕ) where
  -- no form in which an UPDATE message is read
  abbrev pub HasNoForm : OpensValue → FormsValue → Type 0
  HasNoForm opens last = (taken : FormsValue) (u : UpdateValue) → IsLenientUpdate opens h rest last taken u → ⊥

  -- nothing is known of the peer

  module _ (nothing : known_at peers key ≡ None) where
    down : (lenient_state peers).opens key ≡ None
    down = ap opens_known nothing

    fresh : (view : View) → as_agreed ≡ (lenient_state peers).shown key view
    fresh view = ap (λ (k : Kept). shown_known k view) (sym nothing)

    untold_as : (b : Bool) → eqb key.kind loc_rib ≡ b → is_untold (lenient_state peers) key ≡ b
    untold_as b e = ap (λ (k : Kept). not (told_known k) && eqb key.kind loc_rib) nothing ∙ e

    pub first_report : OfPeerLeniently statistics_report (lenient_state peers) h key rest (orphan ∷ []) (lenient_state peers)
    first_report = orphan_report (lenient_state peers) h key rest down

    -- and it is no Loc-RIB
    pub first_of_other : eqb key.kind loc_rib ≡ false → OfPeerLeniently route_monitoring (lenient_state peers) h key rest (orphan ∷ []) (lenient_state peers)
    first_of_other is_not = orphan_routes (lenient_state peers) h key rest down (untold_as false is_not)

    module _ (is_loc : eqb key.kind loc_rib ≡ true) (info : PeerInfoValue) (is_info : info ≡ implied_info h) (last : FormsValue) (agreed : last ≡ as_agreed) where
      moved : (taken : FormsValue) (u : UpdateValue) → IsLenientUpdate (opens_of info) h rest last taken u → IsLenientUpdate (implied_opens h) h rest ((lenient_state peers).shown key (view_of h)) taken u
      moved taken u is =
          subst (λ (f : FormsValue). IsLenientUpdate (implied_opens h) h rest f taken u) (agreed ∙ fresh (view_of h)) (subst (λ (i : PeerInfoValue). IsLenientUpdate (opens_of i) h rest last taken u) is_info is)

      back : (taken : FormsValue) (u : UpdateValue) → IsLenientUpdate (implied_opens h) h rest ((lenient_state peers).shown key (view_of h)) taken u → IsLenientUpdate (opens_of info) h rest last taken u
      back taken u is =
          subst (λ (i : PeerInfoValue). IsLenientUpdate (opens_of i) h rest last taken u) (sym is_info) (subst (λ (f : FormsValue). IsLenientUpdate (implied_opens h) h rest f taken u) (sym (agreed ∙ fresh (view_of h))) is)

      pub first_unreadable : HasNoForm (opens_of info) last → OfPeerLeniently route_monitoring (lenient_state peers) h key rest (orphan ∷ []) (lenient_state peers)
      first_unreadable none = unreadable_first (lenient_state peers) h key rest down (untold_as true is_loc) (λ taken u is. none taken u (back taken u is))

      pub first_tells : (new : KnownPeers) (peer : UpPeerValue) (view : View) (taken : FormsValue) → view ≡ view_of h → peer ≡ record { opens = opens_of info; told = false; shown = with_forms nothing_shown view taken }
          → ((q : KeyValue) → known_at new q ≡ cond (is_at (key_cmp key) q) (Some (Some peer)) (known_at peers q)) → (u : UpdateValue) → IsLenientUpdate (opens_of info) h rest last taken u
          → OfPeerLeniently route_monitoring (lenient_state peers) h key rest (up_if true key info ++ effects_of (routes key (view_of h) u)) (lenient_state new)
      first_tells new peer view taken is_view is_peer each u is =
          let after : lenient_state new ≡ with_shown (lenient_state peers) key view (opens_of info) taken = begins peers new key peer view taken (opens_of info) nothing is_peer each in
          let there : lenient_state new ≡ with_shown (lenient_state peers) key (view_of h) (implied_opens h) taken =
          after ∙ ap (λ (v : View). with_shown (lenient_state peers) key v (opens_of info) taken) is_view ∙ ap (λ (i : PeerInfoValue). with_shown (lenient_state peers) key (view_of h) (opens_of i) taken) is_info in
          subst (λ (i : PeerInfoValue). OfPeerLeniently route_monitoring (lenient_state peers) h key rest (up_if true key i ++ effects_of (routes key (view_of h) u)) (lenient_state new)) (sym is_info)
          (tells_first (lenient_state peers) h key rest (lenient_state new) down (untold_as true is_loc) taken u (moved taken u is) there)

  -- the peer is down
  pub down_report : known_at peers key ≡ Some None → OfPeerLeniently statistics_report (lenient_state peers) h key rest (orphan ∷ []) (lenient_state peers)
  down_report there = orphan_report (lenient_state peers) h key rest (ap opens_known there)

  pub down_orphan : known_at peers key ≡ Some None → OfPeerLeniently route_monitoring (lenient_state peers) h key rest (orphan ∷ []) (lenient_state peers)
  down_orphan there = orphan_routes (lenient_state peers) h key rest (ap opens_known there) (ap (λ (k : Kept). not (told_known k) && eqb key.kind loc_rib) there)

  -- the peer is up

  module _ (peer : UpPeerValue) (there : known_at peers key ≡ Some (Some peer)) where
    is_up : (lenient_state peers).opens key ≡ Some peer.opens
    is_up = ap opens_known there

    untold_is : is_untold (lenient_state peers) key ≡ (not peer.told && eqb key.kind loc_rib)
    untold_is = ap (λ (k : Kept). not (told_known k) && eqb key.kind loc_rib) there

    shown_is : (view : View) → forms_at peer.shown view ≡ (lenient_state peers).shown key view
    shown_is view = ap (λ (k : Kept). shown_known k view) (sym there)

    module _ (opens : OpensValue) (same : opens ≡ peer.opens) (last : FormsValue) (view : View) (is_last : last ≡ forms_at peer.shown view) (is_view : view ≡ view_of h) where
      last_is : last ≡ (lenient_state peers).shown key (view_of h)
      last_is = is_last ∙ shown_is view ∙ ap (λ (v : View). (lenient_state peers).shown key v) is_view

      none_so : HasNoForm opens last → HasNoForm peer.opens ((lenient_state peers).shown key (view_of h))
      none_so none taken u is = none taken u (subst (λ (o : OpensValue). IsLenientUpdate o h rest last taken u) (sym same) (subst (λ (f : FormsValue). IsLenientUpdate peer.opens h rest f taken u) (sym last_is) is))

      pub known_unreadable : (not peer.told && eqb key.kind loc_rib) ≡ true → HasNoForm opens last → OfPeerLeniently route_monitoring (lenient_state peers) h key rest (orphan ∷ []) (lenient_state peers)
      known_unreadable untold none = unreadable_known (lenient_state peers) h key rest peer.opens is_up (untold_is ∙ untold) (none_so none)

      pub known_broken : (not peer.told && eqb key.kind loc_rib) ≡ false → HasNoForm opens last → ReadsNothing (OfPeerLeniently route_monitoring (lenient_state peers) h key rest)
      known_broken told none = no_routes_of (lenient_state peers) h key rest peer.opens is_up (untold_is ∙ told) (none_so none)

    -- and its Statistics Reports

    pub known_no_report : (not peer.told && eqb key.kind loc_rib) ≡ true → ((r : StatisticsValue) → IsStatistics rest r → ⊥)
        → OfPeerLeniently statistics_report (lenient_state peers) h key rest (orphan ∷ []) (lenient_state peers)
    known_no_report untold none = no_report (lenient_state peers) h key rest peer.opens is_up (untold_is ∙ untold) none

    pub known_broken_report : (not peer.told && eqb key.kind loc_rib) ≡ false → ((r : StatisticsValue) → IsStatistics rest r → ⊥) → ReadsNothing (OfPeerLeniently statistics_report (lenient_state peers) h key rest)
    known_broken_report told none = no_report_of (lenient_state peers) h key rest peer.opens is_up (untold_is ∙ told) none
