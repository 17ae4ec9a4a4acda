-- The messages that were written are those of a word.
use Rattle.std.proofs.Common.{◌≡◌, ℕ, ◌≤◌, Bool, true, false, List, [], ◌∷◌, sym, subst, ◌∙◌, arith}
use Rattle.bmp_specs.specs.declared.peers.View.TheVariants.{InPre}
use Rattle.bmp_specs.specs.declared.wire.Family.TheVariants.{V4}
use Rattle.bmp_specs.specs.Values.{AttrsValue, KeyValue, NlriValue, PeerInfoValue}
use Rattle.bmp_writer.specs.PeerMessage.{IsPeerMessage, first_view, mark_update}
use Rattle.bmp_writer.specs.PeerUpMessage.{IsUpMessage}
use Rattle.bmp_writer.specs.Written.{Appends, peer_down_type, route_monitoring_type}
use Rattle.bmp_writer.specs.WrittenRoutes.{IsRoutesMessage}
use Rattle.bmp_specs.specs.TreatAsWithdraw.{no_attributes}
use Rattle.drill_streams.specs.Drawn.{attrs_of, choice_of, peer_of, prefix_of}
use Rattle.drill_streams.specs.Messages.{IsMessageOf, IsUp, closed_remotely}
use Rattle.drill_streams.specs.Peers.{peer_info, peer_key}

pub down_put : (p : ℕ) (key : KeyValue) → key ≡ peer_key p → (old new : List ℕ) → Appends (IsPeerMessage peer_down_type key (first_view key.kind) (4 ∷ [])) old new
    → Appends (IsPeerMessage peer_down_type (peer_key p) InPre (closed_remotely ∷ [])) old new
down_put p key same old new put = subst (λ (k : KeyValue). Appends (IsPeerMessage peer_down_type k (first_view k.kind) (4 ∷ [])) old new) same put

pub up_put : (p : ℕ) (key : KeyValue) (info : PeerInfoValue) → key ≡ peer_key p → info ≡ peer_info p → (old new : List ℕ) → Appends (IsUpMessage key info) old new → Appends (λ bytes. IsUp bytes p) old new
up_put p key info k i old new put =
    subst (λ (x : KeyValue). Appends (IsUpMessage x (peer_info p)) old new) k (subst (λ (x : PeerInfoValue). Appends (IsUpMessage key x) old new) i put)

-- the same routes of the same peer
pub routes_put : (key k : KeyValue) (withdrawn w announced a : List NlriValue) (attrs t : AttrsValue) → k ≡ key → w ≡ withdrawn → a ≡ announced → t ≡ attrs → (old new : List ℕ)
    → Appends (IsRoutesMessage k InPre w a t) old new → Appends (IsRoutesMessage key InPre withdrawn announced attrs) old new
routes_put key k withdrawn w announced a attrs t e1 e2 e3 e4 old new put =
    subst (λ (x : KeyValue). Appends (IsRoutesMessage x InPre withdrawn announced attrs) old new) e1
    (subst (λ (x : List NlriValue). Appends (IsRoutesMessage k InPre x announced attrs) old new) e2
    (subst (λ (x : List NlriValue). Appends (IsRoutesMessage k InPre w x attrs) old new) e3 (subst (λ (x : AttrsValue). Appends (IsRoutesMessage k InPre w a x) old new) e4 put)))

-- each choice
pub down_of : (w p : ℕ) → p ≡ peer_of w → (is_up : Bool) (old new : List ℕ) → choice_of w ≡ 0 → is_up ≡ true → Appends (IsPeerMessage peer_down_type (peer_key p) InPre (closed_remotely ∷ [])) old new
    → Appends (IsMessageOf is_up w) old new
down_of w p same is_up old new c up (bytes, joined, is) = (
  bytes,
  joined,
  record {
    down = λ _ _. subst (λ (q : ℕ). IsPeerMessage peer_down_type (peer_key q) InPre (closed_remotely ∷ []) bytes) same is;
    up = λ _ down. let both : true ≡ false = sym up ∙ down in absurd cc;
    mark = λ one. absurd (omega (arith, c, one));
    withdrawal = λ from _. absurd (omega (arith, c, from));
    announcement = λ from. absurd (omega (arith, c, from));
  },
)

pub up_of : (w p : ℕ) → p ≡ peer_of w → (is_up : Bool) (old new : List ℕ) → choice_of w ≡ 0 → is_up ≡ false → Appends (λ bytes. IsUp bytes p) old new → Appends (IsMessageOf is_up w) old new
up_of w p same is_up old new c down (bytes, joined, is) = (
  bytes,
  joined,
  record {
    down = λ _ up. let both : true ≡ false = sym up ∙ down in absurd cc;
    up = λ _ _. subst (λ (q : ℕ). IsUp bytes q) same is;
    mark = λ one. absurd (omega (arith, c, one));
    withdrawal = λ from _. absurd (omega (arith, c, from));
    announcement = λ from. absurd (omega (arith, c, from));
  },
)

pub mark_of : (w : ℕ) (is_up : Bool) (key : KeyValue) → key ≡ peer_key (peer_of w) → (old new : List ℕ) → choice_of w ≡ 1 → Appends (IsPeerMessage route_monitoring_type key InPre (mark_update V4)) old new
    → Appends (IsMessageOf is_up w) old new
mark_of w is_up key same old new c (bytes, joined, is) = (
  bytes,
  joined,
  record {
    down = λ none _. absurd (omega (arith, c, none));
    up = λ none _. absurd (omega (arith, c, none));
    mark = λ _. subst (λ (k : KeyValue). IsPeerMessage route_monitoring_type k InPre (mark_update V4) bytes) same is;
    withdrawal = λ from _. absurd (omega (arith, c, from));
    announcement = λ from. absurd (omega (arith, c, from));
  },
)

pub withdrawal_of : (w : ℕ) (is_up : Bool) (old new : List ℕ) → 2 ≤ choice_of w → choice_of w ≤ 5 → Appends (IsRoutesMessage (peer_key (peer_of w)) InPre (prefix_of w ∷ []) [] no_attributes) old new
    → Appends (IsMessageOf is_up w) old new
withdrawal_of w is_up old new low high (bytes, joined, is) = (
  bytes,
  joined,
  record {
    down = λ none _. absurd (omega (arith, low, none));
    up = λ none _. absurd (omega (arith, low, none));
    mark = λ one. absurd (omega (arith, low, one));
    withdrawal = λ _ _. is;
    announcement = λ from. absurd (omega (arith, high, from));
  },
)

pub announcement_of : (w : ℕ) (is_up : Bool) (old new : List ℕ) → 6 ≤ choice_of w → Appends (IsRoutesMessage (peer_key (peer_of w)) InPre [] (prefix_of w ∷ []) (attrs_of w)) old new
    → Appends (IsMessageOf is_up w) old new
announcement_of w is_up old new low (bytes, joined, is) = (
  bytes,
  joined,
  record {
    down = λ none _. absurd (omega (arith, low, none));
    up = λ none _. absurd (omega (arith, low, none));
    mark = λ one. absurd (omega (arith, low, one));
    withdrawal = λ _ high. absurd (omega (arith, low, high));
    announcement = λ _. is;
  },
)
