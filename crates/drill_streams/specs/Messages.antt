-- The messages of a drill's stream, as they are written.
use Rattle.std.specs.Prelude.{◌≡◌, ℕ, ◌≤◌, Bool, true, false, List, [], ◌∷◌, ◌++◌}
use Rattle.bmp_specs.specs.declared.peers.View.TheVariants.{InPre}
use Rattle.bmp_specs.specs.declared.wire.Family.TheVariants.{V4}
use Rattle.bmp_specs.specs.NumberText.{number_text}
use Rattle.bmp_writer.specs.PeerMessage.{IsPeerMessage, mark_update}
use Rattle.bmp_writer.specs.PeerUpMessage.{IsUpMessage}
use Rattle.bmp_writer.specs.Written.{IsToldMessage, peer_down_type, route_monitoring_type}
use Rattle.bmp_writer.specs.WrittenRoutes.{IsRoutesMessage}
use Rattle.bmp_specs.specs.TreatAsWithdraw.{no_attributes}
use Rattle.drill_streams.specs.Drawn.{attrs_of, choice_of, peer_of, prefix_of}
use Rattle.drill_streams.specs.Peers.{peer_info, peer_key}

-- "drill-" and the lane's number
abbrev pub lane_name : ℕ → List ℕ
lane_name lane = (100 ∷ 114 ∷ 105 ∷ 108 ∷ 108 ∷ 45 ∷ []) ++ number_text lane

-- the Initiation Message, with an empty sysDescr
abbrev pub IsInitiation : ℕ → List ℕ → Type 0
IsInitiation lane bytes = IsToldMessage (lane_name lane) [] bytes

-- the Peer Up Notification of a peer
abbrev pub IsUp : List ℕ → ℕ → Type 0
IsUp bytes p = IsUpMessage (peer_key p) (peer_info p) bytes

-- "Reason: 4": the remote system closed the session without a notification (RFC 7854, section 4.9)
abbrev pub closed_remotely : ℕ
closed_remotely = 4

-- What a word stands for, where its peer is up in front of the message or down. Choice 0 of 16 takes the peer down where it
-- is up, and up again where it is down; choice 1 is the End-of-RIB marker of IPv4; 2 to 5 withdraw the prefix, and 6 to 15
-- announce it, all in the Adj-RIB-In before policy.
pub record IsMessageOf (is_up : Bool) (w : ℕ) (bytes : List ℕ) : Type 0 where
  pub down : choice_of w ≡ 0 → is_up ≡ true → IsPeerMessage peer_down_type (peer_key (peer_of w)) InPre (closed_remotely ∷ []) bytes
  pub up : choice_of w ≡ 0 → is_up ≡ false → IsUp bytes (peer_of w)
  pub mark : choice_of w ≡ 1 → IsPeerMessage route_monitoring_type (peer_key (peer_of w)) InPre (mark_update V4) bytes
  pub withdrawal : 2 ≤ choice_of w → choice_of w ≤ 5 → IsRoutesMessage (peer_key (peer_of w)) InPre (prefix_of w ∷ []) [] no_attributes bytes
  pub announcement : 6 ≤ choice_of w → IsRoutesMessage (peer_key (peer_of w)) InPre [] (prefix_of w ∷ []) (attrs_of w) bytes
