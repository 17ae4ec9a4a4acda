-- What follows the Per-Peer Header in a Peer Down Notification (RFC 7854, section 4.9): a reason, and data by the reason.
-- No data breaks the grammar: where it isn't what the reason asks for it is left unread. What RFC 9069, section 5.3, lets
-- follow the reason 6 is never read.
use Rattle.std.specs.Prelude.{◌≡◌, ℕ, ◌≤◌, ◌⊎◌, List, [], ◌∷◌, length, slice_index}
use Rattle.byteorder.specs.Endian.{big_number}
use Rattle.bmp_specs.specs.declared.peers.Detail.{Detail}
use Rattle.bmp_specs.specs.declared.peers.Detail.TheVariants.{Notified, Event, Unread}
use Rattle.bmp_specs.specs.BgpMessage.{IsBgpMessage, notification_type}
use Rattle.bmp_specs.specs.Values.{BgpMessageValue, DownInfoValue}

-- "Reason 1: The local system closed the session" and "Reason 3: The remote system closed the session with a notification
-- message": a NOTIFICATION follows
abbrev pub HasNotification : ℕ → Type 0
HasNotification reason = (reason ≡ 1) ⊎ (reason ≡ 3)

-- "Reason 2": "a 2-byte field containing the code corresponding to the Finite State Machine (FSM) Event"
abbrev pub has_event : ℕ
has_event = 2

-- the data is a NOTIFICATION with this error code and this error subcode (RFC 4271, section 4.5)
pub record IsNotification (bytes : List ℕ) (code sub : ℕ) : Type 0 where
  pub message : BgpMessageValue
  pub is : IsBgpMessage bytes message
  pub is_notification : message.kind ≡ notification_type
  pub header : 2 ≤ length message.body
  pub code_is : slice_index message.body 0 ≡ code
  pub sub_is : slice_index message.body 1 ≡ sub

pub record IsNotified (reason : ℕ) (bytes : List ℕ) (code sub : ℕ) : Type 0 where
  pub asks : HasNotification reason
  pub is : IsNotification bytes code sub

pub record IsEvent (reason : ℕ) (bytes : List ℕ) (event : ℕ) : Type 0 where
  pub asks : reason ≡ has_event
  pub len : length bytes ≡ 2
  pub event_is : big_number 2 bytes ≡ event

-- the data is neither of these
pub record IsUnread (reason : ℕ) (bytes : List ℕ) : Type 0 where
  pub no_notification : (code sub : ℕ) → IsNotified reason bytes code sub → ⊥
  pub no_event : (event : ℕ) → IsEvent reason bytes event → ⊥

abbrev pub IsDetail : ℕ → List ℕ → Detail → Type 0
IsDetail reason bytes (Notified code sub) = IsNotified reason bytes code sub
IsDetail reason bytes (Event event) = IsEvent reason bytes event
IsDetail reason bytes Unread = IsUnread reason bytes

-- "Reason (1 byte)" and "Data"
abbrev pub IsPeerDown : List ℕ → DownInfoValue → Type 0
IsPeerDown [] d = ⊥
IsPeerDown (reason ∷ bytes) d = (d.reason ≡ reason) × IsDetail reason bytes d.detail
