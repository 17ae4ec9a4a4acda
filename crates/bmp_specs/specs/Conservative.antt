-- How the lenient reading of a stream stands to the strict one, in our words: it reads what the strict one reads, and
-- the same, save for a Loc-RIB that no Peer Up told of; and it never ends earlier.
use Rattle.std.specs.Prelude.{◌≡◌, ◌↔◌, ℕ, ◌≤◌, ◌⊎◌, List, [], ◌∷◌, ◌++◌, length, ⊤}
use Rattle.std.specs.List.{AllByRecursion}
use Rattle.bmp_specs.specs.declared.causes.Why.TheVariants.{Body}
use Rattle.bmp_specs.specs.declared.peers.View.{View}
use Rattle.bmp_specs.specs.declared.wire.Family.{Family}
use Rattle.bmp_specs.specs.Complete.{IsComplete}
use Rattle.bmp_specs.specs.MessageBody.{message_type, route_monitoring, statistics_report}
use Rattle.bmp_specs.specs.PeerHeader.{loc_rib}
use Rattle.bmp_specs.specs.PeerUp.{IsDownWith, IsNamed, IsUpWith}
use Rattle.bmp_specs.specs.Rows.{HasRow, HasStatistic, RowValue}
use Rattle.bmp_specs.specs.Session.{effects_in}
use Rattle.bmp_specs.specs.Values.{AttrsValue, DownInfoValue, EffectValue, EntryValue, HeadValue, KeyValue, NlriValue, PeerInfoValue, StatValue, announce, mark, message, orphan, statistic, unread, up, withdraw}
use Rattle.bmp_specs.specs.Walk.{Verdict, broken}

-- the effect is of this peer, or counts what was passed over
abbrev pub SpeaksOf : KeyValue → EffectValue → Type 0
SpeaksOf key (up k info) = k ≡ key
SpeaksOf key (announce k view n attrs) = k ≡ key
SpeaksOf key (withdraw k view n) = k ≡ key
SpeaksOf key (mark k view family) = k ≡ key
SpeaksOf key (statistic k stat) = k ≡ key
SpeaksOf key (unread n) = ⊤
SpeaksOf key _ = ⊥

-- A message of a Loc-RIB of which nothing told so far: an orphan by the RFCs, and by the lenient reading of this peer
-- alone.
pub record IsReadMore (before : List EffectValue) (strictly leniently : EntryValue) : Type 0 where
  pub head : HeadValue
  pub other : HeadValue
  pub key : KeyValue
  pub effects : List EffectValue
  pub strictly_is : strictly ≡ message head (orphan ∷ [])
  pub leniently_is : leniently ≡ message other effects
  pub same_kind : other.kind ≡ head.kind
  pub same_size : other.size ≡ head.size
  pub same_peer : other.peer ≡ head.peer
  pub of_routes : (message_type head.kind ≡ route_monitoring) ⊎ (message_type head.kind ≡ statistics_report)
  pub is_loc_rib : key.kind ≡ loc_rib
  pub untold : ¬ (IsNamed before key)
  pub speaks : AllByRecursion (SpeaksOf key) effects

abbrev pub IsReadAlike : List EffectValue → EntryValue → EntryValue → Type 0
IsReadAlike before strictly leniently = (strictly ≡ leniently) ⊎ IsReadMore before strictly leniently

-- the entries of the strict reading are the first ones of the lenient reading, each read alike, after these effects
abbrev pub AreReadAlike : List EffectValue → List EntryValue → List EntryValue → Type 0
AreReadAlike before [] others = ⊤
AreReadAlike before (entry ∷ entries) [] = ⊥
AreReadAlike before (entry ∷ entries) (other ∷ others) = IsReadAlike before entry other × AreReadAlike (before ++ effects_in entry) entries others

-- the end of the walk is the same
pub record EndsAlike (entries : List EntryValue) (offset : ℕ) (verdict : Verdict) (others : List EntryValue) (end : ℕ) (last : Verdict) : Type 0 where
  pub as_many : length others ≡ length entries
  pub offset_is : end ≡ offset
  pub verdict_is : last ≡ verdict

-- a strict walk of some bytes, and a lenient one of the same
pub record IsConservative (entries : List EntryValue) (offset : ℕ) (verdict : Verdict) (others : List EntryValue) (end : ℕ) (last : Verdict) : Type 0 where
  pub alike : AreReadAlike [] entries others
  pub no_earlier : offset ≤ end
  pub ends : ¬ (verdict ≡ broken Body) → EndsAlike entries offset verdict others end last

abbrev pub row_at : KeyValue → View → NlriValue → AttrsValue → RowValue
row_at key view nlri route = record { row_key = record { key = key; view = view; nlri = nlri }; route = route }

-- two lists of effects leave the same of this peer: whether it is up, with what its Peer Up told, or down, its complete
-- tables, its statistics and its rows
pub record LeaveSame (key : KeyValue) (a b : List EffectValue) : Type 0 where
  pub up : (info : PeerInfoValue) → IsUpWith a key info ↔ IsUpWith b key info
  pub down : (info : DownInfoValue) → IsDownWith a key info ↔ IsDownWith b key info
  pub complete : (view : View) (family : Family) → IsComplete a key view family ↔ IsComplete b key view family
  pub statistic : (stat : StatValue) → HasStatistic a key stat ↔ HasStatistic b key stat
  pub row : (view : View) (nlri : NlriValue) (route : AttrsValue) → HasRow a (row_at key view nlri route) ↔ HasRow b (row_at key view nlri route)
