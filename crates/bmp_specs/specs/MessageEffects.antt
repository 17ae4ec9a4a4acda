-- What a message does to the tables, in order, and its entry in the history of a lane. The split into effects, and their
-- order, is ours.
use Rattle.std.specs.Prelude.{◌≡◌, ℕ, ◌==◌, if◌then◌else◌, List, [], ◌∷◌, ◌++◌, map, Option, Some, None, ⊤}
use Rattle.bmp_specs.specs.declared.peers.View.{View}
use Rattle.bmp_specs.specs.Meaning.{Meaning}
use Rattle.bmp_specs.specs.MessageBody.{IsMessage, ReadingState, no_peers}
use Rattle.bmp_specs.specs.MessageHead.{IsHead}
use Rattle.bmp_specs.specs.PeerHeader.{IsViewOf}
use Rattle.bmp_specs.specs.Values.{EffectValue, EntryValue, HeadValue, KeyValue, MessageValue, UpdateValue, initiation, termination, peer_up, peer_down, routes, statistics, mirrored_routes, of_unknown_peer, of_unknown_type, up, down, announce, withdraw, mark, statistic, named, described, orphan, mirrored, passed, unread, message}

-- one effect of a value that is there
abbrev pub effect_of : {V : Type 0} → (V → EffectValue) → Option V → List EffectValue
effect_of effect None = []
effect_of effect (Some v) = effect v ∷ []

-- the parts that were passed over, where there are any
abbrev pub unread_effect : ℕ → List EffectValue
unread_effect n = if n == 0 then [] else unread n ∷ []

-- withdrawn routes, routes with the next hop in NEXT_HOP, those with it in MP_REACH_NLRI, and the End-of-RIB marker
abbrev pub route_effects : KeyValue → View → UpdateValue → List EffectValue
route_effects key view u =
    map (λ n. withdraw key view n) u.withdrawn
    ++ map (λ n. announce key view n u.plain_attrs) u.plain
    ++ map (λ n. announce key view n u.multi_attrs) u.multi
    ++ effect_of (λ family. mark key view family) u.mark

abbrev pub effects_of : MessageValue → List EffectValue
effects_of (initiation i) = effect_of named i.name ++ effect_of described i.descr ++ unread_effect i.unread
effects_of termination = []
effects_of (peer_up key u) = up key u.info ∷ unread_effect u.unread
effects_of (peer_down key d) = down key d ∷ []
effects_of (routes key view u) = route_effects key view u ++ unread_effect u.unread
effects_of (statistics key s) = map (λ stat. statistic key stat) s.stats ++ unread_effect s.unread
effects_of (mirrored_routes n) = mirrored ∷ unread_effect n
effects_of of_unknown_peer = orphan ∷ []
effects_of of_unknown_type = passed ∷ []

-- an effect speaks of no RIB that its peer doesn't have
abbrev pub HasViewOfKey : EffectValue → Type 0
HasViewOfKey (announce key view n attrs) = IsViewOf key view
HasViewOfKey (withdraw key view n) = IsViewOf key view
HasViewOfKey (mark key view family) = IsViewOf key view
HasViewOfKey _ = ⊤

-- the entry of a message: its head and its effects
pub record IsMessageEntry (state : ReadingState) (kind : ℕ) (body : List ℕ) (entry : EntryValue) (next : ReadingState) : Type 0 where
  pub value : MessageValue
  pub means : IsMessage state kind body value next
  pub head : HeadValue
  pub is_head : IsHead kind body (effects_of value) head
  pub entry_is : entry ≡ message head (effects_of value)

-- the meaning of bodies by the RFCs alone
abbrev pub strict : Meaning
strict = record { State = ReadingState; start = no_peers; Means = IsMessageEntry }
