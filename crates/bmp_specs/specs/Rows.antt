-- The rows and the statistics that some effects leave, by places in the list of effects.
use Rattle.std.specs.Prelude.{◌≡◌, List}
use Rattle.bmp_specs.specs.declared.peers.View.{View}
use Rattle.bmp_specs.specs.Values.{NlriValue, AttrsValue, KeyValue, StatValue, EffectValue, up, down, announce, withdraw, statistic}
use Rattle.bmp_specs.specs.Latest.{Latest}
use Rattle.bmp_specs.specs.PeerUp.{IsUp}

-- where a route stands: its peer, the RIB that it was seen in, its prefix and its path identifier
pub record RowKeyValue : Type 0 where
  pub key : KeyValue
  pub view : View
  pub nlri : NlriValue

-- a route at its place
pub record RowValue : Type 0 where
  pub row_key : RowKeyValue
  pub route : AttrsValue

-- The effect ends what stood at the place: it announces or withdraws a route there (RFC 7854, section 4.6), or its peer
-- comes up or goes down, in whatever view (RFC 7854, section 4.9).
abbrev pub ReplacesRow : RowKeyValue → EffectValue → Type 0
ReplacesRow place (up key info) = key ≡ place.key
ReplacesRow place (down key info) = key ≡ place.key
ReplacesRow place (announce key view nlri route) = (key ≡ place.key) × (view ≡ place.view) × (nlri ≡ place.nlri)
ReplacesRow place (withdraw key view nlri) = (key ≡ place.key) × (view ≡ place.view) × (nlri ≡ place.nlri)
ReplacesRow place _ = ⊥

-- The route stands at the place: it was announced there, while the peer was up, and nothing replaced it since.
pub record HasRow (effects : List EffectValue) (row : RowValue) : Type 0 where
  pub announced : Latest (ReplacesRow row.row_key) effects (announce row.row_key.key row.row_key.view row.row_key.nlri row.route)
  pub while_up : IsUp announced.before row.row_key.key

-- The effect ends the peer's statistic of this code and family: it is another one of them (RFC 7854, section 4.8), or
-- the peer comes up or goes down.
abbrev pub ReplacesStatistic : KeyValue → StatValue → EffectValue → Type 0
ReplacesStatistic peer stat (up key info) = key ≡ peer
ReplacesStatistic peer stat (down key info) = key ≡ peer
ReplacesStatistic peer stat (statistic key other) = (key ≡ peer) × (other.code ≡ stat.code) × (other.afi ≡ stat.afi) × (other.safi ≡ stat.safi)
ReplacesStatistic peer stat _ = ⊥

-- the peer's statistic of this code and family has this value
pub record HasStatistic (effects : List EffectValue) (peer : KeyValue) (stat : StatValue) : Type 0 where
  pub reported : Latest (ReplacesStatistic peer stat) effects (statistic peer stat)
  pub while_up : IsUp reported.before peer
