-- The attributes of a route, from the values at their types.
use Rattle.std.specs.Prelude.{◌≡◌, ℕ, List, Option}
use Rattle.bmp_specs.specs.declared.wire.Width.{Width}
use Rattle.bmp_specs.specs.Attributes.{AreCommunities, IsAtomic, Optional, atomic_aggregate, communities, local_pref, multi_exit_disc, next_hop, origin}
use Rattle.bmp_specs.specs.Number.{IsNumber}
use Rattle.bmp_specs.specs.Sequence.{IsField}
use Rattle.bmp_specs.specs.Values.{AttrsValue, OtherValue}
use Rattle.path_attrs.specs.AsInfo.{StatesAs}

-- the attributes have these values at their types, and these attributes of all other types
pub record HaveValues (width : Width) (value : ℕ → Option (List ℕ)) (others : List OtherValue) (attrs : AttrsValue) : Type 0 where
  pub origin_is : Optional (IsNumber 1) (value origin) attrs.origin
  pub hop_is : Optional (IsField 4) (value next_hop) attrs.hop
  pub med_is : Optional (IsNumber 4) (value multi_exit_disc) attrs.med
  pub pref_is : Optional (IsNumber 4) (value local_pref) attrs.pref
  pub atomic_is : IsAtomic (value atomic_aggregate) attrs.atomic
  pub communities_are : AreCommunities (value communities) attrs.communities
  pub as_is : StatesAs width value attrs.aggregator attrs.path
  pub others_are : attrs.others ≡ others
