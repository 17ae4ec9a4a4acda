-- Selectors of path attributes as values.
use Rattle.std.specs.Option.{option_map}
use Rattle.ask_specs.specs.Traits.{CommunityValue, TraitsValue, plain, large, extended}
use Rattle.query_lang.specs.declared.traits.Community.{Community}
use Rattle.query_lang.specs.declared.traits.Community.TheVariants.{Plain, Large, Extended}
use Rattle.query_lang.specs.declared.traits.Traits.{Traits}

abbrev pub community_value : Community → CommunityValue
community_value (Plain number) = plain number
community_value (Large a b c) = large a b c
community_value (Extended octets) = extended octets

abbrev pub traits_value : Traits → TraitsValue
traits_value traits = record { through = traits.through; community = option_map community_value traits.community; other = traits.other }
