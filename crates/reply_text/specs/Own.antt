-- The attributes with a field of their own, and the items that the values of some are made of.
use Rattle.std.specs.Prelude.{ℕ, List, ◌++◌, codes, filter_map}
use Rattle.bmp_specs.specs.declared.wire.Family.TheVariants.{V4}
use Rattle.bmp_specs.specs.AddressText.{text_in}
use Rattle.bmp_specs.specs.RouteLine.{comma_list}
use Rattle.bmp_specs.specs.Values.{AttrsValue, OtherValue}
use Rattle.ask_specs.specs.FullLine.{OwnField, originator, clusters, extended, aigp, large, otc, large_item_text, raw_of, raw_path, text_of_own}
use Rattle.ask_specs.specs.TraitText.{extended_text}
use Rattle.reply_text.specs.declared.items.Item.{Item}
use Rattle.reply_text.specs.declared.items.Item.TheVariants.{Address, ExtendedItem, LargeItem}
use Rattle.reply_text.specs.declared.own.Own.{Own}
use Rattle.reply_text.specs.declared.own.Own.TheVariants.{Originator, Clusters, Extended, Aigp, Large, Otc}

abbrev pub own_value : Own → OwnField
own_value Originator = originator
own_value Clusters = clusters
own_value Extended = extended
own_value Aigp = aigp
own_value Large = large
own_value Otc = otc

-- how many octets an item has
abbrev pub item_size : Item → ℕ
item_size Address = 4
item_size ExtendedItem = 8
item_size LargeItem = 12

abbrev pub item_text : Item → List ℕ → List ℕ
item_text Address octets = text_in V4 octets
item_text ExtendedItem octets = extended_text octets
item_text LargeItem octets = large_item_text octets

-- the field of an attribute after its name
abbrev pub own_part : List ℕ → OwnField → List OtherValue → List ℕ
own_part name field others = name ++ comma_list (filter_map (text_of_own field) others)

-- the fields of the large and the extended communities and of "Only to Customer"
abbrev pub policy_text : List OtherValue → List ℕ
policy_text others = own_part (codes " large=") large others ++ (own_part (codes " ext=") extended others ++ own_part (codes " otc=") otc others)

-- the fields of AIGP, ORIGINATOR_ID and CLUSTER_LIST
abbrev pub inner_text : List OtherValue → List ℕ
inner_text others = own_part (codes " aigp=") aigp others ++ (own_part (codes " originator=") originator others ++ own_part (codes " clusters=") clusters others)

-- the field of what no other field tells whole, and the end of the line
abbrev pub rest_text : AttrsValue → List ℕ
rest_text a = (codes " raw=" ++ comma_list (raw_path a.path ++ filter_map raw_of a.others)) ++ codes "\n"

-- the further fields and the end of the line, where they tell nothing
abbrev pub bare_text : List ℕ
bare_text = codes " flags=- large=- ext=- otc=- aigp=- originator=- clusters=- raw=-\n"
