-- Whether a route has what the selectors of path attributes ask, as tests.
use Rattle.std.specs.Prelude.{ℕ, Bool, true, false, ◌&&◌, ◌==◌, if◌then◌else◌, List, [], ◌∷◌, ◌++◌, Option, Some, None, unwrap_or}
use Rattle.std.specs.List.{list_any}
use Rattle.std.specs.Str.{bytes_eq}
use Rattle.byteorder.specs.Endian.{big_bytes}
use Rattle.bmp_specs.specs.Values.{AttrsValue, OtherValue, SegmentValue}
use Rattle.ask_specs.specs.Items.{items, are_items}
use Rattle.ask_specs.specs.Traits.{CommunityValue, plain, large, extended, TraitsValue, path_numbers, large_communities, extended_communities}

-- whether the numbers stand in the list in this order: the first place of each is the best, since most is left behind it
abbrev pub stand_in : List ℕ → List ℕ → Bool
stand_in [] list = true
stand_in (number ∷ numbers) [] = false
stand_in (number ∷ numbers) (x ∷ list) = if number == x then stand_in numbers list else stand_in (number ∷ numbers) list

-- whether they do in a path; where there is none, nothing stands in it
abbrev pub goes_through : List ℕ → Option (List SegmentValue) → Bool
goes_through numbers path = stand_in numbers (path_numbers (unwrap_or path []))

-- whether the number is in the list
abbrev pub has_number : ℕ → List ℕ → Bool
has_number number list = list_any (λ x. x == number) list

-- whether the item is among those of a value
abbrev pub has_item : ℕ → List ℕ → List ℕ → Bool
has_item size item value = are_items size value && list_any (λ x. bytes_eq x item) (items size value)

-- whether the attribute is of this type, and has the item
abbrev pub has_code_item : ℕ → ℕ → List ℕ → OtherValue → Bool
has_code_item code size item other = other.code == code && has_item size item other.value

-- whether the attribute is of this type
abbrev pub has_code : ℕ → OtherValue → Bool
has_code code other = other.code == code

-- the octets of a large community
abbrev pub large_octets : ℕ → ℕ → ℕ → List ℕ
large_octets a b c = big_bytes 4 a ++ (big_bytes 4 b ++ big_bytes 4 c)

-- whether the community is among those of the route
abbrev pub has_community : AttrsValue → CommunityValue → Bool
has_community attrs (plain c) = has_number c attrs.communities
has_community attrs (large a b c) = list_any (has_code_item large_communities 12 (large_octets a b c)) attrs.others
has_community attrs (extended octets) = list_any (has_code_item extended_communities 8 octets) attrs.others

-- whether what is named is so
abbrev pub if_named : {A : Type 0} → Option A → (A → Bool) → Bool
if_named None test = true
if_named (Some value) test = test value

-- whether the route has all that is asked
abbrev pub has_traits : TraitsValue → AttrsValue → Bool
has_traits traits attrs = if_named traits.through (λ numbers. goes_through numbers attrs.path) && (if_named traits.community (has_community attrs) && if_named traits.other (λ code. list_any (has_code code) attrs.others))
