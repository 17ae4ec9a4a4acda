-- Addresses as texts. IPv4 is four numbers joined by dots. IPv6 is printed by the rules of RFC 5952, section 4, and read in
-- the forms 1 and 2 of RFC 4291, section 2.2. Form 3, which ends in a dotted quad, is neither read nor printed, so the
-- mixed notation of RFC 5952, section 5, has no place here.
use Rattle.std.specs.Prelude.{◌≡◌, ℕ, ◌+◌, ◌-◌, ◌<◌, ◌≤◌, ◌⊎◌, Bool, false, List, [], ◌∷◌, ◌++◌, Option, None, Some, All, length, take, drop, map, find, replicate, ◌==◌}
use Rattle.std.specs.Fmt.{digits}
use Rattle.std.specs.List.{list_all, join_with_byte, AllZip}
use Rattle.std.specs.Str.Parse.{IsNumeral, digits_value}
use Rattle.std.specs.Net.Addr.{segments_of, octets_of}
use Rattle.bmp_specs.specs.declared.wire.Family.{Family}
use Rattle.bmp_specs.specs.declared.wire.Family.TheVariants.{V4, V6}
use Rattle.bmp_specs.specs.NumberText.{number_text}
use Rattle.bmp_specs.specs.Prefix.{padded}
use Rattle.bmp_specs.specs.Values.{AddressValue}

-- `.`
abbrev pub dot : ℕ
dot = 46

-- `:`
abbrev pub colon : ℕ
colon = 58

-- numbers joined by dots
unfoldable pub dotted : List ℕ → List ℕ
dotted numbers = join_with_byte dot (map number_text numbers)

-- a group in lower case, without leading zeros (RFC 5952, sections 4.1 and 4.3)
abbrev pub group_text : ℕ → List ℕ
group_text group = digits 16 false group

-- groups joined by colons
unfoldable pub joined_groups : List ℕ → List ℕ
joined_groups groups = join_with_byte colon (map group_text groups)

-- where two or more of eight groups can stand in a row, each as the first place and the number: the longer before the
-- shorter, and of one length the earlier before the later
unfoldable pub runs : List (ℕ × ℕ)
runs =
    (0, 8) ∷ (0, 7) ∷ (1, 7) ∷ (0, 6) ∷ (1, 6) ∷ (2, 6) ∷ (0, 5) ∷ (1, 5) ∷ (2, 5) ∷ (3, 5)
    ∷ (0, 4) ∷ (1, 4) ∷ (2, 4) ∷ (3, 4) ∷ (4, 4) ∷ (0, 3) ∷ (1, 3) ∷ (2, 3) ∷ (3, 3) ∷ (4, 3) ∷ (5, 3)
    ∷ (0, 2) ∷ (1, 2) ∷ (2, 2) ∷ (3, 2) ∷ (4, 2) ∷ (5, 2) ∷ (6, 2) ∷ []

-- whether the groups of a run are all zero
abbrev pub is_zero_run : List ℕ → ℕ × ℕ → Bool
is_zero_run groups run = list_all (λ group. group == 0) (take run.1 (drop run.0 groups))

-- the run that is shortened: a run of two or more zero groups, the longest, and on a tie the first (RFC 5952, sections
-- 4.2.1 to 4.2.3)
unfoldable pub shortened_run : List ℕ → Option (ℕ × ℕ)
shortened_run groups = find (is_zero_run groups) runs

-- `::` in the place of the run
abbrev pub shortened_text : List ℕ → Option (ℕ × ℕ) → List ℕ
shortened_text groups None = joined_groups groups
shortened_text groups (Some run) = joined_groups (take run.0 groups) ++ (colon ∷ colon ∷ joined_groups (drop (run.0 + run.1) groups))

-- eight groups
abbrev pub groups_text : List ℕ → List ℕ
groups_text groups = shortened_text groups (shortened_run groups)

-- the text of these bytes in the family
abbrev pub text_in : Family → List ℕ → List ℕ
text_in V4 octets = dotted (take 4 octets)
text_in V6 octets = groups_text (segments_of octets)

-- the text of an address
abbrev pub address_text : AddressValue → List ℕ
address_text a = text_in a.family a.octets

-- four numbers from 0 to 255, joined by dots
pub record IsV4Text (text numbers : List ℕ) : Type 0 where
  pub four : length numbers ≡ 4
  pub within : All (λ n. n < 256) numbers
  pub spelled : text ≡ dotted numbers

-- one to four hexadecimal digits of either case, that write the group
pub record IsGroupText (text : List ℕ) (group : ℕ) : Type 0 where
  pub digits : IsNumeral 16 text
  pub short : length text ≤ 4
  pub value : digits_value 16 text ≡ group

-- the text is these groups, joined by colons
pub record AreGroups (text groups : List ℕ) : Type 0 where
  pub pieces : List (List ℕ)
  pub spelled : text ≡ join_with_byte colon pieces
  pub each : AllZip IsGroupText pieces groups

-- some of the eight groups, and one `::` that stands for one zero group or more
pub record IsElided (text groups : List ℕ) : Type 0 where
  pub front_text : List ℕ
  pub back_text : List ℕ
  pub front : List ℕ
  pub back : List ℕ
  pub spelled : text ≡ front_text ++ (colon ∷ colon ∷ back_text)
  pub front_groups : AreGroups front_text front
  pub back_groups : AreGroups back_text back
  pub fewer : length front + length back < 8
  pub value : groups ≡ front ++ replicate (8 - (length front + length back)) 0 ++ back

-- eight groups, in full or shortened (RFC 4291, section 2.2, forms 1 and 2)
abbrev pub IsV6Text : List ℕ → List ℕ → Type 0
IsV6Text text groups = (AreGroups text groups × (length groups ≡ 8)) ⊎ IsElided text groups

-- the text writes these bytes in the family
abbrev pub IsTextIn : Family → List ℕ → List ℕ → Type 0
IsTextIn V4 text octets = (numbers : List ℕ) × IsV4Text text numbers × (octets ≡ padded numbers)
IsTextIn V6 text octets = (groups : List ℕ) × IsV6Text text groups × (octets ≡ octets_of groups)

-- the text writes this address
abbrev pub IsAddressText : List ℕ → AddressValue → Type 0
IsAddressText text a = IsTextIn a.family text a.octets
