-- What a connection counts of the families and of the parts that were passed over.
use Rattle.std.specs.Prelude.{ℕ, ◌+◌, Bool, List, [], ◌∷◌, ◌++◌, length, option_to_list, if◌then◌else◌}
use Rattle.std.specs.List.{list_any}
use Rattle.bmp_specs.specs.Reply.{told_count}
use Rattle.bmp_specs.specs.Values.{FamilyCodeValue}
use Rattle.ask_specs.specs.Connection.{FamilyCountValue, family_counts, later_others, same_family}
use Rattle.rib_model.specs.declared.head.Head.{Head}

-- the families: how often there was one, those that are told by name, and how often there was one of the others
pub record OthersValue : Type 0 where
  pub families : ℕ
  pub named : List FamilyCountValue
  pub more : ℕ

-- what these families leave, one after another
abbrev pub others_of : List FamilyCodeValue → OthersValue
others_of all = record { families = told_count (length all); named = family_counts all; more = later_others all }

-- whether a family is among those
abbrev pub is_named : FamilyCodeValue → List FamilyCountValue → Bool
is_named f named = list_any (λ o. same_family f o.family) named

-- with one more of the family, where it is among them
abbrev pub counted : FamilyCodeValue → List FamilyCountValue → List FamilyCountValue
counted f [] = []
counted f (o ∷ os) = if same_family f o.family then record { family = o.family; count = told_count (o.count + 1) } ∷ os else o ∷ counted f os

-- the families that a message names
abbrev pub head_others : Head → List FamilyCodeValue
head_others head = option_to_list head.reach ++ option_to_list head.unreach
