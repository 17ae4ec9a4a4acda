-- Where the numbers of a list are. No contract of another crate cites this file.
use Rattle.std.specs.Prelude.{List, ℕ}
use Rattle.as_path.specs.declared.numbers.Items.{Items}
use Rattle.as_path.specs.declared.numbers.Items.TheVariants.{Here, Many}

-- the numbers, in order
abbrev pub items_of : Items → List ℕ
items_of (Here few) = few
items_of (Many many) = many.items
