-- Where a list keeps its items. No public clause cites this module.
use Rattle.std.specs.Prelude.{List}
use Rattle.wire_io.specs.declared.list.Items.{Items}
use Rattle.wire_io.specs.declared.list.Items.TheVariants.{One, Many}

abbrev pub items_of : {T : Type 0} → Items T → List T
items_of (One items) = items
items_of (Many items) = items.items
