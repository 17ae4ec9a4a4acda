-- Entries as values, without the place of their parts in memory.
use Rattle.std.specs.Prelude.{List, ◌++◌, map, option_to_list}
use Rattle.bmp_specs.specs.Values.{EntryValue, HeadValue, opened, message, closed}
use Rattle.rib_model.specs.Effects.{effect_values}
use Rattle.rib_model.specs.declared.entry.Entry.{Entry}
use Rattle.rib_model.specs.declared.entry.Entry.TheVariants.{Opened, Message, Closed}
use Rattle.rib_model.specs.declared.head.Head.{Head}

abbrev pub head_value : Head → HeadValue
head_value h = record { kind = h.kind; size = h.length; peer = h.peer; others = option_to_list h.reach ++ option_to_list h.unreach }

abbrev pub entry_value : Entry → EntryValue
entry_value (Opened opening) = opened opening
entry_value (Message head effects) = message (head_value head) (effect_values effects)
entry_value (Closed closing) = closed closing

abbrev pub entry_values : List Entry → List EntryValue
entry_values entries = map entry_value entries
