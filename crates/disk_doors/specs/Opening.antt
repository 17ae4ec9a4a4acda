-- How the file of a real disk is opened.
use Rattle.std.specs.Prelude.{true}
use Rattle.std.specs.Fs.{new_options, with_read, with_write, with_create}
use Rattle.std.specs.declared.fs.options.OpenOptions.{OpenOptions}

-- to read and to write a file that is there: nothing is made, and nothing is cut off
abbrev pub as_it_is : OpenOptions
as_it_is = with_write (with_read new_options true) true

-- the same, and one is made where there is none
abbrev pub made_where_none : OpenOptions
made_where_none = with_create as_it_is true
