-- The attributes that are kept as they came.
use Rattle.std.specs.Prelude.{List, map, filter, not}
use Rattle.bmp_specs.specs.Attributes.{is_read, kept}
use Rattle.bmp_specs.specs.Values.{OtherValue}

abbrev pub kept_of : List OtherValue → List OtherValue
kept_of parts = map kept (filter (λ a. not (is_read a)) parts)
