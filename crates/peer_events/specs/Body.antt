-- How long a message's body can be: the longest message without its common header (RFC 7854, section 4.1, sets no
-- bound on a message; the one of 1,048,576 bytes is the station's).
use Rattle.std.specs.Prelude.{ℕ, ◌-◌}
use Rattle.bmp_specs.specs.Frame.{least, most}

abbrev pub most_body : ℕ
most_body = most - least
