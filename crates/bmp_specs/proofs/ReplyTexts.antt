-- Replies whose bytes are known.
use Rattle.std.proofs.Common.{◌≡◌, [], codes, refl}
use Rattle.std.specs.Fmt.{digits}
use Rattle.bmp_specs.specs.Reply.{reply}

-- a history of one opening has no rows
pub reply_of_an_opening : reply 1 [] ≡ codes "at 1\nend 0\n"
unfolding digits
reply_of_an_opening = refl
