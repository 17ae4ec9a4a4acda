-- Lines whose bytes are known: why a stream stopped, and the counts of two streams.
use Rattle.std.proofs.Common.{◌≡◌, ◌++◌, [], ◌∷◌, codes, refl}
use Rattle.std.specs.Fmt.{digits}
use Rattle.bmp_specs.specs.declared.causes.Cause.TheVariants.{Terminated, CutShort, Broken}
use Rattle.bmp_specs.specs.declared.causes.Why.TheVariants.{Length}
use Rattle.bmp_specs.specs.Check.{check_lines}
use Rattle.bmp_specs.specs.EscapedText.{escaped_text}
use Rattle.bmp_specs.specs.Lines.{stop_line}
use Rattle.bmp_specs.specs.MessageHead.{plain_head}
use Rattle.bmp_specs.specs.Values.{message}

pub stop_of_a_break : stop_line (Broken 6 Length) ≡ codes "stop broken 6 length\n"
unfolding digits
stop_of_a_break = refl

pub stop_of_a_cut : stop_line (CutShort 20) ≡ codes "stop cutshort 20\n"
unfolding digits
stop_of_a_cut = refl

-- an Initiation and a Termination
pub check_of_two_messages : check_lines (message (plain_head 4 20) [] ∷ message (plain_head 5 12) [] ∷ []) ++ stop_line Terminated
    ≡ codes "messages 2\nbytes 32\nroute-monitoring 0\nstatistics-report 0\npeer-down 0\npeer-up 0\ninitiation 1\ntermination 1\nroute-mirroring 0\nother 0\nstop terminated\n"
unfolding digits
check_of_two_messages = refl

-- a message of a type that isn't defined
pub check_of_an_unknown_type : check_lines (message (plain_head 200 6) [] ∷ []) ++ stop_line (Broken 6 Length)
    ≡ codes "messages 1\nbytes 6\nroute-monitoring 0\nstatistics-report 0\npeer-down 0\npeer-up 0\ninitiation 0\ntermination 0\nroute-mirroring 0\nother 1\nstop broken 6 length\n"
unfolding digits
check_of_an_unknown_type = refl

pub escaped_bytes : escaped_text (codes "r1 %~" ++ 127 ∷ 0 ∷ 226 ∷ []) ≡ codes "r1%20%25~%7F%00%E2"
escaped_bytes = refl
