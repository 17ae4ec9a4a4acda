use Rattle.std.proofs.Common.{ℕ, List, length, sym, ◌∙◌, ap, arith}
use Rattle.std.proofs.lemmas.Slice.{between_to_end}
use Rattle.byteorder.specs.Endian.{big_number}
use Rattle.feed_archive.proofs.Records.{breaks_short, breaks_long, breaks_cut}
use Rattle.feed_archive.proofs.scanning.find.Goals as goal

pub returns-then-bytes-lt-HEADER : goal.returns-then-bytes-lt-HEADER
returns-then-bytes-lt-HEADER c = breaks_short c.args.bytes.now (omega (arith, c.if-bytes-lt-HEADER.true)) c.if-bytes-ne1.false

pub returns-then-length-gt-MOST_RECORD : goal.returns-then-length-gt-MOST_RECORD
returns-then-length-gt-MOST_RECORD c =
    let size = c.read_u32-length.ensures ∙ ap (λ (x : List ℕ). big_number 4 x) (between_to_end c.args.bytes.now 1 (length c.args.bytes.now) (omega arith)) in
    breaks_long c.args.bytes.now c.if-bytes-ne1.false (omega (arith, size, c.if-length-gt-MOST_RECORD.true))

pub returns-then-bytes-length : goal.returns-then-bytes-length
returns-then-bytes-length c =
    let size = c.read_u32-length.ensures ∙ ap (λ (x : List ℕ). big_number 4 x) (between_to_end c.args.bytes.now 1 (length c.args.bytes.now) (omega arith)) in
    breaks_cut c.args.bytes.now c.if-bytes-ne1.false (omega (arith, size, c.if-bytes-length.true, c.if-bytes-lt-HEADER.false))

pub returns : goal.returns
returns c =
    let size = c.read_u32-length.ensures ∙ ap (λ (x : List ℕ). big_number 4 x) (between_to_end c.args.bytes.now 1 (length c.args.bytes.now) (omega arith)) in
    (c.if-bytes-ne1.false, sym size, c.if-length-gt-MOST_RECORD.false, omega (arith, c.if-bytes-length.false, c.if-bytes-lt-HEADER.false))
