use Rattle.std.proofs.Common.{ℕ, List, get_or, ap, arith}
use Rattle.query_lang.proofs.ExtendedReading.{be_four, be_two, four_made, of_four_read, of_two_read, two_made}
use Rattle.query_lang.proofs.trait_texts.of_as.Goals as goal

pub returns-in_default-clause-none : goal.returns-in_default-clause-none
returns-in_default-clause-none c o is = of_two_read c.args.low c.args.asn c.args.local.now o c.requires c.if-asn-lt65536.true c.in_default.ensures.none is

pub returns-then-asn-lt65536-clause-some : goal.returns-then-asn-lt65536-clause-some
returns-then-asn-lt65536-clause-some c =
    let system = be_two c.args.asn (get_or c.to_be_bytes.result 2 0) (get_or c.to_be_bytes.result 3 0) c.if-asn-lt65536.true (ap (λ (l : List ℕ). get_or l 2 0) c.to_be_bytes.ensures) (ap (λ (l : List ℕ). get_or l 3 0) c.to_be_bytes.ensures) in
    let back = c.to_be_bytes-then-asn-lt65536 in
    let at = λ (i : ℕ). get_or back.result i 0 in
    let is = c.in-Some.ensures.some in
    let number = be_four c.in-Some.number (at 0) (at 1) (at 2) (at 3) is.within (ap (λ (l : List ℕ). get_or l 0 0) back.ensures) (ap (λ (l : List ℕ). get_or l 1 0) back.ensures) (ap (λ (l : List ℕ). get_or l 2 0) back.ensures) (ap (λ (l : List ℕ). get_or l 3 0) back.ensures) in
    two_made c.args.low c.args.asn c.in-Some.number (get_or c.to_be_bytes.result 2 0) (get_or c.to_be_bytes.result 3 0) (at 0) (at 1) (at 2) (at 3) c.args.local.now c.requires (system.0.0, (system.0.1.0, number.0)) system.1 number.1 is.spelled

pub returns-in_default-parse_number_up_to-clause-none : goal.returns-in_default-parse_number_up_to-clause-none
returns-in_default-parse_number_up_to-clause-none c o is = of_four_read c.args.low c.args.asn c.args.local.now o c.requires c.if-asn-lt65536.false (omega (arith, c.ranges.asn.fits)) c.in_default-parse_number_up_to.ensures.none is

pub returns-clause-some : goal.returns-clause-some
returns-clause-some c =
    let at = λ (i : ℕ). get_or c.to_be_bytes.result i 0 in
    let system = be_four c.args.asn (at 0) (at 1) (at 2) (at 3) (omega (arith, c.ranges.asn.fits)) (ap (λ (l : List ℕ). get_or l 0 0) c.to_be_bytes.ensures) (ap (λ (l : List ℕ). get_or l 1 0) c.to_be_bytes.ensures) (ap (λ (l : List ℕ). get_or l 2 0) c.to_be_bytes.ensures) (ap (λ (l : List ℕ). get_or l 3 0) c.to_be_bytes.ensures) in
    let is = c.in-Some-parse_number_up_to.ensures.some in
    let back = c.to_be_bytes-2 in
    let number = be_two c.in-Some-parse_number_up_to.number (get_or back.result 0 0) (get_or back.result 1 0) (omega (arith, is.within)) (ap (λ (l : List ℕ). get_or l 0 0) back.ensures) (ap (λ (l : List ℕ). get_or l 1 0) back.ensures) in
    four_made c.args.low c.args.asn c.in-Some-parse_number_up_to.number (at 0) (at 1) (at 2) (at 3) (get_or back.result 0 0) (get_or back.result 1 0) c.args.local.now c.requires
    (system.0.0, (system.0.1.0, (system.0.1.1.0, (system.0.1.1.1.0, number.0)))) c.if-asn-lt65536.false system.1 number.1 is.spelled
