use Rattle.std.proofs.Common.{ℕ, List, get_or, sym, ap, ◌∙◌, arith}
use Rattle.query_lang.proofs.ExtendedReading.{address_made, be_two, four_of, of_address_read, v4_is_no_v6}
use Rattle.query_lang.proofs.trait_texts.of_address.Goals as goal

pub returns-in_default-clause-none : goal.returns-in_default-clause-none
returns-in_default-clause-none c o is = of_address_read c.args.low c.args.admin.now c.args.local.now o c.requires.low c.requires.no_colon c.requires.no_number (λ v v4 text n number. c.in_default.ensures.none v text) is

pub returns-in_default-parse_number_up_to-clause-none : goal.returns-in_default-parse_number_up_to-clause-none
returns-in_default-parse_number_up_to-clause-none c o is = of_address_read c.args.low c.args.admin.now c.args.local.now o c.requires.low c.requires.no_colon c.requires.no_number (λ v v4 text n number. c.in_default-parse_number_up_to.ensures.none n number) is

pub returns-in-V4-clause-some : goal.returns-in-V4-clause-some
returns-in-V4-clause-some c =
    let at = λ (i : ℕ). get_or c.octets-octets.result i 0 in
    let address = four_of c.args.admin.now c.octets-octets.result c.in-Some.address c.octets-octets.ensures.same (sym c.family.ensures ∙ c.in-V4.is) c.in-Some.ensures.some in
    let is = c.in-Some-parse_number_up_to.ensures.some in
    let back = c.to_be_bytes in
    let number = be_two c.in-Some-parse_number_up_to.number (get_or back.result 0 0) (get_or back.result 1 0) (omega (arith, is.within)) (ap (λ (l : List ℕ). get_or l 0 0) back.ensures) (ap (λ (l : List ℕ). get_or l 1 0) back.ensures) in
    address_made c.args.low c.in-Some-parse_number_up_to.number (at 0) (at 1) (at 2) (at 3) (get_or back.result 0 0) (get_or back.result 1 0) c.args.admin.now c.args.local.now c.requires.low
    (address.within.0, (address.within.1.0, (address.within.1.1.0, (address.within.1.1.1.0, number.0)))) address.spelled number.1 is.spelled

pub returns-in-V6-clause-none : goal.returns-in-V6-clause-none
returns-in-V6-clause-none c o is =
    of_address_read c.args.low c.args.admin.now c.args.local.now o c.requires.low c.requires.no_colon c.requires.no_number
    (λ v v4 text n number. v4_is_no_v6 v c.in-Some.address v4 (c.in-Some.ensures.only v text) (sym c.family.ensures ∙ c.in-V6.is)) is
