use Rattle.std.proofs.Common.{List, ℕ, sym, subst, rules}
use Rattle.bmp_specs.specs.AddressText.{IsAddressText}
use Rattle.bmp_specs.specs.NumberText.{IsNumberUpTo}
use Rattle.bmp_specs.specs.PeerText.{most_kind, IsDistinguisherText}
use Rattle.bmp_frames.proofs.Dash.{first_part, second_part}
use Rattle.bmp_frames.proofs.OneText.{key_one}
use Rattle.bmp_frames.proofs.parse.parse_key.Goals as goal

pub returns-in_default-parse_number_up_to-clause-none :
    goal.returns-in_default-parse_number_up_to-clause-none
returns-in_default-parse_number_up_to-clause-none c key is =
    let parts = first_part c.args.text.now c.in-Some.kind.now c.in-Some.rest.now key c.in-Some.ensures.found is in
    c.in_default-parse_number_up_to.ensures.none key.kind (subst (λ (l : List ℕ). IsNumberUpTo most_kind l key.kind) parts.0 is.is_kind)

pub returns-in_default-cut_at_dash-clause-none : goal.returns-in_default-cut_at_dash-clause-none
returns-in_default-cut_at_dash-clause-none c key is =
    let parts = first_part c.args.text.now c.in-Some.kind.now c.in-Some.rest.now key c.in-Some.ensures.found is in
    c.in_default-cut_at_dash.ensures.none is.distinguisher is.address (sym parts.1)

pub returns-in_default-read_digits-clause-none : goal.returns-in_default-read_digits-clause-none
returns-in_default-read_digits-clause-none c key is =
    let next = c.in-Some-cut_at_dash in
    let parts = second_part c.args.text.now c.in-Some.kind.now c.in-Some.rest.now next.digits.now next.address.now key c.in-Some.ensures.found next.ensures.found is in
    c.in_default-read_digits.ensures.none key.distinguisher (subst (λ (l : List ℕ). IsDistinguisherText l key.distinguisher) parts.0 is.is_distinguisher)

pub returns-in_default-parse_addr-clause-none : goal.returns-in_default-parse_addr-clause-none
returns-in_default-parse_addr-clause-none c key is =
    let next = c.in-Some-cut_at_dash in
    let parts = second_part c.args.text.now c.in-Some.kind.now c.in-Some.rest.now next.digits.now next.address.now key c.in-Some.ensures.found next.ensures.found is in
    c.in_default-parse_addr.ensures.none key.address (subst (λ (l : List ℕ). IsAddressText l key.address) parts.1 is.is_address)

pub returns-clause-only : goal.returns-clause-only
returns-clause-only c k is = key_one c.args.text.now k _ is (search rules)
