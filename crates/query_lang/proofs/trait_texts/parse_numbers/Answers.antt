use Rattle.query_lang.proofs.CommunityReading.{no_pair, no_three}
use Rattle.query_lang.proofs.trait_texts.parse_numbers.Goals as goal

pub returns-in_default-parse_number_up_to-clause-none : goal.returns-in_default-parse_number_up_to-clause-none
returns-in_default-parse_number_up_to-clause-none c = no_pair c.args.first.now c.args.rest.now c.requires c.in_default.ensures.none (λ a b x y. c.in_default-parse_number_up_to.ensures.none a x)

pub returns-in_default-parse_number_up_to-2-clause-none : goal.returns-in_default-parse_number_up_to-2-clause-none
returns-in_default-parse_number_up_to-2-clause-none c = no_pair c.args.first.now c.args.rest.now c.requires c.in_default.ensures.none (λ a b x y. c.in_default-parse_number_up_to-2.ensures.none b y)

pub returns-in_default-parse_number-clause-none : goal.returns-in_default-parse_number-clause-none
returns-in_default-parse_number-clause-none c = no_three c.args.first.now c.args.rest.now c.in-Some.second.now c.in-Some.third.now c.requires c.in-Some.ensures.some (λ a b d x y z. c.in_default-parse_number.ensures.none a x)

pub returns-in_default-parse_number-2-clause-none : goal.returns-in_default-parse_number-2-clause-none
returns-in_default-parse_number-2-clause-none c = no_three c.args.first.now c.args.rest.now c.in-Some.second.now c.in-Some.third.now c.requires c.in-Some.ensures.some (λ a b d x y z. c.in_default-parse_number-2.ensures.none b y)

pub returns-in-None-clause-none : goal.returns-in-None-clause-none
returns-in-None-clause-none c = no_three c.args.first.now c.args.rest.now c.in-Some.second.now c.in-Some.third.now c.requires c.in-Some.ensures.some (λ a b d x y z. c.in-None.ensures.none d z)
