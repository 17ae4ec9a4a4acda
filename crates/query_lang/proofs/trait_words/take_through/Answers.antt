use Rattle.std.proofs.Common.{codes}
use Rattle.ask_specs.specs.TraitText.{IsThroughText}
use Rattle.query_lang.specs.Reading.{words_of}
use Rattle.query_lang.proofs.TraitWordLaws.{breaks_last, takes_last, takes_none}
use Rattle.query_lang.proofs.trait_words.take_through.Goals as goal

pub returns-in_default-clause-some : goal.returns-in_default-clause-some
returns-in_default-clause-some c = takes_none (codes "through") IsThroughText (words_of c.args.text.now) c.in_default.ensures.none

pub returns-in-Some-parse_asns-clause-some : goal.returns-in-Some-parse_asns-clause-some
returns-in-Some-parse_asns-clause-some c =
    takes_last (codes "through") IsThroughText (words_of c.args.text.now) (words_of c.in-Some.others.now) c.in-Some.value.now c.in-Some-parse_asns.asns c.in-Some.ensures.some c.in-Some-parse_asns.ensures.some

pub returns-in-None-clause-none : goal.returns-in-None-clause-none
returns-in-None-clause-none c = breaks_last (codes "through") IsThroughText (words_of c.args.text.now) c.in-Some.others.now c.in-Some.value.now c.in-Some.ensures.some c.in-None.ensures.none
