use Rattle.std.proofs.Common.{codes}
use Rattle.ask_specs.specs.TraitText.{IsCommunityText}
use Rattle.query_lang.specs.Reading.{words_of}
use Rattle.query_lang.specs.TraitValues.{community_value}
use Rattle.query_lang.proofs.TraitWordLaws.{breaks_last, takes_last, takes_none}
use Rattle.query_lang.proofs.trait_words.take_community.Goals as goal

pub returns-in_default-clause-some : goal.returns-in_default-clause-some
returns-in_default-clause-some c = takes_none (codes "community") IsCommunityText (words_of c.args.text.now) c.in_default.ensures.none

pub returns-in-Some-parse_community-clause-some : goal.returns-in-Some-parse_community-clause-some
returns-in-Some-parse_community-clause-some c =
    takes_last (codes "community") IsCommunityText (words_of c.args.text.now) (words_of c.in-Some.others.now) c.in-Some.value.now (community_value c.in-Some-parse_community.community) c.in-Some.ensures.some c.in-Some-parse_community.ensures.some

pub returns-in-None-clause-none : goal.returns-in-None-clause-none
returns-in-None-clause-none c = breaks_last (codes "community") IsCommunityText (words_of c.args.text.now) c.in-Some.others.now c.in-Some.value.now c.in-Some.ensures.some c.in-None.ensures.none
