use Rattle.std.specs.Option.{option_map}
use Rattle.query_lang.specs.Reading.{words_of}
use Rattle.query_lang.specs.TraitValues.{community_value}
use Rattle.query_lang.proofs.LastWords.{some_words}
use Rattle.query_lang.proofs.TraitWordLaws.{ends_with, no_first, no_second, no_third, same_traits, three_taken}
use Rattle.query_lang.proofs.trait_words.take_traits.Goals as goal

pub returns-in_default-clause-none : goal.returns-in_default-clause-none
returns-in_default-clause-none c v t asks = no_first (words_of c.args.text.now) v t asks c.in_default.ensures.none

pub returns-in_default-take_community-clause-none : goal.returns-in_default-take_community-clause-none
returns-in_default-take_community-clause-none c v t asks =
    let one = c.in-Some in
    no_second (words_of c.args.text.now) v t asks (words_of one.rest.now) one.other one.ensures.some (some_words one.rest.now) c.in_default-take_community.ensures.none

pub returns-in-Some-take_through-clause-some : goal.returns-in-Some-take_through-clause-some
returns-in-Some-take_through-clause-some c =
    let one = c.in-Some in
    let two = c.in-Some-take_community in
    let three = c.in-Some-take_through in
    ends_with (words_of c.args.text.now) (words_of one.rest.now) (words_of two.rest.now) (words_of three.rest.now) _ one.ensures.some two.ensures.some three.ensures.some

pub returns-in-Some-take_through-clause-only : goal.returns-in-Some-take_through-clause-only
returns-in-Some-take_through-clause-only c v t asks =
    let one = c.in-Some in
    let two = c.in-Some-take_community in
    let three = c.in-Some-take_through in
    let same = three_taken (words_of c.args.text.now) v t asks (words_of one.rest.now) one.other one.ensures.some (some_words one.rest.now) (words_of two.rest.now) (option_map community_value two.community) two.ensures.some (some_words two.rest.now)
    (words_of three.rest.now) three.through three.ensures.some (some_words three.rest.now) in
    (same_traits t _ same.0 same.1 same.2, same.3)

pub returns-in-None-clause-none : goal.returns-in-None-clause-none
returns-in-None-clause-none c v t asks =
    let one = c.in-Some in
    let two = c.in-Some-take_community in
    no_third (words_of c.args.text.now) v t asks (words_of one.rest.now) one.other one.ensures.some (some_words one.rest.now) (words_of two.rest.now) (option_map community_value two.community) two.ensures.some (some_words two.rest.now) c.in-None.ensures.none
