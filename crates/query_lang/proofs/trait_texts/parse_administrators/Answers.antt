use Rattle.std.proofs.Common.{ℕ, List, ◌∷◌, ◌++◌, sym, ap, subst, ◌∙◌}
use Rattle.std.specs.Prelude.{IfSome, IfNone}
use Rattle.ask_specs.specs.Traits.{extended}
use Rattle.ask_specs.specs.TraitText.{IsCommunityText, colon}
use Rattle.query_lang.specs.CommunityTexts.{worded}
use Rattle.query_lang.proofs.ExtendedReading.{no_administrators}
use Rattle.query_lang.proofs.trait_texts.parse_administrators.Goals as goal

pub returns-in_default-clause-none : goal.returns-in_default-clause-none
returns-in_default-clause-none c o is = no_administrators c.args.low c.args.rest.now o c.requires c.in_default.ensures.none is

pub returns-in-Some-parse_number-clause-some : goal.returns-in-Some-parse_number-clause-some
returns-in-Some-parse_number-clause-some c =
    let cut = c.in-Some.ensures.some in
    subst (λ (r : List ℕ). IfSome c.of_as.result (λ o. IsCommunityText (worded c.args.low r) (extended o))) (sym (cut.spelled ∙ ap (λ (a : List ℕ). a ++ (colon ∷ c.in-Some.local.now)) c.in-Some-parse_number.ensures.some.spelled)) c.of_as.ensures.some

pub returns-in-Some-parse_number-clause-none : goal.returns-in-Some-parse_number-clause-none
returns-in-Some-parse_number-clause-none c =
    let cut = c.in-Some.ensures.some in
    subst (λ (r : List ℕ). IfNone c.of_as.result ((o : List ℕ) → IsCommunityText (worded c.args.low r) (extended o) → ⊥)) (sym (cut.spelled ∙ ap (λ (a : List ℕ). a ++ (colon ∷ c.in-Some.local.now)) c.in-Some-parse_number.ensures.some.spelled)) c.of_as.ensures.none

pub returns-in-None-clause-some : goal.returns-in-None-clause-some
returns-in-None-clause-some c = subst (λ (r : List ℕ). IfSome c.of_address.result (λ o. IsCommunityText (worded c.args.low r) (extended o))) (sym c.in-Some.ensures.some.spelled) c.of_address.ensures.some

pub returns-in-None-clause-none : goal.returns-in-None-clause-none
returns-in-None-clause-none c = subst (λ (r : List ℕ). IfNone c.of_address.result ((o : List ℕ) → IsCommunityText (worded c.args.low r) (extended o) → ⊥)) (sym c.in-Some.ensures.some.spelled) c.of_address.ensures.none
