use Rattle.std.proofs.Common.{Option, Some, None, inl, inr, codes, refl}
use Rattle.std.specs.Prelude.{IfNone}
use Rattle.query_lang.proofs.CommunityReading.{no_colon, no_front, no_word}
use Rattle.query_lang.proofs.LineWords.{is_other, is_this}
use Rattle.query_lang.proofs.trait_texts.parse_community.Goals as goal

none_of : {A B C : Type 0} (r : Option A) → IfNone r B → (B → C) → IfNone r C
none_of None none go = go none
none_of (Some x) none go = tt

pub returns-in-None-clause-none : goal.returns-in-None-clause-none
returns-in-None-clause-none c = no_colon c.args.text.now c.in_default.ensures.none c.in-None.ensures.none

pub returns-in-None-parse_administrators-clause-none : goal.returns-in-None-parse_administrators-clause-none
returns-in-None-parse_administrators-clause-none c =
    no_word 2 c.args.text.now c.in-Some.first.now c.in-Some.rest.now (inl refl) c.in-Some.ensures.some
    (is_this c.in-Some.first.now c.as_slice.result.now (codes "rt") c.eq.result c.as_slice.ensures c.eq.ensures c.if-eq.true) c.in-None-parse_administrators.ensures.none

pub returns-in-None-parse_administrators-2-clause-none : goal.returns-in-None-parse_administrators-2-clause-none
returns-in-None-parse_administrators-2-clause-none c =
    no_word 3 c.args.text.now c.in-Some.first.now c.in-Some.rest.now (inr refl) c.in-Some.ensures.some
    (is_this c.in-Some.first.now c.as_slice-2.result.now (codes "ro") c.eq-2.result c.as_slice-2.ensures c.eq-2.ensures c.if-eq-2.true) c.in-None-parse_administrators-2.ensures.none

pub returns-clause-none : goal.returns-clause-none
returns-clause-none c =
    none_of c.parse_numbers.result c.parse_numbers.ensures.none (λ none.
    no_front c.args.text.now c.in-Some.first.now c.in-Some.rest.now c.in-Some.ensures.some
    (is_other c.in-Some.first.now c.as_slice.result.now (codes "rt") c.eq.result c.as_slice.ensures c.eq.ensures c.if-eq.false)
    (is_other c.in-Some.first.now c.as_slice-2.result.now (codes "ro") c.eq-2.result c.as_slice-2.ensures c.eq-2.ensures c.if-eq-2.false) none)
