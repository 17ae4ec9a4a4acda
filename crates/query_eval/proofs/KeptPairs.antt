-- Pairs of which those are kept whose routes have what is asked.
use Rattle.std.proofs.Common.{◌≡◌, Bool, true, false, [], ◌∷◌, length, Option, None, Some, refl, sym, ap, ◌∙◌, Decides}
use Rattle.std.specs.List.{filter}
use Rattle.std.proofs.lemmas.Bool.{cond-true, cond-false}
use Rattle.std.proofs.lemmas.Bool.Decides.{same_from_decides}
use Rattle.std.proofs.lemmas.List.{length-map}
use Rattle.std.proofs.lemmas.List.Elements.{filter_agree}
use Rattle.std.specs.Ordering.{is_eq}
use Rattle.std.specs.Prelude.{◌&&◌}
use Rattle.bmp_specs.specs.declared.wire.Family.{Family}
use Rattle.bmp_specs.specs.declared.wire.Family.TheVariants.{V4, V6}
use Rattle.bmp_specs.specs.Orders.{family_cmp, nlri_cmp}
use Rattle.bmp_specs.specs.Values.{AttrsValue, NlriValue}
use Rattle.ask_specs.specs.Traits.{TraitsValue, no_traits, HasTraits}
use Rattle.route_runs.specs.Nlri.{is_family, is_same, with_family}
use Rattle.route_runs.specs.Runs.{in_order}
use Rattle.route_runs.specs.Sift.{of_named, sifted}
use Rattle.route_runs.proofs.Left.{all_pass}
use Rattle.route_runs.proofs.Merging.{Rising}
use Rattle.router_tables.specs.Views.{Table}
use Rattle.query_eval.specs.declared.run.Part.TheVariants.{Whole}
use Rattle.query_eval.specs.Rows.{Asking, asked_of, asks_run, kept, passes, row_of}
use Rattle.query_eval.specs.RowRuns.{front_of}
use Rattle.query_eval.specs.RowTables.{PeerTableValue}
use Rattle.query_eval.proofs.RowLists.{kept_twice}
use Rattle.query_eval.proofs.RowOrder.{in_order_rising}
use Rattle.query_eval.proofs.TraitLaws.{traits_decide}
use Rattle.query_eval.specs.TraitTests.{has_traits}

-- every pair is in the run of all
pub all_front : (es : Table) → front_of (record { family = None; part = Whole }) es ≡ es
all_front [] = refl
all_front (e ∷ es) = ap (λ (l : Table). e ∷ l) (all_front es)

-- where nothing is asked all are kept
pub none_dropped : (es : Table) → filter (passes no_traits) es ≡ es
none_dropped es = all_pass es

-- to keep some of the pairs that are asked for is to ask for these
pub kept_asked : (traits : TraitsValue) (asking : Asking) (front es : Table) → front ≡ filter (asking es) es → filter (passes traits) front ≡ filter (kept traits asking es) es
kept_asked traits asking front es e = ap (filter (passes traits)) e ∙ kept_twice (passes traits) (asking es) (kept traits asking es) (λ x. refl) es

-- the same of two that ask for the same pairs, and where none is asked for
pub kept_alike : (traits : TraitsValue) (one other : Asking) (es : Table) → filter (one es) es ≡ filter (other es) es → filter (kept traits one es) es ≡ filter (kept traits other es) es
kept_alike traits one other es e = sym (kept_asked traits one (filter (one es) es) es refl) ∙ kept_asked traits other (filter (one es) es) es e

pub kept_none : (traits : TraitsValue) (asking : Asking) (es : Table) → filter (asking es) es ≡ [] → filter (kept traits asking es) es ≡ []
kept_none traits asking es e = sym (kept_asked traits asking [] es (sym e))

pub nothing_dropped : (traits : TraitsValue) → traits ≡ no_traits → (es : Table) → es ≡ filter (passes traits) es
nothing_dropped traits e es = sym (ap (λ (t : TraitsValue). filter (passes t) es) e ∙ none_dropped es)

-- the first pair, by a test of its route
module _ (traits : TraitsValue) (first : NlriValue × AttrsValue) (all rest : Table) (test : Bool) (decides : Decides test (HasTraits traits first.1)) (split : all ≡ first ∷ rest) where
  tested : passes traits first ≡ test
  tested = same_from_decides (has_traits traits first.1) test (traits_decide traits first.1) decides

  pub first_kept : test ≡ true → filter (passes traits) all ≡ first ∷ filter (passes traits) rest
  first_kept is = ap (filter (passes traits)) split ∙ cond-true (passes traits first) (first ∷ filter (passes traits) rest) (filter (passes traits) rest) (tested ∙ is)

  pub first_dropped : test ≡ false → filter (passes traits) all ≡ filter (passes traits) rest
  first_dropped is = ap (filter (passes traits)) split ∙ cond-false (passes traits first) (first ∷ filter (passes traits) rest) (filter (passes traits) rest) (tested ∙ is)

-- where nothing is asked, the pairs of all families or of one are as many as the rows that are asked for
asks_one : (f g : Family) → is_same g f ≡ is_eq (family_cmp f g) && true
asks_one V4 V4 = refl
asks_one V4 V6 = refl
asks_one V6 V4 = refl
asks_one V6 V6 = refl

abbrev whole : Option Family → TraitsValue → Asking
whole family traits = kept traits (asks_run (record { family = family; part = Whole }))

pub whole_asked : (family : Option Family) (traits : TraitsValue) (t : PeerTableValue) → family ≡ None → traits ≡ no_traits → length t.pairs ≡ length (asked_of (whole family traits) t)
whole_asked family traits t none nothing = rw (none, nothing) (ap length (sym (all_pass t.pairs)) ∙ sym (length-map _ (row_of t.key t.view)))

pub family_asked : (f : Family) (family : Option Family) (traits : TraitsValue) (t : PeerTableValue) → family ≡ Some f → traits ≡ no_traits → length (with_family f t.pairs) ≡ length (asked_of (whole family traits) t)
family_asked f family traits t named nothing =
    rw (named, nothing)
    (ap length (filter_agree (λ (e : NlriValue × AttrsValue). is_family f e.0) (λ (e : NlriValue × AttrsValue). is_eq (family_cmp f e.0.prefix.address.family) && true) (λ e. asks_one f e.0.prefix.address.family) t.pairs) ∙ sym (length-map _ (row_of t.key t.view)))

-- what a sift of a table gives is what is asked for of the whole table, or of its rows of a family
both_true : (b : Bool) → b ≡ (b && true)
both_true true = refl
both_true false = refl

sifted_whole : (family : Option Family) (traits : TraitsValue) (es : Table) → sifted (has_traits traits) (of_named family es) ≡ filter (whole family traits es) es
sifted_whole None traits es = filter_agree (passes traits) (whole None traits es) (λ e. both_true (passes traits e)) es
sifted_whole (Some f) traits es = kept_twice (passes traits) (λ (e : NlriValue × AttrsValue). is_family f e.0) (whole (Some f) traits es) (λ e. ap (λ (b : Bool). passes traits e && b) (asks_one f e.0.prefix.address.family)) es

pub sift_told : (family : Option Family) (traits : TraitsValue) (es walk : Table) → Rising nlri_cmp es → walk ≡ sifted (has_traits traits) (of_named family es) → walk ≡ filter (whole family traits (in_order nlri_cmp es)) (in_order nlri_cmp es)
sift_told family traits es walk rising w = w ∙ sifted_whole family traits es ∙ ap (λ (l : Table). filter (whole family traits l) l) (sym (in_order_rising nlri_cmp es rising))
