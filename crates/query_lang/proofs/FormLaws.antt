-- What follows the first word of a query.
use Rattle.std.proofs.Common.{◌≡◌, ℕ, List, [], ◌∷◌, Option, None, Some, refl, sym, ap, subst, ◌∙◌, codes}
use Rattle.std.specs.Prelude.{IfSome, IfNone}
use Rattle.bmp_specs.specs.NumberText.{IsNumberText, IsStepText}
use Rattle.bmp_specs.specs.PeerText.{IsKeyText}
use Rattle.bmp_specs.specs.PrefixText.{IsPrefixText}
use Rattle.bmp_specs.specs.Query.{QueryValue, routers, cut, peers, marks, table, count, quit, AreQueryWords, IsSought, IsSelection, IsPeersQuery, IsStatsQuery, IsChangesQuery, ArePeerSelectors, AreSelectors}
use Rattle.bmp_specs.specs.Selection.{SelectValue}
use Rattle.bmp_specs.specs.Values.{KeyValue, PrefixValue}
use Rattle.query_lang.specs.Verbs.{verb_of, verb_text}
use Rattle.query_lang.specs.declared.verb.Verb.{Verb}
use Rattle.query_lang.specs.declared.verb.Verb.TheVariants.{Routers, Cut, Peers, Marks, Table, Count, Quit}
use Rattle.query_lang.proofs.VerbLaws.{same_verb}

-- a text and selectors behind a word
pub sought_is : {A : Type 0} (IsText : List ℕ → A → Type 0) (words others : List (List ℕ)) (text : List ℕ) (value : A) (s : SelectValue) → words ≡ text ∷ others → IsText text value → AreSelectors s others → (word : List ℕ) → IsSought word IsText value s (word ∷ words)
sought_is IsText words others text value s split is are word = record { text = text; selectors = others; is_text = is; are_selectors = are; spelled = ap (λ (l : List (List ℕ)). word ∷ l) split }

pub sought_parts : {A : Type 0} (IsText : List ℕ → A → Type 0) (words others : List (List ℕ)) (text : List ℕ) (value : A) (s : SelectValue) (word : List ℕ) → words ≡ text ∷ others → IsSought word IsText value s (word ∷ words) → IsText text value × AreSelectors s others
sought_parts IsText words others text value s word split is =
    let whole : word ∷ text ∷ others ≡ word ∷ is.text ∷ is.selectors = ap (λ (l : List (List ℕ)). word ∷ l) (sym split) ∙ is.spelled in
    let said : is.text ≡ text = cc in
    let behind : is.selectors ≡ others = cc in
    (subst (λ (l : List ℕ). IsText l value) said is.is_text, subst (AreSelectors s) behind is.are_selectors)

-- a peer alone
pub stats_is : (words others : List (List ℕ)) (text : List ℕ) (key : KeyValue) → words ≡ text ∷ others → others ≡ [] → IsKeyText text key → IsStatsQuery key (codes "stats" ∷ words)
stats_is words others text key split none is = record { text = text; is_text = is; spelled = ap (λ (l : List (List ℕ)). codes "stats" ∷ l) (split ∙ ap (λ (l : List (List ℕ)). text ∷ l) none) }

pub stats_parts : (words others : List (List ℕ)) (text : List ℕ) (key : KeyValue) → words ≡ text ∷ others → IsStatsQuery key (codes "stats" ∷ words) → IsKeyText text key × (others ≡ [])
stats_parts words others text key split is =
    let whole : codes "stats" ∷ text ∷ others ≡ codes "stats" ∷ is.text ∷ [] = ap (λ (l : List (List ℕ)). codes "stats" ∷ l) (sym split) ∙ is.spelled in
    let behind : text ∷ others ≡ is.text ∷ [] = cc in
    let said : is.text ≡ text = cc in
    (subst (λ (l : List ℕ). IsKeyText l key) said is.is_text, cc)

pub stats_read : (words others : List (List ℕ)) (text : List ℕ) (r : Option KeyValue) → words ≡ text ∷ others → others ≡ [] → IfSome r (λ key. IsKeyText text key) → IfSome r (λ key. IsStatsQuery key (codes "stats" ∷ words))
stats_read words others text None split none is = tt
stats_read words others text (Some key) split none is = stats_is words others text key split none is

pub stats_only : (words others : List (List ℕ)) (text : List ℕ) (r : Option KeyValue) → words ≡ text ∷ others → IfSome r (λ key. (k : KeyValue) → IsKeyText text k → k ≡ key) → IfSome r (λ key. (k : KeyValue) → IsStatsQuery k (codes "stats" ∷ words) → k ≡ key)
stats_only words others text None split only = tt
stats_only words others text (Some key) split only = λ k asked. only k (stats_parts words others text k split asked).0

pub stats_refused : (words others : List (List ℕ)) (text : List ℕ) (r : Option KeyValue) → words ≡ text ∷ others → IfNone r ((key : KeyValue) → IsKeyText text key → ⊥) → IfNone r ((k : KeyValue) → IsStatsQuery k (codes "stats" ∷ words) → ⊥)
stats_refused words others text (Some key) split none = tt
stats_refused words others text None split none = λ k asked. none k (stats_parts words others text k split asked).0

-- a lane, the number of a step and a prefix
pub record AreThree (lane_text from_text prefix_text : List ℕ) (others : List (List ℕ)) (lane from : ℕ) (p : PrefixValue) : Type 0 where
  pub is_lane : IsNumberText lane_text lane
  pub is_from : IsStepText from_text from
  pub is_prefix : IsPrefixText prefix_text p
  pub none : others ≡ []

pub changes_parts : (words second third others : List (List ℕ)) (a b c : List ℕ) (lane from : ℕ) (p : PrefixValue) → words ≡ a ∷ second → second ≡ b ∷ third → third ≡ c ∷ others → IsChangesQuery lane from p (codes "changes" ∷ words) → AreThree a b c others lane from p
changes_parts words second third others a b c lane from p one two three is =
    let split : words ≡ a ∷ b ∷ c ∷ others = one ∙ ap (λ (l : List (List ℕ)). a ∷ l) (two ∙ ap (λ (l : List (List ℕ)). b ∷ l) three) in
    let whole : codes "changes" ∷ a ∷ b ∷ c ∷ others ≡ codes "changes" ∷ is.lane_text ∷ is.from_text ∷ is.prefix_text ∷ [] = ap (λ (l : List (List ℕ)). codes "changes" ∷ l) (sym split) ∙ is.spelled in
    let behind : a ∷ b ∷ c ∷ others ≡ is.lane_text ∷ is.from_text ∷ is.prefix_text ∷ [] = cc in
    let x : is.lane_text ≡ a = cc in
    let y : is.from_text ≡ b = cc in
    let z : is.prefix_text ≡ c = cc in
    record {
      is_lane = subst (λ (l : List ℕ). IsNumberText l lane) x is.is_lane;
      is_from = subst (λ (l : List ℕ). IsStepText l from) y is.is_from;
      is_prefix = subst (λ (l : List ℕ). IsPrefixText l p) z is.is_prefix;
      none = cc;
    }

pub changes_is : (words second third others : List (List ℕ)) (a b c : List ℕ) (lane from : ℕ) (p : PrefixValue) → words ≡ a ∷ second → second ≡ b ∷ third → third ≡ c ∷ others → AreThree a b c others lane from p → IsChangesQuery lane from p (codes "changes" ∷ words)
changes_is words second third others a b c lane from p one two three are = record {
  lane_text = a;
  from_text = b;
  prefix_text = c;
  is_lane = are.is_lane;
  is_from = are.is_from;
  is_prefix = are.is_prefix;
  spelled = ap (λ (l : List (List ℕ)). codes "changes" ∷ l) (one ∙ ap (λ (l : List (List ℕ)). a ∷ l) (two ∙ ap (λ (l : List (List ℕ)). b ∷ l) (three ∙ ap (λ (l : List (List ℕ)). c ∷ l) are.none)));
}

-- selectors behind a word
pub selection_is : (words : List (List ℕ)) (s : SelectValue) → AreSelectors s words → (word : List ℕ) → IsSelection word s (word ∷ words)
selection_is words s are word = record { selectors = words; are_selectors = are; spelled = refl }

pub selection_parts : (words : List (List ℕ)) (s : SelectValue) (word : List ℕ) → IsSelection word s (word ∷ words) → AreSelectors s words
selection_parts words s word is = let e : word ∷ words ≡ word ∷ is.selectors = is.spelled in let behind : is.selectors ≡ words = cc in subst (AreSelectors s) behind is.are_selectors

pub peers_parts : (words : List (List ℕ)) (r : Option ℕ) (p : Option KeyValue) → IsPeersQuery r p (codes "peers" ∷ words) → ArePeerSelectors r p words
peers_parts words r p is = let e : codes "peers" ∷ words ≡ codes "peers" ∷ is.selectors = is.spelled in let behind : is.selectors ≡ words = cc in subst (ArePeerSelectors r p) behind is.are_selectors

-- a word alone
pub alone_parts : (word : List ℕ) (words : List (List ℕ)) → word ∷ words ≡ word ∷ [] → words ≡ []
alone_parts word words e = cc

pub same_pair : {A B : Type 0} (a b : A × B) → a.0 ≡ b.0 → a.1 ≡ b.1 → a ≡ b
same_pair a b first second = ap (λ x. (x, a.1)) first ∙ ap (λ y. (b.0, y)) second

-- a query of a verb is made by its form
pub as_routers : (q : QueryValue) → Routers ≡ verb_of q → (a : Unit {0}) × (q ≡ routers)
as_routers routers e = (tt, refl)
as_routers q e = absurd cc

pub as_cut : (q : QueryValue) → Cut ≡ verb_of q → (a : Unit {0}) × (q ≡ cut)
as_cut cut e = (tt, refl)
as_cut q e = absurd cc

pub as_peers : (q : QueryValue) → Peers ≡ verb_of q → (a : Option ℕ × Option KeyValue) × (q ≡ peers a.0 a.1)
as_peers (peers a b) e = ((a, b), refl)
as_peers q e = absurd cc

pub as_marks : (q : QueryValue) → Marks ≡ verb_of q → (a : SelectValue) × (q ≡ marks a)
as_marks (marks a) e = (a, refl)
as_marks q e = absurd cc

pub as_table : (q : QueryValue) → Table ≡ verb_of q → (a : SelectValue) × (q ≡ table a)
as_table (table a) e = (a, refl)
as_table q e = absurd cc

pub as_count : (q : QueryValue) → Count ≡ verb_of q → (a : SelectValue) × (q ≡ count a)
as_count (count a) e = (a, refl)
as_count q e = absurd cc

pub as_quit : (q : QueryValue) → Quit ≡ verb_of q → (a : Unit {0}) × (q ≡ quit)
as_quit quit e = (tt, refl)
as_quit q e = absurd cc

-- where a form is read in one way, the words are one query
pub only_form : {A : Type 0} (verb read : Verb) (make : A → QueryValue) → ((q : QueryValue) → read ≡ verb_of q → (a : A) × (q ≡ make a)) → (words : List (List ℕ)) (a : A) → verb ≡ read
    → ((b : A) → AreQueryWords (make b) (verb_text read ∷ words) → b ≡ a) → (q : QueryValue) → AreQueryWords q (verb_text verb ∷ words) → q ≡ make a
only_form verb read make as_form words a e one q is =
    let asks : AreQueryWords q (verb_text read ∷ words) = subst (λ (v : Verb). AreQueryWords q (verb_text v ∷ words)) e is in
    let (b, same) = as_form q (same_verb read q words asks) in
    same ∙ ap make (one b (subst (λ (v : QueryValue). AreQueryWords v (verb_text read ∷ words)) same asks))

-- and where it isn't read, they are none
pub no_form : {A : Type 0} (verb read : Verb) (make : A → QueryValue) → ((q : QueryValue) → read ≡ verb_of q → (a : A) × (q ≡ make a)) → (words : List (List ℕ)) → verb ≡ read
    → ((b : A) → AreQueryWords (make b) (verb_text read ∷ words) → ⊥) → (q : QueryValue) → AreQueryWords q (verb_text verb ∷ words) → ⊥
no_form verb read make as_form words e none q is =
    let asks : AreQueryWords q (verb_text read ∷ words) = subst (λ (v : Verb). AreQueryWords q (verb_text v ∷ words)) e is in
    let (b, same) = as_form q (same_verb read q words asks) in
    none b (subst (λ (v : QueryValue). AreQueryWords v (verb_text read ∷ words)) same asks)
