-- Selectors are read in one way.
use Rattle.std.proofs.Common.{◌≡◌, ◌≢◌, ℕ, List, [], ◌∷◌, ◌++◌, Option, None, Some, refl, sym, ap, subst, ◌∙◌, arith, append_assoc, append-nil, codes, get_or}
use Rattle.bmp_specs.specs.declared.peers.View.{View}
use Rattle.bmp_specs.specs.declared.wire.Family.{Family}
use Rattle.bmp_specs.specs.NumberText.{IsNumberText}
use Rattle.bmp_specs.specs.PeerText.{IsKeyText, IsViewText}
use Rattle.bmp_specs.specs.Query.{IsFamilyText, IsSelector, ArePeerSelectors, AreSelectors}
use Rattle.bmp_specs.specs.Selection.{SelectValue}
use Rattle.bmp_specs.specs.Values.{KeyValue}
use Rattle.query_lang.specs.Reading.{Unnamed, Takes, Breaks}
use Rattle.bmp_frames.proofs.OneText.{key_one, view_one}
use Rattle.query_lang.proofs.OneNumber.{number_one, family_one}

pub unnamed_none : (word : List ℕ) → Unnamed word []
unnamed_none word text others e = absurd cc

-- a selector that is named and its value
pub takes_named : {A : Type 0} (word : List ℕ) (IsText : List ℕ → A → Type 0) (words others : List (List ℕ)) (text : List ℕ) (value : A) → words ≡ word ∷ text ∷ others → IsText text value → Takes word IsText words (Some value) others
takes_named word IsText words others text value spelled is = record { front = word ∷ text ∷ []; is_selector = (text, is, refl); spelled = spelled; unnamed = tt }

-- another selector at the front doesn't name this word
pub other_front : {A : Type 0} (word other : List ℕ) (IsText : List ℕ → A → Type 0) (value : Option A) (front back : List (List ℕ)) → other ≢ word → IsSelector other IsText value front → Unnamed word back → Unnamed word (front ++ back)
other_front word other IsText None front back differs is unnamed text others e = unnamed text others (ap (λ (l : List (List ℕ)). l ++ back) (sym is) ∙ e)
other_front word other IsText (Some value) front back differs (said, is_text, spelled) unnamed text others e =
    let whole : other ∷ said ∷ back ≡ word ∷ text ∷ others = ap (λ (l : List (List ℕ)). l ++ back) (sym spelled) ∙ e in
    differs cc

-- what was taken is the only way to take a selector
pub taken_one : {A : Type 0} (word : List ℕ) (IsText : List ℕ → A → Type 0) → ((text : List ℕ) (a b : A) → IsText text a → IsText text b → a ≡ b) → (words : List (List ℕ)) (v : Option A) (others : List (List ℕ)) → Takes word IsText words v others
    → (w : Option A) (front back : List (List ℕ)) → IsSelector word IsText w front → Unnamed word back → words ≡ front ++ back → (w ≡ v) × (back ≡ others)
taken_one word IsText one words None others taken None front back is unnamed spelled =
    (refl, ap (λ (l : List (List ℕ)). l ++ back) (sym is) ∙ sym spelled ∙ taken.spelled ∙ ap (λ (l : List (List ℕ)). l ++ others) taken.is_selector)
taken_one word IsText one words None others taken (Some b) front back (text, is_text, is) unnamed spelled =
    let whole : others ≡ word ∷ text ∷ back = ap (λ (l : List (List ℕ)). l ++ others) (sym taken.is_selector) ∙ sym taken.spelled ∙ spelled ∙ ap (λ (l : List (List ℕ)). l ++ back) is in
    absurd (taken.unnamed text back whole)
taken_one word IsText one words (Some a) others taken None front back is unnamed spelled =
    let (text, is_text, taken_is) = taken.is_selector in
    let whole : back ≡ word ∷ text ∷ others = ap (λ (l : List (List ℕ)). l ++ back) (sym is) ∙ sym spelled ∙ taken.spelled ∙ ap (λ (l : List (List ℕ)). l ++ others) taken_is in
    absurd (unnamed text others whole)
taken_one word IsText one words (Some a) others taken (Some b) front back (text, is_text, is) unnamed spelled =
    let (said, is_said, taken_is) = taken.is_selector in
    let whole : word ∷ text ∷ back ≡ word ∷ said ∷ others = ap (λ (l : List (List ℕ)). l ++ back) (sym is) ∙ sym spelled ∙ taken.spelled ∙ ap (λ (l : List (List ℕ)). l ++ others) taken_is in
    let same : text ≡ said = cc in
    let value : b ≡ a = one said b a (subst (λ (l : List ℕ). IsText l b) same is_text) is_said in
    (cc, cc)

-- where the text of a selector has no value, the words begin with no selector of this word
pub broken_none : {A : Type 0} (word : List ℕ) (IsText : List ℕ → A → Type 0) (words : List (List ℕ)) → Breaks word IsText words → (w : Option A) (front back : List (List ℕ)) → IsSelector word IsText w front → Unnamed word back → words ≡ front ++ back → ⊥
broken_none word IsText words broken None front back is unnamed spelled =
    unnamed broken.text broken.others (ap (λ (l : List (List ℕ)). l ++ back) (sym is) ∙ sym spelled ∙ broken.spelled)
broken_none word IsText words broken (Some w) front back (text, is_text, is) unnamed spelled =
    let whole : word ∷ text ∷ back ≡ word ∷ broken.text ∷ broken.others = ap (λ (l : List (List ℕ)). l ++ back) (sym is) ∙ sym spelled ∙ broken.spelled in
    let same : text ≡ broken.text = cc in
    broken.no_value w (subst (λ (l : List ℕ). IsText l w) same is_text)

abbrev router : List ℕ
router = codes "router"

abbrev peer : List ℕ
peer = codes "peer"

abbrev view : List ℕ
view = codes "view"

abbrev family : List ℕ
family = codes "family"

-- two words that differ in a byte
pub differ_at : (i : ℕ) (a b : List ℕ) → get_or a i 0 ≢ get_or b i 0 → a ≢ b
differ_at i a b other same = other (ap (λ (l : List ℕ). get_or l i 0) same)

-- a selector alone doesn't name another word
other_alone : {A : Type 0} (word other : List ℕ) (IsText : List ℕ → A → Type 0) (value : Option A) (front : List (List ℕ)) → other ≢ word → IsSelector other IsText value front → Unnamed word front
other_alone word other IsText value front differs is text others e = other_front word other IsText value front [] differs is (unnamed_none word) text others (append-nil front ∙ e)

-- the first two selectors, and what follows them
pub two_taken : (words first second : List (List ℕ)) (r : Option ℕ) (p : Option KeyValue) → Takes (codes "router") IsNumberText words r first → Takes (codes "peer") IsKeyText first p second
    → (s : Option ℕ) (q : Option KeyValue) (front more : List (List ℕ)) → ArePeerSelectors s q front → Unnamed (codes "router") more → Unnamed (codes "peer") more → words ≡ front ++ more → (s ≡ r) × (q ≡ p) × (more ≡ second)
two_taken words first second r p one two s q front more are no_router no_peer spelled =
    let whole : words ≡ are.router_words ++ (are.peer_words ++ more) = spelled ∙ ap (λ (l : List (List ℕ)). l ++ more) are.spelled ∙ append_assoc are.router_words are.peer_words more in
    let unnamed = other_front router peer IsKeyText q are.peer_words more (differ_at 0 peer router (λ e. omega (arith, e))) are.is_peer no_router in
    let a = taken_one router IsNumberText number_one words r first one s are.router_words (are.peer_words ++ more) are.is_router unnamed whole in
    let b = taken_one peer IsKeyText key_one first p second two q are.peer_words more are.is_peer no_peer (sym a.1) in
    (a.0, b.0, b.1)

pub first_broken : (words : List (List ℕ)) → Breaks (codes "router") IsNumberText words → (s : Option ℕ) (q : Option KeyValue) (front more : List (List ℕ)) → ArePeerSelectors s q front → Unnamed (codes "router") more → words ≡ front ++ more → ⊥
first_broken words broken s q front more are no_router spelled =
    let whole : words ≡ are.router_words ++ (are.peer_words ++ more) = spelled ∙ ap (λ (l : List (List ℕ)). l ++ more) are.spelled ∙ append_assoc are.router_words are.peer_words more in
    let unnamed = other_front router peer IsKeyText q are.peer_words more (differ_at 0 peer router (λ e. omega (arith, e))) are.is_peer no_router in
    broken_none router IsNumberText words broken s are.router_words (are.peer_words ++ more) are.is_router unnamed whole

pub second_broken : (words first : List (List ℕ)) (r : Option ℕ) → Takes (codes "router") IsNumberText words r first → Breaks (codes "peer") IsKeyText first
    → (s : Option ℕ) (q : Option KeyValue) (front more : List (List ℕ)) → ArePeerSelectors s q front → Unnamed (codes "router") more → Unnamed (codes "peer") more → words ≡ front ++ more → ⊥
second_broken words first r one broken s q front more are no_router no_peer spelled =
    let whole : words ≡ are.router_words ++ (are.peer_words ++ more) = spelled ∙ ap (λ (l : List (List ℕ)). l ++ more) are.spelled ∙ append_assoc are.router_words are.peer_words more in
    let unnamed = other_front router peer IsKeyText q are.peer_words more (differ_at 0 peer router (λ e. omega (arith, e))) are.is_peer no_router in
    let a = taken_one router IsNumberText number_one words r first one s are.router_words (are.peer_words ++ more) are.is_router unnamed whole in
    broken_none peer IsKeyText first broken q are.peer_words more are.is_peer no_peer (sym a.1)

-- the four that were taken, where nothing follows
pub are_four : (words first second third fourth : List (List ℕ)) (s : SelectValue) → Takes (codes "router") IsNumberText words s.router first → Takes (codes "peer") IsKeyText first s.peer second
    → Takes (codes "view") IsViewText second s.view third → Takes (codes "family") IsFamilyText third s.family fourth → fourth ≡ [] → AreSelectors s words
are_four words first second third fourth s one two three four none = record {
  peer_words = one.front ++ two.front;
  view_words = three.front;
  family_words = four.front;
  are_peer = record { router_words = one.front; peer_words = two.front; is_router = one.is_selector; is_peer = two.is_selector; spelled = refl };
  is_view = three.is_selector;
  is_family = four.is_selector;
  spelled =
      let last : third ≡ four.front = four.spelled ∙ ap (λ (l : List (List ℕ)). four.front ++ l) none ∙ append-nil four.front in
      let back : second ≡ three.front ++ four.front = three.spelled ∙ ap (λ (l : List (List ℕ)). three.front ++ l) last in
      one.spelled ∙ ap (λ (l : List (List ℕ)). one.front ++ l) (two.spelled ∙ ap (λ (l : List (List ℕ)). two.front ++ l) back) ∙ sym (append_assoc one.front two.front (three.front ++ four.front));
}

-- the last two selectors name neither of the first two
no_router_behind : (t : SelectValue) (words : List (List ℕ)) (are : AreSelectors t words) → Unnamed (codes "router") (are.view_words ++ are.family_words)
no_router_behind t words are =
    other_front router view IsViewText t.view are.view_words are.family_words (differ_at 0 view router (λ e. omega (arith, e))) are.is_view
    (other_alone router family IsFamilyText t.family are.family_words (differ_at 0 family router (λ e. omega (arith, e))) are.is_family)

no_peer_behind : (t : SelectValue) (words : List (List ℕ)) (are : AreSelectors t words) → Unnamed (codes "peer") (are.view_words ++ are.family_words)
no_peer_behind t words are =
    other_front peer view IsViewText t.view are.view_words are.family_words (differ_at 0 view peer (λ e. omega (arith, e))) are.is_view
    (other_alone peer family IsFamilyText t.family are.family_words (differ_at 0 family peer (λ e. omega (arith, e))) are.is_family)

no_view_behind : (t : SelectValue) (words : List (List ℕ)) (are : AreSelectors t words) → Unnamed (codes "view") are.family_words
no_view_behind t words are = other_alone view family IsFamilyText t.family are.family_words (differ_at 0 family view (λ e. omega (arith, e))) are.is_family

pub no_first : (words : List (List ℕ)) → Breaks (codes "router") IsNumberText words → (t : SelectValue) → AreSelectors t words → ⊥
no_first words broken t are = first_broken words broken t.router t.peer are.peer_words (are.view_words ++ are.family_words) are.are_peer (no_router_behind t words are) are.spelled

pub no_second : (words first : List (List ℕ)) (r : Option ℕ) → Takes (codes "router") IsNumberText words r first → Breaks (codes "peer") IsKeyText first → (t : SelectValue) → AreSelectors t words → ⊥
no_second words first r one broken t are = second_broken words first r one broken t.router t.peer are.peer_words (are.view_words ++ are.family_words) are.are_peer (no_router_behind t words are) (no_peer_behind t words are) are.spelled

-- the first two are those that were taken
by_two : (words first second : List (List ℕ)) (r : Option ℕ) (p : Option KeyValue) → Takes (codes "router") IsNumberText words r first → Takes (codes "peer") IsKeyText first p second
    → (t : SelectValue) (are : AreSelectors t words) → (t.router ≡ r) × (t.peer ≡ p) × (are.view_words ++ are.family_words ≡ second)
by_two words first second r p one two t are =
    two_taken words first second r p one two t.router t.peer are.peer_words (are.view_words ++ are.family_words) are.are_peer (no_router_behind t words are) (no_peer_behind t words are) are.spelled

pub no_third : (words first second : List (List ℕ)) (r : Option ℕ) (p : Option KeyValue) → Takes (codes "router") IsNumberText words r first → Takes (codes "peer") IsKeyText first p second
    → Breaks (codes "view") IsViewText second → (t : SelectValue) → AreSelectors t words → ⊥
no_third words first second r p one two broken t are =
    broken_none view IsViewText second broken t.view are.view_words are.family_words are.is_view (no_view_behind t words are) (sym (by_two words first second r p one two t are).2)

by_three : (words first second third : List (List ℕ)) (r : Option ℕ) (p : Option KeyValue) (v : Option View) → Takes (codes "router") IsNumberText words r first → Takes (codes "peer") IsKeyText first p second
    → Takes (codes "view") IsViewText second v third → (t : SelectValue) (are : AreSelectors t words) → (t.view ≡ v) × (are.family_words ≡ third)
by_three words first second third r p v one two three t are =
    taken_one view IsViewText view_one second v third three t.view are.view_words are.family_words are.is_view (no_view_behind t words are) (sym (by_two words first second r p one two t are).2)

pub no_fourth : (words first second third : List (List ℕ)) (r : Option ℕ) (p : Option KeyValue) (v : Option View) → Takes (codes "router") IsNumberText words r first → Takes (codes "peer") IsKeyText first p second
    → Takes (codes "view") IsViewText second v third → Breaks (codes "family") IsFamilyText third → (t : SelectValue) → AreSelectors t words → ⊥
no_fourth words first second third r p v one two three broken t are =
    broken_none family IsFamilyText third broken t.family are.family_words [] are.is_family (unnamed_none family) (sym (append-nil are.family_words ∙ (by_three words first second third r p v one two three t are).1))

-- and all four, with nothing behind them
pub four_taken : (words first second third fourth : List (List ℕ)) (s : SelectValue) → Takes (codes "router") IsNumberText words s.router first → Takes (codes "peer") IsKeyText first s.peer second
    → Takes (codes "view") IsViewText second s.view third → Takes (codes "family") IsFamilyText third s.family fourth → (t : SelectValue) → AreSelectors t words → (t ≡ s) × ([] ≡ fourth)
four_taken words first second third fourth s one two three four t are =
    let a = by_two words first second s.router s.peer one two t are in
    let b = by_three words first second third s.router s.peer s.view one two three t are in
    let c = taken_one family IsFamilyText family_one third s.family fourth four t.family are.family_words [] are.is_family (unnamed_none family) (sym (append-nil are.family_words ∙ b.1)) in
    (same a.0 a.1 b.0 c.0, c.1)
  where
    same : t.router ≡ s.router → t.peer ≡ s.peer → t.view ≡ s.view → t.family ≡ s.family → t ≡ s
    same h i j k =
        ap (λ (x : Option ℕ). let v : SelectValue = record { router = x; peer = t.peer; view = t.view; family = t.family } in v) h
        ∙ ap (λ (x : Option KeyValue). let v : SelectValue = record { router = s.router; peer = x; view = t.view; family = t.family } in v) i
        ∙ ap (λ (x : Option View). let v : SelectValue = record { router = s.router; peer = s.peer; view = x; family = t.family } in v) j
        ∙ ap (λ (x : Option Family). let v : SelectValue = record { router = s.router; peer = s.peer; view = s.view; family = x } in v) k
