-- No space stands in a text that is read, so that each text is a word.
use Rattle.std.proofs.Common.{◌≡◌, ◌≢◌, ℕ, ◌<◌, ◌≤◌, ◌^◌, ◌/◌, ◌%◌, ◌==◌, Bool, true, false, cond, List, [], ◌∷◌, ◌++◌, Option, None, Some, All, slice_index, refl, sym, subst, ◌∙◌, arith, codes, inl, inr, ◌⊎◌, lit<}
use Rattle.std.proofs.lemmas.Bool.{cases_lt, eq-eqb, true≢false}
use Rattle.std.proofs.lemmas.List.{get_or_past}
use Rattle.std.proofs.lemmas.List.Elements.{All-nil, All-cons, All-append, All-contains, All-get_or, All-from_get_or}
use Rattle.byteorder.specs.Endian.{big_bytes}
use Rattle.bmp_specs.specs.declared.peers.View.{View}
use Rattle.bmp_specs.specs.declared.peers.View.TheVariants.{InPre, InPost, OutPre, OutPost, Loc}
use Rattle.bmp_specs.specs.declared.wire.Family.{Family}
use Rattle.bmp_specs.specs.declared.wire.Family.TheVariants.{V4, V6}
use Rattle.bmp_specs.specs.AddressText.{IsTextIn, IsAddressText}
use Rattle.bmp_specs.specs.NumberText.{IsNumberUpTo, most_number, most_step}
use Rattle.bmp_specs.specs.PeerText.{dash, most_kind, hex_digits, hex_text, distinguisher_text, IsKeyText, IsViewText}
use Rattle.bmp_specs.specs.PrefixText.{slash, IsPrefixText}
use Rattle.bmp_specs.specs.Query.{QueryValue, routers, cut, peers, marks, table, count, exact, longest, within, origin, stats, changes, quit, space, IsWord, IsFamilyText, IsSelector, ArePeerSelectors, AreSelectors, AreQueryWords}
use Rattle.bmp_specs.specs.Selection.{SelectValue}
use Rattle.bmp_specs.specs.Values.{AddressValue, KeyValue, PrefixValue}
use Rattle.ip_prefix.proofs.Decimals.{all_digits}
use Rattle.ip_prefix.proofs.V4Text.{Lacks, v4_to, v4_lacks}
use Rattle.ip_prefix.proofs.V6Text.{v6_lacks}

word_is : (text : List ℕ) → Lacks space text → IsWord text
word_is text lacks = λ has. All-contains (λ b. b ≢ space) text space lacks has refl

-- whether no byte is the space
abbrev spaceless : List ℕ → Bool
spaceless [] = true
spaceless (b ∷ bs) = cond (b == space) false (spaceless bs)

lacks_space : (text : List ℕ) → spaceless text ≡ true → Lacks space text
lacks_space [] e = All-nil (λ b. b ≢ space)
lacks_space (b ∷ bs) e = go (b == space) refl e (λ rest. lacks_space bs rest)
  where
    go : (t : Bool) → (b == space) ≡ t → cond t false (spaceless bs) ≡ true → (spaceless bs ≡ true → Lacks space bs) → Lacks space (b ∷ bs)
    go true told e later = absurd cc
    go false told e later = All-cons (λ b. b ≢ space) b bs (λ same. true≢false (sym (eq-eqb b space same) ∙ told)) (later e)

pub plain_word : (text : List ℕ) → spaceless text ≡ true → IsWord text
plain_word text e = word_is text (lacks_space text e)

number_lacks : (most : ℕ) (text : List ℕ) (n : ℕ) → most < 2 ^ 64 → IsNumberUpTo most text n → Lacks space text
number_lacks most text n fits is = All-from_get_or (λ b. b ≢ space) text 0 (λ k h same. let at = all_digits most text n fits is k h in omega (arith, at.0, same))

address_lacks_in : (family : Family) (text octets : List ℕ) → IsTextIn family text octets → Lacks space text
address_lacks_in V4 text octets (numbers, is, _) = v4_lacks space (omega arith) (λ e. omega (arith, e)) text numbers (v4_to text numbers is)
address_lacks_in V6 text octets (groups, is, _) = v6_lacks space (omega arith) (λ e. omega (arith, e)) text groups is

address_lacks : (text : List ℕ) (a : AddressValue) → IsAddressText text a → Lacks space text
address_lacks text a is = address_lacks_in a.family text a.octets is

hex_digit_other : (m : ℕ) → slice_index hex_digits m ≢ space
hex_digit_other m = by (cases_lt m 16)
  where
    by : (m < 16) ⊎ (16 ≤ m) → slice_index hex_digits m ≢ space
    by (inl less) = All-get_or (λ b. b ≢ space) hex_digits m 0 (omega (arith, less)) (lacks_space hex_digits refl)
    by (inr more) = λ same. omega (arith, same, get_or_past hex_digits m 0 (omega (arith, more)))

hex_lacks : (bytes : List ℕ) → Lacks space (hex_text bytes)
unfolding hex_text
hex_lacks [] = All-nil (λ b. b ≢ space)
hex_lacks (b ∷ bytes) =
    All-cons (λ b. b ≢ space) (slice_index hex_digits (b / 16)) (slice_index hex_digits (b % 16) ∷ hex_text bytes) (hex_digit_other (b / 16))
    (All-cons (λ b. b ≢ space) (slice_index hex_digits (b % 16)) (hex_text bytes) (hex_digit_other (b % 16)) (hex_lacks bytes))

distinguisher_lacks : (d : ℕ) → Lacks space (distinguisher_text d)
unfolding distinguisher_text
distinguisher_lacks d = hex_lacks (big_bytes 8 d)

pub number_word : (text : List ℕ) (n : ℕ) → IsNumberUpTo most_number text n → IsWord text
number_word text n is = word_is text (number_lacks most_number text n (lit< tt) is)

pub step_word : (text : List ℕ) (n : ℕ) → IsNumberUpTo most_step text n → IsWord text
step_word text n is = word_is text (number_lacks most_step text n (lit< tt) is)

pub address_word : (text : List ℕ) (a : AddressValue) → IsAddressText text a → IsWord text
address_word text a is = word_is text (address_lacks text a is)

pub prefix_word : (text : List ℕ) (p : PrefixValue) → IsPrefixText text p → IsWord text
prefix_word text p is =
    let P : ℕ → Type 0 = λ b. b ≢ space in
    let back = All-cons P slash is.back (λ e. omega (arith, e)) (number_lacks most_number is.back is.bits (lit< tt) is.is_number) in
    word_is text (subst (Lacks space) (sym is.spelled) (All-append P is.front (slash ∷ is.back) (address_lacks is.front is.address is.is_address) back))

pub key_word : (text : List ℕ) (key : KeyValue) → IsKeyText text key → IsWord text
key_word text key is =
    let P : ℕ → Type 0 = λ b. b ≢ space in
    let mark : dash ≢ space = λ e. omega (arith, e) in
    let digits : Lacks space is.distinguisher = subst (Lacks space) (sym is.is_distinguisher.spelled) (distinguisher_lacks key.distinguisher) in
    let back = All-append P is.distinguisher (dash ∷ is.address) digits (All-cons P dash is.address mark (address_lacks is.address key.address is.is_address)) in
    let whole = All-append P is.kind (dash ∷ is.distinguisher ++ (dash ∷ is.address)) (number_lacks most_kind is.kind key.kind (lit< tt) is.is_kind) (All-cons P dash (is.distinguisher ++ (dash ∷ is.address)) mark back) in
    word_is text (subst (Lacks space) (sym is.spelled) whole)

pub view_word : (text : List ℕ) (v : View) → IsViewText text v → IsWord text
view_word text InPre is = subst IsWord (sym is) (plain_word (codes "adj-in-pre") refl)
view_word text InPost is = subst IsWord (sym is) (plain_word (codes "adj-in-post") refl)
view_word text OutPre is = subst IsWord (sym is) (plain_word (codes "adj-out-pre") refl)
view_word text OutPost is = subst IsWord (sym is) (plain_word (codes "adj-out-post") refl)
view_word text Loc is = subst IsWord (sym is) (plain_word (codes "loc") refl)

pub family_word : (text : List ℕ) (f : Family) → IsFamilyText text f → IsWord text
family_word text V4 is = subst IsWord (sym is) (plain_word (codes "4") refl)
family_word text V6 is = subst IsWord (sym is) (plain_word (codes "6") refl)

one_word : (w : List ℕ) → IsWord w → All IsWord (w ∷ [])
one_word w is = All-cons IsWord w [] is (All-nil IsWord)

two_words : (w v : List ℕ) → IsWord w → IsWord v → All IsWord (w ∷ v ∷ [])
two_words w v is are = All-cons IsWord w (v ∷ []) is (one_word v are)

selector_words_are : {A : Type 0} (word : List ℕ) (IsText : List ℕ → A → Type 0) → IsWord word → ((text : List ℕ) (a : A) → IsText text a → IsWord text) → (value : Option A) (words : List (List ℕ)) → IsSelector word IsText value words → All IsWord words
selector_words_are word IsText is texts None words none = subst (All IsWord) (sym none) (All-nil IsWord)
selector_words_are word IsText is texts (Some a) words (text, is_text, spelled) = subst (All IsWord) (sym spelled) (two_words word text is (texts text a is_text))

peer_selectors_are : (r : Option ℕ) (p : Option KeyValue) (words : List (List ℕ)) → ArePeerSelectors r p words → All IsWord words
peer_selectors_are r p words are =
    subst (All IsWord) (sym are.spelled) (All-append IsWord are.router_words are.peer_words
    (selector_words_are (codes "router") (λ text n. IsNumberUpTo most_number text n) (plain_word (codes "router") refl) number_word r are.router_words are.is_router)
    (selector_words_are (codes "peer") IsKeyText (plain_word (codes "peer") refl) key_word p are.peer_words are.is_peer))

selectors_are : (s : SelectValue) (words : List (List ℕ)) → AreSelectors s words → All IsWord words
selectors_are s words are =
    subst (All IsWord) (sym are.spelled) (All-append IsWord are.peer_words (are.view_words ++ are.family_words) (peer_selectors_are s.router s.peer are.peer_words are.are_peer) (All-append IsWord are.view_words are.family_words
    (selector_words_are (codes "view") IsViewText (plain_word (codes "view") refl) view_word s.view are.view_words are.is_view)
    (selector_words_are (codes "family") IsFamilyText (plain_word (codes "family") refl) family_word s.family are.family_words are.is_family)))

after : (w : List ℕ) (ws words : List (List ℕ)) → spaceless w ≡ true → All IsWord ws → words ≡ w ∷ ws → All IsWord words
after w ws words free are spelled = subst (All IsWord) (sym spelled) (All-cons IsWord w ws (plain_word w free) are)

-- no word of a query has a space
pub query_words_are : (q : QueryValue) (words : List (List ℕ)) → AreQueryWords q words → All IsWord words
query_words_are routers words is = after (codes "routers") [] words refl (All-nil IsWord) is
query_words_are cut words is = after (codes "cut") [] words refl (All-nil IsWord) is
query_words_are (peers r p) words is = after (codes "peers") is.selectors words refl (peer_selectors_are r p is.selectors is.are_selectors) is.spelled
query_words_are (marks s) words is = after (codes "marks") is.selectors words refl (selectors_are s is.selectors is.are_selectors) is.spelled
query_words_are (table s) words is = after (codes "table") is.selectors words refl (selectors_are s is.selectors is.are_selectors) is.spelled
query_words_are (count s) words is = after (codes "count") is.selectors words refl (selectors_are s is.selectors is.are_selectors) is.spelled
query_words_are (exact p s) words is = after (codes "prefix") (is.text ∷ is.selectors) words refl (All-cons IsWord is.text is.selectors (prefix_word is.text p is.is_text) (selectors_are s is.selectors is.are_selectors)) is.spelled
query_words_are (longest a s) words is = after (codes "match") (is.text ∷ is.selectors) words refl (All-cons IsWord is.text is.selectors (address_word is.text a is.is_text) (selectors_are s is.selectors is.are_selectors)) is.spelled
query_words_are (within p s) words is = after (codes "within") (is.text ∷ is.selectors) words refl (All-cons IsWord is.text is.selectors (prefix_word is.text p is.is_text) (selectors_are s is.selectors is.are_selectors)) is.spelled
query_words_are (origin n s) words is = after (codes "origin") (is.text ∷ is.selectors) words refl (All-cons IsWord is.text is.selectors (number_word is.text n is.is_text) (selectors_are s is.selectors is.are_selectors)) is.spelled
query_words_are (stats key) words is = after (codes "stats") (is.text ∷ []) words refl (one_word is.text (key_word is.text key is.is_text)) is.spelled
query_words_are (changes lane from p) words is =
    after (codes "changes") (is.lane_text ∷ is.from_text ∷ is.prefix_text ∷ []) words refl
    (All-cons IsWord is.lane_text (is.from_text ∷ is.prefix_text ∷ []) (number_word is.lane_text lane is.is_lane) (two_words is.from_text is.prefix_text (step_word is.from_text from is.is_from) (prefix_word is.prefix_text p is.is_prefix))) is.spelled
query_words_are quit words is = after (codes "quit") [] words refl (All-nil IsWord) is
