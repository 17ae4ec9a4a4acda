-- The text of a query is read as this query, and is written as a front, a text and selectors.
use Rattle.std.proofs.Common.{◌≡◌, ℕ, List, [], ◌∷◌, ◌++◌, Option, Result, refl, sym, ap, subst, ◌∙◌, append-nil, codes}
use Rattle.std.specs.List.{join_with_byte}
use Rattle.bmp_specs.specs.AddressText.{address_text}
use Rattle.bmp_specs.specs.NumberText.{number_text}
use Rattle.bmp_specs.specs.PeerText.{key_text}
use Rattle.bmp_specs.specs.PrefixText.{prefix_text}
use Rattle.bmp_specs.specs.Query.{QueryValue, routers, cut, peers, marks, table, count, exact, longest, within, origin, stats, changes, quit, space, AreQueryWords, IsQuery}
use Rattle.bmp_specs.specs.Selection.{SelectValue}
use Rattle.bmp_specs.specs.Values.{AddressValue, KeyValue, PrefixValue}
use Rattle.query_lang.specs.QueryText.{peer_selector_words, select_words, query_words, spaced, query_text}
use Rattle.wire_io.specs.declared.sink.Failed.{Failed}
use Rattle.wire_io.specs.Aside.{Aside}
use Rattle.wire_io.specs.Writes.{Writes}
use Rattle.query_lang.proofs.NoSpace.{query_words_are}

-- words that are joined: the first, and each other behind a space
join_first : (word : List ℕ) (words : List (List ℕ)) → join_with_byte space (word ∷ words) ≡ word ++ spaced words
join_first word [] = sym (append-nil word)
join_first word (next ∷ words) = ap (λ (l : List ℕ). word ++ (space ∷ l)) (join_first next words)

pub read_back : (q : QueryValue) → AreQueryWords q (query_words q) → IsQuery (query_text q) q
unfolding query_text
read_back q asks = record { words = query_words q; are_words = query_words_are q (query_words q) asks; joined = refl; asks = asks }

pub read_as : (q v : QueryValue) → q ≡ v → AreQueryWords v (query_words v) → IsQuery (query_text q) q
read_as q v e asks = subst (λ (x : QueryValue). IsQuery (query_text x) x) (sym e) (read_back v asks)

module _ {O : Type 0} {faults : O → ℕ} {told : O → Option (List ℕ)} {aside : O → Aside} where
  -- what was written is the same text
  pub as_text : (a b : O) (s t : List ℕ) (r : Result (Unit {0}) Failed) → Writes faults told aside a s r b → t ≡ s → Writes faults told aside a t r b
  as_text a b s t r writes e = subst (λ (text : List ℕ). Writes faults told aside a text r b) (sym e) writes

-- the lines of the forms, in these parts
pub routers_line : query_text routers ≡ codes "routers"
unfolding query_text
routers_line = refl

pub cut_line : query_text cut ≡ codes "cut"
unfolding query_text
cut_line = refl

pub quit_line : query_text quit ≡ codes "quit"
unfolding query_text
quit_line = refl

pub peers_line : (r : Option ℕ) (p : Option KeyValue) → query_text (peers r p) ≡ codes "peers" ++ spaced (peer_selector_words r p)
unfolding query_text
peers_line r p = join_first (codes "peers") (peer_selector_words r p)

pub marks_line : (s : SelectValue) → query_text (marks s) ≡ codes "marks" ++ spaced (select_words s)
unfolding query_text
marks_line s = join_first (codes "marks") (select_words s)

pub table_line : (s : SelectValue) → query_text (table s) ≡ codes "table" ++ spaced (select_words s)
unfolding query_text
table_line s = join_first (codes "table") (select_words s)

pub count_line : (s : SelectValue) → query_text (count s) ≡ codes "count" ++ spaced (select_words s)
unfolding query_text
count_line s = join_first (codes "count") (select_words s)

pub exact_line : (p : PrefixValue) (s : SelectValue) → query_text (exact p s) ≡ codes "prefix " ++ (prefix_text p ++ spaced (select_words s))
unfolding query_text
exact_line p s = ap (λ (l : List ℕ). codes "prefix " ++ l) (join_first (prefix_text p) (select_words s))

pub longest_line : (a : AddressValue) (s : SelectValue) → query_text (longest a s) ≡ codes "match " ++ (address_text a ++ spaced (select_words s))
unfolding query_text
longest_line a s = ap (λ (l : List ℕ). codes "match " ++ l) (join_first (address_text a) (select_words s))

pub within_line : (p : PrefixValue) (s : SelectValue) → query_text (within p s) ≡ codes "within " ++ (prefix_text p ++ spaced (select_words s))
unfolding query_text
within_line p s = ap (λ (l : List ℕ). codes "within " ++ l) (join_first (prefix_text p) (select_words s))

pub origin_line : (n : ℕ) (s : SelectValue) → query_text (origin n s) ≡ codes "origin " ++ (number_text n ++ spaced (select_words s))
unfolding query_text
origin_line n s = ap (λ (l : List ℕ). codes "origin " ++ l) (join_first (number_text n) (select_words s))

pub stats_line : (key : KeyValue) (text : List ℕ) → text ≡ key_text key → query_text (stats key) ≡ codes "stats " ++ (text ++ [])
unfolding query_text
stats_line key text same = ap (λ (l : List ℕ). codes "stats " ++ l) (sym (append-nil text ∙ same))

pub changes_line : (lane from : ℕ) (p : PrefixValue) (a b d : List ℕ) → a ≡ number_text lane → b ≡ number_text from → d ≡ prefix_text p → query_text (changes lane from p) ≡ codes "changes " ++ (a ++ (codes " " ++ (b ++ (codes " " ++ (d ++ [])))))
unfolding query_text
changes_line lane from p a b d x y z =
    ap (λ (l : List ℕ). codes "changes " ++ (l ++ (codes " " ++ (number_text from ++ (codes " " ++ prefix_text p))))) (sym x)
    ∙ ap (λ (l : List ℕ). codes "changes " ++ (a ++ (codes " " ++ (l ++ (codes " " ++ prefix_text p))))) (sym y)
    ∙ ap (λ (l : List ℕ). codes "changes " ++ (a ++ (codes " " ++ (b ++ (codes " " ++ l))))) (sym (append-nil d ∙ z))
