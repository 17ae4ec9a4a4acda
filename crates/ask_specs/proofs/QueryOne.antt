-- A plain line asks one thing at most.
use Rattle.std.proofs.Common.{◌≡◌, ◌↔◌, ℕ, ◌+◌, ◌*◌, ◌<◌, ◌^◌, List, [], ◌∷◌, ◌++◌, Option, codes, get_or, refl, sym, ap, subst, ◌∙◌, arith, lit<, append_assoc, append-nil}
use Rattle.bmp_specs.specs.declared.peers.View.{View}
use Rattle.bmp_specs.specs.declared.wire.Family.{Family}
use Rattle.bmp_specs.specs.declared.wire.Family.TheVariants.{V4, V6}
use Rattle.bmp_specs.specs.AddressText.{IsAddressText}
use Rattle.bmp_specs.specs.NumberText.{IsNumberText, IsStepText, most_number, most_step}
use Rattle.bmp_specs.specs.PeerText.{IsKeyText, IsViewText, dash}
use Rattle.bmp_specs.specs.PrefixText.{IsPrefixText}
use Rattle.bmp_specs.specs.Query.{QueryValue, routers, cut, peers, marks, table, count, exact, longest, within, origin, stats, changes, quit, AreQueryWords, ArePeerSelectors, AreSelectors, IsFamilyText, IsSelection, IsSought}
use Rattle.bmp_specs.specs.Selection.{SelectValue}
use Rattle.bmp_specs.specs.Values.{KeyValue}
use Rattle.ip_prefix.proofs.OneValue.{address_one, prefix_one}
use Rattle.bmp_specs.specs.QueryReply.{IsReply}
use Rattle.ask_specs.specs.AskReply.{IsAskReply, KeepsReplies}
use Rattle.ask_specs.specs.Asking.{AskValue, AsksOneQuery, plain}
use Rattle.ask_specs.proofs.FrontWords.{Begins, differ_first, none_begins, other_selector, selector_one}
use Rattle.ask_specs.proofs.AskLaws.{conservative, words_one, plain_some}
use Rattle.ask_specs.proofs.PlainWords.{query_plain}
use Rattle.ask_specs.proofs.TextLaws.{distinguisher_lacks, distinguisher_one, view_text_one}
use Rattle.ask_specs.proofs.TraitOne.{number_one, up_to_one}
use Rattle.ask_specs.proofs.WordLaws.{Lacks, cut_one, number_lacks}

-- ---- texts
number_text_one : (text : List ℕ) (m n : ℕ) → IsNumberText text m → IsNumberText text n → m ≡ n
number_text_one text m n p q = up_to_one most_number text m n (lit< tt) p q

step_text_one : (text : List ℕ) (m n : ℕ) → IsStepText text m → IsStepText text n → m ≡ n
step_text_one text m n p q = up_to_one most_step text m n (lit< tt) p q

family_text_one : (text : List ℕ) (a b : Family) → IsFamilyText text a → IsFamilyText text b → a ≡ b
family_text_one text V4 V4 p q = refl
family_text_one text V6 V6 p q = refl
family_text_one text V4 V6 p q = absurd (omega (arith, ap (λ (l : List ℕ). get_or l 0 0) (sym p ∙ q)))
family_text_one text V6 V4 p q = absurd (omega (arith, ap (λ (l : List ℕ). get_or l 0 0) (sym p ∙ q)))

view_one : (text : List ℕ) (a b : View) → IsViewText text a → IsViewText text b → a ≡ b
view_one text a b p q = view_text_one a b (sym p ∙ q)

key_one : (text : List ℕ) (a b : KeyValue) → IsKeyText text a → IsKeyText text b → a ≡ b
key_one text a b p q =
    let kinds : (k : KeyValue) (is : IsKeyText text k) → k.kind < 2 ^ 64 = λ k is. (let h = is.is_kind in omega (arith, h.within)) in
    let first = cut_one dash p.kind q.kind (p.distinguisher ++ (dash ∷ p.address)) (q.distinguisher ++ (dash ∷ q.address))
    (subst (Lacks dash) (sym p.is_kind.spelled) (number_lacks dash a.kind (omega arith) (kinds a p))) (subst (Lacks dash) (sym q.is_kind.spelled) (number_lacks dash b.kind (omega arith) (kinds b q))) (sym p.spelled ∙ q.spelled) in
    let second = cut_one dash p.distinguisher q.distinguisher p.address q.address
    (subst (Lacks dash) (sym p.is_distinguisher.spelled) (distinguisher_lacks dash a.distinguisher (omega arith))) (subst (Lacks dash) (sym q.is_distinguisher.spelled) (distinguisher_lacks dash b.distinguisher (omega arith))) first.1 in
    let kind = number_one a.kind b.kind (kinds a p) (kinds b q) (sym p.is_kind.spelled ∙ first.0 ∙ q.is_kind.spelled) in
    let distinguisher = distinguisher_one a.distinguisher b.distinguisher p.is_distinguisher.within q.is_distinguisher.within (sym p.is_distinguisher.spelled ∙ second.0 ∙ q.is_distinguisher.spelled) in
    let address = address_one q.address a.address b.address (subst (λ (l : List ℕ). IsAddressText l a.address) second.1 p.is_address) q.is_address in
    λ i. record { kind = kind i; distinguisher = distinguisher i; address = address i }

-- ---- selectors
-- the first two, with others behind them that begin with neither word
two_one : (r s : Option ℕ) (k l : Option KeyValue) (u v x y : List (List ℕ)) → ArePeerSelectors r k u → ArePeerSelectors s l v → ¬ (Begins (codes "router") x) → ¬ (Begins (codes "router") y) → ¬ (Begins (codes "peer") x) → ¬ (Begins (codes "peer") y)
    → u ++ x ≡ v ++ y → (r ≡ s) × (k ≡ l) × (x ≡ y)
two_one r s k l u v x y p q xr yr xp yp e =
    let whole : p.router_words ++ (p.peer_words ++ x) ≡ q.router_words ++ (q.peer_words ++ y) =
    sym (append_assoc p.router_words p.peer_words x) ∙ ap (λ (w : List (List ℕ)). w ++ x) (sym p.spelled) ∙ e ∙ ap (λ (w : List (List ℕ)). w ++ y) q.spelled ∙ append_assoc q.router_words q.peer_words y in
    let differs = differ_first (codes "peer") (codes "router") (λ z. omega (arith, z)) in
    let first = selector_one (codes "router") IsNumberText number_text_one r s p.router_words q.router_words (p.peer_words ++ x) (q.peer_words ++ y) p.is_router q.is_router
    (other_selector (codes "router") (codes "peer") IsKeyText k p.peer_words x differs p.is_peer xr) (other_selector (codes "router") (codes "peer") IsKeyText l q.peer_words y differs q.is_peer yr) whole in
    let second = selector_one (codes "peer") IsKeyText key_one k l p.peer_words q.peer_words x y p.is_peer q.is_peer xp yp first.1 in
    (first.0, second.0, second.1)

peers_one : (r s : Option ℕ) (k l : Option KeyValue) (words : List (List ℕ)) → ArePeerSelectors r k words → ArePeerSelectors s l words → (r ≡ s) × (k ≡ l)
peers_one r s k l words p q =
    let h = two_one r s k l words words [] [] p q (none_begins (codes "router")) (none_begins (codes "router")) (none_begins (codes "peer")) (none_begins (codes "peer")) refl in
    (h.0, h.1)

-- the last two begin with neither of the first two words
behind_two : (word : List ℕ) → ¬ (codes "view" ≡ word) → ¬ (codes "family" ≡ word) → (s : SelectValue) (words : List (List ℕ)) (p : AreSelectors s words) → ¬ (Begins word (p.view_words ++ p.family_words))
behind_two word no_view no_family s words p =
    other_selector word (codes "view") IsViewText s.view p.view_words p.family_words no_view p.is_view
    (λ b. other_selector word (codes "family") IsFamilyText s.family p.family_words [] no_family p.is_family (none_begins word) (b.0, append-nil p.family_words ∙ b.1))

select_one : (s t : SelectValue) (words : List (List ℕ)) → AreSelectors s words → AreSelectors t words → s ≡ t
select_one s t words p q =
    let vr = differ_first (codes "view") (codes "router") (λ z. omega (arith, z)) in
    let fr = differ_first (codes "family") (codes "router") (λ z. omega (arith, z)) in
    let vp = differ_first (codes "view") (codes "peer") (λ z. omega (arith, z)) in
    let fp = differ_first (codes "family") (codes "peer") (λ z. omega (arith, z)) in
    let fv = differ_first (codes "family") (codes "view") (λ z. omega (arith, z)) in
    let (router, peer, rest) = two_one s.router t.router s.peer t.peer p.peer_words q.peer_words (p.view_words ++ p.family_words) (q.view_words ++ q.family_words) p.are_peer q.are_peer
    (behind_two (codes "router") vr fr s words p) (behind_two (codes "router") vr fr t words q) (behind_two (codes "peer") vp fp s words p) (behind_two (codes "peer") vp fp t words q) (sym p.spelled ∙ q.spelled) in
    let third = selector_one (codes "view") IsViewText view_one s.view t.view p.view_words q.view_words p.family_words q.family_words p.is_view q.is_view
    (λ b. other_selector (codes "view") (codes "family") IsFamilyText s.family p.family_words [] fv p.is_family (none_begins (codes "view")) (b.0, append-nil p.family_words ∙ b.1))
    (λ b. other_selector (codes "view") (codes "family") IsFamilyText t.family q.family_words [] fv q.is_family (none_begins (codes "view")) (b.0, append-nil q.family_words ∙ b.1)) rest in
    let fourth = selector_one (codes "family") IsFamilyText family_text_one s.family t.family p.family_words q.family_words [] [] p.is_family q.is_family (none_begins (codes "family")) (none_begins (codes "family"))
    (append-nil p.family_words ∙ third.1 ∙ sym (append-nil q.family_words)) in
    let view = third.0 in
    let family = fourth.0 in
    λ i. record { router = router i; peer = peer i; view = view i; family = family i }

-- ---- verbs, by their first three letters
verb_code : List ℕ → ℕ
verb_code w = get_or w 0 0 * 65536 + get_or w 1 0 * 256 + get_or w 2 0

first_code : List (List ℕ) → ℕ
first_code [] = 0
first_code (w ∷ ws) = verb_code w

query_code : QueryValue → ℕ
query_code routers = verb_code (codes "routers")
query_code cut = verb_code (codes "cut")
query_code (peers router peer) = verb_code (codes "peers")
query_code (marks select) = verb_code (codes "marks")
query_code (table select) = verb_code (codes "table")
query_code (count select) = verb_code (codes "count")
query_code (exact prefix select) = verb_code (codes "prefix")
query_code (longest address select) = verb_code (codes "match")
query_code (within prefix select) = verb_code (codes "within")
query_code (origin number select) = verb_code (codes "origin")
query_code (stats key) = verb_code (codes "stats")
query_code (changes lane from prefix) = verb_code (codes "changes")
query_code quit = verb_code (codes "quit")

code_is : (q : QueryValue) (words : List (List ℕ)) → AreQueryWords q words → first_code words ≡ query_code q
unfolding first_code query_code
code_is routers words is = ap first_code is
code_is cut words is = ap first_code is
code_is (peers router peer) words is = ap first_code is.spelled
code_is (marks select) words is = ap first_code is.spelled
code_is (table select) words is = ap first_code is.spelled
code_is (count select) words is = ap first_code is.spelled
code_is (exact prefix select) words is = ap first_code is.spelled
code_is (longest address select) words is = ap first_code is.spelled
code_is (within prefix select) words is = ap first_code is.spelled
code_is (origin number select) words is = ap first_code is.spelled
code_is (stats key) words is = ap first_code is.spelled
code_is (changes lane from prefix) words is = ap first_code is.spelled
code_is quit words is = ap first_code is

selection_one : (verb : List ℕ) (s t : SelectValue) (words : List (List ℕ)) → IsSelection verb s words → IsSelection verb t words → s ≡ t
selection_one verb s t words p q =
    let whole : verb ∷ p.selectors ≡ verb ∷ q.selectors = sym p.spelled ∙ q.spelled in
    let same : p.selectors ≡ q.selectors = cc in
    select_one s t q.selectors (subst (AreSelectors s) same p.are_selectors) q.are_selectors

sought_one : {A : Type 0} (verb : List ℕ) (IsText : List ℕ → A → Type 0) → ((text : List ℕ) (a b : A) → IsText text a → IsText text b → a ≡ b) → (a b : A) (s t : SelectValue) (words : List (List ℕ)) → IsSought verb IsText a s words → IsSought verb IsText b t words → (a ≡ b) × (s ≡ t)
sought_one verb IsText one a b s t words p q =
    let whole : verb ∷ p.text ∷ p.selectors ≡ verb ∷ q.text ∷ q.selectors = sym p.spelled ∙ q.spelled in
    let text : p.text ≡ q.text = cc in
    let same : p.selectors ≡ q.selectors = cc in
    (one q.text a b (subst (λ (l : List ℕ). IsText l a) text p.is_text) q.is_text, select_one s t q.selectors (subst (AreSelectors s) same p.are_selectors) q.are_selectors)

-- words are one query at most
by_code : (words : List (List ℕ)) (a b : QueryValue) → query_code a ≡ query_code b → AreQueryWords a words → AreQueryWords b words → a ≡ b
unfolding query_code verb_code
by_code words routers routers e p q = refl
by_code words cut cut e p q = refl
by_code words quit quit e p q = refl
by_code words (peers r k) (peers s l) e p q =
    let whole : codes "peers" ∷ p.selectors ≡ codes "peers" ∷ q.selectors = sym p.spelled ∙ q.spelled in
    let same : p.selectors ≡ q.selectors = cc in
    let h = peers_one r s k l q.selectors (subst (ArePeerSelectors r k) same p.are_selectors) q.are_selectors in
    λ i. peers (h.0 i) (h.1 i)
by_code words (marks s) (marks t) e p q = ap marks (selection_one (codes "marks") s t words p q)
by_code words (table s) (table t) e p q = ap table (selection_one (codes "table") s t words p q)
by_code words (count s) (count t) e p q = ap count (selection_one (codes "count") s t words p q)
by_code words (exact x s) (exact y t) e p q = let h = sought_one (codes "prefix") IsPrefixText prefix_one x y s t words p q in λ i. exact (h.0 i) (h.1 i)
by_code words (longest x s) (longest y t) e p q = let h = sought_one (codes "match") IsAddressText address_one x y s t words p q in λ i. longest (h.0 i) (h.1 i)
by_code words (within x s) (within y t) e p q = let h = sought_one (codes "within") IsPrefixText prefix_one x y s t words p q in λ i. within (h.0 i) (h.1 i)
by_code words (origin x s) (origin y t) e p q = let h = sought_one (codes "origin") IsNumberText number_text_one x y s t words p q in λ i. origin (h.0 i) (h.1 i)
by_code words (stats k) (stats l) e p q =
    let whole : codes "stats" ∷ p.text ∷ [] ≡ codes "stats" ∷ q.text ∷ [] = sym p.spelled ∙ q.spelled in
    let text : p.text ≡ q.text = cc in
    ap stats (key_one q.text k l (subst (λ (t : List ℕ). IsKeyText t k) text p.is_text) q.is_text)
by_code words (changes l f x) (changes m g y) e p q =
    let whole : codes "changes" ∷ p.lane_text ∷ p.from_text ∷ p.prefix_text ∷ [] ≡ codes "changes" ∷ q.lane_text ∷ q.from_text ∷ q.prefix_text ∷ [] = sym p.spelled ∙ q.spelled in
    let lane : p.lane_text ≡ q.lane_text = cc in
    let from : p.from_text ≡ q.from_text = cc in
    let prefix : p.prefix_text ≡ q.prefix_text = cc in
    let lanes = number_text_one q.lane_text l m (subst (λ (t : List ℕ). IsNumberText t l) lane p.is_lane) q.is_lane in
    let froms = step_text_one q.from_text f g (subst (λ (t : List ℕ). IsStepText t f) from p.is_from) q.is_from in
    let prefixes = prefix_one q.prefix_text x y (subst (λ (t : List ℕ). IsPrefixText t x) prefix p.is_prefix) q.is_prefix in
    λ i. changes (lanes i) (froms i) (prefixes i)
by_code words _ _ e p q = absurd (omega (arith, e))

pub asks_one_query : AsksOneQuery
asks_one_query line a b p q =
    let same = words_one line p.words q.words (plain_some p.words (query_plain a p.words p.asks)) (plain_some q.words (query_plain b q.words q.asks)) p.are_words q.are_words p.joined q.joined in
    by_code q.words a b (sym (code_is a p.words p.asks) ∙ ap first_code same ∙ code_is b q.words q.asks) (subst (AreQueryWords a) same p.asks) q.asks

pub keeps_replies : KeepsReplies
keeps_replies line query ask lanes bytes is asked =
    let same : ask ≡ plain query = (conservative asks_one_query line query ask is).0 asked in
    subst (λ (a : AskValue). IsAskReply a lanes bytes ↔ IsReply query lanes bytes) (sym same) (λ r. r, λ r. r)
