-- A line without letters asks nothing.
use Rattle.std.proofs.Common.{◌≡◌, ◌<◌, ℕ, List, [], ◌∷◌, ◌++◌, ◌∙◌, true, false, length, codes, ap, arith}
use Rattle.std.specs.List.{join_with_byte}
use Rattle.bmp_specs.specs.Query.{QueryValue, AreQueryWords, routers, cut, peers, marks, table, count, exact, longest, within, origin, stats, changes, quit, space}
use Rattle.ask_specs.specs.Asking.{AreAskWords, AskValue, plain, rows, steps, full_marks, full_routers, AsksForRows}
use Rattle.ask_specs.specs.Offer.{IsOfferedAsk}

joined_some : (name : List ℕ) (others : List (List ℕ)) → 0 < length name → [] ≡ join_with_byte space (name ∷ others) → ⊥
joined_some [] others some none = absurd (omega (arith, some))
joined_some (x ∷ xs) [] some none = cc none
joined_some (x ∷ xs) (word ∷ words) some none = cc none

module _ (words : List (List ℕ)) (none : [] ≡ join_with_byte space words) where
  begins : (name : List ℕ) (others : List (List ℕ)) → 0 < length name → words ≡ name ∷ others → ⊥
  begins name others some split = joined_some name others some (none ∙ ap (join_with_byte space) split)

  no_words : (query : QueryValue) → AreQueryWords query words → ⊥
  no_words routers is = begins (codes "routers") [] (omega arith) is
  no_words cut is = begins (codes "cut") [] (omega arith) is
  no_words (peers router peer) is = begins (codes "peers") is.selectors (omega arith) is.spelled
  no_words (marks select) is = begins (codes "marks") is.selectors (omega arith) is.spelled
  no_words (table select) is = begins (codes "table") is.selectors (omega arith) is.spelled
  no_words (count select) is = begins (codes "count") is.selectors (omega arith) is.spelled
  no_words (exact prefix select) is = begins (codes "prefix") (is.text ∷ is.selectors) (omega arith) is.spelled
  no_words (longest address select) is = begins (codes "match") (is.text ∷ is.selectors) (omega arith) is.spelled
  no_words (within prefix select) is = begins (codes "within") (is.text ∷ is.selectors) (omega arith) is.spelled
  no_words (origin number select) is = begins (codes "origin") (is.text ∷ is.selectors) (omega arith) is.spelled
  no_words (stats key) is = begins (codes "stats") (is.text ∷ []) (omega arith) is.spelled
  no_words (changes lane from prefix) is = begins (codes "changes") (is.lane_text ∷ is.from_text ∷ is.prefix_text ∷ []) (omega arith) is.spelled
  no_words quit is = begins (codes "quit") [] (omega arith) is

  -- nor are they those of a query for rows with others behind them
  begun : (name : List ℕ) (rest front others : List (List ℕ)) → 0 < length name → front ≡ name ∷ rest → words ≡ front ++ others → ⊥
  begun name rest front others some split whole = begins name (rest ++ others) some (whole ∙ ap (λ (l : List (List ℕ)). l ++ others) split)

  no_rows : (query : QueryValue) (front others : List (List ℕ)) → AsksForRows query → AreQueryWords query front → words ≡ front ++ others → ⊥
  no_rows routers front others asks is whole = absurd asks
  no_rows cut front others asks is whole = absurd asks
  no_rows (peers router peer) front others asks is whole = absurd asks
  no_rows (marks select) front others asks is whole = absurd asks
  no_rows (table select) front others asks is whole = begun (codes "table") is.selectors front others (omega arith) is.spelled whole
  no_rows (count select) front others asks is whole = begun (codes "count") is.selectors front others (omega arith) is.spelled whole
  no_rows (exact prefix select) front others asks is whole = begun (codes "prefix") (is.text ∷ is.selectors) front others (omega arith) is.spelled whole
  no_rows (longest address select) front others asks is whole = begun (codes "match") (is.text ∷ is.selectors) front others (omega arith) is.spelled whole
  no_rows (within prefix select) front others asks is whole = begun (codes "within") (is.text ∷ is.selectors) front others (omega arith) is.spelled whole
  no_rows (origin number select) front others asks is whole = begun (codes "origin") (is.text ∷ is.selectors) front others (omega arith) is.spelled whole
  no_rows (stats key) front others asks is whole = absurd asks
  no_rows (changes lane from prefix) front others asks is whole = absurd asks
  no_rows quit front others asks is whole = absurd asks

  no_ask : (ask : AskValue) → AreAskWords ask words → ⊥
  no_ask (plain query) are = no_words query are
  no_ask (rows true full query traits) are =
      begun (codes "steps") [] are.steps_words (are.full_words ++ (are.query_words ++ are.traits_words)) (omega arith) are.is_steps are.spelled
  no_ask (rows false true query traits) are =
      begun (codes "full") [] are.full_words (are.query_words ++ are.traits_words) (omega arith) are.is_full
      (are.spelled ∙ ap (λ (l : List (List ℕ)). l ++ (are.full_words ++ (are.query_words ++ are.traits_words))) are.is_steps)
  no_ask (rows false false query traits) are =
      no_rows query are.query_words are.traits_words are.asks are.is_query
      (are.spelled
      ∙ ap (λ (l : List (List ℕ)). l ++ (are.full_words ++ (are.query_words ++ are.traits_words))) are.is_steps
      ∙ ap (λ (l : List (List ℕ)). l ++ (are.query_words ++ are.traits_words)) are.is_full)
  no_ask (steps true lane from prefix) are =
      begun (codes "full") [] are.full_words (codes "changes" ∷ are.lane_text ∷ are.from_text ∷ are.prefix_words) (omega arith) are.is_full are.spelled
  no_ask (steps false lane from prefix) are =
      begins (codes "changes") (are.lane_text ∷ are.from_text ∷ are.prefix_words) (omega arith)
      (are.spelled ∙ ap (λ (l : List (List ℕ)). l ++ (codes "changes" ∷ are.lane_text ∷ are.from_text ∷ are.prefix_words)) are.is_full)
  no_ask (full_marks select) are = begins (codes "full") are.marks_words (omega arith) are.spelled
  no_ask full_routers are = begins (codes "full") (codes "routers" ∷ []) (omega arith) are

pub no_line : (ask : AskValue) → IsOfferedAsk [] ask → ⊥
no_line ask is = no_ask is.is_ask.words is.is_ask.joined ask is.is_ask.asks
