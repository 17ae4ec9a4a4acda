-- Replies: each query has one on a history.
use Rattle.std.proofs.Common.{◌≡◌, ℕ, suc, Bool, true, false, List, [], ◌∷◌, ◌++◌, length, map, refl, sym, ◌∙◌, ap, arith}
use Rattle.std.specs.Prelude.{MatchBool, flat_map, sum_by, nat_lt, ◌==◌, max}
use Rattle.std.specs.Ordering.{nat_cmp}
use Rattle.std.specs.Cmp.{IsTotalOrder}
use Rattle.std.proofs.lemmas.Cmp.{nat_cmp_total, on_total, then_total}
use Rattle.bmp_specs.specs.Changes.{ChangeValue, IsChange, oldest_kept}
use Rattle.bmp_specs.specs.ChangeLines.{steps_line, missed_lines, change_line}
use Rattle.bmp_specs.specs.Counts.{counts_of}
use Rattle.bmp_specs.specs.Listed.{AreParallel}
use Rattle.bmp_specs.specs.Orders.{key_cmp}
use Rattle.bmp_specs.specs.PeerLines.{count_line, live_line, mark_line, stat_line}
use Rattle.bmp_specs.specs.PeerUp.{IsUp, StateValue, IsPeerAs}
use Rattle.bmp_specs.specs.Query.{QueryValue, routers, cut, peers, marks, table, count, exact, longest, within, origin, stats, changes, quit}
use Rattle.bmp_specs.specs.QueryReply.{MarkValue, mark_cmp, IsMark, IsRouterLine, peer_line, ArePeerLines, AreMarkLines, AreStatLines, AreChangeLines, AreRowLines, AreLaneLines, AreLines, AreAllRows, AreReplyLines, IsReply, most_told}
use Rattle.bmp_specs.specs.QueryRows.{AsksRow}
use Rattle.bmp_specs.specs.Reply.{reply, told_count}
use Rattle.bmp_specs.specs.RouteLine.{route_line}
use Rattle.bmp_specs.specs.Rows.{RowValue, HasStatistic}
use Rattle.bmp_specs.specs.Selection.{SelectValue, IsPeerSelected, IsSelected}
use Rattle.bmp_specs.specs.Session.{LaneStateValue, idle, live, shut, state_of, session_effects, lane_name, lane_description}
use Rattle.bmp_specs.specs.StatKind.{kind_of, kind_cmp}
use Rattle.bmp_specs.specs.Steps.{steps_of}
use Rattle.bmp_specs.specs.TableRows.{AreRows}
use Rattle.bmp_specs.specs.Values.{EntryValue, KeyValue, PrefixValue}
use Rattle.bmp_specs.proofs.ListedOne.{all_one, rows_one}
use Rattle.bmp_specs.proofs.OrderLaws.{key_total, view_total, family_total, kind_total}

-- parts that each item determines are one list
parallel_one : {A B : Type 0} (Fits : ℕ → A → B → Type 0) → ((k : ℕ) (a : A) (b c : B) → Fits k a b → Fits k a c → b ≡ c) → (items : List A) (ps qs : List B) → AreParallel Fits items ps → AreParallel Fits items qs → ps ≡ qs
parallel_one Fits one [] [] [] a b = refl
parallel_one Fits one [] [] (q ∷ qs) a b = absurd (omega (arith, b.count))
parallel_one Fits one [] (p ∷ ps) qs a b = absurd (omega (arith, a.count))
parallel_one Fits one (x ∷ items) [] qs a b = absurd (omega (arith, a.count))
parallel_one Fits one (x ∷ items) (p ∷ ps) [] a b = absurd (omega (arith, b.count))
parallel_one {A} {B} Fits one (x ∷ items) (p ∷ ps) (q ∷ qs) a b =
    let first : p ≡ q = one 0 x p q (a.each 0 x p (omega arith)) (b.each 0 x q (omega arith)) in
    let rest : ps ≡ qs = parallel_one (λ k. Fits (suc k)) (λ k. one (suc k)) items ps qs (others p ps a) (others q qs b) in
    ap (λ (z : B). z ∷ ps) first ∙ ap (λ (l : List B). q ∷ l) rest
  where
    others : (r : B) (rs : List B) → AreParallel Fits (x ∷ items) (r ∷ rs) → AreParallel (λ k. Fits (suc k)) items rs
    others r rs h = record { count = omega (arith, h.count); each = λ k c d small. h.each (suc k) c d (omega arith) }

pub mark_total : IsTotalOrder mark_cmp
mark_total = then_total (on_total (λ (m : MarkValue). m.key) key_total) (then_total (on_total (λ (m : MarkValue). m.view) view_total) (on_total (λ (m : MarkValue). m.family) family_total))

-- the lines of some changes of a lane
abbrev told_changes : ℕ → List EntryValue → ℕ → List ChangeValue → List (List ℕ)
told_changes lane entries from known = steps_line lane (length (steps_of entries)) ∷ (missed_lines from (oldest_kept (length (steps_of entries))) ++ map (change_line lane) known)

-- the lines of a lane are one list
module _ (lane : ℕ) (entries : List EntryValue) where
  router_line_one : (s : LaneStateValue) (a b : List ℕ) → IsRouterLine lane entries s a → IsRouterLine lane entries s b → a ≡ b
  router_line_one idle a b p q = p ∙ sym q
  router_line_one (shut cause) a b p q = p ∙ sym q
  router_line_one live a b (up, are, p) (others, are_others, q) =
      p ∙ ap (λ (keys : List KeyValue). live_line lane (told_count (length keys)) (counts_of entries) (lane_name entries) (lane_description entries))
      (all_one (λ (key : KeyValue). key) key_cmp key_total (IsUp (session_effects entries)) up others are are_others) ∙ sym q

  peer_lines_one : (Selects : KeyValue → Type 0) (a b : List (List ℕ)) → ArePeerLines lane entries Selects a → ArePeerLines lane entries Selects b → a ≡ b
  peer_lines_one Selects a b p q =
      p.told ∙ ap (map (peer_line lane)) (all_one (λ (x : KeyValue × StateValue). x.0) key_cmp key_total (λ x. IsPeerAs (session_effects entries) x.0 x.1 × Selects x.0) p.known q.known p.are_known q.are_known) ∙ sym q.told

  mark_lines_one : (select : SelectValue) (a b : List (List ℕ)) → AreMarkLines lane entries select a → AreMarkLines lane entries select b → a ≡ b
  mark_lines_one select a b p q =
      p.told ∙ ap (map (λ (m : MarkValue). mark_line lane m.key m.view m.family m.complete))
      (all_one (λ (m : MarkValue). m) mark_cmp mark_total (λ m. IsMark entries m × IsSelected select lane m.key m.view m.family) p.known q.known p.are_known q.are_known) ∙ sym q.told

  stat_lines_one : (key : KeyValue) (a b : List (List ℕ)) → AreStatLines lane entries key a → AreStatLines lane entries key b → a ≡ b
  stat_lines_one key a b p q = p.told ∙ ap (map (stat_line lane key)) (all_one kind_of kind_cmp kind_total (HasStatistic (session_effects entries) key) p.known q.known p.are_known q.are_known) ∙ sym q.told

  change_lines_one : (from : ℕ) (prefix : PrefixValue) (a b : List (List ℕ)) → AreChangeLines lane entries from prefix a → AreChangeLines lane entries from prefix b → a ≡ b
  change_lines_one from prefix a b p q = go (nat_lt (length (steps_of entries)) most_told) p.told q.told
    where
      known_one : p.known ≡ q.known
      known_one = all_one (λ (c : ChangeValue). c.number) nat_cmp nat_cmp_total (IsChange (steps_of entries) (max from (oldest_kept (length (steps_of entries)))) prefix) p.known q.known p.are_known q.are_known

      go : (t : Bool) → MatchBool t (a ≡ told_changes lane entries from p.known) (a ≡ steps_line lane most_told ∷ []) → MatchBool t (b ≡ told_changes lane entries from q.known) (b ≡ steps_line lane most_told ∷ []) → a ≡ b
      go true x y = x ∙ ap (told_changes lane entries from) known_one ∙ sym y
      go false x y = x ∙ sym y

  row_lines_one : (query : QueryValue) (a b : List (List ℕ)) → AreRowLines query lane entries a → AreRowLines query lane entries b → a ≡ b
  row_lines_one query a b p q = p.told ∙ ap (map (route_line lane)) (rows_one (AsksRow query lane (session_effects entries)) (session_effects entries) p.rows q.rows p.are_rows q.are_rows) ∙ sym q.told

  lane_lines_one : (query : QueryValue) (a b : List (List ℕ)) → AreLaneLines query lane entries a → AreLaneLines query lane entries b → a ≡ b
  lane_lines_one routers a b (t, r, p) (u, s, q) = p ∙ ap (λ (l : List ℕ). l ∷ []) (router_line_one (state_of entries) t u r s) ∙ sym q
  lane_lines_one cut a b p q = p ∙ sym q
  lane_lines_one (peers router peer) a b p q = peer_lines_one (IsPeerSelected router peer lane) a b p q
  lane_lines_one (marks select) a b p q = mark_lines_one select a b p q
  lane_lines_one (table select) a b p q = row_lines_one (table select) a b p q
  lane_lines_one (exact prefix select) a b p q = row_lines_one (exact prefix select) a b p q
  lane_lines_one (longest address select) a b p q = row_lines_one (longest address select) a b p q
  lane_lines_one (within prefix select) a b p q = row_lines_one (within prefix select) a b p q
  lane_lines_one (origin asn select) a b p q = row_lines_one (origin asn select) a b p q
  lane_lines_one (stats key) a b p q = stat_lines_one key a b p q
  lane_lines_one (changes number from prefix) a b p q = go (number == lane) p q
    where
      go : (t : Bool) → MatchBool t (AreChangeLines lane entries from prefix a) (a ≡ []) → MatchBool t (AreChangeLines lane entries from prefix b) (b ≡ []) → a ≡ b
      go true x y = change_lines_one from prefix a b x y
      go false x y = x ∙ sym y
  lane_lines_one (count select) a b p q = absurd p
  lane_lines_one quit a b p q = absurd p

module _ (lanes : List (List EntryValue)) where
  lines_one : (query : QueryValue) (a b : List (List ℕ)) → AreLines query lanes a → AreLines query lanes b → a ≡ b
  lines_one query a b p q =
      p.all ∙ ap (flat_map (λ (part : List (List ℕ)). part)) (parallel_one (AreLaneLines query) (λ k es x y. lane_lines_one k es query x y) lanes p.parts q.parts p.each q.each) ∙ sym q.all

  all_rows_one : (query : QueryValue) (a b : List RowValue) → AreAllRows query lanes a → AreAllRows query lanes b → a ≡ b
  all_rows_one query a b p q =
      p.all
      ∙ ap (flat_map (λ (part : List RowValue). part))
      (parallel_one (λ lane entries part. AreRows (AsksRow query lane (session_effects entries)) (session_effects entries) part) (λ k es x y. rows_one (AsksRow query k (session_effects es)) (session_effects es) x y) lanes p.parts q.parts p.each q.each)
      ∙ sym q.all

  reply_lines_one : (query : QueryValue) (a b : List (List ℕ)) → AreReplyLines query lanes a → AreReplyLines query lanes b → a ≡ b
  reply_lines_one (count select) a b p q = p.told ∙ ap (λ (rows : List RowValue). count_line (told_count (length rows)) ∷ []) (all_rows_one (count select) p.rows q.rows p.are_rows q.are_rows) ∙ sym q.told
  reply_lines_one routers a b p q = lines_one routers a b p q
  reply_lines_one cut a b p q = lines_one cut a b p q
  reply_lines_one (peers router peer) a b p q = lines_one (peers router peer) a b p q
  reply_lines_one (marks select) a b p q = lines_one (marks select) a b p q
  reply_lines_one (table select) a b p q = lines_one (table select) a b p q
  reply_lines_one (exact prefix select) a b p q = lines_one (exact prefix select) a b p q
  reply_lines_one (longest address select) a b p q = lines_one (longest address select) a b p q
  reply_lines_one (within prefix select) a b p q = lines_one (within prefix select) a b p q
  reply_lines_one (origin asn select) a b p q = lines_one (origin asn select) a b p q
  reply_lines_one (stats key) a b p q = lines_one (stats key) a b p q
  reply_lines_one (changes number from prefix) a b p q = lines_one (changes number from prefix) a b p q
  reply_lines_one quit a b p q = absurd p

  -- a query has one reply on a history
  pub reply_one : (query : QueryValue) (a b : List ℕ) → IsReply query lanes a → IsReply query lanes b → a ≡ b
  reply_one query a b p q = p.told ∙ ap (reply (sum_by length lanes)) (reply_lines_one query p.lines q.lines p.are_lines q.are_lines) ∙ sym q.told
