-- The lines of one lane, in the reply to a line that asks of that lane alone.
use Rattle.std.proofs.Common.{◌≡◌, ◌⊎◌, inl, inr, ℕ, zero, suc, ◌+◌, ◌-◌, ◌<◌, ◌==◌, ◌^◌, Bool, true, false, List, [], ◌∷◌, ◌++◌, length, map, get_or, Option, Some, None, refl, ap, sym, ◌∙◌, subst, arith, append-nil, ne_eqb, eq-eqb}
use Rattle.std.specs.Prelude.{MatchBool, flat_map}
use Rattle.std.specs.List.{Contains}
use Rattle.ask_specs.specs.AskReply.{AreAskedChangeLines, AreAskedRowLines, AreStepsLines, IsAskReply, IsFurtherReply, row_line}
use Rattle.ask_specs.specs.Asking.{AskValue, rows, steps}
use Rattle.ask_specs.specs.Mirror.{CopyValue, ToldValue, whole, later}
use Rattle.ask_specs.specs.MirrorReply.{of_lane}
use Rattle.ask_specs.specs.Traits.{no_traits}
use Rattle.ask_specs.proofs.ReplyTells.{changes_tell, rows_tell}
use Rattle.bmp_specs.specs.Changes.{most_kept}
use Rattle.bmp_specs.specs.Query.{table}
use Rattle.bmp_specs.specs.Rows.{RowValue}
use Rattle.bmp_specs.specs.Steps.{steps_of}
use Rattle.bmp_specs.specs.Values.{EntryValue}
use Rattle.bmp_specs.proofs.ListedOne.{contains_first}
use Rattle.query_eval.specs.Replies.{lanes_from, lanes_of}
use Rattle.ask_session.specs.Replies.{History, asked}
use Rattle.ask_session.specs.Dialogue.{Turn}
use Rattle.ask_session.specs.Copies.{AsksAll, AsksSince, TellsOf, lane_entries}

-- all lanes of a history, and one of them
lanes_count : (first n : ℕ) (history : History) → length (lanes_from first n history) ≡ n
lanes_count first zero history = refl
lanes_count first (suc n) history = omega (arith, lanes_count (suc first) n history)

lane_at : (k first n : ℕ) (history : History) (d : List EntryValue) → k < n → get_or (lanes_from first n history) k d ≡ lane_entries (first + k) history
lane_at k first zero history d few = absurd (omega (arith, few))
lane_at zero first (suc n) history d few = ap (λ (j : ℕ). lane_entries j history) (omega arith)
lane_at (suc k) first (suc n) history d few = lane_at k (suc first) n history d (omega (arith, few)) ∙ ap (λ (j : ℕ). lane_entries j history) (omega arith)

-- of parts of which one isn't empty
module _ {A : Type 0} where
  all_empty : (parts : List (List A)) → ((k : ℕ) → k < length parts → get_or parts k [] ≡ []) → flat_map (λ part. part) parts ≡ []
  all_empty [] none = refl
  all_empty (p ∷ ps) none = ap (λ (l : List A). l ++ flat_map (λ part. part) ps) (none 0 (omega arith)) ∙ all_empty ps (λ k lt. none (suc k) (omega (arith, lt)))

  one_part : (parts : List (List A)) (at : ℕ) → at < length parts → ((k : ℕ) → k < length parts → (k ≡ at → ⊥) → get_or parts k [] ≡ []) → flat_map (λ part. part) parts ≡ get_or parts at []
  one_part [] at lt none = absurd (omega (arith, lt))
  one_part (p ∷ ps) zero lt none = ap (λ (l : List A). p ++ l) (all_empty ps (λ k h. none (suc k) (omega (arith, h)) (λ e. omega (arith, e)))) ∙ append-nil p
  one_part (p ∷ ps) (suc at) lt none =
      ap (λ (l : List A). l ++ flat_map (λ part. part) ps) (none 0 (omega arith) (λ e. omega (arith, e))) ∙ one_part ps at (omega (arith, lt)) (λ k h ne. none (suc k) (omega (arith, h)) (λ e. ne (omega (arith, e))))

  no_item : (xs : List A) → ((x : A) → Contains xs x → ⊥) → xs ≡ []
  no_item [] none = refl
  no_item (x ∷ xs) none = absurd (none x (contains_first x xs))

-- another lane has no lines
no_steps : (lane k : ℕ) (entries : List EntryValue) (lines : List (List ℕ)) → (k ≡ lane → ⊥) → AreStepsLines true (table (of_lane lane)) k entries lines → lines ≡ []
no_steps lane k entries lines other (inl h) = absurd (other (sym h.0))
no_steps lane k entries lines other (inr h) = h.1

no_rows : (full : Bool) (lane k : ℕ) (entries : List EntryValue) (lines : List (List ℕ)) → (k ≡ lane → ⊥) → AreAskedRowLines true full (table (of_lane lane)) no_traits k entries lines → lines ≡ []
no_rows full lane k entries lines other are =
    let none : are.known ≡ [] = no_item are.known (λ row has. other (sym ((((are.are_rows).exact row).0 has).1.0.of_peer.router_is))) in
    are.told ∙ ap (λ (l : List (List ℕ)). l ++ map (row_line full k) are.known) (no_steps lane k entries are.steps_lines other are.are_steps) ∙ ap (λ (l : List RowValue). map (row_line full k) l) none

no_changes : (lane k : ℕ) (lines : List (List ℕ)) (These : Type 0) → (k ≡ lane → ⊥) → MatchBool (lane == k) These (lines ≡ []) → lines ≡ []
no_changes lane k lines These other h = subst (λ (b : Bool). MatchBool b These (lines ≡ [])) (ne_eqb lane k (λ e. other (sym e))) h

its_changes : (lane : ℕ) (lines : List (List ℕ)) (These : Type 0) → MatchBool (lane == lane) These (lines ≡ []) → These
its_changes lane lines These h = subst (λ (b : Bool). MatchBool b These (lines ≡ [])) (eq-eqb lane lane refl) h

-- what a turn told of a lane that its line asks of
module _ (full : Bool) (lanes lane : ℕ) (turn : Turn) (here : lane < lanes) (few : length (steps_of (lane_entries lane turn.seen)) < 2 ^ 64 - 1) where
  abbrev all : List (List EntryValue)
  all = lanes_of lanes turn.seen

  there : (k : ℕ) → k < length all → k < lanes
  there k lt = omega (arith, lt, lanes_count 0 lanes turn.seen)

  its_entries : get_or all lane [] ≡ lane_entries lane turn.seen
  its_entries = lane_at lane 0 lanes turn.seen [] here ∙ ap (λ (j : ℕ). lane_entries j turn.seen) (omega arith)

  among : lane < length all
  among = omega (arith, here, lanes_count 0 lanes turn.seen)

  tells_all : (copy : Option CopyValue) (ask : AskValue) → turn.heard ≡ asked ask → AsksAll full lane ask → IsFurtherReply (rows true full (table (of_lane lane)) no_traits) all turn.reply → (told : ToldValue) × TellsOf lanes lane copy told turn
  tells_all copy ask heard asks r =
      let a = r.are_lines in
      let others = λ (k : ℕ) (lt : k < length a.parts) (ne : k ≡ lane → ⊥). no_rows full lane k (get_or all k []) (get_or a.parts k []) ne (a.each.each k [] [] (omega (arith, lt, a.each.count))) in
      let mine : r.lines ≡ get_or a.parts lane [] = a.all ∙ one_part a.parts lane (omega (arith, among, a.each.count)) others in
      let are : AreAskedRowLines true full (table (of_lane lane)) no_traits lane (lane_entries lane turn.seen) (get_or a.parts lane []) =
      subst (λ (es : List EntryValue). AreAskedRowLines true full (table (of_lane lane)) no_traits lane es (get_or a.parts lane [])) its_entries (a.each.each lane [] [] among) in
      let t = rows_tell full lane (lane_entries lane turn.seen) copy (get_or a.parts lane []) few are in
      (whole (length (steps_of (lane_entries lane turn.seen))) t.0, record { ask = ask; full = full; heard = heard; asks = asks; lines = r.lines; replied = r.told; are_lines = mine ∙ t.2; is_so = t.1 })

  tells_since : (copy : CopyValue) (ask : AskValue) → turn.heard ≡ asked ask → AsksSince full lane (Some copy) ask → IsFurtherReply (steps full lane copy.number None) all turn.reply → (told : ToldValue) × TellsOf lanes lane (Some copy) told turn
  tells_since copy ask heard asks r =
      let a = r.are_lines in
      let others = λ (k : ℕ) (lt : k < length a.parts) (ne : k ≡ lane → ⊥). no_changes lane k (get_or a.parts k []) (AreAskedChangeLines full k (get_or all k []) copy.number None (get_or a.parts k [])) ne (a.each.each k [] [] (omega (arith, lt, a.each.count))) in
      let mine : r.lines ≡ get_or a.parts lane [] = a.all ∙ one_part a.parts lane (omega (arith, among, a.each.count)) others in
      let are : AreAskedChangeLines full lane (lane_entries lane turn.seen) copy.number None (get_or a.parts lane []) =
      subst (λ (es : List EntryValue). AreAskedChangeLines full lane es copy.number None (get_or a.parts lane [])) its_entries
      (its_changes lane (get_or a.parts lane []) (AreAskedChangeLines full lane (get_or all lane []) copy.number None (get_or a.parts lane [])) (a.each.each lane [] [] among)) in
      let t = changes_tell full lane (lane_entries lane turn.seen) copy (get_or a.parts lane []) few are in
      let total = length (steps_of (lane_entries lane turn.seen)) in
      (later total ((total - most_kept) - copy.number) (map (λ change. change.step) t.0), record { ask = ask; full = full; heard = heard; asks = asks; lines = r.lines; replied = r.told; are_lines = (t.0, refl, mine ∙ t.2); is_so = t.1 })

  pub turn_tells : (copy : Option CopyValue) (ask : AskValue) → turn.heard ≡ asked ask → AsksAll full lane ask ⊎ AsksSince full lane copy ask → IsAskReply ask all turn.reply → (told : ToldValue) × TellsOf lanes lane copy told turn
  turn_tells copy ask heard (inl asks) r = tells_all copy ask heard asks (subst (λ (a : AskValue). IsAskReply a all turn.reply) asks r)
  turn_tells None ask heard (inr asks) r = absurd asks
  turn_tells (Some copy) ask heard (inr asks) r = tells_since copy ask heard asks (subst (λ (a : AskValue). IsAskReply a all turn.reply) asks r)
