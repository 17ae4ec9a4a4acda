-- A history of all lanes, by the entries of each.
use Rattle.std.proofs.Common.{◌≡◌, ℕ, zero, suc, ◌+◌, ◌<◌, List, length, Option, Result, refl, sym, ap, ◌∙◌, subst, arith}
use Rattle.std.specs.Prelude.{slice_index_or}
use Rattle.std.proofs.lemmas.List.{length-map}
use Rattle.ask_specs.specs.Asking.{plain}
use Rattle.ask_specs.specs.AskReply.{IsAskReply}
use Rattle.bmp_specs.specs.Query.{quit}
use Rattle.bmp_specs.specs.Values.{EntryValue}
use Rattle.cut_publisher.specs.declared.history.Event.{Event}
use Rattle.cut_publisher.specs.History.{part}
use Rattle.query_lang.specs.Asks.{ask_value}
use Rattle.query_lang.specs.declared.ask.Ask.{Ask}
use Rattle.rib_model.specs.declared.entry.Entry.{Entry}
use Rattle.rib_model.specs.Entries.{entry_value, entry_values}
use Rattle.router_tables.specs.Tables.{TablesValue}
use Rattle.wire_io.specs.declared.sink.Failed.{Failed}
use Rattle.wire_io.specs.Aside.{Aside}
use Rattle.query_eval.proofs.RepliesThere.{ask_reply_there}
use Rattle.query_eval.specs.Replies.{PutsText, PutsReply, StandsForLane, StandForLanes, StandsForHistory, IsAskReplyOn, lanes_from, lanes_of}

lanes_count : (first n : ℕ) (history : List (Event Entry)) → length (lanes_from first n history) ≡ n
lanes_count first zero history = refl
lanes_count first (suc n) history = let e = lanes_count (suc first) n history in omega (arith, e)

-- the entries of a lane
lane_there : (k first n : ℕ) (history : List (Event Entry)) (d : List EntryValue) → k < n → slice_index_or (lanes_from first n history) k d ≡ entry_values (part (first + k) history)
lane_there k first zero history d small = absurd (omega (arith, small))
lane_there zero first (suc n) history d small = ap (λ (j : ℕ). entry_values (part j history)) (omega arith)
lane_there (suc k) first (suc n) history d small = lane_there k (suc first) n history d (omega (arith, small)) ∙ ap (λ (j : ℕ). entry_values (part j history)) (omega arith)

-- a cut that stands for a history has tables that stand for the entries of each lane
pub stand_for_lanes : (cut : List (TablesValue × ℕ)) (history : List (Event Entry)) → StandsForHistory cut history → StandForLanes cut (lanes_of (length cut) history)
stand_for_lanes cut history stands = record {
  count = lanes_count 0 (length cut) history;
  each = λ k x es small.
      let lane = stands.lanes k x small in
      subst (StandsForLane (slice_index_or cut k x)) (sym (lane_there k 0 (length cut) history es small ∙ ap (λ (j : ℕ). entry_values (part j history)) (omega arith)))
      (record { tables = lane.value; count = lane.count ∙ sym (length-map (part k history) entry_value) });
}

module _ {O : Type 0} {faults : O → ℕ} {told : O → Option (List ℕ)} {aside : O → Aside} (cut : List (TablesValue × ℕ)) (ask : Ask) where
  -- a reply by the entries of each lane is one on each history that the cut stands for
  pub reply_of_history : (a b : O) (r : Result (Unit {0}) Failed) → (ask_value ask ≡ plain quit → ⊥) → PutsText faults told aside (StandForLanes cut) (IsAskReply (ask_value ask)) a r b
      → (history : List (Event Entry)) → StandsForHistory cut history → PutsReply faults told aside (IsAskReplyOn (ask_value ask) (length cut) history) a r b
  reply_of_history a b r asks p history stands =
      let lanes = lanes_of (length cut) history in
      let stand = stand_for_lanes cut history stands in
      let h = ask_reply_there cut ask lanes asks stand in
      record { text = h.0; is_reply = h.1; written = p.puts lanes h.0 stand h.1 }
