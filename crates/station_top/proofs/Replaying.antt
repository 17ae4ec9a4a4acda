-- The tables of a replay, brought up to date, and the cut that is made of them.
use Rattle.std.proofs.Common.{◌≡◌, ℕ, zero, suc, List, [], ◌∷◌, ◌++◌, Option, Result, length, refl, sym, ap, ◌∙◌, subst, append-nil, arith}
use Rattle.std.proofs.lemmas.List.{length-map, map-append}
use Rattle.ask_specs.specs.AskReply.{IsAskReply}
use Rattle.bmp_specs.specs.Values.{EntryValue}
use Rattle.cut_publisher.specs.declared.history.Event.{Event}
use Rattle.cut_publisher.specs.Cuts.{AreLanes, IsCutOf}
use Rattle.cut_publisher.specs.History.{batch, part, IsWithin}
use Rattle.query_lang.specs.Asks.{ask_value}
use Rattle.query_lang.specs.declared.ask.Ask.{Ask}
use Rattle.query_eval.specs.Replies.{PutsReply, IsAskReplyOn, StandsForHistory, lanes_of}
use Rattle.wire_io.specs.declared.sink.Failed.{Failed}
use Rattle.wire_io.specs.Aside.{Aside}
use Rattle.rib_model.specs.declared.entry.Entry.{Entry}
use Rattle.rib_model.specs.Entries.{entry_value, entry_values}
use Rattle.router_tables.specs.Building.{Builds}
use Rattle.router_tables.specs.Tables.{StandsFor, TablesValue}
use Rattle.station_top.specs.Replay.{Gathers, Settled, IsCutOfEntries, IsReplyOf}
use Rattle.station_top.specs.declared.replay.Replay.{Replay}

-- nothing was taken, and nothing is gathered
pub begun : (replay : Replay) → Builds replay.builder [] → replay.gathered ≡ [] → Gathers replay []
begun replay builds none = record {
  taken = [];
  builds = builds;
  values = ap entry_values (sym none);
}

-- the entries of the one lane
part_all : (es : List Entry) → part 0 (batch 0 es) ≡ es
part_all [] = refl
part_all (e ∷ es) = ap (λ (rest : List Entry). e ∷ rest) (part_all es)

within_all : (es : List Entry) → IsWithin 1 (batch 0 es)
within_all [] = tt
within_all (e ∷ es) = (omega arith, within_all es)

-- the cut of the one lane stands for its entries
pub cut_is : (replay : Replay) (tables : TablesValue) (revision : ℕ) (entries : List EntryValue) → Gathers replay entries → StandsFor tables entries → revision ≡ length entries → (lane : TablesValue × ℕ) → lane.0 ≡ tables → lane.1 ≡ revision → (cut : List (TablesValue × ℕ)) → cut ≡ lane ∷ []
    → IsCutOf (λ tables es. StandsFor tables (entry_values es)) (lane ∷ []) cut → IsCutOfEntries cut entries
cut_is replay tables revision entries g stands count lane tables_is count_is cut same is =
    let taken = g.taken ++ replay.gathered in
    let values : entries ≡ entry_values taken = g.values in
    let number : lane.1 ≡ length taken = count_is ∙ count ∙ ap length values ∙ length-map taken entry_value in
    let of_taken : StandsFor tables (entry_values taken) = subst (λ (es : List EntryValue). StandsFor tables es) values stands in
    record {
      taken = taken;
      values = values;
      stands = is (batch 0 taken) (within_all taken) (lanes taken (subst (λ (t : TablesValue). StandsFor t (entry_values taken)) (sym tables_is) of_taken) number);
      one = ap length same;
    }
  where
    lanes : (taken : List Entry) → StandsFor lane.0 (entry_values taken) → lane.1 ≡ length taken → AreLanes (λ tables es. StandsFor tables (entry_values es)) (lane ∷ []) (batch 0 taken)
    lanes taken stands number zero d below = record { value = subst (λ (es : List Entry). StandsFor lane.0 (entry_values es)) (sym (part_all taken)) stands; count = number ∙ sym (ap length (part_all taken)) }
    lanes taken stands number (suc k) d below = absurd (omega (arith, below))

-- the reply on the cut is that on the entries
pub replied_on : {O : Type 0} (faults : O → ℕ) (told : O → Option (List ℕ)) (aside : O → Aside) (ask : Ask) (cut : List (TablesValue × ℕ)) (entries : List EntryValue) (is : IsCutOfEntries cut entries) {a b : O} {r : Result (Unit {0}) Failed}
    → ((history : List (Event Entry)) → StandsForHistory cut history → PutsReply faults told aside (IsAskReplyOn (ask_value ask) (length cut) history) a r b) → PutsReply faults told aside (IsReplyOf ask entries) a r b
replied_on faults told aside ask cut entries is answers =
    let put = answers (batch 0 is.taken) is.stands in
    let lanes : lanes_of (length cut) (batch 0 is.taken) ≡ entries ∷ [] = ap (λ (n : ℕ). lanes_of n (batch 0 is.taken)) is.one ∙ ap (λ (es : List Entry). entry_values es ∷ []) (part_all is.taken) ∙ ap (λ (es : List EntryValue). es ∷ []) (sym is.values) in
    record { text = put.text; is_reply = subst (λ (l : List (List EntryValue)). IsAskReply (ask_value ask) l put.text) lanes put.is_reply; written = put.written }

-- the tables in the making take what was gathered
pub settled_more : (old new : Replay) (given : List Entry) (entries : List EntryValue) → Gathers old entries → given ≡ old.gathered → ((so_far : List EntryValue) → Builds old.builder so_far → Builds new.builder (so_far ++ entry_values given)) → new.gathered ≡ []
    → Settled new entries
settled_more old new given entries h same takes none =
    let taken = h.taken ++ given in
    record {
      gathers = record {
        taken = taken;
        builds = subst (λ (es : List EntryValue). Builds new.builder es) (sym (map-append entry_value h.taken given)) (takes (entry_values h.taken) h.builds);
        values = h.values ∙ ap (λ (l : List Entry). entry_values (h.taken ++ l)) (sym same) ∙ ap entry_values (sym (append-nil taken)) ∙ ap (λ (l : List Entry). entry_values (taken ++ l)) (sym none);
      };
      none = none;
    }

-- tables in the making that have taken all entries of a replay are those of its entries
pub settled_builds : (replay : Replay) (entries : List EntryValue) → Settled replay entries → Builds replay.builder entries
settled_builds replay entries s =
    let taken = s.gathers.taken in
    let values : entries ≡ entry_values taken = s.gathers.values ∙ ap entry_values (ap (λ (more : List Entry). taken ++ more) s.none ∙ append-nil taken) in
    subst (λ (es : List EntryValue). Builds replay.builder es) (sym values) s.gathers.builds
