-- What is shown of a lane, once the next of its entries are published.
use Rattle.std.proofs.Common.{◌≡◌, ℕ, ◌+◌, ◌-◌, ◌<◌, ◌≤◌, List, ◌++◌, length, get_or, set, take, drop, inl, inr, refl, sym, ap, ◌∙◌, subst, arith, length-drop, take-append-drop}
use Rattle.std.proofs.lemmas.List.{get_or_default, take_all}
use Rattle.bmp_specs.specs.Values.{EntryValue}
use Rattle.rib_model.specs.declared.entry.Entry.{Entry}
use Rattle.rib_model.specs.Entries.{entry_values}
use Rattle.router_tables.specs.Tables.{TablesValue, StandsFor}
use Rattle.station_core.specs.declared.lane.Lane.{Lane}
use Rattle.station_core.specs.Machine.{next_of}
use Rattle.station_core.specs.Standing.{ShowsLane, ShowsNext}

pub shows_next : (due : List Entry) (old : TablesValue × ℕ) (from count : ℕ) (value : TablesValue) → from ≡ old.1 → let pending = take (length due - from) (drop from due) in count ≤ length pending → entry_values (take count pending) ≡ next_of (entry_values pending)
    → ((so_far : List EntryValue) → StandsFor old.0 so_far → StandsFor value (so_far ++ entry_values (take count pending))) → ShowsNext due old (value, from + length (take count pending))
shows_next due old from count value is within next tables =
    let pending : List Entry = take (length due - from) (drop from due) in
    let all : pending ≡ drop old.1 due = take_all (length due - from) (drop from due) (omega (arith, length-drop from due)) ∙ ap (λ (n : ℕ). drop n due) is in
    record {
      made = take count pending;
      is_next = next ∙ ap (λ (es : List Entry). next_of (entry_values es)) all;
      rest = drop count pending;
      split = sym all ∙ sym (take-append-drop count pending);
      count = ap (λ (n : ℕ). n + length (take count pending)) is;
      tables = tables;
    }

pub shows_at : {B : Type 0} (lanes : List (Lane B)) (shown : List (TablesValue × ℕ)) (number : ℕ) (lane : Lane B) (x next : TablesValue × ℕ) (due : List Entry) → number < length lanes → length shown ≡ length lanes → lane ≡ get_or lanes number lane → x ≡ get_or shown number x → due ≡ lane.due
    → ShowsNext due x next → ShowsLane lanes number shown (set shown number next)
shows_at lanes shown number lane x next due here count lane_is x_is due_is shows = inl (
  here,
  record {
    next = next;
    is = refl;
    shows = λ d e.
        let l : lane ≡ get_or lanes number d = lane_is ∙ get_or_default lanes number lane d here in
        let y : x ≡ get_or shown number e = x_is ∙ get_or_default shown number x e (omega (arith, here, count)) in
        subst (λ (z : Lane _). ShowsNext z.due (get_or shown number e) next) l (subst (λ (z : TablesValue × ℕ). ShowsNext lane.due z next) y (subst (λ (es : List Entry). ShowsNext es x next) due_is shows));
  },
)

pub shows_none : {B : Type 0} (lanes : List (Lane B)) (shown : List (TablesValue × ℕ)) (number : ℕ) → length lanes ≤ number → ShowsLane lanes number shown shown
shows_none lanes shown number past = inr (past, refl)
