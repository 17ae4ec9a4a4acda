-- A copy of a lane's rows, over replies on fronts of one history.
use Rattle.std.proofs.Common.{◌≡◌, ◌⊎◌, inl, inr, ℕ, ◌≤◌, Bool, true, false, List, [], ◌∷◌, ◌++◌, length, Option, None, Some, refl, ap, sym, ◌∙◌, subst, arith, append_assoc, append-nil, length-append}
use Rattle.std.proofs.lemmas.Bool.{cases_lt}
use Rattle.std.proofs.lemmas.Grind.{flat_map-append}
use Rattle.std.proofs.lemmas.List.{map-append}
use Rattle.ask_specs.specs.Asking.{AskValue, plain, rows, steps}
use Rattle.ask_specs.specs.Mirror.{CopyValue, ToldValue, Keeps, Tells, IsExactOrNone}
use Rattle.ask_specs.specs.MirrorReply.{of_lane}
use Rattle.ask_specs.specs.StepRows.{AnnouncesOfUp}
use Rattle.ask_specs.specs.Traits.{no_traits}
use Rattle.ask_specs.proofs.MirrorLaws.{keeps_exact}
use Rattle.bmp_specs.specs.Query.{quit, table}
use Rattle.bmp_specs.specs.Steps.{steps_in, steps_of}
use Rattle.bmp_specs.specs.Values.{EntryValue, StepValue, announce_step}
use Rattle.cut_publisher.specs.declared.history.Event.TheVariants.{Of, Finish}
use Rattle.cut_publisher.specs.History.{Begins, part, revision}
use Rattle.cut_publisher.proofs.Lanes.{begins_part, part-append, revision-append}
use Rattle.cut_publisher.proofs.Prefixes.{prefix_shorter}
use Rattle.rib_model.specs.declared.entry.Entry.{Entry}
use Rattle.rib_model.specs.Entries.{entry_value, entry_values}
use Rattle.ask_session.specs.declared.close.Close.{Close}
use Rattle.ask_session.specs.Replies.{History}
use Rattle.ask_session.specs.Dialogue.{Turn, Talks}
use Rattle.ask_session.specs.Copies.{AsksAll, AsksSince, ClientsKeepCopies, CopiesStay, IsTellable, Mirrors, TurnsTell, lane_entries}
use Rattle.ask_session.proofs.LaneLines.{turn_tells}
use Rattle.ask_session.proofs.TurnLaws.{get_replies, turn_on}

-- no entry is in a history of revision 0
no_part : (lane : ℕ) (h : History) → revision h ≤ 0 → part lane h ≡ []
no_part lane [] few = refl
no_part lane (Of k e ∷ h) few = absurd (omega (arith, few))
no_part lane (Finish ∷ h) few = no_part lane h few

-- of two fronts of one history the one of no higher revision has a front of the other's entries of each lane
lane_grows : (lane : ℕ) (a b h : History) → Begins a h → Begins b h → revision a ≤ revision b → Begins (part lane a) (part lane b)
lane_grows lane a b h p q le = elim (cases_lt (length b) (length a)) [
  | inl shorter ↦
      let front = prefix_shorter b a h (q.rest, q.is) (p.rest, p.is) (omega (arith, shorter)) in
      let rest : part lane front.0 ≡ [] = no_part lane front.0 (omega (arith, le, ap revision front.1, revision-append b front.0)) in
      let same : part lane a ≡ part lane b = ap (part lane) (sym front.1) ∙ part-append lane b front.0 ∙ ap (λ (l : List Entry). part lane b ++ l) rest ∙ append-nil (part lane b) in
      record { rest = []; is = append-nil (part lane a) ∙ same }
  | inr longer ↦ let front = prefix_shorter a b h (p.rest, p.is) (q.rest, q.is) longer in begins_part lane a b (record { rest = front.0; is = front.1 })
]

values_grow : (xs ys : List Entry) → Begins xs ys → Begins (entry_values xs) (entry_values ys)
values_grow xs ys p = record { rest = entry_values p.rest; is = sym (map-append entry_value xs p.rest) ∙ ap entry_values p.is }

entries_grow : (lane : ℕ) (a b h : History) → Begins a h → Begins b h → revision a ≤ revision b → Begins (lane_entries lane a) (lane_entries lane b)
entries_grow lane a b h p q le = values_grow (part lane a) (part lane b) (lane_grows lane a b h p q le)

-- what holds of a lane's entries holds of a front of them
front_of_up : (before after : List EntryValue) → AnnouncesOfUp (before ++ after) → AnnouncesOfUp before
front_of_up before after ok front rest key view nlri route split =
    ok front (rest ++ steps_of after) key view nlri route (flat_map-append steps_in before after ∙ ap (λ (l : List StepValue). l ++ steps_of after) split ∙ append_assoc front (announce_step key view nlri route ∷ rest) (steps_of after))

few_steps : (before after : List EntryValue) → length (steps_of before) ≤ length (steps_of (before ++ after))
few_steps before after = omega (arith, ap length (flat_map-append steps_in before after), length-append (steps_of before) (steps_of after))

tellable_front : (lane : ℕ) (a h : History) → Begins a h → IsTellable lane h → IsTellable lane a
tellable_front lane a h p t =
    let grown = values_grow (part lane a) (part lane h) (begins_part lane a h p) in
    record {
      of_up = front_of_up (lane_entries lane a) grown.rest (subst AnnouncesOfUp (sym grown.is) t.of_up);
      few = omega (arith, t.few, few_steps (lane_entries lane a) grown.rest, ap (λ (es : List EntryValue). length (steps_of es)) grown.is);
    }

-- a copy at a front of a history, and what is told at another that isn't of a lower revision
copy_on : (lane : ℕ) (a b h : History) (copy kept : Option CopyValue) (told : ToldValue) → Begins a h → Begins b h → revision a ≤ revision b → IsTellable lane h → IsExactOrNone (lane_entries lane a) copy → Tells (lane_entries lane b) copy told → Keeps copy told kept
    → IsExactOrNone (lane_entries lane b) kept
copy_on lane a b h copy kept told p q le ok exact tells keeps =
    let grown = entries_grow lane a b h p q le in
    let at_b = tellable_front lane b h q ok in
    subst (λ (es : List EntryValue). IsExactOrNone es kept) grown.is
    (keeps_exact (lane_entries lane a) grown.rest copy kept told (subst AnnouncesOfUp (sym grown.is) at_b.of_up) (omega (arith, at_b.few, ap (λ (es : List EntryValue). length (steps_of es)) grown.is)) exact (subst (λ (es : List EntryValue). Tells es copy told) (sym grown.is) tells) keeps)

-- no end is asked for
asks_on : (full : Bool) (lane : ℕ) (copy : Option CopyValue) (ask : AskValue) → AsksAll full lane ask ⊎ AsksSince full lane copy ask → ask ≡ plain quit → ⊥
asks_on full lane copy ask (inl asks) ends = let same : rows true full (table (of_lane lane)) no_traits ≡ plain quit = sym asks ∙ ends in absurd cc
asks_on full lane None ask (inr asks) ends = asks
asks_on full lane (Some copy) ask (inr asks) ends = let same : steps full lane copy.number None ≡ plain quit = sym asks ∙ ends in absurd cc

pub turns_tell : TurnsTell
turns_tell full lanes lane history turn copy ask here on ok short offered asks =
    let seen = (turn_on lanes history turn on).seen in
    let got = get_replies lanes history turn ask on offered short (asks_on full lane copy ask asks) in
    turn_tells full lanes lane turn here (tellable_front lane turn.seen history seen ok).few copy ask got.0 asks got.1

pub copies_stay : CopiesStay
copies_stay lanes lane history first second copy kept told one two le ok exact tells keeps =
    copy_on lane first.seen second.seen history copy kept told (turn_on lanes history first one).seen (turn_on lanes history second two).seen le ok exact tells.is_so keeps

-- no further turn
still : (lanes lane : ℕ) (at end : History) (copy kept : Option CopyValue) → IsExactOrNone (lane_entries lane at) copy → Mirrors lanes lane at copy [] end kept → IsExactOrNone (lane_entries lane end) kept
still lanes lane at end copy kept exact m = subst (λ (h : History). IsExactOrNone (lane_entries lane h) kept) (sym m.0) (subst (λ (c : Option CopyValue). IsExactOrNone (lane_entries lane at) c) (sym m.1) exact)

-- over the turns of a connection, each of a revision that isn't below the one before
module _ (lanes lane : ℕ) (close : Close) (ended : Bool) (history : History) (ok : IsTellable lane history) where
  keeps_along : (turns : List Turn) (least : ℕ) (bytes text : List ℕ) → Talks lanes close ended history least bytes turns text → (at end : History) (copy kept : Option CopyValue) → Begins at history → revision at ≤ least
      → IsExactOrNone (lane_entries lane at) copy → Mirrors lanes lane at copy turns end kept → IsExactOrNone (lane_entries lane end) kept
  keeps_along [] least bytes text t at end copy kept front le exact m = still lanes lane at end copy kept exact m
  keeps_along (turn ∷ turns) least bytes text (rest, back, takes, inr (going, talks)) at end copy kept front le exact (inl passed) =
      keeps_along turns (revision turn.seen) rest back talks at end copy kept front (omega (arith, le, takes.recent)) exact passed
  keeps_along (turn ∷ turns) least bytes text (rest, back, takes, inr (going, talks)) at end copy kept front le exact (inr (told, next, tells, keeps, onward)) =
      keeps_along turns (revision turn.seen) rest back talks turn.seen end next kept takes.seen (omega arith)
      (copy_on lane at turn.seen history copy next told front takes.seen (omega (arith, le, takes.recent)) ok exact tells.is_so keeps) onward
  keeps_along (turn ∷ turns) least bytes text (rest, back, takes, inl (ends, none, empty)) at end copy kept front le exact (inl passed) =
      still lanes lane at end copy kept exact (subst (λ (l : List Turn). Mirrors lanes lane at copy l end kept) none passed)
  keeps_along (turn ∷ turns) least bytes text (rest, back, takes, inl (ends, none, empty)) at end copy kept front le exact (inr (told, next, tells, keeps, onward)) =
      still lanes lane turn.seen end next kept (copy_on lane at turn.seen history copy next told front takes.seen (omega (arith, le, takes.recent)) ok exact tells.is_so keeps)
      (subst (λ (l : List Turn). Mirrors lanes lane turn.seen next l end kept) none onward)

pub clients_keep : ClientsKeepCopies
clients_keep lanes lane close ended history least bytes text d at end copy kept front le ok exact m = keeps_along lanes lane close ended history ok d.turns least bytes text d.talks at end copy kept front le exact m
