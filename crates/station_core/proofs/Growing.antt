-- Over a schedule the history grows, and so does what each asker has seen.
use Rattle.std.proofs.Common.{◌≡◌, ℕ, ◌<◌, ◌≤◌, min, max, List, [], ◌∷◌, ◌++◌, length, drop, get_or, set, inl, inr, sym, ap, ◌∙◌, subst, arith, length-set, get_or-set_other, get_or-set_same}
use Rattle.std.proofs.lemmas.Option.{get_or_from_slice_get}
use native.Mathlib.Decide.{ℕ_discrete}
use Rattle.ask_specs.specs.AskReply.{IsAskReply}
use Rattle.bmp_specs.specs.Life.{Given}
use Rattle.bmp_specs.specs.Meaning.{Meaning}
use Rattle.cut_publisher.specs.declared.history.Event.TheVariants.{Finish as Mark}
use Rattle.cut_publisher.specs.History.{Begins, batch, revision}
use Rattle.cut_publisher.proofs.Fronts.{front_is}
use Rattle.cut_publisher.proofs.Lanes.{revision-append}
use Rattle.cut_publisher.proofs.Prefixes.{begins_self, begins_trans}
use Rattle.station_core.specs.declared.event.Event.{Event}
use Rattle.station_core.specs.declared.event.Event.TheVariants.{Begin, Take, End, Publish, Tell, Ask, Finish}
use Rattle.station_core.specs.Laws.{AskersRemember, HaveSeen, HistoriesGrow, RepliesAreOnFronts}
use Rattle.station_core.specs.Machine.{Acts, ChangesLane, History, MachineValue, Steps, WhereNamed, next_of, parts_from, with_seen}

-- the history begins with another, and each asker has seen as much, or more, and no more than there is
record Grows (old new : MachineValue) : Type 0 where
  history : Begins old.history new.history
  seen : HaveSeen old → HaveSeen new
  more : HaveSeen old → (asker : ℕ) → get_or old.askers asker 0 ≤ get_or new.askers asker 0

begins_revision : (xs ys : History) → Begins xs ys → revision xs ≤ revision ys
begins_revision xs ys b = omega (arith, ap revision b.is, revision-append xs b.rest)

-- no asker is told or shown of more
grows_lanes : (old new : MachineValue) → Begins old.history new.history → new.askers ≡ old.askers → Grows old new
grows_lanes old new begins same = record {
  history = begins;
  seen = λ seen asker lt. omega (arith, ap (λ (l : List ℕ). get_or l asker 0) same, seen asker (omega (arith, lt, ap length same)), begins_revision old.history new.history begins);
  more = λ seen asker. omega (arith, ap (λ (l : List ℕ). get_or l asker 0) same);
}

grows_same : (old new : MachineValue) → new ≡ old → Grows old new
grows_same old new same = grows_lanes old new (subst (Begins old.history) (sym (ap (λ (m : MachineValue). m.history) same)) (begins_self old.history)) (ap (λ (m : MachineValue). m.askers) same)

-- one asker has seen so much, at least as much as before
grows_seen : (old new : MachineValue) (asker n : ℕ) → asker < length old.askers → new ≡ with_seen old asker n → (HaveSeen old → get_or old.askers asker 0 ≤ n) → n ≤ revision old.history → Grows old new
grows_seen old new asker n here is most within =
    let history : new.history ≡ old.history = ap (λ (m : MachineValue). m.history) is in
    let askers : new.askers ≡ set old.askers asker n = ap (λ (m : MachineValue). m.askers) is in
    record {
      history = subst (Begins old.history) (sym history) (begins_self old.history);
      seen = λ seen k lt. go_seen history askers seen k (omega (arith, lt, ap length askers, length-set old.askers asker n)) (ℕ_discrete k asker);
      more = λ seen k. go_more askers (most seen) k (ℕ_discrete k asker);
    }
  where
    set_at : (k : ℕ) → k ≡ asker → get_or (set old.askers asker n) k 0 ≡ n
    set_at k same = ap (λ (i : ℕ). get_or (set old.askers asker n) i 0) same ∙ get_or-set_same old.askers asker n 0 here

    go_seen : new.history ≡ old.history → new.askers ≡ set old.askers asker n → HaveSeen old → (k : ℕ) → k < length old.askers → Dec (k ≡ asker) → get_or new.askers k 0 ≤ revision new.history
    go_seen history askers seen k lt (yes same) = omega (arith, ap revision history, ap (λ (l : List ℕ). get_or l k 0) askers, set_at k same, within)
    go_seen history askers seen k lt (no ne) = omega (arith, ap revision history, ap (λ (l : List ℕ). get_or l k 0) askers, get_or-set_other old.askers asker k n 0 ne, seen k lt)

    go_more : new.askers ≡ set old.askers asker n → get_or old.askers asker 0 ≤ n → (k : ℕ) → Dec (k ≡ asker) → get_or old.askers k 0 ≤ get_or new.askers k 0
    go_more askers most k (yes same) = omega (arith, ap (λ (l : List ℕ). get_or l k 0) askers, set_at k same, ap (λ (i : ℕ). get_or old.askers i 0) same, most)
    go_more askers most k (no ne) = omega (arith, ap (λ (l : List ℕ). get_or l k 0) askers, get_or-set_other old.askers asker k n 0 ne)

begins_with : (old new : MachineValue) (more : History) → new.history ≡ old.history ++ more → Begins old.history new.history
begins_with old new more is = record { rest = more; is = sym is }

begins_equal : (old new : MachineValue) → new.history ≡ old.history → Begins old.history new.history
begins_equal old new is = subst (Begins old.history) (sym is) (begins_self old.history)

changes_grow : (number : ℕ) (Does : List Given → List Given → Type 0) (old new : MachineValue) → WhereNamed number old.lanes (ChangesLane number Does) old new → Grows old new
changes_grow number Does old new (inl (here, c)) = grows_lanes old new (begins_equal old new (ap (λ (m : MachineValue). m.history) c.is)) (ap (λ (m : MachineValue). m.askers) c.is)
changes_grow number Does old new (inr (past, same)) = grows_same old new same

act_grows : (meaning : Meaning) (event : Event) (old new : MachineValue) (reply : List ℕ) → Acts meaning event old new reply → Grows old new
act_grows meaning (Begin lane) old new reply (does, none) = changes_grow lane _ old new does
act_grows meaning (Take lane piece) old new reply (does, none) = changes_grow lane _ old new does
act_grows meaning (End lane fault) old new reply (does, none) = changes_grow lane _ old new does
act_grows meaning (Publish lane) old new reply (inl (here, p), none) = grows_lanes old new (begins_with old new (batch lane (next_of (drop p.lane.published p.due))) (ap (λ (m : MachineValue). m.history) p.is)) (ap (λ (m : MachineValue). m.askers) p.is)
act_grows meaning (Publish lane) old new reply (inr (past, same), none) = grows_same old new same
act_grows meaning (Tell asker rev) old new reply (inl (here, t), none) =
    grows_seen old new asker (min (max t.seen rev) (revision old.history)) here t.is (λ seen. omega (arith, get_or_from_slice_get old.askers asker t.seen 0 t.at, seen asker here)) (omega arith)
act_grows meaning (Tell asker rev) old new reply (inr (past, same), none) = grows_same old new same
act_grows meaning (Ask asker ask) old new reply (inl a) = grows_seen old new asker (revision old.history) a.asker_is a.is (λ seen. seen asker a.asker_is) (omega arith)
act_grows meaning (Ask asker ask) old new reply (inr (why, still)) = grows_same old new still.same
act_grows meaning Finish old new reply (is, none) = grows_lanes old new (begins_with old new (Mark ∷ []) (ap (λ (m : MachineValue). m.history) is)) (ap (λ (m : MachineValue). m.askers) is)

step_grows : (meaning : Meaning) (event : Event) (old new : MachineValue) (reply : List ℕ) → Steps meaning event old new reply → Grows old new
step_grows meaning event old new reply (inl (unmarked, acts)) = act_grows meaning event old new reply acts
step_grows meaning event old new reply (inr (marked, still)) = grows_same old new still.same

pub histories_grow : (meaning : Meaning) → HistoriesGrow meaning
histories_grow meaning [] old new replies (same, none) = begins_equal old new (ap (λ (m : MachineValue). m.history) same)
histories_grow meaning (e ∷ events) old new replies (first, rest) =
    begins_trans old.history first.next.history new.history (step_grows meaning e old first.next first.reply first.steps).history (histories_grow meaning events first.next new first.after rest)

pub replies_fronts : (meaning : Meaning) → RepliesAreOnFronts meaning
replies_fronts meaning events asker ask at next end reply replies unmarked a runs =
    let same : next.history ≡ at.history = ap (λ (m : MachineValue). m.history) a.is in
    let begins : Begins at.history end.history = subst (λ (h : History). Begins h end.history) same (histories_grow meaning events next end replies runs) in
    subst (λ (h : History). IsAskReply ask (parts_from 0 (length at.lanes) h) reply) (front_is at.history end.history begins unmarked) a.is_reply

pub askers_remember : (meaning : Meaning) → AskersRemember meaning
askers_remember meaning [] old new replies seen (same, none) = let g = grows_same old new same in (g.seen seen, g.more seen)
askers_remember meaning (e ∷ events) old new replies seen (first, rest) =
    let g = step_grows meaning e old first.next first.reply first.steps in
    let after = askers_remember meaning events first.next new first.after (g.seen seen) rest in
    (after.0, λ asker. omega (arith, g.more seen asker, after.1 asker))
