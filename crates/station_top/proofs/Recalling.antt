-- What `recall` comes to, from what its steps say.
use Rattle.std.proofs.Common.{◌≡◌, ℕ, List, [], ◌∷◌, ◌++◌, Option, Some, None, Result, Ok, Err, refl, ap, ◌∙◌, subst, inl}
use Rattle.std.specs.Prelude.{OnOk, OnErr, IfOk}
use Rattle.bmp_specs.specs.declared.causes.Cause.TheVariants as cause
use Rattle.bmp_specs.specs.Lines.{stop_line}
use Rattle.bmp_specs.specs.Meaning.{Meaning}
use Rattle.bmp_specs.specs.Openings.{nothing_told}
use Rattle.bmp_specs.specs.Values.{EntryValue, opened}
use Rattle.disk_doors.specs.Disk.{DiskValue}
use Rattle.query_eval.specs.Replies.{PutsReply}
use Rattle.wire_io.proofs.Joins.{appends_none}
use Rattle.wire_io.specs.declared.sink.Failed.{Failed}
use Rattle.wire_io.specs.Aside.{Aside}
use Rattle.wire_io.specs.Writes.{Writes}
use Rattle.station_doors.proofs.DiskPaths.{disk_put, with_twice}
use Rattle.station_doors.specs.Disks.{HandsOutDisk, TakesDiskBack}
use Rattle.station_doors.specs.Doors.{DiskAt, DiskShown, YardValue, untouched}
use Rattle.station_top.specs.RecallRuns.{IsRecalled, LendsDiskWhereTold, RecallAnswers, recalled, unrecalled}
use Rattle.station_top.specs.Station.{IsStopped}
use Rattle.station_top.specs.Status.{status_of}
use Rattle.station_top.specs.Take.{TakesInput}
use Rattle.station_top.specs.declared.status.Status.{Status}
use Rattle.station_top.specs.declared.status.Status.TheVariants.{NoMemory, WriteFault}
use Rattle.station_top.specs.declared.take.Taken.{Taken}
use Rattle.station_top.proofs.Concluding.{is_written}

-- the disk was handed out, used and given back
pub lends_disk : {D : Type 0} (Is : DiskShown → DiskShown → Type 0) (tells : Type 0) (shows : D → DiskValue) (faults : D → ℕ) (path : List ℕ) (old mid new : Option YardValue) (number : ℕ) (disk : D) (after : DiskShown) → HandsOutDisk tells shows faults path number old mid (Ok disk)
    → (tells → Is (record { value = shows disk; faults = faults disk }) after) → TakesDiskBack path after mid new → LendsDiskWhereTold Is path old new number
lends_disk Is tells shows faults path None mid new number disk after h is t = subst (λ (m : Option YardValue). TakesDiskBack path after m new) h t
lends_disk Is tells shows faults path (Some old) mid new number disk after h is t =
    let t1 = subst (λ (m : Option YardValue). TakesDiskBack path after m new) h.3 t in
    record {
      planned = h.0;
      lent = record { value = shows disk; faults = faults disk };
      back = after;
      stood = h.2;
      given_back = t1.lent (disk_put path None (Some (record { value = shows disk; faults = faults disk })) old.disks h.2) ∙ ap (λ (l : List DiskAt). Some (record old { disks = l })) (with_twice path (Some after) None old.disks);
      is = is h.1;
    }

-- a content was taken as the one connection of a port that never fails
pub is_recalled : (meaning : Meaning) (Stands : List EntryValue → Type 0) (content : List ℕ) (old new : Aside) (calls : ℕ) (taken : Taken) → TakesInput meaning Stands old new calls taken → old ≡ untouched (record { connections = content ∷ []; fails = [] }) → calls ≡ 0 → IsRecalled meaning Stands content taken
is_recalled meaning Stands content old new calls taken t is none = record {
  messages = t.messages;
  come = (t.shows (record { connections = content ∷ []; fails = [] }) is none).steady refl;
  noted = t.noted;
  count = t.count;
}

pub content_taken : {A E : Type 0} (meaning : Meaning) (Stands : A → List EntryValue → Type 0) (content : List ℕ) (old new : Aside) (calls : ℕ) (result : Result (A × Taken) E) → IfOk result (λ r. TakesInput meaning (Stands r.0) old new calls r.1) → old ≡ untouched (record { connections = content ∷ []; fails = [] }) → calls ≡ 0 → IfOk result (λ r. IsRecalled meaning (Stands r.0) content r.1)
content_taken meaning Stands content old new calls (Ok r) t is none = is_recalled meaning (Stands r.0) content old new calls r.1 t is none
content_taken meaning Stands content old new calls (Err e) t is none = tt

module _ {O : Type 0} {faults : O → ℕ} {told : O → Option (List ℕ)} {aside : O → Aside} where
  -- the content was taken, and the reply was written
  pub recall_answers : (meaning : Meaning) (Stands : List EntryValue → Type 0) (Replies : List EntryValue → List ℕ → Type 0) (content : List ℕ) (taken : Taken) (t : IsRecalled meaning Stands content taken) (a b : O) (r : Result (Unit {0}) Failed) (status : Status)
      → PutsReply faults told aside (IsStopped (Replies (opened nothing_told ∷ t.messages)) taken.cause) a r b → OnOk r (status ≡ status_of taken.cause) → OnErr r (status ≡ WriteFault) → RecallAnswers meaning Replies content (told a) (told b) status
  recall_answers meaning Stands Replies content taken t a b r status puts fine fault =
      let reply = puts.is_reply.0 in
      let w = subst (λ (text : List ℕ). Writes faults told aside a text r b) puts.is_reply.2 puts.written in
      record {
        meant = status_of taken.cause;
        text = reply ++ stop_line taken.cause;
        means = recalled t.messages taken.cause reply t.come puts.is_reply.1;
        written = is_written a b (reply ++ stop_line taken.cause) r (status_of taken.cause) status w fine fault;
      }

-- there was no memory
pub recall_starved : (meaning : Meaning) (Replies : List EntryValue → List ℕ → Type 0) (content : List ℕ) (told : Option (List ℕ)) → RecallAnswers meaning Replies content told told NoMemory
recall_starved meaning Replies content told = record { meant = NoMemory; text = []; means = unrecalled; written = inl (refl, appends_none told) }
