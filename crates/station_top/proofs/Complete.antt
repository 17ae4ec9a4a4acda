-- What a command comes to where the yard tells what it does and nothing fails: it answers in full, or memory ran out.
use Rattle.std.proofs.Common.{◌≡◌, ℕ, ◌+◌, ◌*◌, ◌<◌, ◌≤◌, List, [], ◌∷◌, ◌++◌, length, take, Option, None, Some, Err, Contains, inl, inr, refl, sym, ap, ◌∙◌, subst, arith}
use Rattle.std.specs.Prelude.{◌⊎◌}
use Rattle.std.specs.Io.KnownBytes.{Appends}
use Rattle.bmp_specs.specs.declared.causes.Cause.{Cause}
use Rattle.bmp_specs.specs.Life.{gave_none, most_taken, Given, HasCome}
use Rattle.bmp_specs.specs.Lines.{stop_line}
use Rattle.bmp_specs.specs.Meaning.{Meaning}
use Rattle.bmp_specs.specs.Openings.{nothing_told}
use Rattle.bmp_specs.specs.Session.{session_effects}
use Rattle.bmp_specs.specs.Values.{EntryValue, PrefixValue, opened}
use Rattle.cut_publisher.specs.History.{Asker, Fed}
use Rattle.disk_doors.specs.Disk.{IsSound}
use Rattle.feed_archive.specs.Archive.{HasContent, most_archive}
use Rattle.feed_archive.specs.Recovering.{Holds, HasOnly}
use Rattle.feed_archive.specs.declared.fault.AppendFault.TheVariants as append
use Rattle.feed_archive.specs.declared.fault.CreateFault.TheVariants as create
use Rattle.feed_archive.specs.declared.fault.RecoverFault.{RecoverFault}
use Rattle.feed_archive.specs.declared.fault.RecoverFault.TheVariants as recover
use Rattle.relay_out.specs.Messages.{IsRelayStream}
use Rattle.relay_out.specs.Relayed.{ReadsBack}
use Rattle.relay_out.specs.Writable.{AreWritable}
use Rattle.relay_out.proofs.Members.{none_there}
use Rattle.rib_model.specs.declared.entry.Entry.{Entry}
use Rattle.rov_reply.specs.RovLines.{IsRovReply}
use Rattle.rov_table.specs.declared.vrp.Vrp.{Vrp}
use Rattle.rov_table.specs.VrpFile.{AreVrps, IsFirstBad, file_records}
use Rattle.router_tables.specs.Tables.{TablesValue}
use Rattle.station_doors.specs.Disks.{disk_at}
use Rattle.station_doors.specs.Doors.{DiskShown, YardSeen, YardValue, one_more}
use Rattle.station_doors.specs.Files.{file_at, most_file}
use Rattle.station_doors.specs.Planned.{first_of}
use Rattle.station_doors.specs.declared.listening.Listening.{Listening}
use Rattle.station_run.specs.Handed.{FailsAt, RefusesWhereTold, asking, asking_link, call_after, listening}
use Rattle.station_run.specs.Serve.{Comes, Ends, done_line, finished, ready_line, refused as yard_refused, starved as unserved, undone, unfinished, unready as not_ready}
use Rattle.station_run.specs.declared.outcome.Outcome.{Outcome}
use Rattle.station_run.specs.declared.outcome.Outcome.TheVariants as outcome
use Rattle.station_words.specs.Explain.{help_text, version_line}
use Rattle.station_words.specs.declared.drill_words.DrillWords.{DrillWords}
use Rattle.station_words.specs.declared.serve_words.ServeWords.{ServeWords}
use Rattle.station_words.specs.declared.words.Command.TheVariants.{Help, Version}
use Rattle.wire_io.specs.Aside.{Aside, Plan}
use Rattle.station_top.specs.ArchiveRuns.{ArchiveConcludes, IsKept, KeepsFor, KeepsInput, LendsBoth, LendsBothWhereTold, OnArchive, diskless as no_disk_lent, handed, kept_line, portless, status_kept, text_kept}
use Rattle.station_top.specs.Drill.{IsDrillText}
use Rattle.station_top.specs.RecallRuns.{RecallConcludes, RecallMeans, HasRecovered, answered, diskless, recalled, status_unread, text_unread, unread, unrecalled}
use Rattle.station_top.specs.Station.{CallConcludes, Concludes, DrillConcludes, DrillMeans, Lends, RelayConcludes, Relayed, RovConcludes, Runs, badfile_line, bad_file, broken_off, cut, drill_starved, drilled_whole, file_starved, judged, long_file, no_file, refused, relayed, replied, starved, unlent, unready, unsettled, untaken, unwritable, wrote}
use Rattle.station_top.specs.Status.{status_of}
use Rattle.station_top.specs.Written.{IsWritten}
use Rattle.station_top.specs.declared.archive.Kept.{Kept}
use Rattle.station_top.specs.declared.archive.Kept.TheVariants as kept
use Rattle.station_top.specs.declared.status.Status.{Status}
use Rattle.station_top.specs.declared.status.Status.TheVariants.{BadFile, Done, NoMemory, Unwritable, WriteFault}

-- where no write failed, all of the text was written
all_written : (told0 told1 : Option (List ℕ)) (text : List ℕ) (meant status : Status) → IsWritten told0 told1 text meant status → (status ≡ WriteFault → ⊥) → (status ≡ meant) × Appends told0 told1 text
all_written told0 told1 text meant status (inl written) calm = written
all_written told0 told1 text meant status (inr (is, front)) calm = absurd (calm is)

-- ---- the commands that take the one input connection
-- the entries of these bytes as a connection that ended, and why it ended
record HasEntries (meaning : Meaning) (bytes : List ℕ) (messages : List EntryValue) (cause : Cause) : Type 0 where
  come : HasCome meaning (record { bytes = take most_taken bytes; last = gave_none }) messages cause

-- the whole reply on these bytes was written, and the stop line
record IsReplied (meaning : Meaning) (Replies : List EntryValue → List ℕ → Type 0) (bytes : List ℕ) (told0 told1 : Option (List ℕ)) (status : Status) : Type 0 where
  messages : List EntryValue
  cause : Cause
  reply : List ℕ
  come : HasEntries meaning bytes messages cause
  replies : Replies (opened nothing_told ∷ messages) reply
  written : Appends told0 told1 (reply ++ stop_line cause)
  status_is : status ≡ status_of cause

-- the yard has this port first, its plan fails no call of it, and the port's plan none
record IsSteady (yard : YardValue) (plan : Plan) : Type 0 where
  calm : yard.fails ≡ []
  waiting : List Plan
  first : yard.ports ≡ plan ∷ waiting
  steady : plan.fails ≡ []

module _ (meaning : Meaning) (yard : YardValue) (new : Option YardValue) (number : ℕ) (plan : Plan) (is : IsSteady yard plan) where
  not_refused : Contains yard.fails number ⊎ (yard.ports ≡ []) → ⊥
  not_refused (inl fails) = none_there number (subst (λ (l : List ℕ). Contains l number) is.calm fails)
  not_refused (inr none) = let some : plan ∷ is.waiting ≡ [] = sym is.first ∙ none in cc

  -- the port that was lent is this one
  lent : (Is : Plan → Aside → Type 0) (lends : Lends Is yard new number) → lends.plan ≡ plan
  lent Is lends = let both : lends.plan ∷ lends.waiting ≡ plan ∷ is.waiting = sym lends.first ∙ is.first in cc

  module _ (Replies : List EntryValue → List ℕ → Type 0) where
    -- what is meant, and that it is written
    runs_replied : (told0 told1 : Option (List ℕ)) (meant status : Status) (text : List ℕ) → Runs meaning Replies (Some yard) new number meant text → status ≡ meant → Appends told0 told1 text
        → (status ≡ NoMemory) ⊎ IsReplied meaning Replies (first_of plan.connections) told0 told1 status
    runs_replied told0 told1 meant status text (refused refuses) same written = absurd (not_refused refuses.0)
    runs_replied told0 told1 meant status text (replied input messages cause reply come no_further replies lends) same written =
        let here : lends.plan ≡ plan = lent _ lends in
        let steady = lends.is.steady (ap (λ (p : Plan). p.fails) here ∙ is.steady) in
        let entries : HasEntries meaning (first_of lends.plan.connections) messages cause = record { come = steady } in
        let whole = subst (λ (p : Plan). HasEntries meaning (first_of p.connections) messages cause) here entries in
        inr (record { messages = messages; cause = cause; reply = reply; come = whole; replies = replies; written = written; status_is = same })
    runs_replied told0 told1 meant status text (starved lends) same written = inl same
    runs_replied told0 told1 meant status text (unready input messages cause come no_further lends) same written = inl same

    -- `replay` and `check`: the whole reply on the whole connection, or out of memory
    is_replied : (told0 told1 : Option (List ℕ)) (status : Status) → Concludes meaning Replies (Some yard) new number told0 told1 status → (status ≡ WriteFault → ⊥)
        → (status ≡ NoMemory) ⊎ IsReplied meaning Replies (first_of plan.connections) told0 told1 status
    is_replied told0 told1 status concludes calm =
        let all = all_written told0 told1 concludes.text concludes.meant status concludes.written calm in
        runs_replied told0 told1 concludes.meant status concludes.text concludes.runs all.0 all.1

  -- the whole stream of what these bytes left was written; or nothing, since it can't be relayed
  record IsRelayedWhole (bytes : List ℕ) (told0 told1 : Option (List ℕ)) (status : Status) : Type 0 where
    messages : List EntryValue
    cause : Cause
    come : HasEntries meaning bytes messages cause
    is_relayed : ((status ≡ Unwritable) × (AreWritable (session_effects (opened nothing_told ∷ messages)) → ⊥) × (told1 ≡ told0))
        ⊎ ((status ≡ status_of cause) × (stream : List ℕ) × IsRelayStream (session_effects (opened nothing_told ∷ messages)) stream × ReadsBack (session_effects (opened nothing_told ∷ messages)) stream × Appends told0 told1 stream)

  -- `relay`: the stream of what the whole connection left, or that it can't be relayed, or out of memory
  relay_whole : (told0 told1 : Option (List ℕ)) (status : Status) → RelayConcludes meaning (Some yard) new number told0 told1 status → (status ≡ WriteFault → ⊥)
      → (status ≡ NoMemory) ⊎ IsRelayedWhole (first_of plan.connections) told0 told1 status
  relay_whole told0 told1 status (unlent refuses none) calm = absurd (not_refused refuses.0)
  relay_whole told0 told1 status (untaken lends none) calm = inl refl
  relay_whole told0 told1 status (unsettled input messages cause come no_further lends none) calm = inl refl
  relay_whole told0 told1 status (relayed input messages cause status' come no_further lends is_relayed) calm =
      let here : lends.plan ≡ plan = lent _ lends in
      let steady = lends.is.steady (ap (λ (p : Plan). p.fails) here ∙ is.steady) in
      let entries : HasEntries meaning (first_of lends.plan.connections) messages cause = record { come = steady } in
      let whole = subst (λ (p : Plan). HasEntries meaning (first_of p.connections) messages cause) here entries in
      by messages cause status' whole is_relayed calm
    where
      by : (messages : List EntryValue) (cause : Cause) (s : Status) → HasEntries meaning (first_of plan.connections) messages cause → Relayed (session_effects (opened nothing_told ∷ messages)) cause told0 told1 s → (s ≡ WriteFault → ⊥)
          → (s ≡ NoMemory) ⊎ IsRelayedWhole (first_of plan.connections) told0 told1 s
      by messages cause s come (wrote can stream is_stream reads grown) calm = inr (record { messages = messages; cause = cause; come = come; is_relayed = inr (refl, stream, is_stream, reads, grown) })
      by messages cause s come (unwritable cannot none) calm = inr (record { messages = messages; cause = cause; come = come; is_relayed = inl (refl, cannot, none) })
      by messages cause s come (cut can stream written told front grown) calm = absurd (calm refl)
      by messages cause s come (broken_off can stream written told front grown) calm = inl refl

-- `rov`: the lines of the rows by the VRPs of the file, or that a record of it is bad, or out of memory
rov_whole : (meaning : Meaning) (yard : YardValue) (new : Option YardValue) (number calls : ℕ) (plan : Plan) (is : IsSteady yard plan) (path : List ℕ) (prefix : PrefixValue) (file : List ℕ) (told0 told1 : Option (List ℕ)) (status : Status)
    → file_at path yard.files ≡ Some file → length file ≤ most_file → RovConcludes meaning path prefix (Some yard) new number calls told0 told1 status → (status ≡ WriteFault → ⊥)
    → (status ≡ NoMemory) ⊎ (((status ≡ BadFile) × (place : ℕ) × IsFirstBad (file_records file) place × Appends told0 told1 (badfile_line place))
    ⊎ ((vrps : List Vrp) × AreVrps (file_records file) vrps × IsReplied meaning (IsRovReply vrps prefix) (first_of plan.connections) told0 told1 status))
rov_whole meaning yard new number calls plan is path prefix file told0 told1 status stands small (no_file (inl fails, same) counted none is_status) calm = absurd (none_there number (subst (λ (l : List ℕ). Contains l number) is.calm fails))
rov_whole meaning yard new number calls plan is path prefix file told0 told1 status stands small (no_file (inr none_stands, same) counted none is_status) calm = let other : Some file ≡ None = sym stands ∙ none_stands in absurd cc
rov_whole meaning yard new number calls plan is path prefix file told0 told1 status stands small (file_starved given gives counted none is_status) calm = inl is_status
rov_whole meaning yard new number calls plan is path prefix file told0 told1 status stands small (long_file (fine, bytes, there, long, same) counted written) calm =
    let other : Some file ≡ Some bytes = sym stands ∙ there in
    let one : file ≡ bytes = cc in
    absurd (omega (arith, small, long, ap (λ (l : List ℕ). length l) one))
rov_whole meaning yard new number calls plan is path prefix file told0 told1 status stands small (bad_file bytes place (fine, there, short, same) bad counted written) calm =
    let other : Some bytes ≡ Some file = sym there ∙ stands in
    let one : bytes ≡ file = cc in
    let all = all_written told0 told1 (badfile_line place) BadFile status written calm in
    inr (inl (all.0, place, subst (λ (l : List ℕ). IsFirstBad (file_records l) place) one bad, all.1))
rov_whole meaning yard new number calls plan is path prefix file told0 told1 status stands small (judged bytes vrps mid (fine, there, short, same) are counted concludes) calm =
    let other : Some bytes ≡ Some file = sym there ∙ stands in
    let one : bytes ≡ file = cc in
    let here = subst (λ (y : Option YardValue). Concludes meaning (IsRovReply vrps prefix) y new (one_more number) told0 told1 status) same concludes in
    by (is_replied meaning yard new (one_more number) plan is (IsRovReply vrps prefix) told0 told1 status here calm) (subst (λ (l : List ℕ). AreVrps (file_records l) vrps) one are)
  where
    by : (status ≡ NoMemory) ⊎ IsReplied meaning (IsRovReply vrps prefix) (first_of plan.connections) told0 told1 status → AreVrps (file_records file) vrps
        → (status ≡ NoMemory) ⊎ (((status ≡ BadFile) × (place : ℕ) × IsFirstBad (file_records file) place × Appends told0 told1 (badfile_line place))
        ⊎ ((vs : List Vrp) × AreVrps (file_records file) vs × IsReplied meaning (IsRovReply vs prefix) (first_of plan.connections) told0 told1 status))
    by (inl none) vs = inl none
    by (inr whole) vs = inr (inr (vrps, vs, whole))

-- ---- `recall`
-- the disk of the path stands there, and its file holds a content
record HoldsThere (path : List ℕ) (yard : YardValue) (content : List ℕ) : Type 0 where
  calm : yard.fails ≡ []
  shown : DiskShown
  stands : disk_at path yard.disks ≡ Some (Some shown)
  holds : Holds shown.value.now.file content
  steady : shown.value.fails ≡ []

-- the whole reply on a content of the file was written
record IsRecalledWhole (meaning : Meaning) (Replies : List EntryValue → List ℕ → Type 0) (file : List ℕ) (told0 told1 : Option (List ℕ)) (status : Status) : Type 0 where
  content : List ℕ
  holds : Holds file content
  replied_to : IsReplied meaning Replies content told0 told1 status

recall_means : (meaning : Meaning) (Replies : List EntryValue → List ℕ → Type 0) (content : List ℕ) (told0 told1 : Option (List ℕ)) (meant status : Status) (text : List ℕ) → RecallMeans meaning Replies content meant text → status ≡ meant → Appends told0 told1 text
    → (status ≡ NoMemory) ⊎ IsReplied meaning Replies content told0 told1 status
recall_means meaning Replies content told0 told1 meant status text (recalled messages cause reply come replies) same written =
    inr (record { messages = messages; cause = cause; reply = reply; come = record { come = come }; replies = replies; written = written; status_is = same })
recall_means meaning Replies content told0 told1 meant status text unrecalled same written = inl same

recall_whole : (meaning : Meaning) (Replies : List EntryValue → List ℕ → Type 0) (path : List ℕ) (yard : YardValue) (new : Option YardValue) (number : ℕ) (content : List ℕ) (there : HoldsThere path yard content) (told0 told1 : Option (List ℕ)) (status : Status)
    → RecallConcludes meaning Replies path (Some yard) new number told0 told1 status → (status ≡ WriteFault → ⊥) → (status ≡ NoMemory) ⊎ IsRecalledWhole meaning Replies there.shown.value.now.file told0 told1 status
recall_whole meaning Replies path yard new number content there told0 told1 status (diskless (inl fails, same) is none) calm = absurd (none_there number (subst (λ (l : List ℕ). Contains l number) there.calm fails))
recall_whole meaning Replies path yard new number content there told0 told1 status (diskless (inr no_disk, same) is none) calm = absurd (no_disk there.shown there.stands)
recall_whole meaning Replies path yard new number content there told0 told1 status (unread why lends written) calm = by why here (all_written told0 told1 (text_unread why) (status_unread why) status written calm).0
  where
    lent_is : lends.lent ≡ there.shown
    lent_is = let both : Some (Some lends.lent) ≡ Some (Some there.shown) = sym lends.stood ∙ there.stands in cc

    here : HasRecovered (Err why) there.shown lends.back
    here = subst (λ (d : DiskShown). HasRecovered (Err why) d lends.back) lent_is lends.is

    by : (fault : RecoverFault) → HasRecovered (Err fault) there.shown lends.back → status ≡ status_unread fault → (status ≡ NoMemory) ⊎ IsRecalledWhole meaning Replies there.shown.value.now.file told0 told1 status
    by recover.Failed r is = absurd (r.planned (record { none = there.steady; fits = omega arith }))
    by (recover.Damaged offset) r is = absurd (r.recovers.2 content there.holds)
    by recover.TooLong r is = absurd (r.recovers.1 content there.holds)
    by recover.NoMemory r is = inl is
recall_whole meaning Replies path yard new number content there told0 told1 status (answered found lends answers) calm =
    let both : Some (Some lends.lent) ≡ Some (Some there.shown) = sym lends.stood ∙ there.stands in
    let same : lends.lent ≡ there.shown = cc in
    let holds = subst (λ (d : DiskShown). Holds d.value.now.file found) same lends.is.recovers in
    let all = all_written told0 told1 answers.text answers.meant status answers.written calm in
    by holds (recall_means meaning Replies found told0 told1 answers.meant status answers.text answers.means all.0 all.1)
  where
    by : Holds there.shown.value.now.file found → (status ≡ NoMemory) ⊎ IsReplied meaning Replies found told0 told1 status → (status ≡ NoMemory) ⊎ IsRecalledWhole meaning Replies there.shown.value.now.file told0 told1 status
    by holds (inl none) = inl none
    by holds (inr whole) = inr (record { content = found; holds = holds; replied_to = whole })

-- ---- `archive`
-- an empty disk of the path stands there, which fails no call and has room for an archive of these bytes
record TakesThere (path bytes : List ℕ) (yard : YardValue) : Type 0 where
  shown : DiskShown
  stands : disk_at path yard.disks ≡ Some (Some shown)
  is_empty : length shown.value.now.file ≡ 0
  sound : IsSound shown.value (6 * length bytes + 1)
  small : 6 * length bytes + 1 ≤ most_archive

-- The disk that came back is an archive of these bytes, and a crash leaves that.
abbrev HasKept : List ℕ → Plan → Aside → DiskShown → DiskShown → Type 0
HasKept bytes plan shows lent back = HasContent back.value.now.file bytes × HasOnly back.value.now bytes

-- The connection was kept as far as it was taken, and that many bytes and the stop line were written.
record IsArchivedWhole (meaning : Meaning) (path bytes : List ℕ) (yard : YardValue) (new : Option YardValue) (number : ℕ) (told0 told1 : Option (List ℕ)) (status : Status) : Type 0 where
  messages : List EntryValue
  cause : Cause
  come : HasEntries meaning bytes messages cause
  taken : List ℕ
  rest : List ℕ
  front : bytes ≡ taken ++ rest
  lends : LendsBoth (HasKept taken) path yard new number
  written : Appends told0 told1 (kept_line (length taken) ++ stop_line cause)
  status_is : status ≡ status_of cause

-- `archive`: all of the connection was kept, or memory ran out
archive_whole : (meaning : Meaning) (path : List ℕ) (yard : YardValue) (new : Option YardValue) (number calls : ℕ) (plan : Plan) (is : IsSteady yard plan) (there : TakesThere path (first_of plan.connections) yard) (told0 told1 : Option (List ℕ)) (status : Status)
    → ArchiveConcludes meaning path (Some yard) new number calls told0 told1 status → (status ≡ WriteFault → ⊥) → (status ≡ NoMemory) ⊎ IsArchivedWhole meaning path (first_of plan.connections) yard new number told0 told1 status
archive_whole meaning path yard new number calls plan is there told0 told1 status (no_disk_lent (inl fails, same) counted is_status none) calm = absurd (none_there number (subst (λ (l : List ℕ). Contains l number) is.calm fails))
archive_whole meaning path yard new number calls plan is there told0 told1 status (no_disk_lent (inr none_there_now, same) counted is_status none) calm = absurd (none_there_now there.shown there.stands)
archive_whole meaning path yard new number calls plan is there told0 told1 status (portless refuses counted is_status none) calm = absurd (not_refused meaning yard new (one_more number) plan is refuses.refused)
archive_whole meaning path yard new number calls plan is there told0 told1 status (handed came is_kept counted written) calm =
    let all = all_written told0 told1 (text_kept came) (status_kept came) status written calm in
    by came is_kept all.0 all.1
  where
    lent_disk : (Is : Plan → Aside → DiskShown → DiskShown → Type 0) (l : LendsBoth Is path yard new number) → l.lent ≡ there.shown
    lent_disk Is l = let both : Some (Some l.lent) ≡ Some (Some there.shown) = sym l.stood ∙ there.stands in cc

    lent_plan : (Is : Plan → Aside → DiskShown → DiskShown → Type 0) (l : LendsBoth Is path yard new number) → l.plan ≡ plan
    lent_plan Is l = let both : l.plan ∷ l.waiting ≡ plan ∷ is.waiting = sym l.first ∙ is.first in cc

    sound_disk : (Is : Plan → Aside → DiskShown → DiskShown → Type 0) (l : LendsBoth Is path yard new number) (n : ℕ) → n ≤ 6 * length (first_of plan.connections) + 1 → IsSound l.lent.value n
    sound_disk Is l n small = subst (λ (d : DiskShown). IsSound d.value n) (sym (lent_disk Is l)) (record { none = there.sound.none; fits = omega (arith, small, there.sound.fits) })

    -- an append fails only where the disk isn't sound
    never_failed : (taken : List ℕ) → LendsBoth (OnArchive (KeepsFor append.Failed taken)) path yard new number → ⊥
    never_failed taken l =
        let (begun, is_begun, keeps) = l.is in
        let sound = sound_disk _ l (6 * length (first_of plan.connections) + 1) (omega arith) in
        let here : IsSound begun.value (6 * length (first_of plan.connections) + 1) = record { none = is_begun.lasts.fails ∙ sound.none; fits = omega (arith, is_begun.lasts.room, sound.fits) } in
        keeps.refused.2 (subst (λ (p : Plan). IsSound begun.value (6 * length (first_of p.connections) + 1)) (sym (lent_plan _ l)) here)

    -- or the archive has no room for the connection
    never_full : (taken : List ℕ) → LendsBoth (OnArchive (KeepsFor append.Full taken)) path yard new number → ⊥
    never_full taken l =
        let (begun, is_begun, keeps) = l.is in
        let full : most_archive < 6 * length (first_of plan.connections) + 1 = subst (λ (p : Plan). most_archive < 6 * length (first_of p.connections) + 1) (lent_plan _ l) keeps.refused.1 in
        omega (arith, full, there.small)

    whole : (count : ℕ) (cause : Cause) (input : Given) (messages : List EntryValue) → count ≡ length input.bytes → LendsBoth (OnArchive (KeepsInput meaning input messages cause)) path yard new number
        → status ≡ status_of cause → Appends told0 told1 (kept_line count ++ stop_line cause) → IsArchivedWhole meaning path (first_of plan.connections) yard new number told0 told1 status
    whole count cause input messages is_count l same told =
        let (begun, is_begun, keeps) = l.is in
        let here = lent_plan _ l in
        let steady = keeps.comes.steady (ap (λ (p : Plan). p.fails) here ∙ is.steady) in
        let entries : HasEntries meaning (first_of l.plan.connections) messages cause = record { come = steady } in
        record {
          messages = messages;
          cause = cause;
          come = subst (λ (p : Plan). HasEntries meaning (first_of p.connections) messages cause) here entries;
          taken = input.bytes;
          rest = keeps.comes.rest;
          front = subst (λ (p : Plan). first_of p.connections ≡ input.bytes ++ keeps.comes.rest) here keeps.comes.front;
          lends = record {
            planned = l.planned;
            lent = l.lent;
            stood = l.stood;
            port_planned = l.port_planned;
            plan = l.plan;
            waiting = l.waiting;
            first = l.first;
            shows = l.shows;
            back = l.back;
            given_back = l.given_back;
            is = (keeps.holds, keeps.only);
          };
          written = subst (λ (n : ℕ). Appends told0 told1 (kept_line n ++ stop_line cause)) is_count told;
          status_is = same;
        }

    by : (k : Kept) → IsKept meaning (λ Is. LendsBothWhereTold Is path (Some yard) new number) k → status ≡ status_kept k → Appends told0 told1 (text_kept k) → (status ≡ NoMemory) ⊎ IsArchivedWhole meaning path (first_of plan.connections) yard new number told0 told1 status
    by (kept.Uncreated create.Failed) l same told = absurd (l.is.1.planned (sound_disk _ l 1 (omega arith)))
    by (kept.Uncreated create.NotEmpty) l same told = absurd (l.is.1.creates.0 (ap (λ (d : DiskShown). length d.value.now.file) (lent_disk _ l) ∙ there.is_empty))
    by (kept.Unbegun recover.Failed) l same told = absurd (l.is.1.planned refl (sound_disk _ l 1 (omega arith)))
    by (kept.Unbegun (recover.Damaged offset)) l same told = absurd l.is.1.plain
    by (kept.Unbegun recover.TooLong) l same told = absurd l.is.1.plain
    by (kept.Unbegun recover.NoMemory) l same told = inl same
    by kept.Starved l same told = inl same
    by (kept.Whole count cause) (input, messages, come, no_further, is_count, l) same told = inr (whole count cause input messages is_count l same told)
    by (kept.CutOff count append.Failed) (taken, no_further, is_count, l) same told = absurd (never_failed taken l)
    by (kept.CutOff count append.Full) (taken, no_further, is_count, l) same told = absurd (never_full taken l)
    by (kept.CutOff count append.Stopped) impossible same told = absurd impossible

-- ---- the commands that ask the yard for nothing
-- `drill`: all of its replies, or out of memory
drill_whole : (drill : DrillWords) (told0 told1 : Option (List ℕ)) (status : Status) → DrillConcludes drill told0 told1 status → (status ≡ WriteFault → ⊥)
    → (status ≡ NoMemory) ⊎ ((status ≡ Done) × (text : List ℕ) × IsDrillText drill.seed drill.lanes drill.messages text × Appends told0 told1 text)
drill_whole drill told0 told1 status concludes calm =
    let all = all_written told0 told1 concludes.text concludes.meant status concludes.written calm in
    by concludes.meant concludes.text concludes.means all.0 all.1
  where
    by : (meant : Status) (text : List ℕ) → DrillMeans drill meant text → status ≡ meant → Appends told0 told1 text
        → (status ≡ NoMemory) ⊎ ((status ≡ Done) × (whole : List ℕ) × IsDrillText drill.seed drill.lanes drill.messages whole × Appends told0 told1 whole)
    by meant text (drilled_whole whole is) same written = inr (same, whole, is, written)
    by meant text drill_starved same written = inl same

-- `--help` and `--version`: their texts
help_whole : (Serves : ServeWords → Outcome → Type 0) (file : List ℕ) (meaning : Meaning) (old new : Option YardValue) (number calls : ℕ) (told0 told1 : Option (List ℕ)) (status : Status)
    → CallConcludes Serves Help file meaning old new number calls told0 told1 status → (status ≡ WriteFault → ⊥) → (status ≡ Done) × Appends told0 told1 help_text
help_whole Serves file meaning old new number calls told0 told1 status concludes calm = all_written told0 told1 help_text Done status concludes.2 calm

version_whole : (Serves : ServeWords → Outcome → Type 0) (file : List ℕ) (meaning : Meaning) (old new : Option YardValue) (number calls : ℕ) (told0 told1 : Option (List ℕ)) (status : Status)
    → CallConcludes Serves Version file meaning old new number calls told0 told1 status → (status ≡ WriteFault → ⊥) → (status ≡ Done) × Appends told0 told1 version_line
version_whole Serves file meaning old new number calls told0 told1 status concludes calm = all_written told0 told1 version_line Done status concludes.2 calm

-- ---- `serve`
-- a yard that fails no call and has as many ports and links as are asked for refuses none
no_refusal : (at : Listening) (yard : YardValue) (number call ports links : ℕ) → yard.fails ≡ [] → at.feeds ≤ length yard.ports → at.askers ≤ length yard.links → FailsAt at call ports links
    → Contains yard.fails number ⊎ (((0 < call) × (ports < at.feeds) × (length yard.ports ≡ ports)) ⊎ ((0 < call) × (ports ≡ at.feeds) × (length yard.links ≡ links))) → ⊥
no_refusal at yard number call ports links none many enough fails (inl planned) = none_there number (subst (λ (l : List ℕ). Contains l number) none planned)
no_refusal at yard number call ports links none many enough fails (inr (inl (some, few, all))) = omega (arith, many, few, all)
no_refusal at yard number call ports links none many enough (listening is none_out no_links) (inr (inr (some, whole, all))) = omega (arith, is, some)
no_refusal at yard number call ports links none many enough (asking is few no_links) (inr (inr (some, whole, all))) = omega (arith, few, whole)
no_refusal at yard number call ports links none many enough (asking_link is whole_too few) (inr (inr (some, whole, all))) = omega (arith, few, enough, all)

-- `serve`: both lines and all between them, or out of memory
serve_whole : {E : Type 0} (Shows : E → List (TablesValue × ℕ) → List (Fed Entry) → List (Asker Entry) → Type 0) (meaning : Meaning) (at : Listening) (rounds : ℕ) (old new : YardSeen E) (yard : YardValue) (told0 told1 : Option (List ℕ)) (came : Outcome)
    → old.told ≡ Some yard → yard.fails ≡ [] → at.feeds ≤ length yard.ports → at.askers ≤ length yard.links → Comes Shows meaning at rounds old new told0 told1 came → (came ≡ outcome.WriteFault → ⊥)
    → (came ≡ outcome.NoMemory) ⊎ ((rev : ℕ) × Ends Shows meaning at rounds old new came rev × Appends told0 told1 (ready_line ++ done_line rev))
serve_whole Shows meaning at rounds old new yard told0 told1 came tells none many enough (unserved is same kept) calm = inl is
serve_whole Shows meaning at rounds old new yard told0 told1 came tells none many enough (yard_refused before is refuses counted listened takes kept) calm =
    let told = subst (λ (t : Option YardValue). RefusesWhereTold at t new.told old.calls before refuses.ports refuses.links) tells refuses.told in
    absurd (no_refusal at yard (call_after old.calls before) before (length refuses.ports) (length refuses.links) none many enough refuses.fails told.0)
serve_whole Shows meaning at rounds old new yard told0 told1 came tells none many enough (not_ready ports links is back takes front) calm = absurd (calm is)
serve_whole Shows meaning at rounds old new yard told0 told1 came tells none many enough (unfinished is serves takes written) calm = inl is
serve_whole Shows meaning at rounds old new yard told0 told1 came tells none many enough (finished rev ends written) calm = inr (rev, ends, written)
serve_whole Shows meaning at rounds old new yard told0 told1 came tells none many enough (undone rev meant is ends written) calm = absurd (calm is)
