-- What the clauses refuse: for each mistake that someone could make here, its result at one value.
use Rattle.std.proofs.Common.{◌≡◌, true, false, inl, ⊎_elim, ℕ, ◌+◌, ◌<◌, ◌≤◌, List, [], ◌∷◌, length, refl, ap, subst, sym, arith, Ok, Err}
use Rattle.std.specs.Fs.{asks_create, asks_truncate, with_truncate}
use Rattle.wire_io.specs.Faults.{HasCause, Rose}
use Rattle.wire_io.specs.declared.sink.Failed.{Failed}
use Rattle.disk_doors.specs.Images.{Range, Moment, IsIn, settled, wrote, AfterWrite}
use Rattle.disk_doors.specs.Disk.{DiskValue, asked, goes_to, Sizes, ReadsAt, WritesAt, Syncs}
use Rattle.disk_doors.specs.RawFile.{GivesPart, FailsOn}
use Rattle.disk_doors.specs.Opening.{as_it_is, made_where_none}
use Rattle.disk_doors.specs.Put.{Puts}
use Rattle.disk_doors.proofs.Refusing.{fails_now}

-- an empty file, with room for ten bytes
abbrev empty : DiskValue
empty = record { now = settled []; past = []; fails = []; room = 10; calls = 0 }

-- after a write of the byte 65 at the place 0
abbrev written : DiskValue → DiskValue
written d = goes_to (wrote d.now 0 (65 ∷ [])) d

-- after a sync
abbrev synced : DiskValue → DiskValue
synced d = goes_to (settled d.now.file) d

-- A put writes its piece once, and syncs once.
a_put_may_not_write_twice : Puts empty (synced (written (written empty))) 0 (65 ∷ []) (Ok tt) → ⊥
a_put_may_not_write_twice p = absurd (omega (arith, p.few))

-- A put that answers Ok has synced.
a_put_may_not_leave_out_its_sync : Puts empty (written empty) 0 (65 ∷ []) (Ok tt) → ⊥
a_put_may_not_leave_out_its_sync p = absurd (cc (ap (λ (m : Moment). m.ranges) p.done))

-- a file of the two bytes 65 and 66, of which all is kept
abbrev two : DiskValue
two = record { now = settled (65 ∷ 66 ∷ []); past = []; fails = []; room = 10; calls = 0 }

-- The size is that of the file. Where it were 0, an archive would be begun over what the file holds.
a_file_with_bytes_is_not_empty : Sizes two (asked two) (Ok 0) → ⊥
a_file_with_bytes_is_not_empty s = absurd (omega (arith, s.size))

-- A read gives what the buffer holds of what there is: not nothing, not what one read of the system happened to give, and
-- no other bytes.
a_read_may_not_give_nothing : ReadsAt two (asked two) 0 (Ok 0) (0 ∷ 0 ∷ []) → ⊥
a_read_may_not_give_nothing r = absurd (omega (arith, r.count))

a_part_is_not_taken_for_the_whole : ReadsAt two (asked two) 0 (Ok 1) (65 ∷ 0 ∷ []) → ⊥
a_part_is_not_taken_for_the_whole r = absurd (omega (arith, r.count))

a_read_may_not_leave_the_buffer_as_it_was : ReadsAt two (asked two) 0 (Ok 2) (0 ∷ 0 ∷ []) → ⊥
a_read_may_not_leave_the_buffer_as_it_was r = absurd (cc r.bytes)

-- No read of a file gives nothing before the file ends, so that a disk which stops there has read all.
a_read_before_the_end_gives_a_byte : GivesPart two (asked two) 1 0 (0 ∷ 0 ∷ []) → ⊥
a_read_before_the_end_gives_a_byte g = ⊎_elim (λ (e : 2 ≤ 1). absurd (omega (arith, e))) (λ (e : 2 ≡ 0). absurd (omega (arith, e))) (g.none refl)

-- A write that answers Ok has written its piece.
a_write_may_not_write_nothing : WritesAt empty (goes_to empty.now empty) 0 (65 ∷ []) (Ok tt) → ⊥
a_write_may_not_write_nothing w =
    let same : settled [] ≡ w.made = ap (λ (d : DiskValue). d.now) w.next in
    absurd (cc (ap (λ (m : Moment). m.ranges) same, ap (λ (m : Moment). m.ranges) w.moment))

-- A sync that answers Ok has synced.
a_sync_may_not_leave_what_was_written : Syncs (written empty) (goes_to (written empty).now (written empty)) (Ok tt) → ⊥
a_sync_may_not_leave_what_was_written s = absurd (cc (ap (λ (d : DiskValue). d.now.ranges) s.next))

-- No sync is believed after one that failed, and nothing that is read.
a_sync_after_one_that_failed_is_not_believed : (old new : DiskValue) → FailsOn old → Syncs old new (Ok tt) → ⊥
a_sync_after_one_that_failed_is_not_believed old new f s = s.planned (fails_now old f)

-- A write that failed is among the ranges that a crash may change: it doesn't leave the moment as it was.
a_failed_write_is_not_forgotten : (e : Failed) → WritesAt empty (goes_to empty.now empty) 0 (65 ∷ []) (Err e) → ⊥
a_failed_write_is_not_forgotten e w =
    let same : settled [] ≡ w.made = ap (λ (d : DiskValue). d.now) w.next in
    absurd (cc (ap (λ (m : Moment). m.ranges) same, w.moment.ranges))

-- Each byte of a piece whose write failed may be changed.
a_failed_write_may_reach_its_places : (old new : Moment) (place i : ℕ) (piece : List ℕ) (e : Failed) → i < length piece → AfterWrite old place piece (Err e) new → IsIn new.ranges (place + i)
a_failed_write_may_reach_its_places old new place i piece e l t = subst (λ (rs : List Range). IsIn rs (place + i)) (sym t.ranges) (inl (omega arith, omega (arith, l)))

-- A call that failed raised the count of faults by one: not by none, and not by two.
a_fault_is_counted : Rose 0 0 → ⊥
a_fault_is_counted r = absurd (omega (arith, r))

a_fault_is_counted_once : Rose 0 2 → ⊥
a_fault_is_counted_once r = absurd (omega (arith, r))

no_fault_is_counted_where_none_was : HasCause {T = ℕ} {E = Failed} 0 1 (Ok 0) → ⊥
no_fault_is_counted_where_none_was c = absurd (omega (arith, c.fine))

-- What must be there isn't made where it is missing, and no file is emptied as it is opened.
a_file_that_must_be_there_is_not_made : made_where_none ≡ as_it_is → ⊥
a_file_that_must_be_there_is_not_made e = let made : true ≡ false = ap asks_create e in absurd cc

a_file_is_not_emptied : with_truncate made_where_none true ≡ made_where_none → ⊥
a_file_is_not_emptied e = let emptied : true ≡ false = ap asks_truncate e in absurd cc

a_file_that_must_be_there_is_not_emptied : with_truncate as_it_is true ≡ as_it_is → ⊥
a_file_that_must_be_there_is_not_emptied e = let emptied : true ≡ false = ap asks_truncate e in absurd cc
