-- What the clauses refuse: for each mistake that someone could make here, its result at one value.
use Rattle.std.proofs.Common.{◌≡◌, ◌⊎◌, inl, inr, ⊎_elim, ℕ, ◌+◌, false, List, [], ◌∷◌, ◌++◌, length, length-append, refl, sym, ap, subst, arith, Ok, Err, None}
use Rattle.std.proofs.lemmas.List.{append_cancel_right}
use Rattle.disk_doors.specs.Images.{Moment, MayLeave, settled, wrote}
use Rattle.disk_doors.specs.Disk.{DiskValue, moments, asked, goes_to, AllImages, Passes}
use Rattle.disk_doors.specs.Note.{Event}
use Rattle.feed_archive.specs.Archive.{IsDamagedAt}
use Rattle.feed_archive.specs.Recovering.{Holds, HasOnly, Recovers}
use Rattle.feed_archive.specs.Appending.{IsClosedAt, IsBeforeOrAfter, AppendAnswers}
use Rattle.feed_archive.specs.Creating.{Creates, CreateCalls}
use Rattle.feed_archive.specs.Keeping.{HasKept, KeepsExactly}
use Rattle.feed_archive.specs.declared.fault.CreateFault.TheVariants.{Failed, NotEmpty}
use Rattle.feed_archive.specs.declared.fault.AppendFault.TheVariants.{Failed as DiskFailed}
use Rattle.feed_archive.specs.declared.fault.RecoverFault.TheVariants.{Damaged}
use Rattle.feed_archive.proofs.Records.{is_record, breaks_nil, breaks_short, breaks_cut}
use Rattle.feed_archive.proofs.OneContent.{content_one, damaged_none, seen_archive, seen_holds}
use Rattle.feed_archive.proofs.Empty.{empty_content, settled_only}

-- a disk with this file, all of it kept, of which no call was made
abbrev holding : List ℕ → DiskValue
holding file = record { now = settled file; past = []; fails = []; room = 100; calls = 0 }

-- the moment of an empty file to which one byte was written
abbrev began_with : ℕ → Moment
began_with byte = wrote (settled []) 0 (byte ∷ [])

-- The record of the byte 65, and one that says five bytes and has one.
abbrev one_record : List ℕ
one_record = 1 ∷ 0 ∷ 0 ∷ 0 ∷ 1 ∷ 65 ∷ []

abbrev cut_short : List ℕ
cut_short = 1 ∷ 0 ∷ 0 ∷ 0 ∷ 5 ∷ 65 ∷ []

-- where these bytes are damaged, no content is held
nothing_held : (file content : List ℕ) (offset : ℕ) → IsDamagedAt file offset → Holds file content → ⊥
nothing_held file content offset d h =
    damaged_none file offset d content (record { pieces = h.pieces; place = h.place; is = seen_archive file h.pieces h.place h.is; content_is = h.content_is })

-- A file that isn't empty is no place for a new archive: `create` never answers Ok on it, whatever it then holds.
a_file_with_a_byte_is_not_created_over : (new : DiskValue) (u : Unit {0}) → Creates (holding (65 ∷ [])) new (Ok u) → ⊥
a_file_with_a_byte_is_not_created_over new u c = absurd (omega (arith, c.0))

-- Nor is it written to where `create` then fails, or answers `NotEmpty`.
abbrev overwritten_by_create : DiskValue
overwritten_by_create = goes_to (wrote (settled (65 ∷ [])) 0 (0 ∷ [])) (asked (holding (65 ∷ [])))

a_failed_create_leaves_a_file_with_a_byte : Creates (holding (65 ∷ [])) overwritten_by_create (Err Failed) → ⊥
a_failed_create_leaves_a_file_with_a_byte c = absurd (cc ((c (λ e. omega (arith, e))).past))

a_refused_create_leaves_a_file_with_a_byte : Creates (holding (65 ∷ [])) overwritten_by_create (Err NotEmpty) → ⊥
a_refused_create_leaves_a_file_with_a_byte c = absurd (cc (c.1.past))

-- A new archive is the byte 0, and no other byte that closes one.
a_new_archive_is_not_the_byte_7 : Creates (holding []) (goes_to (settled (7 ∷ [])) (goes_to (began_with 7) (asked (holding [])))) (Ok tt) → ⊥
a_new_archive_is_not_the_byte_7 c = absurd (cc (ap (λ (m : Moment). m.file) c.2))

-- A new archive is written once and synced once.
a_new_archive_is_not_synced_twice : CreateCalls (holding []) (goes_to (settled (0 ∷ [])) (goes_to (settled (0 ∷ [])) (goes_to (began_with 0) (asked (holding []))))) (Ok tt) → ⊥
a_new_archive_is_not_synced_twice c = absurd (omega (arith, ap length c.made.since))

-- After an append a byte closes the archive: without it no content is held, and none is closed there.
unclosed : IsDamagedAt one_record 6
unclosed = record { front = one_record; rest = []; split = refl; pieces = (65 ∷ []) ∷ []; records = (one_record, [], record { joined = refl }, is_record (65 ∷ []) (omega arith), refl); offset_is = refl; broken = breaks_nil }

an_unclosed_archive_has_no_content : (content : List ℕ) → HasOnly (settled one_record) content → ⊥
an_unclosed_archive_has_no_content content only = nothing_held one_record content 6 unclosed (only one_record (inl refl))

an_unclosed_archive_is_not_closed_at_its_end : IsClosedAt (settled one_record) 6 → ⊥
an_unclosed_archive_is_not_closed_at_its_end c = absurd (omega (arith, ap length c.is.split, length-append c.is.front (c.is.gate ∷ c.is.rest), c.is.place_is))

-- The first byte of a record isn't written, and synced, before the rest of it: a crash in between leaves no archive.
abbrev gate_first : List Moment
gate_first = settled (1 ∷ 0 ∷ 0 ∷ 0 ∷ 1 ∷ 65 ∷ 0 ∷ []) ∷ wrote (settled (1 ∷ [])) 1 (0 ∷ 0 ∷ 0 ∷ 1 ∷ 65 ∷ 0 ∷ []) ∷ settled (1 ∷ []) ∷ wrote (settled (0 ∷ [])) 0 (1 ∷ []) ∷ []

abbrev after : List Moment → DiskValue → DiskValue
after [] d = d
after (m ∷ ms) d = goes_to m (after ms d)

a_gate_alone : IsDamagedAt (1 ∷ []) 0
a_gate_alone = record { front = []; rest = 1 ∷ []; split = refl; pieces = []; records = refl; offset_is = refl; broken = breaks_short (1 ∷ []) (omega arith) refl }

a_gate_before_its_record_is_refused : Passes (IsBeforeOrAfter [] (65 ∷ [])) (holding (0 ∷ [])) (after gate_first (holding (0 ∷ []))) → ⊥
a_gate_before_its_record_is_refused p =
    let made : gate_first ≡ p.made = append_cancel_right gate_first p.made (moments (holding (0 ∷ []))) p.since in
    let each : AllImages (IsBeforeOrAfter [] (65 ∷ [])) gate_first = subst (λ (ms : List Moment). AllImages (IsBeforeOrAfter [] (65 ∷ [])) ms) (sym made) p.each in
    ⊎_elim (nothing_held (1 ∷ []) [] 0 a_gate_alone) (nothing_held (1 ∷ []) (65 ∷ []) 0 a_gate_alone) (each.1.1.0 (1 ∷ []) (inl refl))

-- what follows a byte 0 at the front counts for nothing
closed_first : (rest : List ℕ) → Holds (0 ∷ rest) []
closed_first rest = seen_holds (0 ∷ rest) [] 0 (omega arith) (record { front = []; gate = 0; rest = rest; split = refl; records = refl; closed = λ e. omega (arith, e); place_is = refl })

what_follows_the_closing_byte_counts_for_nothing : (rest content : List ℕ) → Holds (0 ∷ rest) content → content ≡ []
what_follows_the_closing_byte_counts_for_nothing rest content h = content_one _ content [] h (closed_first rest)

-- After an append its gate is synced: else a crash leaves the archive without the piece.
abbrev ungated : List ℕ
ungated = 0 ∷ 0 ∷ 0 ∷ 0 ∷ 1 ∷ 65 ∷ 0 ∷ []

a_gate_that_is_not_synced_keeps_nothing : HasOnly (wrote (settled ungated) 0 (1 ∷ [])) (65 ∷ []) → ⊥
a_gate_that_is_not_synced_keeps_nothing only =
    let left : MayLeave ungated (wrote (settled ungated) 0 (1 ∷ [])).ranges ungated = record { same = λ i low out. refl; no_shorter = omega arith; synced = λ e. absurd (cc e) } in
    absurd (cc (what_follows_the_closing_byte_counts_for_nothing _ (65 ∷ []) (only ungated (inr left))))

-- After an append that failed none goes on.
an_archive_stops_where_the_disk_failed : AppendAnswers {D = Unit {0}} (record { disk = tt; place = 0; stopped = false }) (record { disk = tt; place = 0; stopped = false }) 1 (Err DiskFailed) → ⊥
an_archive_stops_where_the_disk_failed a = absurd (cc (a.2))

-- The closing byte isn't read as an empty record: neither is what stands after it given, nor is the file damaged there.
the_closing_byte_is_no_record : Recovers (0 ∷ 0 ∷ 0 ∷ 0 ∷ 0 ∷ []) (Err (Damaged 5)) → ⊥
the_closing_byte_is_no_record r = r.2 [] (closed_first (0 ∷ 0 ∷ 0 ∷ 0 ∷ []))

what_stands_after_the_closing_byte_is_not_given : Recovers (0 ∷ 0 ∷ 0 ∷ 0 ∷ 0 ∷ 1 ∷ 0 ∷ 0 ∷ 0 ∷ 1 ∷ 65 ∷ 0 ∷ []) (Ok (65 ∷ [])) → ⊥
what_stands_after_the_closing_byte_is_not_given h = absurd (cc (what_follows_the_closing_byte_counts_for_nothing _ (65 ∷ []) h))

-- A record that is cut short doesn't close the archive: the records before it aren't given as the content.
cut_after_one : IsDamagedAt (one_record ++ cut_short) 6
cut_after_one = record { front = one_record; rest = cut_short; split = refl; pieces = (65 ∷ []) ∷ []; records = (one_record, [], record { joined = refl }, is_record (65 ∷ []) (omega arith), refl); offset_is = refl; broken = breaks_cut cut_short refl (omega arith) }

what_stands_before_damage_is_not_given : (content : List ℕ) → Recovers (one_record ++ cut_short) (Ok content) → ⊥
what_stands_before_damage_is_not_given content h = nothing_held (one_record ++ cut_short) content 6 cut_after_one h

-- A piece that was given is kept: the file can't be the archive with no content still.
abbrev given_one : List Event
given_one = (0, 0, 65 ∷ []) ∷ []

kept_nothing : HasOnly (settled (0 ∷ [])) []
kept_nothing = settled_only (settled (0 ∷ [])) (0 ∷ []) [] refl empty_content

a_piece_is_not_given_before_it_is_kept : HasKept (Unit {0}) (holding (0 ∷ [])) (holding (0 ∷ [])) given_one → ⊥
a_piece_is_not_given_before_it_is_kept k =
    let other : Holds (0 ∷ []) (65 ∷ []) → ⊥ = λ h. absurd (cc (what_follows_the_closing_byte_counts_for_nothing [] (65 ∷ []) h)) in
    ⊎_elim other other ((k.run tt [] kept_nothing).present (0 ∷ []) (inl refl))

a_crash_leaves_what_was_given : KeepsExactly (Unit {0}) (holding (0 ∷ [])) (holding (0 ∷ [])) given_one None → ⊥
a_crash_leaves_what_was_given k =
    absurd (cc (what_follows_the_closing_byte_counts_for_nothing [] (65 ∷ []) (k.exact tt [] kept_nothing (λ e. absurd (cc e)) (0 ∷ []) (inl refl))))
