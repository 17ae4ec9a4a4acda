-- A read, as a port tells it that keeps what it gives.
use Rattle.std.proofs.Common.{◌≡◌, ℕ, List, [], ◌∷◌, Result, Ok, Err, refl, sym, ◌∙◌, subst, arith}
use Rattle.std.proofs.KnownBytes.{Keeps-refl}
use mathlib.Core.Bool.{Bool, true, false}
use Rattle.wire_io.specs.declared.sink.Failed.{Failed}
use Rattle.wire_io.specs.Aside.{Aside}
use Rattle.station_doors.specs.Doors.{Reads, AsPlanned}
use Rattle.disk_doors.specs.Note.{Event}
use Rattle.feed_archive.specs.Keeping.{given_later, is_refused, keep_aside, calm, late, told_by}
use Rattle.feed_archive.proofs.Telling.{aside_calm, aside_late, marked_is}

-- it shows no plan
pub unplanned : (b : Bool) (inner base : Aside) (es : List Event) (r : Result ℕ Failed) → AsPlanned (told_by b inner base es).plan 0 0 r
unplanned true inner base es r = tt
unplanned false inner base es r = tt

calm_reads : (i0 i1 : Aside) (r : Result ℕ Failed) (buf : List ℕ) → Reads i0 i1 r buf → Reads (calm i0) (calm i1) r buf
calm_reads i0 i1 r buf s = record { plan = refl; coming = s.coming; rest = s.rest; given = s.given; opened = s.opened; closed = s.closed; is_open = s.is_open; taken = s.taken; refused = s.refused; cause = s.cause; calm = s.calm; writes = s.writes; laid = s.laid }

-- the port below was read, and no piece was refused
pub reads_on : (i0 i1 base0 base1 told : Aside) (es fs : List Event) (r : Result ℕ Failed) (buf : List ℕ) → keep_aside i0 base0 es ≡ told → is_refused es ≡ false → is_refused fs ≡ false → Reads i0 i1 r buf
    → Reads told (keep_aside i1 base1 fs) r buf
reads_on i0 i1 base0 base1 told es fs r buf is fine later s =
    subst (λ (a : Aside). Reads a (keep_aside i1 base1 fs) r buf) (sym (aside_calm i0 base0 es fine) ∙ is)
    (subst (λ (a : Aside). Reads (calm i0) a r buf) (sym (aside_calm i1 base1 fs later)) (calm_reads i0 i1 r buf s))

-- the piece that it gave was refused
pub reads_lost : (i0 i1 base0 base1 told : Aside) (es fs : List Event) (n : ℕ) (piece buf : List ℕ) (e : Failed) → keep_aside i0 base0 es ≡ told → fs ≡ (1, 0, piece) ∷ es → base1 ≡ i0 → is_refused es ≡ false → Reads i0 i1 (Ok n) buf
    → Reads told (keep_aside i1 base1 fs) (Err e) buf
reads_lost i0 i1 base0 base1 told es fs n piece buf e is more same fine s =
    subst (λ (l : List Event). Reads told (keep_aside i1 base1 l) (Err e) buf) (sym more)
    (subst (λ (a : Aside). Reads told (late i1 a ((1, 0, piece) ∷ es)) (Err e) buf) (sym same)
    (subst (λ (a : Aside). Reads a (late i1 i0 ((1, 0, piece) ∷ es)) (Err e) buf) (sym (aside_calm i0 base0 es fine) ∙ is) (record {
      plan = refl;
      coming = s.coming;
      rest = Keeps-refl i0.rest;
      given = marked_is i0.given e buf;
      opened = s.opened;
      closed = s.closed;
      is_open = s.is_open;
      taken = refl;
      refused = s.refused;
      cause = record { later = omega (arith, s.cause.fine); failed = (omega (arith, s.cause.fine), omega (arith, s.cause.fine)); fine = tt };
      calm = s.calm;
      writes = s.writes;
      laid = s.laid;
    })))

late_reads : (inner base : Aside) (es : List Event) (e : Failed) (buf : List ℕ) → Reads (late inner base es) (late inner base ((2, 0, []) ∷ es)) (Err e) buf
late_reads inner base es e buf = record {
  plan = refl;
  coming = refl;
  rest = Keeps-refl (late inner base es).rest;
  given = marked_is (given_later base.given es) e buf;
  opened = refl;
  closed = refl;
  is_open = refl;
  taken = refl;
  refused = refl;
  cause = record { later = omega arith; failed = (omega arith, omega arith); fine = tt };
  calm = refl;
  writes = refl;
  laid = refl;
}

-- a piece was refused before, and the port below wasn't asked
pub reads_later : (inner base told : Aside) (es fs : List Event) (e : Failed) (buf : List ℕ) → keep_aside inner base es ≡ told → fs ≡ (2, 0, []) ∷ es → is_refused es ≡ true → Reads told (keep_aside inner base fs) (Err e) buf
reads_later inner base told es fs e buf is more gone =
    subst (λ (l : List Event). Reads told (keep_aside inner base l) (Err e) buf) (sym more)
    (subst (λ (a : Aside). Reads a (keep_aside inner base ((2, 0, []) ∷ es)) (Err e) buf) (sym (aside_late inner base es gone) ∙ is)
    (subst (λ (a : Aside). Reads (late inner base es) a (Err e) buf) (sym (aside_late inner base ((2, 0, []) ∷ es) gone)) (late_reads inner base es e buf)))
