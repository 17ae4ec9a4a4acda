-- A disk that refuses each call after a sync that failed, and asks its file until then.
use Rattle.std.proofs.Common.{◌≡◌, inl, ℕ, zero, suc, List, [], refl, sym, subst, arith, Err}
use Rattle.wire_io.specs.declared.sink.Failed.{Failed}
use Rattle.disk_doors.specs.Images.{unread}
use Rattle.disk_doors.specs.Disk.{DiskValue, asked, goes_to, IsPlanned, Sizes, ReadsAt, WritesAt, Syncs}
use Rattle.disk_doors.specs.Note.{Event}
use Rattle.disk_doors.specs.RawFile.{FailsOn}
use Rattle.disk_doors.specs.FileDisk.{after_refusal, after_refusals}
use Rattle.disk_doors.proofs.Torn.{tore_at}

pub fails_now : (d : DiskValue) → FailsOn d → IsPlanned d
fails_now d f = f.each d.calls (omega arith) f.within

pub fails_later : (d : DiskValue) (call place : ℕ) (bytes : List ℕ) → FailsOn d → FailsOn (after_refusal call place bytes d)
fails_later d zero place bytes f = record { within = omega arith; each = λ n low top. f.each n (omega (arith, low, f.within)) top }
fails_later d (suc zero) place bytes f = record { within = omega arith; each = λ n low top. f.each n (omega (arith, low, f.within)) top }
fails_later d (suc (suc other)) place bytes f = record { within = omega arith; each = λ n low top. f.each n (omega (arith, low, f.within)) top }

pub size_refused : (d : DiskValue) (e : Failed) → FailsOn d → Sizes d (asked d) (Err e)
size_refused d e f = record { next = refl; size = tt; planned = fails_now d f }

pub read_refused : (d : DiskValue) (place : ℕ) (buf : List ℕ) (e : Failed) → FailsOn d → ReadsAt d (asked d) place (Err e) buf
read_refused d place buf e f = record { next = refl; count = tt; bytes = tt; planned = fails_now d f }

pub write_refused : (d : DiskValue) (place : ℕ) (piece : List ℕ) (e : Failed) → FailsOn d → WritesAt d (goes_to (unread d.now place piece) d) place piece (Err e)
write_refused d place piece e f = tore_at d (goes_to (unread d.now place piece) d) place piece e refl (inl (fails_now d f))

pub sync_refused : (d : DiskValue) (e : Failed) → FailsOn d → Syncs d (goes_to d.now d) (Err e)
sync_refused d e f = record { next = refl; planned = fails_now d f }

-- where no call was refused, the disk shows what its file does
pub unrefused : (R : DiskValue → DiskValue → Type 0) (es : List Event) (old new : DiskValue) → es ≡ [] → R old new → R (after_refusals es old) (after_refusals es new)
unrefused R es old new none r = subst (λ (l : List Event). R (after_refusals l old) (after_refusals l new)) (sym none) r

pub fails_unrefused : (es : List Event) (d : DiskValue) → es ≡ [] → FailsOn d → FailsOn (after_refusals es d)
fails_unrefused es d none f = subst (λ (l : List Event). FailsOn (after_refusals l d)) (sym none) f
