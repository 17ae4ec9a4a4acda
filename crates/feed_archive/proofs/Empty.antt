-- The archive with no content.
use Rattle.std.proofs.Common.{◌≡◌, ℕ, List, [], ◌∷◌, length, refl, sym, ◌∙◌, ap, subst, arith, Ok}
use Rattle.std.proofs.lemmas.List.{nil_from_length}
use Rattle.disk_doors.specs.Images.{Moment, IsImage, settled, overwritten}
use Rattle.disk_doors.specs.Disk.{DiskValue, WritesAt, Syncs}
use Rattle.disk_doors.proofs.Torn.{settled_image}
use Rattle.feed_archive.specs.Archive.{IsArchive}
use Rattle.feed_archive.specs.Recovering.{Holds, HasOnly}
use Rattle.feed_archive.proofs.OneContent.{seen_holds}

pub empty_archive : IsArchive (0 ∷ []) [] 0
empty_archive = record { front = []; gate = 0; rest = []; split = refl; records = refl; closed = λ e. omega (arith, e); place_is = refl }

pub empty_content : Holds (0 ∷ []) []
empty_content = seen_holds (0 ∷ []) [] 0 (omega arith) empty_archive

pub first_byte : (file : List ℕ) → length file ≡ 0 → overwritten file 0 (0 ∷ []) ≡ 0 ∷ []
first_byte file none = ap (λ (l : List ℕ). overwritten l 0 (0 ∷ [])) (nil_from_length file none)

pub settled_only : (m : Moment) (file content : List ℕ) → m ≡ settled file → Holds file content → HasOnly m content
settled_only m file content is has c i = subst (λ (l : List ℕ). Holds l content) (sym (settled_image file c (subst (λ (n : Moment). IsImage n c) is i))) has

-- the closing byte was written to a file with no bytes
pub shut_written : (old new : DiskValue) (u : Unit {0}) → WritesAt old new 0 (0 ∷ []) (Ok u) → length old.now.file ≡ 0 → new.now.file ≡ 0 ∷ []
shut_written old new u w none = ap (λ (d : DiskValue). d.now.file) w.next ∙ ap (λ (m : Moment). m.file) w.moment ∙ first_byte old.now.file none

-- and a sync keeps it
pub shut_kept : (old mid new : DiskValue) (u v : Unit {0}) → length old.now.file ≡ 0 → WritesAt old mid 0 (0 ∷ []) (Ok u) → Syncs mid new (Ok v) → new.now ≡ settled (0 ∷ [])
shut_kept old mid new u v none w s = ap (λ (d : DiskValue). d.now) s.next ∙ ap settled (shut_written old mid u w none)

-- it is all of the file, and it is kept
pub created : (file : List ℕ) (new : Moment) → length file ≡ 0 → new ≡ settled (0 ∷ []) → (length file ≡ 0) × HasOnly new [] × (new ≡ settled (0 ∷ []))
created file new none kept = (none, settled_only new (0 ∷ []) [] kept empty_content, kept)
