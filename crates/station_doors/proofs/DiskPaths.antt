-- The disks of a yard by path.
use Rattle.std.proofs.Common.{◌≡◌, ℕ, zero, suc, ◌<◌, length, get_or, List, [], ◌∷◌, ◌++◌, Option, Some, None, map, set, Bool, true, false, refl, ap, sym, ◌∙◌, arith, if◌then◌else◌}
use Rattle.std.specs.List.{position, All}
use Rattle.std.specs.Prelude.{IfSome, IfNone}
use Rattle.std.proofs.lemmas.List.Quantifiers.{position-Some}
use Rattle.disk_doors.specs.MemDisk.{MemDiskValue}
use Rattle.station_doors.specs.Doors.{DiskAt, DiskShown}
use Rattle.station_doors.specs.Disks.{disk_at, with_disk, put_at}
use Rattle.station_doors.specs.Paths.{same_path}
use Rattle.station_doors.specs.MemYard.{shown_of, shows_of, slot_value}
use Rattle.station_doors.specs.declared.slots.Slot.{Slot}

at_place : (path : List ℕ) (xs : List Slot) (i : ℕ) (d : Slot) → i < length xs → same_path (get_or xs i d).path path ≡ true → ((k : ℕ) → k < i → same_path (get_or xs k d).path path ≡ false) → disk_at path (map slot_value xs) ≡ Some (shows_of (get_or xs i d).disk)
at_place path [] i d h e f = absurd (omega arith)
at_place path (x ∷ xs) zero d h e f = ap (λ (b : Bool). if b then Some (shows_of x.disk) else disk_at path (map slot_value xs)) e
at_place path (x ∷ xs) (suc i) d h e f = ap (λ (b : Bool). if b then Some (shows_of x.disk) else disk_at path (map slot_value xs)) (f 0 (omega arith)) ∙ at_place path xs i d (omega arith) e (λ k g. f (suc k) (omega arith))

set_place : (path : List ℕ) (xs : List Slot) (i : ℕ) (d y : Slot) → i < length xs → same_path (get_or xs i d).path path ≡ true → ((k : ℕ) → k < i → same_path (get_or xs k d).path path ≡ false) → y.path ≡ (get_or xs i d).path → map slot_value (set xs i y) ≡ with_disk path (shows_of y.disk) (map slot_value xs)
set_place path [] i d y h e f is = absurd (omega arith)
set_place path (x ∷ xs) zero d y h e f is =
    ap (λ (p : List ℕ). record { path = p; shows = shows_of y.disk } ∷ map slot_value xs) is
    ∙ sym (ap (λ (b : Bool). if b then record { path = x.path; shows = shows_of y.disk } ∷ map slot_value xs else slot_value x ∷ with_disk path (shows_of y.disk) (map slot_value xs)) e)
set_place path (x ∷ xs) (suc i) d y h e f is =
    ap (λ (l : List DiskAt). slot_value x ∷ l) (set_place path xs i d y (omega arith) e (λ k g. f (suc k) (omega arith)) is)
    ∙ sym (ap (λ (b : Bool). if b then record { path = x.path; shows = shows_of y.disk } ∷ map slot_value xs else slot_value x ∷ with_disk path (shows_of y.disk) (map slot_value xs)) (f 0 (omega arith)))

put_place : (path : List ℕ) (xs : List Slot) (i : ℕ) (d : Slot) (p : List ℕ) (v : MemDiskValue) → i < length xs → same_path (get_or xs i d).path path ≡ true → ((k : ℕ) → k < i → same_path (get_or xs k d).path path ≡ false) → p ≡ (get_or xs i d).path
    → map slot_value (set xs i (record { path = p; disk = Some v })) ≡ put_at path (shown_of v) (map slot_value xs)
put_place path [] i d p v h e f is = absurd (omega arith)
put_place path (x ∷ xs) zero d p v h e f is =
    ap (λ (p : List ℕ). record { path = p; shows = Some (shown_of v) } ∷ map slot_value xs) is
    ∙ sym (ap (λ (b : Bool). if b then record { path = x.path; shows = Some (shown_of v) } ∷ map slot_value xs else slot_value x ∷ put_at path (shown_of v) (map slot_value xs)) e)
put_place path (x ∷ xs) (suc i) d p v h e f is =
    ap (λ (l : List DiskAt). slot_value x ∷ l) (put_place path xs i d p v (omega arith) e (λ k g. f (suc k) (omega arith)) is)
    ∙ sym (ap (λ (b : Bool). if b then record { path = x.path; shows = Some (shown_of v) } ∷ map slot_value xs else slot_value x ∷ put_at path (shown_of v) (map slot_value xs)) (f 0 (omega arith)))

-- the first slot of a path says what stands there
pub stands_at : (path : List ℕ) (xs : List Slot) (i : ℕ) (d : Slot) → Some i ≡ position (λ (s : Slot). same_path s.path path) xs → disk_at path (map slot_value xs) ≡ Some (shows_of (get_or xs i d).disk)
stands_at path xs i d e = let h = position-Some (λ (s : Slot). same_path s.path path) xs i d (sym e) in at_place path xs i d h.0 h.1 h.2

-- and changes alone
pub changed_at : (path : List ℕ) (xs : List Slot) (i : ℕ) (d y : Slot) → Some i ≡ position (λ (s : Slot). same_path s.path path) xs → y.path ≡ (get_or xs i d).path → map slot_value (set xs i y) ≡ with_disk path (shows_of y.disk) (map slot_value xs)
changed_at path xs i d y e is = let h = position-Some (λ (s : Slot). same_path s.path path) xs i d (sym e) in set_place path xs i d y h.0 h.1 h.2 is

pub replaced_at : (path : List ℕ) (xs : List Slot) (i : ℕ) (d : Slot) (p : List ℕ) (v : MemDiskValue) → Some i ≡ position (λ (s : Slot). same_path s.path path) xs → p ≡ (get_or xs i d).path → map slot_value (set xs i (record { path = p; disk = Some v })) ≡ put_at path (shown_of v) (map slot_value xs)
replaced_at path xs i d p v e is = let h = position-Some (λ (s : Slot). same_path s.path path) xs i d (sym e) in put_place path xs i d p v h.0 h.1 h.2 is

-- where there is none
pub stands_nowhere : (path : List ℕ) (xs : List Slot) → All (λ (s : Slot). same_path s.path path ≡ false) xs → disk_at path (map slot_value xs) ≡ None
stands_nowhere path [] h = refl
stands_nowhere path (x ∷ xs) h = ap (λ (b : Bool). if b then Some (shows_of x.disk) else disk_at path (map slot_value xs)) (h 0 x (omega arith)) ∙ stands_nowhere path xs (λ i d k. h (suc i) d (omega arith))

pub put_behind : (path : List ℕ) (xs : List Slot) (v : MemDiskValue) → All (λ (s : Slot). same_path s.path path ≡ false) xs → map slot_value (xs ++ record { path = path; disk = Some v } ∷ []) ≡ put_at path (shown_of v) (map slot_value xs)
put_behind path [] v h = refl
put_behind path (x ∷ xs) v h =
    ap (λ (l : List DiskAt). slot_value x ∷ l) (put_behind path xs v (λ i d k. h (suc i) d (omega arith)))
    ∙ sym (ap (λ (b : Bool). if b then record { path = x.path; shows = Some (shown_of v) } ∷ map slot_value xs else slot_value x ∷ put_at path (shown_of v) (map slot_value xs)) (h 0 x (omega arith)))

-- what stands under a path, once it was changed
put_by : (path : List ℕ) (s y : Option DiskShown) (d : DiskAt) (ds : List DiskAt) (b : Bool) → same_path d.path path ≡ b → (disk_at path ds ≡ Some y → disk_at path (with_disk path s ds) ≡ Some s) → (if b then Some d.shows else disk_at path ds) ≡ Some y
    → disk_at path (if b then record { path = d.path; shows = s } ∷ ds else d ∷ with_disk path s ds) ≡ Some s
put_by path s y d ds true is on e = ap (λ (c : Bool). if c then Some s else disk_at path ds) is
put_by path s y d ds false is on e = ap (λ (c : Bool). if c then Some d.shows else disk_at path (with_disk path s ds)) is ∙ on e

pub disk_put : (path : List ℕ) (s y : Option DiskShown) (ds : List DiskAt) → disk_at path ds ≡ Some y → disk_at path (with_disk path s ds) ≡ Some s
disk_put path s y [] e = absurd (cc e)
disk_put path s y (d ∷ ds) e = put_by path s y d ds (same_path d.path path) refl (disk_put path s y ds) e

twice_by : (path : List ℕ) (s t : Option DiskShown) (d : DiskAt) (ds : List DiskAt) (b : Bool) → same_path d.path path ≡ b → with_disk path s (with_disk path t ds) ≡ with_disk path s ds
    → with_disk path s (if b then record { path = d.path; shows = t } ∷ ds else d ∷ with_disk path t ds) ≡ (if b then record { path = d.path; shows = s } ∷ ds else d ∷ with_disk path s ds)
twice_by path s t d ds true is on = ap (λ (c : Bool). if c then record { path = d.path; shows = s } ∷ ds else record { path = d.path; shows = t } ∷ with_disk path s ds) is
twice_by path s t d ds false is on = ap (λ (c : Bool). if c then record { path = d.path; shows = s } ∷ with_disk path t ds else d ∷ with_disk path s (with_disk path t ds)) is ∙ ap (λ (l : List DiskAt). d ∷ l) on

-- of two changes the later one counts
pub with_twice : (path : List ℕ) (s t : Option DiskShown) (ds : List DiskAt) → with_disk path s (with_disk path t ds) ≡ with_disk path s ds
with_twice path s t [] = refl
with_twice path s t (d ∷ ds) = twice_by path s t d ds (same_path d.path path) refl (with_twice path s t ds)

-- what was taken of a slot is what stood there
pub taken_stood : (o : Option (Option DiskShown)) (was result : Option MemDiskValue) → o ≡ Some (shows_of was) → result ≡ was → IfSome result (λ d. o ≡ Some (Some (shown_of d)))
taken_stood o was None e is = tt
taken_stood o was (Some d) e is = e ∙ ap (λ (w : Option MemDiskValue). Some (shows_of w)) (sym is)

pub taken_none : (o : Option (Option DiskShown)) (was result : Option MemDiskValue) → o ≡ Some (shows_of was) → result ≡ was → IfNone result ((shown : DiskShown) → o ≡ Some (Some shown) → ⊥)
taken_none o was None e is = λ shown g.
    let f : ◌≡◌ {A = Option (Option DiskShown)} (Some None) (Some (Some shown)) = ap (λ (w : Option MemDiskValue). Some (shows_of w)) is ∙ sym e ∙ g in
    absurd (cc f)
taken_none o was (Some d) e is = tt

pub where_some : {P : Type 0} (result : Option MemDiskValue) → P → IfSome result (λ d. P)
where_some None p = tt
where_some (Some d) p = p

-- a slot with a disk isn't one that is handed out
pub not_lent : (was : Option MemDiskValue) → (was ≡ None → ⊥) → ◌≡◌ {A = Option (Option DiskShown)} (Some (shows_of was)) (Some None) → ⊥
not_lent None some e = some refl
not_lent (Some d) some e = absurd (cc e)

pub nothing_there : {T : Type 0} (o : Option (Option DiskShown)) (s : Option DiskShown) → o ≡ None → o ≡ Some s → T
nothing_there o s none e = let f : ◌≡◌ {A = Option (Option DiskShown)} None (Some s) = sym none ∙ e in absurd (cc f)
