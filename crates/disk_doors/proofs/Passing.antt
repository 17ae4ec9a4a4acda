-- How what each image has goes on from call to call.
use Rattle.std.proofs.Common.{◌≡◌, List, [], ◌∷◌, ◌++◌, ℕ, ◌≤◌, length, refl, sym, ◌∙◌, ap, subst, append_assoc, arith, Result}
use Rattle.wire_io.specs.declared.sink.Failed.{Failed}
use Rattle.disk_doors.specs.Images.{Moment, IsImage, after_sync}
use Rattle.disk_doors.specs.Disk.{DiskValue, moments, asked, goes_to, Sizes, WritesAt, Syncs, AllImages, Passes, Rests, Lasts, IsSound, IsPlanned}

pub lasts_none : (a : DiskValue) → Lasts a a
lasts_none a = record { fails = refl; room = refl }

pub lasts_then : (a b c : DiskValue) → Lasts a b → Lasts b c → Lasts a c
lasts_then a b c p q = record { fails = q.fails ∙ p.fails; room = q.room ∙ p.room }

pub sound_later : (a b : DiskValue) (size : ℕ) → Lasts a b → IsSound a size → IsSound b size
sound_later a b size l s = record { none = l.fails ∙ s.none; fits = subst (λ (n : ℕ). size ≤ n) (sym l.room) s.fits }

pub sound_smaller : (a : DiskValue) (m n : ℕ) → m ≤ n → IsSound a n → IsSound a m
sound_smaller a m n l s = record { none = s.none; fits = omega (arith, l, s.fits) }

pub not_planned : (a : DiskValue) (size : ℕ) → IsSound a size → IsPlanned a → ⊥
not_planned a size s (k, l, is) = omega (arith, l, ap length s.none)

pub goes_lasts : (a b : DiskValue) (m : Moment) → b ≡ goes_to m a → Lasts a b
goes_lasts a b m e = record { fails = ap (λ (d : DiskValue). d.fails) e; room = ap (λ (d : DiskValue). d.room) e }

pub passes_none : (P : List ℕ → Type 0) (d : DiskValue) → ((c : List ℕ) → IsImage d.now c → P c) → Passes P d d
passes_none P d start = record { made = []; since = refl; start = start; each = tt; lasts = lasts_none d }

pub passes_more : (P : List ℕ → Type 0) (a b c : DiskValue) (m : Moment) → Passes P a b → c ≡ goes_to m b → ((x : List ℕ) → IsImage m x → P x) → Passes P a c
passes_more P a b c m p e here = record { made = m ∷ p.made; since = ap moments e ∙ ap (λ (l : List Moment). m ∷ l) p.since; start = p.start; each = (here, p.each); lasts = lasts_then a b c p.lasts (goes_lasts b c m e) }

pub passes_rests : (P : List ℕ → Type 0) (a b : DiskValue) → Rests a b → ((c : List ℕ) → IsImage a.now c → P c) → Passes P a b
passes_rests P a b r start = record { made = []; since = λ i. r.now i ∷ r.past i; start = start; each = tt; lasts = r.lasts }

all_append : (P : List ℕ → Type 0) (ms ns : List Moment) → AllImages P ms → AllImages P ns → AllImages P (ms ++ ns)
all_append P [] ns p q = q
all_append P (m ∷ ms) ns p q = (p.0, all_append P ms ns p.1 q)

all_weaker : (P Q : List ℕ → Type 0) → ((c : List ℕ) → P c → Q c) → (ms : List Moment) → AllImages P ms → AllImages Q ms
all_weaker P Q w [] p = tt
all_weaker P Q w (m ∷ ms) p = ((λ c i. w c (p.0 c i)), all_weaker P Q w ms p.1)

pub passes_then : (P : List ℕ → Type 0) (a b c : DiskValue) → Passes P a b → Passes P b c → Passes P a c
passes_then P a b c p q = record {
  made = q.made ++ p.made;
  since = q.since ∙ ap (λ (l : List Moment). q.made ++ l) p.since ∙ sym (append_assoc q.made p.made (moments a));
  start = p.start;
  each = all_append P q.made p.made q.each p.each;
  lasts = lasts_then a b c p.lasts q.lasts;
}

pub passes_weaker : (P Q : List ℕ → Type 0) (a b : DiskValue) → ((c : List ℕ) → P c → Q c) → Passes P a b → Passes Q a b
passes_weaker P Q a b w p = record { made = p.made; since = p.since; start = λ c i. w c (p.start c i); each = all_weaker P Q w p.made p.each; lasts = p.lasts }

pub asked_rests : (a b : DiskValue) → b ≡ asked a → Rests a b
asked_rests a b e = record { now = ap (λ (d : DiskValue). d.now) e; past = ap (λ (d : DiskValue). d.past) e; lasts = record { fails = ap (λ (d : DiskValue). d.fails) e; room = ap (λ (d : DiskValue). d.room) e } }

-- each call leaves the plan and the room
pub sizes_lasts : (a b : DiskValue) (r : Result ℕ Failed) → Sizes a b r → Lasts a b
sizes_lasts a b r s = (asked_rests a b s.next).lasts

pub writes_lasts : (a b : DiskValue) (place : ℕ) (piece : List ℕ) (r : Result (Unit {0}) Failed) → WritesAt a b place piece r → Lasts a b
writes_lasts a b place piece r w = goes_lasts a b w.made w.next

pub syncs_lasts : (a b : DiskValue) (r : Result (Unit {0}) Failed) → Syncs a b r → Lasts a b
syncs_lasts a b r s = goes_lasts a b (after_sync a.now r) s.next

pub rests_then : (a b c : DiskValue) → Rests a b → Rests b c → Rests a c
rests_then a b c p q = record { now = q.now ∙ p.now; past = q.past ∙ p.past; lasts = lasts_then a b c p.lasts q.lasts }

pub rests_none : (a : DiskValue) → Rests a a
rests_none a = record { now = refl; past = refl; lasts = lasts_none a }
