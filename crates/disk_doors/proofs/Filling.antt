-- A row of reads that fills a buffer.
use Rattle.std.proofs.Common.{◌≡◌, inl, inr, ⊎_elim, ℕ, ◌+◌, ◌-◌, ◌^◌, ◌<◌, ◌≤◌, min, List, ◌++◌, length, take, drop, refl, sym, ◌∙◌, ap, subst, arith, length-append, length-drop, length-take-le, take-add, drop_at, drop-drop, Result, Ok, Err}
use Rattle.std.proofs.lemmas.List.{take-append-le}
use Rattle.std.proofs.lemmas.Bool.{cases_lt}
use Rattle.std.specs.Result.{is_err}
use mathlib.Core.Bool.{true, false≢true}
use borrow.Rule.Slice.PartMut.{put_mid, post_of, take_put}
use Rattle.disk_doors.specs.Disk.{DiskValue, asked, IsPlanned, ReadsAt}
use Rattle.disk_doors.specs.RawFile.{answer_of, GivesPart}

-- so many bytes of the buffer are the file's, from this place on, and the file shows what it did at first
pub record FillsTo (first now : DiskValue) (place done : ℕ) (buf : List ℕ) : Type 0 where
  pub same : now ≡ first
  pub within : done ≤ length first.now.file - place
  pub bytes : take done buf ≡ take done (drop place first.now.file)
  pub fits : 0 < done → length first.now.file < 2 ^ 64

pub fills_none : (d : DiskValue) (place : ℕ) (buf : List ℕ) → FillsTo d d place 0 buf
fills_none d place buf = record { same = refl; within = omega arith; bytes = refl; fits = λ l. absurd (omega (arith, l)) }

-- where the next read begins
next_place : (place done at size : ℕ) → place < 2 ^ 64 → done ≤ size - place → (0 < done → size < 2 ^ 64) → at ≡ min (place + done) (2 ^ 64 - 1) → at ≡ place + done
next_place place done at size low within fits e = ⊎_elim (λ (some : 0 < done). omega (arith, low, within, fits some, e)) (λ (none : done ≤ 0). omega (arith, low, none, e)) (cases_lt 0 done)

length-put : (done : ℕ) (buf part : List ℕ) → done ≤ length buf → length part ≡ length buf - done → length (put_mid done (length buf - done) buf part) ≡ length buf
length-put done buf part low size =
    let k = length buf - done in
    omega (arith, low, size, length-append (take done buf) (part ++ post_of done k buf), length-append part (post_of done k buf), length-take-le done buf low, length-drop k (drop done buf), length-drop done buf)

take-put : (done k n : ℕ) (buf part : List ℕ) → done ≤ length buf → n ≤ length part → take (done + n) (put_mid done k buf part) ≡ take done buf ++ take n part
take-put done k n buf part low few =
    take-add done n (put_mid done k buf part)
    ∙ (λ i. take_put done k buf part low i ++ take n (drop_at (take done buf) (part ++ post_of done k buf) done (length-take-le done buf low) i))
    ∙ ap (λ (l : List ℕ). take done buf ++ l) (take-append-le n part (post_of done k buf) few)

module _ (first now : DiskValue) (place done at : ℕ) (buf : List ℕ) (f : FillsTo first now place done buf) (low : place < 2 ^ 64) (room : done ≤ length buf) (at_is : at ≡ min (place + done) (2 ^ 64 - 1)) where
  abbrev file : List ℕ
  file = first.now.file

  abbrev k : ℕ
  k = length buf - done

  here : at ≡ place + done
  here = next_place place done at (length file) low f.within f.fits at_is

  module _ (next : DiskValue) (n : ℕ) (part : List ℕ) (size : length part ≡ length buf - done) (few : n ≤ length part) (given : GivesPart now next at n part) where
    g : GivesPart first next (place + done) n part
    g = subst (λ (d : DiskValue). GivesPart d next (place + done) n part) f.same (subst (λ (m : ℕ). GivesPart now next m n part) here given)

    joined : take (done + n) (put_mid done k buf part) ≡ take (done + n) (drop place file)
    joined =
        take-put done k n buf part room few
        ∙ (λ i. f.bytes i ++ g.bytes i)
        ∙ ap (λ (l : List ℕ). take done (drop place file) ++ take n l) (sym (drop-drop done place file))
        ∙ sym (take-add done n (drop place file))

    inside : done + n ≤ length file - place
    inside = omega (arith, f.within, g.within)

    same_size : length (put_mid done k buf part) ≡ length buf
    same_size = length-put done buf part room size

    pub fills_more : (n ≡ 0 → ⊥) → (done + n ≡ length (put_mid done k buf part) → ⊥) → FillsTo first next place (done + n) (put_mid done k buf part)
    fills_more some left = record {
      same = g.more (⊎_elim some (λ (e : n ≡ length part). left (omega (arith, e, size, room, same_size))));
      within = inside;
      bytes = joined;
      fits = λ l. g.fits;
    }

    pub fills_all : done + n ≡ length (put_mid done k buf part) → ReadsAt first next place (Ok (done + n)) (put_mid done k buf part)
    fills_all full =
        let all : n ≡ length part = omega (arith, full, size, room, same_size) in
        record {
          next = (g.last (inr all)).0;
          count = omega (arith, inside, full);
          bytes = joined;
          planned = (g.last (inr all)).1;
        }

    pub fills_end : n ≡ 0 → ReadsAt first next place (Ok done) (put_mid done k buf part)
    fills_end none = record {
      next = (g.last (inl none)).0;
      count = ⊎_elim (λ (e : length file ≤ place + done). omega (arith, e, f.within, room, same_size)) (λ (e : length part ≡ 0). omega (arith, e, f.within, room, size, same_size)) (g.none none);
      bytes = take_put done k buf part room ∙ f.bytes;
      planned = (g.last (inl none)).1;
    }

pub fills_failed : {E : Type 0} (first now next : DiskValue) (place done : ℕ) (buf whole : List ℕ) (r : Result ℕ E) → is_err r ≡ true → FillsTo first now place done buf → (next ≡ asked now) × IsPlanned now → ReadsAt first next place (answer_of r) whole
fills_failed first now next place done buf whole (Ok n) h f g = absurd (false≢true h)
fills_failed first now next place done buf whole (Err x) h f g = record { next = g.0 ∙ ap asked f.same; count = tt; bytes = tt; planned = subst IsPlanned f.same g.1 }
