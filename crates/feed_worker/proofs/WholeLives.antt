-- The life of a connection of which no read failed follows from all its bytes.
use Rattle.std.proofs.Common.{◌≡◌, ℕ, ◌+◌, ◌-◌, ◌≤◌, List, [], ◌∷◌, ◌++◌, length, take, Option, refl, sym, ap, ◌∙◌, subst, append-nil, arith, length-append, length-take}
use Rattle.std.proofs.Math.Seq.{take-append-add, take-append_seam}
use Rattle.std.proofs.lemmas.List.{take_all}
use Rattle.bmp_specs.specs.declared.causes.Cause.{Cause}
use Rattle.bmp_specs.specs.declared.causes.Cause.TheVariants.{Ended, Terminated, CutShort, Broken, ReadFault, Full}
use Rattle.bmp_specs.specs.Life.{LastRead, gave, gave_none, failed, most_taken, IsCause, IsLife, IsUndecided}
use Rattle.bmp_specs.specs.Meaning.{Meaning, WalksBy}
use Rattle.bmp_specs.specs.Values.{EntryValue, OpeningValue, opened, closed}
use Rattle.bmp_specs.specs.Walk.{Verdict, whole, more, terminated, broken}
use Rattle.bmp_specs.proofs.LifeOne.{cause_one, cause_of_termination, cause_of_break, cause_of_fullness}
use Rattle.station_doors.proofs.ReadLaws.{most_of}
use Rattle.feed_worker.specs.Planned.{IsWholeLife}
use Rattle.feed_worker.proofs.Longer.{IsDecided, walks_longer}

must_be_full : (taken : ℕ) (v : Verdict) (offset : ℕ) (cause : Cause) → IsUndecided v → IsCause taken gave v offset cause → taken ≡ most_taken
must_be_full taken v offset Full u c = c.fits
must_be_full taken v offset Terminated u c = absurd (subst IsUndecided c.fits u)
must_be_full taken v offset (Broken at why) u c = absurd (subst IsUndecided c.fits.0 u)
must_be_full taken v offset Ended u c = let e = c.fits.0 in absurd (cc e)
must_be_full taken v offset (CutShort at) u c = let e = c.fits.0 in absurd (cc e)
must_be_full taken v offset (ReadFault at) u c = let e = c.fits.0 in absurd (cc e)

-- its last read gave bytes
module _ (meaning : Meaning) (b bytes rest : List ℕ) (messages : List EntryValue) (offset : ℕ) (life : List EntryValue) (came : OpeningValue) (until : Option ℕ) (split : b ≡ bytes ++ rest) (within : length bytes ≤ most_taken) where
  -- which decided its walk
  decided : (v : Verdict) (cause first : Cause) → IsDecided v → WalksBy meaning bytes messages offset v → first ≡ cause → ((n : ℕ) → IsCause n gave_none v offset first) → life ≡ opened came ∷ (messages ++ closed (record { cause = cause; until = until }) ∷ []) → IsWholeLife meaning b life
  decided v cause first d walk same because is =
      let tail = take (most_taken - length bytes) rest in
      let all : take most_taken b ≡ bytes ++ tail = ap (λ (l : List ℕ). take most_taken l) split ∙ most_of bytes rest within in
      let long : length (bytes ++ tail) ≤ most_taken = omega (arith, within, length-append bytes tail, length-take (most_taken - length bytes) rest) in
      subst (λ (l : List ℕ). IsLife meaning l gave_none life) (sym all) (record {
        messages = messages;
        offset = offset;
        verdict = v;
        cause = cause;
        came = came;
        until = until;
        within = long;
        walk = walks_longer meaning.Means meaning.start bytes tail messages offset v walk d;
        because = subst (λ (c : Cause). IsCause (length (bytes ++ tail)) gave_none v offset c) same (because (length (bytes ++ tail)));
        is = is;
      })

  -- or the limit was reached
  full : (v : Verdict) (cause : Cause) → IsUndecided v → WalksBy meaning bytes messages offset v → IsCause (length bytes) gave v offset cause → life ≡ opened came ∷ (messages ++ closed (record { cause = cause; until = until }) ∷ []) → IsWholeLife meaning b life
  full v cause u walk because is =
      let most : length bytes ≡ most_taken = must_be_full (length bytes) v offset cause u because in
      let same : Full ≡ cause = cause_one (length bytes) gave v offset Full cause (cause_of_fullness (length bytes) gave v offset u most) because in
      let all : take most_taken b ≡ bytes = ap (λ (l : List ℕ). take most_taken l) split ∙ ap (λ (n : ℕ). take n (bytes ++ rest)) (sym most) ∙ take-append_seam bytes rest in
      subst (λ (l : List ℕ). IsLife meaning l gave_none life) (sym all) (record {
        messages = messages;
        offset = offset;
        verdict = v;
        cause = cause;
        came = came;
        until = until;
        within = within;
        walk = walk;
        because = subst (λ (c : Cause). IsCause (length bytes) gave_none v offset c) same (cause_of_fullness (length bytes) gave_none v offset u most);
        is = is;
      })

  gave_all : (v : Verdict) (cause : Cause) → WalksBy meaning bytes messages offset v → IsCause (length bytes) gave v offset cause → life ≡ opened came ∷ (messages ++ closed (record { cause = cause; until = until }) ∷ []) → IsWholeLife meaning b life
  gave_all whole cause walk because is = full whole cause tt walk because is
  gave_all more cause walk because is = full more cause tt walk because is
  gave_all terminated cause walk because is =
      let same : Terminated ≡ cause = cause_one (length bytes) gave terminated offset Terminated cause (cause_of_termination (length bytes) gave offset) because in
      decided terminated cause Terminated tt walk same (λ n. cause_of_termination n gave_none offset) is
  gave_all (broken why) cause walk because is =
      let same : Broken offset why ≡ cause = cause_one (length bytes) gave (broken why) offset (Broken offset why) cause (cause_of_break (length bytes) gave why offset) because in
      decided (broken why) cause (Broken offset why) tt walk same (λ n. cause_of_break n gave_none why offset) is

pub whole_life : (meaning : Meaning) (b bytes rest : List ℕ) (last : LastRead) (life : List EntryValue) → b ≡ bytes ++ rest → (last ≡ gave_none → rest ≡ []) → (last ≡ failed → ⊥) → IsLife meaning bytes last life → IsWholeLife meaning b life
whole_life meaning b bytes rest gave life split ended calm l = gave_all meaning b bytes rest l.messages l.offset life l.came l.until split l.within l.verdict l.cause l.walk l.because l.is
whole_life meaning b bytes rest gave_none life split ended calm l =
    let all : b ≡ bytes = split ∙ ap (λ (x : List ℕ). bytes ++ x) (ended refl) ∙ append-nil bytes in
    let same : take most_taken b ≡ bytes = ap (λ (x : List ℕ). take most_taken x) all ∙ take_all most_taken bytes l.within in
    subst (λ (x : List ℕ). IsLife meaning x gave_none life) (sym same) l
whole_life meaning b bytes rest failed life split ended calm l = absurd (calm refl)
