-- How far a walk by pieces has come, call by call.
use Rattle.std.proofs.Math.Dec.{eqb-suc-zero}
use Rattle.std.proofs.Common.{if◌then◌else◌, ◌≡◌, ℕ, zero, suc, ◌+◌, true, false, Bool, List, [], ◌∷◌, ◌++◌, length, refl, sym, ap, ◌∙◌, subst, append_assoc, arith, eqb, length-append}
use Rattle.std.proofs.lemmas.List.{get_or_append_left, nil_from_length}
use Rattle.bmp_specs.specs.declared.causes.Why.{Why}
use Rattle.bmp_specs.specs.declared.causes.Why.TheVariants.{Version, Length, Body}
use Rattle.bmp_specs.specs.Frame.{IsFrame, NeedsMore, BreaksVersion, BreaksLength, stated, IsInRange}
use Rattle.bmp_specs.specs.Life.{EndsAt}
use Rattle.bmp_specs.specs.Meaning.{Meaning, WalksBy}
use Rattle.bmp_specs.specs.Values.{EntryValue}
use Rattle.bmp_specs.specs.Walk.{Verdict, terminated, broken, Stops, termination}
use Rattle.bmp_specs.proofs.FrameCode.{stated-append}
use Rattle.bmp_specs.proofs.WalkRead.{HasWalked-more, HasWalked-stops, HasWalked-terminates}
use Rattle.bmp_frames.specs.Cutter.{IsAtFront}
use Rattle.bmp_frames.specs.declared.cutter.Next.TheVariants.{Bad}
use Rattle.bmp_message.specs.StreamWalk.{WalkValue, HasRead, HasCutNext, Stands, HasReached, verdict_with, rest_of, next_stage}
use Rattle.bmp_message.specs.declared.walk.Stage.{Stage}
use Rattle.bmp_message.specs.declared.walk.Stage.TheVariants.{Between, Within, Terminated, Broken}

-- what is broken stays so, whatever comes after it
breaks_version-append : (bytes after : List ℕ) → BreaksVersion bytes → BreaksVersion (bytes ++ after)
breaks_version-append bytes after b = record { header = omega (arith, b.header, length-append bytes after); version = λ e. b.version (sym (get_or_append_left bytes after 0 0 (omega (arith, b.header))) ∙ e) }

breaks_length-append : (bytes after : List ℕ) → BreaksLength bytes → BreaksLength (bytes ++ after)
breaks_length-append bytes after b =
    let says : stated (bytes ++ after) ≡ stated bytes = stated-append bytes after (omega (arith, b.right.header)) in
    record {
      right = record { header = omega (arith, b.right.header, length-append bytes after); version = get_or_append_left bytes after 0 0 (omega (arith, b.right.header)) ∙ b.right.version };
      range = λ r. b.range (subst IsInRange says r);
    }

stops_bad : (meaning : Meaning) (state : meaning.State) (bytes after : List ℕ) (why : Why) → IsAtFront bytes (Bad why) → Stops meaning.Means state (bytes ++ after) (broken why)
stops_bad meaning state bytes after Version h = breaks_version-append bytes after h
stops_bad meaning state bytes after Length h = breaks_length-append bytes after h
stops_bad meaning state bytes after Body h = absurd h

read_fed : (meaning : Meaning) (fed piece rest : List ℕ) (given : List EntryValue) (state : meaning.State) (offset : ℕ) → HasRead meaning fed given state rest offset → HasRead meaning (fed ++ piece) given state (rest ++ piece) offset
read_fed meaning fed piece rest given state offset r = record { front = r.front; split = ap (λ (l : List ℕ). l ++ piece) r.split ∙ append_assoc r.front rest piece; place = r.place; walked = r.walked }

-- the walk stops at the rest
stops_at : (meaning : Meaning) (fed : List ℕ) (given : List EntryValue) (state : meaning.State) (rest : List ℕ) (offset : ℕ) (v : Verdict) → HasRead meaning fed given state rest offset → Stops meaning.Means state rest v → WalksBy meaning fed given offset v
stops_at meaning fed given state rest offset v read stops = rw (read.split, read.place) (HasWalked-stops meaning.Means meaning.start state read.front rest given v read.walked stops)

-- a Termination stands at the rest
terminates_at : (meaning : Meaning) (fed : List ℕ) (given : List EntryValue) (state next : meaning.State) (frame rest body : List ℕ) (offset kind : ℕ) (e : EntryValue) → HasRead meaning fed given state (frame ++ rest) offset → IsFrame frame kind body → meaning.Means state kind body e next → eqb kind termination ≡ true
    → WalksBy meaning fed (given ++ e ∷ []) (offset + length frame) terminated
terminates_at meaning fed given state next frame rest body offset kind e read is means ends = rw (read.split, read.place) (HasWalked-terminates meaning.Means meaning.start state next read.front frame rest body given kind e read.walked is means ends)

module _ (R : Type 0) (meaning : Meaning) (state : R → meaning.State) (old : WalkValue R) (fed : List ℕ) (given : List EntryValue) (r : HasReached meaning state fed given old) where
  -- what is pending stands behind what was read
  read_so_far : old.stage ≡ Between → HasRead meaning fed given (state old.reading) old.cutter.pending old.offset
  read_so_far at = subst (λ (s : Stage). Stands meaning state fed given old s) at r.stands

  -- no further message is whole
  pub walks_more : old.stage ≡ Between → old.offset ≡ old.cutter.offset → NeedsMore old.cutter.pending → WalksBy meaning fed given old.offset (verdict_with (rest_of old))
  walks_more at place needs =
      let rest : length old.cutter.pending ≡ rest_of old = omega (arith, place) in
      stops_at meaning fed given (state old.reading) old.cutter.pending old.offset (verdict_with (rest_of old)) (read_so_far at) (stops (rest_of old) rest)
    where
      stops : (n : ℕ) → length old.cutter.pending ≡ n → Stops meaning.Means (state old.reading) old.cutter.pending (verdict_with n)
      stops zero e = nil_from_length old.cutter.pending e
      stops (suc n) e = rw (eqb-suc-zero n) (omega (arith, e), needs)

  -- what stands there is no message
  pub ends_bad : (why : Why) → old.stage ≡ Between → IsAtFront old.cutter.pending (Bad why) → EndsAt meaning fed given old.offset (broken why)
  ends_bad why at bad = λ after.
      let read = read_fed meaning fed after old.cutter.pending given (state old.reading) old.offset (read_so_far at) in
      stops_at meaning (fed ++ after) given (state old.reading) (old.cutter.pending ++ after) old.offset (broken why) read (stops_bad meaning (state old.reading) old.cutter.pending after why bad)

  -- the message that was cut
  held : (kind : ℕ) → old.stage ≡ Within kind → HasCutNext meaning state fed given old kind
  held kind at = subst (λ (s : Stage). Stands meaning state fed given old s) at r.stands

  -- the same, whatever comes after it
  held_then : (kind : ℕ) (at : old.stage ≡ Within kind) (after : List ℕ) → HasRead meaning (fed ++ after) given (state old.reading) ((held kind at).frame ++ (old.cutter.pending ++ after)) old.offset
  held_then kind at after =
      let cut = held kind at in
      subst (λ (l : List ℕ). HasRead meaning (fed ++ after) given (state old.reading) l old.offset) (append_assoc cut.frame old.cutter.pending after) (read_fed meaning fed after (cut.frame ++ old.cutter.pending) given (state old.reading) old.offset cut.read)

  -- it means nothing
  pub ends_body : (kind : ℕ) → old.stage ≡ Within kind → ((e : EntryValue) (next : meaning.State) → meaning.Means (state old.reading) kind old.cutter.body e next → ⊥) → EndsAt meaning fed given old.offset (broken Body)
  ends_body kind at nothing = λ after.
      let cut = held kind at in
      stops_at meaning (fed ++ after) given (state old.reading) (cut.frame ++ (old.cutter.pending ++ after)) old.offset (broken Body) (held_then kind at after)
      (record { frame = cut.frame; rest = old.cutter.pending ++ after; kind = kind; body = old.cutter.body; split = refl; is_frame = cut.is_frame; nothing = nothing })

  place_of : (kind : ℕ) (at : old.stage ≡ Within kind) → old.offset + length (held kind at).frame ≡ old.cutter.offset
  place_of kind at =
      let cut = held kind at in
      omega (arith, r.count, cut.read.place, ap length cut.read.split, length-append cut.read.front (cut.frame ++ old.cutter.pending), length-append cut.frame old.cutter.pending)

  -- its entry was given
  pub reached_entry : (kind : ℕ) (reading : R) (offset : ℕ) (at_last : Stage) (e : EntryValue) → old.stage ≡ Within kind → meaning.Means (state old.reading) kind old.cutter.body e (state reading)
      → offset ≡ old.cutter.offset → at_last ≡ next_stage kind → HasReached meaning state fed (given ++ e ∷ []) (record { reading = reading; cutter = old.cutter; offset = offset; stage = at_last })
  reached_entry kind reading offset at_last e at means place behind = rw (place, behind) (at_kind (eqb kind termination) refl)
    where
      after : Stage → WalkValue R
      after s = record { reading = reading; cutter = old.cutter; offset = old.cutter.offset; stage = s }

      ends : eqb kind termination ≡ true → EndsAt meaning fed (given ++ e ∷ []) old.cutter.offset terminated
      ends on = λ rest.
          let cut = held kind at in
          subst (λ (n : ℕ). WalksBy meaning (fed ++ rest) (given ++ e ∷ []) n terminated) (place_of kind at)
          (terminates_at meaning (fed ++ rest) given (state old.reading) (state reading) cut.frame (old.cutter.pending ++ rest) old.cutter.body old.offset kind e (held_then kind at rest) cut.is_frame means on)

      at_kind : (t : Bool) → eqb kind termination ≡ t → HasReached meaning state fed (given ++ e ∷ []) (after (next_stage kind))
      at_kind false on =
          let cut = held kind at in
          let read : HasRead meaning fed (given ++ e ∷ []) (state reading) old.cutter.pending old.cutter.offset = record {
            front = cut.read.front ++ cut.frame;
            split = cut.read.split ∙ sym (append_assoc cut.read.front cut.frame old.cutter.pending);
            place = omega (arith, place_of kind at, cut.read.place, length-append cut.read.front cut.frame);
            walked = HasWalked-more meaning.Means meaning.start (state old.reading) (state reading) cut.read.front cut.frame old.cutter.body given kind e cut.read.walked cut.is_frame means on;
          } in
          subst (λ (t : Bool). HasReached meaning state fed (given ++ e ∷ []) (after (if t then Terminated else Between))) (sym on) (record { count = r.count; stands = read })
      at_kind true on = subst (λ (t : Bool). HasReached meaning state fed (given ++ e ∷ []) (after (if t then Terminated else Between))) (sym on) (record { count = r.count; stands = ends on })

  -- nothing moved, and the walk ends here
  pub reached_end : (why : Why) (reading : R) → EndsAt meaning fed given old.offset (broken why) → HasReached meaning state fed given (record old { reading = reading; stage = Broken why })
  reached_end why reading ends = record { count = r.count; stands = ends }
