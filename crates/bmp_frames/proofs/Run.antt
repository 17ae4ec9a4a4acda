-- What a run of a cutter's calls gives, call by call.
use Rattle.std.proofs.Common.{◌≡◌, ℕ, ◌≤◌, List, [], ◌∷◌, ◌++◌, length, take, drop, slice_index, refl, sym, ap, ◌∙◌, arith, inl, inr, append_assoc, length-append, length-take, take-append-drop}
use Rattle.std.proofs.lemmas.List.{drop_at, get_or_append_left}
use Rattle.bmp_specs.specs.declared.causes.Why.TheVariants.{Version, Length, Body}
use Rattle.bmp_specs.specs.Frame.{HasHeader, IsInRange, BreaksVersion, BreaksLength, stated}
use Rattle.bmp_specs.proofs.FrameCode.{stated-append}
use Rattle.bmp_specs.proofs.PartsJoined.{parts_snoc}
use Rattle.bmp_frames.specs.Cutter.{CutterValue, MessageValue, IsMessage, IsAtFront, Gives, HasCut, GoesOn, StaysBad, Moves, last_body}
use Rattle.bmp_frames.specs.declared.cutter.Next.{Next}
use Rattle.bmp_frames.specs.declared.cutter.Next.TheVariants.{Frame, More, Bad}

last_body-snoc : (body : List ℕ) (given : List MessageValue) (m : MessageValue) → last_body body (given ++ m ∷ []) ≡ m.body
last_body-snoc body [] m = refl
last_body-snoc body (n ∷ given) m = last_body-snoc n.body given m

-- what stands at the offset of all bytes fed is what is pending
at_offset : (fed : List ℕ) (given : List MessageValue) (c : CutterValue) → HasCut fed given c → drop c.offset fed ≡ c.pending
at_offset fed given c cut = rw (cut.split, cut.offset) (drop_at cut.front c.pending (length cut.front) refl)

pub run_frame : (old new : CutterValue) (kind size : ℕ) → IsAtFront old.pending (Frame kind size) → Gives old new size
    → (fed : List ℕ) (given : List MessageValue) → HasCut fed given old → HasCut fed (given ++ record { kind = kind; body = new.body } ∷ []) new
run_frame old new kind size (here, is) gives fed given cut =
    let frame = take size old.pending in
    record {
      front = cut.front ++ frame;
      split = cut.split ∙ ap (λ (l : List ℕ). cut.front ++ l) gives.split ∙ sym (append_assoc cut.front frame new.pending);
      messages = parts_snoc IsMessage cut.front frame given (record { kind = kind; body = new.body }) cut.messages (rw gives.body is);
      offset = omega (arith, gives.offset, cut.offset, length-append cut.front frame, length-take size old.pending);
      body = sym (last_body-snoc [] given (record { kind = kind; body = new.body }));
    }

pub run_stop : (c : CutterValue) (answer : Next) → IsAtFront c.pending answer → ((kind size : ℕ) → answer ≡ Frame kind size → ⊥)
    → (fed : List ℕ) (given : List MessageValue) → HasCut fed given c → GoesOn fed given c answer
run_stop c (Frame kind size) is none fed given cut = absurd (none kind size refl)
run_stop c More is none fed given cut = (cut, rw (at_offset fed given c cut) is)
run_stop c (Bad Version) is none fed given cut = (cut, rw (at_offset fed given c cut) is)
run_stop c (Bad Length) is none fed given cut = (cut, rw (at_offset fed given c cut) is)
run_stop c (Bad Body) is none fed given cut = is

-- the first byte and the stated length stay, whatever follows a header
same_first : (bytes more : List ℕ) → 6 ≤ length bytes → slice_index (bytes ++ more) 0 ≡ slice_index bytes 0
same_first bytes more long = get_or_append_left bytes more 0 0 (omega (arith, long))

same_stated : (bytes more : List ℕ) → 6 ≤ length bytes → stated (bytes ++ more) ≡ stated bytes
same_stated bytes more long = stated-append bytes more (omega (arith, long))

-- a whole message at the front has a right header
front_header : (bytes : List ℕ) (kind size : ℕ) → IsAtFront bytes (Frame kind size) → HasHeader bytes × IsInRange (stated bytes)
front_header bytes kind size (here, is) =
    let split : take size bytes ++ drop size bytes ≡ bytes = take-append-drop size bytes in
    let long : 6 ≤ length (take size bytes) = is.header in
    let first : slice_index bytes 0 ≡ 3 = ap (λ (l : List ℕ). slice_index l 0) (sym split) ∙ same_first (take size bytes) (drop size bytes) long ∙ is.version in
    let says : stated bytes ≡ length (take size bytes) = ap (λ (l : List ℕ). stated l) (sym split) ∙ same_stated (take size bytes) (drop size bytes) long ∙ is.length_is in
    (record { header = omega (arith, long, length-take size bytes); version = first }, rw says is.in_range)

stays_version : (bytes more : List ℕ) → BreaksVersion bytes → (answer : Next) → IsAtFront (bytes ++ more) answer → answer ≡ Bad Version
stays_version bytes more b (Frame kind size) is = absurd (b.version (sym (same_first bytes more b.header) ∙ (front_header (bytes ++ more) kind size is).0.version))
stays_version bytes more b More (inl short) = absurd (omega (arith, short, b.header, length-append bytes more))
stays_version bytes more b More (inr (right, range, cut)) = absurd (b.version (sym (same_first bytes more b.header) ∙ right.version))
stays_version bytes more b (Bad Version) is = refl
stays_version bytes more b (Bad Length) is = absurd (b.version (sym (same_first bytes more b.header) ∙ is.right.version))
stays_version bytes more b (Bad Body) is = absurd is

stays_length : (bytes more : List ℕ) → BreaksLength bytes → (answer : Next) → IsAtFront (bytes ++ more) answer → answer ≡ Bad Length
stays_length bytes more b (Frame kind size) is = absurd (b.range (rw (same_stated bytes more b.right.header) at ((front_header (bytes ++ more) kind size is).1)))
stays_length bytes more b More (inl short) = absurd (omega (arith, short, b.right.header, length-append bytes more))
stays_length bytes more b More (inr (right, range, cut)) = absurd (b.range (rw (same_stated bytes more b.right.header) at range))
stays_length bytes more b (Bad Version) is = absurd (is.version (same_first bytes more b.right.header ∙ b.right.version))
stays_length bytes more b (Bad Length) is = refl
stays_length bytes more b (Bad Body) is = absurd is

pub stays_bad : (bytes : List ℕ) (answer : Next) → IsAtFront bytes answer → StaysBad bytes answer
stays_bad bytes (Frame kind size) is = tt
stays_bad bytes More is = tt
stays_bad bytes (Bad Version) is = λ more answer at. stays_version bytes more is answer at
stays_bad bytes (Bad Length) is = λ more answer at. stays_length bytes more is answer at
stays_bad bytes (Bad Body) is = absurd is

-- no message was given, so nothing moved
pub stands : (c : CutterValue) (answer : Next) → ((kind size : ℕ) → answer ≡ Frame kind size → ⊥) → Moves c c answer
stands c (Frame kind size) none = absurd (none kind size refl)
stands c More none = refl
stands c (Bad why) none = refl
