-- No BGP message begins another.
use Rattle.std.proofs.Common.{◌≡◌, ℕ, ◌≤◌, List, ◌++◌, length, take, drop, get_or, refl, sym, ap, ◌∙◌, arith, length-append, length-take, take-append-drop}
use Rattle.std.proofs.lemmas.List.{take-append-le, take-take, get_or_append_left, get_or-take}
use Rattle.bmp_specs.specs.Parts.{IsCode, Split}
use Rattle.bmp_specs.specs.BgpMessage.{IsBgpMessage, BeginsWithMessage, stated_length, header_length}
use Rattle.bmp_specs.specs.Values.{BgpMessageValue}
use Rattle.bmp_specs.proofs.PrefixCode.{same_front}
use Rattle.bmp_specs.proofs.StatedLength.{big_number-drop-append}

same_message : (v w : BgpMessageValue) → v.kind ≡ w.kind → v.body ≡ w.body → v ≡ w
same_message v w kind body = λ i. record { kind = kind i; body = body i }

-- the header alone states the length
pub stated_length-append : (a x : List ℕ) → header_length ≤ length a → stated_length (a ++ x) ≡ stated_length a
stated_length-append a x long = big_number-drop-append 2 16 a x (omega arith)

message_one : (a b x y : List ℕ) (v w : BgpMessageValue) → IsBgpMessage a v → IsBgpMessage b w → a ++ x ≡ b ++ y → (a ≡ b) × (v ≡ w)
message_one a b x y v w p q e =
    let lengths : length a ≡ length b = sym p.length_is ∙ sym (stated_length-append a x p.header) ∙ ap (λ (l : List ℕ). stated_length l) e ∙ stated_length-append b y q.header ∙ q.length_is in
    let same : a ≡ b = same_front a b x y lengths e in
    (same, same_message v w (sym p.kind_is ∙ ap (λ (l : List ℕ). get_or l 18 0) same ∙ q.kind_is) (sym p.body_is ∙ ap (λ (l : List ℕ). drop 19 l) same ∙ q.body_is))

pub message_code : IsCode IsBgpMessage
message_code = record { some = λ v p. omega (arith, p.header); one = message_one }

-- a message that is all of the bytes is one
pub IsBgpMessage-one : (bytes : List ℕ) (v w : BgpMessageValue) → IsBgpMessage bytes v → IsBgpMessage bytes w → v ≡ w
IsBgpMessage-one bytes v w p q = same_message v w (sym p.kind_is ∙ q.kind_is) (sym p.body_is ∙ q.body_is)

-- the message of these bytes
abbrev pub message_of : List ℕ → BgpMessageValue
message_of bytes = record { kind = get_or bytes 18 0; body = drop header_length bytes }

-- what begins with a message has it as its front
pub BeginsWithMessage-front : (bytes : List ℕ) (kind size : ℕ) → BeginsWithMessage bytes kind size → IsBgpMessage (take size bytes) (message_of (take size bytes))
BeginsWithMessage-front bytes kind size s =
    let len : length (take size bytes) ≡ size = omega (arith, s.within, length-take size bytes) in
    let front : take size bytes ++ drop size bytes ≡ bytes = take-append-drop size bytes in
    let long : 19 ≤ length (take size bytes) = omega (arith, len, s.header) in
    record {
      header = long;
      marker_is = take-take 16 size bytes (omega (arith, s.header)) ∙ s.marker_is;
      length_is = sym (stated_length-append (take size bytes) (drop size bytes) long) ∙ ap (λ (l : List ℕ). stated_length l) front ∙ s.length_is ∙ sym len;
      kind_is = refl;
      body_is = refl;
    }

-- a message at the front begins the bytes
pub front-BeginsWithMessage : (bytes front rest : List ℕ) (m : BgpMessageValue) → Split bytes front rest → IsBgpMessage front m → BeginsWithMessage bytes m.kind (length front)
front-BeginsWithMessage bytes front rest m split is = record {
  within = omega (arith, ap length split.joined, length-append front rest);
  header = is.header;
  marker_is = ap (λ (l : List ℕ). take 16 l) split.joined ∙ take-append-le 16 front rest (omega (arith, is.header)) ∙ is.marker_is;
  length_is = ap (λ (l : List ℕ). stated_length l) split.joined ∙ stated_length-append front rest is.header ∙ is.length_is;
  kind_is = ap (λ (l : List ℕ). get_or l 18 0) split.joined ∙ get_or_append_left front rest 0 18 (omega (arith, is.header)) ∙ is.kind_is;
}

-- the type of the message at the front
pub front-kind : (bytes : List ℕ) (kind size : ℕ) → BeginsWithMessage bytes kind size → get_or (take size bytes) 18 0 ≡ kind
front-kind bytes kind size s = get_or-take size bytes 18 0 (omega (arith, s.header)) ∙ s.kind_is

-- one message begins the bytes at most
pub BeginsWithMessage-one : (bytes : List ℕ) (k l m n : ℕ) → BeginsWithMessage bytes k m → BeginsWithMessage bytes l n → (k ≡ l) × (m ≡ n)
BeginsWithMessage-one bytes k l m n p q = (sym p.kind_is ∙ q.kind_is, sym p.length_is ∙ q.length_is)

-- a message that begins the bytes and ends with them is all of them
pub BeginsWithMessage-whole : (bytes : List ℕ) (kind size : ℕ) → BeginsWithMessage bytes kind size → size ≡ length bytes → IsBgpMessage bytes (record { kind = kind; body = drop header_length bytes })
BeginsWithMessage-whole bytes kind size s e = record { header = omega (arith, s.header, e); marker_is = s.marker_is; length_is = s.length_is ∙ e; kind_is = s.kind_is; body_is = refl }

-- all of the bytes begin them
pub whole-BeginsWithMessage : (bytes : List ℕ) (m : BgpMessageValue) → IsBgpMessage bytes m → BeginsWithMessage bytes m.kind (length bytes)
whole-BeginsWithMessage bytes m is = record { within = omega arith; header = is.header; marker_is = is.marker_is; length_is = is.length_is; kind_is = is.kind_is }
