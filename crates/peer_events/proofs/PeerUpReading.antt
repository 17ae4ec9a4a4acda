-- What follows the Per-Peer Header in a Peer Up Notification, part by part.
use Rattle.std.proofs.Common.{◌≡◌, ◌==◌, ◌||◌, ◌&&◌, ◌-◌, ℕ, Bool, true, false, not, cond, List, ◌++◌, length, take, drop, refl, sym, ap, subst, ◌∙◌, take-append-drop}
use Rattle.std.specs.Prelude.{count_by, Err, IsErrOf, IsTrue}
use Rattle.std.proofs.lemmas.List.{take_at, take_rest}
use Rattle.bmp_specs.specs.BgpMessage.{BeginsWithMessage, IsBgpMessage}
use Rattle.bmp_specs.specs.Open.{IsOpen, IsOpenMessage}
use Rattle.bmp_specs.specs.PeerHeader.{HeaderValue}
use Rattle.bmp_specs.specs.PeerUpNotification.{IsPeerUp, is_known, is_loc_rib}
use Rattle.bmp_specs.specs.Sequence.{HasFront, Then}
use Rattle.bmp_specs.specs.Tlv.{AreTlvs}
use Rattle.bmp_specs.specs.Values.{OpenValue, PeerUpValue, TlvValue}
use Rattle.bmp_specs.proofs.BgpMessageCode.{BeginsWithMessage-front, BeginsWithMessage-one, front-BeginsWithMessage, front-kind, message_of}
use Rattle.bmp_specs.proofs.OpenOne.{open_message_code}
use Rattle.bmp_specs.proofs.SequenceRead.{Then-given}
use Rattle.peer_events.specs.Known.{is_known_in}
use Rattle.peer_events.specs.declared.tlvs.Carrier.TheVariants.{PeerUp, LocRibPeerUp}

-- the same error of another call
pub same_error : {T U E : Type 0} (e f : E) → IsErrOf {T = T} {E = E} (Err e) f → IsErrOf {T = U} {E = E} (Err e) f
same_error e f p = let same : e ≡ f = cc in λ i. Err (same i)

-- the body of the message at the front, as a slice of it
abbrev pub body_of : List ℕ → List ℕ
body_of front = take (length front - 19) (drop 19 front)

pub opening_here : (bytes front rest : List ℕ) (kind size : ℕ) (o : OpenValue) → BeginsWithMessage bytes kind size → kind ≡ 1 → front ≡ take size bytes → rest ≡ drop size bytes → IsOpen (body_of front) o
    → HasFront IsOpenMessage bytes o rest
opening_here bytes front rest kind size o s is_open f r is =
    let body : IsOpen (drop 19 front) o = rw (← take_rest front 19) is in
    let split : bytes ≡ front ++ rest = sym (take-append-drop size bytes) ∙ ap (λ (l : List ℕ). l ++ drop size bytes) (sym f) ∙ ap (λ (l : List ℕ). front ++ l) (sym r) in (
      front,
      record { joined = split },
      record {
        message = message_of front;
        is = subst (λ (l : List ℕ). IsBgpMessage l (message_of l)) (sym f) (BeginsWithMessage-front bytes kind size s);
        is_open = subst (λ (l : List ℕ). (message_of l).kind ≡ 1) (sym f) (front-kind bytes kind size s ∙ is_open);
        body_is = body;
      },
    )

pub opening_none : (bytes : List ℕ) → ((kind size : ℕ) → BeginsWithMessage bytes kind size → ⊥) → (o : OpenValue) (rest : List ℕ) → HasFront IsOpenMessage bytes o rest → ⊥
opening_none bytes none o rest (front, split, is) = none is.message.kind (length front) (front-BeginsWithMessage bytes front rest is.message split is.is)

pub opening_broken : (bytes front : List ℕ) (kind size : ℕ) → BeginsWithMessage bytes kind size → front ≡ take size bytes → ((o : OpenValue) → IsOpen (body_of front) o → ⊥)
    → (o : OpenValue) (rest : List ℕ) → HasFront IsOpenMessage bytes o rest → ⊥
opening_broken bytes front kind size s f none o rest (other, split, is) =
    let begins = front-BeginsWithMessage bytes other rest is.message split is.is in
    let sizes : length other ≡ size = (BeginsWithMessage-one bytes is.message.kind kind (length other) size begins s).1 in
    let same : other ≡ front = sym (take_at other rest size sizes) ∙ ap (λ (l : List ℕ). take size l) (sym split.joined) ∙ sym f in
    let body : drop 19 front ≡ is.message.body = ap (λ (l : List ℕ). drop 19 l) (sym same) ∙ is.is.body_is in
    none o (rw (take_rest front 19, body) is.body_is)

-- the bytes behind the ports, as a slice
abbrev pub behind : List ℕ → List ℕ
behind rest = take (length rest - 20) (drop 20 rest)

abbrev pub UpParts : List ℕ → OpenValue × (OpenValue × List TlvValue) → Type 0
UpParts bytes v = Then IsOpenMessage (Then IsOpenMessage AreTlvs) bytes v

parts_behind : (h : HeaderValue) (rest : List ℕ) (u : PeerUpValue) (p : IsPeerUp h rest u) → UpParts (behind rest) (u.info.sent, (u.info.received, p.tlvs))
parts_behind h rest u p = rw (take_rest rest 20) p.parts

pub up_no_sent : (h : HeaderValue) (rest : List ℕ) → ((o : OpenValue) (r : List ℕ) → HasFront IsOpenMessage (behind rest) o r → ⊥) → (u : PeerUpValue) → IsPeerUp h rest u → ⊥
up_no_sent h rest none u p =
    let t = parts_behind h rest u p in
    none u.info.sent t.1 (t.0, t.2, t.3)

-- what follows the sent OPEN
after_sent : (h : HeaderValue) (rest one : List ℕ) (sent : OpenValue) → HasFront IsOpenMessage (behind rest) sent one → (u : PeerUpValue) (p : IsPeerUp h rest u) → Then IsOpenMessage AreTlvs one (u.info.received, p.tlvs)
after_sent h rest one sent here u p =
    ((Then-given IsOpenMessage open_message_code (Then IsOpenMessage AreTlvs) (behind rest) one sent here).1 (u.info.sent, (u.info.received, p.tlvs)) (parts_behind h rest u p)).1

pub up_no_received : (h : HeaderValue) (rest one : List ℕ) (sent : OpenValue) → HasFront IsOpenMessage (behind rest) sent one → ((o : OpenValue) (r : List ℕ) → HasFront IsOpenMessage one o r → ⊥)
    → (u : PeerUpValue) → IsPeerUp h rest u → ⊥
up_no_received h rest one sent here none u p =
    let t = after_sent h rest one sent here u p in
    none u.info.received t.1 (t.0, t.2, t.3)

pub up_no_tlvs : (h : HeaderValue) (rest one two : List ℕ) (sent received : OpenValue) → HasFront IsOpenMessage (behind rest) sent one → HasFront IsOpenMessage one received two
    → (answer : Bool) → ((ts : List TlvValue) → AreTlvs two ts → IsTrue answer) → answer ≡ false → (u : PeerUpValue) → IsPeerUp h rest u → ⊥
up_no_tlvs h rest one two sent received first second answer told e u p =
    let t = (Then-given IsOpenMessage open_message_code AreTlvs one two received second).1 (u.info.received, p.tlvs) (after_sent h rest one sent first u p) in
    let yes : answer ≡ true = told p.tlvs t.1 in
    absurd (cc (yes, e))

-- the three parts together
pub up_parts : (rest one two : List ℕ) (sent received : OpenValue) (ts : List TlvValue) → HasFront IsOpenMessage (behind rest) sent one → HasFront IsOpenMessage one received two → AreTlvs two ts
    → UpParts (drop 20 rest) (sent, (received, ts))
up_parts rest one two sent received ts (a, s, is) (b, t, js) are =
    let whole : UpParts (behind rest) (sent, (received, ts)) = (a, one, s, is, (b, two, t, js, are)) in
    rw (take_rest rest 20) at whole

or_false : (b : Bool) → b ≡ (b || false)
or_false true = refl
or_false false = refl

known : (loc : Bool) (ts : List TlvValue) → count_by (λ t. not (is_known_in (cond loc LocRibPeerUp PeerUp) t)) ts ≡ count_by (λ t. not (t.kind == 0 || (loc && t.kind == 3))) ts
known true ts = refl
known false ts = λ i. count_by (λ t. not (or_false (t.kind == 0) i)) ts

-- the TLVs that a Peer Up of this header knows
pub known_by : (h : HeaderValue) (ts : List TlvValue) → count_by (λ t. not (is_known_in (cond (is_loc_rib h) LocRibPeerUp PeerUp) t)) ts ≡ count_by (λ t. not (is_known h t)) ts
known_by h ts = known (is_loc_rib h) ts
