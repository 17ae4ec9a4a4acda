-- What a wrong walk or reading would give, and that it isn't what the contract asks for.
use Rattle.std.proofs.Common.{◌≡◌, ℕ, Bool, false, List, [], ◌∷◌, ◌++◌, replicate, get_or, Option, Some, refl, sym, ap, subst, ◌∙◌, arith, eqb}
use Rattle.std.specs.Prelude.{MatchBool, None}
use Rattle.std.proofs.lemmas.List.{get_or_append_left}
use Rattle.bmp_specs.specs.declared.wire.Family.{Family}
use Rattle.bmp_specs.specs.declared.wire.IdUse.{IdUse}
use Rattle.bmp_specs.specs.FramedUpdate.{FramedValue}
use Rattle.bmp_specs.specs.Life.{EndsAt}
use Rattle.bmp_specs.specs.Meaning.{Meaning, WalksBy}
use Rattle.bmp_specs.specs.MessageHead.{IsHead, other_in, peer_head}
use Rattle.bmp_specs.specs.Nlri.{AreNlri}
use Rattle.bmp_specs.specs.PeerHeader.{HeaderValue}
use Rattle.bmp_specs.specs.TreatAsWithdraw.{IsTreatedAsWithdraw, withdrawal_of}
use Rattle.bmp_specs.specs.Values.{EffectValue, EntryValue, HeadValue, MpValue, NlriValue, PeerHeadValue, UpdateValue, unread as passed_over}
use Rattle.bmp_specs.specs.Walk.{Step, termination, terminated}
use Rattle.bmp_specs.proofs.OneHead.{header_one}
use Rattle.bmp_specs.proofs.PeerHeaderCode.{header_at, header_here}
use Rattle.bmp_message.specs.StreamWalk.{next_stage, verdict_with}
use Rattle.bmp_message.specs.declared.walk.Stage.TheVariants.{Terminated}

-- ---- a message of an unknown type
-- the type of the message in front
kind_in_front : {S M : Type 0} (Is : S → ℕ → List ℕ → M → S → Type 0) (s : S) (bytes : List ℕ) (m : M) (step : Step Is s bytes m) → step.kind ≡ get_or bytes 5 0
kind_in_front Is s bytes m step = sym step.is_frame.kind_is ∙ sym (get_or_append_left step.frame step.rest 0 5 (omega (arith, step.is_frame.header))) ∙ ap (λ (l : List ℕ). get_or l 5 0) (sym step.split)

where_it_goes_on : (A B : Type 0) (ends : Bool) → ends ≡ false → MatchBool ends A B → B
where_it_goes_on A B ends is m = rw is at m

-- After a message of an unknown type a walk isn't where it is after a Termination Message,
no_stage_of_a_termination : next_stage 7 ≡ Terminated → ⊥
no_stage_of_a_termination is = absurd cc

-- and hasn't ended, by whatever meaning of bodies.
an_unknown_type_ends_no_walk : (meaning : Meaning) (entry : EntryValue) → EndsAt meaning (3 ∷ 0 ∷ 0 ∷ 0 ∷ 6 ∷ 7 ∷ []) (entry ∷ []) 6 terminated → ⊥
an_unknown_type_ends_no_walk meaning entry ends =
    let w = ends [] in
    let kind : w.0.kind ≡ 7 = kind_in_front meaning.Means meaning.start (3 ∷ 0 ∷ 0 ∷ 0 ∷ 6 ∷ 7 ∷ []) entry w.0 in
    (where_it_goes_on _ _ (eqb w.0.kind termination) (ap (λ (k : ℕ). eqb k termination) kind) w.1).2.1

-- ---- a message whose body is broken
-- A walk that passed over the one message of a stream, without its entry, isn't that stream's,
no_message_is_passed_over : (meaning : Meaning) → WalksBy meaning (3 ∷ 0 ∷ 0 ∷ 0 ∷ 6 ∷ 1 ∷ []) [] 6 (verdict_with 0) → ⊥
no_message_is_passed_over meaning w = omega (arith, w.0)

-- nor is one that gives the entry of the message behind it.
none_is_given_behind_it : (meaning : Meaning) → ((body : List ℕ) (e : EntryValue) (t : meaning.State) → meaning.Means meaning.start 1 body e t → ⊥)
    → (entry : EntryValue) → WalksBy meaning (3 ∷ 0 ∷ 0 ∷ 0 ∷ 6 ∷ 1 ∷ 3 ∷ 0 ∷ 0 ∷ 0 ∷ 6 ∷ 4 ∷ []) (entry ∷ []) 12 (verdict_with 0) → ⊥
none_is_given_behind_it meaning nothing entry w =
    let kind : w.0.kind ≡ 1 = kind_in_front meaning.Means meaning.start (3 ∷ 0 ∷ 0 ∷ 0 ∷ 6 ∷ 1 ∷ 3 ∷ 0 ∷ 0 ∷ 0 ∷ 6 ∷ 4 ∷ []) entry w.0 in
    nothing w.0.body entry w.0.next (subst (λ (k : ℕ). meaning.Means meaning.start k w.0.body entry w.0.next) kind w.0.means)

-- ---- an UPDATE message with a malformed attribute
none_in_front : (ms ns : List NlriValue) → ms ++ ns ≡ [] → ms ≡ []
none_in_front [] ns none = refl
none_in_front (m ∷ ms) ns none = absurd cc

none_behind : (ms ns : List NlriValue) → ms ++ ns ≡ [] → ns ≡ []
none_behind [] ns none = none
none_behind (m ∷ ms) ns none = absurd cc

-- bytes are some prefixes
some_prefix : (family : Family) (ids : Bool) (b : ℕ) (bytes : List ℕ) (ns : List NlriValue) → AreNlri family ids (b ∷ bytes) ns → ns ≡ [] → ⊥
some_prefix family ids b bytes [] are none = absurd cc
some_prefix family ids b bytes (n ∷ ns) are none = absurd cc

-- It announces 10.0.0.0/8, and its ORIGIN has no octet.
abbrev malformed : FramedValue
malformed = record { withdrawn_routes = []; path_attributes = 64 ∷ 1 ∷ 0 ∷ []; nlri = 8 ∷ 10 ∷ []; reach = None; unreach = None }

-- Who withdraws nothing keeps the route that stood there.
its_route_is_withdrawn : (ids : IdUse) (unread : ℕ) → IsTreatedAsWithdraw ids malformed (withdrawal_of [] unread) → ⊥
its_route_is_withdrawn ids unread treated =
    let none : [] ≡ treated.contained = ap (λ (u : UpdateValue). u.withdrawn) treated.is in
    let first = treated.are in
    let behind = none_behind first.0 first.1 (sym (none ∙ first.4)) in
    let second = first.3 in
    some_prefix _ _ 8 (10 ∷ []) second.0 second.2 (none_in_front second.0 second.1 (sym second.4 ∙ behind))

-- ---- the head of a message
abbrev zeros : List ℕ
zeros = replicate 42 0

-- A Per-Peer Header of zeros is of AS 0. Who tells of AS 1 tells no head of its message,
its_as_is_told : (effects : List EffectValue) (head : HeadValue) (told : PeerHeadValue) → IsHead 2 (zeros ++ 1 ∷ []) effects head → head.peer ≡ Some told → told.asn ≡ 1 → ⊥
its_as_is_told effects head told is here one =
    let header = header_one zeros is.peer_is.header (header_at zeros) is.peer_is.is (header_here zeros refl) in
    let same : Some told ≡ Some (peer_head (header_at zeros)) = sym here ∙ is.peer_is.told_is ∙ ap (λ (h : HeaderValue). Some (peer_head h)) header in
    absurd cc

-- and who tells of no family where EVPN was passed over tells none either.
its_family_is_told : (body : List ℕ) (head : HeadValue) (is : IsHead 0 body (passed_over 1 ∷ []) head) → is.others_are.framed.reach ≡ Some (record { afi = 25; safi = 70; hop = []; prefixes = [] }) → head.others ≡ [] → ⊥
its_family_is_told body head is evpn none =
    let first = ap (λ (m : Option MpValue). other_in m ++ other_in is.others_are.framed.unreach) evpn in
    absurd (cc (sym none ∙ is.others_are.others_are ∙ first))
