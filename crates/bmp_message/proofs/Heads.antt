-- The head of a message: what is found where it stands is what it has.
use Rattle.std.proofs.Common.{◌≡◌, ℕ, ◌+◌, zero, suc, Bool, true, false, ◌||◌, List, [], ◌∷◌, ◌++◌, map, drop, take, length, get_or, ◌<◌, length-take, Option, Some, None, refl, sym, ap, ◌∙◌, subst, arith, nat_lt}
use Rattle.std.specs.Arc.{arc_value}
use Rattle.std.specs.Prelude.{sum_by}
use Rattle.std.proofs.Math.ListN.{drop_of_length-le}
use Rattle.std.proofs.lemmas.List.Sums.{sum_by-append, sum_by-cons}
use Rattle.std.proofs.lemmas.Bool.Decides.{nat_tests}
use Rattle.bmp_specs.specs.BgpMessage.{IsBgpMessage, update_type}
use Rattle.bmp_specs.specs.Counts.{parts_in}
use Rattle.bmp_specs.specs.Frame.{least}
use Rattle.bmp_specs.specs.FramedUpdate.{FramedValue, IsFramed}
use Rattle.bmp_specs.specs.MessageBody.{MessageType, message_type}
use Rattle.bmp_specs.specs.MessageHead.{AreOthers, HasOthers, HasPeerHead, IsHead, IsPeerHead, other_in, passes_parts, peer_head}
use Rattle.bmp_specs.specs.PeerHeader.{HeaderValue, IsHeader, header_size}
use Rattle.bmp_specs.specs.Values.{BgpMessageValue, EffectValue, FamilyCodeValue, HeadValue, NlriValue, PeerHeadValue, announce, withdraw}
use Rattle.bmp_specs.proofs.BgpMessageCode.{IsBgpMessage-one}
use Rattle.bmp_specs.proofs.FramedOne.{IsFramed-one}
use Rattle.bmp_specs.proofs.OneHead.{header_one}
use Rattle.rib_model.specs.Effects.{effect_values, item_values}
use Rattle.rib_model.specs.declared.effect.Effect.{Effect}
use Rattle.rib_model.specs.declared.effect.Effect.TheVariants.{Up, Down, Announce, Withdraw, Mark, Statistic, Name, Descr, Orphan, Mirrored, Passed, Unread}
use Rattle.rib_model.proofs.Items.{values_taken}
use Rattle.bmp_message.proofs.PeerHeaders.{header_length}
use Rattle.bmp_message.proofs.UpdateOf.{as_update, update_with}

-- ---- the Per-Peer Header
-- where one stands, it is the one that was read
pub told_one : (front body : List ℕ) (h : HeaderValue) → front ≡ take header_size body → IsHeader front h → (told : Option PeerHeadValue) → HasPeerHead body told → Some (peer_head h) ≡ told
told_one front body h f is told has =
    let here : IsHeader (take header_size body) h = subst (λ (l : List ℕ). IsHeader l h) f is in
    ap (λ (x : HeaderValue). Some (peer_head x)) (header_one (take header_size body) h has.header here has.is) ∙ sym has.told_is

-- where there are fewer bytes, none stands there
pub none_told : (body : List ℕ) → length body < header_size → (told : Option PeerHeadValue) → HasPeerHead body told → ⊥
none_told body short told has = absurd (omega (arith, header_length (take header_size body) has.header has.is, length-take header_size body))

-- and nothing stands behind it
pub nothing_behind : (body : List ℕ) → length body < header_size → [] ≡ drop header_size body
nothing_behind body short = sym (drop_of_length-le body {i = header_size} (omega (arith, short)))

-- ---- parts that were passed over
-- effects on routes tell of none
pub none_over : (f : NlriValue → EffectValue) → ((n : NlriValue) → parts_in (f n) ≡ 0) → (ns : List NlriValue) → sum_by parts_in (map f ns) ≡ 0
none_over f none [] = refl
none_over f none (n ∷ ns) = omega (arith, sum_by-cons parts_in (f n) (map f ns), none n, none_over f none ns)

-- an item that tells of none
pub none_of_item : (item : Effect) → ((parts : ℕ) → item ≡ Unread parts → ⊥) → sum_by parts_in (item_values item) ≡ 0
none_of_item (Up key info) other = refl
none_of_item (Down key info) other = refl
none_of_item (Announce key view nlris route) other = none_over (λ n. announce key view n (arc_value route)) (λ n. refl) nlris
none_of_item (Withdraw key view nlris) other = none_over (λ n. withdraw key view n) (λ n. refl) nlris
none_of_item (Mark key view family) other = refl
none_of_item (Statistic key stat) other = refl
none_of_item (Name bytes) other = refl
none_of_item (Descr bytes) other = refl
none_of_item Orphan other = refl
none_of_item Mirrored other = refl
none_of_item Passed other = refl
none_of_item (Unread parts) other = absurd (other parts refl)

-- some of a sum is more than nothing where some of its parts is
pub some_of_sum : (a b : ℕ) → (nat_lt 0 a || nat_lt 0 b) ≡ nat_lt 0 (a + b)
some_of_sum zero b = let same : 0 + b ≡ b = omega arith in ap (λ (n : ℕ). nat_lt 0 n) (sym same)
some_of_sum (suc a) b =
    let here : nat_lt 0 (suc a) ≡ true = grind (arith, nat_tests) in
    let all : nat_lt 0 (suc a + b) ≡ true = grind (arith, nat_tests) in
    ap (λ (c : Bool). c || nat_lt 0 b) here ∙ sym all

-- more effects tell of some where these do or those before them do
pub over_more : (es more : List EffectValue) → (nat_lt 0 (sum_by parts_in es) || nat_lt 0 (sum_by parts_in more)) ≡ nat_lt 0 (sum_by parts_in (es ++ more))
over_more es more = some_of_sum (sum_by parts_in es) (sum_by parts_in more) ∙ ap (λ (n : ℕ). nat_lt 0 n) (sym (sum_by-append parts_in es more))

-- one more item of a list
pub over_taken : (items : List Effect) (i : ℕ) (d : Effect) → i < length items
    → (nat_lt 0 (sum_by parts_in (effect_values (take i items))) || nat_lt 0 (sum_by parts_in (item_values (get_or items i d)))) ≡ nat_lt 0 (sum_by parts_in (effect_values (take (i + 1) items)))
over_taken items i d within =
    over_more (effect_values (take i items)) (item_values (get_or items i d)) ∙ ap (λ (es : List EffectValue). nat_lt 0 (sum_by parts_in es)) (sym (values_taken items i d within))

-- ---- the families that were passed over
-- bytes that are no UPDATE message have none
pub no_others : (bytes : List ℕ) → ((body : List ℕ) → IsBgpMessage bytes (update_with body) → ⊥) → (others : List FamilyCodeValue) → HasOthers bytes others → ⊥
no_others bytes none others has = none has.update.body (as_update bytes has.update has.is_update has.is)

module _ (bytes body : List ℕ) (is : IsBgpMessage bytes (update_with body)) where
  same_body : (others : List FamilyCodeValue) (has : HasOthers bytes others) → has.update.body ≡ body
  same_body others has = ap (λ (m : BgpMessageValue). m.body) (IsBgpMessage-one bytes has.update (update_with body) has.is is)

  frames_here : (others : List FamilyCodeValue) (has : HasOthers bytes others) → IsFramed body has.framed
  frames_here others has = subst (λ (l : List ℕ). IsFramed l has.framed) (same_body others has) has.frames

  -- nor has a body without a frame
  pub no_frame_of_others : ((f : FramedValue) → IsFramed body f → ⊥) → (others : List FamilyCodeValue) → HasOthers bytes others → ⊥
  no_frame_of_others none others has = none has.framed (frames_here others has)

  -- they are those of the frame
  pub others_are_of : (f : FramedValue) → IsFramed body f → (others : List FamilyCodeValue) → HasOthers bytes others → other_in f.reach ++ other_in f.unreach ≡ others
  others_are_of f frames others has =
      ap (λ (g : FramedValue). other_in g.reach ++ other_in g.unreach) (IsFramed-one body f has.framed frames (frames_here others has)) ∙ sym has.others_are

-- ---- the whole
-- a head of this type and length, with what is told of the peer and the families that were passed over, is the one that
-- the message has
pub head_is : (kind size : ℕ) (body : List ℕ) (effects : List EffectValue) (type : MessageType) (peer : Option PeerHeadValue) (others : List FamilyCodeValue) → type ≡ message_type kind → size ≡ least + length body
    → ((told : Option PeerHeadValue) → IsPeerHead type body told → peer ≡ told)
    → ((some : List FamilyCodeValue) → AreOthers (passes_parts type effects) (drop header_size body) some → others ≡ some)
    → (head : HeadValue) → IsHead kind body effects head → record { kind = kind; size = size; peer = peer; others = others } ≡ head
head_is kind size body effects type peer others of long tells has head is =
    let kinds : kind ≡ head.kind = sym is.kind_is in
    let sizes : size ≡ head.size = long ∙ sym is.size_is in
    let peers : peer ≡ head.peer = tells head.peer (subst (λ (t : MessageType). IsPeerHead t body head.peer) (sym of) is.peer_is) in
    let families : others ≡ head.others = has head.others (subst (λ (t : MessageType). AreOthers (passes_parts t effects) (drop header_size body) head.others) (sym of) is.others_are) in
    λ i. record { kind = kinds i; size = sizes i; peer = peers i; others = families i }
