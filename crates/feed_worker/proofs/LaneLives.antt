-- What is seen of a lane: each front of lives is lives, of which the last may be open.
use Rattle.std.proofs.Common.{◌≡◌, ◌⊎◌, inl, inr, ℕ, ◌+◌, ◌≤◌, ◌==◌, ◌-◌, ◌<◌, ◌^◌, Bool, true, false, List, [], ◌∷◌, ◌++◌, length, Option, refl, sym, ap, ◌∙◌, subst, append_assoc, append-nil, arith, length-append}
use Rattle.std.specs.Prelude.{MatchBool, flat_map}
use Rattle.std.proofs.lemmas.List.{map-append}
use Rattle.bmp_specs.specs.Life.{IsLife, IsOpenLife, LastRead, most_taken}
use Rattle.bmp_specs.specs.Meaning.{Meaning, WalksBy}
use Rattle.bmp_specs.specs.Steps.{steps_of}
use Rattle.bmp_specs.specs.Values.{ClosingValue, EntryValue, OpeningValue, opened, closed}
use Rattle.bmp_specs.specs.Walk.{Verdict, Walks, terminated, termination, whole}
use Rattle.cut_publisher.specs.declared.history.Event.{Event}
use Rattle.cut_publisher.specs.declared.history.Event.TheVariants.{Of, Finish}
use Rattle.cut_publisher.specs.History.{Fed, part, revision}
use Rattle.cut_publisher.proofs.Lanes.{begins_part, part-append, revision-append}
use Rattle.rib_model.specs.declared.entry.Entry.{Entry}
use Rattle.rib_model.specs.Entries.{entry_value, entry_values}
use Rattle.wire_io.specs.Aside.{Aside}
use Rattle.ask_specs.specs.Lives.{AreLives, IsLaneOf, LivesAnnounceOfUp}
use Rattle.ask_specs.specs.Mirror.{IsExactOrNone, Tells}
use Rattle.ask_specs.specs.StepRows.{AnnouncesOfUp}
use Rattle.ask_specs.proofs.MirrorLaws.{keeps_exact}
use Rattle.feed_worker.specs.Connection.{IsBegun}
use Rattle.feed_worker.specs.Feed.{Connection, EndsFeed, Serves, lives_of}
use Rattle.feed_worker.specs.Lives.{KeepsCopyOfLane, SeenAnnounceOfUp, SeenAreLives, seen_of}
use Rattle.feed_worker.specs.Publishing.{Grows}
use Rattle.feed_worker.specs.declared.feed.LaneEnd.{LaneEnd}
use Rattle.feed_worker.specs.declared.feed.LaneEnd.TheVariants.{Over, NoMemory}
use Rattle.feed_worker.proofs.Growing.{grows_values}

-- ---- fronts of lists
heads : {X : Type 0} (x y : X) (xs ys : List X) → x ∷ xs ≡ y ∷ ys → (x ≡ y) × (xs ≡ ys)
heads x y xs ys e = (cc, cc)

no_front : {X : Type 0} (xs ys : List X) → xs ++ ys ≡ [] → xs ≡ []
no_front [] ys e = refl
no_front (x ∷ xs) ys e = absurd (cc e)

-- of two fronts of a list one is a front of the other
pub apart : {X : Type 0} (a b c d : List X) → a ++ b ≡ c ++ d → ((mid : List X) × (c ≡ a ++ mid)) ⊎ ((mid : List X) × (a ≡ c ++ mid) × (mid ++ b ≡ d))
apart [] b c d e = inl (c, refl)
apart (x ∷ a) b [] d e = inr (x ∷ a, refl, e)
apart (x ∷ a) b (y ∷ c) d e =
    let same = heads x y (a ++ b) (c ++ d) e in
    elim (apart a b c d same.1) [
      | inl h ↦ inl (h.0, λ i. sym same.0 i ∷ h.1 i)
      | inr h ↦ inr (h.0, (λ i. same.0 i ∷ h.1 i), h.2)
    ]

-- ---- a walk of the first messages
record WalksOn {S M : Type 0} (Is : S → ℕ → List ℕ → M → S → Type 0) (s : S) (bytes : List ℕ) (ms : List M) : Type 0 where
  front : List ℕ
  offset : ℕ
  verdict : Verdict
  short : length front ≤ length bytes
  walk : Walks Is s front ms offset verdict

module _ {S M : Type 0} (Is : S → ℕ → List ℕ → M → S → Type 0) where
  -- the first messages of a walk are those of fewer bytes
  walk_front : (s : S) (bytes : List ℕ) (ms ns : List M) (offset : ℕ) (v : Verdict) → Walks Is s bytes (ms ++ ns) offset v → WalksOn Is s bytes ms
  walk_front s bytes [] ns offset v w = record { front = []; offset = 0; verdict = whole; short = omega arith; walk = (refl, refl) }
  walk_front s bytes (m ∷ ms) ns offset v (step, by) = go (step.kind == termination) refl (λ after w. walk_front step.next step.rest ms ns after v w) by
    where
      Ends : Bool → List ℕ → ℕ → Verdict → Type 0
      Ends b rest n u = MatchBool b ((ms ≡ []) × (n ≡ length step.frame) × (u ≡ terminated)) ((after : ℕ) × (n ≡ length step.frame + after) × Walks Is step.next rest ms after u)

      go : (b : Bool) → (step.kind == termination) ≡ b → ((after : ℕ) → Walks Is step.next step.rest (ms ++ ns) after v → WalksOn Is step.next step.rest ms)
          → MatchBool b ((ms ++ ns ≡ []) × (offset ≡ length step.frame) × (v ≡ terminated)) ((after : ℕ) × (offset ≡ length step.frame + after) × Walks Is step.next step.rest (ms ++ ns) after v)
          → WalksOn Is s bytes (m ∷ ms)
      go true is again (none, place, end) = record {
        front = bytes;
        offset = length step.frame;
        verdict = terminated;
        short = omega arith;
        walk = (step, subst (λ (b : Bool). Ends b step.rest (length step.frame) terminated) (sym is) (no_front ms ns none, refl, refl));
      }
      go false is again (after, place, w) =
          let more = again after w in
          record {
            front = step.frame ++ more.front;
            offset = length step.frame + more.offset;
            verdict = more.verdict;
            short = omega (arith, more.short, ap length step.split, length-append step.frame step.rest, length-append step.frame more.front);
            walk = (record { frame = step.frame; rest = more.front; kind = step.kind; body = step.body; next = step.next; split = refl; is_frame = step.is_frame; means = step.means }, subst (λ (b : Bool). Ends b more.front (length step.frame + more.offset) more.verdict) (sym is) (more.offset, refl, more.walk));
          }

-- ---- fronts of lives
module _ (meaning : Meaning) where
  pub no_lives : IsLaneOf meaning []
  no_lives = record { lives = []; present = []; are_lives = tt; is_present = inl refl; joined = refl }

  pub open_lane : (bytes : List ℕ) (life : List EntryValue) → IsOpenLife meaning bytes life → IsLaneOf meaning life
  open_lane bytes life is = record { lives = []; present = life; are_lives = tt; is_present = inr (bytes, is); joined = refl }

  pub after_life : (bytes : List ℕ) (last : LastRead) (life rest : List EntryValue) → IsLife meaning bytes last life → IsLaneOf meaning rest → IsLaneOf meaning (life ++ rest)
  after_life bytes last life rest is lane = record {
    lives = life ∷ lane.lives;
    present = lane.present;
    are_lives = (bytes, last, is, lane.are_lives);
    is_present = lane.is_present;
    joined = ap (λ (l : List EntryValue). life ++ l) lane.joined ∙ sym (append_assoc life (flat_map (λ l. l) lane.lives) lane.present);
  }

  begun : (bytes : List ℕ) (came : OpeningValue) (messages front after : List EntryValue) (offset : ℕ) (v : Verdict) → length bytes ≤ most_taken → WalksBy meaning bytes messages offset v → messages ≡ front ++ after → IsLaneOf meaning (opened came ∷ front)
  begun bytes came messages front after offset v within w is =
      let on = walk_front meaning.Means meaning.start bytes front after offset v (subst (λ (l : List EntryValue). WalksBy meaning bytes l offset v) is w) in
      open_lane on.front (opened came ∷ front) (record { messages = front; offset = on.offset; verdict = on.verdict; came = came; within = omega (arith, within, on.short); walk = on.walk; is = refl })

  open_front : (bytes : List ℕ) (life front after : List EntryValue) → IsOpenLife meaning bytes life → life ≡ front ++ after → IsLaneOf meaning front
  open_front bytes life [] after is e = no_lives
  open_front bytes life (x ∷ front) after is e =
      let same = heads (opened is.came) x is.messages (front ++ after) (sym is.is ∙ e) in
      subst (λ (y : EntryValue). IsLaneOf meaning (y ∷ front)) same.0 (begun bytes is.came is.messages front after is.offset is.verdict is.within is.walk same.1)

  life_front : (bytes : List ℕ) (last : LastRead) (life front after : List EntryValue) → IsLife meaning bytes last life → life ≡ front ++ after → IsLaneOf meaning front
  life_front bytes last life [] after is e = no_lives
  life_front bytes last life (x ∷ front) after is e =
      let end : ClosingValue = record { cause = is.cause; until = is.until } in
      let same = heads (opened is.came) x (is.messages ++ closed end ∷ []) (front ++ after) (sym is.is ∙ e) in
      subst (λ (y : EntryValue). IsLaneOf meaning (y ∷ front)) same.0
      (elim (apart front after is.messages (closed end ∷ []) (sym same.1)) [
        | inl h ↦ begun bytes is.came is.messages front h.0 is.offset is.verdict is.within is.walk h.1
        | inr h ↦ behind h.0 h.1 h.2
      ])
    where
      behind : (mid : List EntryValue) → front ≡ is.messages ++ mid → mid ++ after ≡ closed (record { cause = is.cause; until = is.until }) ∷ [] → IsLaneOf meaning (opened is.came ∷ front)
      behind [] f e = begun bytes is.came is.messages front [] is.offset is.verdict is.within is.walk (sym (append-nil front ∙ f ∙ append-nil is.messages))
      behind (y ∷ []) f e =
          let last_one = heads y (closed (record { cause = is.cause; until = is.until })) after [] e in
          let all : opened is.came ∷ front ≡ life = ap (λ (l : List EntryValue). opened is.came ∷ l) (f ∙ ap (λ (z : EntryValue). is.messages ++ z ∷ []) last_one.0) ∙ sym is.is in
          subst (IsLaneOf meaning) (append-nil life ∙ sym all) (after_life bytes last life [] is no_lives)
      behind (y ∷ z ∷ mid) f e = absurd (omega (arith, ap length e))

  lane_front : (lives : List (List EntryValue)) (present front after : List EntryValue) → AreLives meaning lives → (present ≡ []) ⊎ ((bytes : List ℕ) × IsOpenLife meaning bytes present)
      → flat_map (λ (l : List EntryValue). l) lives ++ present ≡ front ++ after → IsLaneOf meaning front
  lane_front [] present front after are (inl none) e = subst (IsLaneOf meaning) (sym (no_front front after (sym e ∙ none))) no_lives
  lane_front [] present front after are (inr (bytes, is)) e = open_front bytes present front after is e
  lane_front (life ∷ lives) present front after (bytes, last, is, are) p e =
      let rest = flat_map (λ (l : List EntryValue). l) lives in
      elim (apart front after life (rest ++ present) (sym e ∙ append_assoc life rest present)) [
        | inl h ↦ life_front bytes last life front h.0 is h.1
        | inr h ↦ subst (IsLaneOf meaning) (sym h.1) (after_life bytes last life h.0 is (lane_front lives present h.0 after are p (sym h.2)))
      ]

  -- Each front of lives, of which the last may be open, is the same: of a life that isn't whole there, it is an open one of
  -- fewer bytes.
  pub front_of_lives : (entries front after : List EntryValue) → IsLaneOf meaning entries → entries ≡ front ++ after → IsLaneOf meaning front
  front_of_lives entries front after lane e = lane_front lane.lives lane.present front after lane.are_lives lane.is_present (sym lane.joined ∙ e)

  -- ---- what a lane published
  served : (cs : List Connection) (old new : Aside) (rest : List EntryValue) → Serves meaning old new cs → IsLaneOf meaning rest → IsLaneOf meaning (lives_of cs ++ rest)
  served [] old new rest s lane = lane
  served (c ∷ cs) old new rest (visit, life, s) lane =
      subst (IsLaneOf meaning) (sym (append_assoc c.life (lives_of cs) rest)) (after_life c.input.bytes c.input.last c.life (lives_of cs ++ rest) life (served cs c.closed new rest s lane))

  begun_last : (began : Option ℕ) (bytes : List ℕ) (entries : List EntryValue) → IsBegun meaning began bytes entries → IsLaneOf meaning entries
  begun_last began bytes entries (inl none) = subst (IsLaneOf meaning) (sym none.1) no_lives
  begun_last began bytes entries (inr l) = open_lane l.front entries l.life

  from_nothing : (pass pass' : Fed Entry) (values : List EntryValue) → pass.entries ≡ [] → Grows pass pass' values → values ≡ entry_values pass'.entries
  from_nothing pass pass' values none g = sym (grows_values pass pass' values g ∙ ap (λ (l : List Entry). entry_values l ++ values) none)

  fed_lives : (began : Option ℕ) (rounds : ℕ) (old new : Aside) (pass pass' : Fed Entry) (end : LaneEnd) → pass.entries ≡ [] → EndsFeed meaning began rounds old new pass pass' end → IsLaneOf meaning (entry_values pass'.entries)
  fed_lives began rounds old new pass pass' Over none s =
      subst (IsLaneOf meaning) (append-nil (lives_of s.connections) ∙ from_nothing pass pass' (lives_of s.connections) none s.grows) (served s.connections old s.after [] s.serves no_lives)
  fed_lives began rounds old new pass pass' NoMemory none s =
      subst (IsLaneOf meaning) (from_nothing pass pass' (lives_of s.connections ++ s.last.life) none s.grows) (served s.connections old s.after s.last.life s.serves (begun_last began s.last.input.bytes s.last.life s.begun))

-- ---- fronts of a history
module _ {E : Type 0} where
  no_entries : (lane : ℕ) (h : List (Event E)) → revision h ≡ 0 → part lane h ≡ []
  no_entries lane [] e = refl
  no_entries lane (Of k x ∷ h) e = absurd (omega (arith, e))
  no_entries lane (Finish ∷ h) e = no_entries lane h e

  -- the lane's part of the one with the lesser revision is a front of that of the other
  pub part_grows : (lane : ℕ) (a b x y : List (Event E)) → a ++ x ≡ b ++ y → revision a ≤ revision b → (rest : List E) × (part lane b ≡ part lane a ++ rest)
  part_grows lane a b x y e least = elim (apart a x b y e) [
    | inl h ↦ (part lane h.0, ap (part lane) h.1 ∙ part-append lane a h.0)
    | inr h ↦
        let more : revision h.0 ≡ 0 = omega (arith, least, ap revision h.1, revision-append b h.0) in
        ([], sym (append-nil (part lane a) ∙ ap (part lane) h.1 ∙ part-append lane b h.0 ∙ ap (λ (l : List E). part lane b ++ l) (no_entries lane h.0 more) ∙ append-nil (part lane b)))
  ]

-- ---- what is seen of a lane
pub seen_lives : (meaning : Meaning) → SeenAreLives meaning
seen_lives meaning lane history seen is begins =
    let all : IsLaneOf meaning (seen_of lane history) = subst (λ (l : List Entry). IsLaneOf meaning (entry_values l)) (sym is.published) (fed_lives meaning is.began is.rounds is.old is.new is.before is.after is.end is.nothing is.serves) in
    let first = begins_part lane seen history begins in
    front_of_lives meaning (seen_of lane history) (seen_of lane seen) (entry_values first.rest) all (ap entry_values (sym first.is) ∙ map-append entry_value (part lane seen) first.rest)

pub seen_up : (meaning : Meaning) → LivesAnnounceOfUp meaning → SeenAnnounceOfUp meaning
seen_up meaning of_up lane history seen is begins = of_up (seen_of lane seen) (seen_lives meaning lane history seen is begins)

pub keeps_copy : (meaning : Meaning) → LivesAnnounceOfUp meaning → KeepsCopyOfLane meaning
keeps_copy meaning of_up lane history earlier later copy kept told is first second least few exact tells keeps =
    let more = part_grows lane earlier later first.rest second.rest (first.is ∙ sym second.is) least in
    let grown : seen_of lane later ≡ seen_of lane earlier ++ entry_values more.0 = ap entry_values more.1 ∙ map-append entry_value (part lane earlier) more.0 in
    subst (λ (l : List EntryValue). IsExactOrNone l kept) (sym grown)
    (keeps_exact (seen_of lane earlier) (entry_values more.0) copy kept told
    (subst AnnouncesOfUp grown (seen_up meaning of_up lane history later is second))
    (subst (λ (l : List EntryValue). length (steps_of l) < 2 ^ 64 - 1) grown few)
    exact (subst (λ (l : List EntryValue). Tells l copy told) grown tells) keeps)
