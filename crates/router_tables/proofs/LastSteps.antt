-- What one more entry makes of the last connection.
use Rattle.std.proofs.Common.{◌≡◌, List, [], ◌∷◌, ◌++◌, Option, Some, None, sym, ap, subst, ◌∙◌}
use Rattle.std.specs.Prelude.{flat_map}
use Rattle.bmp_specs.specs.declared.causes.Cause.{Cause}
use Rattle.bmp_specs.specs.Counts.{CountsValue, counts_of}
use Rattle.bmp_specs.specs.Session.{LaneStateValue, idle, live, shut, description_of, effects_in, name_of, session_effects, session_messages, state_of}
use Rattle.bmp_specs.specs.Values.{ClosingValue, EffectValue, EntryValue, HeadValue, OpeningValue, opened, message, closed}
use Rattle.bmp_specs.proofs.SessionLaws.{state_after_closing, state_after_message, state_after_opening, state_stays_idle}
use Rattle.ask_specs.specs.Connection.{last_effects, last_messages, passed_of}
use Rattle.ask_specs.specs.FullRouters.{IsLastConnection}
use Rattle.ask_specs.proofs.LastOne.{came_after_closing, came_after_message, came_after_opening, last_after_closing, last_after_message, last_after_opening, last_counts_by, last_counts_present, last_is_present, last_stays, until_after_closing, until_after_message, until_after_opening, until_stays_idle}
use Rattle.peer_book.specs.Standing.{AreUp}
use Rattle.router_tables.specs.Books.{BooksValue, StandsForBooks}
use Rattle.router_tables.specs.Last.{IsLeft, LastValue, LeftValue, StandsForLast, StandsForLeft}

-- ---- what is left stays, where no message comes
left_stays : (left : LeftValue) (a b : List EntryValue) → last_messages a ≡ last_messages b → StandsForLeft left a → StandsForLeft left b
left_stays left a b is h =
    let told : last_effects a ≡ last_effects b = ap (flat_map effects_in) is in
    record {
      peers = subst (AreUp left.peers) told h.peers;
      counts = h.counts ∙ last_counts_by a b is;
      name = h.name ∙ ap name_of told;
      description = h.description ∙ ap description_of told;
    }

still_left : (s : LaneStateValue) (left : Option LeftValue) (a b : List EntryValue) → last_messages a ≡ last_messages b → IsLeft s left a → IsLeft s left b
still_left idle left a b is h = h
still_left live left a b is h = h
still_left (shut cause) left a b is h = (h.0, h.1, left_stays h.0 a b is h.2)

-- ---- an opening begins one
pub last_opened : (last : LastValue) (came : OpeningValue) → last.came ≡ came → last.until ≡ None → last.passed ≡ passed_of [] → last.left ≡ None
    → (entries : List EntryValue) → StandsForLast last (entries ++ opened came ∷ [])
last_opened last came came_is until passed left entries = record {
  came = came_is ∙ sym (came_after_opening entries came);
  until = until ∙ sym (until_after_opening entries came);
  passed = passed ∙ ap passed_of (sym (last_after_opening entries came));
  left = subst (λ (s : LaneStateValue). IsLeft s last.left (entries ++ opened came ∷ [])) (sym (state_after_opening entries came)) left;
}

-- ---- a message joins an open one
pub last_message : (old new : LastValue) (head : HeadValue) (effects : List EffectValue) → new.came ≡ old.came → new.until ≡ old.until → new.left ≡ old.left
    → ((messages : List EntryValue) → old.passed ≡ passed_of messages → new.passed ≡ passed_of (messages ++ message head effects ∷ []))
    → (entries : List EntryValue) → state_of entries ≡ live → StandsForLast old entries → StandsForLast new (entries ++ message head effects ∷ [])
last_message old new head effects came until left passed entries is_live h = record {
  came = came ∙ h.came ∙ sym (came_after_message entries head effects);
  until = until ∙ h.until ∙ sym (until_after_message entries head effects);
  passed = passed (last_messages entries) h.passed ∙ ap passed_of (sym (last_after_message entries head effects is_live));
  left =
      let none : old.left ≡ None = subst (λ (s : LaneStateValue). IsLeft s old.left entries) is_live h.left in
      subst (λ (s : LaneStateValue). IsLeft s new.left (entries ++ message head effects ∷ [])) (sym (state_after_message entries head effects ∙ is_live)) (left ∙ none);
}

-- and goes nowhere, where none is open
pub last_unheard : (last : LastValue) (head : HeadValue) (effects : List EffectValue) (entries : List EntryValue) → (state_of entries ≡ live → ⊥)
    → StandsForLast last entries → StandsForLast last (entries ++ message head effects ∷ [])
last_unheard last head effects entries isnt_live h =
    let same : last_messages entries ≡ last_messages (entries ++ message head effects ∷ []) = sym (last_stays entries head effects isnt_live) in
    record {
      came = h.came ∙ sym (came_after_message entries head effects);
      until = h.until ∙ sym (until_after_message entries head effects);
      passed = h.passed ∙ ap passed_of same;
      left =
          subst (λ (s : LaneStateValue). IsLeft s last.left (entries ++ message head effects ∷ [])) (sym (state_after_message entries head effects))
          (still_left (state_of entries) last.left entries (entries ++ message head effects ∷ []) same h.left);
    }

-- ---- a closing
module _ (closing : ClosingValue) (entries : List EntryValue) where
  same : last_messages entries ≡ last_messages (entries ++ closed closing ∷ [])
  same = sym (last_after_closing entries closing)

  -- tells nothing where none was opened
  pub closed_idle : (last : LastValue) → idle ≡ state_of entries → StandsForLast last entries → StandsForLast last (entries ++ closed closing ∷ [])
  closed_idle last is h = record {
    came = h.came ∙ sym (came_after_closing entries closing);
    until = h.until ∙ sym (until_stays_idle entries closing (sym is));
    passed = h.passed ∙ ap passed_of same;
    left =
        let none : last.left ≡ None = subst (λ (s : LaneStateValue). IsLeft s last.left entries) (sym is) h.left in
        subst (λ (s : LaneStateValue). IsLeft s last.left (entries ++ closed closing ∷ [])) (sym (state_stays_idle entries closing (sym is))) none;
  }

  -- ends an open one
  pub closed_live : (old new : LastValue) (left : LeftValue) → live ≡ state_of entries → new.came ≡ old.came → new.until ≡ closing.until → new.passed ≡ old.passed → new.left ≡ Some left
      → StandsForLeft left entries → StandsForLast old entries → StandsForLast new (entries ++ closed closing ∷ [])
  closed_live old new left is came until passed left_is stands h =
      let ever : (state_of entries ≡ idle → ⊥) = (λ idle_is. let e : live ≡ idle = is ∙ idle_is in cc) in
      record {
        came = came ∙ h.came ∙ sym (came_after_closing entries closing);
        until = until ∙ sym (until_after_closing entries closing ever);
        passed = passed ∙ h.passed ∙ ap passed_of same;
        left = subst (λ (s : LaneStateValue). IsLeft s new.left (entries ++ closed closing ∷ [])) (sym (state_after_closing entries closing ever))
            (left, left_is, left_stays left entries (entries ++ closed closing ∷ []) same stands);
      }

  -- and of a closed one says when it was
  pub closed_shut : (old new : LastValue) (cause : Cause) → shut cause ≡ state_of entries → new.came ≡ old.came → new.until ≡ closing.until → new.passed ≡ old.passed → new.left ≡ old.left
      → StandsForLast old entries → StandsForLast new (entries ++ closed closing ∷ [])
  closed_shut old new cause is came until passed left h =
      let ever : (state_of entries ≡ idle → ⊥) = (λ idle_is. let e : shut cause ≡ idle = is ∙ idle_is in cc) in
      let was : IsLeft (shut cause) old.left entries = subst (λ (s : LaneStateValue). IsLeft s old.left entries) (sym is) h.left in
      record {
        came = came ∙ h.came ∙ sym (came_after_closing entries closing);
        until = until ∙ sym (until_after_closing entries closing ever);
        passed = passed ∙ h.passed ∙ ap passed_of same;
        left = subst (λ (s : LaneStateValue). IsLeft s new.left (entries ++ closed closing ∷ [])) (sym (state_after_closing entries closing ever))
            (was.0, left ∙ was.1, left_stays was.0 entries (entries ++ closed closing ∷ []) same was.2);
      }

-- ---- what it is
-- what the present session leaves, where its connection is the last one
pub left_present : (left : LeftValue) (books : BooksValue) (counts : CountsValue) (entries : List EntryValue) → AreUp left.peers (session_effects entries) → left.counts ≡ counts → left.name ≡ books.name → left.description ≡ books.description
    → last_messages entries ≡ session_messages entries → counts ≡ counts_of entries → StandsForBooks books (session_effects entries) → StandsForLeft left entries
left_present left books counts entries up counts_are name description is counted h =
    let told : session_effects entries ≡ last_effects entries = sym (ap (flat_map effects_in) is) in
    record {
      peers = subst (AreUp left.peers) told up;
      counts = counts_are ∙ counted ∙ sym (last_counts_present entries is);
      name = name ∙ h.name ∙ ap name_of told;
      description = description ∙ h.description ∙ ap description_of told;
    }

connection_is : (last : LastValue) (left : LeftValue) (entries : List EntryValue) → StandsForLast last entries → StandsForLeft left entries
    → IsLastConnection entries (record { came = last.came; until = last.until; up = left.peers; counts = left.counts; name = left.name; descr = left.description; passed = last.passed })
connection_is last left entries h l = record {
  came_is = h.came;
  until_is = h.until;
  known = l.peers.known;
  are_up = l.peers.all;
  up_is = l.peers.told;
  counts_are = l.counts;
  name_is = l.name;
  descr_is = l.description;
  passed_is = h.passed;
}

-- of a closed one
pub connection_closed : (last : LastValue) (left : LeftValue) → last.left ≡ Some left → (entries : List EntryValue) → StandsForLast last entries
    → IsLastConnection entries (record { came = last.came; until = last.until; up = left.peers; counts = left.counts; name = left.name; descr = left.description; passed = last.passed })
connection_closed last left is entries h = go (state_of entries) h.left
  where
    go : (s : LaneStateValue) → IsLeft s last.left entries → IsLastConnection entries (record { came = last.came; until = last.until; up = left.peers; counts = left.counts; name = left.name; descr = left.description; passed = last.passed })
    go idle none = absurd (let e : Some left ≡ None = sym is ∙ none in cc)
    go live none = absurd (let e : Some left ≡ None = sym is ∙ none in cc)
    go (shut cause) there =
        let same : there.0 ≡ left = (let e : Some there.0 ≡ Some left = sym there.1 ∙ is in cc) in
        connection_is last left entries h (subst (λ (l : LeftValue). StandsForLeft l entries) same there.2)

-- and of one that is open, or was never there
pub connection_open : (last : LastValue) (left : LeftValue) (books : BooksValue) (counts : CountsValue) → last.left ≡ None → (entries : List EntryValue) → AreUp left.peers (session_effects entries)
    → left.counts ≡ counts → left.name ≡ books.name → left.description ≡ books.description → counts ≡ counts_of entries → StandsForBooks books (session_effects entries) → StandsForLast last entries
    → IsLastConnection entries (record { came = last.came; until = last.until; up = left.peers; counts = left.counts; name = left.name; descr = left.description; passed = last.passed })
connection_open last left books counts is entries up counts_are name description counted told h =
    connection_is last left entries h (left_present left books counts entries up counts_are name description (last_is_present entries (λ cause shut_is. not_shut cause shut_is)) counted told)
  where
    not_shut : (cause : Cause) → state_of entries ≡ shut cause → ⊥
    not_shut cause shut_is =
        let there = subst (λ (s : LaneStateValue). IsLeft s last.left entries) shut_is h.left in
        let e : Some there.0 ≡ None = sym there.1 ∙ is in cc
