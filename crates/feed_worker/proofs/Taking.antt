-- A connection that is taken to its end and published, read by read.
use Rattle.std.proofs.Common.{◌≡◌, ◌≢◌, inl, inr, ℕ, ◌+◌, ◌<◌, ◌≤◌, length, take, List, [], ◌∷◌, ◌++◌, Option, Some, None, Ok, Err, refl, sym, ◌∙◌, subst, append-nil, length-take, arith}
use Rattle.std.specs.Prelude.{IfSome}
use Rattle.bmp_specs.specs.declared.causes.Cause.{Cause}
use Rattle.bmp_specs.specs.declared.causes.Cause.TheVariants.{ReadFault, Full}
use Rattle.bmp_specs.proofs.Fronts.{read_no_further}
use Rattle.bmp_specs.specs.Life.{gave, gave_none, failed, most_taken, most_read, IsReadNoFurther, cause_at_end}
use Rattle.bmp_specs.specs.Meaning.{Meaning}
use Rattle.bmp_specs.specs.Values.{OpeningValue, opened}
use Rattle.bmp_specs.specs.Walk.{whole}
use Rattle.bmp_message.proofs.Causes.{come_end, come_fault, come_full, come_early_here, undecided}
use Rattle.bmp_message.specs.StreamWalk.{WalkValue, HasReached, rest_of, verdict_with}
use Rattle.cut_publisher.specs.History.{Fed}
use Rattle.rib_model.specs.declared.entry.Entry.{Entry}
use Rattle.rib_model.specs.declared.entry.Entry.TheVariants.{Opened}
use Rattle.rib_model.specs.Entries.{entry_values}
use Rattle.station_doors.specs.Doors.{Reads, AsPlanned}
use Rattle.wire_io.specs.declared.sink.Failed.{Failed}
use Rattle.wire_io.specs.Aside.{Aside}
use Rattle.feed_worker.specs.Connection.{IsNew, TakesConnection, BreaksConnection}
use Rattle.feed_worker.specs.FeedPort.{BeginsAfter, IsPresent, IsPublishedWhereTold}
use Rattle.feed_worker.specs.Front.{IsFront}
use Rattle.feed_worker.specs.Publishing.{Grows}
use Rattle.feed_worker.specs.Walking.{HasPublished, Publishes}
use Rattle.feed_worker.proofs.Ports.{Goes, goes_none, goes_more, takes_going, takes_end, takes_fault, present_told, published_told}
use Rattle.feed_worker.proofs.Growing.{grows_none, grows_values}

-- the bytes taken so far, of a connection that goes on: its opening and their messages are published, and these are the first
-- octets beyond them
pub record Taking {B : Type 0} (meaning : Meaning) (state : B → meaning.State) (came : OpeningValue) (first now : Aside) (pass0 pass : Fed Entry) (taken : ℕ) (walk : WalkValue B) (octets : List ℕ) : Type 0 where
  pub bytes : List ℕ
  pub goes : Goes first now bytes taken
  pub published : HasPublished meaning state came pass0 pass bytes walk
  pub front : IsFront bytes walk.offset octets

-- nothing was taken
nothing_further : (meaning : Meaning) → IsReadNoFurther meaning []
nothing_further meaning = read_no_further meaning [] [] 0 whole (refl, refl) tt [] (omega arith)

pub taking_none : {B : Type 0} (meaning : Meaning) (state : B → meaning.State) (came : OpeningValue) (a : Aside) (pass0 pass : Fed Entry) (walk : WalkValue B) (octets : List ℕ) → IsNew a → Grows pass0 pass (entry_values (Opened came ∷ [])) → HasReached meaning state [] [] walk → (walk.offset ≡ 0) × (walk.cutter.offset + length walk.cutter.pending ≡ 0) → IsFront [] 0 octets → Taking meaning state came a a pass0 pass 0 walk octets
taking_none meaning state came a pass0 pass walk octets new grows reached (place, none) front = record {
  bytes = [];
  goes = goes_none a new;
  published = record {
    messages = [];
    given = record { reached = reached; walks = rw (place, none) (refl, refl) };
    grows = grows;
  };
  front = subst (λ (n : ℕ). IsFront [] n octets) (sym place) front;
}

-- the front that is published ends where the last read began
began_there : (was began : Option ℕ) (taken : ℕ) (front : List ℕ) → BeginsAfter was began taken → length front ≡ taken → IfSome began (λ n. length front ≡ n)
began_there None began taken front begins count = subst (λ (o : Option ℕ). IfSome o (λ n. length front ≡ n)) (sym begins) tt
began_there (Some n) began taken front begins count = subst (λ (o : Option ℕ). IfSome o (λ n. length front ≡ n)) (sym begins) count

-- the opening wasn't published
pub breaks_none : (meaning : Meaning) (came : OpeningValue) (began : Option ℕ) (a : Aside) (pass0 pass : Fed Entry) → IsNew a → pass ≡ pass0 → BreaksConnection meaning came began a a pass0 pass
breaks_none meaning came began a pass0 pass new same = record {
  input = record { bytes = []; last = gave };
  entries = [];
  took = takes_going meaning a a [] 0 (goes_none a new) (nothing_further meaning) (omega arith);
  going = refl;
  begun = inl (refl, refl);
  opening = tt;
  grows = subst (λ (p : Fed Entry). Grows pass0 p []) (sym same) (grows_none pass0);
}

module _ {B : Type 0} (meaning : Meaning) (state : B → meaning.State) (came : OpeningValue) (a0 a : Aside) (pass0 pass : Fed Entry) (n : ℕ) (walk : WalkValue B) (octets : List ℕ) (t : Taking meaning state came a0 a pass0 pass n walk octets) where
  -- a walk that waits was read no further
  waits : IsReadNoFurther meaning t.bytes
  waits = subst (λ (l : List ℕ). IsReadNoFurther meaning l) (append-nil t.bytes) (read_no_further meaning t.bytes t.published.messages walk.offset (verdict_with (rest_of walk)) t.published.given.walks (undecided (rest_of walk)) [] (omega arith))

  -- nothing whole is unpublished
  pub is_published : IsNew a0 → IsPublishedWhereTold meaning (entry_values pass.entries) a.given
  is_published new = published_told meaning (entry_values pass.entries) a0.given a.given t.bytes new.fresh t.goes.given (record {
    before = entry_values pass0.entries;
    messages = t.published.messages;
    offset = walk.offset;
    verdict = verdict_with (rest_of walk);
    came = came;
    walk = t.published.given.walks;
    is = grows_values pass0 pass (opened came ∷ t.published.messages) t.published.grows;
  })

  -- a read gave none
  pub ends : (b : Aside) (buf : List ℕ) (cause : Cause) → Reads a b (Ok 0) buf → 0 < length buf → n < most_taken → cause ≡ cause_at_end (rest_of walk) walk.offset → TakesConnection meaning came a0 b pass0 pass cause
  ends b buf cause r some room is = rw is (record {
    input = record { bytes = t.bytes; last = gave_none };
    messages = t.published.messages;
    took = takes_end meaning a0 a t.bytes n t.goes waits (omega (arith, room)) b buf r some;
    come = come_end meaning t.bytes t.published.messages walk.offset (rest_of walk) (omega (arith, t.goes.count, room)) t.published.given.walks;
    grows = t.published.grows;
  })

  -- a read failed
  pub faults : (b : Aside) (buf : List ℕ) (e : Failed) (c d : ℕ) → Reads a b (Err e) buf → AsPlanned a.plan c d (Err e) → n < most_taken → TakesConnection meaning came a0 b pass0 pass (ReadFault n)
  faults b buf e c d r p room = rw (sym t.goes.count) (record {
    input = record { bytes = t.bytes; last = failed };
    messages = t.published.messages;
    took = takes_fault meaning a0 a t.bytes n t.goes waits (omega (arith, room)) b buf e c d r p;
    come = come_fault meaning t.bytes t.published.messages walk.offset (rest_of walk) (omega (arith, t.goes.count, room)) t.published.given.walks;
    grows = t.published.grows;
  })

  -- the limit of one connection was reached
  pub fills : n ≡ most_taken → TakesConnection meaning came a0 a pass0 pass Full
  fills full = record {
    input = record { bytes = t.bytes; last = gave };
    messages = t.published.messages;
    took = takes_going meaning a0 a t.bytes n t.goes waits (omega (arith, full));
    come = come_full meaning t.bytes t.published.messages walk.offset (rest_of walk) (t.goes.count ∙ full) t.published.given.walks;
    grows = t.published.grows;
  }

  -- a read gave bytes
  module _ (b : Aside) (m : ℕ) (buf : List ℕ) (r : Reads a b (Ok m) buf) (some : m ≢ 0) (within : m ≤ length buf) (size : m ≤ most_read) (room : n + m ≤ most_taken) where
    goes : Goes a0 b (t.bytes ++ take m buf) (n + m)
    goes = goes_more a0 a b t.bytes buf n m t.goes r some within room

    no_further : IsReadNoFurther meaning (t.bytes ++ take m buf)
    no_further = read_no_further meaning t.bytes t.published.messages walk.offset (verdict_with (rest_of walk)) t.published.given.walks (undecided (rest_of walk)) (take m buf) (omega (arith, size, length-take m buf))

    -- they are what the port tells
    pub is_present : IsNew a0 → IsPresent b.given (t.bytes ++ take m buf)
    is_present new = present_told a0.given b.given (t.bytes ++ take m buf) new.fresh goes.given

    -- all their messages were published, and the walk goes on
    pub taking_more : (new : Fed Entry) (after : WalkValue B) (beyond : List ℕ) → Publishes meaning state came pass0 new (t.bytes ++ take m buf) after None → IsFront (t.bytes ++ take m buf) after.offset beyond
        → Taking meaning state came a0 b pass0 new (n + m) after beyond
    taking_more new after beyond p front = record { bytes = t.bytes ++ take m buf; goes = goes; published = record { messages = p.messages; given = p.gives; grows = p.grows }; front = front }

    -- all their messages were published, and the walk ended
    pub ends_early : (new : Fed Entry) (after : WalkValue B) (cause : Cause) → Publishes meaning state came pass0 new (t.bytes ++ take m buf) after (Some cause) → TakesConnection meaning came a0 b pass0 new cause
    ends_early new after cause p = record {
      input = record { bytes = t.bytes ++ take m buf; last = gave };
      messages = p.messages;
      took = takes_going meaning a0 b (t.bytes ++ take m buf) (n + m) goes no_further room;
      come = come_early_here meaning (t.bytes ++ take m buf) p.messages cause gave p.gives (omega (arith, goes.count, room));
      grows = p.grows;
    }

    -- none of their messages was published
    pub breaks : (new : Fed Entry) (was began : Option ℕ) → BeginsAfter was began a.taken → new ≡ pass → BreaksConnection meaning came began a0 b pass0 new
    breaks new was began begins same = record {
      input = record { bytes = t.bytes ++ take m buf; last = gave };
      entries = opened came ∷ t.published.messages;
      took = takes_going meaning a0 b (t.bytes ++ take m buf) (n + m) goes no_further room;
      going = refl;
      begun = inr (record {
        front = t.bytes;
        piece = take m buf;
        split = refl;
        short = omega (arith, size, length-take m buf);
        edge = inr (began_there was began a.taken t.bytes begins (t.goes.count ∙ sym t.goes.taken_is));
        life = record { messages = t.published.messages; offset = walk.offset; verdict = verdict_with (rest_of walk); came = came; within = omega (arith, t.goes.count, room); walk = t.published.given.walks; is = refl };
      });
      opening = refl;
      grows = subst (λ (p : Fed Entry). Grows pass0 p (opened came ∷ t.published.messages)) (sym same) t.published.grows;
    }
