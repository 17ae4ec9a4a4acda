-- A connection that was taken is closed.
use Rattle.std.proofs.Common.{◌≡◌, inl, inr, ℕ, ◌+◌, ◌<◌, ◌≤◌, ◌^◌, List, [], ◌∷◌, ◌++◌, length, Result, Ok, Err, Some, None, Option, refl, sym, subst, append-nil, arith}
use Rattle.std.specs.Prelude.{MatchResult}
use Rattle.bmp_specs.specs.declared.causes.Cause.{Cause}
use Rattle.bmp_specs.specs.Life.{Given}
use Rattle.bmp_specs.specs.Meaning.{Meaning}
use Rattle.bmp_specs.specs.Values.{OpeningValue, opened, closed}
use Rattle.cut_publisher.specs.History.{Fed}
use Rattle.rib_model.specs.declared.entry.Entry.{Entry}
use Rattle.station_doors.specs.Doors.{Closes, GivesNext, opened_one}
use Rattle.wire_io.specs.Aside.{Aside}
use Rattle.feed_worker.specs.Connection.{BreaksConnection, EndsFresh, TakesConnection}
use Rattle.feed_worker.specs.Feed.{Concludes, IsBegunOf, IsLifeOf}
use Rattle.feed_worker.specs.Publishing.{Grows}
use Rattle.feed_worker.proofs.Growing.{grows_then, grows_count}
use Rattle.feed_worker.proofs.Lengths.{few_messages}

-- both answers of a call
pub both_answers : {A E : Type 0} {P Q : A → Type 0} {R S : E → Type 0} (r : Result A E) → MatchResult r P R → ((a : A) → P a → Q a) → ((e : E) → R e → S e) → MatchResult r Q S
both_answers (Ok a) m f h = f a m
both_answers (Err e) m f h = h e m

-- a connection that was opened
opened_fresh : (a b : Option (List Given)) → GivesNext a b opened_one → EndsFresh b
opened_fresh None b p = subst EndsFresh (sym p) tt
opened_fresh (Some gs) b p = subst EndsFresh (sym p) (gs, refl)

module _ (meaning : Meaning) (came : OpeningValue) (a b : Aside) (pass0 pass : Fed Entry) (cause : Cause) (t : TakesConnection meaning came a b pass0 pass cause) where
  -- there is room for the closing
  pub closing_fits : length pass0.entries + 2 ^ 44 ≤ 2 ^ 57 → length pass.entries < 2 ^ 57
  closing_fits room = omega (arith, room, grows_count pass0 pass (opened came ∷ t.messages) t.grows, few_messages meaning t.input.bytes t.messages t.come.offset t.come.verdict t.come.walk, t.come.within)

  pub concludes : (until : Option ℕ) (c : Aside) (new : Fed Entry) → Closes b c → Grows pass new (closed (record { cause = cause; until = until }) ∷ []) → Concludes meaning (IsLifeOf meaning) a c pass0 new
  concludes until c new shut grows = record {
    taken = b;
    input = t.input;
    entries = opened came ∷ (t.messages ++ closed (record { cause = cause; until = until }) ∷ []);
    takes = t.took;
    closes = shut;
    is_of = record { messages = t.messages; offset = t.come.offset; verdict = t.come.verdict; cause = cause; came = came; until = until; within = t.come.within; walk = t.come.walk; because = t.come.because; is = refl };
    grows = grows_then pass0 pass new (opened came ∷ t.messages) (closed (record { cause = cause; until = until }) ∷ []) t.grows grows;
  }

  -- the closing wasn't published
  pub concludes_unclosed : (began : Option ℕ) (c : Aside) (new : Fed Entry) → Closes b c → new ≡ pass → Concludes meaning (IsBegunOf meaning began) a c pass0 new
  concludes_unclosed began c new shut same = record {
    taken = b;
    input = t.input;
    entries = opened came ∷ t.messages;
    takes = t.took;
    closes = shut;
    is_of = inr (record {
      front = t.input.bytes;
      piece = [];
      split = sym (append-nil t.input.bytes);
      short = omega arith;
      edge = inl refl;
      life = record { messages = t.messages; offset = t.come.offset; verdict = t.come.verdict; came = came; within = t.come.within; walk = t.come.walk; is = refl };
    });
    grows = subst (λ (p : Fed Entry). Grows pass0 p (opened came ∷ t.messages)) (sym same) t.grows;
  }

-- memory ran out as it was taken
pub concludes_broken : (meaning : Meaning) (came : OpeningValue) (began : Option ℕ) (a b c : Aside) (pass0 new : Fed Entry) → BreaksConnection meaning came began a b pass0 new → Closes b c → Concludes meaning (IsBegunOf meaning began) a c pass0 new
concludes_broken meaning came began a b c pass0 new t shut = record { taken = b; input = t.input; entries = t.entries; takes = t.took; closes = shut; is_of = t.begun; grows = t.grows }
