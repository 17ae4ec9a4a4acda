-- One connection after another.
use Rattle.std.proofs.Common.{◌≡◌, ℕ, ◌+◌, ◌*◌, ◌<◌, ◌≤◌, ◌^◌, true, false, List, [], ◌∷◌, ◌++◌, length, Bool, Option, refl, sym, ap, ◌∙◌, subst, append-nil, append_assoc, arith, length-append, inl, inr}
use Rattle.std.specs.Prelude.{MatchBool, nat_lt}
use Rattle.std.proofs.lemmas.Bool.Decides.{nat_tests}
use Rattle.bmp_specs.specs.Meaning.{Meaning}
use Rattle.bmp_specs.specs.Values.{EntryValue, closed}
use Rattle.cut_publisher.specs.History.{Fed}
use Rattle.rib_model.specs.declared.entry.Entry.{Entry}
use Rattle.station_doors.specs.Doors.{Opens, opened_one}
use Rattle.wire_io.specs.Aside.{Aside}
use Rattle.feed_worker.specs.Feed.{Connection, Concludes, IsBegunOf, IsLifeOf, FewRoundsFit, HaveRoom, Refuses, Serves, ServesSome, Stops, Visits, most_entries, lives_of}
use Rattle.feed_worker.specs.Publishing.{Grows}
use Rattle.feed_worker.proofs.Growing.{grows_then, grows_count}
use Rattle.feed_worker.proofs.Lengths.{few_messages}
use Rattle.bmp_specs.specs.Life.{IsLife, LastRead}

-- so many connections were served
pub record ServesSoMany (meaning : Meaning) (old new : Aside) (pass pass' : Fed Entry) (count : ℕ) : Type 0 where
  pub connections : List Connection
  pub serves : Serves meaning old new connections
  pub count_is : count ≡ length connections
  pub room : HaveRoom (length pass.entries) connections
  pub grows : Grows pass pass' (lives_of connections)

lives_push : (cs : List Connection) (c : Connection) → lives_of (cs ++ c ∷ []) ≡ lives_of cs ++ c.life
lives_push [] c = append-nil c.life
lives_push (x ∷ cs) c = ap (λ (l : List EntryValue). x.life ++ l) (lives_push cs c) ∙ sym (append_assoc x.life (lives_of cs) c.life)

serves_push : (meaning : Meaning) (cs : List Connection) (a b : Aside) (c : Connection) → Serves meaning a b cs → Visits meaning b c → IsLife meaning c.input.bytes c.input.last c.life → Serves meaning a c.closed (cs ++ c ∷ [])
serves_push meaning [] a b c same v life = (subst (λ (x : Aside). Visits meaning x c) same v, life, refl)
serves_push meaning (x ∷ cs) a b c (visit, whole, rest) v life = (visit, whole, serves_push meaning cs x.closed b c rest v life)

room_push : (count : ℕ) (cs : List Connection) (c : Connection) → HaveRoom count cs → count + length (lives_of cs) ≤ most_entries → HaveRoom count (cs ++ c ∷ [])
room_push count [] c room fits = (omega (arith, fits), tt)
room_push count (x ∷ cs) c room fits = (room.0, room_push (count + length x.life) cs c room.1 (omega (arith, fits, length-append x.life (lives_of cs))))

-- the life of one connection has few entries, and so have those of many
pub few_entries : (meaning : Meaning) (bytes : List ℕ) (last : LastRead) (life : List EntryValue) → IsLife meaning bytes last life → 6 * length life ≤ 2 ^ 46 + 12
few_entries meaning bytes last life l = omega (arith, few_messages meaning bytes l.messages l.offset l.verdict l.walk, l.within, ap length l.is, length-append l.messages (closed (record { cause = l.cause; until = l.until }) ∷ []))

few_lives : (meaning : Meaning) (cs : List Connection) (a b : Aside) → Serves meaning a b cs → 6 * length (lives_of cs) ≤ length cs * (2 ^ 46 + 12)
few_lives meaning [] a b s = omega arith
few_lives meaning (c ∷ cs) a b (visit, life, rest) = omega (arith, few_entries meaning c.input.bytes c.input.last c.life life, few_lives meaning cs c.closed b rest, length-append c.life (lives_of cs))

module _ (meaning : Meaning) (a b : Aside) (pass0 pass : Fed Entry) (n : ℕ) (s : ServesSoMany meaning a b pass0 pass n) where
  -- the pass has no more than may begin a round
  room_more : (one : Connection) → length pass.entries ≤ most_entries → HaveRoom (length pass0.entries) (s.connections ++ one ∷ [])
  room_more one fits = room_push (length pass0.entries) s.connections one s.room (omega (arith, fits, grows_count pass0 pass (lives_of s.connections) s.grows))

  -- one more was opened
  module _ (fits : length pass.entries ≤ most_entries) (c d : Aside) (opens : Opens b c opened_one) (new : Fed Entry) where
    pub serves_more : Concludes meaning (IsLifeOf meaning) c d pass new → ServesSoMany meaning a d pass0 new (n + 1)
    serves_more t =
        let one : Connection = record { opened = c; taken = t.taken; closed = d; input = t.input; life = t.entries } in
        record {
          connections = s.connections ++ one ∷ [];
          serves = serves_push meaning s.connections a b one s.serves (record { opens = opens; takes = t.takes; closes = t.closes }) t.is_of;
          count_is = omega (arith, s.count_is, length-append s.connections (one ∷ []));
          room = room_more one fits;
          grows = subst (λ (l : List EntryValue). Grows pass0 new l) (sym (lives_push s.connections one)) (grows_then pass0 pass new (lives_of s.connections) t.entries s.grows t.grows);
        }

    -- and memory ran out
    pub serves_some : (began : Option ℕ) (rounds : ℕ) → n < rounds → Concludes meaning (IsBegunOf meaning began) c d pass new → ServesSome meaning began rounds a d pass0 new
    serves_some began rounds few t = record {
      connections = s.connections;
      after = b;
      serves = s.serves;
      few = omega (arith, few, s.count_is);
      room = room_more (record { opened = c; taken = t.taken; closed = d; input = t.input; life = t.entries }) fits;
      last = record { opened = c; taken = t.taken; closed = d; input = t.input; life = t.entries };
      visits = record { opens = opens; takes = t.takes; closes = t.closes };
      begun = t.is_of;
      closed = refl;
      grows = grows_then pass0 pass new (lives_of s.connections) t.entries s.grows t.grows;
    }

-- so many connections have few entries
few_fit : (meaning : Meaning) (cs : List Connection) (a b : Aside) (pass pass' : Fed Entry) → Serves meaning a b cs → Grows pass pass' (lives_of cs) → length cs ≤ 4096 → pass.entries ≡ [] → length pass'.entries ≤ most_entries
few_fit meaning cs a b pass pass' s g few none = omega (arith, few, few_lives meaning cs a b s, grows_count pass pass' (lives_of cs) g, ap length none)

pub few_served : (rounds count : ℕ) (P Q : Type 0) → MatchBool (nat_lt count rounds) P ((count ≡ rounds) × Q) → count ≤ rounds
few_served rounds count P Q stop = go (nat_lt count rounds) refl stop
  where
    go : (b : Bool) → nat_lt count rounds ≡ b → MatchBool b P ((count ≡ rounds) × Q) → count ≤ rounds
    go true is p = grind (arith, nat_tests, is)
    go false is p = omega (arith, p.0)

-- so the port refused, where fewer than the rounds were served
pub refused_early : (b : Bool) (after new : Aside) (pass : Fed Entry) (Q : Type 0) → length pass.entries ≤ most_entries → MatchBool b (Stops after new pass) Q → MatchBool b (Refuses after new) Q
refused_early true after new pass Q fits (inl refuses) = refuses
refused_early true after new pass Q fits (inr (many, same)) = absurd (omega (arith, fits, many))
refused_early false after new pass Q fits all = all

pub few_rounds_fit : (meaning : Meaning) → FewRoundsFit meaning
few_rounds_fit meaning rounds old new pass pass' few none s =
    let all : length s.connections ≤ rounds = few_served rounds (length s.connections) _ _ s.stop in
    let fits = few_fit meaning s.connections old s.after pass pass' s.serves s.grows (omega (arith, all, few)) none in
    refused_early (nat_lt (length s.connections) rounds) s.after new pass' _ fits s.stop
