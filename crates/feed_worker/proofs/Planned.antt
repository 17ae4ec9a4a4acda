-- The connections of a port whose plan fails no call.
use Rattle.std.proofs.Common.{◌≡◌, ℕ, ◌+◌, ◌*◌, ◌^◌, ◌≤◌, Bool, true, false, List, [], ◌∷◌, ◌++◌, length, take, zero, suc, Option, Some, None, Result, Ok, Err, refl, sym, ap, ◌∙◌, subst, append-nil, arith, length-append}
use Rattle.std.specs.Prelude.{IfSome, MatchBool, OnErr, nat_lt}
use Rattle.std.specs.Io.KnownBytes.{Consumes, IsAtEnd}
use Rattle.std.proofs.Math.Seq.{take-append_seam}
use Rattle.std.proofs.lemmas.List.{length-map, take_all}
use Rattle.std.proofs.lemmas.Bool.Decides.{nat_tests}
use Rattle.bmp_specs.specs.Life.{IsLife, gave_none, most_taken}
use Rattle.bmp_specs.specs.Meaning.{Meaning}
use Rattle.bmp_specs.specs.Values.{EntryValue}
use Rattle.rib_model.specs.declared.entry.Entry.{Entry}
use Rattle.rib_model.specs.Entries.{entry_value, entry_values}
use Rattle.station_doors.specs.Doors.{OpensNext, untouched, IsRefusal, opened_one}
use Rattle.station_doors.proofs.ReadLaws.{front_of}
use Rattle.wire_io.specs.Aside.{Aside, Plan}
use Rattle.wire_io.specs.declared.sink.Failed.{Failed}
use Rattle.feed_worker.specs.Feed.{Connection, Refuses, Serves, Visits, lives_of, most_entries}
use Rattle.feed_worker.specs.Planned.{AreWholeLives, FewLivesFit, IsWholeLife, PublishesPlan}
use Rattle.feed_worker.proofs.Growing.{grows_values}
use Rattle.feed_worker.proofs.Serving.{few_entries, few_served, refused_early}
use Rattle.feed_worker.proofs.WholeLives.{whole_life}

next_one : (connections : List (List ℕ)) (after : Option (List (List ℕ))) (rest : Option (List ℕ)) → OpensNext (Some connections) after rest opened_one
    → (b : List ℕ) × (others : List (List ℕ)) × (rest ≡ Some b) × (after ≡ Some others) × (connections ≡ b ∷ others)
next_one connections None rest p = absurd p
next_one connections (Some after) None p = absurd p
next_one connections (Some after) (Some b) p = (b, after, refl, refl, p)

-- a connection that was served, and what is to come after it
record IsVisited (meaning : Meaning) (plan : Plan) (connections : List (List ℕ)) (life : List EntryValue) (new : Aside) : Type 0 where
  bytes : List ℕ
  others : List (List ℕ)
  are : connections ≡ bytes ∷ others
  whole : IsWholeLife meaning bytes life
  planned : new.plan ≡ Some plan
  coming : new.coming ≡ Some others

visited : (meaning : Meaning) (old : Aside) (c : Connection) (plan : Plan) (connections : List (List ℕ)) → Visits meaning old c → IsLife meaning c.input.bytes c.input.last c.life → old.plan ≡ Some plan → plan.fails ≡ [] → old.coming ≡ Some connections
    → IsVisited meaning plan connections c.life c.closed
visited meaning old c plan connections v life planned none coming =
    let next = next_one connections c.opened.coming c.opened.rest (subst (λ (o : Option (List (List ℕ))). OpensNext o c.opened.coming c.opened.rest opened_one) coming v.opens.coming) in
    let front = front_of next.0 c.taken.rest c.input.bytes (subst (λ (o : Option (List ℕ)). Consumes o c.taken.rest c.input.bytes) next.2 v.takes.rest) in
    record {
      bytes = next.0;
      others = next.1;
      are = next.4;
      whole = whole_life meaning next.0 c.input.bytes front.0 c.input.last c.life front.1 (λ e. front.2 (v.takes.end e)) (λ e. subst (λ (o : Option Plan). IfSome o (λ p. p.fails ≡ [] → ⊥)) (v.opens.plan ∙ planned) (v.takes.planned e) none) life;
      planned = ap (λ (x : Aside). x.plan) v.closes.same ∙ v.takes.plan ∙ v.opens.plan ∙ planned;
      coming = ap (λ (x : Aside). x.coming) v.closes.same ∙ v.takes.coming ∙ next.3;
    }

-- so many of the connections to come were served
record AreVisited (meaning : Meaning) (plan : Plan) (connections : List (List ℕ)) (count : ℕ) (entries : List EntryValue) (new : Aside) : Type 0 where
  given : List (List ℕ)
  left : List (List ℕ)
  split : connections ≡ given ++ left
  count_is : length given ≡ count
  lives : AreWholeLives meaning given entries
  planned : new.plan ≡ Some plan
  coming : new.coming ≡ Some left

all_visited : (meaning : Meaning) (cs : List Connection) (old new : Aside) (plan : Plan) (connections : List (List ℕ)) → Serves meaning old new cs → old.plan ≡ Some plan → plan.fails ≡ [] → old.coming ≡ Some connections
    → AreVisited meaning plan connections (length cs) (lives_of cs) new
all_visited meaning [] old new plan connections same planned none coming = record { given = []; left = connections; split = refl; count_is = refl; lives = refl; planned = ap (λ (x : Aside). x.plan) same ∙ planned; coming = ap (λ (x : Aside). x.coming) same ∙ coming }
all_visited meaning (c ∷ cs) old new plan connections (visit, life, rest) planned none coming =
    let one = visited meaning old c plan connections visit life planned none coming in
    let more = all_visited meaning cs c.closed new plan one.others rest one.planned none one.coming in
    record {
      given = one.bytes ∷ more.given;
      left = more.left;
      split = one.are ∙ ap (λ (l : List (List ℕ)). one.bytes ∷ l) more.split;
      count_is = omega (arith, more.count_is);
      lives = (c.life, lives_of cs, one.whole, more.lives, refl);
      planned = more.planned;
      coming = more.coming;
    }

none_to_come : (left : List (List ℕ)) (coming : Option (List (List ℕ))) (rest : Option (List ℕ)) → OpensNext (Some left) coming rest (Ok false) → left ≡ []
none_to_come left None rest o = absurd o
none_to_come left (Some after) None o = o.0
none_to_come left (Some after) (Some b) o = o.0

-- the port gave no further connection, since none was to come
no_more : (after new : Aside) (plan : Plan) (left : List (List ℕ)) → after.plan ≡ Some plan → after.coming ≡ Some left → plan.fails ≡ [] → Refuses after new → left ≡ []
no_more after new plan left planned coming none r = at r.result r.refused r.planned (subst (λ (o : Option (List (List ℕ))). OpensNext o new.coming new.rest r.result) coming r.opens.coming)
  where
    at : (result : Result Bool Failed) → IsRefusal result → IfSome after.plan (λ p. OnErr result (p.fails ≡ [] → ⊥)) → OpensNext (Some left) new.coming new.rest result → left ≡ []
    at (Ok true) gives p o = absurd gives
    at (Ok false) gives p o = none_to_come left new.coming new.rest o
    at (Err e) gives p o = absurd (subst (λ (q : Option Plan). IfSome q (λ x. x.fails ≡ [] → ⊥)) planned p none)

all_given : (b : Bool) (n rounds : ℕ) (after new : Aside) (given left connections : List (List ℕ)) (plan : Plan) → nat_lt n rounds ≡ b → connections ≡ given ++ left → length given ≡ n → after.plan ≡ Some plan → after.coming ≡ Some left → plan.fails ≡ []
    → MatchBool b (Refuses after new) ((n ≡ rounds) × (new ≡ after)) → given ≡ take rounds connections
all_given true n rounds after new given left connections plan test split count planned coming none refuses =
    let gone : left ≡ [] = no_more after new plan left planned coming none refuses in
    let all : connections ≡ given = split ∙ ap (λ (l : List (List ℕ)). given ++ l) gone ∙ append-nil given in
    let short : length given ≤ rounds = grind (arith, nat_tests, test, count) in
    sym (ap (λ (l : List (List ℕ)). take rounds l) all ∙ take_all rounds given short)
all_given false n rounds after new given left connections plan test split count planned coming none stop =
    sym (ap (λ (l : List (List ℕ)). take rounds l) split ∙ ap (λ (k : ℕ). take k (given ++ left)) (sym (count ∙ stop.0)) ∙ take-append_seam given left)

-- the connections that were given are the first
given_first : (n : ℕ) (given left connections : List (List ℕ)) → connections ≡ given ++ left → length given ≡ n → given ≡ take n connections
given_first n given left connections split count =
    sym (ap (λ (l : List (List ℕ)). take n l) split ∙ ap (λ (k : ℕ). take k (given ++ left)) (sym count) ∙ take-append_seam given left)

pub publishes_plan : (meaning : Meaning) → PublishesPlan meaning
publishes_plan meaning rounds plan new pass pass' fits none empty s =
    let v = all_visited meaning s.connections (untouched plan) s.after plan plan.connections s.serves refl none refl in
    let entries : entry_values pass'.entries ≡ lives_of s.connections = grows_values pass pass' (lives_of s.connections) s.grows ∙ ap (λ (l : List Entry). entry_values l ++ lives_of s.connections) empty in
    let served : length s.connections ≤ rounds = few_served rounds (length s.connections) _ _ s.stop in
    let first : v.given ≡ take (length s.connections) plan.connections = given_first (length s.connections) v.given v.left plan.connections v.split v.count_is in
    let room : length (lives_of s.connections) ≤ most_entries = fits (length s.connections) (lives_of s.connections) served (subst (λ (l : List (List ℕ)). AreWholeLives meaning l (lives_of s.connections)) first v.lives) in
    let count : length pass'.entries ≡ length (lives_of s.connections) = sym (length-map pass'.entries entry_value) ∙ ap (λ (l : List EntryValue). length l) entries in
    let stop = refused_early (nat_lt (length s.connections) rounds) s.after new pass' _ (omega (arith, room, count)) s.stop in
    let all : v.given ≡ take rounds plan.connections = all_given (nat_lt (length s.connections) rounds) (length s.connections) rounds s.after new v.given v.left plan.connections plan refl v.split v.count_is v.planned v.coming none stop in
    subst (λ (l : List EntryValue). AreWholeLives meaning (take rounds plan.connections) l) (sym entries) (subst (λ (l : List (List ℕ)). AreWholeLives meaning l (lives_of s.connections)) all v.lives)

-- the lives of so many connections have few entries
few_whole : (meaning : Meaning) (connections : List (List ℕ)) (entries : List EntryValue) → AreWholeLives meaning connections entries → 6 * length entries ≤ length connections * (2 ^ 46 + 12)
few_whole meaning [] entries none = omega (arith, ap (λ (l : List EntryValue). length l) none)
few_whole meaning (bytes ∷ connections) entries (life, rest, whole, others, is) =
    omega (arith, few_entries meaning (take most_taken bytes) gave_none life whole, few_whole meaning connections rest others, ap (λ (l : List EntryValue). length l) is, length-append life rest)

fewer_taken : (n rounds : ℕ) (connections : List (List ℕ)) → n ≤ rounds → length (take n connections) ≤ length (take rounds connections)
fewer_taken zero rounds connections within = omega arith
fewer_taken (suc n) zero connections within = absurd (omega (arith, within))
fewer_taken (suc n) (suc rounds) [] within = omega arith
fewer_taken (suc n) (suc rounds) (c ∷ connections) within = omega (arith, fewer_taken n rounds connections (omega (arith, within)))

pub few_lives_fit : (meaning : Meaning) → FewLivesFit meaning
few_lives_fit meaning rounds plan few n entries within whole =
    omega (arith, few_whole meaning (take n plan.connections) entries whole, fewer_taken n rounds plan.connections within, few)
