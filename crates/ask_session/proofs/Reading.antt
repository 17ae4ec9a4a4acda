-- What reads leave of what a link tells.
use Rattle.std.proofs.Common.{◌≡◌, ℕ, nat_eq, cond, Bool, true, false, ◌+◌, ◌^◌, ◌<◌, length, take, List, [], ◌++◌, Option, None, Some, Result, Ok, Err, refl, ap, ◌∙◌, subst, length-append, arith}
use Rattle.std.proofs.lemmas.Bool.Decides.{nat_tests}
use Rattle.std.specs.Io.KnownBytes.{Consumes}
use Rattle.bmp_specs.specs.Life.{LastRead, gave, gave_none, failed, Given}
use Rattle.station_doors.specs.Doors.{Reads, GivesBytes, read_of, GivesMore}
use Rattle.station_doors.proofs.Sessions.{given_more_last}
use Rattle.station_doors.proofs.ReadLaws.{consumes_then, keeps_consumes}
use Rattle.wire_io.specs.Aside.{Aside, fresh}
use Rattle.wire_io.specs.declared.sink.Failed.{Failed}
use Rattle.ask_session.specs.Connection.{GivesInput, Stays, ReadsInput}

more_ok : (a b : Option (List Given)) (n : ℕ) (buf : List ℕ) → GivesBytes a b (Ok n) buf → GivesMore a b (take n buf) (read_of n)
more_ok None b n buf p = p
more_ok (Some gs) b n buf p = p

more_err : (a b : Option (List Given)) (e : Failed) (buf : List ℕ) → GivesBytes a b (Err e) buf → GivesMore a b [] failed
more_err None b e buf p = p
more_err (Some gs) b e buf p = p

input_fresh : (a : Option (List Given)) → GivesInput a a fresh
input_fresh None = refl
input_fresh (Some gs) = λ earlier e. ap Some e

input_more : (a b c : Option (List Given)) (input : Given) (piece : List ℕ) (last : LastRead) → GivesInput a b input → GivesMore b c piece last → GivesInput a c (record { bytes = input.bytes ++ piece; last = last })
input_more None b c input piece last p q = subst (λ (o : Option (List Given)). GivesMore o c piece last) p q
input_more (Some gs) b c input piece last p q = λ earlier e.
    subst (λ (o : Option (List Given)). GivesMore o c piece last) (p earlier e) q ∙ ap (λ (l : List Given). Some l) (given_more_last earlier input piece last)

-- what one read leaves, which gave this piece
pub record ReadsPiece (old new : Aside) (piece : List ℕ) (last : LastRead) : Type 0 where
  pub rest : Consumes old.rest new.rest piece
  pub given : GivesMore old.given new.given piece last
  pub taken : old.taken + length piece < 2 ^ 64 → new.taken ≡ old.taken + length piece
  pub stays : Stays old new

stays_of : (old new : Aside) (result : Result ℕ Failed) (buf : List ℕ) → Reads old new result buf → Stays old new
stays_of old new result buf r = record { plan = r.plan; coming = r.coming; opened = r.opened; closed = r.closed; is_open = r.is_open; refused = r.refused; open_faults = r.calm; write_faults = r.writes; laid = r.laid }

stays_self : (a : Aside) → Stays a a
stays_self a = record { plan = refl; coming = refl; opened = refl; closed = refl; is_open = refl; refused = refl; open_faults = refl; write_faults = refl; laid = refl }

stays_then : (a b c : Aside) → Stays a b → Stays b c → Stays a c
stays_then a b c p q = record { plan = q.plan ∙ p.plan; coming = q.coming ∙ p.coming; opened = q.opened ∙ p.opened; closed = q.closed ∙ p.closed; is_open = q.is_open ∙ p.is_open; refused = q.refused ∙ p.refused; open_faults = q.open_faults ∙ p.open_faults; write_faults = q.write_faults ∙ p.write_faults; laid = q.laid ∙ p.laid }

pub piece_ok : (old new : Aside) (n : ℕ) (buf : List ℕ) → Reads old new (Ok n) buf → length (take n buf) ≡ n → ReadsPiece old new (take n buf) (read_of n)
piece_ok old new n buf r len = record {
  rest = r.rest.0;
  given = more_ok old.given new.given n buf r.given;
  taken = λ fits. omega (arith, fits, r.taken, len);
  stays = stays_of old new (Ok n) buf r;
}

pub piece_err : (old new : Aside) (e : Failed) (buf : List ℕ) → Reads old new (Err e) buf → ReadsPiece old new [] failed
piece_err old new e buf r = record {
  rest = keeps_consumes old.rest new.rest r.rest;
  given = more_err old.given new.given e buf r.given;
  taken = λ fits. omega (arith, r.taken);
  stays = stays_of old new (Err e) buf r;
}

pub input_begin : (a : Aside) → ReadsInput a a fresh
input_begin a = record { rest = consumes_self a.rest; given = input_fresh a.given; taken = λ none. none; stays = stays_self a }
  where
    consumes_self : (o : Option (List ℕ)) → Consumes o o []
    consumes_self None = tt
    consumes_self (Some xs) = refl

pub input_then : (a b c : Aside) (input : Given) (piece : List ℕ) (last : LastRead) → ReadsInput a b input → ReadsPiece b c piece last → length input.bytes + length piece < 2 ^ 64 → ReadsInput a c (record { bytes = input.bytes ++ piece; last = last })
input_then a b c input piece last p q fits = record {
  rest = consumes_then a.rest b.rest c.rest input.bytes piece p.rest q.rest;
  given = input_more a.given b.given c.given input piece last p.given q.given;
  taken = λ none. let was = p.taken none in omega (arith, was, q.taken (omega (arith, was, fits)), length-append input.bytes piece);
  stays = stays_then a b c p.stays q.stays;
}

-- a read that gave some bytes
pub read_some : (n : ℕ) → (n ≡ 0 → ⊥) → read_of n ≡ gave
read_some n some = at (nat_eq n 0) refl
  where
    at : (b : Bool) → nat_eq n 0 ≡ b → cond b gave_none gave ≡ gave
    at true e = absurd (some (grind (arith, nat_tests)))
    at false e = refl
