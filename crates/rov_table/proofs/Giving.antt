-- What a reader gives next.
use Rattle.std.proofs.Common.{◌≡◌, ℕ, List, [], ◌∷◌, Some, Bool, true, false, Result, Ok, Err, IfOk, OnOk, refl, sym, ap, subst, ◌∙◌, inl, true≢false}
use Rattle.std.specs.Borrow.{Bor}
use Rattle.std.proofs.lemmas.Bool.{false≢true}
use Rattle.csv.specs.Machine.{Read, ends_at_end, next_record}
use Rattle.csv.specs.Reading.{Reached, ReadRecord, Ready, default_config, is_flexible, reader_config, reader_state, reader_trim, records_from, source_of, took_first}
use Rattle.csv.specs.declared.error.Error.{Error}
use Rattle.csv.specs.declared.parser.State.{State}
use Rattle.csv.specs.declared.reader.Reader.{Reader}
use Rattle.csv.specs.declared.reader.Trim.TheVariants as trim
use Rattle.csv.proofs.ReadFacts.{rows-end, rows-more}
use Rattle.rov_table.specs.Records.{left_of, Gives, GivesNext}
use Rattle.rov_table.proofs.Taken.{takes, records_go, records_end}

-- the record that was read, by the text
record Found (rdr : Reader (Bor (List ℕ))) (fields : List (List ℕ)) (s : State) (text : List ℕ) : Type 0 where
  after : Read
  is : next_record default_config s [] [] text ≡ Some after
  same : fields ≡ after.0
  state : after.1 ≡ reader_state rdr
  source : source_of left_of rdr ≡ Some after.2

found : (a b : Reader (Bor (List ℕ))) (fields : List (List ℕ)) (text : List ℕ) → reader_config a ≡ default_config → source_of left_of a ≡ Some text → ReadRecord left_of a b true fields → Found b fields (reader_state a) text
unfolding Reached
found a b fields text config source r =
    let (z, at, reached) = rows-more left_of a b fields default_config (reader_state a) text text [] config source (refl, refl) r in
    let (p, is, same, there) = reached in
    record { after = p; is = is; same = same; state = there.0; source = at ∙ ap Some (sym there.1) }

pub gives_next : (a b : Reader (Bor (List ℕ))) (r : Bool) (fields : List (List ℕ)) → took_first b ≡ true → is_flexible b ≡ is_flexible a → ReadRecord left_of a b r fields
    → (rows : List (List (List ℕ))) → Gives a rows → GivesNext r fields b rows
gives_next a b false fields first flexible r rows g =
    g.are ∙ records_end g.turns (reader_state a) g.text (rows-end left_of a b fields default_config g.text g.config g.source r)
gives_next a b true fields first flexible r rows g =
    let f = found a b fields g.text g.config g.source r in
    let (less, between) = takes (reader_state a) g.text f.after g.between f.is in
    let (turns, enough, are) = records_go g.turns (reader_state a) g.text f.after g.enough less f.is in (
      records_from default_config turns f.after.1 f.after.2,
      g.are ∙ are ∙ ap (λ (l : List (List ℕ)). l ∷ records_from default_config turns f.after.1 f.after.2) (sym f.same),
      record {
        untrimmed = r.3 ∙ g.untrimmed;
        ready = inl first;
        config = r.2 ∙ g.config;
        flexible = flexible ∙ g.flexible;
        text = f.after.2;
        source = f.source;
        between = subst (λ s. ends_at_end s ≡ false) f.state between;
        turns = turns;
        enough = enough;
        are = ap (λ s. records_from default_config turns s f.after.2) f.state;
      },
    )

-- the same of what a read answers
pub gives_ok : (a b : Reader (Bor (List ℕ))) (r : Result Bool Error) (fields : List (List ℕ)) → IfOk r (λ found. reader_trim a ≡ trim.None → Ready a → ReadRecord left_of a b found fields)
    → (reader_trim a ≡ trim.None → OnOk r (took_first b ≡ true)) → OnOk r (is_flexible b ≡ is_flexible a) → IfOk r (λ found. (rows : List (List (List ℕ))) → Gives a rows → GivesNext found fields b rows)
gives_ok a b (Ok found) fields reads ready flexible = λ rows g. gives_next a b found fields (ready g.untrimmed) flexible (reads g.untrimmed g.ready) rows g
gives_ok a b (Err e) fields reads ready flexible = tt

pub none_left : (a b : Reader (Bor (List ℕ))) (r : Bool) (fields : List (List ℕ)) (rows : List (List (List ℕ))) → r ≡ false → GivesNext r fields b rows → rows ≡ []
none_left a b false fields rows e h = h
none_left a b true fields rows e h = absurd (true≢false e)

pub some_left : (a b : Reader (Bor (List ℕ))) (r : Bool) (fields : List (List ℕ)) (rows : List (List (List ℕ))) → r ≡ true → GivesNext r fields b rows → (others : List (List (List ℕ))) × (rows ≡ fields ∷ others) × Gives b others
some_left a b true fields rows e h = h
some_left a b false fields rows e h = absurd (false≢true e)
