-- The ends of a run.
use Rattle.std.proofs.Common.{◌≡◌, ℕ, ◌+◌, ◌<◌, List, [], ◌∷◌, length, map, get_or, Option, Some, None, refl, sym, ap, ◌∙◌, subst, arith}
use Rattle.std.specs.Io.KnownBytes.{Keeps}
use Rattle.wire_io.specs.Faults.{Rose}
use Rattle.station_run.specs.declared.outcome.Outcome.{Outcome}
use Rattle.station_run.specs.declared.outcome.Outcome.TheVariants.{Done, NoMemory, YardFault, WriteFault}
use Rattle.feed_worker.specs.declared.feed.LaneEnd.{LaneEnd}
use Rattle.feed_worker.specs.declared.feed.LaneEnd.TheVariants as end
use Rattle.station_run.specs.Pairing.{outcome_of}
use Rattle.std.specs.Prelude.{Bool, IsTrue}
use Rattle.bmp_specs.specs.Meaning.{Meaning}
use Rattle.cut_publisher.specs.History.{Asker, Fed, Site}
use Rattle.cut_publisher.specs.Opening.{AreAsksOf, AreFeedsOf, AreFreshAsks}
use Rattle.rib_model.specs.declared.entry.Entry.{Entry}
use Rattle.station_doors.specs.Doors.{Returned, ReturnedLink, YardSeen}
use Rattle.station_doors.specs.declared.listening.Listening.{Listening}
use Rattle.station_run.specs.Handed.{AllComeBack, Lends, call_after, numbered, numbered_links}
use Rattle.station_run.specs.Served.{HaveServed, ask_of, first_link_of, first_of, last_link_of, last_of, pass_of}
use Rattle.station_run.specs.Serve.{AnswersFault, GivesAllBack, ServesAll}
use Rattle.station_run.proofs.Handing.{length-numbered, length-numbered_links}
use Rattle.station_run.proofs.Returning.{come_back}
use Rattle.station_run.proofs.Runs.{all_at, asks_of_station, lanes_of_station}

-- which outcome it is
abbrev is_write : Outcome → Type 0
is_write Done = ⊥
is_write NoMemory = ⊥
is_write YardFault = ⊥
is_write WriteFault = Unit {0}

abbrev is_yard : Outcome → Type 0
is_yard Done = ⊥
is_yard NoMemory = ⊥
is_yard YardFault = Unit {0}
is_yard WriteFault = ⊥

-- no lane's end is a fault of the yard or of a write
pub not_write : (ends : List LaneEnd) → outcome_of ends ≡ WriteFault → ⊥
not_write ends e = at ends (subst (λ (o : Outcome). is_write o) (sym e) tt)
  where
    at : (ends : List LaneEnd) → is_write (outcome_of ends) → ⊥
    at [] h = h
    at (end.Over ∷ es) h = at es h
    at (end.NoMemory ∷ es) h = h

pub not_yard : (ends : List LaneEnd) → outcome_of ends ≡ YardFault → ⊥
not_yard ends e = at ends (subst (λ (o : Outcome). is_yard o) (sym e) tt)
  where
    at : (ends : List LaneEnd) → is_yard (outcome_of ends) → ⊥
    at [] h = h
    at (end.Over ∷ es) h = at es h
    at (end.NoMemory ∷ es) h = h

-- the fault came, and is answered
pub answers : (before now : ℕ) (o : Outcome) → Rose before now → AnswersFault before now o o
answers before now o r = record { rose = λ e. r; calm = λ other. absurd (other refl) }

-- nothing failed, and another outcome is answered
pub answers_not : (before now : ℕ) (outcome fault : Outcome) → (outcome ≡ fault → ⊥) → now ≡ before → AnswersFault before now outcome fault
answers_not before now outcome fault other same = record { rose = λ e. absurd (other e); calm = λ _. same }

pub no_memory_write : NoMemory ≡ WriteFault → ⊥
no_memory_write e = subst (λ (o : Outcome). is_write o) (sym e) tt

pub no_memory_yard : NoMemory ≡ YardFault → ⊥
no_memory_yard e = subst (λ (o : Outcome). is_yard o) (sym e) tt

pub write_yard : WriteFault ≡ YardFault → ⊥
write_yard e = subst (λ (o : Outcome). is_yard o) (sym e) tt

pub keeps_self : (o : Option (List ℕ)) → Keeps o o
keeps_self None = tt
keeps_self (Some xs) = refl

pub asks_are_of : (b c : Site) (n : ℕ) (asks : List (Asker Entry)) → AreFreshAsks b n asks → b ≡ c → AreAsksOf c asks
asks_are_of b c n asks fresh e k d h = ap (λ (a : Asker Entry). a.station) (fresh.each k d (omega (arith, h, fresh.count))) ∙ e

-- what was handed out came back
pub gives_back : {E : Type 0} (at : Listening) (old now new : YardSeen E) (ports back : List Returned) (links links_back : List ReturnedLink) → now.listened ≡ Some at → now.calls ≡ call_after old.calls (1 + (at.feeds + at.askers))
    → length ports ≡ at.feeds → length links ≡ at.askers → Lends old.told now.told old.calls (1 + (at.feeds + at.askers)) ports links → new.listened ≡ now.listened → new.calls ≡ now.calls → length back ≡ length ports → length links_back ≡ length links
    → AllComeBack now.told new.told back links_back → GivesAllBack at old new ports back links links_back
gives_back at old now new ports back links links_back l c n m lends same_l same_c p k all = record {
  listened = same_l ∙ l;
  calls = same_c ∙ c;
  ports_count = n;
  links_count = m;
  told = come_back old.told now.told new.told old.calls (1 + (at.feeds + at.askers)) ports back links links_back lends p k all;
}

module _ (meaning : Meaning) (rounds : ℕ) (b : Site) (ports back : List Returned) (links links_back : List ReturnedLink) (kept : Bool) (feeds : List (Fed Entry)) (asks : List (Asker Entry)) (outcome : Outcome)
    (s : HaveServed meaning rounds b ports back links links_back kept feeds asks outcome) where
  pub as_many_back : length back ≡ length ports
  as_many_back = ap (λ (l : List Returned). length l) (sym s.last_are) ∙ length-numbered last_of 0 s.runs ∙ sym (length-numbered first_of 0 s.runs) ∙ ap (λ (l : List Returned). length l) s.first_are

  pub as_many_links_back : length links_back ≡ length links
  as_many_links_back = ap (λ (l : List ReturnedLink). length l) (sym s.last_links_are) ∙ length-numbered_links last_link_of 0 s.ask_runs ∙ sym (length-numbered_links first_link_of 0 s.ask_runs) ∙ ap (λ (l : List ReturnedLink). length l) s.first_links_are

  pub runs_are : length s.runs ≡ length ports
  runs_are = sym (length-numbered first_of 0 s.runs) ∙ ap (λ (l : List Returned). length l) s.first_are

  pub ask_runs_are : length s.ask_runs ≡ length links
  ask_runs_are = sym (length-numbered_links first_link_of 0 s.ask_runs) ∙ ap (λ (l : List ReturnedLink). length l) s.first_links_are

  pub feeds_of_site : IsTrue kept → AreFeedsOf b feeds
  feeds_of_site t k d h = subst (λ (l : List (Fed Entry)). (k : ℕ) (d : Fed Entry) → k < length l → (get_or l k d).station ≡ b) (sym (s.feeds_are t)) (all_at (λ (f : Fed Entry). f.station ≡ b) (map pass_of s.runs) (lanes_of_station meaning b rounds 0 s.runs s.lanes)) k d h

  pub asks_of_site : IsTrue kept → AreAsksOf b asks
  asks_of_site t k d h = subst (λ (l : List (Asker Entry)). (k : ℕ) (d : Asker Entry) → k < length l → (get_or l k d).station ≡ b) (sym (s.asks_are t)) (all_at (λ (a : Asker Entry). a.station ≡ b) (map ask_of s.ask_runs) (asks_of_station b rounds s.ask_runs s.askers)) k d h

  -- what came back, by the runs
  pub by_runs : {E : Type 0} (at : Listening) (old new : YardSeen E) → GivesAllBack at old new ports back links links_back
      → GivesAllBack at old new (numbered first_of 0 s.runs) (numbered last_of 0 s.runs) (numbered_links first_link_of 0 s.ask_runs) (numbered_links last_link_of 0 s.ask_runs)
  by_runs at old new g =
      subst (λ (l : List ReturnedLink). GivesAllBack at old new (numbered first_of 0 s.runs) (numbered last_of 0 s.runs) (numbered_links first_link_of 0 s.ask_runs) l) (sym s.last_links_are)
      (subst (λ (l : List ReturnedLink). GivesAllBack at old new (numbered first_of 0 s.runs) (numbered last_of 0 s.runs) l links_back) (sym s.first_links_are)
      (subst (λ (l : List Returned). GivesAllBack at old new (numbered first_of 0 s.runs) l links links_back) (sym s.last_are)
      (subst (λ (l : List Returned). GivesAllBack at old new l back links links_back) (sym s.first_are) g)))

  -- all was served
  pub serves_all : {E : Type 0} (at : Listening) (old new : YardSeen E) → b.lanes ≡ at.feeds → GivesAllBack at old new ports back links links_back → ServesAll meaning at rounds old new
  serves_all at old new wide g = record { site = b; wide = wide; runs = s.runs; ask_runs = s.ask_runs; lanes = s.lanes; askers = s.askers; back = by_runs at old new g }
