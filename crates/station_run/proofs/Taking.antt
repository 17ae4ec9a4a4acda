-- Passes, ports and links in works, and out of them again.
use Rattle.std.proofs.Common.{◌≡◌, ℕ, ◌<◌, List, [], ◌∷◌, ◌++◌, length, map, reverse, Bool, true, false, IsTrue, refl, sym, ap, ◌∙◌, subst, arith, append-nil, append_assoc, length-append}
use Rattle.std.specs.List.{AllByRecursion}
use Rattle.std.proofs.lemmas.List.{reverse-append, reverse-reverse}
use Rattle.cut_publisher.specs.History.{Asker, Fed}
use Rattle.rib_model.specs.declared.entry.Entry.{Entry}
use Rattle.feed_worker.specs.declared.feed.LaneEnd.{LaneEnd}
use Rattle.feed_worker.specs.declared.feed.LaneEnd.TheVariants as end
use Rattle.station_run.specs.declared.tasks.LaneWork.{LaneWork}
use Rattle.station_run.specs.declared.tasks.AskWork.{AskWork}
use Rattle.station_run.specs.declared.tasks.Task.{Task}
use Rattle.station_run.specs.declared.tasks.Task.TheVariants.{Lane, Ask}
use Rattle.station_run.specs.declared.outcome.Outcome.TheVariants as outcome
use Rattle.station_run.specs.Pairing.{after_one, ask_passes, asks_of, ends, is_want, lanes_of, links, outcome_of, passes, ports, starved}

pub reverse_push : {A : Type 0} (xs : List A) (x : A) → reverse (xs ++ x ∷ []) ≡ x ∷ reverse xs
reverse_push xs x = reverse-append xs (x ∷ [])

-- the last of those left goes over
pub moves : {A : Type 0} (all left rest done : List A) (x : A) → all ≡ left ++ done → left ≡ rest ++ x ∷ [] → all ≡ rest ++ x ∷ done
moves all left rest done x e f = e ∙ ap (λ l. l ++ done) f ∙ append_assoc rest (x ∷ []) done

pub none_left : {A : Type 0} (xs : List A) → length xs ≡ 0 → xs ≡ []
none_left [] n = refl
none_left (x ∷ xs) n = absurd (omega (arith, n))

one : (e : LaneEnd) → outcome_of (e ∷ []) ≡ after_one (is_want e) outcome.Done
one end.Over = refl
one end.NoMemory = refl

want : (b : Bool) → outcome.NoMemory ≡ after_one b outcome.NoMemory
want true = refl
want false = refl

before : (e : LaneEnd) (xs ys : List LaneEnd) (b : Bool) → outcome_of ys ≡ after_one b (outcome_of xs) → outcome_of (e ∷ ys) ≡ after_one b (outcome_of (e ∷ xs))
before end.Over xs ys b h = h
before end.NoMemory xs ys b h = want b

map_one : {X Y : Type 0} (f : X → Y) (xs : List X) (x : X) → map f (xs ++ x ∷ []) ≡ map f xs ++ f x ∷ []
map_one f [] x = refl
map_one f (y ∷ xs) x = ap (λ l. f y ∷ l) (map_one f xs x)

length_map : {X Y : Type 0} (f : X → Y) (xs : List X) → length (map f xs) ≡ length xs
length_map f [] = refl
length_map f (x ∷ xs) = let r = length_map f xs in omega (arith, r)

module _ {B P K : Type 0} where
  -- so many askers have their works, the last of them first
  pub record PairingAsks (all left : List (Asker Entry)) (doors left_doors : List K) (rounds : ℕ) (tasks : List (Task B P K)) : Type 0 where
    pub passes_are : all ≡ left ++ ask_passes (asks_of (reverse tasks))
    pub links_are : doors ≡ left_doors ++ links (asks_of (reverse tasks))
    pub rounds_are : AllByRecursion (λ w. w.rounds ≡ rounds) (asks_of (reverse tasks))
    pub none : lanes_of (reverse tasks) ≡ []
    pub same : length left ≡ length left_doors

  -- the same of lanes, behind the askers
  pub record PairingLanes (all left : List (Fed Entry)) (doors left_doors : List P) (rounds : ℕ) (before tasks : List (Task B P K)) : Type 0 where
    pub passes_are : all ≡ left ++ passes (lanes_of (reverse tasks))
    pub ports_are : doors ≡ left_doors ++ ports (lanes_of (reverse tasks))
    pub rounds_are : AllByRecursion (λ w. w.rounds ≡ rounds) (lanes_of (reverse tasks))
    pub askers : asks_of (reverse tasks) ≡ asks_of (reverse before)
    pub same : length left ≡ length left_doors

  pub lanes-append : (xs ys : List (Task B P K)) → lanes_of (xs ++ ys) ≡ lanes_of xs ++ lanes_of ys
  lanes-append [] ys = refl
  lanes-append (Lane w ∷ xs) ys = ap (λ (l : List (LaneWork B P)). w ∷ l) (lanes-append xs ys)
  lanes-append (Ask w ∷ xs) ys = lanes-append xs ys

  pub asks-append : (xs ys : List (Task B P K)) → asks_of (xs ++ ys) ≡ asks_of xs ++ asks_of ys
  asks-append [] ys = refl
  asks-append (Lane w ∷ xs) ys = asks-append xs ys
  asks-append (Ask w ∷ xs) ys = ap (λ (l : List (AskWork K)). w ∷ l) (asks-append xs ys)

  -- what the works held that were taken apart, those left being the last ones
  pub record Parting (all left : List (Task B P K)) (ps : List P) (ks : List K) (kept : Bool) (feeds : List (Fed Entry)) (asks : List (Asker Entry)) : Type 0 where
    pub done : List (Task B P K)
    pub all_are : all ≡ done ++ reverse left
    pub ports_are : ps ≡ ports (lanes_of done)
    pub links_are : ks ≡ links (asks_of done)
    pub feeds_are : IsTrue kept → feeds ≡ passes (lanes_of done)
    pub asks_are : IsTrue kept → asks ≡ ask_passes (asks_of done)

  pub parting_none : (all left : List (Task B P K)) (ps : List P) (ks : List K) (kept : Bool) (feeds : List (Fed Entry)) (asks : List (Asker Entry)) → left ≡ reverse all → ps ≡ [] → ks ≡ [] → feeds ≡ [] → asks ≡ []
      → Parting all left ps ks kept feeds asks
  parting_none all left ps ks kept feeds asks e p k f a = record { done = []; all_are = sym (reverse-reverse all) ∙ ap (λ (l : List (Task B P K)). reverse l) (sym e); ports_are = p; links_are = k; feeds_are = λ _. f; asks_are = λ _. a }

  -- the place of the next one
  turn : (all left rest done : List (Task B P K)) (t : Task B P K) → all ≡ done ++ reverse left → left ≡ rest ++ t ∷ [] → all ≡ (done ++ t ∷ []) ++ reverse rest
  turn all left rest done t e f = e ∙ ap (λ (l : List (Task B P K)). done ++ l) (ap (λ (l : List (Task B P K)). reverse l) f ∙ reverse_push rest t) ∙ sym (append_assoc done (t ∷ []) (reverse rest))

  lane_pushed : {Y : Type 0} (f : LaneWork B P → Y) (ys after : List Y) (done : List (Task B P K)) (w : LaneWork B P) → ys ≡ map f (lanes_of done) → after ≡ ys ++ f w ∷ [] → after ≡ map f (lanes_of (done ++ Lane w ∷ []))
  lane_pushed {Y} f ys after done w e g = g ∙ ap (λ (l : List Y). l ++ f w ∷ []) e ∙ sym (map_one f (lanes_of done) w) ∙ ap (λ (l : List (LaneWork B P)). map f l) (sym (lanes-append done (Lane w ∷ [])))

  lane_stays : {Y : Type 0} (f : LaneWork B P → Y) (ys : List Y) (done : List (Task B P K)) (w : AskWork K) → ys ≡ map f (lanes_of done) → ys ≡ map f (lanes_of (done ++ Ask w ∷ []))
  lane_stays {Y} f ys done w e = e ∙ ap (λ (l : List (LaneWork B P)). map f l) (sym (lanes-append done (Ask w ∷ []) ∙ append-nil (lanes_of done)))

  ask_pushed : {Y : Type 0} (f : AskWork K → Y) (ys after : List Y) (done : List (Task B P K)) (w : AskWork K) → ys ≡ map f (asks_of done) → after ≡ ys ++ f w ∷ [] → after ≡ map f (asks_of (done ++ Ask w ∷ []))
  ask_pushed {Y} f ys after done w e g = g ∙ ap (λ (l : List Y). l ++ f w ∷ []) e ∙ sym (map_one f (asks_of done) w) ∙ ap (λ (l : List (AskWork K)). map f l) (sym (asks-append done (Ask w ∷ [])))

  ask_stays : {Y : Type 0} (f : AskWork K → Y) (ys : List Y) (done : List (Task B P K)) (w : LaneWork B P) → ys ≡ map f (asks_of done) → ys ≡ map f (asks_of (done ++ Lane w ∷ []))
  ask_stays {Y} f ys done w e = e ∙ ap (λ (l : List (AskWork K)). map f l) (sym (asks-append done (Lane w ∷ []) ∙ append-nil (asks_of done)))

  pub part_lane : (all left rest : List (Task B P K)) (ps ps2 : List P) (ks : List K) (kept kept2 : Bool) (feeds feeds2 : List (Fed Entry)) (asks : List (Asker Entry)) (w : LaneWork B P) → Parting all left ps ks kept feeds asks
      → left ≡ rest ++ Lane w ∷ [] → ps2 ≡ ps ++ w.port ∷ [] → (IsTrue kept2 → IsTrue kept × (feeds2 ≡ feeds ++ w.pass ∷ [])) → Parting all rest ps2 ks kept2 feeds2 asks
  part_lane all left rest ps ps2 ks kept kept2 feeds feeds2 asks w p e f k = record {
    done = p.done ++ Lane w ∷ [];
    all_are = turn all left rest p.done (Lane w) p.all_are e;
    ports_are = lane_pushed (λ (v : LaneWork B P). v.port) ps ps2 p.done w p.ports_are f;
    links_are = ask_stays (λ (v : AskWork K). v.link) ks p.done w p.links_are;
    feeds_are = λ t. lane_pushed (λ (v : LaneWork B P). v.pass) feeds feeds2 p.done w (p.feeds_are (k t).0) (k t).1;
    asks_are = λ t. ask_stays (λ (v : AskWork K). v.pass) asks p.done w (p.asks_are (k t).0);
  }

  pub part_ask : (all left rest : List (Task B P K)) (ps : List P) (ks ks2 : List K) (kept kept2 : Bool) (feeds : List (Fed Entry)) (asks asks2 : List (Asker Entry)) (w : AskWork K) → Parting all left ps ks kept feeds asks
      → left ≡ rest ++ Ask w ∷ [] → ks2 ≡ ks ++ w.link ∷ [] → (IsTrue kept2 → IsTrue kept × (asks2 ≡ asks ++ w.pass ∷ [])) → Parting all rest ps ks2 kept2 feeds asks2
  part_ask all left rest ps ks ks2 kept kept2 feeds asks asks2 w p e f k = record {
    done = p.done ++ Ask w ∷ [];
    all_are = turn all left rest p.done (Ask w) p.all_are e;
    ports_are = lane_stays (λ (v : LaneWork B P). v.port) ps p.done w p.ports_are;
    links_are = ask_pushed (λ (v : AskWork K). v.link) ks ks2 p.done w p.links_are f;
    feeds_are = λ t. lane_stays (λ (v : LaneWork B P). v.pass) feeds p.done w (p.feeds_are (k t).0);
    asks_are = λ t. ask_pushed (λ (v : AskWork K). v.pass) asks asks2 p.done w (p.asks_are (k t).0) (k t).1;
  }

  -- there is room for the next port, and for the next link
  pub port_fits : (all left rest : List (Task B P K)) (ps : List P) (ks : List K) (kept : Bool) (feeds : List (Fed Entry)) (asks : List (Asker Entry)) (w : LaneWork B P) → Parting all left ps ks kept feeds asks
      → left ≡ rest ++ Lane w ∷ [] → length ps < length (lanes_of all)
  port_fits all left rest ps ks kept feeds asks w p e =
      let is : lanes_of all ≡ lanes_of p.done ++ (w ∷ lanes_of (reverse rest)) = ap (λ (l : List (Task B P K)). lanes_of l) (p.all_are ∙ ap (λ (l : List (Task B P K)). p.done ++ reverse l) e ∙ ap (λ (l : List (Task B P K)). p.done ++ l) (reverse_push rest (Lane w))) ∙ lanes-append p.done (Lane w ∷ reverse rest) in
      omega (arith, ap (λ (l : List (LaneWork B P)). length l) is, length-append (lanes_of p.done) (w ∷ lanes_of (reverse rest)), ap (λ (l : List P). length l) p.ports_are, length_map (λ (v : LaneWork B P). v.port) (lanes_of p.done))

  pub link_fits : (all left rest : List (Task B P K)) (ps : List P) (ks : List K) (kept : Bool) (feeds : List (Fed Entry)) (asks : List (Asker Entry)) (w : AskWork K) → Parting all left ps ks kept feeds asks
      → left ≡ rest ++ Ask w ∷ [] → length ks < length (asks_of all)
  link_fits all left rest ps ks kept feeds asks w p e =
      let is : asks_of all ≡ asks_of p.done ++ (w ∷ asks_of (reverse rest)) = ap (λ (l : List (Task B P K)). asks_of l) (p.all_are ∙ ap (λ (l : List (Task B P K)). p.done ++ reverse l) e ∙ ap (λ (l : List (Task B P K)). p.done ++ l) (reverse_push rest (Ask w))) ∙ asks-append p.done (Ask w ∷ reverse rest) in
      omega (arith, ap (λ (l : List (AskWork K)). length l) is, length-append (asks_of p.done) (w ∷ asks_of (reverse rest)), ap (λ (l : List K). length l) p.links_are, length_map (λ (v : AskWork K). v.link) (asks_of p.done))

  pub parted : (all left : List (Task B P K)) (ps : List P) (ks : List K) (kept : Bool) (feeds : List (Fed Entry)) (asks : List (Asker Entry)) → Parting all left ps ks kept feeds asks → left ≡ [] → Parting all [] ps ks kept feeds asks
  parted all left ps ks kept feeds asks p e = subst (λ (l : List (Task B P K)). Parting all l ps ks kept feeds asks) e p

  pub is_all : (all : List (Task B P K)) (ps : List P) (ks : List K) (kept : Bool) (feeds : List (Fed Entry)) (asks : List (Asker Entry)) → (p : Parting all [] ps ks kept feeds asks) → p.done ≡ all
  is_all all ps ks kept feeds asks p = sym (p.all_are ∙ append-nil p.done)

  -- one more work's end
  pub outcome_more : (xs : List (Task B P K)) (t : Task B P K) → outcome_of (ends (lanes_of (xs ++ t ∷ []))) ≡ after_one (starved t) (outcome_of (ends (lanes_of xs)))
  outcome_more [] (Lane w) = one w.end
  outcome_more [] (Ask w) = refl
  outcome_more (Lane v ∷ xs) t = before v.end (ends (lanes_of xs)) (ends (lanes_of (xs ++ t ∷ []))) (starved t) (outcome_more xs t)
  outcome_more (Ask v ∷ xs) t = outcome_more xs t
