-- What a port in memory shows, as its connections are opened and given.
use Rattle.std.proofs.Common.{◌≡◌, ℕ, ◌+◌, ◌-◌, ◌^◌, ◌<◌, ◌≤◌, min, length, get_or, take, drop, map, List, [], ◌∷◌, ◌++◌, Option, Some, Bool, Result, true, false, Ok, Err, refl, ap, sym, ◌∙◌, append-nil, take-append-drop, length-drop, arith}
use Rattle.std.proofs.lemmas.List.{take_more, take_more_set, drop_more, drop-set-lt, drop-drop, map-append, nil_from_length}
use Rattle.std.proofs.Math.Seq.{take-add, map-set_same}
use Rattle.std.proofs.Math.ListN.{set}
use Rattle.bmp_specs.specs.Life.{LastRead, failed, Given}
use Rattle.wire_io.specs.declared.sink.Failed.{Failed}
use Rattle.wire_io.specs.Aside.{Aside, Plan}
use Rattle.station_doors.specs.declared.connections.Last.{Last}
use Rattle.station_doors.specs.declared.connections.Last.TheVariants.{Gave, Fault}
use Rattle.station_doors.specs.declared.connections.Session.{Session}
use Rattle.station_doors.specs.Doors.{Opens, Reads, given_more, read_of}
use Rattle.station_doors.specs.LastRead.{last_of}
use Rattle.station_doors.specs.Connections.{bytes_of, given_of, writes_of, rest_of, shows_of, port_shows, link_shows, plan_with, IsGiven}

rest_last : (xs : List Session) (s : Session) → rest_of (xs ++ s ∷ []) ≡ drop s.count s.bytes
rest_last [] s = refl
rest_last (x ∷ []) s = refl
rest_last (x ∷ y ∷ xs) s = rest_last (y ∷ xs) s

-- the last connection gave more
pub given_more_last : (gs : List Given) (g : Given) (bytes : List ℕ) (last : LastRead) → given_more (gs ++ g ∷ []) bytes last ≡ gs ++ record { bytes = g.bytes ++ bytes; last = last } ∷ []
given_more_last [] g bytes last = refl
given_more_last (x ∷ []) g bytes last = refl
given_more_last (x ∷ y ∷ gs) g bytes last = ap (λ (l : List Given). x ∷ l) (given_more_last (y ∷ gs) g bytes last)

-- the connections up to this one, where it is replaced, and what they show
rest_set : (xs : List Session) (i : ℕ) (s : Session) → i < length xs → rest_of (take (i + 1) (set xs i s)) ≡ drop s.count s.bytes
rest_set xs i s h = ap rest_of (take_more_set xs i s h) ∙ rest_last (take i xs) s

rest_at : (xs : List Session) (i : ℕ) (d : Session) → i < length xs → rest_of (take (i + 1) xs) ≡ drop (get_or xs i d).count (get_or xs i d).bytes
rest_at xs i d h = ap rest_of (take_more xs i d h) ∙ rest_last (take i xs) (get_or xs i d)

given_set : (xs : List Session) (i : ℕ) (s : Session) → i < length xs → map given_of (take (i + 1) (set xs i s)) ≡ map given_of (take i xs) ++ given_of s ∷ []
given_set xs i s h = ap (λ (l : List Session). map given_of l) (take_more_set xs i s h) ∙ map-append given_of (take i xs) (s ∷ [])

given_at : (xs : List Session) (i : ℕ) (d : Session) → i < length xs → map given_of (take (i + 1) xs) ≡ map given_of (take i xs) ++ given_of (get_or xs i d) ∷ []
given_at xs i d h = ap (λ (l : List Session). map given_of l) (take_more xs i d h) ∙ map-append given_of (take i xs) (get_or xs i d ∷ [])

coming_set : (xs : List Session) (i : ℕ) (s : Session) → map bytes_of (drop (i + 1) (set xs i s)) ≡ map bytes_of (drop (i + 1) xs)
coming_set xs i s = ap (λ (l : List Session). map bytes_of l) (drop-set-lt (i + 1) xs i s (omega arith))

given_then : (xs : List Session) (i : ℕ) (s d : Session) (bytes : List ℕ) (last : LastRead) → i < length xs → given_of s ≡ record { bytes = take (get_or xs i d).count (get_or xs i d).bytes ++ bytes; last = last }
    → map given_of (take (i + 1) (set xs i s)) ≡ given_more (map given_of (take (i + 1) xs)) bytes last
given_then xs i s d bytes last h e =
    given_set xs i s h ∙ ap (λ (g : Given). map given_of (take i xs) ++ g ∷ []) e
    ∙ sym (ap (λ (l : List Given). given_more l bytes last) (given_at xs i d h) ∙ given_more_last (map given_of (take i xs)) (given_of (get_or xs i d)) bytes last)

-- the next connection is opened
pub opens_next : (xs : List Session) (n writes : ℕ) (s d : Session) (taken faults closed : ℕ) (refused is_open : Bool) → n < length xs → n + 1 < 2 ^ 64 → s ≡ record (get_or xs n d) { count = 0; last = Gave; writes = writes }
    → Opens (shows_of xs n closed is_open taken refused faults) (shows_of (set xs n s) (n + 1) closed true 0 false faults) (Ok true)
opens_next xs n writes s d taken faults closed refused is_open h fits e = record {
  plan = ap (λ (l : List (List ℕ)). Some (record { connections = l; fails = [] })) (map-set_same bytes_of xs n s d (ap bytes_of e));
  coming = ap (λ (l : List Session). map bytes_of l) (drop_more xs n d h) ∙ ap (λ (l : List ℕ). l ∷ map bytes_of (drop (n + 1) xs)) (sym (rest_set xs n s h ∙ ap (λ (t : Session). drop t.count t.bytes) e))
      ∙ ap (λ (l : List (List ℕ)). rest_of (take (n + 1) (set xs n s)) ∷ l) (sym (coming_set xs n s));
  given = ap (λ (l : List Given). Some l) (given_set xs n s h ∙ ap (λ (g : Given). map given_of (take n xs) ++ g ∷ []) (ap given_of e));
  opened = omega arith;
  closed = refl;
  is_open = refl;
  taken = refl;
  refused = refl;
  cause = record { later = omega arith; failed = tt; fine = refl };
  calm = refl;
  laid = refl;
}

-- and the count of faults in writes is kept
pub notes_next : (xs : List Session) (n writes : ℕ) (s d : Session) → n < length xs → s ≡ record (get_or xs n d) { count = 0; last = Gave; writes = writes } → map writes_of (take (n + 1) (set xs n s)) ≡ map writes_of (take n xs) ++ writes ∷ []
notes_next xs n writes s d h e = ap (λ (l : List Session). map writes_of l) (take_more_set xs n s h) ∙ map-append writes_of (take n xs) (s ∷ []) ∙ ap (λ (k : ℕ). map writes_of (take n xs) ++ k ∷ []) (ap writes_of e)

-- a connection that keeps its count of faults in writes
writes_set : (xs : List Session) (i : ℕ) (s d : Session) → i < length xs → s.writes ≡ (get_or xs i d).writes → map writes_of (take (i + 1) (set xs i s)) ≡ map writes_of (take (i + 1) xs)
writes_set xs i s d h e = ap (λ (l : List Session). map writes_of l) (take_more_set xs i s h) ∙ map-append writes_of (take i xs) (s ∷ []) ∙ ap (λ (k : ℕ). map writes_of (take i xs) ++ k ∷ []) e
    ∙ sym (ap (λ (l : List Session). map writes_of l) (take_more xs i d h) ∙ map-append writes_of (take i xs) (get_or xs i d ∷ []))

-- a read gave bytes of the present connection
pub reads_some : (xs : List Session) (i n taken after faults count closed : ℕ) (s d : Session) (buf : List ℕ) (refused is_open : Bool) → i < length xs → n ≡ i + 1 → IsGiven (get_or xs i d) s count buf → after ≡ min (taken + count) (2 ^ 64 - 1)
    → Reads (shows_of xs n closed is_open taken refused faults) (shows_of (set xs i s) n closed is_open after refused faults) (Ok count) buf
reads_some xs i n taken after faults count closed s d buf refused is_open h e g sum = rw e (record {
  plan = ap (λ (l : List (List ℕ)). Some (record { connections = l; fails = [] })) (map-set_same bytes_of xs i s d g.bytes);
  coming = ap (λ (l : List (List ℕ)). Some l) (coming_set xs i s);
  rest = (rest_at xs i d h ∙ g.rest ∙ ap (λ (l : List ℕ). take count buf ++ l) (sym left), λ z r. left ∙ g.end z);
  given = ap (λ (l : List Given). Some l) (given_then xs i s d (take count buf) (read_of count) h shows);
  opened = refl;
  closed = refl;
  is_open = refl;
  taken = sum;
  refused = refl;
  cause = record { later = omega arith; failed = tt; fine = refl };
  calm = refl;
  writes = ap (λ (l : List ℕ). Some l) (writes_set xs i s d h g.writes);
  laid = refl;
})
  where
    left : rest_of (take (i + 1) (set xs i s)) ≡ drop s.count (get_or xs i d).bytes
    left = rest_set xs i s h ∙ ap (λ (l : List ℕ). drop s.count l) g.bytes

    shows : given_of s ≡ record { bytes = take (get_or xs i d).count (get_or xs i d).bytes ++ take count buf; last = read_of count }
    shows = ap (λ (l : List ℕ). record { bytes = l; last = last_of s.last }) (ap (λ (l : List ℕ). take s.count l) g.bytes ∙ g.given) ∙ ap (λ (l : LastRead). record { bytes = take (get_or xs i d).count (get_or xs i d).bytes ++ take count buf; last = l }) g.last

-- a read failed in the present connection
pub reads_fault : (xs : List Session) (i n taken faults now closed : ℕ) (s d : Session) (buf : List ℕ) (refused is_open : Bool) (f : Failed) → i < length xs → n ≡ i + 1 → s ≡ record (get_or xs i d) { last = Fault } → now ≡ min (faults + 1) (2 ^ 64 - 1) → faults < 2 ^ 64
    → Reads (shows_of xs n closed is_open taken refused faults) (shows_of (set xs i s) n closed is_open taken refused now) (Err f) buf
reads_fault xs i n taken faults now closed s d buf refused is_open f h e g rose fits = rw e (record {
  plan = ap (λ (l : List (List ℕ)). Some (record { connections = l; fails = [] })) (map-set_same bytes_of xs i s d (ap bytes_of g));
  coming = ap (λ (l : List (List ℕ)). Some l) (coming_set xs i s);
  rest = rest_set xs i s h ∙ ap (λ (t : Session). drop t.count t.bytes) g ∙ sym (rest_at xs i d h);
  given = ap (λ (l : List Given). Some l) (given_then xs i s d [] failed h (ap given_of g ∙ ap (λ (l : List ℕ). record { bytes = l; last = failed }) (sym (append-nil (take (get_or xs i d).count (get_or xs i d).bytes)))));
  opened = refl;
  closed = refl;
  is_open = refl;
  taken = refl;
  refused = refl;
  cause = record { later = omega (arith, rose, fits); failed = (omega (arith, rose), omega (arith, rose)); fine = tt };
  calm = refl;
  writes = ap (λ (l : List ℕ). Some l) (writes_set xs i s d h (ap writes_of g));
  laid = refl;
})

-- the bytes that stand at a place were given
pub gives : (s : Session) (now n : ℕ) (last : Last) (buf : List ℕ) → now ≡ s.count + n → take n buf ≡ take n (drop s.count s.bytes) → (n ≡ 0 → length s.bytes ≤ s.count) → last_of last ≡ read_of n
    → IsGiven s (record { bytes = s.bytes; count = now; last = last; writes = s.writes }) n buf
gives s now n last buf e f z l = record {
  bytes = refl;
  given = ap (λ (m : ℕ). take m s.bytes) e ∙ take-add s.count n s.bytes ∙ ap (λ (t : List ℕ). take s.count s.bytes ++ t) (sym f);
  rest = sym (take-append-drop n (drop s.count s.bytes)) ∙ ap (λ (t : List ℕ). t ++ drop n (drop s.count s.bytes)) (sym f) ∙ ap (λ (t : List ℕ). take n buf ++ t) (drop-drop n s.count s.bytes ∙ ap (λ (m : ℕ). drop m s.bytes) (sym e));
  end = λ none. ap (λ (m : ℕ). drop m s.bytes) e ∙ nil_from_length (drop (s.count + n) s.bytes) (omega (arith, z none, none, length-drop (s.count + n) s.bytes));
  last = l;
  writes = refl;
}

-- how much the present connection has left
pub left_at : (xs : List Session) (i n : ℕ) (d : Session) → i < length xs → n ≡ i + 1 → length (rest_of (take n xs)) ≡ length (get_or xs i d).bytes - (get_or xs i d).count
left_at xs i n d h e = rw (e, rest_at xs i d h) (length-drop (get_or xs i d).count (get_or xs i d).bytes)

-- what an object shows over connections whose calls are said
pub opens_port : (fails : List ℕ) (a b : Aside) (r : Result Bool Failed) → Opens a b r → Opens (port_shows fails a) (port_shows fails b) r
opens_port fails a b r o = record { plan = ap (λ (p : Option Plan). Some (plan_with fails p)) o.plan; coming = o.coming; given = o.given; opened = o.opened; closed = o.closed; is_open = o.is_open; taken = o.taken; refused = o.refused; cause = o.cause; calm = o.calm; laid = o.laid }

pub opens_link : (fails : List ℕ) (a b : Aside) (r : Result Bool Failed) → Opens a b r → Opens (link_shows fails a) (link_shows fails b) r
opens_link fails a b r o = record { plan = ap (λ (p : Option Plan). Some (plan_with fails p)) o.plan; coming = o.coming; given = o.given; opened = o.opened; closed = o.closed; is_open = o.is_open; taken = o.taken; refused = o.refused; cause = o.cause; calm = o.calm; laid = o.laid }

pub reads_port : (fails : List ℕ) (a b : Aside) (r : Result ℕ Failed) (buf : List ℕ) → Reads a b r buf → Reads (port_shows fails a) (port_shows fails b) r buf
reads_port fails a b r buf o = record { plan = ap (λ (p : Option Plan). Some (plan_with fails p)) o.plan; coming = o.coming; rest = o.rest; given = o.given; opened = o.opened; closed = o.closed; is_open = o.is_open; taken = o.taken; refused = o.refused; cause = o.cause; calm = o.calm; writes = refl; laid = o.laid }

pub reads_link : (fails : List ℕ) (a b : Aside) (r : Result ℕ Failed) (buf : List ℕ) → Reads a b r buf → Reads (link_shows fails a) (link_shows fails b) r buf
reads_link fails a b r buf o = record { plan = ap (λ (p : Option Plan). Some (plan_with fails p)) o.plan; coming = o.coming; rest = o.rest; given = o.given; opened = o.opened; closed = o.closed; is_open = o.is_open; taken = o.taken; refused = o.refused; cause = o.cause; calm = o.calm; writes = o.writes; laid = o.laid }
