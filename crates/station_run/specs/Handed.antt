-- Ports and links that a yard handed out, and what it has of them once they were given back.
use Rattle.std.specs.Prelude.{◌≡◌, ◌⊎◌, ℕ, ◌+◌, ◌<◌, zero, suc, List, [], ◌∷◌, ◌++◌, length, Contains, Option, Some, None}
use Rattle.wire_io.specs.Aside.{Aside, Plan}
use Rattle.station_doors.specs.Doors.{YardValue, Returned, ReturnedLink, one_more, untouched, untouched_link}
use Rattle.station_doors.specs.declared.listening.Listening.{Listening}

-- the count of calls after so many more
abbrev pub call_after : ℕ → ℕ → ℕ
call_after calls zero = calls
call_after calls (suc n) = one_more (call_after calls n)

-- what a link shows, what was written to it, and its count of faults in writes
pub record LinkShows : Type 0 where
  pub shows : Aside
  pub written : Option (List ℕ)
  pub faults : ℕ

-- a link with this plan that has answered no call yet, and to which nothing was written
abbrev pub unused : Plan → LinkShows
unused plan = record { shows = untouched_link plan; written = Some []; faults = 0 }

abbrev pub link_shows : {K : Type 0} → (K → Aside) → (K → Option (List ℕ)) → (K → ℕ) → K → LinkShows
link_shows aside told faults k = record { shows = aside k; written = told k; faults = faults k }

-- what these show, under the numbers from this one on
abbrev pub numbered : {A : Type 0} → (A → Aside) → ℕ → List A → List Returned
numbered shows n [] = []
numbered shows n (x ∷ xs) = record { lane = n; shows = shows x } ∷ numbered shows (n + 1) xs

-- the same of links
abbrev pub numbered_links : {A : Type 0} → (A → LinkShows) → ℕ → List A → List ReturnedLink
numbered_links shows n [] = []
numbered_links shows n (x ∷ xs) = record { number = n; shows = (shows x).shows; written = (shows x).written; faults = (shows x).faults } ∷ numbered_links shows (n + 1) xs

-- so many numbers from this one on, the greatest first
abbrev pub lent : ℕ → ℕ → List ℕ
lent first zero = []
lent first (suc n) = (first + n) ∷ lent first n

-- The plan fails none of so many calls, of which the first has this number.
abbrev pub AreFine : YardValue → ℕ → ℕ → Type 0
AreFine yard calls count = (k : ℕ) → k < count → Contains yard.fails (call_after calls k) → ⊥

-- Of this yard these ports and links were handed out, the first that waited, by so many calls, of which none failed. None
-- has answered a call.
pub record HandsOutTold (yard : YardValue) (calls count : ℕ) (ports : List Returned) (links : List ReturnedLink) : Type 0 where
  pub plans : List Plan
  pub link_plans : List Plan
  pub waiting : List Plan
  pub links_waiting : List Plan
  pub ports_are : yard.ports ≡ plans ++ waiting
  pub links_are : yard.links ≡ link_plans ++ links_waiting
  pub shown : ports ≡ numbered untouched 0 plans
  pub links_shown : links ≡ numbered_links unused 0 link_plans
  pub fine : AreFine yard calls count

-- what the yard tells while they are handed out
abbrev pub lending : (yard : YardValue) {calls count : ℕ} {ports : List Returned} {links : List ReturnedLink} → HandsOutTold yard calls count ports links → YardValue
lending yard {ports = ports} {links = links} h = record yard { ports = h.waiting; links = h.links_waiting; out = lent 0 (length ports) ++ yard.out; links_out = lent 0 (length links) ++ yard.links_out }

-- The yard tells that these ports and links are handed out, where it tells anything.
abbrev pub Lends : Option YardValue → Option YardValue → (calls count : ℕ) → List Returned → List ReturnedLink → Type 0
Lends None now calls count ports links = now ≡ None
Lends (Some yard) now calls count ports links = (h : HandsOutTold yard calls count ports links) × (now ≡ Some (lending yard h))

-- what the yard tells where ports and links were handed out, and these came back
abbrev pub back_with : (yard : YardValue) {calls count : ℕ} {ports : List Returned} {links : List ReturnedLink} → HandsOutTold yard calls count ports links → List Returned → List ReturnedLink → YardValue
back_with yard h back links_back = record yard { ports = h.waiting; links = h.links_waiting; back = yard.back ++ back; links_back = yard.links_back ++ links_back }

-- The yard tells that ports and links which showed this were handed out, and that all came back, each under its number,
-- and showed this then. It tells so where it tells anything.
abbrev pub ComeBack : Option YardValue → Option YardValue → (calls count : ℕ) → (ports back : List Returned) → (links links_back : List ReturnedLink) → Type 0
ComeBack None now calls count ports back links links_back = now ≡ None
ComeBack (Some yard) now calls count ports back links links_back = (h : HandsOutTold yard calls count ports links) × (now ≡ Some (back_with yard h back links_back))

-- These ports came back, and so many of those handed out are still out, where the yard tells anything.
abbrev pub PortsComeBack : Option YardValue → Option YardValue → List Returned → ℕ → Type 0
PortsComeBack None now back left = now ≡ None
PortsComeBack (Some yard) now back left = (out : List ℕ) → yard.out ≡ lent 0 (length back + left) ++ out → now ≡ Some (record yard { out = lent (length back) left ++ out; back = yard.back ++ back })

-- the same of links
abbrev pub LinksComeBack : Option YardValue → Option YardValue → List ReturnedLink → ℕ → Type 0
LinksComeBack None now back left = now ≡ None
LinksComeBack (Some yard) now back left = (out : List ℕ) → yard.links_out ≡ lent 0 (length back + left) ++ out → now ≡ Some (record yard { links_out = lent (length back) left ++ out; links_back = yard.links_back ++ back })

-- all of them, ports and links
abbrev pub AllComeBack : Option YardValue → Option YardValue → List Returned → List ReturnedLink → Type 0
AllComeBack None now back links_back = now ≡ None
AllComeBack (Some yard) now back links_back = (out links_out : List ℕ) → yard.out ≡ lent 0 (length back) ++ out → yard.links_out ≡ lent 0 (length links_back) ++ links_out
    → now ≡ Some (record yard { out = out; links_out = links_out; back = yard.back ++ back; links_back = yard.links_back ++ links_back })

-- Which of the calls failed that ask a yard for so many ports and links: as many were made before it, and so many ports
-- and links handed out.
pub data FailsAt (at : Listening) (call ports links : ℕ) : Type 0 where
  -- the one that is to listen
  listening : call ≡ 0 → ports ≡ 0 → links ≡ 0 → FailsAt at call ports links
  -- one for a port
  asking : call ≡ 1 + ports → ports < at.feeds → links ≡ 0 → FailsAt at call ports links
  -- one for a link
  asking_link : call ≡ 1 + (at.feeds + links) → ports ≡ at.feeds → links < at.askers → FailsAt at call ports links

-- why: the plan fails the call of this number, or none waits of what it asks for
abbrev pub HasReason : Listening → YardValue → (number call ports links : ℕ) → Type 0
HasReason at yard number call ports links = Contains yard.fails number ⊎ (((0 < call) × (ports < at.feeds) × (length yard.ports ≡ ports)) ⊎ ((0 < call) × (ports ≡ at.feeds) × (length yard.links ≡ links)))

-- The yard refused a call, before which so many were made and these handed out, which are as they were. It tells so
-- where it tells anything.
abbrev pub LendsButRefuses : Listening → Option YardValue → Option YardValue → (calls before : ℕ) → List Returned → List ReturnedLink → Type 0
LendsButRefuses at None now calls before ports links = now ≡ None
LendsButRefuses at (Some yard) now calls before ports links = HasReason at yard (call_after calls before) before (length ports) (length links) × Lends (Some yard) now calls before ports links

-- the same, once they came back
abbrev pub RefusesWhereTold : Listening → Option YardValue → Option YardValue → (calls before : ℕ) → List Returned → List ReturnedLink → Type 0
RefusesWhereTold at None now calls before ports links = now ≡ None
RefusesWhereTold at (Some yard) now calls before ports links = HasReason at yard (call_after calls before) before (length ports) (length links) × ComeBack (Some yard) now calls before ports ports links links

-- Ports and links were asked for, and one of the calls failed: so many were made before it. What had been handed out came
-- back as it was.
pub record Refuses (at : Listening) (old new : Option YardValue) (calls before : ℕ) : Type 0 where
  pub ports : List Returned
  pub links : List ReturnedLink
  pub fails : FailsAt at before (length ports) (length links)
  pub told : RefusesWhereTold at old new calls before ports links
