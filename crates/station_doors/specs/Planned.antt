-- What a port gives of its plan.
use Rattle.std.specs.Prelude.{◌≡◌, ℕ, ◌*◌, ◌<◌, ◌≤◌, true, false, List, [], ◌∷◌, ◌++◌, length, drop, Some, Contains}
use Rattle.bmp_specs.specs.Life.{LastRead, gave, gave_none, failed, most_taken, most_read, Given}
use Rattle.wire_io.specs.Aside.{Aside, Plan}
use Rattle.station_doors.specs.Doors.{untouched}

-- the bytes of the first connection, none where there is no connection
abbrev pub first_of : List (List ℕ) → List ℕ
first_of [] = []
first_of (bytes ∷ more) = bytes

-- The first reads of a port, so many, gave these bytes: each at least one, and at most as many as one read gives. The
-- plan fails none of them.
pub record Gives (plan : Plan) (reads : ℕ) (bytes : List ℕ) : Type 0 where
  pub most : reads ≤ length bytes
  pub fewest : length bytes ≤ reads * most_read
  pub calm : (k : ℕ) → k < reads → Contains plan.fails k → ⊥

-- the read of this number, a connection's last one, may go so: it gives none only where the plan doesn't fail it, and
-- fails only where the plan does
abbrev pub GoesAsPlanned : Plan → ℕ → LastRead → Type 0
GoesAsPlanned plan number gave = Unit {0}
GoesAsPlanned plan number gave_none = Contains plan.fails number → ⊥
GoesAsPlanned plan number failed = Contains plan.fails number

-- the reads of a port gave these bytes, and then the last one went so
abbrev pub ReadsAsPlanned : Plan → List ℕ → LastRead → Type 0
ReadsAsPlanned plan bytes last = (reads : ℕ) × Gives plan reads bytes × GoesAsPlanned plan reads last

-- each of these reads gave bytes
abbrev pub AllGave : List LastRead → Type 0
AllGave [] = Unit {0}
AllGave (gave ∷ went) = AllGave went
AllGave (gave_none ∷ went) = ⊥
AllGave (failed ∷ went) = ⊥

-- of these reads, the last first, only the last gave no bytes, if any
abbrev pub GaveBefore : List LastRead → Type 0
GaveBefore [] = Unit {0}
GaveBefore (last ∷ went) = AllGave went

-- how the last of these reads went, the last first
abbrev pub last_of_reads : List LastRead → LastRead
last_of_reads [] = gave
last_of_reads (last ∷ went) = last

-- Of a port that gave one connection, and was asked for no other since: what it gave is a front of the plan's first
-- connection, and is the whole of it where it ended. Where only its last read gave no bytes, if any, they went as planned.
pub record FollowsFirst (plan : Plan) (now : Aside) (calls : ℕ) (went : List LastRead) (given : Given) : Type 0 where
  pub some : 0 < length plan.connections
  pub coming : now.coming ≡ Some (drop 1 plan.connections)
  pub rest : List ℕ
  pub front : first_of plan.connections ≡ given.bytes ++ rest
  pub left : now.is_open ≡ true → now.rest ≡ Some rest
  pub whole : given.last ≡ gave_none → rest ≡ []
  pub within : length given.bytes ≤ most_taken
  pub taken : now.is_open ≡ true → now.taken ≡ length given.bytes
  pub steady : AllGave went → Gives plan (length went) given.bytes × (calls ≡ length went)
  pub reads : GaveBefore went → ReadsAsPlanned plan given.bytes (last_of_reads went)

-- of a port that gave none
pub record FollowsNone (plan : Plan) (now : Aside) (calls : ℕ) (went : List LastRead) : Type 0 where
  pub coming : now.coming ≡ Some plan.connections
  pub opened : now.opened ≡ 0
  pub is_closed : now.is_open ≡ false
  pub none : now.refused ≡ true → plan.connections ≡ []
  pub unread : went ≡ []
  pub uncalled : calls ≡ 0

-- the same by the connections that it gave; of more than one nothing is said
abbrev pub FollowsBy : Plan → Aside → ℕ → List LastRead → List Given → Type 0
FollowsBy plan now calls went [] = FollowsNone plan now calls went
FollowsBy plan now calls went (given ∷ []) = (now.opened ≡ 1) × (now.refused ≡ false → now.open_faults ≡ 0 → FollowsFirst plan now calls went given)
FollowsBy plan now calls went (given ∷ more ∷ others) = 1 < now.opened

-- What a port shows that showed this plan and had answered no call, and since answered so many; its reads went so, the
-- last first.
pub record FollowsPlan (plan : Plan) (now : Aside) (calls : ℕ) (went : List LastRead) : Type 0 where
  pub shown : now.plan ≡ Some plan
  pub given : List Given
  pub given_is : now.given ≡ Some given
  pub follows : FollowsBy plan now calls went given

-- the same of a port, whatever it showed at first
pub record Follows (first now : Aside) (before calls : ℕ) (went : List LastRead) : Type 0 where
  pub plan : (plan : Plan) → first ≡ untouched plan → before ≡ 0 → FollowsPlan plan now calls went
