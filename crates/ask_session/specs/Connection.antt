-- One connection of an asker: what was read of it, what was written, and why it ended.
use Rattle.std.specs.Prelude.{◌≡◌, ◌⊎◌, ℕ, ◌≤◌, Bool, true, false, List, [], ◌∷◌, ◌++◌, length, Option, None, Some, IfSome}
use Rattle.std.specs.Io.KnownBytes.{Appends, Consumes, IsAtEnd}
use Rattle.bmp_specs.specs.Life.{gave_none, failed, most_taken, Given}
use Rattle.wire_io.specs.Aside.{Aside, fresh}
use Rattle.wire_io.specs.Faults.{Rose}
use Rattle.wire_io.specs.Writes.{AppendsFront}
use Rattle.station_doors.specs.Doors.{most_heard}
use Rattle.ask_session.specs.declared.close.Close.{Close}
use Rattle.ask_session.specs.declared.close.Close.TheVariants.{Ended, Full, Over, ReadFault, WriteFault}
use Rattle.ask_session.specs.Replies.{History}
use Rattle.ask_session.specs.Dialogue.{Dialogue, GoesOn}

-- the connections given, where they are told, of which the present one gave these bytes
abbrev pub GivesInput : Option (List Given) → Option (List Given) → Given → Type 0
GivesInput None now input = now ≡ None
GivesInput (Some before) now input = (earlier : List Given) → before ≡ earlier ++ fresh ∷ [] → now ≡ Some (earlier ++ input ∷ [])

-- what reads and writes leave of all that a link tells beside the present connection
pub record Stays (old new : Aside) : Type 0 where
  pub plan : new.plan ≡ old.plan
  pub coming : new.coming ≡ old.coming
  pub opened : new.opened ≡ old.opened
  pub closed : new.closed ≡ old.closed
  pub is_open : new.is_open ≡ old.is_open
  pub refused : new.refused ≡ old.refused
  pub open_faults : new.open_faults ≡ old.open_faults
  pub write_faults : new.write_faults ≡ old.write_faults
  pub laid : new.laid ≡ old.laid

-- this was read of the present connection
pub record ReadsInput (old new : Aside) (input : Given) : Type 0 where
  pub rest : Consumes old.rest new.rest input.bytes
  pub given : GivesInput old.given new.given input
  pub taken : old.taken ≡ 0 → new.taken ≡ length input.bytes
  pub stays : Stays old new

-- Why a connection ended, by what was read of it: `ended` tells whether a read gave no bytes, or the most bytes were taken.
abbrev pub SaysEnd : Close → Bool → Option (List ℕ) → Given → Type 0
SaysEnd Ended ended rest input = (ended ≡ true) × (input.last ≡ gave_none) × IsAtEnd rest
SaysEnd Full ended rest input = (ended ≡ true) × (length input.bytes ≡ most_taken)
SaysEnd Over ended rest input = ended ≡ true → ((input.last ≡ gave_none) × IsAtEnd rest) ⊎ (length input.bytes ≡ most_taken)
SaysEnd ReadFault ended rest input = (ended ≡ false) × (input.last ≡ failed)
SaysEnd WriteFault ended rest input = ended ≡ true → ((input.last ≡ gave_none) × IsAtEnd rest) ⊎ (length input.bytes ≡ most_taken)

-- All replies were written and no write failed, or one write failed and a front of them was written.
abbrev pub HasWritten : Close → List ℕ → Option (List ℕ) → Option (List ℕ) → ℕ → ℕ → Type 0
HasWritten Ended text told told' writes writes' = Appends told told' text × (writes' ≡ writes)
HasWritten Full text told told' writes writes' = Appends told told' text × (writes' ≡ writes)
HasWritten Over text told told' writes writes' = Appends told told' text × (writes' ≡ writes)
HasWritten ReadFault text told told' writes writes' = Appends told told' text × (writes' ≡ writes)
HasWritten WriteFault text told told' writes writes' = AppendsFront told text told' × Rose writes writes'

-- a failed read raises the count of faults of reads by one, and nothing else does
abbrev pub HasReadFault : Close → ℕ → ℕ → Type 0
HasReadFault ReadFault reads reads' = Rose reads reads'
HasReadFault Ended reads reads' = reads' ≡ reads
HasReadFault Full reads reads' = reads' ≡ reads
HasReadFault Over reads reads' = reads' ≡ reads
HasReadFault WriteFault reads reads' = reads' ≡ reads

-- this was written, and then some bytes more, or none
abbrev pub AppendsThenMore : Option (List ℕ) → Option (List ℕ) → List ℕ → Type 0
AppendsThenMore told told' text = (more : List ℕ) × Appends told told' (text ++ more)

-- Nothing is read once the connection ended: without the bytes of the last read it goes on, and the replies to their lines
-- were written. So neither `quit` nor a line that is too long is among them, nor one whose reply couldn't be written.
pub record IsReadNoFurther (lanes : ℕ) (history : History) (least : ℕ) (bytes : List ℕ) (told told' : Option (List ℕ)) : Type 0 where
  pub front : List ℕ
  pub piece : List ℕ
  pub split : bytes ≡ front ++ piece
  pub short : length piece ≤ most_heard
  pub replies : List ℕ
  pub going : GoesOn lanes history least front replies
  pub written : AppendsThenMore told told' replies

-- One connection, from its opening to its end: what was read of it, at most 2^46 bytes, and what was written. `history` is
-- what the pass has seen in the end, `least` the revision of what it had seen when the connection began. A read failed only
-- where the plan has a call that fails.
pub record Conversed (lanes : ℕ) (history : History) (least : ℕ) (old new : Aside) (input : Given) (told told' : Option (List ℕ)) (writes writes' : ℕ) (close : Close) : Type 0 where
  pub reads : ReadsInput old new input
  pub few : length input.bytes ≤ most_taken
  pub ended : Bool
  pub says : SaysEnd close ended new.rest input
  pub replies : List ℕ
  pub talk : Dialogue lanes close ended history least input.bytes replies
  pub written : HasWritten close replies told told' writes writes'
  pub fault : HasReadFault close old.read_faults new.read_faults
  pub planned : input.last ≡ failed → IfSome old.plan (λ plan. plan.fails ≡ [] → ⊥)
  pub no_further : IsReadNoFurther lanes history least input.bytes told told'
