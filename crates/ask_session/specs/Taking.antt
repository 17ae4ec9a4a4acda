-- A connection, piece by piece.
use Rattle.std.specs.Prelude.{◌≡◌, ℕ, ◌≤◌, List, Option, length}
use Rattle.bmp_specs.specs.Life.{gave, most_taken, Given}
use Rattle.wire_io.specs.Aside.{Aside}
use Rattle.ask_session.specs.Replies.{History}
use Rattle.ask_session.specs.Connection.{ReadsInput}
use Rattle.ask_session.specs.Hearing.{Goes}

-- so much was read so far, and no read gave nothing or failed
pub record Lives (lanes : ℕ) (seen seen' : History) (old now : Aside) (told told' : Option (List ℕ)) (writes writes' : ℕ) (pending : List ℕ) (taken : ℕ) : Type 0 where
  pub input : Given
  pub reads : ReadsInput old now input
  pub going : input.last ≡ gave
  pub count : taken ≡ length input.bytes
  pub few : taken ≤ most_taken
  pub calm : now.read_faults ≡ old.read_faults
  pub goes : Goes lanes seen seen' input.bytes pending told told' writes writes'
