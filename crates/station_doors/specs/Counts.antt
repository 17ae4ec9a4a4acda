-- What is told of a real port or link.
use Rattle.std.specs.Prelude.{ℕ, Bool, List, [], Option, None, Some}
use Rattle.wire_io.specs.Aside.{Aside}

-- the counts, and nothing of content
abbrev pub untold : ℕ → ℕ → Bool → ℕ → Bool → ℕ → ℕ → Aside
untold opened closed is_open taken refused open_faults read_faults = record {
  plan = None;
  coming = None;
  rest = None;
  given = None;
  opened = opened;
  closed = closed;
  is_open = is_open;
  taken = taken;
  refused = refused;
  open_faults = open_faults;
  read_faults = read_faults;
  write_faults = None;
  laid = [];
}

-- what the input of a port has left, where there is one that tells it
abbrev pub rest_of : {R : Type 0} → (R → Option (List ℕ)) → Option R → Option (List ℕ)
rest_of remaining None = None
rest_of remaining (Some input) = remaining input
