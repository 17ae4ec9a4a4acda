-- Counts beside which what is left of a connection is told.
use Rattle.std.proofs.Common.{◌≡◌, ℕ, Bool, List, Option, None, Result, sym, ap, subst}
use Rattle.std.specs.Io.KnownBytes.{ReadConsumes}
use Rattle.wire_io.specs.declared.sink.Failed.{Failed}
use Rattle.wire_io.specs.Aside.{Aside}
use Rattle.station_doors.specs.Doors.{Closes, Opens, OpensNext, Reads}

pub reads_with : (old new : Aside) (before after : Option (List ℕ)) (result : Result ℕ Failed) (buf : List ℕ) → Reads old new result buf → ReadConsumes before after result buf
    → Reads (record old { rest = before }) (record new { rest = after }) result buf
reads_with old new before after result buf r c = record {
  plan = r.plan;
  coming = r.coming;
  rest = c;
  given = r.given;
  opened = r.opened;
  closed = r.closed;
  is_open = r.is_open;
  taken = r.taken;
  refused = r.refused;
  cause = r.cause;
  calm = r.calm;
  writes = r.writes;
  laid = r.laid;
}

-- where nothing is told of the connections to come
pub opens_with : (old new : Aside) (before after : Option (List ℕ)) (result : Result Bool Failed) → old.coming ≡ None → Opens old new result → Opens (record old { rest = before }) (record new { rest = after }) result
opens_with old new before after result none o = record {
  plan = o.plan;
  coming = subst (λ (c : Option (List (List ℕ))). OpensNext c new.coming after result) (sym none) (subst (λ (c : Option (List (List ℕ))). OpensNext c new.coming new.rest result) none o.coming);
  given = o.given;
  opened = o.opened;
  closed = o.closed;
  is_open = o.is_open;
  taken = o.taken;
  refused = o.refused;
  cause = o.cause;
  calm = o.calm;
  laid = o.laid;
}

pub closes_with : (old new : Aside) (before after : Option (List ℕ)) → Closes old new → Closes (record old { rest = before }) (record new { rest = after })
closes_with old new before after c = record { same = ap (λ (a : Aside). record a { rest = after }) c.same }
