-- An UPDATE message with a path attribute that is malformed: "treat-as-withdraw" (RFC 7606, section 2). The message is
-- "treated as though all contained routes had been withdrawn just as if they had been listed in the WITHDRAWN ROUTES
-- field (or in the MP_UNREACH_NLRI attribute if appropriate)". Ours are that attributes withdraw too which RFC 7606
-- discards alone, or of which it keeps the first; and that what wasn't read is counted.
use Rattle.std.specs.Prelude.{◌≡◌, ℕ, ◌+◌, false, List, [], ◌∷◌, ◌++◌, None}
use Rattle.bmp_specs.specs.declared.wire.IdUse.{IdUse}
use Rattle.bmp_specs.specs.AddressFamily.{uses_ids}
use Rattle.bmp_specs.specs.FramedUpdate.{FramedValue, PlaceValue, places}
use Rattle.bmp_specs.specs.Nlri.{AreNlri}
use Rattle.bmp_specs.specs.Update.{passed_over}
use Rattle.bmp_specs.specs.Values.{AttrsValue, NlriValue, UpdateValue}

-- the prefixes at these places, place by place
abbrev pub ArePlaced : IdUse → List PlaceValue → List NlriValue → Type 0
ArePlaced ids [] ns = ns ≡ []
ArePlaced ids (place ∷ others) ns = (here there : List NlriValue) × AreNlri place.family (uses_ids ids place.family) place.prefixes here
    × ArePlaced ids others there × (ns ≡ here ++ there)

abbrev pub no_attributes : AttrsValue
no_attributes = record { origin = None; path = None; hop = None; med = None; pref = None; atomic = false; aggregator = None; communities = []; others = [] }

-- an UPDATE message that withdraws these prefixes, and announces none
abbrev pub withdrawal_of : List NlriValue → ℕ → UpdateValue
withdrawal_of ns unread = record { withdrawn = ns; plain = []; plain_attrs = no_attributes; multi = []; multi_attrs = no_attributes; mark = None; unread = unread }

-- all contained routes are withdrawn; the attributes count as one part that wasn't read
pub record IsTreatedAsWithdraw (ids : IdUse) (f : FramedValue) (u : UpdateValue) : Type 0 where
  pub contained : List NlriValue
  pub are : ArePlaced ids (places f) contained
  pub is : u ≡ withdrawal_of contained (1 + (passed_over f.reach + passed_over f.unreach))
