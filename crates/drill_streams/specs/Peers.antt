-- The four peers of a lane of a drill.
use Rattle.std.specs.Prelude.{ℕ, ◌+◌, false, List, [], ◌∷◌, None}
use Rattle.bmp_specs.specs.declared.wire.Family.TheVariants.{V4}
use Rattle.bmp_specs.specs.Prefix.{padded}
use Rattle.bmp_specs.specs.Values.{AddressValue, KeyValue, OpenValue, PeerInfoValue}

-- an IPv4 address
abbrev pub v4 : List ℕ → AddressValue
v4 octets = record { family = V4; octets = padded octets }

-- the address of a peer, 192.0.2.1 to 192.0.2.4, which is its BGP Identifier too
abbrev pub peer_octets : ℕ → List ℕ
peer_octets p = 192 ∷ 0 ∷ 2 ∷ (p + 1) ∷ []

-- that of the router
abbrev pub router_octets : List ℕ
router_octets = 192 ∷ 0 ∷ 2 ∷ 254 ∷ []

-- the AS of a peer, and that of the router
abbrev pub peer_as : ℕ → ℕ
peer_as p = 64512 + p

abbrev pub router_as : ℕ
router_as = 64496

-- a Global Instance Peer
abbrev pub peer_key : ℕ → KeyValue
peer_key p = record { kind = 0; distinguisher = 0; address = v4 (peer_octets p) }

-- an OPEN message without capabilities
abbrev pub plain_open : ℕ → List ℕ → OpenValue
plain_open my_as identifier = record { version = 4; my_as = my_as; hold = 180; identifier = identifier; four = None; families = []; paths = []; extended = false }

-- what the Peer Up Notification tells: BGP's port at the router, and both OPEN messages
abbrev pub peer_info : ℕ → PeerInfoValue
peer_info p = record {
  asn = peer_as p;
  identifier = peer_octets p;
  local = v4 router_octets;
  local_port = 179;
  remote_port = 50000;
  sent = plain_open router_as router_octets;
  received = plain_open (peer_as p) (peer_octets p);
  filtered = false;
  table = None;
}
