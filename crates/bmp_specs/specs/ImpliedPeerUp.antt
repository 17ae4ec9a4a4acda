-- A Loc-RIB of which no Peer Up told. By RFC 9069, section 5.2, a Loc-RIB Instance Peer has a Peer Up Notification of
-- its own. That the first routes of one of which nothing told imply it, and what it says then, are ours.
use Rattle.std.specs.Prelude.{ℕ, ◌^◌, nat_lt, false, if◌then◌else◌, [], replicate, Some, None}
use Rattle.bmp_specs.specs.declared.wire.Family.TheVariants.{V4}
use Rattle.bmp_specs.specs.FourOctetAs.{as_trans}
use Rattle.bmp_specs.specs.PeerHeader.{HeaderValue, is_set}
use Rattle.bmp_specs.specs.PeerUpNotification.{f_flag}
use Rattle.bmp_specs.specs.Values.{OpenValue, OpensValue, PeerInfoValue}

-- "My Autonomous System": AS_TRANS in place of a number that two octets don't hold (RFC 6793, section 9)
abbrev pub my_as_of : ℕ → ℕ
my_as_of asn = if nat_lt asn (2 ^ 16) then asn else as_trans

-- an OPEN message of the AS and the identifier in the header, with the four-octet AS number capability alone
abbrev pub implied_open : HeaderValue → OpenValue
implied_open h = record { version = 4; my_as = my_as_of h.asn; hold = 0; identifier = h.identifier; four = Some h.asn; families = []; paths = []; extended = false }

-- the same one as sent and as received: a Loc-RIB has no session (RFC 9069, section 5.2)
abbrev pub implied_opens : HeaderValue → OpensValue
implied_opens h = record { sent = implied_open h; received = implied_open h }

-- its local address and its ports are 0, and it names no table
abbrev pub implied_info : HeaderValue → PeerInfoValue
implied_info h = record {
  asn = h.asn;
  identifier = h.identifier;
  local = record { family = V4; octets = replicate 16 0 };
  local_port = 0;
  remote_port = 0;
  sent = implied_open h;
  received = implied_open h;
  filtered = is_set f_flag h.flags;
  table = None;
}
