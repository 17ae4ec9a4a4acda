-- What a port tells of its present connection, or of its last one.
use Rattle.std.specs.Prelude.{◌≡◌, ℕ, zero, suc, List, Option, Some, None, slice_get, unwrap_or}
use Rattle.std.specs.Net.Socket.{socket_ip, socket_port}
use Rattle.std.specs.declared.net.socket_addr.SocketAddr.{SocketAddr}
use Rattle.bmp_specs.specs.Values.{EndpointValue}
use Rattle.station_doors.specs.Allowed.{ComesFrom}

-- from where it came, when it was opened and when it was closed, by the station's clock, in seconds since 1970; none where
-- that isn't told
pub record ToldValue : Type 0 where
  pub from : Option EndpointValue
  pub since : Option ℕ
  pub until : Option ℕ

-- nothing is told
abbrev pub untold : ToldValue
untold = record { from = None; since = None; until = None }

-- from where the connection came and when stays
abbrev pub KeepsOpening : ToldValue → ToldValue → Type 0
KeepsOpening old new = (new.from ≡ old.from) × (new.since ≡ old.since)

-- The address and the port are those of the network's address. An IPv4-mapped IPv6 address is the IPv4 address in it.
abbrev pub IsEndpoint : SocketAddr → EndpointValue → Type 0
IsEndpoint at endpoint = ComesFrom (socket_ip at) endpoint.address × (endpoint.port ≡ socket_port at)

-- the same where the network's address is known; none where it isn't
abbrev pub IsEndpointOf : Option SocketAddr → Option EndpointValue → Type 0
IsEndpointOf None endpoint = endpoint ≡ None
IsEndpointOf (Some at) None = ⊥
IsEndpointOf (Some at) (Some endpoint) = IsEndpoint at endpoint

-- what a port tells that has opened so many connections: of the first one the first of these values, and so on; nothing of
-- one past the last of them, or before the first one
abbrev pub told_at : List ToldValue → ℕ → ToldValue
told_at plan zero = untold
told_at plan (suc i) = unwrap_or (slice_get plan i) untold
