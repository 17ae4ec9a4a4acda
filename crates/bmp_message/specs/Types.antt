-- The types of messages as the code has them.
use Rattle.bmp_specs.specs.MessageBody.{MessageType, initiation_message, peer_down_notification, peer_up_notification, route_mirroring, route_monitoring, statistics_report, termination_message, unassigned}
use Rattle.bmp_message.specs.declared.types.MessageType.{MessageType as MessageTypeCode}
use Rattle.bmp_message.specs.declared.types.MessageType.TheVariants.{OfPeer, Initiation, Termination, Unknown}
use Rattle.bmp_message.specs.declared.types.PeerMessage.{PeerMessage}
use Rattle.bmp_message.specs.declared.types.PeerMessage.TheVariants.{RouteMonitoring, StatisticsReport, PeerDown, PeerUp, RouteMirroring}

-- the type of a message with a Per-Peer Header
abbrev pub message_type_of : PeerMessage → MessageType
message_type_of RouteMonitoring = route_monitoring
message_type_of StatisticsReport = statistics_report
message_type_of PeerDown = peer_down_notification
message_type_of PeerUp = peer_up_notification
message_type_of RouteMirroring = route_mirroring

-- the type of any message
abbrev pub type_in : MessageTypeCode → MessageType
type_in (OfPeer kind) = message_type_of kind
type_in Initiation = initiation_message
type_in Termination = termination_message
type_in Unknown = unassigned
