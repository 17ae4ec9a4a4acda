-- A line of a book: a peer and its state.
use Rattle.bmp_specs.specs.PeerUp.{StateValue}
use Rattle.bmp_specs.specs.Values.{KeyValue}
use Rattle.peer_book.specs.declared.cursor.PeerLine.{PeerLine}
use Rattle.peer_book.specs.Peers.{state_value}

abbrev pub line_value : PeerLine → KeyValue × StateValue
line_value line = (line.key, state_value line.state.now)
