-- What a wrong book would hold or answer, and that it isn't what the contract asks for.
use Rattle.std.proofs.Common.{◌≡◌, ℕ, [], ◌∷◌, Some, None, refl, replicate}
use Rattle.bmp_specs.specs.declared.peers.View.TheVariants.{InPre}
use Rattle.bmp_specs.specs.declared.wire.Family.TheVariants.{V4}
use Rattle.bmp_specs.specs.PeerUp.{down_state}
use Rattle.bmp_specs.specs.Values.{KeyValue, PeerInfoValue, DownInfoValue, up, down, mark}
use Rattle.bmp_specs.proofs.PeerLaws.{down_with_now, named_ends_complete}
use Rattle.peer_book.specs.Marks.{no_marks, marked}
use Rattle.peer_book.specs.Peers.{up_peer, info_at}
use Rattle.peer_book.specs.Standing.{StandsForPeers}

-- the peer of this distinguisher
abbrev peer : ℕ → KeyValue
peer n = record { kind = 1; distinguisher = n; address = record { family = V4; octets = replicate 16 0 } }

-- A peer that went down is down: a book that forgets it doesn't stand for its Peer Up and Peer Down.
a_peer_that_went_down_is_still_named : (was : PeerInfoValue) (info : DownInfoValue) → StandsForPeers [] (up (peer 1) was ∷ down (peer 1) info ∷ []) → ⊥
a_peer_that_went_down_is_still_named was info stands =
    let is : None ≡ Some (down_state info) = (stands.down (peer 1) info).1 (down_with_now (up (peer 1) was ∷ []) (peer 1) info) in
    absurd cc

-- A second Peer Up begins again: a book that keeps the marks doesn't stand for a Peer Up, an End-of-RIB and a Peer Up.
a_second_peer_up_takes_the_marks : (info : PeerInfoValue) → StandsForPeers ((peer 1, up_peer info (marked no_marks InPre V4)) ∷ []) (up (peer 1) info ∷ mark (peer 1) InPre V4 ∷ up (peer 1) info ∷ []) → ⊥
a_second_peer_up_takes_the_marks info stands =
    named_ends_complete (up (peer 1) info ∷ mark (peer 1) InPre V4 ∷ []) (peer 1) (up (peer 1) info) InPre V4 refl ((stands.complete (peer 1) InPre V4).0 refl)

-- Of two peers the second has its own info, and not that of the first.
each_peer_has_its_own_info : (first second : PeerInfoValue) → (first ≡ second → ⊥) → info_at ((peer 1, up_peer first no_marks) ∷ (peer 2, up_peer second no_marks) ∷ []) (peer 2) ≡ Some first → ⊥
each_peer_has_its_own_info first second other is = other (let same : Some second ≡ Some first = is in cc)
