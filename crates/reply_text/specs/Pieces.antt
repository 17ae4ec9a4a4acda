-- Texts of parts as they are written one after another, in the forms of the route line.
use Rattle.std.specs.Prelude.{ℕ, Bool, true, false, List, [], ◌∷◌, ◌++◌, map, codes}
use Rattle.std.specs.List.{flat_map, join_with_byte}
use Rattle.bmp_specs.specs.declared.wire.Family.TheVariants.{V4}
use Rattle.bmp_specs.specs.AddressText.{address_text, text_in}
use Rattle.bmp_specs.specs.Counts.{CountsValue}
use Rattle.bmp_specs.specs.EscapedText.{escaped_text}
use Rattle.bmp_specs.specs.NumberText.{number_text}
use Rattle.bmp_specs.specs.PeerLines.{named_field}
use Rattle.bmp_specs.specs.PeerText.{key_text}
use Rattle.bmp_specs.specs.RouteLine.{absent, comma, underscore, text_or_absent, hop_text, origin_text, path_text, yes_or_no, aggregator_text, comma_list, community_text, others_text}
use Rattle.bmp_specs.specs.Values.{AttrsValue, KeyValue, PeerInfoValue}
use Rattle.ask_specs.specs.Connection.{PassedValue, malformed_of}

-- pieces, each after the mark
abbrev pub behind : ℕ → List (List ℕ) → List ℕ
behind mark pieces = flat_map (λ piece. mark ∷ piece) pieces

-- fields, each after a space
abbrev pub spaced : List (List ℕ) → List ℕ
spaced fields = behind 32 fields

-- whether there is a piece
abbrev pub has_piece : List (List ℕ) → Bool
has_piece [] = false
has_piece (piece ∷ pieces) = true

-- the pieces of a path from a place on, after `_` where a piece stands before them
abbrev pub more_pieces : Bool → List (List ℕ) → List ℕ
more_pieces true pieces = behind underscore pieces
more_pieces false pieces = join_with_byte underscore pieces

-- whether a piece stands before what follows these
abbrev pub goes_on : Bool → List (List ℕ) → Bool
goes_on true pieces = true
goes_on false pieces = has_piece pieces

-- what ends a path, which has a piece or none
abbrev pub empty_word : Bool → List ℕ
empty_word true = []
empty_word false = codes "empty"

-- what stands before a piece, where another stands before it or not
abbrev pub link_of : Bool → List ℕ
link_of true = underscore ∷ []
link_of false = []

-- texts from a place on, after `,` where one stands before them
abbrev pub more_texts : Bool → List (List ℕ) → List ℕ
more_texts true texts = behind comma texts
more_texts false texts = join_with_byte comma texts

-- what stands before a text, where another stands before it or not
abbrev pub comma_of : Bool → List ℕ
comma_of true = comma ∷ []
comma_of false = []

-- what ends a list of texts, which has one or none
abbrev pub absent_word : Bool → List ℕ
absent_word true = []
absent_word false = absent

-- the fields of the next hop, ORIGIN and AS_PATH
abbrev pub mandatory_text : AttrsValue → List ℕ
mandatory_text a = codes " next=" ++ (text_or_absent hop_text a.hop ++ (codes " origin=" ++ (text_or_absent origin_text a.origin ++ (codes " path=" ++ text_or_absent path_text a.path))))

-- the fields of MULTI_EXIT_DISC, LOCAL_PREF and ATOMIC_AGGREGATE
abbrev pub metrics_text : AttrsValue → List ℕ
metrics_text a = codes " med=" ++ (text_or_absent number_text a.med ++ (codes " pref=" ++ (text_or_absent number_text a.pref ++ (codes " atomic=" ++ yes_or_no a.atomic))))

-- the fields of AGGREGATOR, of the communities and of the other attributes
abbrev pub remaining_text : AttrsValue → List ℕ
remaining_text a = codes " agg=" ++ (text_or_absent aggregator_text a.aggregator ++ (codes " comm=" ++ (comma_list (map community_text a.communities) ++ (codes " other=" ++ others_text a.others))))

-- the fields of how many peers are up, and of the counts of a session
abbrev pub counts_fields : ℕ → CountsValue → List (List ℕ)
counts_fields up counts =
    named_field (codes "peers") (number_text up)
    ∷ named_field (codes "messages") (number_text counts.messages)
    ∷ named_field (codes "bytes") (number_text counts.bytes)
    ∷ named_field (codes "orphans") (number_text counts.orphans)
    ∷ named_field (codes "unread") (number_text counts.unread)
    ∷ named_field (codes "mirrored") (number_text counts.mirrored)
    ∷ named_field (codes "passed") (number_text counts.passed)
    ∷ []

-- the fields of sysName and sysDescr
abbrev pub name_fields : List ℕ → List ℕ → List (List ℕ)
name_fields name descr = named_field (codes "name") (escaped_text name) ∷ named_field (codes "descr") (escaped_text descr) ∷ []

-- the fields of the parts that were passed over, up to the families
abbrev pub cause_counts : PassedValue → List (List ℕ)
cause_counts passed =
    named_field (codes "tlvs") (number_text passed.tlvs)
    ∷ named_field (codes "stats") (number_text passed.stats)
    ∷ named_field (codes "malformed") (number_text (malformed_of passed))
    ∷ []

-- the fields of a peer that is up, up to its ports
abbrev pub session_fields : ℕ → KeyValue → PeerInfoValue → List (List ℕ)
session_fields lane key info =
    number_text lane
    ∷ key_text key
    ∷ codes "up"
    ∷ named_field (codes "asn") (number_text info.asn)
    ∷ named_field (codes "id") (text_in V4 info.identifier)
    ∷ named_field (codes "local") (address_text info.local)
    ∷ named_field (codes "ports") (number_text info.local_port ++ (codes "," ++ number_text info.remote_port))
    ∷ []

-- the fields of a Loc-RIB Instance Peer
abbrev pub loc_rib_fields : Bool → List ℕ → List (List ℕ)
loc_rib_fields filtered table = named_field (codes "filtered") (yes_or_no filtered) ∷ named_field (codes "table") table ∷ []
