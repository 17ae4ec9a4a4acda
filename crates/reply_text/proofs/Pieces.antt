-- Texts of parts, written one part after another.
use Rattle.std.proofs.Common.{◌≡◌, ℕ, zero, suc, ◌<◌, Bool, true, false, List, [], ◌∷◌, ◌++◌, length, map, take, drop, get_or, refl, sym, ap, ◌∙◌, append_assoc, append-nil, arith, codes, ◌≤◌, ◌-◌, ◌/◌, ◌%◌, slice_index}
use Rattle.std.specs.List.{flat_map, join_with_byte}
use Rattle.std.proofs.lemmas.Grind.{flat_map-append}
use Rattle.std.proofs.lemmas.List.{take_rest}
use Rattle.bmp_specs.specs.Lines.{further, line}
use Rattle.bmp_specs.specs.NumberText.{number_text}
use Rattle.bmp_specs.specs.PeerText.{hex_digits, hex_text, key_text, view_text}
use Rattle.bmp_specs.specs.RouteLine.{joined_pieces, bracketed, segment_pieces, path_text, comma_list, text_or_absent, hop_text, origin_text, yes_or_no, aggregator_text, community_text, others_text, attribute_fields, id_fields, route_fields}
use Rattle.bmp_specs.specs.PrefixText.{prefix_text}
use Rattle.bmp_specs.specs.Rows.{RowValue}
use Rattle.bmp_specs.specs.Values.{SegmentValue, AttrsValue}
use Rattle.reply_text.specs.Pieces.{behind, spaced, has_piece, more_pieces, goes_on, empty_word, link_of, mandatory_text, metrics_text, remaining_text}

-- one more part
pub flat_map_next : {X A : Type 0} (f : X → List A) (xs : List X) (i : ℕ) (d : X) → i < length xs → flat_map f (take (suc i) xs) ≡ flat_map f (take i xs) ++ f (get_or xs i d)
flat_map_next f [] i d h = absurd (omega arith)
flat_map_next f (x ∷ xs) zero d h = append-nil (f x)
flat_map_next f (x ∷ xs) (suc i) d h = ap (λ l. f x ++ l) (flat_map_next f xs i d (omega arith)) ∙ sym (append_assoc (f x) (flat_map f (take i xs)) (f (get_or xs i d)))

-- the parts before a place, the one there, and those after it
pub flat_map_split : {X A : Type 0} (f : X → List A) (xs : List X) (i : ℕ) (d : X) → i < length xs → flat_map f xs ≡ flat_map f (take i xs) ++ (f (get_or xs i d) ++ flat_map f (drop (suc i) xs))
flat_map_split f [] i d h = absurd (omega arith)
flat_map_split f (x ∷ xs) zero d h = refl
flat_map_split f (x ∷ xs) (suc i) d h = ap (λ l. f x ++ l) (flat_map_split f xs i d (omega arith)) ∙ sym (append_assoc (f x) (flat_map f (take i xs)) (f (get_or xs i d) ++ flat_map f (drop (suc i) xs)))

flat_map_at : (segments : List SegmentValue) (i : ℕ) (s : SegmentValue) → i < length segments → s ≡ get_or segments i s → flat_map segment_pieces (take (suc i) segments) ≡ flat_map segment_pieces (take i segments) ++ segment_pieces s
flat_map_at segments i s h is = flat_map_next segment_pieces segments i s h ∙ ap (λ (v : SegmentValue). flat_map segment_pieces (take i segments) ++ segment_pieces v) (sym is)

pub behind_next : {X : Type 0} (mark : ℕ) (f : X → List ℕ) (xs : List X) (i : ℕ) (d : X) → i < length xs → behind mark (map f (take (suc i) xs)) ≡ behind mark (map f (take i xs)) ++ (mark ∷ f (get_or xs i d))
behind_next mark f [] i d h = absurd (omega arith)
behind_next mark f (x ∷ xs) zero d h = append-nil (mark ∷ f x)
behind_next mark f (x ∷ xs) (suc i) d h = ap (λ (l : List ℕ). mark ∷ (f x ++ l)) (behind_next mark f xs i d (omega arith)) ∙ sym (append_assoc (mark ∷ f x) (behind mark (map f (take i xs))) (mark ∷ f (get_or xs i d)))

pub behind_split : {X : Type 0} (mark : ℕ) (f : X → List ℕ) (xs : List X) (i : ℕ) (d : X) → i < length xs → behind mark (map f xs) ≡ behind mark (map f (take i xs)) ++ ((mark ∷ f (get_or xs i d)) ++ behind mark (map f (drop (suc i) xs)))
behind_split mark f [] i d h = absurd (omega arith)
behind_split mark f (x ∷ xs) zero d h = refl
behind_split mark f (x ∷ xs) (suc i) d h = ap (λ (l : List ℕ). mark ∷ (f x ++ l)) (behind_split mark f xs i d (omega arith)) ∙ sym (append_assoc (mark ∷ f x) (behind mark (map f (take i xs))) ((mark ∷ f (get_or xs i d)) ++ behind mark (map f (drop (suc i) xs))))

-- the first piece, and the others behind the mark
pub join-cons : (mark : ℕ) (piece : List ℕ) (pieces : List (List ℕ)) → join_with_byte mark (piece ∷ pieces) ≡ piece ++ behind mark pieces
join-cons mark piece [] = sym (append-nil piece)
join-cons mark piece (next ∷ pieces) = ap (λ (l : List ℕ). piece ++ (mark ∷ l)) (join-cons mark next pieces)

pub more_pieces-append : (some : Bool) (ps qs : List (List ℕ)) → more_pieces some (ps ++ qs) ≡ more_pieces some ps ++ more_pieces (goes_on some ps) qs
more_pieces-append true ps qs = flat_map-append (λ (piece : List ℕ). 95 ∷ piece) ps qs
more_pieces-append false [] qs = refl
more_pieces-append false (p ∷ ps) qs =
    join-cons 95 p (ps ++ qs) ∙ ap (λ (l : List ℕ). p ++ l) (flat_map-append (λ (piece : List ℕ). 95 ∷ piece) ps qs) ∙ sym (append_assoc p (behind 95 ps) (behind 95 qs)) ∙ ap (λ (l : List ℕ). l ++ behind 95 qs) (sym (join-cons 95 p ps))

pub joined_pieces-more : (ps : List (List ℕ)) → joined_pieces ps ≡ more_pieces false ps ++ empty_word (has_piece ps)
joined_pieces-more [] = refl
joined_pieces-more (p ∷ ps) = sym (append-nil (join_with_byte 95 (p ∷ ps)))

pub further-append : (fields others : List (List ℕ)) → further (fields ++ others) ≡ spaced fields ++ further others
further-append [] others = refl
further-append (field ∷ fields) others = ap (λ (l : List ℕ). 32 ∷ (field ++ l)) (further-append fields others) ∙ sym (append_assoc (32 ∷ field) (spaced fields) (further others))

pub spaced-append : (fields others : List (List ℕ)) → spaced (fields ++ others) ≡ spaced fields ++ spaced others
spaced-append fields others = flat_map-append (λ (piece : List ℕ). 32 ∷ piece) fields others

-- a line in two parts
pub line_parts : (word : List ℕ) (fields others : List (List ℕ)) → line word (fields ++ others) ≡ (word ++ spaced fields) ++ further others
line_parts word fields others = ap (λ (l : List ℕ). word ++ l) (further-append fields others) ∙ sym (append_assoc word (spaced fields) (further others))

-- a segment within brackets
pub bracketed_parts : (some : Bool) (before after : ℕ) (numbers : List ℕ) → more_pieces some (bracketed (before ∷ []) numbers (after ∷ []) ∷ []) ≡ (link_of some ++ before ∷ []) ++ (join_with_byte 44 (map number_text numbers) ++ after ∷ [])
bracketed_parts true before after numbers = append-nil (95 ∷ bracketed (before ∷ []) numbers (after ∷ []))
bracketed_parts false before after numbers = refl

-- the two digits of a byte
abbrev digits_of : ℕ → List ℕ
digits_of b = slice_index hex_digits (b / 16) ∷ slice_index hex_digits (b % 16) ∷ []

pub hex_next : (bytes : List ℕ) (i : ℕ) (d : ℕ) → i < length bytes → hex_text (take (suc i) bytes) ≡ hex_text (take i bytes) ++ digits_of (get_or bytes i d)
unfolding hex_text
hex_next [] i d h = absurd (omega arith)
hex_next (b ∷ bytes) zero d h = refl
hex_next (b ∷ bytes) (suc i) d h = ap (λ (l : List ℕ). digits_of b ++ l) (hex_next bytes i d (omega arith))

pub hex_split : (bytes : List ℕ) (i : ℕ) (d : ℕ) → i < length bytes → hex_text bytes ≡ hex_text (take i bytes) ++ (digits_of (get_or bytes i d) ++ hex_text (drop (suc i) bytes))
unfolding hex_text
hex_split [] i d h = absurd (omega arith)
hex_split (b ∷ bytes) zero d h = refl
hex_split (b ∷ bytes) (suc i) d h = ap (λ (l : List ℕ). digits_of b ++ l) (hex_split bytes i d (omega arith))

pub hex_none : hex_text [] ≡ []
unfolding hex_text
hex_none = refl

-- the pieces of the segments before a place, those of the segment there, and what follows them
pub path_next : (some : Bool) (segments : List SegmentValue) (i : ℕ) (s : SegmentValue) → i < length segments → s ≡ get_or segments i s → some ≡ has_piece (flat_map segment_pieces (take i segments))
    → more_pieces false (flat_map segment_pieces (take (suc i) segments)) ≡ more_pieces false (flat_map segment_pieces (take i segments)) ++ more_pieces some (segment_pieces s)
path_next some segments i s h is e =
    let front : List (List ℕ) = flat_map segment_pieces (take i segments) in
    ap (more_pieces false) (flat_map_at segments i s h is) ∙ more_pieces-append false front (segment_pieces s) ∙ ap (λ (b : Bool). more_pieces false front ++ more_pieces b (segment_pieces s)) (sym e)

pub path_split : (some : Bool) (segments : List SegmentValue) (i : ℕ) (s : SegmentValue) → i < length segments → s ≡ get_or segments i s → some ≡ has_piece (flat_map segment_pieces (take i segments))
    → (rest : List ℕ) × (path_text segments ≡ more_pieces false (flat_map segment_pieces (take i segments)) ++ (more_pieces some (segment_pieces s) ++ rest))
path_split some segments i s h is e =
    let front : List (List ℕ) = flat_map segment_pieces (take i segments) in
    let here : List (List ℕ) = segment_pieces s in
    let back : List (List ℕ) = flat_map segment_pieces (drop (suc i) segments) in
    let end : List ℕ = empty_word (has_piece (flat_map segment_pieces segments)) in
    let parts : flat_map segment_pieces segments ≡ front ++ (here ++ back) = flat_map_split segment_pieces segments i s h ∙ ap (λ (v : SegmentValue). front ++ (segment_pieces v ++ back)) (sym is) in
    let pieces : more_pieces false (flat_map segment_pieces segments) ≡ more_pieces false front ++ (more_pieces some here ++ more_pieces (goes_on some here) back) =
    ap (more_pieces false) parts ∙ more_pieces-append false front (here ++ back) ∙ ap (λ (b : Bool). more_pieces false front ++ more_pieces b (here ++ back)) (sym e) ∙ ap (λ (l : List ℕ). more_pieces false front ++ l) (more_pieces-append some here back) in (
      more_pieces (goes_on some here) back ++ end,
      joined_pieces-more (flat_map segment_pieces segments)
          ∙ ap (λ (l : List ℕ). l ++ end) pieces
          ∙ append_assoc (more_pieces false front) (more_pieces some here ++ more_pieces (goes_on some here) back) end
          ∙ ap (λ (l : List ℕ). more_pieces false front ++ l) (append_assoc (more_pieces some here) (more_pieces (goes_on some here) back) end),
    )

pub has_piece-append : (ps qs : List (List ℕ)) → has_piece (ps ++ qs) ≡ goes_on (has_piece ps) qs
has_piece-append [] qs = refl
has_piece-append (p ∷ ps) qs = refl

pub has_next : (some : Bool) (segments : List SegmentValue) (i : ℕ) (s : SegmentValue) → i < length segments → s ≡ get_or segments i s → some ≡ has_piece (flat_map segment_pieces (take i segments)) → goes_on some (segment_pieces s) ≡ has_piece (flat_map segment_pieces (take (suc i) segments))
has_next some segments i s h is e = ap (λ (b : Bool). goes_on b (segment_pieces s)) e ∙ sym (has_piece-append (flat_map segment_pieces (take i segments)) (segment_pieces s)) ∙ ap has_piece (sym (flat_map_at segments i s h is))

-- a list that begins: the first text, and those of the others behind the mark
pub join_first : {X : Type 0} (mark : ℕ) (f : X → List ℕ) (xs : List X) (d : X) → 1 ≤ length xs → join_with_byte mark (map f xs) ≡ f (get_or xs 0 d) ++ behind mark (map f (take (length xs - 1) (drop 1 xs)))
join_first mark f [] d h = absurd (omega arith)
join_first mark f (x ∷ xs) d h = join-cons mark (f x) (map f xs) ∙ ap (λ l. f x ++ behind mark (map f l)) (sym (take_rest (x ∷ xs) 1))

pub comma_first : {X : Type 0} (f : X → List ℕ) (xs : List X) (d : X) → 1 ≤ length xs → comma_list (map f xs) ≡ f (get_or xs 0 d) ++ behind 44 (map f (take (length xs - 1) (drop 1 xs)))
comma_first f [] d h = absurd (omega arith)
comma_first f (x ∷ xs) d h = join_first 44 f (x ∷ xs) d h

-- the nine fields, one after another
nine_fields : (next origin path med pref atomic agg comm other : List ℕ)
    → spaced ((codes "next=" ++ next) ∷ (codes "origin=" ++ origin) ∷ (codes "path=" ++ path) ∷ (codes "med=" ++ med) ∷ (codes "pref=" ++ pref) ∷ (codes "atomic=" ++ atomic) ∷ (codes "agg=" ++ agg) ∷ (codes "comm=" ++ comm) ∷ (codes "other=" ++ other) ∷ [])
    ≡ (codes " next=" ++ (next ++ (codes " origin=" ++ (origin ++ (codes " path=" ++ path))))) ++ ((codes " med=" ++ (med ++ (codes " pref=" ++ (pref ++ (codes " atomic=" ++ atomic))))) ++ (codes " agg=" ++ (agg ++ (codes " comm=" ++ (comm ++ (codes " other=" ++ other))))))
nine_fields next origin path med pref atomic agg comm other = simp (append_assoc, append-nil)

pub attribute_parts : (a : AttrsValue) → spaced (attribute_fields a) ≡ mandatory_text a ++ (metrics_text a ++ remaining_text a)
attribute_parts a = nine_fields (text_or_absent hop_text a.hop) (text_or_absent origin_text a.origin) (text_or_absent path_text a.path) (text_or_absent number_text a.med) (text_or_absent number_text a.pref) (yes_or_no a.atomic) (text_or_absent aggregator_text a.aggregator) (comma_list (map community_text a.communities)) (others_text a.others)

pub route_parts : (row : RowValue) → further (route_fields row) ≡ spaced (key_text row.row_key.key ∷ view_text row.row_key.view ∷ prefix_text row.row_key.nlri.prefix ∷ []) ++ (spaced (attribute_fields row.route) ++ further (id_fields row.row_key.nlri.id))
route_parts row =
    let place : List (List ℕ) = key_text row.row_key.key ∷ view_text row.row_key.view ∷ prefix_text row.row_key.nlri.prefix ∷ [] in
    further-append place (attribute_fields row.route ++ id_fields row.row_key.nlri.id) ∙ ap (λ (l : List ℕ). spaced place ++ l) (further-append (attribute_fields row.route) (id_fields row.row_key.nlri.id))

pub open_route_parts : (row : RowValue) → spaced (route_fields row) ≡ spaced (key_text row.row_key.key ∷ view_text row.row_key.view ∷ prefix_text row.row_key.nlri.prefix ∷ []) ++ (spaced (attribute_fields row.route) ++ spaced (id_fields row.row_key.nlri.id))
open_route_parts row =
    let place : List (List ℕ) = key_text row.row_key.key ∷ view_text row.row_key.view ∷ prefix_text row.row_key.nlri.prefix ∷ [] in
    spaced-append place (attribute_fields row.route ++ id_fields row.row_key.nlri.id) ∙ ap (λ (l : List ℕ). spaced place ++ l) (spaced-append (attribute_fields row.route) (id_fields row.row_key.nlri.id))
