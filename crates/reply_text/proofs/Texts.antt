-- Texts with commas between them, written one after another.
use Rattle.std.proofs.Common.{◌≡◌, ℕ, zero, suc, ◌+◌, ◌*◌, ◌/◌, ◌%◌, ◌<◌, ◌≤◌, ◌-◌, Bool, true, false, List, [], ◌∷◌, ◌++◌, Option, Some, None, length, map, take, drop, get_or, refl, sym, ap, ◌∙◌, append_assoc, append-nil, arith, length-drop, slice_index, suc-mul}
use Rattle.std.specs.Prelude.{◌||◌, filter_map, flat_map, if◌then◌else◌, option_to_list}
use Rattle.std.specs.List.{cons_option, join_with_byte}
use Rattle.std.proofs.lemmas.Grind.{flat_map-append}
use Rattle.std.proofs.lemmas.Nat.{div-add-mod', div-mul-add, div_below, mod_below}
use Rattle.bmp_specs.specs.PeerText.{hex_digits, hex_text}
use Rattle.bmp_specs.specs.RouteLine.{comma_list}
use Rattle.ask_specs.specs.Items.{items, items_in}
use Rattle.reply_text.specs.Pieces.{absent_word, behind, comma_of, goes_on, has_piece, more_texts}
use Rattle.reply_text.proofs.Pieces.{flat_map_next, flat_map_split, has_piece-append, join-cons}

pub more_texts-append : (some : Bool) (ps qs : List (List ℕ)) → more_texts some (ps ++ qs) ≡ more_texts some ps ++ more_texts (goes_on some ps) qs
more_texts-append true ps qs = flat_map-append (λ (piece : List ℕ). 44 ∷ piece) ps qs
more_texts-append false [] qs = refl
more_texts-append false (p ∷ ps) qs =
    join-cons 44 p (ps ++ qs) ∙ ap (λ (l : List ℕ). p ++ l) (flat_map-append (λ (piece : List ℕ). 44 ∷ piece) ps qs) ∙ sym (append_assoc p (behind 44 ps) (behind 44 qs)) ∙ ap (λ (l : List ℕ). l ++ behind 44 qs) (sym (join-cons 44 p ps))

pub goes_on-append : (some : Bool) (ps qs : List (List ℕ)) → goes_on some (ps ++ qs) ≡ goes_on (goes_on some ps) qs
goes_on-append true ps qs = refl
goes_on-append false ps qs = has_piece-append ps qs

-- no text
pub none_texts : (some : Bool) → more_texts some [] ≡ []
none_texts true = refl
none_texts false = refl

pub goes_none : (some : Bool) → some ≡ goes_on some []
goes_none true = refl
goes_none false = refl

-- one text
pub one_text : (some : Bool) (text : List ℕ) → more_texts some (text ∷ []) ≡ comma_of some ++ text
one_text true text = append-nil (44 ∷ text)
one_text false text = refl

pub comma_list-more : (ps : List (List ℕ)) → comma_list ps ≡ more_texts false ps ++ absent_word (has_piece ps)
comma_list-more [] = refl
comma_list-more (p ∷ ps) = sym (append-nil (join_with_byte 44 (p ∷ ps)))

-- a list of texts in two parts
pub comma_list-append : (ps qs : List (List ℕ)) → comma_list (ps ++ qs) ≡ more_texts false ps ++ (more_texts (has_piece ps) qs ++ absent_word (goes_on (has_piece ps) qs))
comma_list-append ps qs =
    comma_list-more (ps ++ qs)
    ∙ ap (λ (l : List ℕ). l ++ absent_word (has_piece (ps ++ qs))) (more_texts-append false ps qs)
    ∙ ap (λ (b : Bool). (more_texts false ps ++ more_texts (has_piece ps) qs) ++ absent_word b) (has_piece-append ps qs)
    ∙ append_assoc (more_texts false ps) (more_texts (has_piece ps) qs) (absent_word (goes_on (has_piece ps) qs))

cons_flat : (o : Option (List ℕ)) (ps : List (List ℕ)) → cons_option o ps ≡ option_to_list o ++ ps
cons_flat None ps = refl
cons_flat (Some p) ps = refl

-- the texts that some have
module _ {X : Type 0} (f : X → Option (List ℕ)) where
  filter_flat : (xs : List X) → filter_map f xs ≡ flat_map (λ x. option_to_list (f x)) xs
  filter_flat [] = refl
  filter_flat (x ∷ xs) = cons_flat (f x) (filter_map f xs) ∙ ap (λ (l : List (List ℕ)). option_to_list (f x) ++ l) (filter_flat xs)

  next : (xs : List X) (i : ℕ) (d : X) → i < length xs → filter_map f (take (suc i) xs) ≡ filter_map f (take i xs) ++ option_to_list (f (get_or xs i d))
  next xs i d h = filter_flat (take (suc i) xs) ∙ flat_map_next (λ x. option_to_list (f x)) xs i d h ∙ ap (λ (l : List (List ℕ)). l ++ option_to_list (f (get_or xs i d))) (sym (filter_flat (take i xs)))

  split : (xs : List X) (i : ℕ) (d : X) → i < length xs → filter_map f xs ≡ filter_map f (take i xs) ++ (option_to_list (f (get_or xs i d)) ++ filter_map f (drop (suc i) xs))
  split xs i d h =
      filter_flat xs ∙ flat_map_split (λ x. option_to_list (f x)) xs i d h
      ∙ (λ k. sym (filter_flat (take i xs)) k ++ (option_to_list (f (get_or xs i d)) ++ sym (filter_flat (drop (suc i) xs)) k))

  -- the texts before a place, and that of the one there
  pub texts_next : (begun some : Bool) (xs : List X) (i : ℕ) (x : X) → i < length xs → x ≡ get_or xs i x → some ≡ goes_on begun (filter_map f (take i xs))
      → more_texts begun (filter_map f (take (suc i) xs)) ≡ more_texts begun (filter_map f (take i xs)) ++ more_texts some (option_to_list (f x))
  texts_next begun some xs i x h is e =
      let front : List (List ℕ) = filter_map f (take i xs) in
      ap (more_texts begun) (next xs i x h ∙ ap (λ (v : X). front ++ option_to_list (f v)) (sym is))
      ∙ more_texts-append begun front (option_to_list (f x))
      ∙ ap (λ (b : Bool). more_texts begun front ++ more_texts b (option_to_list (f x))) (sym e)

  -- the texts before a place, that of the one there, and what follows
  pub texts_split : (begun some : Bool) (xs : List X) (i : ℕ) (x : X) → i < length xs → x ≡ get_or xs i x → some ≡ goes_on begun (filter_map f (take i xs))
      → (rest : List ℕ) × (more_texts begun (filter_map f xs) ++ absent_word (goes_on begun (filter_map f xs)) ≡ more_texts begun (filter_map f (take i xs)) ++ (more_texts some (option_to_list (f x)) ++ rest))
  texts_split begun some xs i x h is e =
      let front : List (List ℕ) = filter_map f (take i xs) in
      let here : List (List ℕ) = option_to_list (f x) in
      let back : List (List ℕ) = filter_map f (drop (suc i) xs) in
      let end : List ℕ = absent_word (goes_on begun (filter_map f xs)) in
      let parts : filter_map f xs ≡ front ++ (here ++ back) = split xs i x h ∙ ap (λ (v : X). front ++ (option_to_list (f v) ++ back)) (sym is) in
      let texts : more_texts begun (filter_map f xs) ≡ more_texts begun front ++ (more_texts some here ++ more_texts (goes_on some here) back) =
      ap (more_texts begun) parts ∙ more_texts-append begun front (here ++ back) ∙ ap (λ (b : Bool). more_texts begun front ++ more_texts b (here ++ back)) (sym e) ∙ ap (λ (l : List ℕ). more_texts begun front ++ l) (more_texts-append some here back) in (
        more_texts (goes_on some here) back ++ end,
        ap (λ (l : List ℕ). l ++ end) texts
            ∙ append_assoc (more_texts begun front) (more_texts some here ++ more_texts (goes_on some here) back) end
            ∙ ap (λ (l : List ℕ). more_texts begun front ++ l) (append_assoc (more_texts some here) (more_texts (goes_on some here) back) end),
      )

  -- whether a text stands before what follows
  pub goes_next : (begun some : Bool) (xs : List X) (i : ℕ) (x : X) → i < length xs → x ≡ get_or xs i x → some ≡ goes_on begun (filter_map f (take i xs))
      → goes_on some (option_to_list (f x)) ≡ goes_on begun (filter_map f (take (suc i) xs))
  goes_next begun some xs i x h is e =
      ap (λ (b : Bool). goes_on b (option_to_list (f x))) e ∙ sym (goes_on-append begun (filter_map f (take i xs)) (option_to_list (f x)))
      ∙ ap (λ (l : List (List ℕ)). goes_on begun l) (sym (next xs i x h ∙ ap (λ (v : X). filter_map f (take i xs) ++ option_to_list (f v)) (sym is)))

-- ---- items
one_more : (size n m : ℕ) → 1 ≤ size → n ≡ size + m → n / size ≡ suc (m / size)
one_more size n m some e =
    let parts : n ≡ suc (m / size) * size + m % size = omega (arith, e, div-add-mod' m size, suc-mul (m / size) size) in
    ap (λ (k : ℕ). k / size) parts ∙ div-mul-add (suc (m / size)) size (m % size) (mod_below m size some)

-- the first item and the others
pub items_first : (size : ℕ) (v : List ℕ) → 1 ≤ size → size ≤ length v → items size v ≡ take size v ∷ items size (drop size v)
items_first size v some long =
    let count : length v / size ≡ suc (length (drop size v) / size) = one_more size (length v) (length (drop size v)) some (omega (arith, length-drop size v, long)) in
    ap (λ (n : ℕ). items_in n size v) count

pub items_none : (size : ℕ) (v : List ℕ) → length v < size → items size v ≡ []
items_none size v short =
    let count : length v / size ≡ 0 = omega (arith, div_below (length v) size 1 (omega (arith, short)) (omega (arith, short))) in
    ap (λ (n : ℕ). items_in n size v) count

-- ---- hexadecimal
pub hex-append : (xs ys : List ℕ) → hex_text (xs ++ ys) ≡ hex_text xs ++ hex_text ys
unfolding hex_text
hex-append [] ys = refl
hex-append (x ∷ xs) ys = ap (λ (l : List ℕ). slice_index hex_digits (x / 16) ∷ slice_index hex_digits (x % 16) ∷ l) (hex-append xs ys)

pub hex_one : (b : ℕ) (digits : List ℕ) → digits ≡ slice_index hex_digits (b / 16) ∷ slice_index hex_digits (b % 16) ∷ [] → hex_text (b ∷ []) ≡ digits ++ []
unfolding hex_text
hex_one b digits e = sym e ∙ sym (append-nil digits)

pub hex_flat : {X : Type 0} (g : X → List ℕ) (xs : List X) → hex_text (flat_map g xs) ≡ flat_map (λ x. hex_text (g x)) xs
unfolding hex_text
hex_flat g [] = refl
hex_flat g (x ∷ xs) = hex-append (g x) (flat_map g xs) ∙ ap (λ (l : List ℕ). hex_text (g x) ++ l) (hex_flat g xs)

-- ---- items, written one after another
module _ (f : List ℕ → List ℕ) (size : ℕ) where
  pub items_step : (some : Bool) (v : List ℕ) → 1 ≤ size → size ≤ length v → more_texts some (map f (items size v)) ≡ more_texts some (f (take size v) ∷ []) ++ more_texts true (map f (items size (drop size v)))
  items_step true v positive long = ap (λ (l : List (List ℕ)). more_texts true (map f l)) (items_first size v positive long) ∙ more_texts-append true (f (take size v) ∷ []) (map f (items size (drop size v)))
  items_step false v positive long = ap (λ (l : List (List ℕ)). more_texts false (map f l)) (items_first size v positive long) ∙ more_texts-append false (f (take size v) ∷ []) (map f (items size (drop size v)))

  pub items_end : (some : Bool) (v : List ℕ) → length v < size → more_texts some (map f (items size v)) ≡ []
  items_end true v short = ap (λ (l : List (List ℕ)). more_texts true (map f l)) (items_none size v short)
  items_end false v short = ap (λ (l : List (List ℕ)). more_texts false (map f l)) (items_none size v short)

-- ---- a text that is there or not
pub has_if : (b : Bool) (text : List ℕ) → has_piece (option_to_list (if b then Some text else None)) ≡ b
has_if true text = refl
has_if false text = refl

pub goes_if : (some b : Bool) (text : List ℕ) → goes_on some (option_to_list (if b then Some text else None)) ≡ some || b
goes_if true b text = refl
goes_if false b text = has_if b text

-- the text is there
pub text_if : (some b : Bool) (text : List ℕ) → b ≡ true → more_texts some (option_to_list (if b then Some text else None)) ≡ comma_of some ++ text
text_if some b text e = ap (λ (v : Bool). more_texts some (option_to_list (if v then Some text else None))) e ∙ one_text some text
