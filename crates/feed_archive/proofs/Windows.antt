-- Parts of lists that agree.
use Rattle.std.proofs.Common.{◌≡◌, ℕ, ◌+◌, ◌-◌, ◌<◌, ◌≤◌, List, ◌∷◌, ◌++◌, length, get_or, take, drop, replicate, sym, ◌∙◌, ap, arith, length-take, length-drop, take-append-drop, append_assoc, append-nil}
use Rattle.std.proofs.lemmas.List.{ext_get_or, get_or-take, get_or-drop, drop_more, take-append-le}
use Rattle.disk_doors.specs.Images.{IsTorn, padded, overwritten}

pub same_window : (xs ys : List ℕ) (j k : ℕ) → j + k ≤ length xs → j + k ≤ length ys → ((i : ℕ) → j ≤ i → i < j + k → get_or xs i 0 ≡ get_or ys i 0) → take k (drop j xs) ≡ take k (drop j ys)
same_window xs ys j k p q h =
    let lx : length (take k (drop j xs)) ≡ k = omega (arith, length-take k (drop j xs), length-drop j xs) in
    let ly : length (take k (drop j ys)) ≡ k = omega (arith, length-take k (drop j ys), length-drop j ys) in
    ext_get_or 0 (take k (drop j xs)) (take k (drop j ys)) (lx ∙ sym ly) (λ i l.
    let low : i < k = omega (arith, l, lx) in
    get_or-take k (drop j xs) i 0 low ∙ get_or-drop j xs i 0 ∙ h (j + i) (omega arith) (omega (arith, low)) ∙ sym (get_or-drop j ys i 0) ∙ sym (get_or-take k (drop j ys) i 0 low))

-- a list at one of its places
pub at_place : (c : List ℕ) (n : ℕ) → n < length c → c ≡ take n c ++ get_or c n 0 ∷ drop (n + 1) c
at_place c n l = sym (take-append-drop n c) ∙ ap (λ (r : List ℕ). take n c ++ r) (drop_more c n 0 l)

-- before the range a torn file is as it was
pub torn_front : (file : List ℕ) (place size : ℕ) (c : List ℕ) → IsTorn file place size c → place ≤ length file → take place c ≡ take place file
torn_front file place size c t l =
    same_window c file 0 place (omega (arith, l, t.no_shorter)) (omega (arith, l)) (λ i low high. t.same i (omega (arith, high, l)) (λ w. omega (arith, w.0, high)))

-- after the range too
pub torn_back : (file : List ℕ) (place size k : ℕ) (c : List ℕ) → IsTorn file place size c → place + size + k ≤ length file → take k (drop (place + size) c) ≡ take k (drop (place + size) file)
torn_back file place size k c t l =
    same_window c file (place + size) k (omega (arith, l, t.no_shorter)) l (λ i low high. t.same i (omega (arith, high, l)) (λ w. omega (arith, w.1, low)))

pub padded_long : (file : List ℕ) (n : ℕ) → n ≤ length file → padded file n ≡ file
padded_long file n l = let none : n - length file ≡ 0 = omega (arith, l) in ap (λ (k : ℕ). file ++ replicate k 0) none ∙ append-nil file

-- a file with this front, and these bytes written after it
pub overwritten_is : (front tail file : List ℕ) → length front ≤ length file → take (length front) file ≡ front
    → overwritten file (length front) tail ≡ front ++ (tail ++ drop (length front + length tail) (padded file (length front + length tail)))
overwritten_is front tail file l is =
    let more = drop (length front + length tail) (padded file (length front + length tail)) in
    ap (λ (x : List ℕ). x ++ tail ++ more) (take-append-le (length front) file _ l ∙ is) ∙ append_assoc front tail more
