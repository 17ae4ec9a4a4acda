-- What stood in a list of bytes stands there still.
use Rattle.std.proofs.Common.{◌≡◌, ℕ, List, [], ◌∷◌, ◌++◌, length, take, drop, get_or, ◌+◌, ◌<◌, refl, sym, ap, subst, ◌∙◌, append_assoc, append-nil}
use Rattle.std.proofs.lemmas.List.{take_at, take-append-drop, take_more}
use Rattle.std.specs.Prelude.{Result, Ok, Err, OnErr}
use Rattle.bmp_specs.specs.Parts.{AreParts}
use Rattle.bmp_specs.proofs.PartsJoined.{parts_snoc}
use Rattle.bmp_writer.specs.Written.{Appends, Keeps}

pub keeps_piece : (old piece new : List ℕ) → new ≡ old ++ piece → Keeps old new
keeps_piece old piece new e = ap (λ (l : List ℕ). take (length old) l) e ∙ take_at old piece (length old) refl

pub keeps_same : (old new : List ℕ) → new ≡ old → Keeps old new
keeps_same old new e = keeps_piece old [] new (e ∙ sym (append-nil old))

pub keeps_then : (old mid new : List ℕ) → Keeps old mid → Keeps mid new → Keeps old new
keeps_then old mid new k l =
    let d = drop (length old) mid in
    let first : mid ≡ old ++ d = sym (take-append-drop (length old) mid) ∙ ap (λ (x : List ℕ). x ++ d) k in
    let rest = drop (length mid) new in
    let second : new ≡ mid ++ rest = sym (take-append-drop (length mid) new) ∙ ap (λ (x : List ℕ). x ++ rest) l in
    keeps_piece old (d ++ rest) new (second ∙ ap (λ (x : List ℕ). x ++ rest) first ∙ append_assoc old d rest)

pub keeps_still : (old mid new : List ℕ) → Keeps old mid → new ≡ mid → Keeps old new
keeps_still old mid new k e = ap (λ (l : List ℕ). take (length old) l) e ∙ k

pub keeps_appends : {Is : List ℕ → Type 0} (old new : List ℕ) → Appends Is old new → Keeps old new
keeps_appends old new (piece, joined, is) = keeps_piece old piece new joined

-- what holds, holds where a call failed
pub on_err : {T E : Type 0} (result : Result T E) (P : Type 0) → P → OnErr result P
on_err (Ok v) P p = tt
on_err (Err e) P p = p

-- one part more, of the item at this place
pub parts_more : {V : Type 0} (Is : List ℕ → V → Type 0) (vs : List V) (i : ℕ) (d v : V) (old out part new : List ℕ) → i < length vs → v ≡ get_or vs i d
    → Appends (λ bytes. AreParts Is bytes (take i vs)) old out → new ≡ out ++ part → Is part v → Appends (λ bytes. AreParts Is bytes (take (i + 1) vs)) old new
parts_more {V} Is vs i d v old out part new lt item (piece, joined, are) more is =
    let all : take (i + 1) vs ≡ take i vs ++ v ∷ [] = take_more vs i d lt ∙ ap (λ (w : V). take i vs ++ w ∷ []) (sym item) in (
      piece ++ part,
      more ∙ ap (λ (l : List ℕ). l ++ part) joined ∙ append_assoc old piece part,
      subst (λ (ws : List V). AreParts Is (piece ++ part) ws) (sym all) (parts_snoc Is piece part (take i vs) v are is),
    )

-- two pieces, and three
pub two_pieces : (old mid new a b : List ℕ) → mid ≡ old ++ a → new ≡ mid ++ b → new ≡ old ++ (a ++ b)
two_pieces old mid new a b e f = f ∙ ap (λ (l : List ℕ). l ++ b) e ∙ append_assoc old a b

pub three_pieces : (old m1 m2 new a b c : List ℕ) → m1 ≡ old ++ a → m2 ≡ m1 ++ b → new ≡ m2 ++ c → new ≡ old ++ (a ++ (b ++ c))
three_pieces old m1 m2 new a b c e f g = two_pieces old m1 new a (b ++ c) e (two_pieces m1 m2 new b c f g)
