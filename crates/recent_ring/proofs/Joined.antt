-- Pieces, one after another.
use Rattle.std.proofs.Common.{◌≡◌, ℕ, ◌+◌, ◌-◌, ◌<◌, ◌≤◌, ◌⊎◌, inl, inr, List, [], ◌∷◌, ◌++◌, length, get_or, take, drop, refl, sym, ap, ◌∙◌, subst, arith, append_assoc, append-nil, length-append, length-drop}
use Rattle.std.specs.Arc.{arc_value}
use Rattle.std.specs.declared.alloc.Global.{Global}
use Rattle.std.specs.declared.sync.Arc.{Arc}
use Rattle.std.specs.declared.vec.Vec.{Vec}
use Rattle.std.specs.List.{AllZip, slice_get}
use Rattle.std.proofs.lemmas.List.{take_all, take_more, drop_more, take-append-drop}
use Rattle.std.proofs.Math.Seq.{drop-append-add}
use Rattle.recent_ring.specs.Recent.{joined, last_items}
use Rattle.recent_ring.proofs.TwoParts.{in_front, behind, shared_copy}

abbrev PieceOf : Type 0 → Type 0
PieceOf T = Arc (Vec T Global) Global

module _ {T : Type 0} where
  joined-append : (ps qs : List (PieceOf T)) → joined (ps ++ qs) ≡ joined ps ++ joined qs
  joined-append [] qs = refl
  joined-append (p ∷ ps) qs = ap (λ (l : List T). (arc_value p).items ++ l) (joined-append ps qs) ∙ sym (append_assoc (arc_value p).items (joined ps) (joined qs))

  -- one piece more
  pub joined_push : (ps : List (PieceOf T)) (p : PieceOf T) → joined (ps ++ p ∷ []) ≡ joined ps ++ (arc_value p).items
  joined_push ps p = joined-append ps (p ∷ []) ∙ ap (λ (l : List T). joined ps ++ l) (append-nil (arc_value p).items)

  pub joined_more : (ps : List (PieceOf T)) (i : ℕ) (p : PieceOf T) → i < length ps → p ≡ get_or ps i p → joined (take (i + 1) ps) ≡ joined (take i ps) ++ (arc_value p).items
  joined_more ps i p within at = ap joined (take_more ps i p within ∙ ap (λ (q : PieceOf T). take i ps ++ q ∷ []) (sym at)) ∙ joined_push (take i ps) p

  joined_less : (ps : List (PieceOf T)) (i : ℕ) (p : PieceOf T) → i < length ps → p ≡ get_or ps i p → joined (drop i ps) ≡ (arc_value p).items ++ joined (drop (i + 1) ps)
  joined_less ps i p within at = ap joined (drop_more ps i p within ∙ ap (λ (q : PieceOf T). q ∷ drop (i + 1) ps) (sym at))

  -- the pieces from a number on
  pub rest_of : (ps : List (PieceOf T)) (n : ℕ) → take (length ps - n) (drop n ps) ≡ drop n ps
  rest_of ps n = take_all (length ps - n) (drop n ps) (omega (arith, length-drop n ps))

  -- how many items are still needed in front of a piece
  pub needed_more : (ps : List (PieceOf T)) (first items left : ℕ) (p : PieceOf T) → 0 < first → first ≤ length ps → p ≡ get_or ps (first - 1) p → left ≡ items - length (joined (drop first ps))
      → left - length (arc_value p).items ≡ items - length (joined (drop (first - 1) ps))
  needed_more ps first items left p some within at is =
      let n : (first - 1) + 1 ≡ first = omega (arith, some) in
      let less = joined_less ps (first - 1) p (omega (arith, some, within)) at in
      let long : length (joined (drop (first - 1) ps)) ≡ length (arc_value p).items + length (joined (drop first ps)) =
      ap length less ∙ length-append (arc_value p).items (joined (drop ((first - 1) + 1) ps)) ∙ ap (λ (k : ℕ). length (arc_value p).items + length (joined (drop k ps))) n in
      omega (arith, is, long)

  -- pieces that aren't needed can go
  pub needed_alone : (ps : List (PieceOf T)) (ys : List T) (first : ℕ) → (first ≡ 0) ⊎ (1024 - length ys ≤ length (joined (drop first ps)))
      → last_items (joined (drop first ps) ++ ys) ≡ last_items (joined ps ++ ys)
  needed_alone ps ys first (inl none) = ap (λ (k : ℕ). last_items (joined (drop k ps) ++ ys)) none
  needed_alone ps ys first (inr enough) =
      let front = joined (take first ps) in
      let rest = joined (drop first ps) ++ ys in
      let whole : joined ps ++ ys ≡ front ++ rest = ap (λ (l : List (PieceOf T)). joined l ++ ys) (sym (take-append-drop first ps)) ∙ ap (λ (l : List T). l ++ ys) (joined-append (take first ps) (drop first ps)) ∙ append_assoc front (joined (drop first ps)) ys in
      let long : length (front ++ rest) - 1024 ≡ length front + (length rest - 1024) = omega (arith, length-append front rest, length-append (joined (drop first ps)) ys, enough) in
      sym (ap last_items whole ∙ ap (λ (k : ℕ). drop k (front ++ rest)) long ∙ drop-append-add front rest (length rest - 1024))

  -- an item counted from the last one stands in the last piece, or in those before it
  pub in_last : (ps : List (PieceOf T)) (first left at : ℕ) (p : PieceOf T) → 0 < first → first ≤ length ps → p ≡ get_or ps (first - 1) p → left < length (joined (take first ps)) → length (joined (take first ps)) - 1 - left ≡ at → left < length (arc_value p).items
      → slice_get (arc_value p).items (length (arc_value p).items - 1 - left) ≡ slice_get (joined ps) at
  in_last ps first left at p some within is below place here =
      let n : (first - 1) + 1 ≡ first = omega (arith, some) in
      let items = (arc_value p).items in
      let front = joined (take (first - 1) ps) in
      let more : joined (take first ps) ≡ front ++ items = ap (λ (k : ℕ). joined (take k ps)) (sym n) ∙ joined_more ps (first - 1) p (omega (arith, some, within)) is in
      let long : length (joined (take first ps)) ≡ length front + length items = ap length more ∙ length-append front items in
      let there : length items - 1 - left ≡ at - length front = omega (arith, long, place, here) in
      ap (slice_get items) there ∙ sym (behind front items at (omega (arith, long, place, here))) ∙ ap (λ (l : List T). slice_get l at) (sym more) ∙ sym (whole_or_front ps first at (omega (arith, place, below)))
    where
      whole_or_front : (ps : List (PieceOf T)) (first at : ℕ) → at < length (joined (take first ps)) → slice_get (joined ps) at ≡ slice_get (joined (take first ps)) at
      whole_or_front ps first at below = ap (λ (l : List (PieceOf T)). slice_get (joined l) at) (sym (take-append-drop first ps)) ∙ ap (λ (l : List T). slice_get l at) (joined-append (take first ps) (drop first ps)) ∙ in_front (joined (take first ps)) (joined (drop first ps)) at below

  pub before_last : (ps : List (PieceOf T)) (first left : ℕ) (p : PieceOf T) → 0 < first → first ≤ length ps → p ≡ get_or ps (first - 1) p → left < length (joined (take first ps)) → length (arc_value p).items ≤ left
      → (left - length (arc_value p).items < length (joined (take (first - 1) ps))) × (length (joined (take (first - 1) ps)) - 1 - (left - length (arc_value p).items) ≡ length (joined (take first ps)) - 1 - left)
  before_last ps first left p some within is below past =
      let n : (first - 1) + 1 ≡ first = omega (arith, some) in
      let items = (arc_value p).items in
      let front = joined (take (first - 1) ps) in
      let more : joined (take first ps) ≡ front ++ items = ap (λ (k : ℕ). joined (take k ps)) (sym n) ∙ joined_more ps (first - 1) p (omega (arith, some, within)) is in
      let long : length (joined (take first ps)) ≡ length front + length items = ap length more ∙ length-append front items in
      (omega (arith, long, below, past), omega (arith, long, below, past))

  -- a copy with a piece of the newer items, and without the pieces that aren't needed
  pub piece_copy : (R : T → T → Type 0) → ((x : T) → R x x) → (ps : List (PieceOf T)) (ys zs items older : List T) (first : ℕ) → (first ≡ 0) ⊎ (1024 - length ys ≤ length (joined (drop first ps)))
      → last_items (joined ps ++ ys) ≡ items → AllZip R ys zs → older ≡ joined (drop first ps) ++ zs → AllZip R items (last_items (older ++ []))
  piece_copy R same ps ys zs items older first enough seen alike is =
      subst (λ (l : List T). AllZip R items (last_items l)) (sym (append-nil older ∙ is)) (shared_copy R same (joined (drop first ps)) ys zs items (needed_alone ps ys first enough ∙ seen) alike)
