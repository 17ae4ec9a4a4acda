-- A file has at most one content, and none where it is damaged.
use Rattle.std.proofs.Common.{◌≡◌, ◌≢◌, ⊎_elim, ℕ, ◌+◌, ◌-◌, ◌<◌, List, [], ◌∷◌, ◌++◌, length, get_or, take, drop, refl, sym, ◌∙◌, ap, arith, append_assoc, length-append, take-append-drop, Result, Ok, Err}
use Rattle.std.proofs.lemmas.List.{append_cancel_left, take_at, drop_at}
use Rattle.std.proofs.Math.Seq.{take-add}
use Rattle.bmp_specs.specs.Parts.{AreParts}
use Rattle.feed_archive.specs.Archive.{IsRecord, IsArchive, HasContent, BreaksRecord, IsDamagedAt, joined, most_archive}
use Rattle.feed_archive.specs.Recovering.{seen, Holds, Recovers, RecoversOnly}
use Rattle.feed_archive.specs.declared.fault.RecoverFault.{RecoverFault}
use Rattle.feed_archive.specs.declared.fault.RecoverFault.TheVariants.{Failed, Damaged, TooLong, NoMemory}
use Rattle.feed_archive.proofs.Records.{record_code, record_first}

-- a record at the front of what begins with another byte
no_record : (a x y : List ℕ) (p : List ℕ) (h : ℕ) → IsRecord a p → h ≢ 1 → a ++ x ≡ h ∷ y → ⊥
no_record a x y p h is other e = other (sym (ap (λ (l : List ℕ). get_or l 0 0) e) ∙ record_first a x p is)

tails : (a b x y : List ℕ) (u v : List ℕ) → a ≡ b → (a ++ x) ++ u ≡ (b ++ y) ++ v → x ++ u ≡ y ++ v
tails a b x y u v same e =
    append_cancel_left a (x ++ u) (y ++ v) (sym (append_assoc a x u) ∙ e ∙ ap (λ (l : List ℕ). (l ++ y) ++ v) (sym same) ∙ append_assoc a y v)

one : (ps qs : List (List ℕ)) (f k : List ℕ) (g h : ℕ) (r s : List ℕ) → AreParts IsRecord f ps → AreParts IsRecord k qs → g ≢ 1 → h ≢ 1 → f ++ g ∷ r ≡ k ++ h ∷ s → ps ≡ qs
one [] [] f k g h r s p q c d e = refl
one [] (w ∷ qs) f k g h r s p (b, b', split, is, q) c d e =
    absurd (no_record b (b' ++ h ∷ s) r w g is c (sym (append_assoc b b' (h ∷ s)) ∙ ap (λ (l : List ℕ). l ++ h ∷ s) (sym split.joined) ∙ sym e ∙ ap (λ (l : List ℕ). l ++ g ∷ r) p))
one (v ∷ ps) [] f k g h r s (a, a', split, is, p) q c d e =
    absurd (no_record a (a' ++ g ∷ r) s v h is d (sym (append_assoc a a' (g ∷ r)) ∙ ap (λ (l : List ℕ). l ++ g ∷ r) (sym split.joined) ∙ e ∙ ap (λ (l : List ℕ). l ++ h ∷ s) q))
one (v ∷ ps) (w ∷ qs) f k g h r s (a, a', split, is, p) (b, b', split', is', q) c d e =
    let whole : (a ++ a') ++ g ∷ r ≡ (b ++ b') ++ h ∷ s = ap (λ (l : List ℕ). l ++ g ∷ r) (sym split.joined) ∙ e ∙ ap (λ (l : List ℕ). l ++ h ∷ s) split'.joined in
    let same = record_code.one a b (a' ++ g ∷ r) (b' ++ h ∷ s) v w is is' (sym (append_assoc a a' (g ∷ r)) ∙ whole ∙ append_assoc b b' (h ∷ s)) in
    let others = one ps qs a' b' g h r s p q c d (tails a b a' b' (g ∷ r) (h ∷ s) same.0 whole) in
    λ i. same.1 i ∷ others i

pub archive_one : (file : List ℕ) (ps qs : List (List ℕ)) (m n : ℕ) → IsArchive file ps m → IsArchive file qs n → ps ≡ qs
archive_one file ps qs m n p q = one ps qs p.front q.front p.gate q.gate p.rest q.rest p.records q.records p.closed q.closed (sym p.split ∙ q.split)

-- how many bytes the records of these pieces have
abbrev sizes : List (List ℕ) → ℕ
sizes [] = 0
sizes (p ∷ ps) = 5 + length p + sizes ps

parts_sizes : (front : List ℕ) (ps : List (List ℕ)) → AreParts IsRecord front ps → length front ≡ sizes ps
parts_sizes front [] p = ap length p
parts_sizes front (v ∷ ps) (a, a', split, is, p) = omega (arith, ap length split.joined, length-append a a', is.whole, parts_sizes a' ps p)

pub place_one : (file : List ℕ) (ps qs : List (List ℕ)) (m n : ℕ) → IsArchive file ps m → IsArchive file qs n → (ps ≡ qs) × (m ≡ n)
place_one file ps qs m n p q =
    let same = archive_one file ps qs m n p q in
    (same, sym p.place_is ∙ parts_sizes p.front ps p.records ∙ ap sizes same ∙ sym (parts_sizes q.front qs q.records) ∙ q.place_is)

pub content_one : (file v w : List ℕ) → HasContent file v → HasContent file w → v ≡ w
content_one file v w p q = p.content_is ∙ ap joined (archive_one file p.pieces q.pieces p.place q.place p.is q.is) ∙ sym q.content_is

none : (ps qs : List (List ℕ)) (f k : List ℕ) (h : ℕ) (r s : List ℕ) → AreParts IsRecord f ps → AreParts IsRecord k qs → h ≢ 1 → BreaksRecord r → f ++ r ≡ k ++ h ∷ s → ⊥
none [] [] f k h r s p q d b e =
    let is : r ≡ h ∷ s = ap (λ (l : List ℕ). l ++ r) (sym p) ∙ e ∙ ap (λ (l : List ℕ). l ++ h ∷ s) q in
    ⊎_elim (λ n. omega (arith, ap length (sym is ∙ n))) (λ g. d (sym (ap (λ (l : List ℕ). get_or l 0 0) is) ∙ g)) b.no_end
none [] (w ∷ qs) f k h r s p (a, a', split, is, q) d b e =
    b.no_record w (a' ++ h ∷ s) (a, record { joined = ap (λ (l : List ℕ). l ++ r) (sym p) ∙ e ∙ ap (λ (l : List ℕ). l ++ h ∷ s) split.joined ∙ append_assoc a a' (h ∷ s) }, is)
none (v ∷ ps) [] f k h r s (a, a', split, is, p) q d b e =
    no_record a (a' ++ r) s v h is d (sym (append_assoc a a' r) ∙ ap (λ (l : List ℕ). l ++ r) (sym split.joined) ∙ e ∙ ap (λ (l : List ℕ). l ++ h ∷ s) q)
none (v ∷ ps) (w ∷ qs) f k h r s (a, a', split, is, p) (b, b', split', is', q) d br e =
    let whole : (a ++ a') ++ r ≡ (b ++ b') ++ h ∷ s = ap (λ (l : List ℕ). l ++ r) (sym split.joined) ∙ e ∙ ap (λ (l : List ℕ). l ++ h ∷ s) split'.joined in
    let same = record_code.one a b (a' ++ r) (b' ++ h ∷ s) v w is is' (sym (append_assoc a a' r) ∙ whole ∙ append_assoc b b' (h ∷ s)) in
    none ps qs a' b' h r s p q d br (tails a b a' b' r (h ∷ s) same.0 whole)

pub damaged_none : (file : List ℕ) (offset : ℕ) → IsDamagedAt file offset → (content : List ℕ) → HasContent file content → ⊥
damaged_none file offset d content h = none d.pieces h.pieces d.front h.is.front h.is.gate d.rest h.is.rest d.records h.is.records h.is.closed d.broken (sym d.split ∙ h.is.split)

-- an archive may have more after it
pub archive_longer : (n : ℕ) (file : List ℕ) (ps : List (List ℕ)) (place : ℕ) → IsArchive (take n file) ps place → IsArchive file ps place
archive_longer n file ps place a = record {
  front = a.front;
  gate = a.gate;
  rest = a.rest ++ drop n file;
  split = sym (take-append-drop n file) ∙ ap (λ (l : List ℕ). l ++ drop n file) a.split ∙ append_assoc a.front (a.gate ∷ a.rest) (drop n file);
  records = a.records;
  closed = a.closed;
  place_is = a.place_is;
}

-- what is looked at says what the whole file is
pub seen_archive : (file : List ℕ) (ps : List (List ℕ)) (place : ℕ) → IsArchive (seen file) ps place → IsArchive file ps place
unfolding seen
seen_archive file ps place a = archive_longer most_archive file ps place a

-- a front that reaches past the byte that closes an archive is the archive too
pub archive_shorter : (n : ℕ) (file : List ℕ) (ps : List (List ℕ)) (place : ℕ) → place < n → IsArchive file ps place → IsArchive (take n file) ps place
archive_shorter n file ps place l a =
    let head = a.front ++ a.gate ∷ [] in
    let k = n - (place + 1) in
    let long : length head ≡ place + 1 = omega (arith, length-append a.front (a.gate ∷ []), a.place_is) in
    let whole : file ≡ head ++ a.rest = a.split ∙ sym (append_assoc a.front (a.gate ∷ []) a.rest) in
    let size : n ≡ (place + 1) + k = omega (arith, l) in
    let first : take (place + 1) file ≡ head = ap (λ (x : List ℕ). take (place + 1) x) whole ∙ take_at head a.rest (place + 1) long in
    let second : drop (place + 1) file ≡ a.rest = ap (λ (x : List ℕ). drop (place + 1) x) whole ∙ drop_at head a.rest (place + 1) long in
    record {
      front = a.front;
      gate = a.gate;
      rest = take k a.rest;
      split =
          ap (λ (m : ℕ). take m file) size
          ∙ take-add (place + 1) k file
          ∙ ap (λ (x : List ℕ). x ++ take k (drop (place + 1) file)) first
          ∙ ap (λ (x : List ℕ). head ++ take k x) second
          ∙ append_assoc a.front (a.gate ∷ []) (take k a.rest);
      records = a.records;
      closed = a.closed;
      place_is = a.place_is;
    }

pub seen_holds : (file : List ℕ) (ps : List (List ℕ)) (place : ℕ) → place < most_archive → IsArchive file ps place → Holds file (joined ps)
unfolding seen
seen_holds file ps place l a = record { pieces = ps; place = place; is = archive_shorter most_archive file ps place l a; content_is = refl }

-- what recovering answers of a file that holds a content
pub recovers_only : (file content : List ℕ) (result : Result (List ℕ) RecoverFault) → Holds file content → Recovers file result → RecoversOnly content result
recovers_only file content (Ok found) h r = content_one (seen file) found content r h
recovers_only file content (Err Failed) h r = tt
recovers_only file content (Err (Damaged offset)) h (within, is, lacks) = lacks content h
recovers_only file content (Err TooLong) h (over, lacks) = lacks content h
recovers_only file content (Err NoMemory) h r = tt
