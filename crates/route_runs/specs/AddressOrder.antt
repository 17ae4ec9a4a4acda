-- The numbers of addresses stand in the order of the addresses.
use Rattle.std.proofs.Common.{◌≡◌, ℕ, ◌*◌, ◌<◌, List, take, drop, refl, sym, ap, ◌∙◌, arith, length-drop}
use Rattle.std.specs.declared.cmp.Ordering.{Ordering}
use Rattle.std.specs.declared.cmp.Ordering.TheVariants.{Less, Equal, Greater}
use Rattle.std.specs.Cmp.{ranks, nat_cmp_is}
use Rattle.std.specs.Cmp.Lexicographic.{slice_cmp}
use Rattle.std.specs.Int.{w32, w64, from_be_bytes}
use Rattle.std.specs.Ordering.{nat_cmp, ordering_then, MatchOrdering}
use Rattle.std.specs.Slice.Scan.{big_endian}
use Rattle.std.proofs.lemmas.Cmp.{tied_itself, nat_list_cmp_total}
use Rattle.bmp_specs.specs.declared.wire.Family.TheVariants.{V4, V6}
use Rattle.ip_prefix.proofs.OctetsOrder.{by_front, by_back}
use Rattle.route_runs.specs.NumberKeys.{octets4, octets6, AreOctetsOf}
use Rattle.route_runs.specs.Spots.{front_word, front_half}

-- numbers that differ decide
pub first_decides : (x y : ℕ) (r : Ordering) → (x ≡ y → ⊥) → nat_cmp x y ≡ ordering_then (nat_cmp x y) r
first_decides x y r apart = by (nat_cmp x y) (ranks x y)
  where
    by : (s : Ordering) → MatchOrdering s (x < y) (x ≡ y) (y < x) → s ≡ ordering_then s r
    by Less l = refl
    by Equal l = absurd (apart l)
    by Greater l = refl

-- numbers that tie leave it to the next
pub next_decides : (x y : ℕ) (r : Ordering) → x ≡ y → r ≡ ordering_then (nat_cmp x y) r
next_decides x y r e = ap (λ (s : Ordering). ordering_then s r) (nat_cmp_is x y Equal e)

pub octets4_cmp : (a b : ℕ) → from_be_bytes w32 (octets4 a) ≡ a → from_be_bytes w32 (octets4 b) ≡ b → AreOctetsOf V4 (octets4 a) → AreOctetsOf V4 (octets4 b) → nat_cmp a b ≡ slice_cmp nat_cmp (octets4 a) (octets4 b)
octets4_cmp a b e f k l = by (nat_cmp a b) (ranks a b)
  where
    os : List ℕ
    os = octets4 a

    ts : List ℕ
    ts = octets4 b

    apart : (a * 4294967296 ≡ b * 4294967296 → ⊥) → nat_cmp (a * 4294967296) (b * 4294967296) ≡ slice_cmp nat_cmp os ts
    apart = by_front os ts k.len l.len k.bytes l.bytes (a * 4294967296) (b * 4294967296)
        (ap (λ (n : ℕ). n * 4294967296) (sym e) ∙ front_half os (omega (arith, k.len)) k.used) (ap (λ (n : ℕ). n * 4294967296) (sym f) ∙ front_half ts (omega (arith, l.len)) l.used)

    by : (r : Ordering) → MatchOrdering r (a < b) (a ≡ b) (b < a) → r ≡ slice_cmp nat_cmp os ts
    by Less t = let less : a < b = t in nat_cmp_is (a * 4294967296) (b * 4294967296) Less (omega arith) ∙ apart (λ e. omega arith)
    by Equal e = sym (ap (λ (n : ℕ). slice_cmp nat_cmp os (octets4 n)) (sym e) ∙ tied_itself nat_list_cmp_total os)
    by Greater t = let more : b < a = t in nat_cmp_is (a * 4294967296) (b * 4294967296) Greater (omega arith) ∙ apart (λ e. omega arith)

pub octets6_cmp : (a b : ℕ × ℕ) → (from_be_bytes w64 (octets6 a), from_be_bytes w64 (drop 8 (octets6 a))) ≡ a → (from_be_bytes w64 (octets6 b), from_be_bytes w64 (drop 8 (octets6 b))) ≡ b
    → AreOctetsOf V6 (octets6 a) → AreOctetsOf V6 (octets6 b) → ordering_then (nat_cmp a.0 b.0) (nat_cmp a.1 b.1) ≡ slice_cmp nat_cmp (octets6 a) (octets6 b)
octets6_cmp a b e f k l = by (nat_cmp a.0 b.0) (ranks a.0 b.0)
  where
    os : List ℕ
    os = octets6 a

    ts : List ℕ
    ts = octets6 b

    first : a.0 ≡ big_endian 0 (take 8 os)
    first = ap (λ (n : ℕ × ℕ). n.0) (sym e) ∙ front_word os (omega (arith, k.len))

    second : b.0 ≡ big_endian 0 (take 8 ts)
    second = ap (λ (n : ℕ × ℕ). n.0) (sym f) ∙ front_word ts (omega (arith, l.len))

    apart : (a.0 ≡ b.0 → ⊥) → ordering_then (nat_cmp a.0 b.0) (nat_cmp a.1 b.1) ≡ slice_cmp nat_cmp os ts
    apart other = sym (first_decides a.0 b.0 (nat_cmp a.1 b.1) other) ∙ by_front os ts k.len l.len k.bytes l.bytes a.0 b.0 first second other

    by : (r : Ordering) → MatchOrdering r (a.0 < b.0) (a.0 ≡ b.0) (b.0 < a.0) → ordering_then (nat_cmp a.0 b.0) (nat_cmp a.1 b.1) ≡ slice_cmp nat_cmp os ts
    by Less t = let less : a.0 < b.0 = t in apart (λ e. omega (arith, less, e))
    by Equal tied =
        sym (next_decides a.0 b.0 (nat_cmp a.1 b.1) tied)
        ∙ by_back os ts k.len l.len k.bytes l.bytes a.0 b.0 first second a.1 b.1 tied
        (ap (λ (n : ℕ × ℕ). n.1) (sym e) ∙ front_word (drop 8 os) (omega (arith, k.len, length-drop 8 os))) (ap (λ (n : ℕ × ℕ). n.1) (sym f) ∙ front_word (drop 8 ts) (omega (arith, l.len, length-drop 8 ts)))
    by Greater t = let more : b.0 < a.0 = t in apart (λ e. omega (arith, more, e))
