-- What calls of a port or a link leave of what is to be read and of what was given.
use Rattle.std.proofs.Common.{◌≡◌, ℕ, ◌+◌, ◌-◌, ◌≤◌, length, take, List, [], ◌∷◌, ◌++◌, Option, Some, None, Ok, Err, refl, ap, sym, ◌∙◌, subst, append_assoc, arith}
use Rattle.std.proofs.Math.Seq.{take-append-add}
use Rattle.std.specs.Prelude.{IfSome}
use Rattle.std.specs.Io.KnownBytes.{Consumes, Keeps, IsAtEnd}
use Rattle.bmp_specs.specs.Life.{LastRead, gave, failed, most_taken, Given}
use Rattle.wire_io.specs.declared.sink.Failed.{Failed}
use Rattle.wire_io.specs.Aside.{Plan}
use Rattle.station_doors.specs.Doors.{AsPlanned, GivesBytes, given_more, read_of, GivesMore}

pub consumes_then : (a b c : Option (List ℕ)) (s t : List ℕ) → Consumes a b s → Consumes b c t → Consumes a c (s ++ t)
consumes_then None b c s t p q = tt
consumes_then (Some xs) None c s t p q = absurd p
consumes_then (Some xs) (Some ys) None s t p q = absurd q
consumes_then (Some xs) (Some ys) (Some zs) s t p q = p ∙ ap (λ (l : List ℕ). s ++ l) q ∙ sym (append_assoc s t zs)

pub consumes_none : (a : Option (List ℕ)) → Consumes a a []
consumes_none None = tt
consumes_none (Some xs) = refl

pub keeps_consumes : (a b : Option (List ℕ)) → Keeps a b → Consumes a b []
keeps_consumes None b k = tt
keeps_consumes (Some xs) None k = absurd k
keeps_consumes (Some xs) (Some ys) k = sym k

-- what was read is a front of what was to be read
pub front_of : (b : List ℕ) (now : Option (List ℕ)) (bytes : List ℕ) → Consumes (Some b) now bytes → (rest : List ℕ) × (b ≡ bytes ++ rest) × (IsAtEnd now → rest ≡ [])
front_of b None bytes p = absurd p
front_of b (Some ys) bytes p = (ys, p, λ h. h)

-- the first bytes that are taken at most
pub most_of : (bytes rest : List ℕ) → length bytes ≤ most_taken → take most_taken (bytes ++ rest) ≡ bytes ++ take (most_taken - length bytes) rest
most_of bytes rest within = let room : most_taken ≡ length bytes + (most_taken - length bytes) = omega (arith, within) in ap (λ (n : ℕ). take n (bytes ++ rest)) room ∙ take-append-add bytes rest (most_taken - length bytes)

given_more_twice : (gs : List Given) (s t : List ℕ) (l m : LastRead) → given_more (given_more gs s l) t m ≡ given_more gs (s ++ t) m
given_more_twice [] s t l m = refl
given_more_twice (g ∷ []) s t l m = ap (λ (b : List ℕ). record { bytes = b; last = m } ∷ []) (append_assoc g.bytes s t)
given_more_twice (g ∷ h ∷ []) s t l m = ap (λ (b : List ℕ). g ∷ record { bytes = b; last = m } ∷ []) (append_assoc h.bytes s t)
given_more_twice (g ∷ h ∷ i ∷ gs) s t l m = ap (λ (k : List Given). g ∷ k) (given_more_twice (h ∷ i ∷ gs) s t l m)

-- a read that gave bytes, after others
pub given_on : (a b c : Option (List Given)) (s buf : List ℕ) (n : ℕ) → GivesMore a b s gave → GivesBytes b c (Ok n) buf → GivesMore a c (s ++ take n buf) (read_of n)
given_on None b c s buf n p q = subst (λ (o : Option (List Given)). GivesBytes o c (Ok n) buf) p q
given_on (Some gs) b c s buf n p q = subst (λ (o : Option (List Given)). GivesBytes o c (Ok n) buf) p q ∙ ap (λ (l : List Given). Some l) (given_more_twice gs s (take n buf) gave (read_of n))

-- a read that failed, after others
pub given_failed : (a b c : Option (List Given)) (s buf : List ℕ) (e : Failed) → GivesMore a b s gave → GivesBytes b c (Err e) buf → GivesMore a c (s ++ []) failed
given_failed None b c s buf e p q = subst (λ (o : Option (List Given)). GivesBytes o c (Err e) buf) p q
given_failed (Some gs) b c s buf e p q = subst (λ (o : Option (List Given)). GivesBytes o c (Err e) buf) p q ∙ ap (λ (l : List Given). Some l) (given_more_twice gs s [] gave failed)

-- the plan fails a call
pub fails_some : (plan0 plan : Option Plan) (c d : ℕ) (e : Failed) → plan ≡ plan0 → AsPlanned plan c d (Err e) → IfSome plan0 (λ x. x.fails ≡ [] → ⊥)
fails_some None plan c d e is p = tt
fails_some (Some x) plan c d e is p = λ none. let q = subst (λ (o : Option Plan). AsPlanned o c d (Err e)) is p in omega (arith, q.1.1, ap length none)
