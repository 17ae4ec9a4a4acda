-- Where the next line ends.
use Rattle.std.proofs.Common.{◌≡◌, ◌≢◌, ◌↔◌, ◌⊎◌, inl, inr, ℕ, ◌+◌, ◌-◌, ◌<◌, ◌≤◌, eqb, nat_eq, nat_lt, IsTrue, cond, Bool, true, false, length, take, get_or, List, [], ◌∷◌, ◌++◌, refl, ap, sym, ◌∙◌, subst, append_assoc, append-nil, length-append, length-take, arith}
use Rattle.std.proofs.lemmas.Bool.{cases_lt}
use Rattle.std.proofs.lemmas.Bool.Decides.{nat_tests}
use Rattle.ask_session.specs.Lines.{HasNoEnd, IsTooMany, chomped, EndsLine, IsLast}

-- bytes before a byte that ends a line, and those behind it
record FindsEnd (t : List ℕ) : Type 0 where
  body : List ℕ
  rest : List ℕ
  split : t ≡ body ++ 10 ∷ rest
  plain : HasNoEnd body

ends : (b : ℕ) (test : Bool) → eqb b 10 ≡ test → (b ≡ 10) ⊎ (b ≢ 10)
ends b true e = inl (grind (arith, nat_tests))
ends b false e = inr (λ h. absurd (grind (arith, nat_tests)))

find_end : (t : List ℕ) → HasNoEnd t ⊎ FindsEnd t
find_end [] = inl tt
find_end (b ∷ t) = at (ends b (eqb b 10) refl) (find_end t)
  where
    at : (b ≡ 10) ⊎ (b ≢ 10) → HasNoEnd t ⊎ FindsEnd t → HasNoEnd (b ∷ t) ⊎ FindsEnd (b ∷ t)
    at (inl e) f = inr (record { body = []; rest = t; split = ap (λ (n : ℕ). n ∷ t) e; plain = tt })
    at (inr n) (inl p) = inl (n, p)
    at (inr n) (inr f) = inr (record { body = b ∷ f.body; rest = f.rest; split = ap (λ (l : List ℕ). b ∷ l) f.split; plain = (n, f.plain) })

pub plain_append : (a b : List ℕ) → HasNoEnd a → HasNoEnd b → HasNoEnd (a ++ b)
plain_append [] b p q = q
plain_append (x ∷ a) b p q = (p.0, plain_append a b p.1 q)

front_longer : (body : List ℕ) (test : Bool) → length body ≤ length (cond test (take (length body - 1) body) body) + 1
front_longer body true = omega (arith, length-take (length body - 1) body)
front_longer body false = omega arith

chomped_longer : (body : List ℕ) → length body ≤ length (chomped body) + 1
chomped_longer body = front_longer body (nat_eq (get_or body (length body - 1) 0) 13)

front_shorter : (body : List ℕ) (test : Bool) → length (cond test (take (length body - 1) body) body) ≤ length body
front_shorter body true = omega (arith, length-take (length body - 1) body)
front_shorter body false = omega arith

chomped_shorter : (body : List ℕ) → length (chomped body) ≤ length body
chomped_shorter body = front_shorter body (nat_eq (get_or body (length body - 1) 0) 13)

-- none are not too many, and too many stay so
pub few_none : IsTooMany [] → ⊥
few_none many = omega (arith, many, chomped_shorter [])

pub few_fit : (bytes : List ℕ) → (IsTooMany bytes → ⊥) → length bytes < 1026
few_fit bytes few = elim (cases_lt (length bytes) 1026) [
  | inl fits ↦ fits
  | inr long ↦ absurd (few (omega (arith, long, chomped_longer bytes)))
]

-- the test of the line without a carriage return at its end
pub tells_many : (bytes body : List ℕ) → body ≡ chomped bytes → IsTrue (nat_lt 1024 (length body)) ↔ IsTooMany bytes
tells_many bytes body is = (λ t. grind (arith, nat_tests, ap length is, t), λ many. grind (arith, nat_tests, ap length is, many))

pub many_long : (bytes : List ℕ) → IsTooMany bytes → 1024 < length bytes
many_long bytes many = omega (arith, many, chomped_shorter bytes)

many_more : (a b : List ℕ) → IsTooMany a → IsTooMany (a ++ b)
many_more a [] many = subst (λ (l : List ℕ). IsTooMany l) (sym (append-nil a)) many
many_more a (x ∷ b) many = omega (arith, many_long a many, chomped_longer (a ++ x ∷ b), length-append a (x ∷ b))

abbrev pub Next : Bool → List ℕ → List ℕ → List ℕ → Type 0
Next ended t line rest = EndsLine t line rest ⊎ IsLast ended t line rest

-- bytes before a byte that ends a line, and the line
pub next_ends : (ended : Bool) (body t : List ℕ) → HasNoEnd body → Next ended ((body ++ 10 ∷ []) ++ t) (chomped body) t
next_ends ended body t plain = inl (record { body = body; split = append_assoc body (10 ∷ []) t; plain = plain; line_is = refl })

-- bytes that no byte ends
pub next_last : (pending : List ℕ) → HasNoEnd pending → 0 < length pending → Next true pending pending []
next_last pending plain some = inr (record { plain = plain; line_is = refl; rest_is = refl; counts = inl (refl, some) })

-- a next line that is too long
pub record NextLong (ended : Bool) (t : List ℕ) : Type 0 where
  pub line : List ℕ
  pub rest : List ℕ
  pub next : Next ended t line rest
  pub long : 1024 < length line

pub next_long : (ended : Bool) (pending t : List ℕ) → HasNoEnd pending → IsTooMany pending → NextLong ended (pending ++ t)
next_long ended pending t plain many = at (find_end t)
  where
    at : HasNoEnd t ⊎ FindsEnd t → NextLong ended (pending ++ t)
    at (inl p) = record {
      line = pending ++ t;
      rest = [];
      next = inr (record { plain = plain_append pending t plain p; line_is = refl; rest_is = refl; counts = inr (many_more pending t many) });
      long = many_long (pending ++ t) (many_more pending t many);
    }
    at (inr f) = record {
      line = chomped (pending ++ f.body);
      rest = f.rest;
      next = inl (record { body = pending ++ f.body; split = ap (λ (l : List ℕ). pending ++ l) f.split ∙ sym (append_assoc pending f.body (10 ∷ f.rest)); plain = plain_append pending f.body plain f.plain; line_is = refl });
      long = many_more pending f.body many;
    }
