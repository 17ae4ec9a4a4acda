-- A record that `csv` reads takes bytes, and leaves the machine between two records.
use Rattle.std.proofs.Common.{◌≡◌, ℕ, zero, suc, ◌+◌, ◌<◌, List, [], ◌∷◌, ◌++◌, length, Some, None, Bool, true, false, refl, ap, arith}
use Rattle.std.specs.Prelude.{◌==◌, ◌||◌, if◌then◌else◌}
use Rattle.std.proofs.lemmas.Bool.{false≢true}
use Rattle.csv.specs.Machine.{Read, ends_at_end, after_end, field_after, fields_after, in_field, start_field, start_record, is_end, next_record, step}
use Rattle.csv.specs.Reading.{default_config, records_from, records_next}
use Rattle.csv.specs.declared.parser.Action.{Action}
use Rattle.csv.specs.declared.parser.Action.TheVariants as act
use Rattle.csv.specs.declared.parser.State.{State}
use Rattle.csv.specs.declared.parser.State.TheVariants as st
use Rattle.csv.specs.declared.parser.Terminator.TheVariants as term

-- a step that ends a record leaves the machine between two records
abbrev Ends : State × Action → Type 0
Ends q = is_end q.1 ≡ true → ends_at_end q.0 ≡ false

pick : (b : Bool) (x y : State × Action) → Ends x → Ends y → Ends (if b then x else y)
pick true x y p q = p
pick false x y p q = q

after : (b : Bool) → ends_at_end (if b then st.AfterCr else st.StartRecord) ≡ false
after true = refl
after false = refl

field_ends : (c : ℕ) → Ends (in_field default_config c)
field_ends c =
    pick (c == 44) (st.StartField, act.EndField) _ (λ e. absurd (false≢true e))
    (pick ((c == 13) || (c == 10)) (after_end term.CRLF c, act.EndRecord) (st.InField, act.Copy) (λ e. after (c == 13)) (λ e. absurd (false≢true e)))

start_ends : (c : ℕ) → Ends (start_field default_config c)
start_ends c = pick (c == 34) (st.InQuoted, act.Skip) _ (λ e. absurd (false≢true e)) (field_ends c)

record_ends : (c : ℕ) → Ends (start_record default_config c)
record_ends c = pick ((c == 13) || (c == 10)) (st.StartRecord, act.Skip) _ (λ e. absurd (false≢true e)) (start_ends c)

step_ends : (s : State) (c : ℕ) → Ends (step default_config s c)
step_ends st.StartRecord c = record_ends c
step_ends st.StartField c = start_ends c
step_ends st.InField c = field_ends c
step_ends st.InQuoted c = pick (c == 34) (st.AfterQuote, act.Skip) (st.InQuoted, act.Copy) (λ e. absurd (false≢true e)) (λ e. absurd (false≢true e))
step_ends st.InEscape c = λ e. absurd (false≢true e)
step_ends st.AfterQuote c = pick (c == 34) (st.InQuoted, act.Copy) _ (λ e. absurd (false≢true e)) (field_ends c)
step_ends st.InComment c = pick (c == 10) (st.StartRecord, act.Skip) (st.InComment, act.Skip) (λ e. absurd (false≢true e)) (λ e. absurd (false≢true e))
step_ends st.AfterCr c = pick (c == 10) (st.StartRecord, act.Skip) _ (λ e. absurd (false≢true e)) (record_ends c)

-- what a record that was read leaves
pub record Leaves (size : ℕ) (p : Read) : Type 0 where
  pub fewer : length p.2 < size
  pub between : ends_at_end p.1 ≡ false

same_read : (p q : Read) → Some p ≡ Some q → p ≡ q
same_read p q e = cc

at_read : (size : ℕ) (p q : Read) → Some p ≡ Some q → Leaves size p → Leaves size q
at_read size p q e h = rw (← same_read p q e) h

at_the_end : (s : State) (f : List (List ℕ)) (g : List ℕ) (p : Read) → next_record default_config s f g [] ≡ Some p → Leaves 1 p
unfolding next_record
at_the_end s f g p e = by (ends_at_end s) refl
  where
    by : (b : Bool) → ends_at_end s ≡ b → Leaves 1 p
    by true is = at_read 1 (f ++ (g ∷ []), st.StartRecord, []) p (rw is at e) (record { fewer = omega arith; between = refl })
    by false is = absurd (let none : None ≡ Some p = rw is at e in cc)

-- a record that was read from some bytes
pub taken : (s : State) (f : List (List ℕ)) (g : List ℕ) (c : ℕ) (rest : List ℕ) (p : Read) → next_record default_config s f g (c ∷ rest) ≡ Some p → Leaves (length rest + 1) p
unfolding next_record
taken s f g c [] p e = by (is_end (step default_config s c).1) refl
  where
    by : (b : Bool) → is_end (step default_config s c).1 ≡ b → Leaves 1 p
    by true is = at_read 1 (fields_after (step default_config s c).1 f g, (step default_config s c).0, []) p (rw is at e) (record { fewer = omega arith; between = step_ends s c is })
    by false is = at_the_end (step default_config s c).0 (fields_after (step default_config s c).1 f g) (field_after (step default_config s c).1 c g) p (rw is at e)
taken s f g c (d ∷ rest) p e = by (is_end (step default_config s c).1) refl (taken (step default_config s c).0 (fields_after (step default_config s c).1 f g) (field_after (step default_config s c).1 c g) d rest p)
  where
    by : (b : Bool) → is_end (step default_config s c).1 ≡ b
        → (next_record default_config (step default_config s c).0 (fields_after (step default_config s c).1 f g) (field_after (step default_config s c).1 c g) (d ∷ rest) ≡ Some p → Leaves (length rest + 1) p)
        → Leaves (length (d ∷ rest) + 1) p
    by true is more = at_read (length (d ∷ rest) + 1) (fields_after (step default_config s c).1 f g, (step default_config s c).0, d ∷ rest) p (rw is at e) (record { fewer = omega arith; between = step_ends s c is })
    by false is more = let h = more (rw is at e) in record { fewer = omega (arith, h.fewer); between = h.between }

-- from between two records a record takes bytes
pub takes : (s : State) (xs : List ℕ) (p : Read) → ends_at_end s ≡ false → next_record default_config s [] [] xs ≡ Some p → (length p.2 < length xs) × (ends_at_end p.1 ≡ false)
unfolding next_record
takes s [] p is e = absurd (let none : None ≡ Some p = rw is at e in cc)
takes s (c ∷ rest) p is e = let h = taken s [] [] c rest p e in (omega (arith, h.fewer), h.between)

-- the records from a record on, and at the end
pub records_go : (n : ℕ) (s : State) (xs : List ℕ) (p : Read) → length xs < n → length p.2 < length xs → next_record default_config s [] [] xs ≡ Some p
    → (m : ℕ) × (length p.2 < m) × (records_from default_config n s xs ≡ p.0 ∷ records_from default_config m p.1 p.2)
unfolding records_from
records_go zero s xs p few less e = absurd (omega arith)
records_go (suc n) s xs p few less e = (n, omega arith, ap (records_next (records_from default_config n)) e)

pub records_end : (n : ℕ) (s : State) (xs : List ℕ) → next_record default_config s [] [] xs ≡ None → records_from default_config n s xs ≡ []
unfolding records_from
records_end zero s xs e = refl
records_end (suc n) s xs e = ap (records_next (records_from default_config n)) e
