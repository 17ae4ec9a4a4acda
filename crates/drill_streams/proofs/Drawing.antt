-- The next word, and which peers are up behind it.
use Rattle.std.proofs.Common.{◌≡◌, ℕ, zero, suc, ◌+◌, ◌%◌, ◌<◌, ◌≤◌, ◌⊎◌, inl, inr, ◌==◌, Bool, true, false, not, if◌then◌else◌, cond, List, [], ◌∷◌, ◌++◌, length, refl, sym, ap, subst, ◌∙◌, arith, length-append}
use Rattle.std.proofs.lemmas.Bool.{cases_lt}
use Rattle.std.proofs.lemmas.List.FromFn.{filter_of_map_range_with_len_more}
use Rattle.std.specs.List.{range_with_len}
use Rattle.std.specs.Prelude.{slice_index_or}
use Rattle.bmp_specs.specs.Parts.{AreParts}
use Rattle.bmp_writer.specs.Written.{Appends}
use Rattle.bmp_writer.proofs.Still.{two_pieces}
use Rattle.rand_pcg.specs.Lcg.{Lcg, advance, next, next_state, state_after}
use Rattle.rand_pcg.specs.Pcg.{multiplier_64, pcg32}
use Rattle.rand_pcg.proofs.LcgLemmas.{advance_more}
use Rattle.drill_streams.specs.Drawn.{generator, peer_of, word_at}
use Rattle.drill_streams.specs.DrillStream.{IsDrillStream, IsMessageAt, is_up, turns}
use Rattle.drill_streams.specs.Messages.{IsInitiation, IsMessageOf, IsUp}

-- a step behind others is one before them
step_last : (w m p n s : ℕ) → next_state w m p (state_after w m p n s) ≡ state_after w m p n (next_state w m p s)
unfolding state_after
step_last w m p zero s = refl
step_last w m p (suc n) s = step_last w m p n (next_state w m p s)

advance_last : (w m n : ℕ) (g : Lcg) → next w m (advance w m n g) ≡ advance w m (n + 1) g
advance_last w m n g = ap (λ (s : ℕ). record g { state = s }) (step_last w m g.increment n g.state) ∙ advance_more w m n g

-- what is drawn from the generator of a position
pub drawn : (seed lane i w : ℕ) (g h : Lcg) → g ≡ advance 64 multiplier_64 i (generator seed lane) → (w, h) ≡ pcg32 g → w ≡ word_at seed lane i
drawn seed lane i w g h at step = ap (λ (x : ℕ × Lcg). x.0) step ∙ ap (λ (x : Lcg). (pcg32 x).0) at

pub left : (seed lane i w : ℕ) (g h : Lcg) → g ≡ advance 64 multiplier_64 i (generator seed lane) → (w, h) ≡ pcg32 g → h ≡ advance 64 multiplier_64 (i + 1) (generator seed lane)
left seed lane i w g h at step = ap (λ (x : ℕ × Lcg). x.1) step ∙ ap (λ (x : Lcg). next 64 multiplier_64 x) at ∙ advance_last 64 multiplier_64 i (generator seed lane)

flips : (a b : ℕ) → a ≡ 0 → b ≡ 1 → (b == 0) ≡ not (a == 0)
flips a b e f = ap (λ (n : ℕ). n == 0) f ∙ sym (ap (λ (n : ℕ). not (n == 0)) e)

flips_back : (a b : ℕ) → a ≡ 1 → b ≡ 0 → (b == 0) ≡ not (a == 0)
flips_back a b e f = ap (λ (n : ℕ). n == 0) f ∙ sym (ap (λ (n : ℕ). not (n == 0)) e)

one_more : (n : ℕ) → ((n + 1) % 2 == 0) ≡ not (n % 2 == 0)
one_more n = by (cases_lt (n % 2) 1)
  where
    by : (n % 2 < 1) ⊎ (1 ≤ n % 2) → ((n + 1) % 2 == 0) ≡ not (n % 2 == 0)
    by (inl low) = flips (n % 2) ((n + 1) % 2) (omega (arith, low)) (omega (arith, low))
    by (inr high) = flips_back (n % 2) ((n + 1) % 2) (omega (arith, high)) (omega (arith, high))

with_word : (n w : ℕ) (b : Bool) → ((n + length (cond b (w ∷ []) [])) % 2 == 0) ≡ (if b then not (n % 2 == 0) else (n % 2 == 0))
with_word n w true = one_more n
with_word n w false =
    let none : n + length (cond {A = List ℕ} false (w ∷ []) []) ≡ n = omega arith in
    ap (λ (k : ℕ). k % 2 == 0) none

-- a word turns its peer, and no other
pub is_up_more : (seed lane p i : ℕ) → is_up seed lane p (i + 1) ≡ (if turns p (word_at seed lane i) then not (is_up seed lane p i) else is_up seed lane p i)
is_up_more seed lane p i =
    let w = word_at seed lane i in
    let more = filter_of_map_range_with_len_more (turns p) (word_at seed lane) 0 i i (omega arith) in
    ap (λ (l : List ℕ). length l % 2 == 0) more ∙ ap (λ (n : ℕ). n % 2 == 0) (length-append _ (cond (turns p w) (w ∷ []) [])) ∙ with_word _ w (turns p w)

-- all are up in front of the first word
pub all_up : (p : ℕ) → p < 4 → slice_index_or (true ∷ true ∷ true ∷ true ∷ []) p false ≡ true
all_up zero h = refl
all_up (suc zero) h = refl
all_up (suc (suc zero)) h = refl
all_up (suc (suc (suc zero))) h = refl
all_up (suc (suc (suc (suc p)))) h = absurd (omega (arith, h))

-- the message of a word is that of its position
pub message_at : (seed lane i w p : ℕ) (b : Bool) → w ≡ word_at seed lane i → p ≡ peer_of w → b ≡ is_up seed lane p i → (old new : List ℕ) → Appends (IsMessageOf b w) old new
    → Appends (λ bytes. IsMessageAt seed lane bytes i) old new
message_at seed lane i w p b word peer up old new put =
    let here : b ≡ is_up seed lane (peer_of (word_at seed lane i)) i = up ∙ ap (λ (q : ℕ). is_up seed lane q i) (peer ∙ ap peer_of word) in
    subst (λ (c : Bool). Appends (IsMessageOf c (word_at seed lane i)) old new) here (subst (λ (x : ℕ). Appends (IsMessageOf b x) old new) word put)

-- behind a word the peers are up that are up in front of the next
pub turned_at : (seed lane i w p : ℕ) (a b : Bool) → w ≡ word_at seed lane i → a ≡ is_up seed lane p i → b ≡ (if turns p w then not a else a) → b ≡ is_up seed lane p (i + 1)
turned_at seed lane i w p a b word up turned =
    turned ∙ ap (λ (x : ℕ). if turns p x then not a else a) word ∙ ap (λ (c : Bool). if turns p (word_at seed lane i) then not c else c) up ∙ sym (is_up_more seed lane p i)

-- the parts of a stream
pub stream_put : (seed lane messages : ℕ) (old m1 m2 new : List ℕ) → old ≡ [] → Appends (IsInitiation lane) old m1 → Appends (λ bytes. AreParts IsUp bytes (0 ∷ 1 ∷ 2 ∷ 3 ∷ [])) m1 m2
    → Appends (λ bytes. AreParts (IsMessageAt seed lane) bytes (range_with_len 0 messages)) m2 new → IsDrillStream seed lane messages new
stream_put seed lane messages old m1 m2 new none (a, e, p) (b, f, q) (c, g, r) = record {
  initiation = a;
  ups = b;
  drawn = c;
  joined = two_pieces old m1 new a (b ++ c) e (two_pieces m1 m2 new b c f g) ∙ ap (λ (l : List ℕ). l ++ (a ++ (b ++ c))) none;
  initiation_is = p;
  ups_are = q;
  drawn_are = r;
}
