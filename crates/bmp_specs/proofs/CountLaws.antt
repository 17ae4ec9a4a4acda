-- The counts of a session: what one more effect adds to them, and that effects which aren't counted add nothing.
use Rattle.std.proofs.Common.{◌≡◌, ℕ, ◌+◌, Bool, false, cond, List, [], ◌∷◌, ◌++◌, ap, ◌∙◌, arith, zero-add}
use Rattle.std.specs.Prelude.{count_by, sum_by}
use Rattle.std.specs.List.{AllByRecursion}
use Rattle.std.proofs.lemmas.List.Sums.{sum_by-append}
use Rattle.bmp_specs.specs.Counts.{CountsValue, is_orphan, is_mirrored, is_passed, parts_in}
use Rattle.bmp_specs.specs.Reply.{told_count}
use Rattle.bmp_specs.specs.Sums.{sum_of, effect_counts, message_counts}
use Rattle.bmp_specs.specs.Values.{EffectValue}
use Rattle.bmp_specs.proofs.LatestLaws.{same_by_all}
use Rattle.bmp_specs.proofs.ReplyCounts.{told_sum}

told_more : (a m n all : ℕ) → all ≡ m + n → told_count (told_count (a + m) + n) ≡ told_count (a + all)
told_more a m n all is = told_sum (a + m) n ∙ ap told_count (omega arith)

pub sum_pushed : {X : Type 0} (f : X → ℕ) (xs : List X) (x : X) → sum_by f (xs ++ x ∷ []) ≡ sum_by f xs + f x
sum_pushed f xs x = sum_by-append f xs (x ∷ []) ∙ ap (λ (n : ℕ). sum_by f xs + n) (zero-add (f x))

-- one more effect of a message
pub message_pushed : (a : CountsValue) (len : ℕ) (effects : List EffectValue) (e : EffectValue) → sum_of (sum_of a (message_counts len effects)) (effect_counts e) ≡ sum_of a (message_counts len (effects ++ e ∷ []))
message_pushed a len effects e =
    let messages = told_more a.messages 1 0 1 (omega arith) in
    let bytes = told_more a.bytes len 0 len (omega arith) in
    let orphans = told_more a.orphans (count_by is_orphan effects) (cond (is_orphan e) 1 0) _ (sum_pushed (λ d. cond (is_orphan d) 1 0) effects e) in
    let unheard = told_more a.unread (sum_by parts_in effects) (parts_in e) _ (sum_pushed parts_in effects e) in
    let mirrored = told_more a.mirrored (count_by is_mirrored effects) (cond (is_mirrored e) 1 0) _ (sum_pushed (λ d. cond (is_mirrored d) 1 0) effects e) in
    let passed = told_more a.passed (count_by is_passed effects) (cond (is_passed e) 1 0) _ (sum_pushed (λ d. cond (is_passed d) 1 0) effects e) in
    λ i. record { messages = messages i; bytes = bytes i; orphans = orphans i; unread = unheard i; mirrored = mirrored i; passed = passed i }

-- an effect that isn't counted
pub record IsUncounted (e : EffectValue) : Type 0 where
  pub orphan : is_orphan e ≡ false
  pub unread : parts_in e ≡ 0
  pub mirrored : is_mirrored e ≡ false
  pub passed : is_passed e ≡ false

uncounted_sum : (f : EffectValue → ℕ) → ((e : EffectValue) → IsUncounted e → f e ≡ 0) → (es : List EffectValue) (e : EffectValue) → IsUncounted e → sum_by f (es ++ e ∷ []) ≡ sum_by f es
uncounted_sum f none es e u = let zero_here : f e ≡ 0 = none e u in omega (arith, sum_pushed f es e)

-- effects that aren't counted change the counts of their message by nothing
pub uncounted_kept : (len : ℕ) (es : List EffectValue) (e : EffectValue) → IsUncounted e → message_counts len (es ++ e ∷ []) ≡ message_counts len es
uncounted_kept len es e u =
    let orphans = uncounted_sum (λ d. cond (is_orphan d) 1 0) (λ d v. ap (λ (b : Bool). cond b 1 0) v.orphan) es e u in
    let unheard = uncounted_sum parts_in (λ d v. v.unread) es e u in
    let mirrored = uncounted_sum (λ d. cond (is_mirrored d) 1 0) (λ d v. ap (λ (b : Bool). cond b 1 0) v.mirrored) es e u in
    let passed = uncounted_sum (λ d. cond (is_passed d) 1 0) (λ d v. ap (λ (b : Bool). cond b 1 0) v.passed) es e u in
    λ i. record { messages = 1; bytes = len; orphans = orphans i; unread = unheard i; mirrored = mirrored i; passed = passed i }

pub uncounted_kept_by_all : (len : ℕ) (es more : List EffectValue) → AllByRecursion IsUncounted more → message_counts len (es ++ more) ≡ message_counts len es
uncounted_kept_by_all len es more all = same_by_all IsUncounted (message_counts len) (uncounted_kept len) es more all

-- the counts of two lists of effects, one after the other
pub orphans_append : (es more : List EffectValue) → count_by is_orphan (es ++ more) ≡ count_by is_orphan es + count_by is_orphan more
orphans_append = sum_by-append (λ d. cond (is_orphan d) 1 0)

pub unread_append : (es more : List EffectValue) → sum_by parts_in (es ++ more) ≡ sum_by parts_in es + sum_by parts_in more
unread_append = sum_by-append parts_in

pub mirrored_append : (es more : List EffectValue) → count_by is_mirrored (es ++ more) ≡ count_by is_mirrored es + count_by is_mirrored more
mirrored_append = sum_by-append (λ d. cond (is_mirrored d) 1 0)

pub passed_append : (es more : List EffectValue) → count_by is_passed (es ++ more) ≡ count_by is_passed es + count_by is_passed more
passed_append = sum_by-append (λ d. cond (is_passed d) 1 0)
