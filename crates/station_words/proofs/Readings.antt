-- What the reading of a call's words answers: how a fact of the words after a command is one of the whole.
use Rattle.std.proofs.Common.{◌≡◌, ℕ, Bool, true, false, ◌==◌, List, [], ◌∷◌, codes, length, map, ◌<◌, arith, ◌∙◌, Result, Ok, Err, IfOk, inl, inr, refl, sym, subst}
use Rattle.std.specs.Prelude.{◌⊎◌}
use Rattle.std.proofs.lemmas.Bool.{false≢true}
use Rattle.std.proofs.lemmas.Bool.Decides.{Decides-eqb}
use Rattle.station_words.specs.Reading.{IsLoneReading, IsPlainReading, IsReading}
use Rattle.station_words.specs.Words.{IsCall, IsCommand, IsPlain, TakeMemory, TakesMemory}
use Rattle.station_words.specs.declared.words.Call.{Call}
use Rattle.station_words.specs.declared.words.Command.{Command}
use Rattle.station_words.specs.declared.words.Command.TheVariants.{Check, Relay, Help, Version}
use Rattle.station_words.specs.declared.words.WordsFault.{WordsFault}
use Rattle.station_words.specs.declared.words.WordsFault.TheVariants.{NoMemory, Usage}
use Rattle.station_words.proofs.Commands.{no_check, no_help, no_relay, no_version, same_plain}

pub neither : {P Q : Type 0} → (P → ⊥) → (Q → ⊥) → P ⊎ Q → ⊥
neither p q (inl is) = p is
neither p q (inr is) = q is

module _ (first : List ℕ) (given : List (List ℕ)) where
  -- the words are this call
  pub reads_call : (call : Call) → IsCommand call.command call.lenient first given → IsReading first given (Ok call)
  reads_call call is = record { ok = is; usage = λ read. absurd (cc read); memory = λ read. absurd (cc read) }

  -- they are none
  pub reads_none : ((command : Command) (lenient : Bool) → IsCommand command lenient first given → ⊥) → IsReading first given (Err Usage)
  reads_none none = record { ok = tt; usage = λ read. none; memory = λ read. absurd (cc read) }

  -- they are none, or there was no memory
  pub reads_fault : (fault : WordsFault) → (fault ≡ Usage → (command : Command) (lenient : Bool) → IsCommand command lenient first given → ⊥) → TakesMemory first → IsReading first given (Err fault)
  reads_fault fault none takes = record { ok = tt; usage = λ read. none (cc read); memory = λ read. takes }

  pub reads_check : first ≡ codes "check" → (read : Result Call WordsFault) → IsPlainReading Check given read → IsReading first given read
  reads_check named (Ok call) r = reads_call call (subst (λ (c : Command). IsCommand c call.lenient first given) (sym r.ok.0) (named, r.ok.1))
  reads_check named (Err fault) r = subst (λ (f : WordsFault). IsReading first given (Err f)) (sym r.usage.0) (reads_none (no_check first given named r.usage.1))

  pub reads_relay : first ≡ codes "relay" → (read : Result Call WordsFault) → IsPlainReading Relay given read → IsReading first given read
  reads_relay named (Ok call) r = reads_call call (subst (λ (c : Command). IsCommand c call.lenient first given) (sym r.ok.0) (named, r.ok.1))
  reads_relay named (Err fault) r = subst (λ (f : WordsFault). IsReading first given (Err f)) (sym r.usage.0) (reads_none (no_relay first given named r.usage.1))

  pub reads_help : (first ≡ codes "--help") ⊎ (first ≡ codes "-h") → (read : Result Call WordsFault) → IsLoneReading Help given read → IsReading first given read
  reads_help named (Ok call) r = reads_call call (subst (λ (c : Command). IsCommand c call.lenient first given) (sym r.ok.0) (named, r.ok.2, r.ok.1))
  reads_help named (Err fault) r = subst (λ (f : WordsFault). IsReading first given (Err f)) (sym r.usage.0) (reads_none (no_help first given named r.usage.1))

  pub reads_version : (first ≡ codes "--version") ⊎ (first ≡ codes "-V") → (read : Result Call WordsFault) → IsLoneReading Version given read → IsReading first given read
  reads_version named (Ok call) r = reads_call call (subst (λ (c : Command). IsCommand c call.lenient first given) (sym r.ok.0) (named, r.ok.2, r.ok.1))
  reads_version named (Err fault) r = subst (λ (f : WordsFault). IsReading first given (Err f)) (sym r.usage.0) (reads_none (no_version first given named r.usage.1))

pub some_words : {X : Type 0} (word : X) (words : List X) → true ≡ (length (word ∷ words) == 0) → ⊥
some_words word words none =
    let zero : length (word ∷ words) ≡ 0 = (Decides-eqb (length (word ∷ words)) 0).0 (sym none) in
    omega (arith, zero)

-- no words are left after `--lenient`, or some are
module _ {X : Type 0} (text : X → List ℕ) (command : Command) (b : Bool) (given : List (List ℕ)) where
  pub reads_plain : (words : List X) → IsPlain b given (map text words) → true ≡ (length words == 0) → IsPlainReading command given (Ok (record { command = command; lenient = b }))
  reads_plain [] plain none = record { ok = (refl, plain); usage = tt }
  reads_plain (word ∷ words) plain none = absurd (some_words word words none)

  pub reads_more : (words : List X) → IsPlain b given (map text words) → false ≡ (length words == 0) → IsPlainReading command given (Err Usage)
  reads_more [] plain some = absurd (false≢true some)
  reads_more (word ∷ words) plain some = record {
    ok = tt;
    usage = (refl, λ d is. let same : map text (word ∷ words) ≡ [] = (same_plain b d given (map text (word ∷ words)) [] plain is).0 in absurd (cc same));
  }

-- there are no words, or some
module _ {X : Type 0} (text : X → List ℕ) (command : Command) where
  pub reads_lone : (words : List X) → true ≡ (length words == 0) → IsLoneReading command (map text words) (Ok (record { command = command; lenient = false }))
  reads_lone [] none = record { ok = (refl, refl, refl); usage = tt }
  reads_lone (word ∷ words) none = absurd (some_words word words none)

  pub reads_others : (words : List X) → false ≡ (length words == 0) → IsLoneReading command (map text words) (Err Usage)
  reads_others [] some = absurd (false≢true some)
  reads_others (word ∷ words) some = record { ok = tt; usage = (refl, λ is. cc is) }

-- the first of the words is this one
pub reads_at : (first name : List ℕ) (given : List (List ℕ)) (read : Result Call WordsFault) → first ≡ name → IsReading name given read → IsReading first given read
reads_at first name given read is r = subst (λ (l : List ℕ). IsReading l given read) (sym is) r

-- the words are a call, none, or want memory, as the first of them and those after it do
module _ (words : List (List ℕ)) (first : List ℕ) (given : List (List ℕ)) (split : words ≡ first ∷ given) where
  pub call_read : (read : Result Call WordsFault) → IsReading first given read → IfOk read (λ call. IsCall call words)
  call_read (Ok call) r = record { first = first; given = given; spelled = split; is_command = r.ok }
  call_read (Err fault) r = tt

  pub none_read : (read : Result Call WordsFault) → IsReading first given read → read ≡ Err Usage → (call : Call) → IsCall call words → ⊥
  none_read read r usage call is =
      let both : is.first ∷ is.given ≡ first ∷ given = sym is.spelled ∙ split in
      let same_first : is.first ≡ first = cc both in
      let same_given : is.given ≡ given = cc both in
      r.usage usage call.command call.lenient (subst (λ (l : List (List ℕ)). IsCommand call.command call.lenient first l) same_given (subst (λ (l : List ℕ). IsCommand call.command call.lenient l is.given) same_first is.is_command))

  pub memory_read : (read : Result Call WordsFault) → IsReading first given read → read ≡ Err NoMemory → TakeMemory words
  memory_read read r memory = (first, given, split, r.memory memory)

-- no words are no call
pub no_words : {X : Type 0} (text : X → List ℕ) (words : List X) → length words < 1 → (call : Call) → IsCall call (map text words) → ⊥
no_words text [] none call is = cc is.spelled
no_words text (word ∷ words) none call is = absurd (omega (arith, none))
