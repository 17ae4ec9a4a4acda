-- The first octets of what a connection gave beyond its messages.
use Rattle.std.specs.Prelude.{◌≡◌, ℕ, List, Option, None, Some, take, drop}
use Rattle.bmp_specs.specs.declared.causes.Cause.{Cause}
use Rattle.bmp_specs.specs.declared.causes.Cause.TheVariants.{Broken}
use Rattle.bmp_specs.specs.declared.causes.Why.{Why}
use Rattle.bmp_specs.specs.Life.{EndsAt, Given}
use Rattle.bmp_specs.specs.Meaning.{Meaning}
use Rattle.bmp_specs.specs.Values.{EntryValue}
use Rattle.bmp_specs.specs.Walk.{broken}
use Rattle.feed_worker.specs.FeedPort.{present_of}

-- these are the first octets of the bytes from this offset on: 64, or all where there are fewer
abbrev pub IsFront : List ℕ → ℕ → List ℕ → Type 0
IsFront bytes offset octets = octets ≡ take 64 (drop offset bytes)

-- where a walk stands, or broke
abbrev pub place_of : ℕ → Option Cause → ℕ
place_of offset (Some (Broken at why)) = at
place_of offset end = offset

-- these are the first octets of the bytes from where a walk stands, or broke; where it ended otherwise nothing is said
abbrev pub IsFrontAt : List ℕ → ℕ → Option Cause → List ℕ → Type 0
IsFrontAt bytes offset None octets = IsFront bytes offset octets
IsFrontAt bytes offset (Some (Broken at why)) octets = IsFront bytes at octets
IsFrontAt bytes offset (Some cause) octets = Unit {0}

-- whatever comes after these bytes, at the offset stands no message, and these are the first octets from there on
pub record BreaksAt (meaning : Meaning) (bytes : List ℕ) (offset : ℕ) (octets : List ℕ) : Type 0 where
  pub messages : List EntryValue
  pub why : Why
  pub ends : EndsAt meaning bytes messages offset (broken why)
  pub front : IsFront bytes offset octets

-- the same of the present connection, where the connections given are told
abbrev pub BreaksWhereTold : Meaning → Option (List Given) → ℕ → List ℕ → Type 0
BreaksWhereTold meaning None offset octets = Unit {0}
BreaksWhereTold meaning (Some given) offset octets = BreaksAt meaning (present_of given) offset octets

-- the same where the connection broke; where it didn't nothing is said
abbrev pub BreaksIfBroken : Meaning → Option (List Given) → Option Cause → List ℕ → Type 0
BreaksIfBroken meaning given (Some (Broken at why)) octets = BreaksWhereTold meaning given at octets
BreaksIfBroken meaning given end octets = Unit {0}
