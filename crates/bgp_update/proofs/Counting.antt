-- How many bytes an item takes by its length octet, and how many items fill bytes.
use Rattle.std.proofs.Common.{◌≡◌, ◌+◌, ◌<◌, ◌≤◌, ℕ, Bool, true, false, List, [], ◌∷◌, ◌++◌, length, take, drop, Option, Some, None, refl, sym, ap, subst, arith, take-append-drop, length-append, length-drop}
use Rattle.std.specs.Prelude.{IfNone}
use Rattle.std.proofs.lemmas.List.{length-take-le}
use Rattle.byteorder.specs.Endian.{big_number}
use Rattle.bmp_specs.specs.declared.wire.Family.{Family}
use Rattle.bmp_specs.specs.Nlri.{AreNlri, IsNlri}
use Rattle.bmp_specs.specs.Prefix.{StandsAtFront}
use Rattle.bmp_specs.specs.Sequence.{HasFront}
use Rattle.bmp_specs.specs.Values.{NlriValue, PrefixValue}
use Rattle.bmp_specs.proofs.NlriCode.{nlri_code}
use Rattle.bmp_specs.proofs.PartsRead.{HasRead, HasRead-nil, HasRead-front, HasRead-none, HasRead-end}
use Rattle.bgp_update.proofs.Reading.{bare_none, identified_found}

-- One item at the front.

pub bare_stands : (family : Family) (input : List ℕ) (size : ℕ) → (p : PrefixValue) × StandsAtFront family input p size → (n : NlriValue) × HasFront (IsNlri family false) input n (drop size input)
bare_stands family input size (p, stands) = (record { prefix = p; id = None }, (take size input, record { joined = sym (take-append-drop size input) }, record { prefix_is = stands.is; id_is = refl }))

pub bare_none_stands : (family : Family) (input : List ℕ) (size : Option ℕ) → IfNone size ((n : ℕ) (p : PrefixValue) → StandsAtFront family input p n → ⊥)
    → IfNone size ((n : NlriValue) (rest : List ℕ) → HasFront (IsNlri family false) input n rest → ⊥)
bare_none_stands family input None none = bare_none family input none
bare_none_stands family input (Some size) none = tt

pub identified_stands : (family : Family) (input after : List ℕ) (size : ℕ) → 4 ≤ length input → after ≡ drop 4 input → (p : PrefixValue) × StandsAtFront family after p size
    → (n : NlriValue) × HasFront (IsNlri family true) input n (drop (size + 4) input)
identified_stands family input after size long others (p, stands) =
    let id = take 4 input in
    (record { prefix = p; id = Some (big_number 4 id) }, identified_found family input id after p (big_number 4 id) size refl others (length-take-le 4 input long) stands refl)

-- Items that fill bytes.

-- The items of these bytes are so many, and then those of the rest.
pub record CountsItems (family : Family) (identified : Bool) (bytes rest : List ℕ) (count : ℕ) : Type 0 where
  pub out : List NlriValue
  pub read : HasRead (IsNlri family identified) bytes out rest
  pub count_is : count ≡ length out
  pub room : count + length rest ≤ length bytes

pub counts_first : (family : Family) (identified : Bool) (bytes : List ℕ) → CountsItems family identified bytes bytes 0
counts_first family identified bytes = record { out = []; read = HasRead-nil (IsNlri family identified) bytes; count_is = refl; room = omega arith }

pub counts_more : (family : Family) (identified : Bool) (bytes rest after : List ℕ) (count size : ℕ) → CountsItems family identified bytes rest count
    → (n : NlriValue) × HasFront (IsNlri family identified) rest n (drop size rest) → 0 < size → size ≤ length rest → after ≡ drop size rest → CountsItems family identified bytes after (count + 1)
counts_more family identified bytes rest after count size c (n, here) some within others = record {
  out = c.out ++ n ∷ [];
  read = HasRead-front (IsNlri family identified) (nlri_code family identified) bytes c.out rest after n c.read (subst (λ (l : List ℕ). HasFront (IsNlri family identified) rest n l) (sym others) here);
  count_is = omega (arith, c.count_is, length-append c.out (n ∷ []));
  room = omega (arith, c.room, some, within, ap length others, length-drop size rest);
}

pub counts_stuck : (family : Family) (identified : Bool) (bytes rest : List ℕ) (count : ℕ) → CountsItems family identified bytes rest count → 0 < length rest
    → ((n : NlriValue) (after : List ℕ) → HasFront (IsNlri family identified) rest n after → ⊥) → (ns : List NlriValue) → AreNlri family identified bytes ns → ⊥
counts_stuck family identified bytes rest count c left none ns are = HasRead-none (IsNlri family identified) bytes c.out rest c.read left none ns are

pub counts_end : (family : Family) (identified : Bool) (bytes rest : List ℕ) (count : ℕ) → CountsItems family identified bytes rest count → length rest ≡ 0
    → (ns : List NlriValue) × AreNlri family identified bytes ns × (count ≡ length ns)
counts_end family identified bytes rest count c empty = (c.out, HasRead-end (IsNlri family identified) bytes c.out rest c.read empty, c.count_is)
