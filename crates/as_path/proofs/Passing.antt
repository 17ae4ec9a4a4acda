-- One part after another that is passed where something holds of its value, as a loop does.
use Rattle.std.proofs.Common.{◌≡◌, ◌≢◌, ◌*◌, ℕ, List, [], ◌∷◌, ◌++◌, length, drop, inl, inr, subst, arith}
use Rattle.std.specs.List.{AllByRecursion}
use Rattle.std.proofs.lemmas.Bool.{cases_eq}
use Rattle.bmp_specs.specs.declared.wire.SegmentKind.{SegmentKind}
use Rattle.bmp_specs.specs.declared.wire.Width.{Width}
use Rattle.bmp_specs.specs.AsPath.{as_width, AreAsNumbers, ArePath, IsAsNumber, IsSegment}
use Rattle.bmp_specs.specs.Parts.{AreParts, IsCode}
use Rattle.bmp_specs.specs.Values.{SegmentValue}
use Rattle.bmp_specs.proofs.PartsRead.{AreParts-one, HasRead, HasRead-end, HasRead-more}
use Rattle.bmp_specs.proofs.PathCode.{as_number_code, segment_code}
use Rattle.as_path.specs.Reading.{HasHeader}
use Rattle.as_path.proofs.Judging.{numbers_there}
use Rattle.as_path.proofs.Reading.{segment_more, segment_stuck}

-- the bytes are the parts of some values of which P holds, and then the rest
pub record Passes {V : Type 0} (Is : List ℕ → V → Type 0) (P : V → Type 0) (bytes rest : List ℕ) : Type 0 where
  pub out : List V
  pub read : HasRead Is bytes out rest
  pub hold : AllByRecursion P out

push : {V : Type 0} (P : V → Type 0) (vs : List V) (v : V) → AllByRecursion P vs → P v → AllByRecursion P (vs ++ v ∷ [])
push P [] v all here = (here, tt)
push P (w ∷ vs) v all here = (all.0, push P vs v all.1 here)

held : {V : Type 0} (P : V → Type 0) (vs ws : List V) (v : V) → AllByRecursion P ((vs ++ v ∷ []) ++ ws) → P v
held P [] ws v all = all.0
held P (u ∷ vs) ws v all = held P vs ws v all.1

module _ {V : Type 0} (Is : List ℕ → V → Type 0) (code : IsCode Is) (P : V → Type 0) where
  pub passes_more : (bytes rest front after : List ℕ) (v : V) → Passes Is P bytes rest → rest ≡ front ++ after → Is front v → P v → Passes Is P bytes after
  passes_more bytes rest front after v p split is here = record { out = p.out ++ v ∷ []; read = HasRead-more Is code bytes p.out rest front after v p.read split is; hold = push P p.out v p.hold here }

  -- a part of which P doesn't hold
  pub passes_not : (bytes rest front after : List ℕ) (v : V) → Passes Is P bytes rest → rest ≡ front ++ after → Is front v → ¬ (P v) → (vs : List V) → AreParts Is bytes vs → ¬ (AllByRecursion P vs)
  passes_not bytes rest front after v p split is none vs are all =
      let more = HasRead-more Is code bytes p.out rest front after v p.read split is in
      let q = more.only vs are in
      none (held P p.out q.0 v (subst (AllByRecursion P) q.1 all))

  pub passes_end : (bytes rest : List ℕ) → Passes Is P bytes rest → length rest ≡ 0 → (vs : List V) → AreParts Is bytes vs → AllByRecursion P vs
  passes_end bytes rest p empty vs are = subst (AllByRecursion P) (AreParts-one Is code bytes p.out vs (HasRead-end Is bytes p.out rest p.read empty) are) p.hold

-- ---- AS numbers
abbrev pub IsNoZero : ℕ → Type 0
IsNoZero asn = asn ≢ 0

abbrev pub PassesNumbers : Width → List ℕ → List ℕ → Type 0
PassesNumbers width bytes rest = Passes (IsAsNumber width) IsNoZero bytes rest

pub numbers_more : (width : Width) (bytes rest front after : List ℕ) (n : ℕ) → PassesNumbers width bytes rest → rest ≡ front ++ after → IsAsNumber width front n → n ≢ 0 → PassesNumbers width bytes after
numbers_more width = passes_more (IsAsNumber width) (as_number_code width) IsNoZero

pub numbers_not : (width : Width) (bytes rest front after : List ℕ) (n : ℕ) → PassesNumbers width bytes rest → rest ≡ front ++ after → IsAsNumber width front n → n ≡ 0 → (asns : List ℕ) → AreAsNumbers width bytes asns → ¬ (AllByRecursion IsNoZero asns)
numbers_not width bytes rest front after n p split is zero = passes_not (IsAsNumber width) (as_number_code width) IsNoZero bytes rest front after n p split is (λ other. other zero)

pub numbers_end : (width : Width) (bytes rest : List ℕ) → PassesNumbers width bytes rest → length rest ≡ 0 → (asns : List ℕ) → AreAsNumbers width bytes asns → AllByRecursion IsNoZero asns
numbers_end width = passes_end (IsAsNumber width) (as_number_code width) IsNoZero

-- ---- segments
abbrev pub HasNoZero : SegmentValue → Type 0
HasNoZero segment = AllByRecursion IsNoZero segment.numbers

abbrev pub PassesSegments : Width → List ℕ → List ℕ → Type 0
PassesSegments width bytes rest = Passes (IsSegment width) HasNoZero bytes rest

module _ (width : Width) (bytes rest front after : List ℕ) (kind : SegmentKind) (count : ℕ) (p : PassesSegments width bytes rest) (h : HasHeader width rest kind count) (split : drop 2 rest ≡ front ++ after) (len : length front ≡ as_width width * count) where
  pub segments_passed_more : ((asns : List ℕ) → AreAsNumbers width front asns → AllByRecursion IsNoZero asns) → PassesSegments width bytes after
  segments_passed_more none =
      let numbers = numbers_there width count front len in
      record {
        out = p.out ++ record { kind = kind; numbers = numbers.0 } ∷ [];
        read = segment_more width bytes rest front after p.out kind count numbers.0 p.read h split len numbers.1;
        hold = push HasNoZero p.out (record { kind = kind; numbers = numbers.0 }) p.hold (none numbers.0 numbers.1);
      }

  pub segments_passed_not : ((asns : List ℕ) → AreAsNumbers width front asns → ¬ (AllByRecursion IsNoZero asns)) → (path : List SegmentValue) → ArePath width bytes path → ¬ (AllByRecursion HasNoZero path)
  segments_passed_not zero path are all =
      let numbers = numbers_there width count front len in
      let more = segment_more width bytes rest front after p.out kind count numbers.0 p.read h split len numbers.1 in
      let q = more.only path are in
      zero numbers.0 numbers.1 (held HasNoZero p.out q.0 (record { kind = kind; numbers = numbers.0 }) (subst (AllByRecursion HasNoZero) q.1 all))

pub segments_passed_end : (width : Width) (bytes rest : List ℕ) → PassesSegments width bytes rest → ((kind : SegmentKind) (count : ℕ) → HasHeader width rest kind count → ⊥) → (path : List SegmentValue) → ArePath width bytes path → AllByRecursion HasNoZero path
segments_passed_end width bytes rest p none path are = elim (cases_eq (length rest) 0) [
  | inl empty ↦ passes_end (IsSegment width) (segment_code width) HasNoZero bytes rest p empty path are
  | inr left ↦ absurd (segment_stuck width bytes rest p.out p.read (omega (arith, left)) none path are)
]
