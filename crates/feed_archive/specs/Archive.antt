-- The archive file: a list of records and a byte other than 1. What follows that byte counts for nothing.
use Rattle.std.specs.Prelude.{◌≡◌, ◌≢◌, ℕ, ◌+◌, ◌^◌, ◌≤◌, ◌⊎◌, List, [], ◌∷◌, ◌++◌, length, drop, slice_index}
use Rattle.byteorder.specs.Endian.{big_number}
use Rattle.bmp_specs.specs.Parts.{AreParts}
use Rattle.bmp_specs.specs.Sequence.{HasFront}

-- the most bytes of a record, and of an archive
abbrev pub most_record : ℕ
most_record = 65536

abbrev pub most_archive : ℕ
most_archive = 2 ^ 31

-- the bytes are a record of this piece: the byte 1, the piece's length in four bytes, and the piece
pub record IsRecord (bytes piece : List ℕ) : Type 0 where
  pub whole : 5 + length piece ≡ length bytes
  pub gate : slice_index bytes 0 ≡ 1
  pub length_is : big_number 4 (drop 1 bytes) ≡ length piece
  pub size : length piece ≤ most_record
  pub piece_is : drop 5 bytes ≡ piece

-- the pieces, one after another
abbrev pub joined : List (List ℕ) → List ℕ
joined [] = []
joined (piece ∷ pieces) = piece ++ joined pieces

-- the file is an archive of these pieces, and the byte that closes it stands at this place
pub record IsArchive (file : List ℕ) (pieces : List (List ℕ)) (place : ℕ) : Type 0 where
  pub front : List ℕ
  pub gate : ℕ
  pub rest : List ℕ
  pub split : file ≡ front ++ gate ∷ rest
  pub records : AreParts IsRecord front pieces
  pub closed : gate ≢ 1
  pub place_is : length front ≡ place

-- the file is an archive with this content
pub record HasContent (file content : List ℕ) : Type 0 where
  pub pieces : List (List ℕ)
  pub place : ℕ
  pub is : IsArchive file pieces place
  pub content_is : content ≡ joined pieces

-- no whole and right record stands at the front, and no byte that closes an archive
pub record BreaksRecord (bytes : List ℕ) : Type 0 where
  pub no_record : (piece rest : List ℕ) → HasFront IsRecord bytes piece rest → ⊥
  pub no_end : (bytes ≡ []) ⊎ (slice_index bytes 0 ≡ 1)

-- The file is no archive: after some records, at this offset, stands one that isn't whole or right, or nothing.
pub record IsDamagedAt (file : List ℕ) (offset : ℕ) : Type 0 where
  pub front : List ℕ
  pub rest : List ℕ
  pub split : file ≡ front ++ rest
  pub pieces : List (List ℕ)
  pub records : AreParts IsRecord front pieces
  pub offset_is : length front ≡ offset
  pub broken : BreaksRecord rest
