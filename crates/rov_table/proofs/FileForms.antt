-- What the records of a file are, at its forms.
use Rattle.std.proofs.Common.{◌≡◌, ℕ, List, [], ◌∷◌, ◌++◌, refl}
use Rattle.std.specs.Prelude.{codes}
use Rattle.csv.specs.Machine.{next_record}
use Rattle.csv.specs.Reading.{records_from, strip_bom}
use Rattle.rov_table.specs.VrpFile.{file_records}

abbrev lf : List ℕ
lf = 10 ∷ []

abbrev cr : List ℕ
cr = 13 ∷ []

abbrev quote : List ℕ
quote = 34 ∷ []

-- two fields, and then one
abbrev two_records : List (List (List ℕ))
two_records = (codes "ab" ∷ codes "c" ∷ []) ∷ (codes "d" ∷ []) ∷ []

-- LF, CR or CRLF ends a record, and the end of the file does.
a_line_feed_ends_a_record : file_records (codes "ab,c" ++ lf ++ codes "d" ++ lf) ≡ two_records
unfolding file_records records_from strip_bom next_record
a_line_feed_ends_a_record = refl

a_carriage_return_ends_a_record : file_records (codes "ab,c" ++ cr ++ codes "d" ++ cr) ≡ two_records
unfolding file_records records_from strip_bom next_record
a_carriage_return_ends_a_record = refl

both_end_a_record : file_records (codes "ab,c" ++ cr ++ lf ++ codes "d" ++ cr ++ lf) ≡ two_records
unfolding file_records records_from strip_bom next_record
both_end_a_record = refl

the_end_of_the_file_ends_a_record : file_records (codes "ab,c" ++ lf ++ codes "d") ≡ two_records
unfolding file_records records_from strip_bom next_record
the_end_of_the_file_ends_a_record = refl

-- An empty line is no record, and a byte order mark at the start is none of the first field.
an_empty_line_is_no_record : file_records (lf ++ codes "ab,c" ++ lf ++ cr ++ lf ++ lf ++ codes "d" ++ lf) ≡ two_records
unfolding file_records records_from strip_bom next_record
an_empty_line_is_no_record = refl

a_byte_order_mark_is_taken_off : file_records (239 ∷ 187 ∷ 191 ∷ (codes "ab,c" ++ lf ++ codes "d")) ≡ two_records
unfolding file_records records_from strip_bom next_record
a_byte_order_mark_is_taken_off = refl

-- A field may be empty.
a_field_may_be_empty : file_records (codes "a,,b," ++ lf) ≡ (codes "a" ∷ [] ∷ codes "b" ∷ [] ∷ []) ∷ []
unfolding file_records records_from strip_bom next_record
a_field_may_be_empty = refl

-- A quoted field may have commas, ends of lines and, written twice, quotes.
a_quoted_field_may_have_all : file_records (quote ++ codes "a,b" ++ lf ++ quote ++ quote ++ quote ++ codes ",c" ++ lf) ≡ ((codes "a,b" ++ lf ++ quote) ∷ codes "c" ∷ []) ∷ []
unfolding file_records records_from strip_bom next_record
a_quoted_field_may_have_all = refl

-- A quote that isn't closed takes the rest of the file.
an_open_quote_takes_the_rest : file_records (codes "a,b,c," ++ quote ++ codes "d" ++ lf ++ codes "e,f" ++ lf) ≡ (codes "a" ∷ codes "b" ∷ codes "c" ∷ (codes "d" ++ lf ++ codes "e,f" ++ lf) ∷ []) ∷ []
unfolding file_records records_from strip_bom next_record
an_open_quote_takes_the_rest = refl

-- A file of nothing has no record.
nothing_has_no_record : file_records [] ≡ []
unfolding file_records records_from strip_bom next_record
nothing_has_no_record = refl
