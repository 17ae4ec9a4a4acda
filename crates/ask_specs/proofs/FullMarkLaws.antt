-- The lines of `full marks` begin with those of `marks`, and a mark has one number of rows.
use Rattle.std.proofs.Common.{◌≡◌, ℕ, ◌-◌, List, [], ◌∷◌, ◌++◌, length, take, codes, sym, ap, subst, ◌∙◌, append_assoc}
use Rattle.bmp_specs.specs.NumberText.{number_text}
use Rattle.bmp_specs.specs.PeerLines.{family_text, mark_text, named_field}
use Rattle.bmp_specs.specs.PeerText.{key_text, view_text}
use Rattle.bmp_specs.specs.QueryReply.{MarkValue}
use Rattle.bmp_specs.specs.Reply.{told_count}
use Rattle.bmp_specs.specs.Rows.{RowValue}
use Rattle.bmp_specs.specs.Session.{session_effects}
use Rattle.bmp_specs.specs.TableRows.{AreRows}
use Rattle.bmp_specs.proofs.ListedOne.{rows_one}
use Rattle.ask_specs.specs.FullMarks.{BeginsWithMark, CountsOnce, IsOfTable, full_mark_line, plain_mark_line}
use Rattle.ask_specs.proofs.FullOne.{body, ended, goes_on, without_end}

pub begins_with_mark : BeginsWithMark
begins_with_mark lane c =
    let fs : List (List ℕ) = number_text lane ∷ key_text c.mark.key ∷ view_text c.mark.view ∷ family_text c.mark.family ∷ mark_text c.mark.complete ∷ [] in
    let whole = codes "mark" ++ body fs in
    let plain = plain_mark_line lane c.mark in
    let g = named_field (codes "rows") (number_text c.rows) in
    let line_is : plain ≡ whole ++ 10 ∷ [] = ap (λ (l : List ℕ). codes "mark" ++ l) (ended fs) ∙ sym (append_assoc (codes "mark") (body fs) (10 ∷ [])) in
    let full_is : full_mark_line lane c ≡ whole ++ 32 ∷ (g ++ 10 ∷ []) = ap (λ (l : List ℕ). codes "mark" ++ l) (goes_on fs g []) ∙ sym (append_assoc (codes "mark") (body fs) (32 ∷ (g ++ 10 ∷ []))) in
    let front : take (length plain - 1) plain ≡ whole = ap (λ (l : List ℕ). take (length l - 1) l) line_is ∙ without_end whole in
    full_is ∙ ap (λ (l : List ℕ). l ++ 32 ∷ (g ++ 10 ∷ [])) (sym front)

pub counts_once : CountsOnce
counts_once entries a b p q same =
    let rows : p.rows ≡ q.rows = rows_one (IsOfTable b.mark) (session_effects entries) p.rows q.rows (subst (λ (m : MarkValue). AreRows (IsOfTable m) (session_effects entries) p.rows) same p.are_rows) q.are_rows in
    let count : a.rows ≡ b.rows = p.count_is ∙ ap (λ (l : List RowValue). told_count (length l)) rows ∙ sym q.count_is in
    λ i. record { mark = same i; rows = count i }
