-- A line behind what its table's lines begin with.
use Rattle.std.proofs.Common.{◌≡◌, ℕ, zero, suc, List, Option, [], ◌∷◌, ◌++◌, length, take, drop, get_or, refl, sym, ap, ◌∙◌, arith, append_assoc, codes}
use Rattle.bmp_specs.specs.Lines.{further}
use Rattle.bmp_specs.specs.NumberText.{number_text}
use Rattle.bmp_specs.specs.PeerText.{key_text, view_text}
use Rattle.bmp_specs.specs.PrefixText.{prefix_text}
use Rattle.bmp_specs.specs.RouteLine.{attribute_fields, id_fields, route_line}
use Rattle.bmp_specs.specs.Values.{AttrsValue, NlriValue}
use Rattle.reply_text.specs.Fronts.{TableValue, front_text}
use Rattle.reply_text.specs.Pieces.{spaced}
use Rattle.reply_text.specs.Rov.{origin_word, rov_line}
use Rattle.ask_specs.specs.FullLine.{full_line, further_fields}
use Rattle.reply_text.proofs.Pieces.{further-append, spaced-append}

-- what stands before a place stays as it was
pub front_stays : (xs rest new : List ℕ) (end : ℕ) → take end new ≡ xs ++ rest → take (length xs) new ≡ xs
front_stays [] rest new end e = refl
front_stays (x ∷ xs) rest new zero e = absurd (omega (arith, ap length e))
front_stays (x ∷ xs) rest [] (suc end) e = absurd (omega (arith, ap length e))
front_stays (x ∷ xs) rest (n ∷ ns) (suc end) e = λ i. ap (λ (l : List ℕ). get_or l 0 0) e i ∷ front_stays xs rest ns end (ap (λ (l : List ℕ). drop 1 l) e) i

front_parts : (word lane key view rest : List ℕ) → word ++ (lane ++ (32 ∷ (key ++ (32 ∷ (view ++ (32 ∷ rest)))))) ≡ (word ++ (lane ++ (32 ∷ (key ++ (32 ∷ (view ++ (32 ∷ []))))))) ++ rest
front_parts word lane key view rest = simp append_assoc

-- a route's line and what it begins with
pub line_parts_of : (t : TableValue) (n : NlriValue) (a : AttrsValue)
    → route_line t.lane (record { row_key = record { key = t.key; view = t.view; nlri = n }; route = a }) ≡ front_text (codes "route ") t ++ (prefix_text n.prefix ++ (spaced (attribute_fields a) ++ further (id_fields n.id)))
line_parts_of t n a =
    ap (λ (l : List ℕ). codes "route " ++ (number_text t.lane ++ (32 ∷ (key_text t.key ++ (32 ∷ (view_text t.view ++ (32 ∷ (prefix_text n.prefix ++ l)))))))) (further-append (attribute_fields a) (id_fields n.id))
    ∙ front_parts (codes "route ") (number_text t.lane) (key_text t.key) (view_text t.view) (prefix_text n.prefix ++ (spaced (attribute_fields a) ++ further (id_fields n.id)))

-- the line of a row that is judged and what it begins with
pub rov_parts_of : (t : TableValue) (n : NlriValue) (origin : Option ℕ) (judged : List ℕ)
    → rov_line t.lane (record { key = t.key; view = t.view; nlri = n }) origin judged ≡ front_text (codes "rov ") t ++ (prefix_text n.prefix ++ (spaced (origin_word origin ∷ judged ∷ []) ++ further (id_fields n.id)))
rov_parts_of t n origin judged =
    ap (λ (l : List ℕ). codes "rov " ++ (number_text t.lane ++ (32 ∷ (key_text t.key ++ (32 ∷ (view_text t.view ++ (32 ∷ (prefix_text n.prefix ++ l)))))))) (further-append (origin_word origin ∷ judged ∷ []) (id_fields n.id))
    ∙ front_parts (codes "rov ") (number_text t.lane) (key_text t.key) (view_text t.view) (prefix_text n.prefix ++ (spaced (origin_word origin ∷ judged ∷ []) ++ further (id_fields n.id)))

-- the line of a route with all its path attributes, what it begins with, and what a route line doesn't tell
pub full_parts_of : (t : TableValue) (n : NlriValue) (a : AttrsValue)
    → full_line t.lane (record { row_key = record { key = t.key; view = t.view; nlri = n }; route = a })
    ≡ (front_text (codes "route ") t ++ (prefix_text n.prefix ++ (spaced (attribute_fields a) ++ spaced (id_fields n.id)))) ++ further (further_fields a)
full_parts_of t n a =
    let more : List ℕ = further (further_fields a) in
    let told : List ℕ = spaced (attribute_fields a) ++ spaced (id_fields n.id) in
    let rest : further ((attribute_fields a ++ id_fields n.id) ++ further_fields a) ≡ told ++ more =
    further-append (attribute_fields a ++ id_fields n.id) (further_fields a) ∙ ap (λ (l : List ℕ). l ++ more) (spaced-append (attribute_fields a) (id_fields n.id)) in
    ap (λ (l : List ℕ). codes "route " ++ (number_text t.lane ++ (32 ∷ (key_text t.key ++ (32 ∷ (view_text t.view ++ (32 ∷ (prefix_text n.prefix ++ l)))))))) rest
    ∙ front_parts (codes "route ") (number_text t.lane) (key_text t.key) (view_text t.view) (prefix_text n.prefix ++ (told ++ more))
    ∙ ap (λ (l : List ℕ). front_text (codes "route ") t ++ l) (sym (append_assoc (prefix_text n.prefix) told more))
    ∙ sym (append_assoc (front_text (codes "route ") t) (prefix_text n.prefix ++ told) more)
