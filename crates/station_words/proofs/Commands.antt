-- Which words are a query after `replay`, a file and a prefix after `rov`, a file after `archive` or a file and a query after
-- `recall`, and which are no command.
use Rattle.std.proofs.Common.{◌≡◌, ◌≢◌, ℕ, ◌+◌, ◌-◌, ◌<◌, ◌≤◌, Bool, true, false, List, [], ◌∷◌, length, map, get_or, take, drop, codes, Option, Some, None, IfSome, IfNone, Result, Ok, Err, IfOk, refl, sym, ap, ◌∙◌, subst, arith, inl, inr}
use Rattle.std.specs.Prelude.{◌⊎◌}
use Rattle.std.specs.List.{join_with_byte}
use Rattle.std.proofs.lemmas.List.{length-map, take_rest}
use Rattle.bmp_specs.specs.PrefixText.{IsPrefixText}
use Rattle.bmp_specs.specs.Query.{space}
use Rattle.bmp_specs.specs.Values.{PrefixValue}
use Rattle.ask_specs.specs.Asking.{AskValue, plain as plain_query}
use Rattle.ask_specs.proofs.OfferLaws.{offers_plain}
use Rattle.station_words.specs.QueriesBefore.{KeepsQueries}
use Rattle.ask_specs.specs.Offer.{IsOfferedAsk}
use Rattle.query_lang.specs.Asks.{ask_value}
use Rattle.query_lang.specs.declared.ask.Ask.{Ask}
use Rattle.station_words.specs.DrillWords.{IsDrill}
use Rattle.station_words.specs.ServeWords.{IsServe}
use Rattle.station_words.specs.Words.{AsksOf, IsArchive, IsArchiveCall, IsArchiveOf, IsAsking, IsCall, IsCommand, IsPlain, IsRecall, IsRecallCall, IsRecallOf, IsReplay, IsRov, IsRovCall, IsRovOf, NamesFile, file_in, session_end}
use Rattle.station_words.specs.declared.drill_words.DrillWords.{DrillWords}
use Rattle.station_words.specs.declared.serve_words.ServeWords.{ServeWords}
use Rattle.station_words.specs.declared.words.Command.{Command}
use Rattle.station_words.specs.declared.words.Command.TheVariants.{Replay, Check, Serve, Drill, Relay, Rov, Archive, Recall, Help, Version}

-- the line asks one thing at most
pub asks_reply : (line : List ℕ) (ask : Ask) (found : Option Ask) → IsOfferedAsk line (ask_value ask) → IfSome found (λ a. (a ≡ ask) × (ask_value ask ≢ session_end)) → IfSome found (λ a. IsAsking line (ask_value a))
asks_reply line ask None is found = tt
asks_reply line ask (Some a) is (same, goes_on) = rw same (record { is_offered = is; goes_on = goes_on })

pub asks_other : (line : List ℕ) (ask : Ask) (found : Option Ask) → ((v : AskValue) → IsOfferedAsk line v → v ≡ ask_value ask) → IfNone found (ask_value ask ≡ session_end) → IfNone found ((v : AskValue) → IsAsking line v → ⊥)
asks_other line ask None only ends = λ v is. is.goes_on (only v is.is_offered ∙ ends)
asks_other line ask (Some a) only ends = tt

-- the words of a query ask for that query alone
pub keeps_queries : KeepsQueries
keeps_queries line query ask is =
    let one = offers_plain line query ask is in (
      λ asks. let same = one.0 asks.is_offered in (same, λ ends. asks.goes_on (same ∙ ap plain_query ends)),
      λ asked. record { is_offered = one.1 asked.0; goes_on = λ ends. asked.1 (let both : plain_query query ≡ session_end = sym asked.0 ∙ ends in cc both) },
    )

-- the first of the words, and the others
pub first_word : {X : Type 0} (text : X → List ℕ) (words : List X) (first : X) → 0 < length words → first ≡ get_or words 0 first → map text words ≡ text first ∷ map text (take (length words - 1) (drop 1 words))
first_word text [] first some is = absurd (omega (arith, some))
first_word text (word ∷ words) first some is =
    let same : word ≡ first = sym is in
    let rest : take (length (word ∷ words) - 1) (drop 1 (word ∷ words)) ≡ words = take_rest (word ∷ words) 1 in
    ap (λ w. text w ∷ map text words) same ∙ ap (λ others. text first ∷ map text others) (sym rest)

-- the plain words are the same, however they are taken
pub same_plain : (b d : Bool) (given plain more : List (List ℕ)) → IsPlain b given plain → IsPlain d given more → (plain ≡ more) × (b ≡ d)
same_plain true true given plain more is also = (let both : codes "--lenient" ∷ plain ≡ codes "--lenient" ∷ more = sym is ∙ also in cc both, refl)
same_plain true false given plain more is also = absurd (also.1 plain is)
same_plain false true given plain more is also = absurd (is.1 more also)
same_plain false false given plain more is also = (is.0 ∙ sym also.0, refl)

pub no_asking : (b : Bool) (given asked : List (List ℕ)) → IsPlain b given asked → ((ask : AskValue) → IsAsking (join_with_byte space asked) ask → ⊥) → (ask : AskValue) (d : Bool) → IsReplay ask d given → ⊥
no_asking b given asked is none ask d (others, plain, asks) =
    let same = (same_plain b d given asked others is plain).0 in
    none ask (subst (λ (words : List (List ℕ)). IsAsking (join_with_byte space words) ask) (sym same) asks)

-- the words are the file and the prefix, however they are taken
pub no_judged : (b : Bool) (given asked : List (List ℕ)) → IsPlain b given asked → ((file : List ℕ) (prefix : PrefixValue) → NamesFile file prefix asked → ⊥) → (prefix : PrefixValue) (d : Bool) → IsRov prefix d given → ⊥
no_judged b given asked is none prefix d (file, (others, plain, names)) =
    let same = (same_plain b d given asked others is plain).0 in
    none file prefix (subst (λ (words : List (List ℕ)). NamesFile file prefix words) (sym same) names)

-- two words, as they stand
pub two_words : {X : Type 0} (text : X → List ℕ) (words : List X) (b : X) → 2 ≤ length words → length words < 3 → b ≡ get_or words 1 b → (file : List ℕ) × (map text words ≡ file ∷ text b ∷ [])
two_words text [] b least most at_b = absurd (omega (arith, least))
two_words text (x ∷ []) b least most at_b = absurd (omega (arith, least))
two_words text (x ∷ y ∷ []) b least most at_b = (text x, ap (λ z. text x ∷ text z ∷ []) (sym at_b))
two_words text (x ∷ y ∷ z ∷ more) b least most at_b = absurd (omega (arith, most))

-- the last of two words is no prefix
no_prefix : (words : List (List ℕ)) (file text : List ℕ) → words ≡ file ∷ text ∷ [] → ((prefix : PrefixValue) → IsPrefixText text prefix → ⊥) → (other : List ℕ) (prefix : PrefixValue) → NamesFile other prefix words → ⊥
no_prefix words file text split none other prefix names =
    let both : file ∷ text ∷ [] ≡ other ∷ names.text ∷ [] = sym split ∙ names.spelled in
    let same : text ≡ names.text = cc both in
    none prefix (subst (λ (l : List ℕ). IsPrefixText l prefix) (sym same) names.is_prefix)

pub two_named : (words : List (List ℕ)) (file text : List ℕ) → words ≡ file ∷ text ∷ [] → (found : Option PrefixValue) → IfSome found (λ prefix. IsPrefixText text prefix) → IfSome found (λ prefix. (named : List ℕ) × NamesFile named prefix words)
two_named words file text split None is = tt
two_named words file text split (Some prefix) is = (file, record { text = text; spelled = split; is_prefix = is })

pub two_unnamed : (words : List (List ℕ)) (file text : List ℕ) → words ≡ file ∷ text ∷ [] → (found : Option PrefixValue) → IfNone found ((prefix : PrefixValue) → IsPrefixText text prefix → ⊥) → IfNone found ((named : List ℕ) (prefix : PrefixValue) → NamesFile named prefix words → ⊥)
two_unnamed words file text split None none = no_prefix words file text split none
two_unnamed words file text split (Some prefix) none = tt

-- The file of a call of `rov`, and that it stands at its place among the words.
pub rov_call : (prefix : PrefixValue) (lenient : Bool) (words : List (List ℕ)) → IsCall (record { command = Rov prefix; lenient = lenient }) words → (file : List ℕ) × IsRovCall file prefix lenient words × (file_in lenient words ≡ file)
rov_call prefix lenient words is =
    let file = is.is_command.1.0 in
    let rov : IsRovOf file prefix lenient is.given = is.is_command.1.1 in
    let spelled : words ≡ codes "rov" ∷ is.given = is.spelled ∙ ap (λ (l : List ℕ). l ∷ is.given) is.is_command.0 in
    (file, record { given = is.given; spelled = spelled; is_rov = rov }, ap (λ (l : List (List ℕ)). file_in lenient l) spelled ∙ found lenient file is.given rov.0 rov.1 rov.2)
  where
    found : (b : Bool) (path : List ℕ) (given asked : List (List ℕ)) → IsPlain b given asked → NamesFile path prefix asked → file_in b (codes "rov" ∷ given) ≡ path
    found true path given asked plain names = ap (λ (l : List (List ℕ)). get_or l 1 []) (plain ∙ ap (λ (l : List (List ℕ)). codes "--lenient" ∷ l) names.spelled)
    found false path given asked plain names = ap (λ (l : List (List ℕ)). get_or l 0 []) (sym plain.0 ∙ names.spelled)

-- the words are a file and those of a query, however they are taken
pub no_recalled : (b : Bool) (given asked : List (List ℕ)) → IsPlain b given asked → ((file : List ℕ) (ask : AskValue) → AsksOf file ask asked → ⊥) → (ask : AskValue) (d : Bool) → IsRecall ask d given → ⊥
no_recalled b given asked is none ask d (file, (others, plain, asks)) =
    let same = (same_plain b d given asked others is plain).0 in
    none file ask (subst (λ (words : List (List ℕ)). AsksOf file ask words) (sym same) asks)

-- the words are a file, however they are taken
pub one_file : {X : Type 0} (text : X → List ℕ) (b : Bool) (given : List (List ℕ)) (words : List X) → IsPlain b given (map text words) → length words ≡ 1 → IsArchive b given
one_file text b given [] plain one = absurd (omega (arith, one))
one_file text b given (x ∷ []) plain one = (text x, plain)
one_file text b given (x ∷ y ∷ more) plain one = absurd (omega (arith, one))

-- the words are more than a file, or none
pub no_one_file : {X : Type 0} (text : X → List ℕ) (b : Bool) (given : List (List ℕ)) (words : List X) → IsPlain b given (map text words) → length words ≢ 1 → (d : Bool) → IsArchive d given → ⊥
no_one_file text b given words plain many d (file, is) =
    let same : map text words ≡ file ∷ [] = (same_plain b d given (map text words) (file ∷ []) plain is).0 in
    many (omega (arith, ap length same, length-map words text))

-- The file of a call of `archive`, and that it stands at its place among the words.
pub archive_call : (lenient : Bool) (words : List (List ℕ)) → IsCall (record { command = Archive; lenient = lenient }) words → (file : List ℕ) × IsArchiveCall file lenient words × (file_in lenient words ≡ file)
archive_call lenient words is =
    let file = is.is_command.1.0 in
    let archive : IsArchiveOf file lenient is.given = is.is_command.1.1 in
    let spelled : words ≡ codes "archive" ∷ is.given = is.spelled ∙ ap (λ (l : List ℕ). l ∷ is.given) is.is_command.0 in
    (file, record { given = is.given; spelled = spelled; is_archive = archive }, ap (λ (l : List (List ℕ)). file_in lenient l) spelled ∙ found lenient file is.given archive)
  where
    found : (b : Bool) (path : List ℕ) (given : List (List ℕ)) → IsArchiveOf path b given → file_in b (codes "archive" ∷ given) ≡ path
    found true path given is = ap (λ (l : List (List ℕ)). get_or l 1 []) is
    found false path given is = ap (λ (l : List (List ℕ)). get_or l 0 []) (sym is.0)

-- the words begin with a file, and those after it are a query, or none
pub a_file : {X : Type 0} (text : X → List ℕ) (words : List X) → 0 < length words → (file : List ℕ) × (map text words ≡ file ∷ map text (take (length words - 1) (drop 1 words)))
a_file text [] some = absurd (omega (arith, some))
a_file text (word ∷ words) some =
    let rest : take (length (word ∷ words) - 1) (drop 1 (word ∷ words)) ≡ words = take_rest (word ∷ words) 1 in
    (text word, ap (λ others. text word ∷ map text others) (sym rest))

pub asks_of : {E : Type 0} (words asked : List (List ℕ)) (file : List ℕ) → words ≡ file ∷ asked → (found : Result Ask E) → IfOk found (λ ask. IsAsking (join_with_byte space asked) (ask_value ask)) → IfOk found (λ ask. (named : List ℕ) × AsksOf named (ask_value ask) words)
asks_of words asked file split (Ok ask) is = (file, record { asked = asked; spelled = split; is_asking = is })
asks_of words asked file split (Err fault) is = tt

pub asks_none : (words asked : List (List ℕ)) (file : List ℕ) → words ≡ file ∷ asked → ((ask : AskValue) → IsAsking (join_with_byte space asked) ask → ⊥) → (named : List ℕ) (ask : AskValue) → AsksOf named ask words → ⊥
asks_none words asked file split none named ask asks =
    let both : file ∷ asked ≡ named ∷ asks.asked = sym split ∙ asks.spelled in
    let same : asked ≡ asks.asked = cc both in
    none ask (subst (λ (l : List (List ℕ)). IsAsking (join_with_byte space l) ask) (sym same) asks.is_asking)

-- The file of a call of `recall`, and that it stands at its place among the words.
pub recall_call : (ask : Ask) (lenient : Bool) (words : List (List ℕ)) → IsCall (record { command = Recall ask; lenient = lenient }) words → (file : List ℕ) × IsRecallCall file (ask_value ask) lenient words × (file_in lenient words ≡ file)
recall_call ask lenient words is =
    let file = is.is_command.1.0 in
    let recall : IsRecallOf file (ask_value ask) lenient is.given = is.is_command.1.1 in
    let spelled : words ≡ codes "recall" ∷ is.given = is.spelled ∙ ap (λ (l : List ℕ). l ∷ is.given) is.is_command.0 in
    (file, record { given = is.given; spelled = spelled; is_recall = recall }, ap (λ (l : List (List ℕ)). file_in lenient l) spelled ∙ found lenient file is.given recall.0 recall.1 recall.2)
  where
    found : (b : Bool) (path : List ℕ) (given asked : List (List ℕ)) → IsPlain b given asked → AsksOf path (ask_value ask) asked → file_in b (codes "recall" ∷ given) ≡ path
    found true path given asked plain asks = ap (λ (l : List (List ℕ)). get_or l 1 []) (plain ∙ ap (λ (l : List (List ℕ)). codes "--lenient" ∷ l) asks.spelled)
    found false path given asked plain asks = ap (λ (l : List (List ℕ)). get_or l 0 []) (sym plain.0 ∙ asks.spelled)

-- The first and the third letter of a command's name tell the command: a name's mark is their sum.
abbrev pub mark_of : List ℕ → ℕ
mark_of first = get_or first 0 0 + get_or first 2 0

marked : (first name : List ℕ) (n : ℕ) → first ≡ name → mark_of name ≡ n → mark_of first ≡ n
marked first name n is at = ap (λ (l : List ℕ). mark_of l) is ∙ at

help_mark : (first : List ℕ) → (first ≡ codes "--help") ⊎ (first ≡ codes "-h") → mark_of first ≤ 163
help_mark first (inl is) = omega (arith, marked first (codes "--help") 149 is refl)
help_mark first (inr is) = omega (arith, marked first (codes "-h") 45 is refl)

version_mark : (first : List ℕ) → (first ≡ codes "--version") ⊎ (first ≡ codes "-V") → mark_of first ≤ 163
version_mark first (inl is) = omega (arith, marked first (codes "--version") 163 is refl)
version_mark first (inr is) = omega (arith, marked first (codes "-V") 45 is refl)

abbrev pub HasMark : Command → ℕ → Type 0
HasMark (Replay ask) n = n ≡ 226
HasMark Check n = n ≡ 200
HasMark (Serve serve) n = n ≡ 229
HasMark (Drill drill) n = n ≡ 205
HasMark Relay n = n ≡ 222
HasMark (Rov prefix) n = n ≡ 232
HasMark Archive n = n ≡ 196
HasMark (Recall ask) n = n ≡ 213
HasMark Help n = n ≤ 163
HasMark Version n = n ≤ 163

has_mark : (command : Command) (lenient : Bool) (first : List ℕ) (given : List (List ℕ)) → IsCommand command lenient first given → HasMark command (mark_of first)
has_mark (Replay ask) lenient first given is = marked first (codes "replay") 226 is.0 refl
has_mark Check lenient first given is = marked first (codes "check") 200 is.0 refl
has_mark (Serve serve) lenient first given is = marked first (codes "serve") 229 is.0 refl
has_mark (Drill drill) lenient first given is = marked first (codes "drill") 205 is.0 refl
has_mark Relay lenient first given is = marked first (codes "relay") 222 is.0 refl
has_mark (Rov prefix) lenient first given is = marked first (codes "rov") 232 is.0 refl
has_mark Archive lenient first given is = marked first (codes "archive") 196 is.0 refl
has_mark (Recall ask) lenient first given is = marked first (codes "recall") 213 is.0 refl
has_mark Help lenient first given is = help_mark first is.0
has_mark Version lenient first given is = version_mark first is.0

module _ (first : List ℕ) (given : List (List ℕ)) where
  pub no_replay : first ≡ codes "replay" → ((ask : AskValue) (lenient : Bool) → IsReplay ask lenient given → ⊥) → (command : Command) (lenient : Bool) → IsCommand command lenient first given → ⊥
  no_replay named none command lenient is = go command is (marked first (codes "replay") 226 named refl) (has_mark command lenient first given is)
    where
      go : (command : Command) → IsCommand command lenient first given → mark_of first ≡ 226 → HasMark command (mark_of first) → ⊥
      go (Replay ask) is one two = none (ask_value ask) lenient is.1
      go Check is one two = absurd (omega (arith, one, two))
      go (Serve serve) is one two = absurd (omega (arith, one, two))
      go (Drill drill) is one two = absurd (omega (arith, one, two))
      go Relay is one two = absurd (omega (arith, one, two))
      go (Rov prefix) is one two = absurd (omega (arith, one, two))
      go (Recall ask) is one two = absurd (omega (arith, one, two))
      go Archive is one two = absurd (omega (arith, one, two))
      go Help is one two = absurd (omega (arith, one, two))
      go Version is one two = absurd (omega (arith, one, two))

  pub no_serve : first ≡ codes "serve" → ((serve : ServeWords) (lenient : Bool) → IsServe serve lenient given → ⊥) → (command : Command) (lenient : Bool) → IsCommand command lenient first given → ⊥
  no_serve named none command lenient is = go command is (marked first (codes "serve") 229 named refl) (has_mark command lenient first given is)
    where
      go : (command : Command) → IsCommand command lenient first given → mark_of first ≡ 229 → HasMark command (mark_of first) → ⊥
      go (Serve serve) is one two = none serve lenient is.1
      go (Replay ask) is one two = absurd (omega (arith, one, two))
      go Check is one two = absurd (omega (arith, one, two))
      go (Drill drill) is one two = absurd (omega (arith, one, two))
      go Relay is one two = absurd (omega (arith, one, two))
      go (Rov prefix) is one two = absurd (omega (arith, one, two))
      go (Recall ask) is one two = absurd (omega (arith, one, two))
      go Archive is one two = absurd (omega (arith, one, two))
      go Help is one two = absurd (omega (arith, one, two))
      go Version is one two = absurd (omega (arith, one, two))

  pub no_check : first ≡ codes "check" → ((lenient : Bool) → IsPlain lenient given [] → ⊥) → (command : Command) (lenient : Bool) → IsCommand command lenient first given → ⊥
  no_check named none command lenient is = go command is (marked first (codes "check") 200 named refl) (has_mark command lenient first given is)
    where
      go : (command : Command) → IsCommand command lenient first given → mark_of first ≡ 200 → HasMark command (mark_of first) → ⊥
      go Check is one two = none lenient is.1
      go (Replay ask) is one two = absurd (omega (arith, one, two))
      go (Serve serve) is one two = absurd (omega (arith, one, two))
      go (Drill drill) is one two = absurd (omega (arith, one, two))
      go Relay is one two = absurd (omega (arith, one, two))
      go (Rov prefix) is one two = absurd (omega (arith, one, two))
      go (Recall ask) is one two = absurd (omega (arith, one, two))
      go Archive is one two = absurd (omega (arith, one, two))
      go Help is one two = absurd (omega (arith, one, two))
      go Version is one two = absurd (omega (arith, one, two))

  pub no_relay : first ≡ codes "relay" → ((lenient : Bool) → IsPlain lenient given [] → ⊥) → (command : Command) (lenient : Bool) → IsCommand command lenient first given → ⊥
  no_relay named none command lenient is = go command is (marked first (codes "relay") 222 named refl) (has_mark command lenient first given is)
    where
      go : (command : Command) → IsCommand command lenient first given → mark_of first ≡ 222 → HasMark command (mark_of first) → ⊥
      go Relay is one two = none lenient is.1
      go (Replay ask) is one two = absurd (omega (arith, one, two))
      go Check is one two = absurd (omega (arith, one, two))
      go (Serve serve) is one two = absurd (omega (arith, one, two))
      go (Drill drill) is one two = absurd (omega (arith, one, two))
      go (Rov prefix) is one two = absurd (omega (arith, one, two))
      go (Recall ask) is one two = absurd (omega (arith, one, two))
      go Archive is one two = absurd (omega (arith, one, two))
      go Help is one two = absurd (omega (arith, one, two))
      go Version is one two = absurd (omega (arith, one, two))

  pub no_rov : first ≡ codes "rov" → ((prefix : PrefixValue) (lenient : Bool) → IsRov prefix lenient given → ⊥) → (command : Command) (lenient : Bool) → IsCommand command lenient first given → ⊥
  no_rov named none command lenient is = go command is (marked first (codes "rov") 232 named refl) (has_mark command lenient first given is)
    where
      go : (command : Command) → IsCommand command lenient first given → mark_of first ≡ 232 → HasMark command (mark_of first) → ⊥
      go (Rov prefix) is one two = none prefix lenient is.1
      go (Replay ask) is one two = absurd (omega (arith, one, two))
      go Check is one two = absurd (omega (arith, one, two))
      go (Serve serve) is one two = absurd (omega (arith, one, two))
      go (Drill drill) is one two = absurd (omega (arith, one, two))
      go Relay is one two = absurd (omega (arith, one, two))
      go (Recall ask) is one two = absurd (omega (arith, one, two))
      go Archive is one two = absurd (omega (arith, one, two))
      go Help is one two = absurd (omega (arith, one, two))
      go Version is one two = absurd (omega (arith, one, two))

  pub no_archive : first ≡ codes "archive" → ((lenient : Bool) → IsArchive lenient given → ⊥) → (command : Command) (lenient : Bool) → IsCommand command lenient first given → ⊥
  no_archive named none command lenient is = go command is (marked first (codes "archive") 196 named refl) (has_mark command lenient first given is)
    where
      go : (command : Command) → IsCommand command lenient first given → mark_of first ≡ 196 → HasMark command (mark_of first) → ⊥
      go Archive is one two = none lenient is.1
      go (Replay ask) is one two = absurd (omega (arith, one, two))
      go Check is one two = absurd (omega (arith, one, two))
      go (Serve serve) is one two = absurd (omega (arith, one, two))
      go (Drill drill) is one two = absurd (omega (arith, one, two))
      go Relay is one two = absurd (omega (arith, one, two))
      go (Rov prefix) is one two = absurd (omega (arith, one, two))
      go (Recall ask) is one two = absurd (omega (arith, one, two))
      go Help is one two = absurd (omega (arith, one, two))
      go Version is one two = absurd (omega (arith, one, two))

  pub no_recall : first ≡ codes "recall" → ((ask : AskValue) (lenient : Bool) → IsRecall ask lenient given → ⊥) → (command : Command) (lenient : Bool) → IsCommand command lenient first given → ⊥
  no_recall named none command lenient is = go command is (marked first (codes "recall") 213 named refl) (has_mark command lenient first given is)
    where
      go : (command : Command) → IsCommand command lenient first given → mark_of first ≡ 213 → HasMark command (mark_of first) → ⊥
      go (Recall ask) is one two = none (ask_value ask) lenient is.1
      go (Replay ask) is one two = absurd (omega (arith, one, two))
      go Check is one two = absurd (omega (arith, one, two))
      go (Serve serve) is one two = absurd (omega (arith, one, two))
      go (Drill drill) is one two = absurd (omega (arith, one, two))
      go Relay is one two = absurd (omega (arith, one, two))
      go (Rov prefix) is one two = absurd (omega (arith, one, two))
      go Archive is one two = absurd (omega (arith, one, two))
      go Help is one two = absurd (omega (arith, one, two))
      go Version is one two = absurd (omega (arith, one, two))

  pub no_drill : first ≡ codes "drill" → ((drill : DrillWords) → IsDrill drill given → ⊥) → (command : Command) (lenient : Bool) → IsCommand command lenient first given → ⊥
  no_drill named none command lenient is = go command is (marked first (codes "drill") 205 named refl) (has_mark command lenient first given is)
    where
      go : (command : Command) → IsCommand command lenient first given → mark_of first ≡ 205 → HasMark command (mark_of first) → ⊥
      go (Drill drill) is one two = none drill is.1
      go (Replay ask) is one two = absurd (omega (arith, one, two))
      go Check is one two = absurd (omega (arith, one, two))
      go (Serve serve) is one two = absurd (omega (arith, one, two))
      go Relay is one two = absurd (omega (arith, one, two))
      go (Rov prefix) is one two = absurd (omega (arith, one, two))
      go (Recall ask) is one two = absurd (omega (arith, one, two))
      go Archive is one two = absurd (omega (arith, one, two))
      go Help is one two = absurd (omega (arith, one, two))
      go Version is one two = absurd (omega (arith, one, two))

  -- `--help` and `--version` stand alone
  no_lone : mark_of first ≤ 163 → given ≢ [] → (command : Command) (lenient : Bool) → IsCommand command lenient first given → ⊥
  no_lone low some command lenient is = go command is (has_mark command lenient first given is)
    where
      go : (command : Command) → IsCommand command lenient first given → HasMark command (mark_of first) → ⊥
      go Help is two = some is.1
      go Version is two = some is.1
      go (Replay ask) is two = absurd (omega (arith, low, two))
      go Check is two = absurd (omega (arith, low, two))
      go (Serve serve) is two = absurd (omega (arith, low, two))
      go (Drill drill) is two = absurd (omega (arith, low, two))
      go Relay is two = absurd (omega (arith, low, two))
      go (Rov prefix) is two = absurd (omega (arith, low, two))
      go Archive is two = absurd (omega (arith, low, two))
      go (Recall ask) is two = absurd (omega (arith, low, two))

  pub no_help : (first ≡ codes "--help") ⊎ (first ≡ codes "-h") → given ≢ [] → (command : Command) (lenient : Bool) → IsCommand command lenient first given → ⊥
  no_help named = no_lone (help_mark first named)

  pub no_version : (first ≡ codes "--version") ⊎ (first ≡ codes "-V") → given ≢ [] → (command : Command) (lenient : Bool) → IsCommand command lenient first given → ⊥
  no_version named = no_lone (version_mark first named)

  -- no other command is left
  module _ (replay : first ≢ codes "replay") (serve : first ≢ codes "serve") (check : first ≢ codes "check") (drill : first ≢ codes "drill") (relay : first ≢ codes "relay") (rov : first ≢ codes "rov") (archive : first ≢ codes "archive") (recall : first ≢ codes "recall") where
    pub no_other : ((first ≡ codes "--help") ⊎ (first ≡ codes "-h") → ⊥) → ((first ≡ codes "--version") ⊎ (first ≡ codes "-V") → ⊥) → (command : Command) (lenient : Bool) → IsCommand command lenient first given → ⊥
    no_other help version (Replay ask) lenient is = replay is.0
    no_other help version Check lenient is = check is.0
    no_other help version (Serve words) lenient is = serve is.0
    no_other help version (Drill words) lenient is = drill is.0
    no_other help version Relay lenient is = relay is.0
    no_other help version (Rov prefix) lenient is = rov is.0
    no_other help version Archive lenient is = archive is.0
    no_other help version (Recall ask) lenient is = recall is.0
    no_other help version Help lenient is = help is.0
    no_other help version Version lenient is = version is.0
