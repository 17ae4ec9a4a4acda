-- Words are one call at most: its command with what it is asked with, and its reading.
use Rattle.std.proofs.Common.{◌≡◌, ℕ, Bool, true, false, cond, List, [], ◌∷◌, Option, None, Some, codes, inl, inr, refl, sym, ap, ◌∙◌, subst, arith}
use Rattle.std.specs.List.{join_with_byte}
use Rattle.std.specs.Option.{option_map}
use Rattle.std.specs.Str.{bytes_eq}
use Rattle.ask_specs.specs.Asking.{AskValue, plain as plain_query, rows, steps, full_marks, full_routers}
use Rattle.ask_specs.specs.Offer.{IsOfferedAsk}
use Rattle.ask_specs.specs.Traits.{CommunityValue, TraitsValue, plain as short, large, extended}
use Rattle.ask_specs.proofs.OfferLaws.{offers_one}
use Rattle.bmp_specs.specs.AddressText.{IsAddressText}
use Rattle.bmp_specs.specs.NumberText.{IsNumberText}
use Rattle.bmp_specs.specs.PrefixText.{IsPrefixText}
use Rattle.bmp_specs.specs.Query.{QueryValue, routers, cut, peers, marks, table, count, exact, longest, within, origin, stats, changes, quit, space}
use Rattle.bmp_specs.specs.Selection.{select_all}
use Rattle.bmp_specs.specs.Values.{AddressValue, PrefixValue}
use Rattle.ip_prefix.proofs.OneValue.{address_one, prefix_one}
use Rattle.query_lang.specs.Asks.{ask_value, row_query_value}
use Rattle.query_lang.specs.Queries.{query_value}
use Rattle.query_lang.specs.declared.ask.Ask.{Ask}
use Rattle.query_lang.specs.declared.ask.Ask.TheVariants.{Query as Asked, Rows as AsRows, Count as AsCount, Changes as FurtherChanges, FullMarks as AsFullMarks, FullRouters as AsFullRouters}
use Rattle.query_lang.specs.declared.ask.RowQuery.{RowQuery}
use Rattle.query_lang.specs.declared.ask.RowQuery.TheVariants.{Table as ByTable, Exact as ByExact, Longest as ByLongest, Within as ByWithin, Origin as ByOrigin}
use Rattle.query_lang.specs.declared.query.Query.{Query}
use Rattle.query_lang.specs.declared.query.Query.TheVariants.{Routers, Cut, Peers, Marks, Table, Count, Exact, Longest, Within, Origin, Stats, Changes, Quit}
use Rattle.query_lang.specs.declared.traits.Community.{Community}
use Rattle.query_lang.specs.declared.traits.Community.TheVariants.{Plain, Large, Extended}
use Rattle.query_lang.specs.declared.traits.Traits.{Traits}
use Rattle.query_lang.specs.TraitValues.{community_value, traits_value}
use Rattle.query_lang.proofs.OneNumber.{number_one}
use Rattle.station_doors.specs.declared.listening.Log.{Log}
use Rattle.station_doors.specs.declared.listening.Log.TheVariants.{Routers as OfRouters}
use Rattle.station_words.specs.DrillWords.{IsDrill}
use Rattle.station_words.specs.ServeWords.{ArePorts, Gives, IsAllowed, IsLog, IsPorts, IsRounds, IsSeconds, IsServe, MayGive, Setting, flag, forever, loopback, usually_shared}
use Rattle.station_words.specs.Words.{IsArchive, IsCall, IsCommand, IsRecall, IsReplay, IsRov}
use Rattle.station_words.specs.declared.drill_words.DrillWords.{DrillWords}
use Rattle.station_words.specs.declared.serve_words.ServeWords.{ServeWords}
use Rattle.station_words.specs.declared.words.Call.{Call}
use Rattle.station_words.specs.declared.words.Command.{Command}
use Rattle.station_words.specs.declared.words.Command.TheVariants.{Replay, Check, Serve, Drill, Relay, Rov, Archive, Recall, Help, Version}
use Rattle.station_words.proofs.AllowedText.{one_allowed}
use Rattle.station_words.proofs.Commands.{same_plain}
use Rattle.station_words.proofs.Settings.{one_log, one_ports, one_rounds, one_time, same_settings}

-- ---- what is asked
-- A value is one ask at most.
query_at : QueryValue → Query
query_at routers = Routers
query_at cut = Cut
query_at (peers router peer) = Peers router peer
query_at (marks select) = Marks select
query_at (table select) = Table select
query_at (count select) = Count select
query_at (exact prefix select) = Exact prefix select
query_at (longest address select) = Longest address select
query_at (within prefix select) = Within prefix select
query_at (origin number select) = Origin number select
query_at (stats key) = Stats key
query_at (changes lane from prefix) = Changes lane from prefix
query_at quit = Quit

query_back : (q : Query) → query_at (query_value q) ≡ q
unfolding query_at
query_back Routers = refl
query_back Cut = refl
query_back (Peers router peer) = refl
query_back (Marks select) = refl
query_back (Table select) = refl
query_back (Count select) = refl
query_back (Exact prefix select) = refl
query_back (Longest address select) = refl
query_back (Within prefix select) = refl
query_back (Origin number select) = refl
query_back (Stats key) = refl
query_back (Changes lane from prefix) = refl
query_back Quit = refl

-- of a query that tells no rows it is any
rows_at : QueryValue → RowQuery
rows_at (table select) = ByTable select
rows_at (exact prefix select) = ByExact prefix select
rows_at (longest address select) = ByLongest address select
rows_at (within prefix select) = ByWithin prefix select
rows_at (origin number select) = ByOrigin number select
rows_at query = ByTable select_all

community_at : CommunityValue → Community
community_at (short number) = Plain number
community_at (large a b c) = Large a b c
community_at (extended octets) = Extended octets

community_back : (c : Option Community) → option_map community_at (option_map community_value c) ≡ c
unfolding community_at
community_back None = refl
community_back (Some (Plain number)) = refl
community_back (Some (Large a b c)) = refl
community_back (Some (Extended octets)) = refl

traits_at : TraitsValue → Traits
traits_at t = record { through = t.through; community = option_map community_at t.community; other = t.other }

traits_back : (t : Traits) → traits_at (traits_value t) ≡ t
unfolding traits_at
traits_back t = ap (λ (c : Option Community). record { through = t.through; community = c; other = t.other }) (community_back t.community)

rows_ask_at : Bool → Bool → RowQuery → TraitsValue → Ask
rows_ask_at with_steps full query traits = AsRows (record { steps = with_steps; full = full; query = query; traits = traits_at traits })

ask_at : AskValue → Ask
ask_at (plain_query query) = Asked (query_at query)
ask_at (rows with_steps full (count select) traits) = AsCount select (traits_at traits)
ask_at (rows with_steps full query traits) = rows_ask_at with_steps full (rows_at query) traits
ask_at (steps full lane from prefix) = FurtherChanges full lane from prefix
ask_at (full_marks select) = AsFullMarks select
ask_at full_routers = AsFullRouters

rows_ask_back : (with_steps full : Bool) (query : RowQuery) (t : Traits) → ask_at (rows with_steps full (row_query_value query) (traits_value t)) ≡ AsRows (record { steps = with_steps; full = full; query = query; traits = t })
unfolding ask_at rows_ask_at rows_at
rows_ask_back s f (ByTable select) t = ap (λ (u : Traits). AsRows (record { steps = s; full = f; query = ByTable select; traits = u })) (traits_back t)
rows_ask_back s f (ByExact prefix select) t = ap (λ (u : Traits). AsRows (record { steps = s; full = f; query = ByExact prefix select; traits = u })) (traits_back t)
rows_ask_back s f (ByLongest address select) t = ap (λ (u : Traits). AsRows (record { steps = s; full = f; query = ByLongest address select; traits = u })) (traits_back t)
rows_ask_back s f (ByWithin prefix select) t = ap (λ (u : Traits). AsRows (record { steps = s; full = f; query = ByWithin prefix select; traits = u })) (traits_back t)
rows_ask_back s f (ByOrigin number select) t = ap (λ (u : Traits). AsRows (record { steps = s; full = f; query = ByOrigin number select; traits = u })) (traits_back t)

ask_back : (a : Ask) → ask_at (ask_value a) ≡ a
unfolding ask_at
ask_back (Asked query) = ap (λ (q : Query). Asked q) (query_back query)
ask_back (AsRows ask) = rows_ask_back ask.steps ask.full ask.query ask.traits
ask_back (AsCount select traits) = ap (λ (t : Traits). AsCount select t) (traits_back traits)
ask_back (FurtherChanges full lane from prefix) = refl
ask_back (AsFullMarks select) = refl
ask_back AsFullRouters = refl

same_ask : (a b : Ask) → ask_value a ≡ ask_value b → a ≡ b
same_ask a b same = sym (ask_back a) ∙ ap ask_at same ∙ ask_back b

-- ---- the settings of `serve`
gives_one : {A : Type 0} (name : List ℕ) (Is : A → List ℕ → Type 0) → ((value : List ℕ) (a b : A) → Is a value → Is b value → a ≡ b) → (ss : List Setting) (a b : A) → Gives name (Is a) ss → Gives name (Is b) ss → a ≡ b
gives_one name Is one ss a b (v, has, is) (w, has', is') =
    let both : v ∷ [] ≡ w ∷ [] = sym has ∙ has' in
    let same : v ≡ w = cc in
    one w a b (subst (Is a) same is) is'

may_one : {A : Type 0} (name : List ℕ) (Is : A → List ℕ → Type 0) (Else : A → Type 0) → ((value : List ℕ) (a b : A) → Is a value → Is b value → a ≡ b) → ((a b : A) → Else a → Else b → a ≡ b) → (ss : List Setting) (a b : A)
    → MayGive name (Is a) (Else a) ss → MayGive name (Is b) (Else b) ss → a ≡ b
may_one name Is Else one other ss a b (inl p) (inl q) = gives_one name Is one ss a b p q
may_one name Is Else one other ss a b (inl (v, has, is)) (inr (none, q)) = let both : v ∷ [] ≡ [] = sym has ∙ none in absurd cc
may_one name Is Else one other ss a b (inr (none, p)) (inl (v, has, is)) = let both : v ∷ [] ≡ [] = sym has ∙ none in absurd cc
may_one name Is Else one other ss a b (inr (none, p)) (inr (none', q)) = other a b p q

same_else : {A : Type 0} (value a b : A) → a ≡ value → b ≡ value → a ≡ b
same_else value a b p q = p ∙ sym q

serve_one : (given : List (List ℕ)) (a b : ServeWords) (l m : Bool) → IsServe a l given → IsServe b m given → (a ≡ b) × (l ≡ m)
serve_one given a b l m p q =
    let ss = p.settings in
    let back = same_settings q.settings ss given q.are_settings p.are_settings in
    let number : (value : List ℕ) (x y : ℕ) → IsNumberText value x → IsNumberText value y → x ≡ y = number_one in
    let feeds = may_one (codes "--feeds") (λ (n : ℕ) value. IsNumberText value n) (λ (n : ℕ). n ≡ 64) number (same_else 64) ss a.at.feeds b.at.feeds p.feeds
    (subst (MayGive (codes "--feeds") (λ value. IsNumberText value b.at.feeds) (b.at.feeds ≡ 64)) back q.feeds) in
    let askers = may_one (codes "--askers") (λ (n : ℕ) value. IsNumberText value n) (λ (n : ℕ). n ≡ 16) number (same_else 16) ss a.at.askers b.at.askers p.askers
    (subst (MayGive (codes "--askers") (λ value. IsNumberText value b.at.askers) (b.at.askers ≡ 16)) back q.askers) in
    let feed_port = may_one (codes "--feed-port") (λ (n : ℕ) value. IsNumberText value n) (λ (n : ℕ). n ≡ 11019) number (same_else 11019) ss a.at.feed_port b.at.feed_port p.feed_port
    (subst (MayGive (codes "--feed-port") (λ value. IsNumberText value b.at.feed_port) (b.at.feed_port ≡ 11019)) back q.feed_port) in
    let ask_port = may_one (codes "--ask-port") (λ (n : ℕ) value. IsNumberText value n) (λ (n : ℕ). n ≡ 11120) number (same_else 11120) ss a.at.ask_port b.at.ask_port p.ask_port
    (subst (MayGive (codes "--ask-port") (λ value. IsNumberText value b.at.ask_port) (b.at.ask_port ≡ 11120)) back q.ask_port) in
    let rounds = may_one (codes "--rounds") (λ (n : ℕ) value. IsRounds value n) (λ (n : ℕ). n ≡ forever) (λ value x y i j. one_rounds value (Some y) j x i) (same_else forever) ss a.rounds b.rounds p.rounds
    (subst (MayGive (codes "--rounds") (λ value. IsRounds value b.rounds) (b.rounds ≡ forever)) back q.rounds) in
    let address = may_one (codes "--address") (λ (x : AddressValue) value. IsAddressText value x) (λ (x : AddressValue). x ≡ loopback) address_one (same_else loopback) ss a.at.address b.at.address p.address
    (subst (MayGive (codes "--address") (λ value. IsAddressText value b.at.address) (b.at.address ≡ loopback)) back q.address) in
    let ask_address = may_one (codes "--ask-address") (λ (x : AddressValue) value. IsAddressText value x) (λ (x : AddressValue). x ≡ b.at.address) address_one (same_else b.at.address) ss a.at.ask_address b.at.ask_address
    (subst (λ (x : AddressValue). MayGive (codes "--ask-address") (λ value. IsAddressText value a.at.ask_address) (a.at.ask_address ≡ x) ss) address p.ask_address)
    (subst (MayGive (codes "--ask-address") (λ value. IsAddressText value b.at.ask_address) (b.at.ask_address ≡ b.at.address)) back q.ask_address) in
    let ports = may_one (codes "--ports") (λ (x : Bool) value. IsPorts value x) (λ (x : Bool). x ≡ usually_shared ss) (λ value x y i j. one_ports value (Some y) j x i) (same_else (usually_shared ss)) ss a.at.shared b.at.shared p.ports
    (subst (ArePorts b.at.shared) back q.ports) in
    let idle = may_one (codes "--idle") (λ (x : Option ℕ) value. IsSeconds value x) (λ (x : Option ℕ). x ≡ None) (λ value x y i j. one_time value (Some y) j x i) (same_else None) ss a.at.idle b.at.idle p.idle
    (subst (MayGive (codes "--idle") (λ value. IsSeconds value b.at.idle) (b.at.idle ≡ None)) back q.idle) in
    let ask_idle = may_one (codes "--ask-idle") (λ (x : Option ℕ) value. IsSeconds value x) (λ (x : Option ℕ). x ≡ None) (λ value x y i j. one_time value (Some y) j x i) (same_else None) ss a.at.ask_idle b.at.ask_idle p.ask_idle
    (subst (MayGive (codes "--ask-idle") (λ value. IsSeconds value b.at.ask_idle) (b.at.ask_idle ≡ None)) back q.ask_idle) in
    let log = may_one (codes "--log") (λ (x : Log) value. IsLog value x) (λ (x : Log). x ≡ OfRouters) (λ value x y i j. one_log value (Some y) j x i) (same_else OfRouters) ss a.at.log b.at.log p.log
    (subst (MayGive (codes "--log") (λ value. IsLog value b.at.log) (b.at.log ≡ OfRouters)) back q.log) in
    let feed_from = may_one (codes "--feed-from") (λ (x : List PrefixValue) value. IsAllowed value x) (λ (x : List PrefixValue). x ≡ []) (λ value x y i j. one_allowed value (Some y) j x i) (same_else []) ss a.at.feed_from b.at.feed_from p.feed_from
    (subst (MayGive (codes "--feed-from") (λ value. IsAllowed value b.at.feed_from) (b.at.feed_from ≡ [])) back q.feed_from) in
    let ask_from = may_one (codes "--ask-from") (λ (x : List PrefixValue) value. IsAllowed value x) (λ (x : List PrefixValue). x ≡ []) (λ value x y i j. one_allowed value (Some y) j x i) (same_else []) ss a.at.ask_from b.at.ask_from p.ask_from
    (subst (MayGive (codes "--ask-from") (λ value. IsAllowed value b.at.ask_from) (b.at.ask_from ≡ [])) back q.ask_from) in
    let lenient = may_one flag (λ (x : Bool) value. x ≡ true) (λ (x : Bool). x ≡ false) (λ value x y i j. i ∙ sym j) (same_else false) ss l m p.flagged (subst (MayGive flag (λ value. m ≡ true) (m ≡ false)) back q.flagged) in (
      λ i. record {
        at = record { address = address i; ask_address = ask_address i; feeds = feeds i; askers = askers i; feed_port = feed_port i; ask_port = ask_port i; shared = ports i; idle = idle i; ask_idle = ask_idle i; log = log i; feed_from = feed_from i; ask_from = ask_from i };
        rounds = rounds i;
      },
      lenient,
    )

-- ---- the words of the other commands
drill_one : (given : List (List ℕ)) (a b : DrillWords) → IsDrill a given → IsDrill b given → a ≡ b
drill_one given a b p q =
    let both : p.seed ∷ p.lanes ∷ p.messages ∷ [] ≡ q.seed ∷ q.lanes ∷ q.messages ∷ [] = sym p.spelled ∙ q.spelled in
    let x : p.seed ≡ q.seed = cc in
    let y : p.lanes ≡ q.lanes = cc in
    let z : p.messages ≡ q.messages = cc in
    let seed = number_one q.seed a.seed b.seed (subst (λ (l : List ℕ). IsNumberText l a.seed) x p.is_seed) q.is_seed in
    let lanes = number_one q.lanes a.lanes b.lanes (subst (λ (l : List ℕ). IsNumberText l a.lanes) y p.is_lanes) q.is_lanes in
    let messages = number_one q.messages a.messages b.messages (subst (λ (l : List ℕ). IsNumberText l a.messages) z p.is_messages) q.is_messages in
    λ i. record { seed = seed i; lanes = lanes i; messages = messages i }

replay_one : (given : List (List ℕ)) (a b : AskValue) (l m : Bool) → IsReplay a l given → IsReplay b m given → (a ≡ b) × (l ≡ m)
replay_one given a b l m (asked, plain, asks) (more, also, asks') =
    let same = same_plain l m given asked more plain also in
    let here = subst (λ (words : List (List ℕ)). IsOfferedAsk (join_with_byte space words) a) same.0 asks.is_offered in
    (offers_one (join_with_byte space more) a b here asks'.is_offered, same.1)

rov_one : (given : List (List ℕ)) (a b : PrefixValue) (l m : Bool) → IsRov a l given → IsRov b m given → (a ≡ b) × (l ≡ m)
rov_one given a b l m (file, (asked, plain, names)) (file', (more, also, names')) =
    let same = same_plain l m given asked more plain also in
    let both : file ∷ names.text ∷ [] ≡ file' ∷ names'.text ∷ [] = sym names.spelled ∙ same.0 ∙ names'.spelled in
    let text : names.text ≡ names'.text = cc both in
    (prefix_one names'.text a b (subst (λ (t : List ℕ). IsPrefixText t a) text names.is_prefix) names'.is_prefix, same.1)

archive_one : (given : List (List ℕ)) (l m : Bool) → IsArchive l given → IsArchive m given → l ≡ m
archive_one given l m (file, plain) (file', also) = (same_plain l m given (file ∷ []) (file' ∷ []) plain also).1

recall_one : (given : List (List ℕ)) (a b : AskValue) (l m : Bool) → IsRecall a l given → IsRecall b m given → (a ≡ b) × (l ≡ m)
recall_one given a b l m (file, (asked, plain, asks)) (file', (more, also, asks')) =
    let same = same_plain l m given asked more plain also in
    let both : file ∷ asks.asked ≡ file' ∷ asks'.asked = sym asks.spelled ∙ same.0 ∙ asks'.spelled in
    let words : asks.asked ≡ asks'.asked = cc both in
    let here = subst (λ (ws : List (List ℕ)). IsOfferedAsk (join_with_byte space ws) a) words asks.is_asking.is_offered in
    (offers_one (join_with_byte space asks'.asked) a b here asks'.is_asking.is_offered, same.1)

-- ---- the first word
abbrev pub number_of : Command → ℕ
number_of (Replay ask) = 0
number_of Check = 1
number_of (Serve serve) = 2
number_of (Drill drill) = 3
number_of Relay = 4
number_of (Rov prefix) = 5
number_of Archive = 6
number_of (Recall ask) = 7
number_of Help = 8
number_of Version = 9

-- the number of the command that a first word names
pub number_in : List ℕ → ℕ
number_in first =
    cond (bytes_eq first (codes "replay")) 0
    (cond (bytes_eq first (codes "check")) 1
    (cond (bytes_eq first (codes "serve")) 2
    (cond (bytes_eq first (codes "drill")) 3
    (cond (bytes_eq first (codes "relay")) 4
    (cond (bytes_eq first (codes "rov")) 5
    (cond (bytes_eq first (codes "archive")) 6
    (cond (bytes_eq first (codes "recall")) 7
    (cond (bytes_eq first (codes "--help")) 8
    (cond (bytes_eq first (codes "-h")) 8 9)))))))))

pub named : (c : Command) (lenient : Bool) (first : List ℕ) (given : List (List ℕ)) → IsCommand c lenient first given → number_in first ≡ number_of c
unfolding number_in
named (Replay ask) lenient first given is = ap number_in is.0
named Check lenient first given is = ap number_in is.0
named (Serve serve) lenient first given is = ap number_in is.0
named (Drill drill) lenient first given is = ap number_in is.0
named Relay lenient first given is = ap number_in is.0
named (Rov prefix) lenient first given is = ap number_in is.0
named Archive lenient first given is = ap number_in is.0
named (Recall ask) lenient first given is = ap number_in is.0
named Help lenient first given (inl first_is, none, strict) = ap number_in first_is
named Help lenient first given (inr first_is, none, strict) = ap number_in first_is
named Version lenient first given (inl first_is, none, strict) = ap number_in first_is
named Version lenient first given (inr first_is, none, strict) = ap number_in first_is

pub replay_is : number_in (codes "replay") ≡ 0
unfolding number_in
replay_is = refl

pub recall_is : number_in (codes "recall") ≡ 7
unfolding number_in
recall_is = refl

-- ---- the call
command_one : (a b : Command) (l m : Bool) (first : List ℕ) (given : List (List ℕ)) → number_of a ≡ number_of b → IsCommand a l first given → IsCommand b m first given → (a ≡ b) × (l ≡ m)
command_one (Replay q) (Replay r) l m first given e p k = let same = replay_one given (ask_value q) (ask_value r) l m p.1 k.1 in (ap (λ (x : Ask). Replay x) (same_ask q r same.0), same.1)
command_one Check Check l m first given e p k = (refl, (same_plain l m given [] [] p.1 k.1).1)
command_one (Serve s) (Serve t) l m first given e p k = let same = serve_one given s t l m p.1 k.1 in (ap (λ (x : ServeWords). Serve x) same.0, same.1)
command_one (Drill s) (Drill t) l m first given e p k = (ap (λ (x : DrillWords). Drill x) (drill_one given s t p.1 k.1), p.2 ∙ sym k.2)
command_one Relay Relay l m first given e p k = (refl, (same_plain l m given [] [] p.1 k.1).1)
command_one (Rov s) (Rov t) l m first given e p k = let same = rov_one given s t l m p.1 k.1 in (ap (λ (x : PrefixValue). Rov x) same.0, same.1)
command_one Archive Archive l m first given e p k = (refl, archive_one given l m p.1 k.1)
command_one (Recall q) (Recall r) l m first given e p k = let same = recall_one given (ask_value q) (ask_value r) l m p.1 k.1 in (ap (λ (x : Ask). Recall x) (same_ask q r same.0), same.1)
command_one Help Help l m first given e p k = (refl, p.2 ∙ sym k.2)
command_one Version Version l m first given e p k = (refl, p.2 ∙ sym k.2)
command_one a b l m first given e p k = absurd (omega (arith, e))

-- Words that are a call are no other call: the command, what it is asked with and the reading are one.
one_call : (a b : Call) (words : List (List ℕ)) → IsCall a words → IsCall b words → a ≡ b
one_call a b words p q =
    let both : p.first ∷ p.given ≡ q.first ∷ q.given = sym p.spelled ∙ q.spelled in
    let first : p.first ≡ q.first = cc in
    let given : p.given ≡ q.given = cc in
    let here = subst (λ (w : List ℕ). IsCommand a.command a.lenient w q.given) first (subst (λ (ws : List (List ℕ)). IsCommand a.command a.lenient p.first ws) given p.is_command) in
    let number = sym (named a.command a.lenient q.first q.given here) ∙ named b.command b.lenient q.first q.given q.is_command in
    let same = command_one a.command b.command a.lenient b.lenient q.first q.given number here q.is_command in
    λ i. record { command = same.0 i; lenient = same.1 i }
