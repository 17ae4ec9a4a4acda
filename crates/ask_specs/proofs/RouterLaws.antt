-- A line of `full routers` begins with that of a plain `routers`.
use Rattle.std.proofs.Common.{◌≡◌, ℕ, ◌-◌, List, [], ◌∷◌, ◌++◌, length, take, Option, None, refl, sym, ap, subst, ◌∙◌, append_assoc}
use Rattle.std.specs.Prelude.{codes, flat_map}
use Rattle.bmp_specs.specs.declared.causes.Cause.{Cause}
use Rattle.bmp_specs.specs.Counts.{CountsValue, counts_of}
use Rattle.bmp_specs.specs.Lines.{further, line, cause_fields}
use Rattle.bmp_specs.specs.Listed.{AreAll}
use Rattle.bmp_specs.specs.NumberText.{number_text}
use Rattle.bmp_specs.specs.Openings.{nothing_told}
use Rattle.bmp_specs.specs.Orders.{key_cmp}
use Rattle.bmp_specs.specs.PeerLines.{live_line, named_field}
use Rattle.bmp_specs.specs.PeerUp.{IsUp}
use Rattle.bmp_specs.specs.QueryReply.{IsRouterLine}
use Rattle.bmp_specs.specs.Reply.{told_count}
use Rattle.bmp_specs.specs.RouteLine.{text_or_absent}
use Rattle.bmp_specs.specs.Session.{LaneStateValue, idle, live, shut, description_of, effects_in, name_of, session_effects, session_messages, state_of}
use Rattle.bmp_specs.specs.Values.{EffectValue, EntryValue, OpeningValue}
use Rattle.ask_specs.specs.Connection.{last_effects, last_messages}
use Rattle.ask_specs.specs.FullRouters.{BeginsWithRouter, ConnectionValue, IsLastConnection, behind_fields, counted_fields, endpoint_text, full_router_line, opening_fields, passed_fields, plain_router_line, with_fields}
use Rattle.ask_specs.proofs.FullOne.{body, ended, goes_on, without_end}
use Rattle.ask_specs.proofs.LastOne.{last_counts_present, last_is_present}

-- ---- further fields behind a line
goes_behind : (word : List ℕ) (fs : List (List ℕ)) (g : List ℕ) (gs : List (List ℕ)) → line word (fs ++ g ∷ gs) ≡ with_fields (line word fs) (g ∷ gs)
goes_behind word fs g gs =
    let plain_is : line word fs ≡ (word ++ body fs) ++ 10 ∷ [] = ap (λ (l : List ℕ). word ++ l) (ended fs) ∙ sym (append_assoc word (body fs) (10 ∷ [])) in
    let front : take (length (line word fs) - 1) (line word fs) ≡ word ++ body fs = ap (λ (l : List ℕ). take (length l - 1) l) plain_is ∙ without_end (word ++ body fs) in
    ap (λ (l : List ℕ). word ++ l) (goes_on fs g gs) ∙ sym (append_assoc word (body fs) (further (g ∷ gs))) ∙ ap (λ (l : List ℕ). l ++ further (g ∷ gs)) (sym front)

opening_behind : (word : List ℕ) (fs : List (List ℕ)) (came : OpeningValue) (until : Option ℕ) (gs : List (List ℕ)) → line word (fs ++ (opening_fields came until ++ gs)) ≡ with_fields (line word fs) (opening_fields came until ++ gs)
opening_behind word fs came until gs = goes_behind word fs
    (named_field (codes "from") (text_or_absent endpoint_text came.from))
    (named_field (codes "since") (text_or_absent number_text came.since) ∷ named_field (codes "until") (text_or_absent number_text until) ∷ gs)

begins : (lane : ℕ) (state : LaneStateValue) (c : ConnectionValue) → full_router_line lane state c ≡ with_fields (plain_router_line lane state c) (behind_fields state c)
begins lane idle c = opening_behind (codes "router") (number_text lane ∷ codes "idle" ∷ []) nothing_told None []
begins lane live c = opening_behind (codes "router") (number_text lane ∷ codes "live" ∷ counted_fields c.up c.counts c.name c.descr) c.came None (passed_fields c.passed)
begins lane (shut cause) c = opening_behind (codes "router") (number_text lane ∷ codes "closed" ∷ cause_fields cause) c.came c.until (counted_fields c.up c.counts c.name c.descr ++ passed_fields c.passed)

-- ---- the plain line
live_is_plain : (lane : ℕ) (entries : List EntryValue) (c : ConnectionValue) → last_messages entries ≡ session_messages entries → IsLastConnection entries c → IsRouterLine lane entries live (plain_router_line lane live c)
live_is_plain lane entries c same l =
    let effects : last_effects entries ≡ session_effects entries = ap (λ (m : List EntryValue). flat_map effects_in m) same in
    let counts : c.counts ≡ counts_of entries = l.counts_are ∙ last_counts_present entries same in
    let name : c.name ≡ name_of (session_effects entries) = l.name_is ∙ ap (λ (e : List EffectValue). name_of e) effects in
    let descr : c.descr ≡ description_of (session_effects entries) = l.descr_is ∙ ap (λ (e : List EffectValue). description_of e) effects in (
      l.known,
      subst (λ (e : List EffectValue). AreAll (λ key. key) key_cmp (IsUp e) l.known) effects l.are_up,
      ap (λ (n : ℕ). live_line lane n c.counts c.name c.descr) l.up_is
          ∙ ap (λ (n : CountsValue). live_line lane (told_count (length l.known)) n c.name c.descr) counts
          ∙ ap (λ (n : List ℕ). live_line lane (told_count (length l.known)) (counts_of entries) n c.descr) name
          ∙ ap (λ (n : List ℕ). live_line lane (told_count (length l.known)) (counts_of entries) (name_of (session_effects entries)) n) descr,
    )

is_plain : (lane : ℕ) (entries : List EntryValue) (c : ConnectionValue) (state : LaneStateValue) → state_of entries ≡ state → IsLastConnection entries c → IsRouterLine lane entries state (plain_router_line lane state c)
is_plain lane entries c idle is l = refl
is_plain lane entries c live is l = live_is_plain lane entries c (last_is_present entries (λ cause shuts. not_both cause (sym is ∙ shuts))) l
  where
    not_both : (cause : Cause) → live ≡ shut cause → ⊥
    not_both cause both = cc
is_plain lane entries c (shut cause) is l = refl

pub begins_with_router : BeginsWithRouter
begins_with_router = record { is_plain = λ lane entries c l. is_plain lane entries c (state_of entries) refl l; begins = begins }
