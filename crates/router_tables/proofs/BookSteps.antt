-- What one more effect makes of the books of a session.
use Rattle.std.proofs.Common.{◌≡◌, ℕ, List, [], ◌∷◌, ◌++◌, None, map, refl, sym, ◌∙◌, subst, append_assoc, append-nil}
use Rattle.std.specs.Arc.{arc_value}
use Rattle.std.specs.declared.sync.Arc.{Arc}
use Rattle.std.specs.declared.alloc.Global.{Global}
use Rattle.std.specs.List.{AllByRecursion}
use Rattle.bmp_specs.specs.declared.peers.View.{View}
use Rattle.bmp_specs.specs.declared.wire.Family.{Family}
use Rattle.bmp_specs.specs.PeerUp.{Names, IsUp}
use Rattle.bmp_specs.specs.Rows.{ReplacesStatistic}
use Rattle.bmp_specs.specs.Session.{name_in, description_in}
use Rattle.bmp_specs.specs.Values.{NlriValue, AttrsValue, KeyValue, PeerInfoValue, DownInfoValue, StatValue, EffectValue, announce, withdraw, mark, statistic, named, described, orphan, mirrored, passed, unread}
use Rattle.bmp_specs.proofs.NameLaws.{name_now, name_kept, description_now, description_kept}
use Rattle.peer_book.specs.Peers.{Peers}
use Rattle.peer_book.specs.Standing.{StandsForPeers}
use Rattle.peer_book.proofs.Standings.{stands_still as peers_still}
use Rattle.rib_model.specs.Effects.{item_values}
use Rattle.rib_model.specs.declared.effect.Effect.{Effect}
use Rattle.rib_model.specs.declared.effect.Effect.TheVariants.{Up, Down, Announce, Withdraw, Mark, Statistic, Name, Descr, Orphan, Mirrored, Passed, Unread}
use Rattle.stats_book.specs.Stats.{Stats}
use Rattle.stats_book.specs.Standing.{StandsForStats}
use Rattle.stats_book.proofs.Standings.{stands_still as stats_still, stands_unheard}
use Rattle.router_tables.specs.Books.{BooksValue, StandsForBooks}

-- the effect tells nothing of a peer, of a statistic, and of the router
pub record IsSilent (e : EffectValue) : Type 0 where
  pub unnamed : (key : KeyValue) → ¬ (Names key e)
  pub unmarked : (key : KeyValue) (view : View) (family : Family) → ¬ (e ≡ mark key view family)
  pub no_statistic : (key : KeyValue) (stat : StatValue) → ¬ (ReplacesStatistic key stat e)
  pub no_name : name_in e ≡ None
  pub no_description : description_in e ≡ None

still_one : (books : BooksValue) (es : List EffectValue) (e : EffectValue) → IsSilent e → StandsForBooks books es → StandsForBooks books (es ++ e ∷ [])
still_one books es e silent h = record {
  name = h.name ∙ sym (name_kept es e silent.no_name);
  description = h.description ∙ sym (description_kept es e silent.no_description);
  peers = peers_still books.peers es e silent.unnamed silent.unmarked h.peers;
  stats = stats_still books.stats es e silent.no_statistic h.stats;
}

still_all : (more : List EffectValue) (books : BooksValue) (es : List EffectValue) → AllByRecursion IsSilent more → StandsForBooks books es → StandsForBooks books (es ++ more)
still_all [] books es silent h = subst (StandsForBooks books) (sym (append-nil es)) h
still_all (e ∷ more) books es silent h = subst (StandsForBooks books) (append_assoc es (e ∷ []) more) (still_all more books (es ++ e ∷ []) silent.1 (still_one books es e silent.0 h))

silent_announce : (key : KeyValue) (view : View) (route : AttrsValue) (nlris : List NlriValue) → AllByRecursion IsSilent (map (λ n. announce key view n route) nlris)
silent_announce key view route [] = tt
silent_announce key view route (n ∷ nlris) = (record { unnamed = λ k h. h; unmarked = λ k v f e. cc; no_statistic = λ k s h. h; no_name = refl; no_description = refl }, silent_announce key view route nlris)

silent_withdraw : (key : KeyValue) (view : View) (nlris : List NlriValue) → AllByRecursion IsSilent (map (λ n. withdraw key view n) nlris)
silent_withdraw key view [] = tt
silent_withdraw key view (n ∷ nlris) = (record { unnamed = λ k h. h; unmarked = λ k v f e. cc; no_statistic = λ k s h. h; no_name = refl; no_description = refl }, silent_withdraw key view nlris)

-- the effects of the other kinds
pub still_other : (books : BooksValue) (e : Effect) → ((key : KeyValue) (info : Arc PeerInfoValue Global) → e ≡ Up key info → ⊥) → ((key : KeyValue) (info : DownInfoValue) → e ≡ Down key info → ⊥)
    → ((key : KeyValue) (view : View) (family : Family) → e ≡ Mark key view family → ⊥) → ((key : KeyValue) (stat : StatValue) → e ≡ Statistic key stat → ⊥)
    → ((bytes : List ℕ) → e ≡ Name bytes → ⊥) → ((bytes : List ℕ) → e ≡ Descr bytes → ⊥)
    → (es : List EffectValue) → StandsForBooks books es → StandsForBooks books (es ++ item_values e)
still_other books (Up k info) not_up not_down not_mark not_statistic not_name not_descr es h = absurd (not_up k info refl)
still_other books (Down k info) not_up not_down not_mark not_statistic not_name not_descr es h = absurd (not_down k info refl)
still_other books (Announce k view nlris route) not_up not_down not_mark not_statistic not_name not_descr es h = still_all (map (λ n. announce k view n (arc_value route)) nlris) books es (silent_announce k view (arc_value route) nlris) h
still_other books (Withdraw k view nlris) not_up not_down not_mark not_statistic not_name not_descr es h = still_all (map (λ n. withdraw k view n) nlris) books es (silent_withdraw k view nlris) h
still_other books (Mark k view family) not_up not_down not_mark not_statistic not_name not_descr es h = absurd (not_mark k view family refl)
still_other books (Statistic k stat) not_up not_down not_mark not_statistic not_name not_descr es h = absurd (not_statistic k stat refl)
still_other books (Name bytes) not_up not_down not_mark not_statistic not_name not_descr es h = absurd (not_name bytes refl)
still_other books (Descr bytes) not_up not_down not_mark not_statistic not_name not_descr es h = absurd (not_descr bytes refl)
still_other books Orphan not_up not_down not_mark not_statistic not_name not_descr es h = still_one books es orphan (record { unnamed = λ k n. n; unmarked = λ k v f e. cc; no_statistic = λ k s n. n; no_name = refl; no_description = refl }) h
still_other books Mirrored not_up not_down not_mark not_statistic not_name not_descr es h = still_one books es mirrored (record { unnamed = λ k n. n; unmarked = λ k v f e. cc; no_statistic = λ k s n. n; no_name = refl; no_description = refl }) h
still_other books Passed not_up not_down not_mark not_statistic not_name not_descr es h = still_one books es passed (record { unnamed = λ k n. n; unmarked = λ k v f e. cc; no_statistic = λ k s n. n; no_name = refl; no_description = refl }) h
still_other books (Unread parts) not_up not_down not_mark not_statistic not_name not_descr es h = still_one books es (unread parts) (record { unnamed = λ k n. n; unmarked = λ k v f e. cc; no_statistic = λ k s n. n; no_name = refl; no_description = refl }) h

-- an Up or a Down: the peers follow, and the peer's statistics are gone
pub books_named : (old new : BooksValue) (es : List EffectValue) (e : EffectValue) → name_in e ≡ None → description_in e ≡ None → new.name ≡ old.name → new.description ≡ old.description
    → StandsForPeers new.peers (es ++ e ∷ []) → StandsForStats new.stats (es ++ e ∷ []) → StandsForBooks old es → StandsForBooks new (es ++ e ∷ [])
books_named old new es e no_name no_description same_name same_description peers stats h = record {
  name = same_name ∙ h.name ∙ sym (name_kept es e no_name);
  description = same_description ∙ h.description ∙ sym (description_kept es e no_description);
  peers = peers;
  stats = stats;
}

pub books_marked : (books : BooksValue) (peers : Peers) (es : List EffectValue) (key : KeyValue) (view : View) (family : Family) → StandsForPeers peers (es ++ mark key view family ∷ [])
    → StandsForBooks books es → StandsForBooks (record { name = books.name; description = books.description; peers = peers; stats = books.stats }) (es ++ mark key view family ∷ [])
books_marked books peers es key view family stands h = record {
  name = h.name ∙ sym (name_kept es (mark key view family) refl);
  description = h.description ∙ sym (description_kept es (mark key view family) refl);
  peers = stands;
  stats = stats_still books.stats es (mark key view family) (λ k s n. n) h.stats;
}

-- a statistic of a peer that is up
pub books_counted : (books : BooksValue) (stats : Stats) (es : List EffectValue) (key : KeyValue) (stat : StatValue) → StandsForStats stats (es ++ statistic key stat ∷ [])
    → StandsForBooks books es → StandsForBooks (record { name = books.name; description = books.description; peers = books.peers; stats = stats }) (es ++ statistic key stat ∷ [])
books_counted books stats es key stat stands h = record {
  name = h.name ∙ sym (name_kept es (statistic key stat) refl);
  description = h.description ∙ sym (description_kept es (statistic key stat) refl);
  peers = peers_still books.peers es (statistic key stat) (λ k n. n) (λ k v f e. cc) h.peers;
  stats = stands;
}

-- and of one that isn't
pub books_unheard : (books : BooksValue) (es : List EffectValue) (key : KeyValue) (stat : StatValue) → ¬ (IsUp es key) → StandsForBooks books es → StandsForBooks books (es ++ statistic key stat ∷ [])
books_unheard books es key stat not_up h = books_counted books books.stats es key stat (stands_unheard books.stats es key stat not_up h.stats) h

pub books_renamed : (books : BooksValue) (name : List ℕ) (es : List EffectValue) (bytes : List ℕ) → name ≡ bytes
    → StandsForBooks books es → StandsForBooks (record { name = name; description = books.description; peers = books.peers; stats = books.stats }) (es ++ named bytes ∷ [])
books_renamed books name es bytes is h = record {
  name = is ∙ sym (name_now es bytes);
  description = h.description ∙ sym (description_kept es (named bytes) refl);
  peers = peers_still books.peers es (named bytes) (λ k n. n) (λ k v f e. cc) h.peers;
  stats = stats_still books.stats es (named bytes) (λ k s n. n) h.stats;
}

pub books_described : (books : BooksValue) (text : List ℕ) (es : List EffectValue) (bytes : List ℕ) → text ≡ bytes
    → StandsForBooks books es → StandsForBooks (record { name = books.name; description = text; peers = books.peers; stats = books.stats }) (es ++ described bytes ∷ [])
books_described books text es bytes is h = record {
  name = h.name ∙ sym (name_kept es (described bytes) refl);
  description = is ∙ sym (description_now es bytes);
  peers = peers_still books.peers es (described bytes) (λ k n. n) (λ k v f e. cc) h.peers;
  stats = stats_still books.stats es (described bytes) (λ k s n. n) h.stats;
}

pub seen : (inside now : BooksValue) → inside ≡ now → (es : List EffectValue) → StandsForBooks now es → StandsForBooks inside es
seen inside now is es h = subst (λ (b : BooksValue). StandsForBooks b es) (sym is) h
