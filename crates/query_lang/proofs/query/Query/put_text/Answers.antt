use Rattle.std.proofs.Common.{ℕ, List, ◌∷◌, ◌++◌, refl, sym, ap, subst, ◌∙◌, arith, codes}
use Rattle.bmp_specs.specs.AddressText.{address_text, IsAddressText}
use Rattle.bmp_specs.specs.NumberText.{number_text, IsNumberText}
use Rattle.bmp_specs.specs.PeerText.{key_text, IsKeyText}
use Rattle.bmp_specs.specs.PrefixText.{prefix_text, IsPrefixText}
use Rattle.bmp_specs.specs.Query.{routers, cut, peers, marks, table, count, exact, longest, within, origin, stats, changes, quit}
use Rattle.query_lang.specs.Queries.{query_value}
use Rattle.query_lang.specs.QueryText.{peer_selector_words, select_words, spaced, query_text}
use Rattle.query_lang.specs.declared.query.Query.{Query}
use Rattle.query_lang.proofs.FormLaws.{sought_is, selection_is}
use Rattle.query_lang.proofs.TextLaws.{read_as, as_text, routers_line, cut_line, quit_line, peers_line, marks_line, table_line, count_line, exact_line, longest_line, within_line, origin_line, stats_line}
use Rattle.query_lang.proofs.query.Query.put_text.Goals as goal

abbrev text_of : Query → List ℕ
text_of q = query_text (query_value q)

pub returns-in-Routers-clause-written : goal.returns-in-Routers-clause-written
returns-in-Routers-clause-written g c = as_text _ _ _ _ _ c.write_all.ensures (ap text_of c.in-Routers.is ∙ routers_line)

pub returns-in-Routers-clause-read_back : goal.returns-in-Routers-clause-read_back
returns-in-Routers-clause-read_back g c = read_as (query_value c.args.self.now) (routers) (ap query_value c.in-Routers.is) (refl)

pub returns-in-Cut-clause-written : goal.returns-in-Cut-clause-written
returns-in-Cut-clause-written g c = as_text _ _ _ _ _ c.write_all-in-Cut.ensures (ap text_of c.in-Cut.is ∙ cut_line)

pub returns-in-Cut-clause-read_back : goal.returns-in-Cut-clause-read_back
returns-in-Cut-clause-read_back g c = read_as (query_value c.args.self.now) (cut) (ap query_value c.in-Cut.is) (refl)

pub returns-in-Quit-clause-written : goal.returns-in-Quit-clause-written
returns-in-Quit-clause-written g c = as_text _ _ _ _ _ c.write_all-in-Quit.ensures (ap text_of c.in-Quit.is ∙ quit_line)

pub returns-in-Quit-clause-read_back : goal.returns-in-Quit-clause-read_back
returns-in-Quit-clause-read_back g c = read_as (query_value c.args.self.now) (quit) (ap query_value c.in-Quit.is) (refl)

pub returns-in-Peers-clause-written : goal.returns-in-Peers-clause-written
returns-in-Peers-clause-written g c = as_text _ _ _ _ _ c.put_peers.ensures.written (ap text_of c.in-Peers.is ∙ peers_line c.in-Peers.router c.in-Peers.peer)

pub returns-in-Peers-clause-read_back : goal.returns-in-Peers-clause-read_back
returns-in-Peers-clause-read_back g c = read_as (query_value c.args.self.now) (peers c.in-Peers.router c.in-Peers.peer) (ap query_value c.in-Peers.is) (record { selectors = peer_selector_words c.in-Peers.router c.in-Peers.peer; are_selectors = c.put_peers.ensures.read_back; spelled = refl })

pub returns-in-Marks-clause-written : goal.returns-in-Marks-clause-written
returns-in-Marks-clause-written g c = as_text _ _ _ _ _ c.put_sought.ensures.written (ap text_of c.in-Marks.is ∙ marks_line c.in-Marks.select ∙ ap (λ (l : List ℕ). codes "marks" ++ (l ++ spaced (select_words c.in-Marks.select))) (sym c.new.ensures))

pub returns-in-Marks-clause-read_back : goal.returns-in-Marks-clause-read_back
returns-in-Marks-clause-read_back g c = read_as (query_value c.args.self.now) (marks c.in-Marks.select) (ap query_value c.in-Marks.is) (selection_is (select_words c.in-Marks.select) c.in-Marks.select c.put_sought.ensures.read_back (codes "marks"))

pub returns-in-Table-clause-written : goal.returns-in-Table-clause-written
returns-in-Table-clause-written g c = as_text _ _ _ _ _ c.put_sought-in-Table.ensures.written (ap text_of c.in-Table.is ∙ table_line c.in-Table.select ∙ ap (λ (l : List ℕ). codes "table" ++ (l ++ spaced (select_words c.in-Table.select))) (sym c.new-in-Table.ensures))

pub returns-in-Table-clause-read_back : goal.returns-in-Table-clause-read_back
returns-in-Table-clause-read_back g c = read_as (query_value c.args.self.now) (table c.in-Table.select) (ap query_value c.in-Table.is) (selection_is (select_words c.in-Table.select) c.in-Table.select c.put_sought-in-Table.ensures.read_back (codes "table"))

pub returns-in-Count-clause-written : goal.returns-in-Count-clause-written
returns-in-Count-clause-written g c = as_text _ _ _ _ _ c.put_sought-in-Count.ensures.written (ap text_of c.in-Count.is ∙ count_line c.in-Count.select ∙ ap (λ (l : List ℕ). codes "count" ++ (l ++ spaced (select_words c.in-Count.select))) (sym c.new-in-Count.ensures))

pub returns-in-Count-clause-read_back : goal.returns-in-Count-clause-read_back
returns-in-Count-clause-read_back g c = read_as (query_value c.args.self.now) (count c.in-Count.select) (ap query_value c.in-Count.is) (selection_is (select_words c.in-Count.select) c.in-Count.select c.put_sought-in-Count.ensures.read_back (codes "count"))

pub returns-in-Exact-clause-written : goal.returns-in-Exact-clause-written
returns-in-Exact-clause-written g c = as_text _ _ _ _ _ c.put_sought-in-Exact.ensures.written (ap text_of c.in-Exact.is ∙ exact_line c.in-Exact.prefix c.in-Exact.select ∙ ap (λ (l : List ℕ). codes "prefix " ++ (l ++ spaced (select_words c.in-Exact.select))) (sym c.text.ensures.whole))

pub returns-in-Exact-clause-read_back : goal.returns-in-Exact-clause-read_back
returns-in-Exact-clause-read_back g c = read_as (query_value c.args.self.now) (exact c.in-Exact.prefix c.in-Exact.select) (ap query_value c.in-Exact.is) (sought_is IsPrefixText (prefix_text c.in-Exact.prefix ∷ select_words c.in-Exact.select) (select_words c.in-Exact.select) (prefix_text c.in-Exact.prefix) c.in-Exact.prefix c.in-Exact.select refl (subst (λ (l : List ℕ). IsPrefixText l c.in-Exact.prefix) c.text.ensures.whole c.text.ensures.read_back) c.put_sought-in-Exact.ensures.read_back (codes "prefix"))

pub returns-in-Longest-clause-written : goal.returns-in-Longest-clause-written
returns-in-Longest-clause-written g c = as_text _ _ _ _ _ c.put_sought-in-Longest.ensures.written (ap text_of c.in-Longest.is ∙ longest_line c.in-Longest.address c.in-Longest.select ∙ ap (λ (l : List ℕ). codes "match " ++ (l ++ spaced (select_words c.in-Longest.select))) (sym c.text-in-Longest.ensures.whole))

pub returns-in-Longest-clause-read_back : goal.returns-in-Longest-clause-read_back
returns-in-Longest-clause-read_back g c = read_as (query_value c.args.self.now) (longest c.in-Longest.address c.in-Longest.select) (ap query_value c.in-Longest.is) (sought_is IsAddressText (address_text c.in-Longest.address ∷ select_words c.in-Longest.select) (select_words c.in-Longest.select) (address_text c.in-Longest.address) c.in-Longest.address c.in-Longest.select refl (subst (λ (l : List ℕ). IsAddressText l c.in-Longest.address) c.text-in-Longest.ensures.whole c.text-in-Longest.ensures.read_back) c.put_sought-in-Longest.ensures.read_back (codes "match"))

pub returns-in-Within-clause-written : goal.returns-in-Within-clause-written
returns-in-Within-clause-written g c = as_text _ _ _ _ _ c.put_sought-in-Within.ensures.written (ap text_of c.in-Within.is ∙ within_line c.in-Within.prefix c.in-Within.select ∙ ap (λ (l : List ℕ). codes "within " ++ (l ++ spaced (select_words c.in-Within.select))) (sym c.text-in-Within.ensures.whole))

pub returns-in-Within-clause-read_back : goal.returns-in-Within-clause-read_back
returns-in-Within-clause-read_back g c = read_as (query_value c.args.self.now) (within c.in-Within.prefix c.in-Within.select) (ap query_value c.in-Within.is) (sought_is IsPrefixText (prefix_text c.in-Within.prefix ∷ select_words c.in-Within.select) (select_words c.in-Within.select) (prefix_text c.in-Within.prefix) c.in-Within.prefix c.in-Within.select refl (subst (λ (l : List ℕ). IsPrefixText l c.in-Within.prefix) c.text-in-Within.ensures.whole c.text-in-Within.ensures.read_back) c.put_sought-in-Within.ensures.read_back (codes "within"))

pub returns-in-Origin-clause-written : goal.returns-in-Origin-clause-written
returns-in-Origin-clause-written g c = as_text _ _ _ _ _ c.put_sought-in-Origin.ensures.written (ap text_of c.in-Origin.is ∙ origin_line c.in-Origin.number c.in-Origin.select ∙ ap (λ (l : List ℕ). codes "origin " ++ (l ++ spaced (select_words c.in-Origin.select))) (sym c.digits.ensures))

pub returns-in-Origin-clause-read_back : goal.returns-in-Origin-clause-read_back
returns-in-Origin-clause-read_back g c = read_as (query_value c.args.self.now) (origin c.in-Origin.number c.in-Origin.select) (ap query_value c.in-Origin.is) (sought_is IsNumberText (number_text c.in-Origin.number ∷ select_words c.in-Origin.select) (select_words c.in-Origin.select) (number_text c.in-Origin.number) c.in-Origin.number c.in-Origin.select refl (record { within = omega arith; spelled = refl }) c.put_sought-in-Origin.ensures.read_back (codes "origin"))

pub returns-in-Stats-clause-written : goal.returns-in-Stats-clause-written
returns-in-Stats-clause-written g c = as_text _ _ _ _ _ c.write_pieces.ensures (ap text_of c.in-Stats.is ∙ stats_line c.in-Stats.key c.as_slice.result.now (c.as_slice.ensures ∙ c.text-in-Stats.ensures.same))

pub returns-in-Stats-clause-read_back : goal.returns-in-Stats-clause-read_back
returns-in-Stats-clause-read_back g c = read_as (query_value c.args.self.now) (stats c.in-Stats.key) (ap query_value c.in-Stats.is) (record { text = key_text c.in-Stats.key; is_text = subst (λ (l : List ℕ). IsKeyText l c.in-Stats.key) c.text-in-Stats.ensures.same c.text-in-Stats.ensures.read_back; spelled = refl })

pub returns-in-Changes-clause-read_back : goal.returns-in-Changes-clause-read_back
returns-in-Changes-clause-read_back g c = read_as (query_value c.args.self.now) (changes c.in-Changes.lane c.in-Changes.from c.in-Changes.prefix) (ap query_value c.in-Changes.is) (c.put_changes.ensures.read_back)
