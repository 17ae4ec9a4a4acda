-- Queries as values, without the place of their parts in memory.
use Rattle.bmp_specs.specs.Query.{QueryValue, routers, cut, peers, marks, table, count, exact, longest, within, origin, stats, changes, quit}
use Rattle.query_lang.specs.declared.query.Query.{Query}
use Rattle.query_lang.specs.declared.query.Query.TheVariants.{Routers, Cut, Peers, Marks, Table, Count, Exact, Longest, Within, Origin, Stats, Changes, Quit}

abbrev pub query_value : Query → QueryValue
query_value Routers = routers
query_value Cut = cut
query_value (Peers router peer) = peers router peer
query_value (Marks select) = marks select
query_value (Table select) = table select
query_value (Count select) = count select
query_value (Exact prefix select) = exact prefix select
query_value (Longest address select) = longest address select
query_value (Within prefix select) = within prefix select
query_value (Origin number select) = origin number select
query_value (Stats key) = stats key
query_value (Changes lane from prefix) = changes lane from prefix
query_value Quit = quit
