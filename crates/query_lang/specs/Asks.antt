-- What a line asks for, as a value of the wider language.
use Rattle.std.specs.Prelude.{false}
use Rattle.bmp_specs.specs.Query.{QueryValue, table, count, exact, longest, within, origin}
use Rattle.ask_specs.specs.Asking.{AskValue, plain, rows, steps, full_marks, full_routers}
use Rattle.query_lang.specs.declared.ask.Ask.{Ask}
use Rattle.query_lang.specs.declared.ask.Ask.TheVariants.{Query, Rows, Count, Changes, FullMarks, FullRouters}
use Rattle.query_lang.specs.declared.ask.RowQuery.{RowQuery}
use Rattle.query_lang.specs.declared.ask.RowQuery.TheVariants.{Table, Exact, Longest, Within, Origin}
use Rattle.query_lang.specs.Queries.{query_value}
use Rattle.query_lang.specs.TraitValues.{traits_value}

abbrev pub row_query_value : RowQuery → QueryValue
row_query_value (Table select) = table select
row_query_value (Exact prefix select) = exact prefix select
row_query_value (Longest address select) = longest address select
row_query_value (Within prefix select) = within prefix select
row_query_value (Origin number select) = origin number select

abbrev pub ask_value : Ask → AskValue
ask_value (Query query) = plain (query_value query)
ask_value (Rows ask) = rows ask.steps ask.full (row_query_value ask.query) (traits_value ask.traits)
ask_value (Count select traits) = rows false false (count select) (traits_value traits)
ask_value (Changes full lane from prefix) = steps full lane from prefix
ask_value (FullMarks select) = full_marks select
ask_value FullRouters = full_routers
