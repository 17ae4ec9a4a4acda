-- A query that means the same as before there were words in front of it.
use Rattle.std.specs.Prelude.{◌≡◌, ◌≢◌, ◌↔◌, ℕ, List}
use Rattle.bmp_specs.specs.Query.{QueryValue, IsQuery, quit}
use Rattle.ask_specs.specs.Asking.{AskValue, plain}
use Rattle.station_words.specs.Words.{IsAsking}

-- The words of a query ask for that query, unless it is `quit`, and for nothing else.
abbrev pub KeepsQueries : Type 0
KeepsQueries = (line : List ℕ) (query : QueryValue) (ask : AskValue) → IsQuery line query → IsAsking line ask ↔ ((ask ≡ plain query) × (query ≢ quit))
