-- What a query of `bmp_specs` was answered is answered still.
use Rattle.std.specs.Prelude.{◌↔◌, ℕ, List, [], ◌∷◌, codes}
use Rattle.std.specs.List.{join_with_byte}
use Rattle.bmp_specs.specs.Query.{QueryValue, IsQuery, space}
use Rattle.bmp_specs.specs.QueryReply.{IsReply}
use Rattle.bmp_specs.specs.Values.{EntryValue}
use Rattle.station_words.specs.Words.{IsCall, IsPlain}
use Rattle.station_words.specs.declared.words.Call.{Call}
use Rattle.station_top.specs.Station.{IsReplyTo}

-- where the words after `replay` or its `--lenient` are a query, its replies are those of the call, and no others
abbrev pub KeepsReplays : Type 0
KeepsReplays = (call : Call) (given asked : List (List ℕ)) (query : QueryValue) (entries : List EntryValue) (bytes : List ℕ) → IsCall call (codes "replay" ∷ given) → IsPlain call.lenient given asked
    → IsQuery (join_with_byte space asked) query → IsReplyTo call.command entries bytes ↔ IsReply query (entries ∷ []) bytes

-- the same of `recall` and a file
abbrev pub KeepsRecalls : Type 0
KeepsRecalls = (call : Call) (file : List ℕ) (given asked : List (List ℕ)) (query : QueryValue) (entries : List EntryValue) (bytes : List ℕ) → IsCall call (codes "recall" ∷ given) → IsPlain call.lenient given (file ∷ asked)
    → IsQuery (join_with_byte space asked) query → IsReplyTo call.command entries bytes ↔ IsReply query (entries ∷ []) bytes
