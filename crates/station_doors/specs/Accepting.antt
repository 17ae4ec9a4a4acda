-- What Linux says where a connection can't be taken, by its error numbers (accept(2)).
use Rattle.std.specs.Prelude.{ℤ, pos, ◌⊎◌, List, [], ◌∷◌, Contains}

-- the connection ended before it was taken, or the call was broken off: EINTR, ECONNABORTED, ECONNRESET, ETIMEDOUT
abbrev pub ended : List ℤ
ended = pos 4 ∷ pos 103 ∷ pos 104 ∷ pos 110 ∷ []

-- it can't be reached any more: ENETDOWN, ENETUNREACH, EHOSTDOWN, EHOSTUNREACH
abbrev pub unreachable : List ℤ
unreachable = pos 100 ∷ pos 101 ∷ pos 112 ∷ pos 113 ∷ []

-- its protocol had a fault: ENONET, EPROTO, ENOPROTOOPT, EOPNOTSUPP
abbrev pub of_protocol : List ℤ
of_protocol = pos 64 ∷ pos 71 ∷ pos 92 ∷ pos 95 ∷ []

-- it was one connection that was lost; the next may come
abbrev pub IsLost : ℤ → Type 0
IsLost code = Contains ended code ⊎ Contains unreachable code ⊎ Contains of_protocol code

-- there is no room for a further connection now: ENOMEM, ENFILE, EMFILE, ENOBUFS
abbrev pub crowded : List ℤ
crowded = pos 12 ∷ pos 23 ∷ pos 24 ∷ pos 105 ∷ []
