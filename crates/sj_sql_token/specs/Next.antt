-- What stands first in a file, and what is behind it.
use Rattle.std.specs.Prelude.{◌≡◌, ℕ, ◌<◌, ◌≤◌, List, length}
use Rattle.sj_sql_token.specs.declared.piece.Next.{Next}
use Rattle.sj_sql_token.specs.declared.piece.Next.TheVariants as n
use Rattle.sj_sql_token.specs.declared.piece.Piece.{Piece}
use Rattle.sj_sql_token.specs.declared.piece.Piece.TheVariants as p
use Rattle.sj_sql_token.specs.Tokens.{end, fault, next, lexed}

abbrev pub IsNext : List ℕ → Next → Type 0
IsNext file (n.Token t rest) = (lexed file ≡ next t (lexed rest.now)) × (length rest.now < length file)
IsNext file n.End = lexed file ≡ end
IsNext file n.Fault = lexed file ≡ fault

-- the piece ends within the bytes behind its first one, of which there are m
abbrev pub IsWithin : ℕ → Piece → Type 0
IsWithin m (p.Token t n) = n ≤ m
IsWithin m (p.Passed n) = n ≤ m
IsWithin m p.Broken = Unit {0}
