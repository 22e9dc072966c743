-- The parts of a SELECT list, without where they lie in memory.
use Rattle.std.specs.Prelude.{List, [], ◌∷◌}
use Rattle.std.specs.Borrow.{Bor}
use Rattle.sj_path_tree.specs.Tree.{Path}
use Rattle.sj_sql_grammar.specs.Tree as t
use Rattle.sj_sql_tree.specs.declared.tree.Value.{Value as ParsedValue}
use Rattle.sj_sql_tree.specs.View.{value_of, exists_of, value_call_of, query_of}
use Rattle.sj_bind.specs.declared.parts.Call.{Call}
use Rattle.sj_bind.specs.declared.parts.Call.TheVariants as c
use Rattle.sj_bind.specs.Parts as p

abbrev pub call_of : Call → p.Call Path
call_of (c.Exists x) = p.exists_call (exists_of x.now)
call_of (c.Value x) = p.value_call (value_call_of x.now)
call_of (c.Query x) = p.query_call (query_of x.now)

abbrev pub calls_of : List Call → List (p.Call Path)
calls_of [] = []
calls_of (x ∷ xs) = call_of x ∷ calls_of xs

abbrev pub keys_of : List (Bor ParsedValue) → List (t.Value Path)
keys_of [] = []
keys_of (x ∷ xs) = value_of x.now ∷ keys_of xs
