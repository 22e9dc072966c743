-- The parts of a PLAN clause behind its words, as the reading of statements has them.
use Rattle.std.specs.Prelude.{suc, length, Some}
use Rattle.sj_base.specs.Options.{◌>>=◌}
use Rattle.sj_sql_grammar.specs.declared.clauses.InOut.{InOut}
use Rattle.sj_sql_grammar.specs.declared.clauses.InOut.TheVariants as in_out
use Rattle.sj_sql_grammar.specs.declared.clauses.Siblings.{Siblings}
use Rattle.sj_sql_grammar.specs.declared.clauses.Siblings.TheVariants as siblings
use Rattle.sj_sql_grammar.specs.Tree.{PlanTree, Default}
use Rattle.sj_sql_grammar.specs.Phrases.{Phrase, if_some, meant, comma_at, open_at, close_at, siblings_of, in_out_of, default_at}
use Rattle.sj_sql_grammar.specs.Reading.{plan_expr_at, few_operators}

abbrev pub behind_in_out : InOut → Phrase PlanTree
behind_in_out i ts = if_some (comma_at ts) (λ a. meant siblings_of a >>= λ s. Some (Default i s.0, s.1)) (Some (Default i siblings.Union, ts))

abbrev pub behind_siblings : Siblings → Phrase PlanTree
behind_siblings s ts = if_some (comma_at ts) (λ a. meant in_out_of a >>= λ i. Some (Default i.0 s, i.1)) (Some (Default in_out.Outer s, ts))

-- behind PLAN DEFAULT
abbrev pub default_clause : Phrase PlanTree
default_clause ts = open_at ts >>= λ a. default_at a >>= λ p. close_at p.1 >>= λ rest. Some (p.0, rest)

-- behind PLAN
abbrev pub named_clause : Phrase PlanTree
named_clause ts = open_at ts >>= λ a. plan_expr_at (suc (length a)) a >>= λ p. close_at p.1 >>= λ rest. few_operators p.0 rest
