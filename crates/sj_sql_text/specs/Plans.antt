-- The pieces of plans. A parenthesis stands only where the grammar needs it to give this tree.
use Rattle.std.specs.Prelude.{Bool, true, false, ◌∷◌, codes}
use Rattle.sj_sql_grammar.specs.declared.clauses.InOut.{InOut}
use Rattle.sj_sql_grammar.specs.declared.clauses.InOut.TheVariants as in_out
use Rattle.sj_sql_grammar.specs.declared.clauses.Siblings.{Siblings}
use Rattle.sj_sql_grammar.specs.declared.clauses.Siblings.TheVariants as siblings
use Rattle.sj_sql_grammar.specs.Tree.{NamedPlan, PathOf, Outer, Inner, Union, Cross, PlanTree, Default, Named}
use Rattle.sj_sql_text.specs.Pieces.{Open, Close, Comma, Pieces}
use Rattle.sj_sql_text.specs.Phrases.{word, name_on}

abbrev pub is_name : NamedPlan → Bool
is_name (PathOf name) = true
is_name _ = false

-- operators of one kind group to the left
abbrev pub leads_union : NamedPlan → Bool
leads_union (PathOf name) = true
leads_union (Union a b) = true
leads_union _ = false

abbrev pub leads_cross : NamedPlan → Bool
leads_cross (PathOf name) = true
leads_cross (Cross a b) = true
leads_cross _ = false

-- in parentheses unless the plan may stand alone
abbrev pub alone_or_enclosed : Bool → (Pieces → Pieces) → Pieces → Pieces
alone_or_enclosed true inner ps = inner ps
alone_or_enclosed false inner ps = Open ∷ inner (Close ∷ ps)

abbrev pub named_on : NamedPlan → Pieces → Pieces
named_on (PathOf name) ps = name_on name ps
named_on (Outer name p) ps = name_on name (word (codes "OUTER") (alone_or_enclosed (is_name p) (named_on p) ps))
named_on (Inner name p) ps = name_on name (word (codes "INNER") (alone_or_enclosed (is_name p) (named_on p) ps))
named_on (Union a b) ps = alone_or_enclosed (leads_union a) (named_on a) (word (codes "UNION") (alone_or_enclosed (is_name b) (named_on b) ps))
named_on (Cross a b) ps = alone_or_enclosed (leads_cross a) (named_on a) (word (codes "CROSS") (alone_or_enclosed (is_name b) (named_on b) ps))

abbrev pub in_out_on : InOut → Pieces → Pieces
in_out_on in_out.Outer ps = word (codes "OUTER") ps
in_out_on in_out.Inner ps = word (codes "INNER") ps

abbrev pub siblings_on : Siblings → Pieces → Pieces
siblings_on siblings.Union ps = word (codes "UNION") ps
siblings_on siblings.Cross ps = word (codes "CROSS") ps

abbrev pub plan_on : PlanTree → Pieces → Pieces
plan_on (Default in_out siblings) ps = word (codes "PLAN") (word (codes "DEFAULT") (Open ∷ in_out_on in_out (Comma ∷ siblings_on siblings (Close ∷ ps))))
plan_on (Named p) ps = word (codes "PLAN") (Open ∷ named_on p (Close ∷ ps))
