use Rattle.std.proofs.Common.{List, subst, arith}
use Rattle.std.proofs.lemmas.Grind.{common_steps}
use Rattle.sj_bind.specs.FlatView.{flat_of}
use Rattle.sj_sql_grammar.specs.declared.clauses.Passed.{Passed}
use Rattle.sj_bind.specs.Names.{names_of}
use Rattle.sj_bind.specs.Rules.{all_paths, all_columns}
use Rattle.sj_bind.specs.Variables.{AreNamesOf}
use Rattle.sj_bind.proofs.MissingVariables.{paths_missed, columns_missed}
use Rattle.sj_bind.proofs.table_rules.table_lacks_variable.Goals as goal

pub returns-then-some_path_misses : goal.returns-then-some_path_misses
returns-then-some_path_misses c =
    let paths = paths_missed c.args.table.now.passing (names_of c.in_ok-names.names) (subst (λ (ps : List Passed). AreNamesOf ps (names_of c.in_ok-names.names)) c.as_slice.ensures c.in_ok-names.ensures) (all_paths (flat_of c.args.table.now)) in
    grind (arith, common_steps)

pub returns : goal.returns
returns c =
    let paths = paths_missed c.args.table.now.passing (names_of c.in_ok-names.names) (subst (λ (ps : List Passed). AreNamesOf ps (names_of c.in_ok-names.names)) c.as_slice.ensures c.in_ok-names.ensures) (all_paths (flat_of c.args.table.now)) in
    let columns = columns_missed c.args.table.now.passing (names_of c.in_ok-names.names) (subst (λ (ps : List Passed). AreNamesOf ps (names_of c.in_ok-names.names)) c.as_slice.ensures c.in_ok-names.ensures) (all_columns (flat_of c.args.table.now)) in
    grind (arith, common_steps)
