use Rattle.sj_select_list.proofs.find.put_column.Goals as goal

pub returns-clause-does : goal.returns-clause-does
returns-clause-does c = c.put.ensures.does _ c.column_outcome-outcome.ensures.is
