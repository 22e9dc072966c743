-- What a table cursor is seen as: a plan over paths with their variables and what a fault does, the rows that are left and what they may
-- take, and the row just given.
use Rattle.std.specs.Prelude.{ℕ, List, refl}
use Rattle.std.specs.Coded.{Coded, code_by, coded×, coded_ℕ, coded_list}
use Rattle.sj_item.specs.Items.{ItemValue}
use Rattle.sj_item.specs.Coding.{item_code}
use Rattle.sj_path_tree.specs.declared.tree.Path.{Path}
use Rattle.sj_path_tree.specs.contracts.tree.Path as path
use Rattle.sj_path_tree.specs.Vars.{Variables}
use Rattle.sj_cursor.specs.Sequel.{variables_code}
use Rattle.sj_value.specs.declared.plan.Plan.{Plan}
use Rattle.sj_value.specs.contracts.plan.Plan as plan
use Rattle.sj_value.specs.declared.clauses.TableAction.{TableAction}
use Rattle.sj_value.specs.contracts.clauses.TableAction as table_action
use Rattle.sj_table.specs.Coding.{series_code}
use Rattle.sj_table.specs.Rows.{Entry, Row, PlanRows}

pub record TableView : Type 0 where
  pub plan : Plan
  pub paths : List Path
  pub vars : Variables
  pub on_error : TableAction
  -- the rows that are left
  pub left : PlanRows
  -- the row just given, empty where there is none
  pub given : Row
  -- the visits that the rows that are left may take
  pub due : ℕ

-- ---- how the logic stores it

abbrev pub entry_code : Coded Entry
entry_code =
    code_by (ℕ × (ItemValue × ℕ)) (coded× coded_ℕ (coded× item_code coded_ℕ))
    (λ e. (e.path, (e.item, e.ordinal))) (λ p. record { path = p.0; item = p.1.0; ordinal = p.1.1 }) (λ _. refl)

abbrev pub row_code : Coded Row
row_code = coded_list entry_code

abbrev pub table_code : Coded TableView
table_code =
    code_by (Plan × (List Path × (Variables × (TableAction × (PlanRows × (Row × ℕ))))))
    (coded× plan.the_row.coded (coded× (coded_list path.the_row.coded) (coded× variables_code (coded× table_action.the_row.coded (coded× (series_code row_code) (coded× row_code coded_ℕ))))))
    (λ t. (t.plan, (t.paths, (t.vars, (t.on_error, (t.left, (t.given, t.due)))))))
    (λ p. record { plan = p.0; paths = p.1.0; vars = p.1.1.0; on_error = p.1.1.1.0; left = p.1.1.1.1.0; given = p.1.1.1.1.1.0; due = p.1.1.1.1.1.1 })
    (λ _. refl)
