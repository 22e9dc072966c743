-- A line of the input, as a statement sees it.
use Rattle.std.specs.Prelude.{Option, None, Some}
use Rattle.sj_base.specs.declared.state.State.TheVariants.{S22032, S22037}
use Rattle.sj_item.specs.Items.{node}
use Rattle.sj_json.specs.Tree.{Tree}
use Rattle.sj_func.specs.Functions.{ContextValue, on_item, on_bad}
use Rattle.sj_select_list.specs.declared.line.LineDoc.{LineDoc}
use Rattle.sj_select_list.specs.declared.line.LineDoc.TheVariants.{NotJson, Repeated, Json}

pub data Line : Type 0 where
  not_json : Line
  -- JSON in which some object has two equal keys, where keys are to be unique
  repeated : Tree → Line
  json : Tree → Line

abbrev pub line_of : LineDoc → Line
line_of NotJson = not_json
line_of (Repeated doc) = repeated doc.now
line_of (Json doc) = json doc.now

-- the context item of the functions: the root, which is the node 0, or the error in its place
abbrev pub context : Line → ContextValue
context not_json = on_bad S22032
context (repeated t) = on_bad S22037
context (json t) = on_item (node 0 t)

-- the line itself, which IS JSON sees: that keys are to be unique does not change it
abbrev pub tree_of : Line → Option Tree
tree_of not_json = None
tree_of (repeated t) = Some t
tree_of (json t) = Some t
