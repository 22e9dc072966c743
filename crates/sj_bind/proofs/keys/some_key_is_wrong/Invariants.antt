use Rattle.std.proofs.Common.{◌≡◌, [], not, drop}
use Rattle.std.specs.List.{list_any}
use Rattle.sj_path_tree.specs.Tree.{Path}
use Rattle.sj_sql_grammar.specs.Tree.{Value}
use Rattle.sj_bind.specs.PartsView.{keys_of}
use Rattle.sj_bind.specs.Rules.{is_key}
use Rattle.sj_bind.proofs.keys.some_key_is_wrong.Given as goal

-- the keys so far keep the rule
abbrev pub invariant-loop-key : goal.invariant-loop-key
invariant-loop-key l = list_any (λ (key : Value Path). not (is_key [] key)) (keys_of (drop l.key-index l.keys)) ≡ list_any (λ (key : Value Path). not (is_key [] key)) (keys_of l.keys)
