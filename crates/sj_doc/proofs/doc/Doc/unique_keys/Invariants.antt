use Rattle.std.proofs.Common.{◌<◌, ℕ}
use Rattle.sj_json.specs.Tree.{subtree}
use Rattle.sj_json.specs.Keys.{AreDistinct, keys}
use Rattle.sj_doc.proofs.doc.Doc.unique_keys.Given as goal

abbrev pub invariant-loop-at : goal.invariant-loop-at
invariant-loop-at l = (j : ℕ) → j < l.at → AreDistinct (keys (subtree l.self j))
