use Rattle.std.proofs.Common.{ap}
use Rattle.sj_path_text.specs.Text.{path_text}
use Rattle.sj_path_text.proofs.Laws as laws
use Rattle.sj_path_text.proofs.law.same_text_same_tree.Goals as goal

pub returns : goal.returns
returns c = λ a b p q x y. (λ e. ap path_text e, laws.same_tree a b p q x y)
