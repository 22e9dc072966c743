use Rattle.std.proofs.Common.{sym, ◌∙◌}
use Rattle.sj_plain_path.proofs.Chains.{opened_array, opened_other, opened_as_it_is, sought_item, sought_same}
use Rattle.sj_plain_path.proofs.chain.take_opened.Goals as goal

pub returns-in-Array : goal.returns-in-Array
returns-in-Array c = sought_same _ _ _ _ _ _ _ c.take_elements_apart.ensures (opened_array _ _ _ c.in-Unwrapped.is (sym c.kind.ensures ∙ c.in-Array.is))

pub returns-in_default : goal.returns-in_default
returns-in_default c = sought_same _ _ _ _ _ _ _ (sought_item _ _ _ _ _ c.take.ensures.more c.take.ensures.enough) (opened_other _ _ _ c.in-Unwrapped.is (rw c.kind.ensures at c.in_default.not-Array))

pub returns-in-AsItIs : goal.returns-in-AsItIs
returns-in-AsItIs c = sought_same _ _ _ _ _ _ _ (sought_item _ _ _ _ _ c.take-in-AsItIs.ensures.more c.take-in-AsItIs.ensures.enough) (opened_as_it_is _ _ c.in-AsItIs.is)
