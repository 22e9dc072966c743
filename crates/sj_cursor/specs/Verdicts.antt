-- The truth of a predicate, and the visits that finding it may take.
use Rattle.std.specs.Prelude.{ℕ, ◌+◌, Bool, nat_lt, is_some, if◌then◌else◌}
use Rattle.sj_path_tree.specs.declared.parts.Mode.{Mode}
use Rattle.sj_path_tree.specs.declared.parts.Mode.TheVariants.{Lax, Strict}
use Rattle.sj_item.specs.Items.{ItemValue}
use Rattle.sj_item.specs.Truths.{conjunction, disjunction, negation, truth_of}
use Rattle.sj_item.specs.declared.truth.Truth.{Truth}
use Rattle.sj_item.specs.declared.truth.Truth.TheVariants.{True, False, Unknown}
use Rattle.sj_step.specs.Trace.{Trace, stop, only, after_visits, count, fault_of}
use Rattle.sj_plain_path.specs.Truths.{is_unknown}
use Rattle.sj_cursor.specs.Single.{need}

pub record Verdict : Type 0 where
  pub truth : Truth
  pub allow : ℕ

abbrev pub is_faulty : Trace → Bool
is_faulty t = is_some (fault_of t)

abbrev pub has_item : Trace → Bool
has_item t = nat_lt 0 (count t)

-- ---- connectives: the right side is not asked where the left one decides

abbrev pub unless_false : Truth → ℕ → ℕ
unless_false True n = n
unless_false False n = 0
unless_false Unknown n = n

abbrev pub unless_true : Truth → ℕ → ℕ
unless_true True n = 0
unless_true False n = n
unless_true Unknown n = n

unfoldable pub and_verdict : Verdict → Verdict → Verdict
and_verdict p q = record { truth = conjunction p.truth q.truth; allow = p.allow + unless_false p.truth q.allow }

unfoldable pub or_verdict : Verdict → Verdict → Verdict
or_verdict p q = record { truth = disjunction p.truth q.truth; allow = p.allow + unless_true p.truth q.allow }

unfoldable pub not_verdict : Verdict → Verdict
not_verdict p = record { truth = negation p.truth; allow = p.allow }

unfoldable pub unknown_verdict : Verdict → Verdict
unknown_verdict p = record { truth = truth_of (is_unknown p.truth); allow = p.allow }

-- ---- exists

-- in lax mode an item decides before a fault, and in strict mode a fault decides first
abbrev pub exists_truth : Mode → Trace → Truth
exists_truth Lax t = if has_item t then True else if is_faulty t then Unknown else False
exists_truth Strict t = if is_faulty t then Unknown else truth_of (has_item t)

unfoldable pub exists_verdict : Mode → Trace → Verdict
exists_verdict mode t = record { truth = exists_truth mode t; allow = need mode 1 t }

-- ---- a filter

abbrev pub kept : Truth → ItemValue → Trace
kept True x = only x
kept False x = stop
kept Unknown x = stop

-- an item is kept where its predicate is true, at what that may take
unfoldable pub filtered : Verdict → ItemValue → Trace
filtered v x = after_visits v.allow (kept v.truth x)
