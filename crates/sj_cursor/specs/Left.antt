-- The expression that each cell is of, which never changes, and the trace that it has left.
use Rattle.std.specs.Prelude.{◌≡◌, ℕ, Some, None, Result, ℤ}
use Rattle.sj_base.specs.declared.state.State.{State}
use Rattle.sj_base.specs.declared.state.State.TheVariants.{S22039}
use Rattle.sj_path_tree.specs.Tree as t
use Rattle.sj_path_tree.specs.declared.parts.Mode.{Mode}
use Rattle.sj_item.specs.Items.{ItemValue, item_value, made_number}
use Rattle.sj_path_tree.specs.Nodes.{pred_nodes, subs_nodes}
use Rattle.sj_step.specs.Trace.{Trace, stop, fail, only, join, each}
use Rattle.sj_step.specs.Reach.{reach, by_range, last}
use Rattle.sj_walk.specs.Walk.{walk_left}
use Rattle.sj_cursor.specs.Meaning.{Env, at_item, at_last, where_array, meaning, parts, part, verdict}
use Rattle.sj_item.specs.Truths.{truth_of}
use Rattle.sj_item.specs.declared.truth.Truth.{Truth}
use Rattle.sj_item.specs.declared.truth.Truth.TheVariants.{True, False, Unknown}
use Rattle.sj_step.specs.declared.answer.Answer.{Answer}
use Rattle.sj_step.specs.declared.answer.Answer.TheVariants as answers
use Rattle.sj_cursor.specs.Numbers.{followed}
use Rattle.sj_cursor.specs.Verdicts.{filtered}
use Rattle.sj_plain_path.specs.Truths.{is_unknown}
use Rattle.sj_cursor.specs.Cells.{source_expr, one_left, results, simple_opening, simple_on, results_left}
use Rattle.sj_plain_path.specs.Openings.{opened}
use Rattle.sj_cursor.specs.declared.cells.Simple.{Simple}
use Rattle.sj_plain_path.specs.declared.opening.Opening.{Opening}
use Rattle.sj_plain_path.specs.declared.opening.Opening.TheVariants.{AsItIs, Unwrapped}
use Rattle.sj_cursor.specs.declared.cells.Cell.{Cell}
use Rattle.sj_cursor.specs.declared.cells.Cell.TheVariants as cells
use Rattle.sj_cursor.specs.declared.cells.Operand.{Operand}
use Rattle.sj_cursor.specs.declared.cells.Each.{Each}
use Rattle.sj_cursor.specs.declared.cells.Operator.{Operator}
use Rattle.sj_cursor.specs.declared.cells.Operator.TheVariants as operators
use Rattle.sj_cursor.specs.declared.cells.Filter.{Filter}
use Rattle.sj_cursor.specs.declared.cells.Elements.{Elements}
use Rattle.sj_cursor.specs.declared.cells.At.{At}
use Rattle.sj_cursor.specs.declared.cells.At.TheVariants as ats
use Rattle.sj_cursor.specs.declared.cells.Parts.{Parts}
use Rattle.sj_cursor.specs.declared.cells.Parts.TheVariants as parts_
use Rattle.sj_cursor.specs.declared.cells.MoreParts.{MoreParts}
use Rattle.sj_cursor.specs.declared.cells.Part.{Part}
use Rattle.sj_cursor.specs.declared.cells.Bounds.{Bounds}
use Rattle.sj_cursor.specs.declared.cells.Bounds.TheVariants as bounds_
use Rattle.sj_cursor.specs.declared.cells.Range.{Range}
use Rattle.sj_cursor.specs.declared.cells.Reached.{Reached}
use Rattle.sj_cursor.specs.declared.cells.Reached.TheVariants as reacheds
use Rattle.sj_cursor.specs.declared.cells.Binary.{Binary}
use Rattle.sj_cursor.specs.declared.cells.Test.{Test}
use Rattle.sj_cursor.specs.declared.cells.Test.TheVariants as tests
use Rattle.sj_cursor.specs.declared.cells.Comparison.{Comparison}
use Rattle.sj_cursor.specs.declared.cells.Both.{Both}
use Rattle.sj_cursor.specs.declared.cells.Start.{Start}

-- ---- what is done with an item, without where it stands

pub data Doing : Type 0 where
  Acts : Simple → Doing
  Keeps : t.Pred → Doing
  Picks : t.Subs → Doing

-- the expression of it on another
abbrev pub doing_on : Doing → t.Expr → t.Expr
doing_on (Acts a) e = simple_on a e
doing_on (Keeps p) e = t.Access e (t.Filter p)
doing_on (Picks s) e = t.Access e (t.Elements s)

abbrev pub doing_opening : Doing → Opening
doing_opening (Acts a) = simple_opening a
doing_opening (Keeps p) = Unwrapped
doing_opening (Picks s) = AsItIs

-- what it gives of one item
abbrev pub done : Doing → Env → ItemValue → Trace
done (Acts a) env x = results a env.mode x
done (Keeps p) env x = filtered (verdict p (at_item env x)) x
done (Picks s) env x = where_array (last env.mode x) (λ n. parts s (at_last env n) x)

abbrev pub doing_nodes : Doing → ℕ
doing_nodes (Acts a) = 0
doing_nodes (Keeps p) = pred_nodes p
doing_nodes (Picks s) = subs_nodes s

-- ---- the expressions

abbrev mutual
  pub core : Cell → t.Expr
  core (cells.One o) = source_expr o.source
  core (cells.Each' p input walk operator) = doing_on (doing operator) (core input)
  core (cells.Binary' r op p a v q b w reached) = t.Binary op (core a) (core b)

  pub doing : Operator → Doing
  doing (operators.Simple a) = Acts a.simple
  doing (operators.Filter' p test) = Keeps (test_core test)
  doing (operators.Elements' p subs at) = Picks (parts_core subs)

  pub parts_core : Parts → t.Subs
  parts_core parts_.Empty = t.NoSubs
  parts_core (parts_.Only' bounds reached) = t.More (bounds_core bounds) t.NoSubs
  parts_core (parts_.More' bounds reached p others) = t.More (bounds_core bounds) (parts_core others)

  pub bounds_core : Bounds → t.Sub
  bounds_core (bounds_.One' p c walk) = t.One (core c)
  bounds_core (bounds_.Range' r p a v q b w) = t.Range (core a) (core b)

  pub test_core : Test → t.Pred
  test_core (tests.Compare' r op p a v q b w) = t.Compares op (core a) (core b)
  test_core (tests.And' p x q y) = t.And (test_core x) (test_core y)
  test_core (tests.Or' p x q y) = t.Or (test_core x) (test_core y)
  test_core (tests.Not' p x) = t.Not (test_core x)
  test_core (tests.IsUnknown' p x) = t.IsUnknown (test_core x)
  test_core (tests.Exists' p c walk) = t.Exists (core c)
  test_core (tests.StartsWith' p c walk initial) = t.StartsWith (core c) initial.now

abbrev pub operand_core : Operand → t.Expr
operand_core o = core o.cell.value

abbrev pub each_core : Each → t.Expr
each_core e = doing_on (doing e.operator) (operand_core e.input)

abbrev pub binary_core : Binary → t.Expr
binary_core b = t.Binary b.op (operand_core b.left) (operand_core b.right)

abbrev pub filter_core : Filter → t.Pred
filter_core f = test_core f.test.value

abbrev pub elements_core : Elements → t.Subs
elements_core e = parts_core e.parts.value

abbrev pub more_core : MoreParts → t.Subs
more_core m = t.More (bounds_core m.first.bounds) (parts_core m.others.value)

abbrev pub part_core : Part → t.Sub
part_core s = bounds_core s.bounds

abbrev pub range_core : Range → t.Sub
range_core r = t.Range (operand_core r.from) (operand_core r.to)

abbrev pub comparison_core : Comparison → t.Pred
comparison_core c = t.Compares c.op (operand_core c.left) (operand_core c.right)

abbrev pub start_core : Start → t.Pred
start_core s = t.StartsWith (operand_core s.text) s.initial.now

-- ---- what is left

-- all items of an expression, each opened
abbrev pub operand_whole : Opening → t.Expr → Env → Trace
operand_whole how e env = each (meaning e env) (opened how env.mode)

abbrev pub reached_left : Reached → Trace
reached_left reacheds.Unasked = stop
reached_left (reacheds.Walk w) = walk_left w

-- a part, or two operands, whose trace is t before they are asked
abbrev pub begun_left : Reached → Trace → Trace
begun_left reacheds.Unasked t = t
begun_left (reacheds.Walk w) t = walk_left w

abbrev pub parts_left : Parts → Env → ItemValue → Trace
parts_left parts_.Empty env x = stop
parts_left (parts_.Only' bounds reached) env x = begun_left reached (part (bounds_core bounds) env x)
parts_left (parts_.More' bounds reached p others) env x = join (begun_left reached (part (bounds_core bounds) env x)) (parts_left others env x)

abbrev pub part_left : Part → Env → ItemValue → Trace
part_left s env x = begun_left s.reached (part (part_core s) env x)

abbrev pub more_left : MoreParts → Env → ItemValue → Trace
more_left m env x = join (part_left m.first env x) (parts_left m.others.value env x)

abbrev pub at_left : At → Parts → Env → Trace
at_left ats.Nothing subs env = stop
at_left (ats.Refused s) subs env = fail s
at_left (ats.On spot) subs env = parts_left subs (at_last env spot.last) (item_value spot.item)

abbrev pub elements_left : Elements → Env → Trace
elements_left e env = at_left e.at e.parts.value env

abbrev pub operator_left : Operator → Env → Trace
operator_left (operators.Simple a) env = results_left a.left
operator_left (operators.Filter' p test) env = stop
operator_left (operators.Elements' p subs at) env = at_left at subs env

abbrev pub left : Cell → Env → Trace
left (cells.One o) env = one_left o env
left (cells.Each' p input walk operator) env =
    join (operator_left operator env) (each (join (walk_left walk) (each (left input env) (opened (doing_opening (doing operator)) env.mode))) (done (doing operator) env))
left (cells.Binary' r op p a v q b w reached) env = begun_left reached (meaning (t.Binary op (core a) (core b)) env)

abbrev pub operand_left : Opening → Operand → Env → Trace
operand_left how o env = join (walk_left o.opened) (each (left o.cell.value env) (opened how env.mode))

abbrev pub each_left : Each → Env → Trace
each_left e env = join (operator_left e.operator env) (each (operand_left (doing_opening (doing e.operator)) e.input env) (done (doing e.operator) env))

abbrev pub binary_left : Binary → Env → Trace
binary_left b env = begun_left b.reached (meaning (binary_core b) env)

-- both sides of a connective
abbrev pub both_and : Both → t.Pred
both_and b = t.And (test_core b.left.value) (test_core b.right.value)

abbrev pub both_or : Both → t.Pred
both_or b = t.Or (test_core b.left.value) (test_core b.right.value)

abbrev pub unknown_truth : Truth → Truth
unknown_truth r = truth_of (is_unknown r)

-- the answer of a filter on an item of which its predicate has this truth
abbrev pub kept_answer : Truth → Answer
kept_answer True = answers.Item
kept_answer False = answers.End
kept_answer Unknown = answers.End

-- ---- what follows operands and subscripts

-- a number that was made, or the fault in its place
abbrev pub only_number : Result (ℤ × ℕ) State → Trace
only_number made = followed made (λ d. only (made_number d))

abbrev pub element_at : Result ℤ State → Mode → ItemValue → Trace
element_at index mode x = followed index (λ i. reach (by_range i i) mode x)

abbrev pub range_between : Result ℤ State → Result ℤ State → Mode → ItemValue → Trace
range_between from to mode x = followed from (λ i. followed to (λ j. reach (by_range i j) mode x))

-- a list of subscripts stands at its beginning on the item x, or x was refused
abbrev pub IsPlaced : Mode → ItemValue → At → Type 0
IsPlaced mode x ats.Nothing = ⊥
IsPlaced mode x (ats.Refused s) = (last mode x ≡ None) × (s ≡ S22039)
IsPlaced mode x (ats.On spot) = (last mode x ≡ Some spot.last) × (item_value spot.item ≡ x)
