-- A trace that is a number which arithmetic made, or the fault in its place.
use Rattle.std.proofs.Common.{◌≡◌, ℕ, ◌+◌, ◌≤◌, Result, Ok, Err, ℤ, ap, sym, ◌∙◌, refl, arith}
use Rattle.sj_base.specs.Count.{raised}
use Rattle.sj_base.specs.declared.state.State.{State}
use Rattle.sj_base.specs.declared.state.State.TheVariants.{S22038}
use Rattle.sj_path_tree.specs.Tree as t
use Rattle.sj_path_tree.specs.declared.parts.Mode.{Mode}
use Rattle.sj_path_tree.specs.declared.parts.Mode.TheVariants.{Lax, Strict}
use Rattle.sj_step.specs.Reach.{reach, unwrap}
use Rattle.sj_step.specs.Trace.{Trace, after_visits, each}
use Rattle.sj_step.proofs.Traces.{items-after_visits, count-after_visits, visits-after_visits, fault-after_visits, visits_before-after_visits, each-after_visits}
use Rattle.sj_method.specs.Numbers.{operand_of}
use Rattle.sj_cursor.specs.Looks.{single_made}
use Rattle.sj_cursor.specs.Single.{need, single}
use Rattle.sj_cursor.specs.Numbers.{operand_in}
use Rattle.sj_cursor.specs.Meaning.{Env, meaning}
use Rattle.sj_cursor.specs.Left.{operand_whole, only_number}
use Rattle.sj_cursor.specs.Trails.{Leads}
use Rattle.sj_plain_path.specs.declared.opening.Opening.TheVariants.{Unwrapped}

-- ---- behind visits

single-after_visits : (mode : Mode) (s : State) (n : ℕ) (t : Trace) → single mode s (after_visits n t) ≡ single mode s t
single-after_visits Lax s n t = rw (count-after_visits n t, fault-after_visits n t, items-after_visits n t) refl
single-after_visits Strict s n t = rw (fault-after_visits n t, items-after_visits n t) refl

need-after_visits : (mode : Mode) (n : ℕ) (t : Trace) → need mode 2 (after_visits n t) ≡ n + need mode 2 t
need-after_visits Lax n t = visits_before-after_visits 1 n t
need-after_visits Strict n t = visits-after_visits n t

-- ---- the number

single_number : (mode : Mode) (s : State) (r : Result (ℤ × ℕ) State) → single mode s (only_number r) ≡ single_made r
single_number Lax s (Ok d) = refl
single_number Lax s (Err f) = refl
single_number Strict s (Ok d) = refl
single_number Strict s (Err f) = refl

need_number : (mode : Mode) (r : Result (ℤ × ℕ) State) → need mode 2 (only_number r) ≡ 0
need_number Lax (Ok d) = refl
need_number Lax (Err f) = refl
need_number Strict (Ok d) = refl
need_number Strict (Err f) = refl

operand_number : (r : Result (ℤ × ℕ) State) → operand_in (single_made r) ≡ r
unfolding operand_of
operand_number (Ok d) = refl
operand_number (Err f) = refl

-- it is no array
number_flat : (mode : Mode) (r : Result (ℤ × ℕ) State) → each (only_number r) (unwrap mode) ≡ only_number r
unfolding reach
number_flat mode (Ok d) = refl
number_flat mode (Err f) = refl

-- ---- the whole

module _ (trace : Trace) (r : Result (ℤ × ℕ) State) (a b : ℕ) (l : Leads trace a (only_number r) b) where
  pub made_is_single : (mode : Mode) (s : State) → single_made r ≡ single mode s trace
  made_is_single mode s = sym (ap (single mode s) l.is ∙ single-after_visits mode s l.spent (only_number r) ∙ single_number mode s r)

  pub made_price : (mode : Mode) → b ≤ raised a (need mode 2 trace)
  made_price mode =
      let price : need mode 2 trace ≡ l.spent + 0 = ap (need mode 2) l.is ∙ need-after_visits mode l.spent (only_number r) ∙ ap (λ n. l.spent + n) (need_number mode r) in
      omega (arith, price, l.costs)

  flat : (mode : Mode) → each trace (unwrap mode) ≡ trace
  flat mode =
      ap (λ u. each u (unwrap mode)) l.is ∙ each-after_visits l.spent (only_number r) (unwrap mode) ∙ ap (after_visits l.spent) (number_flat mode r) ∙ sym l.is

-- as an operand
pub operand_made : (e : t.Expr) (env : Env) (r : Result (ℤ × ℕ) State) (a b : ℕ) → Leads (meaning e env) a (only_number r) b → r ≡ operand_in (single env.mode S22038 (operand_whole Unwrapped e env))
operand_made e env r a b l = sym (operand_number r) ∙ ap operand_in (made_is_single (meaning e env) r a b l env.mode S22038) ∙ ap (λ u. operand_in (single env.mode S22038 u)) (sym (flat (meaning e env) r a b l env.mode))

pub operand_price : (e : t.Expr) (env : Env) (r : Result (ℤ × ℕ) State) (a b : ℕ) → Leads (meaning e env) a (only_number r) b → b ≤ raised a (need env.mode 2 (operand_whole Unwrapped e env))
operand_price e env r a b l = rw (flat (meaning e env) r a b l env.mode) (made_price (meaning e env) r a b l env.mode)
