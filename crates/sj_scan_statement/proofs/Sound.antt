-- The statement of a forward path is sound: its path has no variables.
use Rattle.std.proofs.Common.{◌≡◌, ℕ, Bool, cond, ne_eqb, true, false, List, [], ◌∷◌, ◌++◌, Option, None, Some, is_some, inl, refl, ◌∙◌, ap, subst, arith}
use Rattle.std.proofs.lemmas.List.Elements.{All-nil, All-cons}
use Rattle.sj_path_tree.specs.declared.parts.Mode.{Mode}
use Rattle.sj_path_tree.specs.declared.parts.Mode.TheVariants.{Lax, Strict}
use Rattle.sj_path_tree.specs.Tree.{Path, Expr, Root, Var, Context, Last, Lit, Access, Plus, Minus, Binary, Step, Member, AllMembers, AllElements, Elements, Filter, Call, Sub, One, Range, NoSubs, More}
use Rattle.std.specs.List.{All, list_all}
use Rattle.sj_path_tree.specs.Vars.{expr_names, step_names, sub_names, has_name, covers}
use Rattle.sj_value.specs.Plans.{path_rows, times, IsPlanOver}
use Rattle.sj_forward.specs.Forward.{Accessor, index, span, span_of, accessor_of, then, on_root, is_forward}
use Rattle.sj_bound.specs.Sound.{IsSoundItem, IsSoundColumn, is_aggregate, IsSound}
use Rattle.sj_bound.specs.Bound.{Single, Column}
use Rattle.sj_scan_statement.specs.Statement.{item_column, scan_statement}

-- ---- no part of a forward path names a variable

both : (x y : Option ℕ) → is_some (span x y) ≡ true → (is_some x ≡ true) × (is_some y ≡ true)
both (Some x) (Some y) h = (refl, refl)
both (Some x) None h = absurd (cc h)
both None y h = absurd (cc h)

index_names : (e : Expr) → is_some (index e) ≡ true → expr_names e ≡ []
index_names (Lit literal) h = refl
index_names Root h = refl
index_names (Var name) h = absurd (cc h)
index_names Context h = refl
index_names Last h = refl
index_names (Access e s) h = absurd (cc h)
index_names (Plus e) h = absurd (cc h)
index_names (Minus e) h = absurd (cc h)
index_names (Binary op a b) h = absurd (cc h)

span_names : (s : Sub) → is_some (span_of s) ≡ true → sub_names s ≡ []
span_names (One e) h = index_names e (both (index e) (index e) h).0
span_names (Range from to) h =
    let b = both (index from) (index to) h in
    ap (λ (ns : List (List ℕ)). ns ++ expr_names to) (index_names from b.0) ∙ index_names to b.1

accessor_names : (s : Step) → is_some (accessor_of s) ≡ true → step_names s ≡ []
accessor_names (Member key) h = refl
accessor_names AllMembers h = refl
accessor_names AllElements h = refl
accessor_names (Elements NoSubs) h = refl
accessor_names (Elements (More s NoSubs)) h = ap (λ (ns : List (List ℕ)). ns ++ []) (span_names s h)
accessor_names (Elements (More s (More t others))) h = absurd (cc h)
accessor_names (Filter p) h = absurd (cc h)
accessor_names (Call method) h = refl

parts : (x : Option (List Accessor)) (y : Option Accessor) → is_some (then x y) ≡ true → (is_some x ≡ true) × (is_some y ≡ true)
parts (Some x) (Some y) h = (refl, refl)
parts (Some x) None h = absurd (cc h)
parts None y h = absurd (cc h)

chain_names : (e : Expr) → is_some (on_root e) ≡ true → expr_names e ≡ []
chain_names Root h = refl
chain_names (Access e s) h =
    let b = parts (on_root e) (accessor_of s) h in
    ap (λ (ns : List (List ℕ)). ns ++ step_names s) (chain_names e b.0) ∙ accessor_names s b.1
chain_names (Var name) h = absurd (cc h)
chain_names Context h = refl
chain_names Last h = refl
chain_names (Lit literal) h = refl
chain_names (Plus e) h = absurd (cc h)
chain_names (Minus e) h = absurd (cc h)
chain_names (Binary op a b) h = absurd (cc h)

forward_names : (mode : Mode) (e : Expr) → is_forward (record { mode = mode; expr = e }) ≡ true → expr_names e ≡ []
forward_names Lax e h = chain_names e h
forward_names Strict e h = absurd (cc h)

covered : (path : Path) → is_forward path ≡ true → covers [] path ≡ true
covered path h = ap (list_all (has_name [])) (forward_names path.mode path.expr h)

-- ---- the statement

one : {X : Type 0} (P : X → Type 0) (x : X) → P x → All P (x ∷ [])
one P x p = All-cons P x [] p (All-nil P)

alone : IsPlanOver 1 (path_rows 0)
alone = record {
  root = refl;
  once = λ k below. let only : 0 ≡ k = omega (arith, below) in subst (λ (n : ℕ). times n (path_rows 0) ≡ 1) only refl;
  others = λ k above. ap (λ (b : Bool). cond b 1 0) (ne_eqb k 0 (λ none. absurd (omega (arith, none, above))));
}

pub sound : (path : Path) → is_forward path ≡ true → IsSound (scan_statement path)
sound path h = record {
  items = one (IsSoundItem (item_column ∷ [])) (Single (Column 0)) (omega arith);
  alike = inl (one (λ x. is_aggregate x ≡ false) (Single (Column 0)) refl);
  table = record {
    covered = one (λ p. covers [] p ≡ true) path (covered path h);
    plan = alone;
    columns = one (IsSoundColumn [] 1) item_column (omega arith, refl);
    few_paths = omega arith;
    few_columns = omega arith;
  };
  few_items = omega arith;
}
