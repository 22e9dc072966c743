-- The answer of a statement, from what it is read as and what is noted of it.
use Rattle.std.proofs.Common.{◌≡◌, ◌⊎◌, inl, inr, List, [], ◌∷◌, Option, Some, None, Result, Ok, Err, option_map, refl, sym, ap, ap₂, subst, ◌∙◌}
use Rattle.sj_path_grammar.specs.declared.refusal.Name.{Name}
use Rattle.sj_path_grammar.specs.declared.refusal.PathRefusal.{PathRefusal}
use Rattle.sj_path_grammar.specs.declared.refusal.PathRefusal.TheVariants as r
use Rattle.sj_path_tree.specs.Tree.{Path}
use Rattle.sj_sql_grammar.specs.declared.refusal.FileKind.{FileKind}
use Rattle.sj_sql_grammar.specs.declared.refusal.FileKind.TheVariants as kind
use Rattle.sj_sql_grammar.specs.Tree.{PathText, Written, OfName, Value, Lit, Column, Exists, ValueOf, Query, IsJson, Object, Array, Values, NoValues, MoreValues, Members, NoMembers, MoreMembers, Item, Single, ArrayAgg, ObjectAgg, ColumnOf, Ordinality, Regular, Formatted, Existence, Nested, Columns, Last, More, Table, Statement, Plain, All, Listed}
use Rattle.sj_sql_grammar.specs.Phrases.{Tokens}
use Rattle.sj_sql_grammar.specs.Grammar.{IsTooDeep, IsStatement}
use Rattle.sj_sql_grammar.specs.Notes.{Notes, written, value_with, values_with, members_with, item_with, column_with, columns_with, table_with, plain_with, items_with, statement_with, note_statement}
use Rattle.sj_sql_grammar.specs.Reading.{select_at}
use Rattle.sj_sql_grammar.specs.Answers.{Mark, path, unsupported, marks, path_kind, IsFault, IsUnsupported, First, here, later, finishing, Clean, Accepted, Forbids, IsAnswer}
use Rattle.sj_sql_grammar.specs.Faults.{Faults, nothing_noted, parsing}
use Rattle.sj_sql_grammar.proofs.ReadTokens.{some_is}
use Rattle.sj_sql_grammar.proofs.TableCompleteness.{select_full}
use Rattle.sj_sql_grammar.proofs.ReadingFinds.{read, unread}
use Rattle.sj_sql_grammar.proofs.Laws.{one_tree, found}
use Rattle.sj_sql_grammar.proofs.Firsts.{none_some, first, free_first, is_first}
use Rattle.sj_sql_grammar.proofs.Faults.{fault_of, unsupported_of, tells_fault, told_fault, tells_unsupported, told_unsupported, noted_of, first_fault, no_fault, first_unsupported, no_unsupported}

-- ---- reading with notes

-- a tree that was read, with its paths and its notes
abbrev with_notes : {P F : Type 0} → Notes P F → F → Statement PathText × Unit {0} → Statement P × F
with_notes n f x = (statement_with n x.0, note_statement n x.0 f)

none_there : {P F : Type 0} (n : Notes P F) (f : F) (ts : Tokens) → select_at written tt ts ≡ None → (o : Option (Statement P × F)) → select_at n f ts ≡ o → o ≡ None
none_there n f ts e None q = refl
none_there n f ts e (Some y) q = let t = read n f ts y q in absurd (unread written tt ts e t.tree t.select)

pub noted_reading : {P F : Type 0} (n : Notes P F) (f : F) (ts : Tokens) → select_at n f ts ≡ option_map (with_notes n f) (select_at written tt ts)
noted_reading n f ts = go (select_at written tt ts) refl
  where
    go : (o : Option (Statement PathText × Unit {0})) → select_at written tt ts ≡ o → select_at n f ts ≡ option_map (with_notes n f) o
    go None e = none_there n f ts e (select_at n f ts) refl
    go (Some x) e = select_full n (found ts x.0 e) f

-- ---- one path stands for each in the parser and in what is accepted

mutual
  value_alike : (x : Value PathText) → value_with parsing x ≡ value_with finishing x
  value_alike (Lit x) = refl
  value_alike (Column name) = refl
  value_alike (Exists c) = refl
  value_alike (ValueOf c) = refl
  value_alike (Query c) = refl
  value_alike (IsJson c) = refl
  value_alike (Object members n u) = ap (λ m. Object m n u) (members_alike members)
  value_alike (Array values n) = ap (λ v. Array v n) (values_alike values)

  values_alike : (xs : Values PathText) → values_with parsing xs ≡ values_with finishing xs
  values_alike NoValues = refl
  values_alike (MoreValues x others) = ap₂ MoreValues (value_alike x) (values_alike others)

  members_alike : (xs : Members PathText) → members_with parsing xs ≡ members_with finishing xs
  members_alike NoMembers = refl
  members_alike (MoreMembers x y others) =
      ap (λ v. MoreMembers v (value_with parsing y) (members_with parsing others)) (value_alike x) ∙ ap₂ (MoreMembers (value_with finishing x)) (value_alike y) (members_alike others)

item_alike : (x : Item PathText) → item_with parsing x ≡ item_with finishing x
item_alike (Single x) = ap Single (value_alike x)
item_alike (ArrayAgg x n) = ap (λ v. ArrayAgg v n) (value_alike x)
item_alike (ObjectAgg x y n u) = ap₂ (λ v w. ObjectAgg v w n u) (value_alike x) (value_alike y)

mutual
  column_alike : (x : ColumnOf PathText) → column_with parsing x ≡ column_with finishing x
  column_alike (Ordinality name) = refl
  column_alike (Regular c) = refl
  column_alike (Formatted c) = refl
  column_alike (Existence name p action) = refl
  column_alike (Nested p name columns) = ap (Nested (finishing.path_of p) name) (columns_alike columns)

  columns_alike : (xs : Columns PathText) → columns_with parsing xs ≡ columns_with finishing xs
  columns_alike (Last x) = ap Last (column_alike x)
  columns_alike (More x others) = ap₂ More (column_alike x) (columns_alike others)

table_alike : (x : Table PathText) → table_with parsing x ≡ table_with finishing x
table_alike x = ap (λ c. record (table_with parsing x) { columns = c }) (columns_alike x.columns)

plain_alike : (xs : List (Value PathText)) → plain_with parsing xs ≡ plain_with finishing xs
plain_alike [] = refl
plain_alike (x ∷ xs) = ap₂ (λ v vs. v ∷ vs) (value_alike x) (plain_alike xs)

items_alike : (xs : List (Item PathText)) → items_with parsing xs ≡ items_with finishing xs
items_alike [] = refl
items_alike (x ∷ xs) = ap₂ (λ v vs. v ∷ vs) (item_alike x) (items_alike xs)

statement_alike : (x : Statement PathText) → statement_with parsing x ≡ statement_with finishing x
statement_alike (Plain xs) = ap Plain (plain_alike xs)
statement_alike (All t) = ap All (table_alike t)
statement_alike (Listed xs t) = ap₂ Listed (items_alike xs) (table_alike t)

-- ---- the kinds of the faults of paths

abbrev IsPathKind : FileKind → Type 0
IsPathKind kind.PathLex = Unit {0}
IsPathKind kind.PathTooDeep = Unit {0}
IsPathKind kind.PathSyntax = Unit {0}
IsPathKind kind.PathMisplaced = Unit {0}
IsPathKind _ = ⊥

refusal_kind : (e : PathRefusal) (k : FileKind) → path_kind e ≡ Some k → IsPathKind k
refusal_kind r.Lex k h = subst IsPathKind (some_is h) tt
refusal_kind r.TooDeep k h = subst IsPathKind (some_is h) tt
refusal_kind r.Syntax k h = subst IsPathKind (some_is h) tt
refusal_kind r.Misplaced k h = subst IsPathKind (some_is h) tt
refusal_kind (r.Unsupported name) k h = absurd (none_some h)
refusal_kind r.Memory k h = absurd (none_some h)

mark_kind : (m : Mark) (k : FileKind) → IsFault m k → IsPathKind k
mark_kind (path (Written text)) k i = refusal_kind i.0 k i.2
mark_kind (path (OfName name)) k i = absurd i
mark_kind (unsupported name) k i = absurd i

first_kind : {ms : List Mark} {k : FileKind} → First IsFault ms k → IsPathKind k
first_kind (here {m = m} {x = k} i) = mark_kind m k i
first_kind (later other rest) = first_kind rest

by_path : (ts : Tokens) (x : Statement PathText) (k : FileKind) → IsStatement ts x → First IsFault (marks x) k → IsPathKind k → Forbids ts k
by_path ts x kind.PathLex d i h = (x, d, i)
by_path ts x kind.PathTooDeep d i h = (x, d, i)
by_path ts x kind.PathSyntax d i h = (x, d, i)
by_path ts x kind.PathMisplaced d i h = (x, d, i)
by_path ts x kind.Lex d i h = absurd h
by_path ts x kind.Syntax d i h = absurd h
by_path ts x (kind.Unsupported name) d i h = absurd h
by_path ts x (kind.Bind why) d i h = absurd h
by_path ts x kind.Group d i h = absurd h
by_path ts x kind.NotForward d i h = absurd h

-- ---- the answer of a statement

pub too_deep : (ts : Tokens) → IsTooDeep ts → Forbids ts kind.Syntax
too_deep ts deep x d = d.shallow deep

pub no_tree : (ts : Tokens) → select_at parsing nothing_noted ts ≡ None → Forbids ts kind.Syntax
no_tree ts h x d = unread parsing nothing_noted ts h x d.select

-- what was read, and the tree of the tokens
record IsRead (ts : Tokens) (s : Statement Path) (f : Faults) : Type 0 where
  tree : Statement PathText
  spelled : IsStatement ts tree
  statement : s ≡ statement_with finishing tree
  faults : noted_of tree ≡ f

read_so : (ts : Tokens) (s : Statement Path) (f : Faults) → (IsTooDeep ts → ⊥) → select_at parsing nothing_noted ts ≡ Some (s, f) → IsRead ts s f
read_so ts s f shallow h =
    let t = read parsing nothing_noted ts (s, f) h in record {
      tree = t.tree;
      spelled = record { shallow = shallow; select = t.select };
      statement = ap (λ (y : Statement Path × Faults). y.0) t.is ∙ statement_alike t.tree;
      faults = sym (ap (λ (y : Statement Path × Faults). y.1) t.is);
    }

path_noted : (x : Statement PathText) (f : Faults) (o : Option FileKind) → noted_of x ≡ f → f.path ≡ o → (noted_of x).path ≡ o
path_noted x f o e h = ap (λ (g : Faults). g.path) e ∙ h

unsupported_noted : (x : Statement PathText) (f : Faults) (o : Option Name) → noted_of x ≡ f → f.unsupported ≡ o → (noted_of x).unsupported ≡ o
unsupported_noted x f o e h = ap (λ (g : Faults). g.unsupported) e ∙ h

pub path_fault : (ts : Tokens) (s : Statement Path) (f : Faults) (k : FileKind) → (IsTooDeep ts → ⊥) → select_at parsing nothing_noted ts ≡ Some (s, f) → f.path ≡ Some k → Forbids ts k
path_fault ts s f k shallow h e =
    let t = read_so ts s f shallow h in
    let i = (first_fault t.tree k).0 (path_noted t.tree f (Some k) t.faults e) in
    by_path ts t.tree k t.spelled i (first_kind i)

pub lacking : (ts : Tokens) (s : Statement Path) (f : Faults) (name : Name) → (IsTooDeep ts → ⊥) → select_at parsing nothing_noted ts ≡ Some (s, f) → f.path ≡ None → f.unsupported ≡ Some name → Forbids ts (kind.Unsupported name)
lacking ts s f name shallow h e l =
    let t = read_so ts s f shallow h in
    (t.tree, t.spelled, (no_fault t.tree).0 (path_noted t.tree f None t.faults e), (first_unsupported t.tree name).0 (unsupported_noted t.tree f (Some name) t.faults l))

pub clean : (ts : Tokens) (s : Statement Path) (f : Faults) → (IsTooDeep ts → ⊥) → select_at parsing nothing_noted ts ≡ Some (s, f) → f.path ≡ None → f.unsupported ≡ None → Accepted ts s
clean ts s f shallow h e l =
    let t = read_so ts s f shallow h in
    let is : Clean ts t.tree = record {
      tree = t.spelled;
      faultless = (no_fault t.tree).0 (path_noted t.tree f None t.faults e);
      supported = (no_unsupported t.tree).0 (unsupported_noted t.tree f None t.faults l);
    } in
    (t.tree, is, t.statement)

-- ---- at most one answer holds

abbrev decide : Option FileKind → Option Name → Statement Path → Result (Statement Path) FileKind
decide (Some k) l s = Err k
decide None (Some name) s = Err (kind.Unsupported name)
decide None None s = Ok s

abbrev verdict : Statement PathText → Result (Statement Path) FileKind
verdict x = decide (first fault_of (marks x)) (first unsupported_of (marks x)) (statement_with finishing x)

-- there is no tree, or the answer is that of the tree
abbrev Shape : Tokens → Result (Statement Path) FileKind → Type 0
Shape ts a = ((a ≡ Err kind.Syntax) × ((x : Statement PathText) → IsStatement ts x → ⊥)) ⊎ ((x : Statement PathText) × IsStatement ts x × (a ≡ verdict x))

fault_shape : (ts : Tokens) (k : FileKind) (x : Statement PathText) → IsStatement ts x → First IsFault (marks x) k → Shape ts (Err k)
fault_shape ts k x d i = inr (x, d, ap (λ (o : Option FileKind). decide o (first unsupported_of (marks x)) (statement_with finishing x)) (sym (is_first fault_of IsFault tells_fault told_fault i)))

shape : (ts : Tokens) (a : Result (Statement Path) FileKind) → IsAnswer ts a → Shape ts a
shape ts (Ok s) h =
    let x = h.0 in
    let f : first fault_of (marks x) ≡ None = free_first fault_of IsFault tells_fault told_fault h.1.faultless in
    let l : first unsupported_of (marks x) ≡ None = free_first unsupported_of IsUnsupported tells_unsupported told_unsupported h.1.supported in
    inr (x, h.1.tree, ap Ok h.2 ∙ ap₂ (λ (o : Option FileKind) (p : Option Name). decide o p (statement_with finishing x)) (sym f) (sym l))
shape ts (Err kind.Lex) h = absurd h
shape ts (Err kind.Syntax) h = inl (refl, h)
shape ts (Err kind.PathLex) h = fault_shape ts kind.PathLex h.0 h.1 h.2
shape ts (Err kind.PathTooDeep) h = fault_shape ts kind.PathTooDeep h.0 h.1 h.2
shape ts (Err kind.PathSyntax) h = fault_shape ts kind.PathSyntax h.0 h.1 h.2
shape ts (Err kind.PathMisplaced) h = fault_shape ts kind.PathMisplaced h.0 h.1 h.2
shape ts (Err (kind.Unsupported name)) h =
    let x = h.0 in
    let f : first fault_of (marks x) ≡ None = free_first fault_of IsFault tells_fault told_fault h.2 in
    let l : first unsupported_of (marks x) ≡ Some name = is_first unsupported_of IsUnsupported tells_unsupported told_unsupported h.3 in
    inr (x, h.1, ap₂ (λ (o : Option FileKind) (p : Option Name). decide o p (statement_with finishing x)) (sym f) (sym l))
shape ts (Err (kind.Bind why)) h = absurd h
shape ts (Err kind.Group) h = absurd h
shape ts (Err kind.NotForward) h = absurd h

pub one_answer : (ts : Tokens) (a b : Result (Statement Path) FileKind) → IsAnswer ts a → IsAnswer ts b → a ≡ b
one_answer ts a b h i = go (shape ts a h) (shape ts b i)
  where
    go : Shape ts a → Shape ts b → a ≡ b
    go (inl p) (inl q) = p.0 ∙ sym q.0
    go (inl p) (inr q) = absurd (p.1 q.0 q.1)
    go (inr p) (inl q) = absurd (q.1 p.0 p.1)
    go (inr p) (inr q) = p.2 ∙ ap verdict (one_tree ts p.0 q.0 p.1 q.1) ∙ sym q.2
