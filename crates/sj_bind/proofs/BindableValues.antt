-- Where no rule is broken, the values can be bound.
use Rattle.std.proofs.Common.{◌≡◌, ℕ, false, not, List, [], ◌∷◌, ◌++◌, sym, ap, subst}
use Rattle.std.specs.List.{All, AllByRecursion, list_any}
use Rattle.std.proofs.lemmas.List.Elements.{All-head, All-tail}
use Rattle.sj_base.specs.Names.{is_among}
use Rattle.sj_path_tree.specs.Tree.{Path}
use Rattle.sj_sql_grammar.specs.Tree.{Value, Lit, Column, Exists, ValueOf, Query, IsJson, Object, Array, Values, NoValues, MoreValues, Members, NoMembers, MoreMembers, Item, Single, ArrayAgg, ObjectAgg}
use Rattle.sj_bind.specs.Clauses.{sql_type, default_fails}
use Rattle.sj_bind.specs.Fits.{IsFit, AreFit, AreFitMembers, IsItemFit, AreItemsFit, AreListFit}
use Rattle.sj_bind.specs.Parts.{Call, calls_in, calls_in_values, calls_in_members, calls_in_list, names_in, names_in_values, names_in_members, names_in_item, names_in_items}
use Rattle.sj_bind.specs.Rules.{call_passes_twice, call_lacks_variable, call_default_fails}
use Rattle.sj_bind.specs.Bindable.{IsBindableCall, HasNoColumn, AsksNothing}
use Rattle.sj_bind.proofs.Lists.{holds, neither, apart, halves}

-- ---- functions

pub record IsKept (c : Call Path) : Type 0 where
  pub bindable : IsBindableCall c
  pub once : call_passes_twice c ≡ false
  pub covered : call_lacks_variable c ≡ false
  pub casts : call_default_fails c ≡ false

-- the functions keep the rules on them
abbrev pub AreKept : List (Call Path) → Type 0
AreKept cs = AllByRecursion IsKept cs

pub kept_calls : (cs : List (Call Path)) → All IsBindableCall cs → list_any call_passes_twice cs ≡ false → list_any call_lacks_variable cs ≡ false → list_any call_default_fails cs ≡ false → AreKept cs
kept_calls [] bindable once covered casts = tt
kept_calls (c ∷ cs) bindable once covered casts =
    let o = neither (call_passes_twice c) (list_any call_passes_twice cs) once in
    let v = neither (call_lacks_variable c) (list_any call_lacks_variable cs) covered in
    let d = neither (call_default_fails c) (list_any call_default_fails cs) casts in
    (record { bindable = All-head IsBindableCall c cs bindable; once = o.0; covered = v.0; casts = d.0 }, kept_calls cs (All-tail IsBindableCall c cs bindable) o.1 v.1 d.1)

-- where there is none
pub no_calls : (cs : List (Call Path)) → cs ≡ [] → AreKept cs
no_calls cs h = subst AreKept (sym h) tt

-- ---- values, beside these names

module _ (names : List (List ℕ)) where
  mutual
    fit : (x : Value Path) → AreKept (calls_in x) → list_any (λ name. not (is_among names name)) (names_in x) ≡ false → IsFit names x
    fit (Lit x) kept known = tt
    fit (Column name) kept known = holds (is_among names name) (neither (not (is_among names name)) false known).0
    fit (Exists c) kept known = kept.0.once
    fit (ValueOf c) kept known =
        let d = neither (default_fails (sql_type c.ty) c.on_empty) (default_fails (sql_type c.ty) c.on_error) kept.0.casts in
        record { once = kept.0.once; castable = record { bindable = kept.0.bindable.1; empty_casts = d.0; error_casts = d.1 } }
    fit (Query c) kept known = kept.0.once
    fit (IsJson c) kept known = tt
    fit (Object members _ unique) kept known = fit_members members kept known
    fit (Array values _) kept known = fit_values values kept known

    fit_values : (xs : Values Path) → AreKept (calls_in_values xs) → list_any (λ name. not (is_among names name)) (names_in_values xs) ≡ false → AreFit names xs
    fit_values NoValues kept known = tt
    fit_values (MoreValues x others) kept known =
        let p = halves IsKept (calls_in x) (calls_in_values others) kept in
        let n = apart (λ (name : List ℕ). not (is_among names name)) (names_in x) (names_in_values others) known in
        (fit x p.0 n.0, fit_values others p.1 n.1)

    fit_members : (xs : Members Path) → AreKept (calls_in_members xs) → list_any (λ name. not (is_among names name)) (names_in_members xs) ≡ false → AreFitMembers names xs
    fit_members NoMembers kept known = tt
    fit_members (MoreMembers key x others) kept known =
        let p = halves IsKept (calls_in key ++ calls_in x) (calls_in_members others) kept in
        let q = halves IsKept (calls_in key) (calls_in x) p.0 in
        let n = apart (λ (name : List ℕ). not (is_among names name)) (names_in key ++ names_in x) (names_in_members others) known in
        let m = apart (λ (name : List ℕ). not (is_among names name)) (names_in key) (names_in x) n.0 in
        (fit key q.0 m.0, fit x q.1 m.1, fit_members others p.1 n.1)

  fit_item : (x : Item Path) → AsksNothing x → list_any (λ name. not (is_among names name)) (names_in_item x) ≡ false → IsItemFit names x
  fit_item (Single x) none known = fit x (no_calls (calls_in x) none) known
  fit_item (ArrayAgg x _) none known = fit x (no_calls (calls_in x) none) known
  fit_item (ObjectAgg key x _ unique) none known =
      let p = halves IsKept (calls_in key) (calls_in x) (no_calls (calls_in key ++ calls_in x) none) in
      let n = apart (λ (name : List ℕ). not (is_among names name)) (names_in key) (names_in x) known in
      (fit key p.0 n.0, fit x p.1 n.1)

  pub fit_items : (xs : List (Item Path)) → All AsksNothing xs → list_any (λ name. not (is_among names name)) (names_in_items xs) ≡ false → AreItemsFit names xs
  fit_items [] none known = tt
  fit_items (x ∷ xs) none known =
      let n = apart (λ (name : List ℕ). not (is_among names name)) (names_in_item x) (names_in_items xs) known in
      (fit_item x (All-head AsksNothing x xs none) n.0, fit_items xs (All-tail AsksNothing x xs none) n.1)

-- a name that does not stand there is none that is not known
pub no_name : (x : Value Path) → HasNoColumn x → list_any (λ name. not (is_among [] name)) (names_in x) ≡ false
no_name x none = ap (list_any (λ name. not (is_among [] name))) none

pub fit_list : (xs : List (Value Path)) → AreKept (calls_in_list xs) → All HasNoColumn xs → AreListFit xs
fit_list [] kept none = tt
fit_list (x ∷ xs) kept none =
    let p = halves IsKept (calls_in x) (calls_in_list xs) kept in
    (fit [] x p.0 (no_name x (All-head HasNoColumn x xs none)), fit_list xs p.1 (All-tail HasNoColumn x xs none))
