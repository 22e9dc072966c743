-- Variables that are passed once each.
use Rattle.std.proofs.Common.{◌≡◌, ℕ, Bool, true, false, ◌||◌, List, [], ◌∷◌, ◌++◌, refl, sym, ap, ◌∙◌}
use Rattle.std.specs.List.{list_any}
use Rattle.std.specs.Str.{bytes_eq}
use Rattle.sj_path_tree.specs.Vars.{Variables, has_name}
use Rattle.sj_path_tree.specs.declared.parts.Literal.{Literal}
use Rattle.sj_sql_grammar.specs.declared.clauses.Passed.{Passed}
use Rattle.sj_bind.specs.Clauses.{passed, passed_names}
use Rattle.sj_bind.specs.Tables.{has_twice}

-- the names of variables
abbrev pub names_of_vars : Variables → List (List ℕ)
names_of_vars [] = []
names_of_vars (v ∷ vs) = v.0 ∷ names_of_vars vs

pub names_of_vars-passed : (ps : List Passed) → names_of_vars (passed ps) ≡ passed_names ps
names_of_vars-passed [] = refl
names_of_vars-passed (p ∷ ps) = ap (λ ns. p.name ∷ ns) (names_of_vars-passed ps)

left_false : (a b : Bool) → (a || b) ≡ false → a ≡ false
left_false true b h = h
left_false false b h = refl

right_false : (a b : Bool) → (a || b) ≡ false → b ≡ false
right_false true b h = absurd cc
right_false false b h = h

-- a name that equals none of some names is not the one in their midst
other_name : (x : List ℕ) (vars : Variables) (name : List ℕ) (value : Literal) (rest : Variables) → list_any (bytes_eq x) (names_of_vars (vars ++ (name, value) ∷ rest)) ≡ false → bytes_eq x name ≡ false
other_name x [] name value rest h = left_false _ _ h
other_name x (v ∷ vars) name value rest h = other_name x vars name value rest (right_false (bytes_eq x v.0) _ h)

fresh : (vars : Variables) (name : List ℕ) (value : Literal) (rest : Variables) → has_twice (names_of_vars (vars ++ (name, value) ∷ rest)) ≡ false → has_name vars name ≡ false
fresh [] name value rest h = refl
fresh (v ∷ vars) name value rest h =
    let other : bytes_eq v.0 name ≡ false = other_name v.0 vars name value rest (left_false _ _ h) in
    ap (λ b. b || has_name vars name) other ∙ fresh vars name value rest (right_false (list_any (bytes_eq v.0) (names_of_vars (vars ++ (name, value) ∷ rest))) _ h)

-- a variable that is to be added has a name of its own
pub fresh_variable : (vars : Variables) (x : Passed) (left rest all : List Passed) → left ≡ x ∷ rest → vars ++ passed left ≡ passed all → has_twice (passed_names all) ≡ false → has_name vars x.name ≡ false
fresh_variable vars x left rest all first whole once =
    let e : vars ++ (x.name, x.value) ∷ passed rest ≡ passed all = ap (λ ps. vars ++ passed ps) (sym first) ∙ whole in
    fresh vars x.name x.value (passed rest) (ap (λ vs. has_twice (names_of_vars vs)) e ∙ ap has_twice (names_of_vars-passed all) ∙ once)
