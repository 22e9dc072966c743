use Rattle.std.proofs.Common.{List, ℕ, ◌≡◌, ◌++◌, ◌-◌, take, drop, length, true, false, Bool, subst, refl, eq-eqb}
use Rattle.std.specs.Bool.{MatchBool}
use Rattle.std.proofs.lemmas.Bool.{eqb-true}
use Rattle.std.proofs.lemmas.List.{take_rest}
use Rattle.std.proofs.lemmas.Slice.Eq.{starts_is}
use Rattle.sj_read.proofs.scan.follows.Goals as goal

match_bool : (b : Bool) (P Q : Type 0) → (b ≡ true → P) → (b ≡ false → Q) → MatchBool b P Q
match_bool true P Q p q = p refl
match_bool false P Q p q = q refl

pub returns : goal.returns
returns c =
    let w : List ℕ = c.args.word.now in
    let s : List ℕ = take (length c.args.bytes.now - c.args.at) (drop c.args.at c.args.bytes.now) in
    let r : Bool = c.starts_with.result in
    let facts = starts_is (λ (a : ℕ) (b : ℕ). (eqb-true a b, eq-eqb a b)) s w r c.starts_with.ensures.value in
    let P : List ℕ → Type 0 = λ x. (r ≡ true → x ≡ w ++ drop (length w) x) × ((rest : List ℕ) → x ≡ w ++ rest → r ≡ true) in
    let moved = subst P (take_rest c.args.bytes.now c.args.at) facts in
    match_bool r _ _ moved.0 (λ no rest e. let yes = moved.1 rest e in cc)
