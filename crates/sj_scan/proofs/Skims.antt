-- A run of a string is taken at one step.
use Rattle.std.proofs.Common.{◌≡◌, ℕ, suc, ◌+◌, ◌<◌, ◌≤◌, List, [], ◌∷◌, take, Bool, true, false, not, cond, ◌||◌, eqb, ltb, Option, Some, None, if◌then◌else◌, refl, sym, ap, ◌∙◌, subst, arith, lt-ltb}
use Rattle.std.specs.List.{prefix_len}
use Rattle.std.proofs.lemmas.Bool.{cond-true, cond-false}
use borrow.Author.Tests.{ltb-false}
use Rattle.sj_base.specs.ByteClasses.{is_plain}
use Rattle.sj_json.specs.Spelling.{max_length, max_depth}
use Rattle.sj_scan.specs.declared.utf8.Utf8.{Utf8}
use Rattle.sj_scan.specs.declared.utf8.Utf8.TheVariants.{Between, OneMore, TwoMore, AfterE0, AfterEd, ThreeMore, AfterF0, AfterF4}
use Rattle.sj_scan.specs.declared.mode.Container.{Container}
use Rattle.sj_scan.specs.Utf8.{lead_step}
use Rattle.sj_scan.specs.Modes.{Mode, value, value_or_close, key, key_or_close, colon, after_value, word, quoted, escaped, number, turn}
use Rattle.sj_scan.specs.Scanning.{Reached, reach, step, steps}
use Rattle.sj_scan.specs.Runs.{is_run, in_string}

-- in a string, between two characters
abbrev in_text : Bool → List Container → ℕ → Reached
in_text k cs n = record { mode = quoted k; containers = cs; text = Between; taken = n }

plain_of : (a b c d : Bool) → not (a || (b || (c || d))) ≡ true → (a ≡ false) × (not (a || b || c) ≡ true) × (d ≡ false)
plain_of true b c d h = cc
plain_of false true c d h = cc
plain_of false false true d h = cc
plain_of false false false true h = cc
plain_of false false false false h = (refl, refl, refl)

one_byte : (k : Bool) (cs : List Container) (n b : ℕ) → is_run b ≡ true → n < max_length → step (in_text k cs n) b ≡ Some (in_text k cs (n + 1))
one_byte k cs n b h lt =
    let parts = plain_of (eqb b 34) (eqb b 92) (ltb b 32) (ltb 127 b) h in
    let le : b ≤ 127 = ltb-false 127 b parts.2 in
    let place : turn max_depth (quoted k) cs b ≡ Some (quoted k, cs) = cond-false (eqb b 34) _ _ parts.0 ∙ cond-true (is_plain b) _ _ parts.1 in
    let character : lead_step b ≡ Some Between = cond-true (ltb b 128) _ _ (lt-ltb b 128 (omega (arith, le))) in
    cond-true (ltb n max_length) _ None (lt-ltb n max_length lt)
    ∙ ap (λ (q : Option (Mode × List Container)). reach (n + 1) q (lead_step b)) place ∙ ap (λ (u : Option Utf8). reach (n + 1) (Some (quoted k, cs)) u) character

run_steps : (bs : List ℕ) (k : Bool) (cs : List Container) (n : ℕ) → n + prefix_len is_run bs ≤ max_length
    → steps (Some (in_text k cs n)) (take (prefix_len is_run bs) bs) ≡ Some (in_text k cs (n + prefix_len is_run bs))
run_steps [] k cs n le = ap (λ (i : ℕ). Some (in_text k cs i)) (omega arith)
run_steps (b ∷ bs) k cs n le = by (is_run b) refl le (λ h. run_steps bs k cs (n + 1) h)
  where
    by : (x : Bool) → is_run b ≡ x → n + cond x (1 + prefix_len is_run bs) 0 ≤ max_length
        → (n + 1 + prefix_len is_run bs ≤ max_length → steps (Some (in_text k cs (n + 1))) (take (prefix_len is_run bs) bs) ≡ Some (in_text k cs (n + 1 + prefix_len is_run bs)))
        → steps (Some (in_text k cs n)) (take (cond x (1 + prefix_len is_run bs) 0) (b ∷ bs)) ≡ Some (in_text k cs (n + cond x (1 + prefix_len is_run bs) 0))
    by false e h ih = ap (λ (i : ℕ). Some (in_text k cs i)) (omega arith)
    by true e h ih =
        let m = prefix_len is_run bs in
        let more : suc m ≡ 1 + m = omega arith in
        let sum : n + 1 + m ≡ n + suc m = omega arith in
        subst (λ (i : ℕ). steps (Some (in_text k cs n)) (take i (b ∷ bs)) ≡ Some (in_text k cs (n + i))) more
        (ap (λ (o : Option Reached). steps o (take m bs)) (one_byte k cs n b e (omega (arith, h))) ∙ ih (omega (arith, h)) ∙ ap (λ (i : ℕ). Some (in_text k cs i)) sum)

abbrev at_mode : Mode → List Container → Utf8 → ℕ → Reached
at_mode o cs u n = record { mode = o; containers = cs; text = u; taken = n }

abbrev Skimmed : Mode → List Container → Utf8 → ℕ → List ℕ → Type 0
Skimmed o cs u n bs = Some (at_mode o cs u (n + prefix_len is_run bs)) ≡ steps (Some (at_mode o cs u n)) (take (prefix_len is_run bs) bs)

by_text : (k : Bool) (cs : List Container) (u : Utf8) (n : ℕ) (bs : List ℕ) → in_string (Some (at_mode (quoted k) cs u n)) ≡ true → n + prefix_len is_run bs ≤ max_length → Skimmed (quoted k) cs u n bs
by_text k cs Between n bs h le = sym (run_steps bs k cs n le)
by_text k cs OneMore n bs h le = cc
by_text k cs TwoMore n bs h le = cc
by_text k cs AfterE0 n bs h le = cc
by_text k cs AfterEd n bs h le = cc
by_text k cs ThreeMore n bs h le = cc
by_text k cs AfterF0 n bs h le = cc
by_text k cs AfterF4 n bs h le = cc

by_mode : (o : Mode) (cs : List Container) (u : Utf8) (n : ℕ) (bs : List ℕ) → in_string (Some (at_mode o cs u n)) ≡ true → n + prefix_len is_run bs ≤ max_length → Skimmed o cs u n bs
by_mode value cs u n bs h le = cc
by_mode value_or_close cs u n bs h le = cc
by_mode key cs u n bs h le = cc
by_mode key_or_close cs u n bs h le = cc
by_mode colon cs u n bs h le = cc
by_mode after_value cs u n bs h le = cc
by_mode (word r) cs u n bs h le = cc
by_mode (quoted k) cs u n bs h le = by_text k cs u n bs h le
by_mode (escaped k e) cs u n bs h le = cc
by_mode (number q) cs u n bs h le = cc

-- unless the scan has failed
abbrev unless : Bool → Mode → List Container → Utf8 → ℕ → Option Reached
unless failed o cs u n = if failed then None else Some (at_mode o cs u n)

skimmed : (failed : Bool) (o : Mode) (cs : List Container) (u : Utf8) (n : ℕ) (bs : List ℕ) → in_string (unless failed o cs u n) ≡ true → n + prefix_len is_run bs ≤ max_length
    → unless failed o cs u (n + prefix_len is_run bs) ≡ steps (unless failed o cs u n) (take (prefix_len is_run bs) bs)
skimmed true o cs u n bs h le = cc
skimmed false o cs u n bs h le = by_mode o cs u n bs h le

pub skim_stands : (failed : Bool) (o : Mode) (cs : List Container) (u : Utf8) (n : ℕ) (bs : List ℕ) (now : Option Reached) (run : ℕ) → unless failed o cs u n ≡ now → run ≡ prefix_len is_run bs → true ≡ in_string now
    → n + run ≤ max_length → unless failed o cs u (n + run) ≡ steps now (take run bs)
skim_stands failed o cs u n bs now run view e h le =
    ap (λ (i : ℕ). unless failed o cs u (n + i)) e ∙ skimmed failed o cs u n bs (ap in_string view ∙ sym h) (omega (arith, le, e))
    ∙ ap (λ (r : Option Reached). steps r (take (prefix_len is_run bs) bs)) view ∙ ap (λ (i : ℕ). steps now (take i bs)) (sym e)
