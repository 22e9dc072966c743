use Rattle.std.proofs.Common.{◌≡◌, ℕ, Bool, true, false, not, get_or, arith, refl, sym, ap, ◌∙◌, subst, take}
use Rattle.std.proofs.lemmas.List.Sums.{prefix_len-le-length, prefix_len_stops}
use Rattle.std.specs.List.{flat_map, prefix_len}
use Rattle.sj_rows.specs.RowText.{escaped_byte, stands}
use Rattle.sj_rows.proofs.Escapes.{run_alone}
use Rattle.sj_rows.proofs.field.plain_run.Goals as goal

pub returns-clause-within : goal.returns-clause-within
returns-clause-within c = omega (arith, c.plain_end.ensures, prefix_len-le-length stands c.args.bytes.now)

pub returns-clause-plain : goal.returns-clause-plain
returns-clause-plain c =
    let n : c.plain_end.result ≡ prefix_len stands c.args.bytes.now = omega (arith, c.plain_end.ensures) in
    subst (λ (k : ℕ). flat_map escaped_byte (take k c.args.bytes.now) ≡ take k c.args.bytes.now) (sym n) (run_alone c.args.bytes.now)

opposite : (b : Bool) → not b ≡ false → b ≡ true
opposite true h = refl
opposite false h = cc

pub returns-clause-stops : goal.returns-clause-stops
returns-clause-stops c lt =
    let n : c.plain_end.result ≡ prefix_len stands c.args.bytes.now = omega (arith, c.plain_end.ensures) in
    opposite _ (ap (λ (k : ℕ). stands (get_or c.args.bytes.now k 0)) n ∙ prefix_len_stops stands c.args.bytes.now 0 (omega (arith, n, lt)))
