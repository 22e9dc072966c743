use Rattle.std.proofs.Common.{◌≡◌, ◌+◌, ◌*◌, ◌-◌, ◌<◌, ◌≤◌, ℕ, zero, suc, List, length, drop, get_or, Bool, true, false, not, refl, sym, ap, ◌∙◌, subst, arith}
use Rattle.std.specs.Char.{is_ascii_digit}
use Rattle.std.specs.List.{prefix_len}
use Rattle.std.proofs.lemmas.List.{get_or-drop}
use Rattle.std.proofs.lemmas.List.Sums.{prefix_len_passes}
use lib.Count.{count_trailing_zeros}
use Rattle.sj_decimal.proofs.OnePass.{digits_none, digits_more}
use Rattle.sj_read.specs.Numerals.{HasDigits}
use Rattle.sj_read.specs.Scans.{is_other}
use Rattle.sj_read.proofs.Runs.{run_bound, run_short, run_stops}
use Rattle.sj_read.proofs.numeral.near_digits_end.Goals as goal

opposite : (b : Bool) → b ≡ not (not b)
opposite true = refl
opposite false = refl

-- the first digits of a run of them
digits_run : (b : List ℕ) (from k : ℕ) → from ≤ length b → k ≤ prefix_len is_ascii_digit (drop from b) → HasDigits b from (from + k)
digits_run b from zero h l = subst (HasDigits b from) (omega arith) (0, digits_none b from 0 h)
digits_run b from (suc k) h l =
    let r = digits_run b from k h (omega arith) in
    let yes : is_ascii_digit (get_or b (from + k) 0) ≡ true = ap is_ascii_digit (sym (get_or-drop from b k 0)) ∙ prefix_len_passes is_ascii_digit (drop from b) k 0 (omega arith) in
    let within : from + k < length b = omega (arith, run_bound is_ascii_digit b from h) in
    let further : from + k + 1 ≡ from + suc k = omega arith in
    subst (HasDigits b from) further (r.0 * 10 + (get_or b (from + k) 0 - 48), digits_more b from 0 (from + k) r.0 r.1 within yes)

pub returns : goal.returns
returns c =
    let b = c.args.bytes.now in
    let from = c.args.from in
    let found = c.others_in_16-found in
    let n = prefix_len is_ascii_digit (drop from b) in
    let run = run_stops is_other is_ascii_digit (λ x. opposite (is_ascii_digit x)) b from 16 (omega arith) (omega arith) (omega (arith, found.ensures)) ∙ ap (count_trailing_zeros 64) (sym found.ensures) in
    let short = run_short is_other is_ascii_digit (λ x. opposite (is_ascii_digit x)) b from 16 (omega arith) (omega (arith, found.ensures)) in
    let here : from ≡ from + 0 = omega arith in
    record {
      digits = subst (HasDigits b from) (ap (λ (n : ℕ). from + n) run) (digits_run b from n (omega (arith, c.requires)) (omega arith));
      first = λ l. ap (λ (i : ℕ). is_ascii_digit (get_or b i 0)) here ∙ ap is_ascii_digit (sym (get_or-drop from b 0 0)) ∙ prefix_len_passes is_ascii_digit (drop from b) 0 0 (omega (arith, run, l));
      within = omega (arith, run, short);
      near = omega (arith, run, short);
    }
