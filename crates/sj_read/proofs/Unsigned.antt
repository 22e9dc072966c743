-- A number from what stands behind its sign.
use Rattle.std.proofs.Common.{◌≡◌, ◌≢◌, ◌==◌, ◌||◌, ℕ, ◌+◌, ◌<◌, List, length, Bool, true, false, get_or, refl, ap, ◌∙◌, subst, sym, arith}
use borrow.Author.Tests.{eqb-true, eqb-false}
use Rattle.std.specs.Char.{is_ascii_digit}
use Rattle.sj_decimal.specs.Number.{begins_number, is_number_byte}
use Rattle.sj_decimal.specs.Shorts.{HasSign}
use Rattle.sj_decimal.proofs.OnePass.{digits_none, digits_more, whole_reads, no_fraction, nothing_passes, number_reads}
use Rattle.sj_read.specs.Numerals.{IsUnsigned, IsPlainNumber}

-- behind a minus sign
pub behind_minus : (b : List ℕ) (at c end : ℕ) → at < length b → get_or b at 0 ≡ c → c ≡ 45 → IsUnsigned b (at + 1) end → IsPlainNumber b at c end
behind_minus b at c end within here minus read =
    let sign : HasSign b at (at + 1) (c == 45) = record { minus = λ e. (here ∙ minus, refl); plain = λ e. absurd (eqb-false c 45 e minus) } in
    let begins : begins_number c ≡ true = subst (λ (x : ℕ). begins_number x ≡ true) (sym minus) refl in
    let fraction = read.fraction read.whole.0 in
    record {
      begins = begins;
      reads = number_reads b at (at + 1) read.point end read.whole.0 fraction.0 (c == 45) sign within (ap begins_number here ∙ begins) (λ e. ap (λ (x : ℕ). x == 45) here ∙ e) read.whole.1 fraction.1 read.stops;
      short = omega (arith, read.near);
    }

-- without a sign
pub unsigned : (b : List ℕ) (at c end : ℕ) → at < length b → get_or b at 0 ≡ c → c ≢ 45 → IsUnsigned b at end → IsPlainNumber b at c end
unsigned b at c end within here no_minus read =
    let sign : HasSign b at at (c == 45) = record { minus = λ e. absurd (no_minus (eqb-true c 45 e)); plain = λ e. refl } in
    let digit : is_ascii_digit c ≡ true = ap is_ascii_digit (sym here) ∙ read.first in
    let begins : begins_number c ≡ true = ap (λ (x : Bool). x || (c == 45)) digit in
    let fraction = read.fraction read.whole.0 in
    record {
      begins = begins;
      reads = number_reads b at at read.point end read.whole.0 fraction.0 (c == 45) sign within (ap begins_number here ∙ begins) (λ e. ap (λ (x : ℕ). x == 45) here ∙ e) read.whole.1 fraction.1 read.stops;
      short = omega (arith, read.near);
    }

-- a digit alone
digit_alone : (b : List ℕ) (at : ℕ) → at + 1 < length b → is_ascii_digit (get_or b at 0) ≡ true → is_number_byte (get_or b (at + 1) 0) ≡ false → IsUnsigned b at (at + 1)
digit_alone b at within digit stops =
    let none = digits_none b at 0 (omega (arith, within)) in
    let one = digits_more b at 0 at 0 none (omega (arith, within)) digit in
    record {
      point = at + 1;
      whole = (_, whole_reads b at (at + 1) _ one (omega arith) (λ more. absurd (omega (arith, more))));
      fraction = λ n. (n, no_fraction b (at + 1) n (omega (arith, within)));
      stops = nothing_passes b (at + 1) (λ _. stops) (omega (arith, within));
      first = digit;
      near = omega arith;
    }

pub one_digit : (b : List ℕ) (at c : ℕ) → at + 1 < length b → get_or b at 0 ≡ c → is_ascii_digit c ≡ true → is_number_byte (get_or b (at + 1) 0) ≡ false → IsPlainNumber b at c (at + 1)
one_digit b at c within here digit stops =
    unsigned b at c (at + 1) (omega (arith, within)) here
    (λ e. let no : true ≡ false = sym digit ∙ ap is_ascii_digit e in cc)
    (digit_alone b at within (ap is_ascii_digit here ∙ digit) stops)
