-- The operations on signs and magnitudes.
use Rattle.std.proofs.Common.{◌≡◌, ℕ, zero, suc, ◌-◌, ◌*◌, ◌^◌, ◌<◌, ◌≤◌, max, Bool, true, false, not, ◌&&◌, cond, nat_lt, nat_le, leb, ℤ, neg_ℤ, ◌*ℤ◌, unsigned_abs, Option, Some, None, Ok, Err, refl, sym, ap, ap₂, ◌∙◌, ⊎_elim, lt-ltb, le-ltb, ltb-true, le-leb, leb-true, lt_of_le_of_lt}
use Rattle.std.proofs.lemmas.Int.{unsigned_abs-mul}
use Rattle.std.proofs.lemmas.Bool.{cond-true, cond-false, cases_Bool, and_from, and_parts, and_right, and_left}
use Rattle.sj_decimal.specs.Limits.{max_scale, magnitude_limit}
use Rattle.sj_decimal.specs.declared.arithmetic.NumFault.TheVariants.{Range}
use Rattle.sj_decimal.specs.Signed.{signed, unsigned_abs-signed}
use Rattle.sj_decimal.specs.Normal.{reduced, normal, IsExact}
use Rattle.sj_decimal.specs.Arithmetic.{limited, at_larger_scale}
use Rattle.sj_decimal.specs.Magnitudes.{magnitudes_at}
use Rattle.sj_decimal.proofs.Reduced.{reduced_le}
use Rattle.sj_decimal.proofs.NormalForm.{signed-mul, normal_scale, exact_from_reduced, reduced_from_exact}

some_is_not_none : {A : Type 0} {x : A} → Some x ≡ None → ⊥
some_is_not_none h = cc

none_is_not_some : {A : Type 0} {x : A} → ◌≡◌ {A = Option A} None (Some x) → ⊥
none_is_not_some h = cc

some_is : {A : Type 0} {x y : A} → Some x ≡ Some y → x ≡ y
some_is h = cc

pub signed-not : (b : Bool) (m : ℕ) → signed (not b) m ≡ neg_ℤ (signed b m)
signed-not false m = refl
signed-not true zero = refl
signed-not true (suc m) = refl

pub unsigned_abs-product : (b d : Bool) (m n : ℕ) → unsigned_abs (signed b m *ℤ signed d n) ≡ m * n
unsigned_abs-product b d m n = unsigned_abs-mul (signed b m) (signed d n) ∙ ap₂ (λ (x y : ℕ). x * y) (unsigned_abs-signed b m) (unsigned_abs-signed d n)

scale_of : (b : Bool) (m s : ℕ) → (normal (signed b m, s)).1 ≡ (reduced m s).1
scale_of b m s = normal_scale (signed b m, s) ∙ ap (λ n. (reduced n s).1) (unsigned_abs-signed b m)

pub limited_over : (b : Bool) (m s : ℕ) → magnitude_limit ≤ m → limited (signed b m) s ≡ Err Range
unfolding limited
limited_over b m s over =
    cond-false _ _ _ (and_left (nat_lt (unsigned_abs (signed b m)) magnitude_limit) (nat_le (normal (signed b m, s)).1 max_scale)
    (ap (λ n. nat_lt n magnitude_limit) (unsigned_abs-signed b m) ∙ le-ltb m magnitude_limit over))

pub limited_big : (c : ℤ) (s : ℕ) → magnitude_limit ≤ unsigned_abs c → limited c s ≡ Err Range
unfolding limited
limited_big c s over = cond-false _ _ _ (and_left (nat_lt (unsigned_abs c) magnitude_limit) (nat_le (normal (c, s)).1 max_scale) (le-ltb (unsigned_abs c) magnitude_limit over))

pub limited_exact : (b : Bool) (m s : ℕ) → m < magnitude_limit → IsExact (signed b m, s) → limited (signed b m) s ≡ Ok (normal (signed b m, s))
unfolding limited
limited_exact b m s small exact =
    let few : ((reduced m s).0 < magnitude_limit) × ((reduced m s).1 ≤ max_scale) = reduced_from_exact b m s (reduced m s) refl exact in
    cond-true _ _ _ (and_from (nat_lt (unsigned_abs (signed b m)) magnitude_limit) (nat_le (normal (signed b m, s)).1 max_scale)
    (ap (λ n. nat_lt n magnitude_limit) (unsigned_abs-signed b m) ∙ lt-ltb m magnitude_limit small)
    (ap (λ n. nat_le n max_scale) (scale_of b m s) ∙ le-leb (reduced m s).1 max_scale few.1))

pub limited_wide : (b : Bool) (m s : ℕ) → m < magnitude_limit → ¬ (IsExact (signed b m, s)) → limited (signed b m) s ≡ Err Range
unfolding limited
limited_wide b m s small wide =
    ⊎_elim
    (λ few. absurd (wide (exact_from_reduced b m s (reduced m s) refl (lt_of_le_of_lt (reduced_le m s).0 small) (leb-true (reduced m s).1 max_scale few))))
    (λ many. cond-false _ _ _ (and_right (nat_lt (unsigned_abs (signed b m)) magnitude_limit) (nat_le (normal (signed b m, s)).1 max_scale)
    (ap (λ n. nat_le n max_scale) (scale_of b m s) ∙ many)))
    (cases_Bool (leb (reduced m s).1 max_scale))

at_larger_scale_is : (op : ℤ → ℤ → ℤ) (b d : Bool) (m j n k : ℕ) → at_larger_scale op (signed b m, j) (signed d n, k)
    ≡ cond (nat_lt (m * 10 ^ (max j k - j)) magnitude_limit && nat_lt (n * 10 ^ (max j k - k)) magnitude_limit)
    (limited (op (signed b (m * 10 ^ (max j k - j))) (signed d (n * 10 ^ (max j k - k)))) (max j k)) (Err Range)
unfolding at_larger_scale
at_larger_scale_is op b d m j n k =
    rw (signed-mul b m (10 ^ (max j k - j)), signed-mul d n (10 ^ (max j k - k)), unsigned_abs-signed b (m * 10 ^ (max j k - j)), unsigned_abs-signed d (n * 10 ^ (max j k - k))) refl

pub larger_none : (op : ℤ → ℤ → ℤ) (b d : Bool) (m j n k : ℕ) → magnitudes_at (max j k) m j n k ≡ None → at_larger_scale op (signed b m, j) (signed d n, k) ≡ Err Range
unfolding magnitudes_at
larger_none op b d m j n k none =
    ⊎_elim
    (λ yes. absurd (some_is_not_none (sym (cond-true _ _ _ yes) ∙ none)))
    (λ no. at_larger_scale_is op b d m j n k ∙ cond-false _ _ _ no)
    (cases_Bool (nat_lt (m * 10 ^ (max j k - j)) magnitude_limit && nat_lt (n * 10 ^ (max j k - k)) magnitude_limit))

-- what the code finds of two aligned magnitudes
pub record AreAligned (op : ℤ → ℤ → ℤ) (b d : Bool) (m j n k x y s : ℕ) : Type 0 where
  pub left : x < magnitude_limit
  pub right : y < magnitude_limit
  pub result : at_larger_scale op (signed b m, j) (signed d n, k) ≡ limited (op (signed b x) (signed d y)) s
  pub left_is : x ≡ m * 10 ^ (max j k - j)
  pub right_is : y ≡ n * 10 ^ (max j k - k)
  pub scale_is : s ≡ max j k

pub larger_some : (op : ℤ → ℤ → ℤ) (b d : Bool) (m j n k x y s : ℕ) → magnitudes_at (max j k) m j n k ≡ Some (x, y, s) → AreAligned op b d m j n k x y s
unfolding magnitudes_at
larger_some op b d m j n k x y s some =
    ⊎_elim
    (λ yes.
    let both : (nat_lt (m * 10 ^ (max j k - j)) magnitude_limit ≡ true) × (nat_lt (n * 10 ^ (max j k - k)) magnitude_limit ≡ true) =
    and_parts (nat_lt (m * 10 ^ (max j k - j)) magnitude_limit) (nat_lt (n * 10 ^ (max j k - k)) magnitude_limit) yes in
    let same : ◌≡◌ {A = ℕ × ℕ × ℕ} (m * 10 ^ (max j k - j), n * 10 ^ (max j k - k), max j k) (x, y, s) = some_is (sym (cond-true _ _ _ yes) ∙ some) in
    let left : m * 10 ^ (max j k - j) ≡ x = ap (λ p. p.0) same in
    let right : n * 10 ^ (max j k - k) ≡ y = ap (λ p. p.1) same in
    let scale : max j k ≡ s = ap (λ p. p.2) same in
    record {
      left = rw (← left) (ltb-true (m * 10 ^ (max j k - j)) magnitude_limit both.0);
      right = rw (← right) (ltb-true (n * 10 ^ (max j k - k)) magnitude_limit both.1);
      result = at_larger_scale_is op b d m j n k ∙ cond-true _ _ _ yes
          ∙ ap₂ (λ (c : ℤ) (t : ℕ). limited c t) (ap₂ (λ (u v : ℕ). op (signed b u) (signed d v)) left right) scale;
      left_is = sym left;
      right_is = sym right;
      scale_is = sym scale;
    })
    (λ no. absurd (none_is_not_some (sym (cond-false _ _ _ no) ∙ some)))
    (cases_Bool (nat_lt (m * 10 ^ (max j k - j)) magnitude_limit && nat_lt (n * 10 ^ (max j k - k)) magnitude_limit))
