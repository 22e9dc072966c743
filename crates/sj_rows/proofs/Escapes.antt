-- An escaped text can be read back.
use Rattle.std.proofs.Common.{◌≡◌, ◌≢◌, ℕ, suc, Bool, true, false, eqb, cond, List, [], ◌∷◌, ◌++◌, ◌+◌, take, codes, All, refl, sym, ap, ap₂, ◌∙◌, subst, arith, ⊎_elim, eqb-true}
use borrow.Author.Tests.{eqb-false}
use Rattle.std.proofs.lemmas.List.Elements.{All-nil, All-append, All-cons}
use Rattle.std.proofs.lemmas.Bool.{cases_Bool, cond-false}
use Rattle.std.specs.List.{flat_map, prefix_len}
use Rattle.sj_rows.specs.RowText.{escaped_byte, escaped, stands, IsNoEnd}

-- the byte that a letter behind a backslash stands for
abbrev original : ℕ → ℕ
original c = cond (eqb c 116) 9 (cond (eqb c 110) 10 (cond (eqb c 114) 13 c))

-- the text that was escaped, from here, or from behind a backslash
abbrev read : Bool → List ℕ → List ℕ
read behind [] = []
read true (c ∷ cs) = original c ∷ read false cs
read false (c ∷ cs) = cond (eqb c 92) (read true cs) (c ∷ read false cs)

-- one case for each byte that has an escape, and one for the others
module _ (P : ℕ → Type 0) (backslash : P 92) (tab : P 9) (feed : P 10) (return : P 13) (other : (b : ℕ) → eqb b 92 ≡ false → escaped_byte b ≡ b ∷ [] → (eqb b 9 ≡ false) → (eqb b 10 ≡ false) → P b) where
  by_escape : (b : ℕ) → P b
  by_escape b =
      ⊎_elim (λ e. subst P (sym (eqb-true b 92 e)) backslash)
      (λ n. ⊎_elim (λ e. subst P (sym (eqb-true b 9 e)) tab)
      (λ m. ⊎_elim (λ e. subst P (sym (eqb-true b 10 e)) feed)
      (λ k. ⊎_elim (λ e. subst P (sym (eqb-true b 13 e)) return)
      (λ j. other b n (cond-false (eqb b 92) _ _ n ∙ cond-false (eqb b 9) _ _ m ∙ cond-false (eqb b 10) _ _ k ∙ cond-false (eqb b 13) _ _ j) m k)
      (cases_Bool (eqb b 13)))
      (cases_Bool (eqb b 10)))
      (cases_Bool (eqb b 9)))
      (cases_Bool (eqb b 92))

abbrev Reads : ℕ → Type 0
Reads b = (rest : List ℕ) → read false (escaped_byte b ++ rest) ≡ b ∷ read false rest

reads_byte : (b : ℕ) → Reads b
reads_byte =
    by_escape Reads (λ rest. refl) (λ rest. refl) (λ rest. refl) (λ rest. refl)
    (λ b n plain m k rest. ap (λ l. read false (l ++ rest)) plain ∙ cond-false (eqb b 92) _ _ n)

read_back : (text : List ℕ) → read false (escaped text) ≡ text
read_back [] = refl
read_back (b ∷ bs) = reads_byte b (escaped bs) ∙ ap (λ l. b ∷ l) (read_back bs)

pub distinct : (text other : List ℕ) → escaped text ≡ escaped other → text ≡ other
distinct text other h = sym (read_back text) ∙ ap (read false) h ∙ read_back other

-- what would have the text of NULL is the letter N, which has another
pub no_null : (text : List ℕ) → escaped text ≢ codes "\\N"
no_null text h =
    let letter : text ≡ 78 ∷ [] = sym (read_back text) ∙ ap (read false) h in
    let both : ◌≡◌ {A = List ℕ} (78 ∷ []) (92 ∷ 78 ∷ []) = ap escaped (sym letter) ∙ h in
    cc

-- ---- no byte ends a field

plain_ends : (b : ℕ) → eqb b 9 ≡ false → eqb b 10 ≡ false → IsNoEnd b
plain_ends b tab feed = (eqb-false b 9 tab, eqb-false b 10 feed)

single : (b : ℕ) → IsNoEnd b → All IsNoEnd (b ∷ [])
single b h = All-cons IsNoEnd b [] h (All-nil IsNoEnd)

pair : (b c : ℕ) → IsNoEnd b → IsNoEnd c → All IsNoEnd (b ∷ c ∷ [])
pair b c h k = All-cons IsNoEnd b (c ∷ []) h (single c k)

ends_nothing : (b : ℕ) → All IsNoEnd (escaped_byte b)
ends_nothing =
    by_escape (λ b. All IsNoEnd (escaped_byte b))
    (pair 92 92 (plain_ends 92 refl refl) (plain_ends 92 refl refl))
    (pair 92 116 (plain_ends 92 refl refl) (plain_ends 116 refl refl))
    (pair 92 110 (plain_ends 92 refl refl) (plain_ends 110 refl refl))
    (pair 92 114 (plain_ends 92 refl refl) (plain_ends 114 refl refl))
    (λ b n plain m k. subst (All IsNoEnd) (sym plain) (single b (plain_ends b m k)))

pub no_ends : (text : List ℕ) → All IsNoEnd (escaped text)
no_ends [] = All-nil IsNoEnd
no_ends (b ∷ bs) = All-append IsNoEnd (escaped_byte b) (escaped bs) (ends_nothing b) (no_ends bs)

-- ---- bytes that stand for themselves

pub stands_alone : (b : ℕ) → stands b ≡ true → escaped_byte b ≡ b ∷ []
stands_alone =
    by_escape (λ b. stands b ≡ true → escaped_byte b ≡ b ∷ [])
    (λ h. let no : ◌≡◌ {A = Bool} false true = h in cc)
    (λ h. let no : ◌≡◌ {A = Bool} false true = h in cc)
    (λ h. let no : ◌≡◌ {A = Bool} false true = h in cc)
    (λ h. let no : ◌≡◌ {A = Bool} false true = h in cc)
    (λ b n plain m k h. plain)

run_from : (b : ℕ) (bs : List ℕ) (n : ℕ) → flat_map escaped_byte (take n bs) ≡ take n bs → (s : Bool) → stands b ≡ s
    → flat_map escaped_byte (take (cond s (suc n) 0) (b ∷ bs)) ≡ take (cond s (suc n) 0) (b ∷ bs)
run_from b bs n before true h = ap₂ (λ (x y : List ℕ). x ++ y) (stands_alone b h) before
run_from b bs n before false h = refl

-- those before the first that does not are written as they are
pub run_alone : (bs : List ℕ) → flat_map escaped_byte (take (prefix_len stands bs) bs) ≡ take (prefix_len stands bs) bs
run_alone [] = refl
run_alone (b ∷ bs) =
    let n : ℕ = prefix_len stands bs in
    let next : suc n ≡ 1 + n = omega arith in
    subst (λ (k : ℕ). flat_map escaped_byte (take (cond (stands b) k 0) (b ∷ bs)) ≡ take (cond (stands b) k 0) (b ∷ bs)) next (run_from b bs n (run_alone bs) (stands b) refl)
