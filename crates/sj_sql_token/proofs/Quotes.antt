-- Loops over what stands between quotation marks.
use Rattle.std.proofs.Common.{◌≡◌, ℕ, zero, suc, ◌+◌, ◌<◌, ◌≤◌, Bool, true, false, not, cond, ◌&&◌, ◌==◌, List, [], ◌∷◌, ◌++◌, length, get_or, take, drop, Option, Some, None, option_map, refl, sym, ap, subst, ◌∙◌, arith, append_assoc, length-drop, drop-drop, take_all, codes, ◌-◌, eqb-true, eq-eqb, ne_eqb}
use Rattle.std.proofs.lemmas.List.{append-nil, take-append-drop}
use Rattle.std.specs.Str.{bytes_eq, IsUtf8, IsCharBoundary}
use Rattle.std.proofs.lemmas.Str.{IsCharBoundary-after_ascii}
use Rattle.std.proofs.lemmas.Slice.Eq.{bytes_eq-Decides}
use Rattle.std.specs.List.{prefix_len}
use Rattle.sj_base.specs.ByteClasses.{next_is}
use Rattle.sj_sql_token.specs.Quotes.{inside_len, undoubled, marks_len}

-- ---- how far the inside reaches

pub two : (n m k : ℕ) (o : Option ℕ) → n + m ≡ k → option_map (λ x. x + n) (option_map (λ x. x + m) o) ≡ option_map (λ x. x + k) o
two n m k None e = refl
two n m k (Some x) e = ap Some (omega (arith, e))

pub inside_plain : (m b : ℕ) (bs : List ℕ) → (b == m) ≡ false → inside_len m (b ∷ bs) ≡ option_map (λ n. n + 1) (inside_len m bs)
inside_plain m b [] e = ap (λ t. cond t (Some 0) None) e
inside_plain m b (c ∷ bs) e =
    ap (λ t. cond t (cond (c == m) (option_map (λ n. n + 2) (inside_len m bs)) (Some 0)) (option_map (λ n. n + 1) (inside_len m (c ∷ bs)))) e

pub inside_double : (m b c : ℕ) (bs : List ℕ) → (b == m) ≡ true → (c == m) ≡ true → inside_len m (b ∷ c ∷ bs) ≡ option_map (λ n. n + 2) (inside_len m bs)
inside_double m b c bs e f =
    ap (λ t. cond t (cond (c == m) (option_map (λ n. n + 2) (inside_len m bs)) (Some 0)) (option_map (λ n. n + 1) (inside_len m (c ∷ bs)))) e
    ∙ ap (λ t. cond t (option_map (λ n. n + 2) (inside_len m bs)) (Some 0)) f

inside_end : (m b : ℕ) (bs : List ℕ) → (b == m) ≡ true → ((c : ℕ) (cs : List ℕ) → bs ≡ c ∷ cs → (c == m) ≡ false) → inside_len m (b ∷ bs) ≡ Some 0
inside_end m b [] e f = ap (λ t. cond t (Some 0) None) e
inside_end m b (c ∷ bs) e f =
    ap (λ t. cond t (cond (c == m) (option_map (λ n. n + 2) (inside_len m bs)) (Some 0)) (option_map (λ n. n + 1) (inside_len m (c ∷ bs)))) e
    ∙ ap (λ t. cond t (option_map (λ n. n + 2) (inside_len m bs)) (Some 0)) (f c bs refl)

-- a byte that is no mark was passed
pub turn_plain : {start : Option ℕ} (m b len : ℕ) (rest behind : List ℕ) → start ≡ option_map (λ n. n + len) (inside_len m rest) → rest ≡ b ∷ behind → (b == m) ≡ false
    → start ≡ option_map (λ n. n + (len + 1)) (inside_len m behind)
turn_plain m b len rest behind read split plain =
    read ∙ ap (λ x. option_map (λ n. n + len) (inside_len m x)) split ∙ ap (option_map (λ n. n + len)) (inside_plain m b behind plain) ∙ two len 1 (len + 1) (inside_len m behind) refl

-- two marks were passed
pub turn_double : {start : Option ℕ} (m b c len : ℕ) (rest after behind : List ℕ) → start ≡ option_map (λ n. n + len) (inside_len m rest) → rest ≡ b ∷ after → after ≡ c ∷ behind
    → (b == m) ≡ true → (c == m) ≡ true → start ≡ option_map (λ n. n + (len + 2)) (inside_len m behind)
turn_double m b c len rest after behind read split next first second =
    read ∙ ap (λ x. option_map (λ n. n + len) (inside_len m x)) (split ∙ ap (λ x. b ∷ x) next)
    ∙ ap (option_map (λ n. n + len)) (inside_double m b c behind first second) ∙ two len 2 (len + 2) (inside_len m behind) refl

-- a mark that no second one follows is the end
pub ends : {start : Option ℕ} (m b len : ℕ) (rest after : List ℕ) → start ≡ option_map (λ n. n + len) (inside_len m rest) → rest ≡ b ∷ after
    → (b == m) ≡ true → ((c : ℕ) (cs : List ℕ) → after ≡ c ∷ cs → (c == m) ≡ false) → start ≡ Some len
ends m b len rest after read split mark single =
    read ∙ ap (λ x. option_map (λ n. n + len) (inside_len m x)) split ∙ ap (option_map (λ n. n + len)) (inside_end m b after mark single) ∙ ap Some (omega arith)

-- ---- two marks for one

pub undoubled_plain : (m b : ℕ) (bs : List ℕ) → (b == m) ≡ false → undoubled m (b ∷ bs) ≡ b ∷ undoubled m bs
undoubled_plain m b [] e = refl
undoubled_plain m b (c ∷ bs) e = ap (λ t. cond (t && (c == m)) (m ∷ undoubled m bs) (b ∷ undoubled m (c ∷ bs))) e

-- up to the next mark the bytes stand for themselves
undoubled_run : (m : ℕ) (bs : List ℕ) → undoubled m bs ≡ take (prefix_len (λ b. not (b == m)) bs) bs ++ undoubled m (drop (prefix_len (λ b. not (b == m)) bs) bs)
undoubled_run m [] = refl
undoubled_run m (b ∷ bs) = go (b == m) refl (undoubled_run m bs)
  where
    go : (t : Bool) → (b == m) ≡ t → undoubled m bs ≡ take (prefix_len (λ b. not (b == m)) bs) bs ++ undoubled m (drop (prefix_len (λ b. not (b == m)) bs) bs)
        → undoubled m (b ∷ bs) ≡ take (cond (not t) (1 + prefix_len (λ b. not (b == m)) bs) 0) (b ∷ bs) ++ undoubled m (drop (cond (not t) (1 + prefix_len (λ b. not (b == m)) bs) 0) (b ∷ bs))
    go true e more = refl
    go false e more =
        let one : 1 + prefix_len (λ b. not (b == m)) bs ≡ suc (prefix_len (λ b. not (b == m)) bs) = omega arith in
        rw one (undoubled_plain m b bs e ∙ ap (λ x. b ∷ x) more)

-- the byte behind a run is a mark
run_stops : (m n : ℕ) (bs after : List ℕ) (b : ℕ) → n ≡ prefix_len (λ c. not (c == m)) bs → drop n bs ≡ b ∷ after → (b == m) ≡ true
run_stops m n [] after b e split = absurd cc
run_stops m n (c ∷ bs) after b e split = go (c == m) refl (λ k l. run_stops m k bs after b l) (sym (ap (λ k. drop k (c ∷ bs)) e) ∙ split)
  where
    go : (t : Bool) → (c == m) ≡ t → ((k : ℕ) → k ≡ prefix_len (λ c. not (c == m)) bs → drop k bs ≡ b ∷ after → (b == m) ≡ true)
        → drop (cond (not t) (1 + prefix_len (λ c. not (c == m)) bs) 0) (c ∷ bs) ≡ b ∷ after → (b == m) ≡ true
    go true h more s = let same : c ≡ b = cc in subst (λ x. (x == m) ≡ true) same h
    go false h more s = let one : 1 + prefix_len (λ c. not (c == m)) bs ≡ suc (prefix_len (λ c. not (c == m)) bs) = omega arith in
        more (prefix_len (λ c. not (c == m)) bs) refl (rw one at s)

undoubled_mark : (m b : ℕ) (bs : List ℕ) → (b == m) ≡ true → ((c : ℕ) (cs : List ℕ) → bs ≡ c ∷ cs → (c == m) ≡ false) → undoubled m (b ∷ bs) ≡ b ∷ undoubled m bs
undoubled_mark m b [] e f = refl
undoubled_mark m b (c ∷ bs) e f =
    ap (λ t. cond (t && (c == m)) (m ∷ undoubled m bs) (b ∷ undoubled m (c ∷ bs))) e ∙ ap (λ t. cond t (m ∷ undoubled m bs) (b ∷ undoubled m (c ∷ bs))) (f c bs refl)

pub undoubled_double : (m b c : ℕ) (bs : List ℕ) → (b == m) ≡ true → (c == m) ≡ true → undoubled m (b ∷ c ∷ bs) ≡ b ∷ undoubled m bs
undoubled_double m b c bs e f =
    ap (λ t. cond (t && (c == m)) (m ∷ undoubled m bs) (b ∷ undoubled m (c ∷ bs))) e ∙ ap (λ t. cond t (m ∷ undoubled m bs) (b ∷ undoubled m (c ∷ bs))) f
    ∙ ap (λ x. x ∷ undoubled m bs) (sym (eqb-true b m e))

-- ---- the loop that writes one mark for two

-- where the run reaches the end, it is all that is left
pub rest_written : {start : List ℕ} (m n : ℕ) (text rest : List ℕ) → start ≡ text ++ undoubled m rest → n ≡ prefix_len (λ b. not (b == m)) rest → length (drop n rest) ≡ 0 → start ≡ text ++ rest
rest_written m n text rest read run done =
    let nothing : drop n rest ≡ [] = empty (drop n rest) done in
    let all : take n rest ≡ rest = sym (append-nil (take n rest)) ∙ ap (λ x. take n rest ++ x) (sym nothing) ∙ take-append-drop n rest in
    read ∙ ap (λ x. text ++ x) (undoubled_run m rest ∙ ap (λ k. take k rest ++ undoubled m (drop k rest)) (sym run)
    ∙ ap (λ x. take n rest ++ undoubled m x) nothing ∙ append-nil (take n rest) ∙ all)
  where
    empty : (xs : List ℕ) → length xs ≡ 0 → xs ≡ []
    empty [] e = refl
    empty (x ∷ xs) e = absurd (omega arith)

get_at : (xs : List ℕ) (n : ℕ) → get_or xs n 0 ≡ get_or (drop n xs) 0 0
get_at xs zero = refl
get_at [] (suc n) = refl
get_at (x ∷ xs) (suc n) = get_at xs n

-- behind a run a text may be cut, and behind the mark that follows it
pub run_boundary : (m n : ℕ) (rest after : List ℕ) (b : ℕ) → m < 128 → IsUtf8 rest → n ≡ prefix_len (λ c. not (c == m)) rest → drop n rest ≡ b ∷ after → IsCharBoundary rest (n + 1)
run_boundary m n rest after b small text run split =
    let below : n < length rest = omega (arith, ap length split, length-drop n rest) in
    let at : get_or rest n 0 ≡ b = get_at rest n ∙ ap (λ x. get_or x 0 0) split in
    let same : b ≡ m = eqb-true b m (run_stops m n rest after b run split) in
    IsCharBoundary-after_ascii rest n text below (omega (arith, at, same))

-- a mark was written; a second one that follows it is passed
written : (m n : ℕ) (rest after : List ℕ) (b : ℕ) → drop n rest ≡ b ∷ after → take (n + 1) rest ≡ take n rest ++ b ∷ []
written m zero [] after b split = absurd cc
written m zero (c ∷ rest) after b split = ap (λ (x : List ℕ). take 1 x) split
written m (suc n) [] after b split = absurd cc
written m (suc n) (c ∷ rest) after b split =
    let one : suc n + 1 ≡ suc (n + 1) = omega arith in ap (λ k. take k (c ∷ rest)) one ∙ ap (λ x. c ∷ x) (written m n rest after b split)

behind_mark : (n : ℕ) (rest after : List ℕ) (b : ℕ) → drop n rest ≡ b ∷ after → drop (n + 1) rest ≡ after
behind_mark n rest after b split = ap (λ k. drop k rest) (omega arith) ∙ sym (drop-drop 1 n rest) ∙ ap (drop 1) split

turn : {start : List ℕ} (m n : ℕ) (text rest after : List ℕ) (b : ℕ) (left : List ℕ) → start ≡ text ++ undoubled m rest → n ≡ prefix_len (λ c. not (c == m)) rest → drop n rest ≡ b ∷ after
    → undoubled m (b ∷ after) ≡ b ∷ undoubled m left → start ≡ (text ++ take (n + 1) rest) ++ undoubled m left
turn m n text rest after b left read run split step =
    read ∙ ap (λ x. text ++ x) (undoubled_run m rest ∙ ap (λ k. take k rest ++ undoubled m (drop k rest)) (sym run)
    ∙ ap (λ x. take n rest ++ undoubled m x) split ∙ ap (λ x. take n rest ++ x) step ∙ sym (append_assoc (take n rest) (b ∷ []) (undoubled m left))
    ∙ ap (λ x. x ++ undoubled m left) (sym (written m n rest after b split))) ∙ sym (append_assoc text (take (n + 1) rest) (undoubled m left))

pub next_cons : (m : ℕ) (after : List ℕ) → next_is m after ≡ true → after ≡ m ∷ drop 1 after
next_cons m [] h = absurd cc
next_cons m (c ∷ after) h = ap (λ x. x ∷ after) (eqb-true c m h)

turn_two : {start : List ℕ} (m n : ℕ) (text rest after : List ℕ) (b : ℕ) → start ≡ text ++ undoubled m rest → n ≡ prefix_len (λ c. not (c == m)) rest → drop n rest ≡ b ∷ after
    → next_is m after ≡ true → start ≡ (text ++ take (n + 1) rest) ++ undoubled m (drop (n + 2) rest)
turn_two m n text rest after b read run split next =
    let second : after ≡ m ∷ drop 1 after = next_cons m after next in
    let left : drop 1 after ≡ drop (n + 2) rest = ap (drop 1) (sym (behind_mark n rest after b split)) ∙ drop-drop 1 (n + 1) rest ∙ ap (λ k. drop k rest) (omega arith) in
    turn m n text rest after b (drop (n + 2) rest) read run split
    (ap (λ x. undoubled m (b ∷ x)) second ∙ undoubled_double m b m (drop 1 after) (run_stops m n rest after b run split) (eq-eqb m m refl)
    ∙ ap (λ x. b ∷ undoubled m x) left)

turn_one : {start : List ℕ} (m n : ℕ) (text rest after : List ℕ) (b : ℕ) → start ≡ text ++ undoubled m rest → n ≡ prefix_len (λ c. not (c == m)) rest → drop n rest ≡ b ∷ after
    → next_is m after ≡ false → start ≡ (text ++ take (n + 1) rest) ++ undoubled m (drop (n + 1) rest)
turn_one m n text rest after b read run split next =
    turn m n text rest after b (drop (n + 1) rest) read run split
    (undoubled_mark m b after (run_stops m n rest after b run split) (λ c cs e. ap (next_is m) (sym e) ∙ next)
    ∙ ap (λ x. b ∷ undoubled m x) (sym (behind_mark n rest after b split)))

-- a mark was written, and a second one that follows it was passed
pub turn_mark : {start : List ℕ} (m n j : ℕ) (text rest after : List ℕ) (b : ℕ) → start ≡ text ++ undoubled m rest → n ≡ prefix_len (λ c. not (c == m)) rest → drop n rest ≡ b ∷ after
    → j ≡ marks_len m after → start ≡ (text ++ take (n + 1) rest) ++ undoubled m (drop (n + j) rest)
turn_mark {start} m n j text rest after b read run split marks = go (next_is m after) refl marks
  where
    go : (t : Bool) → next_is m after ≡ t → j ≡ cond t 2 1 → start ≡ (text ++ take (n + 1) rest) ++ undoubled m (drop (n + j) rest)
    go true e h = subst (λ k. start ≡ (text ++ take (n + 1) rest) ++ undoubled m (drop (n + k) rest)) (sym h) (turn_two m n text rest after b read run split e)
    go false e h = subst (λ k. start ≡ (text ++ take (n + 1) rest) ++ undoubled m (drop (n + k) rest)) (sym h) (turn_one m n text rest after b read run split e)

-- behind the marks a text may be cut
pub marks_boundary : (m n j : ℕ) (rest after : List ℕ) (b : ℕ) → m < 128 → IsUtf8 rest → n ≡ prefix_len (λ c. not (c == m)) rest → drop n rest ≡ b ∷ after → j ≡ marks_len m after
    → IsCharBoundary rest (n + j)
marks_boundary m n j rest after b small text run split marks = go (next_is m after) refl marks
  where
    go : (t : Bool) → next_is m after ≡ t → j ≡ cond t 2 1 → IsCharBoundary rest (n + j)
    go false e h = subst (λ k. IsCharBoundary rest (n + k)) (sym h) (run_boundary m n rest after b small text run split)
    go true e h =
        let second : drop (n + 1) rest ≡ m ∷ drop 1 after = behind_mark n rest after b split ∙ next_cons m after e in
        let below : n + 1 < length rest = omega (arith, ap length second, length-drop (n + 1) rest) in
        let at : get_or rest (n + 1) 0 ≡ m = get_at rest (n + 1) ∙ ap (λ x. get_or x 0 0) second in
        subst (λ k. IsCharBoundary rest (n + k)) (sym h)
        (subst (IsCharBoundary rest) {x = n + 1 + 1} {y = n + 2} (omega arith) (IsCharBoundary-after_ascii rest (n + 1) text below (omega (arith, at, small))))

pub marks_within : (m n j : ℕ) (rest after : List ℕ) (b : ℕ) → drop n rest ≡ b ∷ after → j ≡ marks_len m after → (0 < j) × (n + j ≤ length rest)
marks_within m n j rest after b split marks = go (next_is m after) refl marks
  where
    go : (t : Bool) → next_is m after ≡ t → j ≡ cond t 2 1 → (0 < j) × (n + j ≤ length rest)
    go false e h = (omega (arith, h), omega (arith, h, ap length split, length-drop n rest))
    go true e h = (omega (arith, h), omega (arith, h, ap length split, ap length (next_cons m after e), length-drop n rest))

pub slice_from : (xs : List ℕ) (n : ℕ) → take (length xs - n) (drop n xs) ≡ drop n xs
slice_from xs n = take_all (length xs - n) (drop n xs) (omega (arith, length-drop n xs))

-- ---- what stands for a text without marks

data Unmarked (m : ℕ) : List ℕ → Type 0 where
  none : Unmarked m []
  more : {b : ℕ} {bs : List ℕ} → (m ≡ b → ⊥) → Unmarked m bs → Unmarked m (b ∷ bs)

head_is : {a b : ℕ} {xs ys : List ℕ} → a ∷ xs ≡ b ∷ ys → a ≡ b
head_is e = cc

tail_is : {a b : ℕ} {xs ys : List ℕ} → a ∷ xs ≡ b ∷ ys → xs ≡ ys
tail_is e = cc

without_marks : (m : ℕ) (ds bs : List ℕ) → Unmarked m ds → undoubled m bs ≡ ds → bs ≡ ds
without_marks m ds [] u e = e
without_marks m ds (b ∷ []) u e = e
without_marks m [] (b ∷ c ∷ bs) u e = absurd (go (b == m && c == m) e)
  where
    go : (t : Bool) → cond t (m ∷ undoubled m bs) (b ∷ undoubled m (c ∷ bs)) ≡ [] → ⊥
    go true e = cc
    go false e = cc
without_marks m (d ∷ ds) (b ∷ c ∷ bs) (more n u) e = go (b == m && c == m) (without_marks m ds (c ∷ bs) u) e
  where
    go : (t : Bool) → (undoubled m (c ∷ bs) ≡ ds → c ∷ bs ≡ ds) → cond t (m ∷ undoubled m bs) (b ∷ undoubled m (c ∷ bs)) ≡ d ∷ ds → b ∷ c ∷ bs ≡ d ∷ ds
    go true step e = absurd (n (head_is e))
    go false step e = ap (λ x. x ∷ c ∷ bs) (head_is e) ∙ ap (λ x. d ∷ x) (step (tail_is e))

doc_unmarked : (m : ℕ) → m < 97 → Unmarked m (codes "doc")
doc_unmarked m small = more (λ e. absurd (omega (arith, small, e))) (more (λ e. absurd (omega (arith, small, e))) (more (λ e. absurd (omega (arith, small, e))) none))

pub doc_stands : (m : ℕ) (inside : List ℕ) → m < 97 → inside ≡ codes "doc" → true ≡ bytes_eq (undoubled m inside) (codes "doc")
doc_stands m inside small is =
    let plain : (b : ℕ) → 97 ≤ b → (b == m) ≡ false = λ b l. ne_eqb b m (λ e. absurd (omega (arith, small, l, e))) in
    let text : undoubled m (codes "doc") ≡ codes "doc" =
    undoubled_plain m 100 (111 ∷ 99 ∷ []) (plain 100 (omega arith)) ∙ ap (λ x. 100 ∷ x) (undoubled_plain m 111 (99 ∷ []) (plain 111 (omega arith))) in
    sym (ap (λ x. bytes_eq (undoubled m x) (codes "doc")) is ∙ ap (λ x. bytes_eq x (codes "doc")) text)

pub doc_does_not_stand : (m : ℕ) (inside : List ℕ) → m < 97 → (inside ≡ codes "doc" → ⊥) → false ≡ bytes_eq (undoubled m inside) (codes "doc")
doc_does_not_stand m inside small is = go (bytes_eq (undoubled m inside) (codes "doc")) refl
  where
    go : (b : Bool) → bytes_eq (undoubled m inside) (codes "doc") ≡ b → false ≡ bytes_eq (undoubled m inside) (codes "doc")
    go true e = absurd (is (without_marks m (codes "doc") inside (doc_unmarked m small) ((bytes_eq-Decides (undoubled m inside) (codes "doc")).0 e)))
    go false e = sym e
