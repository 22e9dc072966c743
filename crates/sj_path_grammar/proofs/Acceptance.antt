-- The path of a text is the one that it is accepted as.
use Rattle.std.proofs.Common.{◌≡◌, ◌⊎◌, inl, inr, ℕ, zero, suc, ◌+◌, ◌<◌, ◌≤◌, nat_lt, nat_le, Bool, true, false, ◌||◌, cond, List, length, take, count_by, Option, Some, None, refl, sym, ap, subst, ◌∙◌, arith}
use Rattle.std.proofs.lemmas.Bool.Decides.{nat_tests}
use Rattle.std.proofs.lemmas.List.{take_all}
use Rattle.std.proofs.Math.Seq.{take-length}
use Rattle.sj_base.specs.Options.{◌>>=◌}
use Rattle.sj_base.specs.Nesting.{max_open}
use Rattle.sj_path_token.specs.Reading.{lex}
use Rattle.sj_path_token.proofs.Texts.{lex_sound, lex_full}
use Rattle.sj_path_grammar.specs.declared.refusal.PathRefusal.{PathRefusal}
use Rattle.sj_path_grammar.specs.declared.refusal.PathRefusal.TheVariants.{Memory}
use Rattle.sj_path_grammar.specs.declared.refusal.Name.{Name}
use Rattle.sj_path_tree.specs.Tree.{Path}
use Rattle.sj_path_grammar.specs.Grammar.{Tokens}
use Rattle.sj_path_grammar.specs.Depth.{is_opening, is_closing, is_counted, max_counted, IsDeepAt, OpensTooMany, IsTooDeep}
use Rattle.sj_path_grammar.specs.Misplaced.{is_misplaced}
use Rattle.sj_path_grammar.specs.Unsupported.{unsupported}
use Rattle.sj_path_grammar.specs.Reading.{path_at}
use Rattle.sj_path_grammar.specs.Answers.{Allows, Accepts, Refuses}
use Rattle.sj_path_grammar.specs.Accepted.{is_deep_at, is_deep_within, is_too_deep, if_supported, accepted_path}
use Rattle.sj_path_grammar.proofs.Paths.{path_full, path_sound}
use Rattle.sj_path_grammar.proofs.Laws as laws

lt_from : (m n : ℕ) → nat_lt m n ≡ true → m < n
lt_from m n h = grind (arith, nat_tests)

lt_not : (m n : ℕ) → nat_lt m n ≡ false → m < n → ⊥
lt_not m n h l = grind (arith, nat_tests)

-- ---- the test of depth

or_cases : (a b : Bool) → a || b ≡ true → (a ≡ true) ⊎ (b ≡ true)
or_cases true b h = inl refl
or_cases false b h = inr h

or_left : (a b : Bool) → a || b ≡ false → a ≡ false
or_left true b h = cc
or_left false b h = refl

or_right : (a b : Bool) → a || b ≡ false → b ≡ false
or_right true b h = cc
or_right false b h = h

deep_found : (ts : Tokens) (n : ℕ) → is_deep_within ts n ≡ true → OpensTooMany ts
unfolding is_deep_within
deep_found ts zero h = (0, lt_from _ _ h)
deep_found ts (suc n) h = elim (or_cases (is_deep_at ts (suc n)) (is_deep_within ts n) h) [ inl here ↦ (suc n, lt_from _ _ here) | inr before ↦ deep_found ts n before ]

-- here or before
deep_step : (ts : Tokens) (n m : ℕ) → is_deep_at ts (suc n) ≡ false → (m ≤ n → ⊥) → m ≤ suc n → IsDeepAt ts m → ⊥
deep_step ts n m here before le d = go (nat_le m n) refl
  where
    go : (b : Bool) → nat_le m n ≡ b → ⊥
    go true e = before (grind (arith, nat_tests))
    go false e = let is : m ≡ suc n = grind (arith, nat_tests) in lt_not _ _ here (subst (λ (k : ℕ). IsDeepAt ts k) is d)

deep_missed : (ts : Tokens) (n : ℕ) → is_deep_within ts n ≡ false → (m : ℕ) → m ≤ n → IsDeepAt ts m → ⊥
unfolding is_deep_within
deep_missed ts zero h m le d = let is : m ≡ 0 = omega arith in lt_not _ _ h (subst (λ (k : ℕ). IsDeepAt ts k) is d)
deep_missed ts (suc n) h m le d =
    deep_step ts n m (or_left (is_deep_at ts (suc n)) (is_deep_within ts n) h) (λ small. deep_missed ts n (or_right (is_deep_at ts (suc n)) (is_deep_within ts n) h) m small d) le d

-- behind the last token nothing more opens
deep_anywhere : (ts : Tokens) → is_deep_within ts (length ts) ≡ false → (m : ℕ) → IsDeepAt ts m → ⊥
deep_anywhere ts h m d = go (nat_le m (length ts)) refl
  where
    go : (b : Bool) → nat_le m (length ts) ≡ b → ⊥
    go true e = deep_missed ts (length ts) h m (grind (arith, nat_tests)) d
    go false e =
        let long : length ts ≤ m = grind (arith, nat_tests) in
        let same : take m ts ≡ take (length ts) ts = take_all m ts long ∙ sym (take-length ts) in
        deep_missed ts (length ts) h (length ts) (omega arith) (subst (λ (us : Tokens). count_by is_closing us + max_open < count_by is_opening us) same d)

pub too_deep_found : (ts : Tokens) → is_too_deep ts ≡ true → IsTooDeep ts
too_deep_found ts h = elim (or_cases (is_deep_within ts (length ts)) (nat_lt max_counted (count_by is_counted ts)) h) [
  | inl deep ↦ inl (deep_found ts (length ts) deep)
  | inr many ↦ inr (lt_from _ _ many)
]

pub too_deep_missed : (ts : Tokens) → is_too_deep ts ≡ false → IsTooDeep ts → ⊥
too_deep_missed ts h (inl deep) = deep_anywhere ts (or_left (is_deep_within ts (length ts)) (nat_lt max_counted (count_by is_counted ts)) h) deep.0 deep.1
too_deep_missed ts h (inr many) = lt_not _ _ (or_right (is_deep_within ts (length ts)) (nat_lt max_counted (count_by is_counted ts)) h) many

-- ---- the path

-- what the steps of an acceptance give
taken : (u : Option Name) (o : Option Path) (p : Path) → (o >>= λ q. cond (is_misplaced q) None (if_supported u q)) ≡ Some p → (o ≡ Some p) × (is_misplaced p ≡ false) × (u ≡ None)
taken v None p h = cc
taken v (Some q) p h = go (is_misplaced q) v refl refl h
  where
    go : (b : Bool) (u : Option Name) → is_misplaced q ≡ b → v ≡ u → cond b None (if_supported u q) ≡ Some p → (Some q ≡ Some p) × (is_misplaced p ≡ false) × (v ≡ None)
    go true u m s e = cc
    go false (Some name) m s e = cc
    go false None m s e = let same : q ≡ p = cc in (e, ap is_misplaced (sym same) ∙ m, s)

allowed_by : (ts : Tokens) (p : Path) → cond (is_too_deep ts) None (path_at ts >>= λ q. cond (is_misplaced q) None (if_supported (unsupported ts) q)) ≡ Some p → Allows ts p
allowed_by ts p h = go (is_too_deep ts) refl h
  where
    go : (b : Bool) → is_too_deep ts ≡ b → cond b None (path_at ts >>= λ q. cond (is_misplaced q) None (if_supported (unsupported ts) q)) ≡ Some p → Allows ts p
    go true d e = cc
    go false d e = let f = taken (unsupported ts) (path_at ts) p e in record {
      spells = record { shallow = too_deep_missed ts d; tree = path_sound ts p f.0 };
      placed = f.1;
      supported = f.2;
    }

pub path_accepted : (text : List ℕ) (p : Path) → accepted_path text ≡ Some p → Accepts text p
unfolding accepted_path lex
path_accepted text p h = go (lex text) refl h
  where
    go : (o : Option Tokens) → lex text ≡ o → (o >>= λ ts. cond (is_too_deep ts) None (path_at ts >>= λ q. cond (is_misplaced q) None (if_supported (unsupported ts) q))) ≡ Some p → Accepts text p
    go None e f = cc
    go (Some ts) e f = record { tokens = ts; breaks = lex_sound (length text) text ts (omega arith) e; allowed = allowed_by ts p f }

no_test : (b : Bool) → (b ≡ true → ⊥) → b ≡ false
no_test true h = absurd (h refl)
no_test false h = refl

kept : (v : Option Name) (p : Path) → is_misplaced p ≡ false → v ≡ None → cond (is_misplaced p) None (if_supported v p) ≡ Some p
kept v p placed supported = ap (λ (b : Bool). cond b None (if_supported v p)) placed ∙ ap (λ (u : Option Name). if_supported u p) supported

read_so : (ts : Tokens) (p : Path) → Allows ts p → cond (is_too_deep ts) None (path_at ts >>= λ q. cond (is_misplaced q) None (if_supported (unsupported ts) q)) ≡ Some p
read_so ts p a =
    ap (λ (b : Bool). cond b None (path_at ts >>= λ q. cond (is_misplaced q) None (if_supported (unsupported ts) q))) (no_test (is_too_deep ts) (λ d. a.spells.shallow (too_deep_found ts d)))
    ∙ ap (λ (o : Option Path). o >>= λ q. cond (is_misplaced q) None (if_supported (unsupported ts) q)) (path_full a.spells.tree)
    ∙ kept (unsupported ts) p a.placed a.supported

pub accepted_is : (text : List ℕ) (p : Path) → Accepts text p → accepted_path text ≡ Some p
unfolding accepted_path lex
accepted_is text p a =
    ap (λ (o : Option Tokens). o >>= λ ts. cond (is_too_deep ts) None (path_at ts >>= λ q. cond (is_misplaced q) None (if_supported (unsupported ts) q))) (lex_full a.breaks (length text) (omega arith))
    ∙ read_so a.tokens p a.allowed

-- a refused text has no path
pub refused_is : (text : List ℕ) (e : PathRefusal) → (e ≡ Memory → ⊥) → Refuses text e → accepted_path text ≡ None
refused_is text e other r = go (accepted_path text) refl
  where
    go : (o : Option Path) → accepted_path text ≡ o → accepted_path text ≡ None
    go None q = q
    go (Some p) q = absurd (other (laws.accepted text p e (path_accepted text p q) r))
