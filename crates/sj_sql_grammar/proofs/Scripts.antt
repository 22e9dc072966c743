-- A file has at most one answer.
use Rattle.std.proofs.Common.{◌≡◌, ℕ, List, ◌∷◌, Option, Some, Result, Ok, Err, refl, ap, ap₂}
use Rattle.sj_path_tree.specs.Tree.{Path}
use Rattle.sj_sql_token.specs.Tokens.{Lexed}
use Rattle.sj_sql_grammar.specs.declared.refusal.FileKind.{FileKind}
use Rattle.sj_sql_grammar.specs.Tree.{Statement}
use Rattle.sj_sql_grammar.specs.Phrases.{Tokens}
use Rattle.sj_sql_grammar.specs.Answers.{Ending, Accepted, Forbids, IsScript, done, unended, faulty, refused, accepted, IsFile}
use Rattle.sj_sql_grammar.proofs.Verdicts.{one_answer}

same_kind : (ts : Tokens) (v w : FileKind) → Forbids ts v → Forbids ts w → v ≡ w
same_kind ts v w f g = let same : ◌≡◌ {A = Result (Statement Path) FileKind} (Err v) (Err w) = one_answer ts (Err v) (Err w) f g in cc

not_both : (ts : Tokens) (s : Statement Path) (w : FileKind) → Accepted ts s → Forbids ts w → ⊥
not_both ts s w a f = let same : ◌≡◌ {A = Result (Statement Path) FileKind} (Ok s) (Err w) = one_answer ts (Ok s) (Err w) a f in cc

same_tree : (ts : Tokens) (s t : Statement Path) → Accepted ts s → Accepted ts t → s ≡ t
same_tree ts s t a b = let same : ◌≡◌ {A = Result (Statement Path) FileKind} (Ok s) (Ok t) = one_answer ts (Ok s) (Ok t) a b in cc

pub one_script : {k : ℕ} {tss : List Tokens} {e : Ending} {ss us : List (Statement Path)} {x y : Option (ℕ × FileKind)} → IsScript k tss e ss x → IsScript k tss e us y → (ss ≡ us) × (x ≡ y)
one_script done done = (refl, refl)
one_script unended unended = (refl, refl)
one_script faulty faulty = (refl, refl)
one_script (refused {k = k} {ts = ts} {why = v} f) (refused {why = w} g) = (refl, ap (λ (z : FileKind). Some (k, z)) (same_kind ts v w f g))
one_script (refused {ts = ts} {why = w} f) (accepted {s = s} a d) = absurd (not_both ts s w a f)
one_script (accepted {ts = ts} {s = s} a d) (refused {why = w} f) = absurd (not_both ts s w a f)
one_script (accepted {ts = ts} {s = s} a d) (accepted {s = t} b c) = let others = one_script d c in (ap₂ (λ v vs. v ∷ vs) (same_tree ts s t a b) others.0, others.1)

pub one_file : (file : Lexed) (ss us : List (Statement Path)) (x y : Option (ℕ × FileKind)) → IsFile file ss x → IsFile file us y → (ss ≡ us) × (x ≡ y)
one_file file ss us x y d c = one_script d c
