-- The document of a text is the tree that it spells.
use Rattle.std.proofs.Common.{◌≡◌, ℕ, ◌≤◌, List, length, Bool, true, false, cond, ◌&&◌, nat_le, Option, Some, None, refl, ◌∙◌, ap, arith}
use Rattle.std.proofs.lemmas.Bool.Decides.{nat_tests}
use Rattle.std.proofs.lemmas.Str.{IsUtf8-from_is_utf8, is_utf8-from_IsUtf8}
use Rattle.std.specs.Str.{is_utf8}
use Rattle.sj_json.specs.Tree.{Tree}
use Rattle.sj_json.specs.Spelling.{SpellsText, IsJson, max_length, max_depth}
use Rattle.sj_json.specs.Machine.{reading}
use Rattle.sj_json.specs.Document.{document}
use Rattle.sj_json.proofs.Complete.{reading_gives, one_tree_each}
use Rattle.sj_json.proofs.Sound.{reading_spelled}

le_true : (m n : ℕ) → m ≤ n → nat_le m n ≡ true
le_true m n h = grind (arith, nat_tests)

le_from : (m n : ℕ) → nat_le m n ≡ true → m ≤ n
le_from m n h = grind (arith, nat_tests)

-- what a passed test gives
tested : (a b : Bool) (r : Option Tree) (t : Tree) → cond (a && b) r None ≡ Some t → (a ≡ true) × (b ≡ true) × (r ≡ Some t)
tested true true r t e = (refl, refl, e)
tested true false r t e = cc
tested false b r t e = cc

passes : (a b : Bool) (r : Option Tree) → a ≡ true → b ≡ true → cond (a && b) r None ≡ r
passes true true r p q = refl
passes true false r p q = cc
passes false b r p q = cc

pub document_spelled : (b : List ℕ) (t : Tree) → document b ≡ Some t → IsJson b × SpellsText t b
unfolding document
document_spelled b t e =
    let f = tested (is_utf8 b) (nat_le (length b) max_length) (reading max_depth b) t e in
    let s = reading_spelled max_depth b t f.2 in
    ((IsUtf8-from_is_utf8 b f.0, le_from (length b) max_length f.1, (t, s.0, s.1)), s.0)

pub document_gives : (b : List ℕ) (t : Tree) → IsJson b → SpellsText t b → document b ≡ Some t
unfolding document
document_gives b t h s =
    passes (is_utf8 b) (nat_le (length b) max_length) (reading max_depth b) (is_utf8-from_IsUtf8 b h.0) (le_true (length b) max_length h.1)
    ∙ reading_gives max_depth h.2.0 b h.2.1 h.2.2
    ∙ ap Some (one_tree_each h.2.0 t b h.2.1 s)

pub document_none : (b : List ℕ) → document b ≡ None → IsJson b → ⊥
document_none b e h = let f : document b ≡ Some h.2.0 = document_gives b h.2.0 h h.2.1 in cc

by_cases : (b : List ℕ) (o : Option Tree) → document b ≡ o → (IsJson b → ⊥) → document b ≡ None
by_cases b None e no_json = e
by_cases b (Some t) e no_json = absurd (no_json (document_spelled b t e).0)

pub document_refused : (b : List ℕ) → (IsJson b → ⊥) → document b ≡ None
document_refused b no_json = by_cases b (document b) refl no_json
