-- The path of a text, and what is noted behind it, as parse_path answers.
use Rattle.std.proofs.Common.{◌≡◌, ℕ, List, Option, Some, None, refl, sym, ap, ◌∙◌}
use Rattle.sj_path_grammar.specs.declared.refusal.PathRefusal.{PathRefusal}
use Rattle.sj_path_grammar.specs.declared.refusal.PathRefusal.TheVariants as r
use Rattle.sj_path_tree.specs.declared.parts.Mode.TheVariants as mode
use Rattle.sj_path_tree.specs.Tree.{Path, Root}
use Rattle.sj_path_grammar.specs.Answers.{Accepts, Refuses}
use Rattle.sj_path_grammar.specs.Accepted.{accepted_path}
use Rattle.sj_path_grammar.proofs.Acceptance.{path_accepted, accepted_is}
use Rattle.sj_path_grammar.proofs.Laws as laws
use Rattle.sj_sql_grammar.specs.Answers.{or_root}
use Rattle.sj_sql_grammar.specs.Faults.{Faults, noting_refusal, noting_answer}
use Rattle.sj_sql_grammar.specs.Tree.{Written}
use Rattle.sj_sql_grammar.proofs.PathAnswers.{accepted_answer, refused_answer}
use Rattle.sj_sql.specs.Noted.{IsNoted}

-- the path lax $
abbrev pub root : Path
root = record { mode = mode.Lax; expr = Root }

pub accepted_text : (text : List ℕ) (p : Path) (f : Faults) → Accepts text p → IsNoted (Written text) f p f
accepted_text text p f a = record {
  its_path = ap or_root (sym (accepted_is text p a));
  noted = ap (λ x. noting_answer x f) (sym (accepted_answer text p a));
}

no_path : (text : List ℕ) (e : PathRefusal) → (e ≡ r.Memory → ⊥) → Refuses text e → accepted_path text ≡ None
no_path text e other refused = go (accepted_path text) refl
  where
    go : (o : Option Path) → accepted_path text ≡ o → accepted_path text ≡ None
    go None is = is
    go (Some p) is = absurd (other (laws.accepted text p e (path_accepted text p is) refused))

pub refused_text : (text : List ℕ) (e : PathRefusal) (f g : Faults) → (e ≡ r.Memory → ⊥) → Refuses text e → g ≡ noting_refusal e f → IsNoted (Written text) f root g
refused_text text e f g other refused made = record {
  its_path = ap or_root (sym (no_path text e other refused));
  noted = made ∙ ap (λ x. noting_answer x f) (sym (refused_answer text e other refused));
}
