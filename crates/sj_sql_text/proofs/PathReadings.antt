-- The canonical text of the path that stands for a written path is accepted as this path.
use Rattle.std.proofs.Common.{◌≡◌, ℕ, zero, suc, ◌<◌, inl, inr, false, List, take, Option, Some, None, refl, sym, ap, ◌∙◌, arith}
use Rattle.sj_path_grammar.specs.declared.refusal.Name.{Name}
use Rattle.sj_path_grammar.specs.declared.refusal.PathRefusal.TheVariants as r
use Rattle.sj_path_tree.specs.declared.parts.Mode.TheVariants as mode
use Rattle.sj_path_tree.specs.Tree.{Path, Root, Access, Member}
use Rattle.sj_path_grammar.specs.Depth.{is_opening, is_counted, IsTooDeep}
use Rattle.sj_path_grammar.specs.Misplaced.{is_misplaced}
use Rattle.sj_path_grammar.specs.Answers.{Accepts}
use Rattle.sj_path_grammar.specs.Accepted.{accepted_path}
use Rattle.sj_path_grammar.proofs.Acceptance.{path_accepted, accepted_is}
use Rattle.sj_path_grammar.proofs.Laws as grammar
use Rattle.sj_path_text.specs.Text.{path_text}
use Rattle.sj_path_text.specs.Tokens.{path_tokens}
use Rattle.sj_path_text.proofs.Made.{IsMade}
use Rattle.sj_path_text.proofs.Texts.{path_lexes}
use Rattle.sj_path_text.proofs.Spellings.{path_is}
use Rattle.sj_path_text.proofs.Support.{supported}
use Rattle.sj_path_text.proofs.Counts.{tally, tally_is}
use Rattle.sj_path_text.proofs.Laws as paths
use Rattle.sj_sql_grammar.specs.declared.refusal.FileKind.{FileKind}
use Rattle.sj_sql_grammar.specs.Tree.{PathText, Written, OfName}
use Rattle.sj_sql_grammar.specs.Answers.{path, path_kind, IsFault, IsUnsupported, or_root, path_of}

accepted_by : (p : Path) → IsMade p → (IsTooDeep (path_tokens p) → ⊥) → is_misplaced p ≡ false → Accepts (path_text p) p
accepted_by p made shallow placed =
    record { tokens = path_tokens p; breaks = path_lexes p made; allowed = record { spells = record { shallow = shallow; tree = path_is p made }; placed = placed; supported = supported p } }

-- ---- the root, and the member path of a name

abbrev root : Path
root = record { mode = mode.Lax; expr = Root }

abbrev member : List ℕ → Path
member name = record { mode = mode.Lax; expr = Access Root (Member name) }

root_opens : (n : ℕ) → tally is_opening (take n (path_tokens root)) ≡ 0
root_opens zero = refl
root_opens (suc zero) = refl
root_opens (suc (suc zero)) = refl
root_opens (suc (suc (suc n))) = refl

member_opens : (name : List ℕ) (n : ℕ) → tally is_opening (take n (path_tokens (member name))) ≡ 0
member_opens name zero = refl
member_opens name (suc zero) = refl
member_opens name (suc (suc zero)) = refl
member_opens name (suc (suc (suc zero))) = refl
member_opens name (suc (suc (suc (suc zero)))) = refl
member_opens name (suc (suc (suc (suc (suc n))))) = refl

-- tokens that open nothing, of which few are counted
shallow : (p : Path) → ((n : ℕ) → tally is_opening (take n (path_tokens p)) ≡ 0) → tally is_counted (path_tokens p) < 2 → IsTooDeep (path_tokens p) → ⊥
shallow p none few (inl x) =
    let opened = tally_is is_opening (take x.0 (path_tokens p)) in
    let here = none x.0 in
    absurd (omega (arith, x.1, opened, here))
shallow p none few (inr many) = let counted = tally_is is_counted (path_tokens p) in absurd (omega (arith, many, counted, few))

root_accepted : Accepts (path_text root) root
root_accepted = accepted_by root tt (shallow root root_opens (omega arith)) refl

member_accepted : (name : List ℕ) → Accepts (path_text (member name)) (member name)
member_accepted name = accepted_by (member name) (tt, tt) (shallow (member name) (member_opens name) (omega arith)) refl

-- ---- all

pub read_again : (q : PathText) → Accepts (path_text (path_of q)) (path_of q)
read_again (OfName name) = member_accepted name
read_again (Written text) = go (accepted_path text) refl
  where
    go : (o : Option Path) → accepted_path text ≡ o → Accepts (path_text (or_root o)) (or_root o)
    go None e = root_accepted
    go (Some p) e = paths.accepted text p (path_accepted text p e)

pub same_path : (q : PathText) → path_of (Written (path_text (path_of q))) ≡ path_of q
same_path q = ap or_root (accepted_is (path_text (path_of q)) (path_of q) (read_again q))

apart : {A : Type 0} {x : A} → None ≡ Some x → ⊥
apart e = cc

pub faultless : (q : PathText) (k : FileKind) → IsFault (path (Written (path_text (path_of q)))) k → ⊥
faultless q k f = apart (ap path_kind (sym (grammar.accepted (path_text (path_of q)) (path_of q) f.0 (read_again q) f.1)) ∙ f.2)

no_memory : (name : Name) → r.Unsupported name ≡ r.Memory → ⊥
no_memory name e = cc

pub all_supported : (q : PathText) (name : Name) → IsUnsupported (path (Written (path_text (path_of q)))) name → ⊥
all_supported q name f = no_memory name (grammar.accepted (path_text (path_of q)) (path_of q) (r.Unsupported name) (read_again q) f)
