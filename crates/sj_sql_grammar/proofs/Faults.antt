-- What the parser notes of a tree is the first fault of a path text and the first part that is lacking.
use Rattle.std.proofs.Common.{◌≡◌, ◌↔◌, ℕ, List, [], ◌∷◌, Option, Some, None, Result, Ok, Err, refl, sym, ap, subst, ◌∙◌}
use Rattle.sj_path_grammar.specs.declared.refusal.Name.{Name}
use Rattle.sj_path_grammar.specs.declared.refusal.PathRefusal.{PathRefusal}
use Rattle.sj_path_grammar.specs.declared.refusal.PathRefusal.TheVariants as r
use Rattle.sj_path_tree.specs.Tree.{Path}
use Rattle.sj_path_grammar.specs.Answers.{Refuses}
use Rattle.sj_sql_grammar.specs.declared.refusal.FileKind.{FileKind}
use Rattle.sj_sql_grammar.specs.declared.refusal.FileKind.TheVariants as kind
use Rattle.sj_sql_grammar.specs.Tree.{PathText, Written, OfName, Statement}
use Rattle.sj_sql_grammar.specs.Notes.{note_statement}
use Rattle.sj_sql_grammar.specs.Answers.{Mark, path, unsupported, marks, path_kind, IsFault, IsUnsupported, Free, First}
use Rattle.sj_sql_grammar.specs.PathAnswers.{path_answer}
use Rattle.sj_sql_grammar.specs.Faults.{Faults, nothing_noted, or_first, noting_answer, parsing}
use Rattle.sj_sql_grammar.proofs.ReadTokens.{some_is}
use Rattle.sj_sql_grammar.proofs.PathAnswers.{refused_answer, answer_refused}
use Rattle.sj_sql_grammar.proofs.Marks.{see, seen, noted}
use Rattle.sj_sql_grammar.proofs.Firsts.{or_opt, or_none, or_assoc, none_some, first, free_first, first_free, is_first, first_is}

-- ---- what a mark is

abbrev answer_fault : Result Path PathRefusal → Option FileKind
answer_fault (Ok p) = None
answer_fault (Err e) = path_kind e

abbrev pub fault_of : Mark → Option FileKind
fault_of (path (Written text)) = answer_fault (path_answer text)
fault_of (path (OfName name)) = None
fault_of (unsupported name) = None

abbrev refusal_unsupported : PathRefusal → Option Name
refusal_unsupported (r.Unsupported name) = Some name
refusal_unsupported _ = None

abbrev answer_unsupported : Result Path PathRefusal → Option Name
answer_unsupported (Ok p) = None
answer_unsupported (Err e) = refusal_unsupported e

abbrev pub unsupported_of : Mark → Option Name
unsupported_of (path (Written text)) = answer_unsupported (path_answer text)
unsupported_of (path (OfName name)) = None
unsupported_of (unsupported name) = Some name

text_fault : (text : List ℕ) (x : FileKind) (o : Result Path PathRefusal) → path_answer text ≡ o → answer_fault o ≡ Some x → IsFault (path (Written text)) x
text_fault text x (Ok p) e h = absurd (none_some h)
text_fault text x (Err refusal) e h = (refusal, (answer_refused text refusal e).0, h)

pub tells_fault : (m : Mark) (x : FileKind) → fault_of m ≡ Some x → IsFault m x
tells_fault (path (Written text)) x h = text_fault text x (path_answer text) refl h
tells_fault (path (OfName name)) x h = none_some h
tells_fault (unsupported name) x h = none_some h

pub told_fault : (m : Mark) (x : FileKind) → IsFault m x → fault_of m ≡ Some x
told_fault (path (Written text)) x i =
    let other : i.0 ≡ r.Memory → ⊥ = λ q. none_some (sym (ap path_kind q) ∙ i.2) in
    ap answer_fault (refused_answer text i.0 other i.1) ∙ i.2
told_fault (path (OfName name)) x i = absurd i
told_fault (unsupported name) x i = absurd i

refused_unsupported : (text : List ℕ) (x : Name) (e : PathRefusal) → Refuses text e → refusal_unsupported e ≡ Some x → Refuses text (r.Unsupported x)
refused_unsupported text x (r.Unsupported name) f h = subst (λ (n : Name). Refuses text (r.Unsupported n)) (some_is h) f
refused_unsupported text x r.Lex f h = absurd (none_some h)
refused_unsupported text x r.TooDeep f h = absurd (none_some h)
refused_unsupported text x r.Syntax f h = absurd (none_some h)
refused_unsupported text x r.Misplaced f h = absurd (none_some h)
refused_unsupported text x r.Memory f h = absurd (none_some h)

text_unsupported : (text : List ℕ) (x : Name) (o : Result Path PathRefusal) → path_answer text ≡ o → answer_unsupported o ≡ Some x → Refuses text (r.Unsupported x)
text_unsupported text x (Ok p) e h = absurd (none_some h)
text_unsupported text x (Err refusal) e h = refused_unsupported text x refusal (answer_refused text refusal e).0 h

pub tells_unsupported : (m : Mark) (x : Name) → unsupported_of m ≡ Some x → IsUnsupported m x
tells_unsupported (path (Written text)) x h = text_unsupported text x (path_answer text) refl h
tells_unsupported (path (OfName name)) x h = none_some h
tells_unsupported (unsupported name) x h = some_is h

supported_is_no_memory : (x : Name) → r.Unsupported x ≡ r.Memory → ⊥
supported_is_no_memory x q = cc

pub told_unsupported : (m : Mark) (x : Name) → IsUnsupported m x → unsupported_of m ≡ Some x
told_unsupported (path (Written text)) x i = ap answer_unsupported (refused_answer text (r.Unsupported x) (supported_is_no_memory x) i)
told_unsupported (path (OfName name)) x i = absurd i
told_unsupported (unsupported name) x i = ap Some i

-- ---- what is noted of a mark

added : {A : Type 0} (x : Option A) (y : A) → or_first x y ≡ or_opt x (Some y)
added None y = refl
added (Some x) y = refl

kept : {A : Type 0} (x : Option A) → x ≡ or_opt x None
kept x = sym (or_none x)

refusal_path : (e : PathRefusal) (f : Faults) → (noting_answer (Err e) f).path ≡ or_opt f.path (path_kind e)
refusal_path r.Lex f = added f.path kind.PathLex
refusal_path r.TooDeep f = added f.path kind.PathTooDeep
refusal_path r.Syntax f = added f.path kind.PathSyntax
refusal_path r.Misplaced f = added f.path kind.PathMisplaced
refusal_path (r.Unsupported name) f = kept f.path
refusal_path r.Memory f = kept f.path

answer_path : (o : Result Path PathRefusal) (f : Faults) → (noting_answer o f).path ≡ or_opt f.path (answer_fault o)
answer_path (Ok p) f = kept f.path
answer_path (Err e) f = refusal_path e f

mark_path : (m : Mark) (f : Faults) → (see parsing m f).path ≡ or_opt f.path (fault_of m)
mark_path (path (Written text)) f = answer_path (path_answer text) f
mark_path (path (OfName name)) f = kept f.path
mark_path (unsupported name) f = kept f.path

refusal_unsupported_parts : (e : PathRefusal) (f : Faults) → (noting_answer (Err e) f).unsupported ≡ or_opt f.unsupported (refusal_unsupported e)
refusal_unsupported_parts r.Lex f = kept f.unsupported
refusal_unsupported_parts r.TooDeep f = kept f.unsupported
refusal_unsupported_parts r.Syntax f = kept f.unsupported
refusal_unsupported_parts r.Misplaced f = kept f.unsupported
refusal_unsupported_parts (r.Unsupported name) f = added f.unsupported name
refusal_unsupported_parts r.Memory f = kept f.unsupported

answer_unsupported_parts : (o : Result Path PathRefusal) (f : Faults) → (noting_answer o f).unsupported ≡ or_opt f.unsupported (answer_unsupported o)
answer_unsupported_parts (Ok p) f = kept f.unsupported
answer_unsupported_parts (Err e) f = refusal_unsupported_parts e f

mark_unsupported : (m : Mark) (f : Faults) → (see parsing m f).unsupported ≡ or_opt f.unsupported (unsupported_of m)
mark_unsupported (path (Written text)) f = answer_unsupported_parts (path_answer text) f
mark_unsupported (path (OfName name)) f = kept f.unsupported
mark_unsupported (unsupported name) f = added f.unsupported name

-- ---- what is noted of a tree

marks_path : (ms : List Mark) (f : Faults) → (seen parsing ms f).path ≡ or_opt f.path (first fault_of ms)
marks_path [] f = kept f.path
marks_path (m ∷ ms) f =
    marks_path ms (see parsing m f) ∙ ap (λ (o : Option FileKind). or_opt o (first fault_of ms)) (mark_path m f) ∙ or_assoc f.path (fault_of m) (first fault_of ms)

marks_unsupported : (ms : List Mark) (f : Faults) → (seen parsing ms f).unsupported ≡ or_opt f.unsupported (first unsupported_of ms)
marks_unsupported [] f = kept f.unsupported
marks_unsupported (m ∷ ms) f =
    marks_unsupported ms (see parsing m f) ∙ ap (λ (o : Option Name). or_opt o (first unsupported_of ms)) (mark_unsupported m f) ∙ or_assoc f.unsupported (unsupported_of m) (first unsupported_of ms)

abbrev pub noted_of : Statement PathText → Faults
noted_of x = note_statement parsing x nothing_noted

pub noted_path : (x : Statement PathText) → (noted_of x).path ≡ first fault_of (marks x)
noted_path x = ap (λ (f : Faults). f.path) (noted parsing x nothing_noted) ∙ marks_path (marks x) nothing_noted

pub noted_unsupported : (x : Statement PathText) → (noted_of x).unsupported ≡ first unsupported_of (marks x)
noted_unsupported x = ap (λ (f : Faults). f.unsupported) (noted parsing x nothing_noted) ∙ marks_unsupported (marks x) nothing_noted

pub first_fault : (x : Statement PathText) (k : FileKind) → ((noted_of x).path ≡ Some k) ↔ First IsFault (marks x) k
first_fault x k = (
  (λ h. first_is fault_of IsFault tells_fault told_fault (marks x) k (sym (noted_path x) ∙ h)),
  (λ d. noted_path x ∙ is_first fault_of IsFault tells_fault told_fault d),
)

pub no_fault : (x : Statement PathText) → ((noted_of x).path ≡ None) ↔ Free IsFault (marks x)
no_fault x = (
  (λ h. first_free fault_of IsFault tells_fault told_fault (marks x) (sym (noted_path x) ∙ h)),
  (λ d. noted_path x ∙ free_first fault_of IsFault tells_fault told_fault d),
)

pub first_unsupported : (x : Statement PathText) (name : Name) → ((noted_of x).unsupported ≡ Some name) ↔ First IsUnsupported (marks x) name
first_unsupported x name = (
  (λ h. first_is unsupported_of IsUnsupported tells_unsupported told_unsupported (marks x) name (sym (noted_unsupported x) ∙ h)),
  (λ d. noted_unsupported x ∙ is_first unsupported_of IsUnsupported tells_unsupported told_unsupported d),
)

pub no_unsupported : (x : Statement PathText) → ((noted_of x).unsupported ≡ None) ↔ Free IsUnsupported (marks x)
no_unsupported x = (
  (λ h. first_free unsupported_of IsUnsupported tells_unsupported told_unsupported (marks x) (sym (noted_unsupported x) ∙ h)),
  (λ d. noted_unsupported x ∙ free_first unsupported_of IsUnsupported tells_unsupported told_unsupported d),
)
