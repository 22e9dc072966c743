-- What the parser notes of a statement: the first fault of a path text, and the first part that this implementation lacks.
use Rattle.std.specs.Prelude.{Option, None, Some, Result, Ok, Err}
use Rattle.sj_path_grammar.specs.declared.refusal.Name.{Name}
use Rattle.sj_path_grammar.specs.declared.refusal.PathRefusal.{PathRefusal}
use Rattle.sj_path_grammar.specs.declared.refusal.PathRefusal.TheVariants as r
use Rattle.sj_path_tree.specs.Tree.{Path}
use Rattle.sj_sql_grammar.specs.declared.refusal.FileKind.{FileKind}
use Rattle.sj_sql_grammar.specs.declared.refusal.FileKind.TheVariants as kind
use Rattle.sj_sql_grammar.specs.Tree.{PathText, Written, OfName}
use Rattle.sj_sql_grammar.specs.Notes.{Notes}
use Rattle.sj_sql_grammar.specs.Answers.{path_of}
use Rattle.sj_sql_grammar.specs.PathAnswers.{path_answer}

pub record Faults : Type 0 where
  pub path : Option FileKind
  pub unsupported : Option Name

abbrev pub nothing_noted : Faults
nothing_noted = record { path = None; unsupported = None }

-- what was noted first stays
abbrev pub or_first : {A : Type 0} → Option A → A → Option A
or_first None x = Some x
or_first (Some y) x = Some y

abbrev pub noting_unsupported : Name → Faults → Faults
noting_unsupported name f = record { path = f.path; unsupported = or_first f.unsupported name }

abbrev pub noting_fault : FileKind → Faults → Faults
noting_fault fault f = record { path = or_first f.path fault; unsupported = f.unsupported }

-- A refusal for a part that is lacking is no fault of the text; being out of memory says nothing of it.
abbrev pub noting_refusal : PathRefusal → Faults → Faults
noting_refusal r.Lex f = noting_fault kind.PathLex f
noting_refusal r.TooDeep f = noting_fault kind.PathTooDeep f
noting_refusal r.Syntax f = noting_fault kind.PathSyntax f
noting_refusal r.Misplaced f = noting_fault kind.PathMisplaced f
noting_refusal (r.Unsupported name) f = noting_unsupported name f
noting_refusal r.Memory f = f

abbrev pub noting_answer : Result Path PathRefusal → Faults → Faults
noting_answer (Ok p) f = f
noting_answer (Err refusal) f = noting_refusal refusal f

-- the member path of a name has no fault
abbrev pub noting_path : PathText → Faults → Faults
noting_path (Written text) f = noting_answer (path_answer text) f
noting_path (OfName name) f = f

-- each path stands as its own tree, and what is noted is what may refuse the statement
abbrev pub parsing : Notes Path Faults
parsing = record { path_of = path_of; see_path = noting_path; see_unsupported = noting_unsupported }
