-- What a whole file is read as.
use Rattle.std.specs.Prelude.{ℕ, Option, option_map}
use Rattle.sj_sql_grammar.specs.declared.refusal.FileKind.{FileKind}
use Rattle.sj_sql.specs.declared.script.FileFault.{FileFault}

-- the number of the statement, and why it is refused
abbrev pub fault_of : Option FileFault → Option (ℕ × FileKind)
fault_of x = option_map (λ f. (f.statement, f.kind)) x
