use Rattle.sj_sql.specs.declared.file.Gathered.TheVariants as gathered
use Rattle.sj_sql.proofs.Files.{gathered_so, refused_next, cut_off_first, broken_first}
use Rattle.sj_sql.proofs.file.next_statement.Goals as goal

pub returns-in-Ok-Statement : goal.returns-in-Ok-Statement
returns-in-Ok-Statement c =
    let ts = c.gather.new.tokens.items in
    let g = gathered_so c.args.file.now ts c.in-Ok-Statement.field-0 (gathered.Statement c.in-Ok-Statement.behind) c.in-Ok-Statement.field-0-is c.in-Ok-Statement.ensures in
    refused_next c.args.file.now c.in-Ok-Statement.behind.now ts c.as_slice.result.now c.in-Err-answer.refused g.0 c.as_slice.ensures.value c.in-Err-answer.ensures

pub returns-in-Ok-CutOff : goal.returns-in-Ok-CutOff
returns-in-Ok-CutOff c =
    cut_off_first c.args.file.now (gathered_so c.args.file.now c.gather.new.tokens.items c.in-Ok-CutOff.field-0 gathered.CutOff c.in-Ok-CutOff.field-0-is c.in-Ok-CutOff.ensures)

pub returns-in-Ok-Broken : goal.returns-in-Ok-Broken
returns-in-Ok-Broken c =
    broken_first c.args.file.now (gathered_so c.args.file.now c.gather.new.tokens.items c.in-Ok-Broken.field-0 gathered.Broken c.in-Ok-Broken.field-0-is c.in-Ok-Broken.ensures)
