use Rattle.std.proofs.Common.{sym, ap, subst}
use Rattle.sj_json.proofs.Documents.{document_gives, document_refused}
use Rattle.sj_read.specs.LinesRead.{IsReadAs}
use Rattle.sj_read.specs.declared.line.LineRead.TheVariants.{Json, NotJson}
use Rattle.sj_batch.specs.Batch.{reading}
use Rattle.sj_batch.proofs.batch.reading_of.Goals as goal

pub returns-in-Ok-Json : goal.returns-in-Ok-Json
returns-in-Ok-Json c =
    let read : IsReadAs c.args.line.now (Json c.in-Ok-Json.doc) = subst (IsReadAs c.args.line.now) c.in-Ok-Json.field-0-is c.in-Ok-Json.ensures.read in
    rw (document_gives c.args.line.now c.in-Ok-Json.doc read.1 read.0) c.judged.ensures

pub returns-in_ok-push-in-Ok-NotJson : goal.returns-in_ok-push-in-Ok-NotJson
returns-in_ok-push-in-Ok-NotJson c =
    let read : IsReadAs c.args.line.now (NotJson c.in-Ok-NotJson.builder) = subst (IsReadAs c.args.line.now) c.in-Ok-NotJson.field-0-is c.in-Ok-NotJson.ensures.read in
    ap (reading c.args.keys) (sym (document_refused c.args.line.now read))
