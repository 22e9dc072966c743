use Rattle.std.proofs.Common.{◌≡◌, Some, Err, ap, ◌∙◌, subst}
use Rattle.sj_json.specs.Machine.{after_value, ending, reading}
use Rattle.sj_json.proofs.Sound.{reading_spelled}
use Rattle.sj_read.specs.declared.reader.TheConstants.{MAX_DEPTH}
use Rattle.sj_read.specs.declared.reader.ReadRefusal.{ReadRefusal}
use Rattle.sj_read.specs.LinesRead.{HasRead}
use Rattle.sj_read.proofs.Ends.{not_json}
use Rattle.sj_read.proofs.line.read_held.Goals as goal

pub returns-in-Ok-clause-read : goal.returns-in-Ok-clause-read
returns-in-Ok-clause-read c =
    let e : reading MAX_DEPTH c.args.text.now ≡ Some c.finish.result = c.in-Ok.ensures.read.1 ∙ ap (ending after_value) c.finish.ensures in
    let sp = reading_spelled MAX_DEPTH c.args.text.now c.finish.result e in
    (sp.0, (c.utf8.text, c.requires.short, (c.finish.result, sp.0, sp.1)))

pub returns-in-Err-NotJson-clause-read : goal.returns-in-Err-NotJson-clause-read
returns-in-Err-NotJson-clause-read c h =
    not_json c.args.text.now (subst (λ (r : ReadRefusal). HasRead c.args.text.now (Err r) c.read_and_trim.new.builder.0) c.in-Err-NotJson.field-0-is c.in-Err-NotJson.ensures.read) h
