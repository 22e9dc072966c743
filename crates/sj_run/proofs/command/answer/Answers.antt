use Rattle.std.proofs.Common.{None, Some, sym}
use Rattle.sj_file.specs.File.{shelf_at}
use Rattle.sj_stream.specs.Input.{input_at}
use Rattle.sj_run.proofs.Ending.{not_usage}
use Rattle.sj_run.proofs.command.answer.Goals as goal

pub returns-in-Some-Check-clause-usage_untouched : goal.returns-in-Some-Check-clause-usage_untouched
returns-in-Some-Check-clause-usage_untouched g c = λ is.
    absurd (not_usage _ (Some _) _ _ _ (c.check_file.ensures.ran (input_at g.I.Source c.args.input.now c.args.steps.now)) is)

pub returns-in-Some-Generated-clause-usage_untouched : goal.returns-in-Some-Generated-clause-usage_untouched
returns-in-Some-Generated-clause-usage_untouched g c = λ is. absurd (not_usage _ (Some _) _ _ _ (c.run_generated.ensures.ran None 0) is)

pub returns-in-Some-Show-clause-usage_untouched : goal.returns-in-Some-Show-clause-usage_untouched
returns-in-Some-Show-clause-usage_untouched g c = λ is.
    absurd (not_usage _ (Some _) _ _ _ (c.show_file.ensures.ran (input_at g.I.Source c.args.input.now c.args.steps.now)) is)

pub returns-in-Some-Scan-clause-ran : goal.returns-in-Some-Scan-clause-ran
returns-in-Some-Scan-clause-ran g c = rw (sym c.in-Some-Scan.ensures.form, c.in-Some-Scan.field-0-is) (c.scan.ensures.ran (shelf_at g.H.Shelf c.args.shelf.now))
