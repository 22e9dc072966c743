use Rattle.std.proofs.Common.{reverse, arith}
use Rattle.sj_scan.specs.Views.{mode_of}
use Rattle.sj_scan.proofs.Skims.{skim_stands}
use Rattle.sj_scan.proofs.recognizer.Recognizer.skim.Goals as goal

pub returns-clause-taken : goal.returns-clause-taken
returns-clause-taken c =
    let s = c.self.inside in
    skim_stands s.failed (mode_of s.mode) (reverse s.containers.items) s.text s.taken c.args.bytes.now c.args.self.now c.run_len-run.result c.self.view_is c.run_len-run.ensures.value
    c.if-not-is_in_string.ensures (omega arith)
