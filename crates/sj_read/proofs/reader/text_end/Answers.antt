use Rattle.std.proofs.Common.{arith}
use Rattle.sj_read.proofs.Quoted.{quoted}
use Rattle.sj_read.proofs.reader.text_end.Goals as goal

pub returns : goal.returns
returns c =
    quoted c.args.text.now _ c.args.from c.utf8.text c.requires.within.0 (omega (arith, c.requires.within.1)) c.requires.quote c.as_bytes.ensures.value c.string_end.result c.string_end.ensures
