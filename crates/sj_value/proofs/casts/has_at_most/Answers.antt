use Rattle.std.proofs.Common.{arith, ◌≤◌, length}
use Rattle.std.specs.Str.{chars}
use Rattle.sj_value.proofs.Counts.{length-chars-le}
use Rattle.std.proofs.lemmas.Bool.Decides.{nat_tests}
use Rattle.sj_value.proofs.casts.has_at_most.Goals as goal

pub returns-then-text-n : goal.returns-then-text-n
returns-then-text-n c =
    let few : length (chars c.args.text.now) ≤ length c.args.text.now = length-chars-le c.args.text.now c.utf8.text in
    grind (arith, nat_tests, few)
