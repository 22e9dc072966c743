use Rattle.std.proofs.Common.{ℕ, take, sym, subst}
use Rattle.sj_file.specs.Refusals.{AcceptsWithText}
use Rattle.sqljson_c.proofs.exports.sqljson_show.Goals as goal

pub returns-in-Ok-clause-shown : goal.returns-in-Ok-clause-shown
returns-in-Ok-clause-shown c = λ is. subst (λ (n : ℕ). AcceptsWithText c.args.file.now (take n c.show.new.out)) (sym c.done.ensures.count) c.in-Ok.ensures.shown
