use Rattle.std.proofs.Common.{sym, ◌∙◌, arith}
use Rattle.sj_sql_tree.specs.View.{plain_of}
use Rattle.sj_bind.proofs.UnbrokenRules.{clean_plain}
use Rattle.sj_bind.proofs.Groups.{length-plain_of}
use Rattle.sj_bind.proofs.binding.bind_plain.Goals as goal

pub bind_list-requires-clause-fit : goal.bind_list-requires-clause-fit
bind_list-requires-clause-fit c = (clean_plain (plain_of c.args.values) c.requires (sym c.in_ok-kind.ensures ∙ c.in_default.is)).fit

pub bind_list-requires-clause-few : goal.bind_list-requires-clause-few
bind_list-requires-clause-few c = omega (arith, (clean_plain (plain_of c.args.values) c.requires (sym c.in_ok-kind.ensures ∙ c.in_default.is)).few, length-plain_of c.args.values)
