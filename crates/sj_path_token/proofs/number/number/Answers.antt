use Rattle.std.proofs.Common.{inl, inr, subst, take}
use Rattle.sj_decimal.specs.Parses.{ParsesAs}
use Rattle.sj_path_token.proofs.Numerals.{number_exact, number_wide, number_none}
use Rattle.sj_path_token.proofs.number.number.Goals as goal

pub returns-in-Exact : goal.returns-in-Exact
returns-in-Exact c = number_exact c.args.bytes.now c.number_len-len.result c.in-Exact.number c.number_len-len.ensures.value c.in-Exact.ensures.value

pub returns-in-Wide : goal.returns-in-Wide
returns-in-Wide c = elim c.in-Wide.is [
  | inl e ↦ number_wide c.args.bytes.now c.number_len-len.result c.number_len-len.ensures.value (subst (ParsesAs (take c.number_len-len.result c.args.bytes.now)) e c.parse.ensures.value)
  | inr e ↦ number_none c.args.bytes.now c.number_len-len.result c.number_len-len.ensures.value (subst (ParsesAs (take c.number_len-len.result c.args.bytes.now)) e c.parse.ensures.value)
]
