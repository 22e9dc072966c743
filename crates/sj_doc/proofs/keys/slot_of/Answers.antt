use Rattle.std.proofs.Common.{sym, ap, arith}
use Rattle.std.proofs.lemmas.List.{nil_from_length}
use Rattle.sj_doc.specs.Slots.{slot}
use Rattle.sj_doc.proofs.keys.slot_of.Goals as goal

pub returns-then-len-eq0-clause-value : goal.returns-then-len-eq0-clause-value
unfolding slot
returns-then-len-eq0-clause-value c = sym (ap slot (nil_from_length c.args.key.now (omega arith)))

pub returns-clause-value : goal.returns-clause-value
unfolding slot
returns-clause-value c = ap slot c.as_bytes-bytes.ensures.value
