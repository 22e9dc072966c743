use Rattle.std.proofs.Common.{◌≡◌, length, take, ap, ◌∙◌}
use Rattle.std.specs.Str.{chars}
use Rattle.std.specs.Str.Iter.{chars_rest}
use Rattle.std.proofs.lemmas.List.{length-take}
use Rattle.std.proofs.lemmas.Iterator.{YieldsList-from_take, YieldsList-from_chars}
use Rattle.std.proofs.lemmas.Iterator.Consumers.{count_from_yields_List}
use Rattle.sj_value.proofs.casts.char_count.Goals as goal

pub returns : goal.returns
returns c =
    let counted : c.count.result ≡ length (take c.args.most (chars c.args.text.now)) =
    count_from_yields_List c.take.result c.count.result c.count.ensures.ran
    (YieldsList-from_take c.args.most (YieldsList-from_chars c.args.text.now c.utf8.text (ap chars_rest c.take.ensures.source ∙ c.chars.ensures.rest)) c.take.ensures.count) in
    counted ∙ length-take c.args.most (chars c.args.text.now)
