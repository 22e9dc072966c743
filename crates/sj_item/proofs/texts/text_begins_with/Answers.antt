use Rattle.std.proofs.Common.{nat_eq, ap₂, ◌∙◌}
use Rattle.std.specs.List.{starts_with}
use Rattle.sj_item.proofs.CodePoints.{begins_with-bytes}
use Rattle.sj_item.proofs.texts.text_begins_with.Goals as goal

pub returns : goal.returns
returns c =
    c.starts_with.ensures.value
    ∙ ap₂ (λ s t. starts_with nat_eq s t) c.as_bytes.ensures.value c.as_bytes-2.ensures.value
    ∙ begins_with-bytes c.args.text.now c.args.start.now c.utf8.text c.utf8.start
