use Rattle.std.proofs.Common.{lit<, ◌∙◌}
use Rattle.sj_decimal.proofs.Texts.{cut_digits, digits_pushed}
use Rattle.sj_decimal.proofs.text.push_digits.Goals as goal

pub overflow_sub-digits : goal.overflow_sub-digits
overflow_sub-digits c = (cut_digits c.args.scale c.args.magnitude c.format-digits.result.now c.requires.whole c.requires.magnitude c.format-digits.ensures.text).0

pub returns : goal.returns
returns c =
    let cut = cut_digits c.args.scale c.args.magnitude c.format-digits.result.now c.requires.whole c.requires.magnitude c.format-digits.ensures.text in
    digits_pushed c.args.scale c.args.magnitude c.args.text.now.bytes c.push_str.new.self.bytes c.push.new.self.bytes c.push_str-2.new.self.bytes c.split_at.result.0.now c.split_at.result.1.now
    c.requires.some c.push_str.ensures.bytes (c.push.ensures.ascii (lit< tt)) c.push_str-2.ensures.bytes
    (c.split_at.ensures.front ∙ cut.1) (c.split_at.ensures.back ∙ cut.2)
