use Rattle.std.proofs.Common.{◌≡◌, ◌++◌, ◌<◌, length, length-append, arith, ap, refl}
use Rattle.sj_doc.specs.Limits.{text_bound}
use Rattle.sj_doc.proofs.Builders.{last_span}
use Rattle.sj_doc.proofs.builder.store.Goals as goal

pub returns-clause-ok : goal.returns-clause-ok
returns-clause-ok c =
    let e : c.extend_from_slice.new.self.items ≡ c.args.arena.now.items ++ c.args.s.now = c.in_ok-extend_from_slice.ensures.items in
    let start : c.len-start.result ≡ length c.args.arena.now.items = omega (arith, c.len-start.ensures, c.args.arena.now.ok.0) in
    let span = last_span c.args.arena.now.items c.args.s.now c.extend_from_slice.new.self.items (record { start = c.len-start.result; len = length c.args.s.now }) e c.requires.utf8 start refl in
    let narrow : length c.extend_from_slice.new.self.items < text_bound = omega (arith, ap length e, length-append c.args.arena.now.items c.args.s.now) in
    record { grown = e; narrow = narrow; fits = span.0; same = span.1 }
