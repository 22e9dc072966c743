use Rattle.std.proofs.Common.{◌≡◌, ℕ, ◌+◌, ◌-◌, List, length, drop, take, min, refl, ◌∙◌, ap, subst, arith}
use Rattle.sj_rows.specs.Lines.{seen}
use Rattle.sj_rows.specs.Line.{line_seen}
use Rattle.sj_rows.proofs.Splits.{First}
use Rattle.sj_rows.proofs.Standing.{gives_first, goes_on_standing}
use Rattle.sj_rows.proofs.splitter.Lines.next_line.Goals as goal

pub returns : goal.returns
returns c =
    let s = c.self.inside in
    let n = c.in-Some.n in
    let left_is = c.behind-left.ensures ∙ ap (drop s.start) c.deref.ensures.value in
    let first : First s.ended (drop s.start s.buffer.items) n = subst (λ l. First s.ended l n) left_is c.in-Some.ensures in
    let line : line_seen c.line_of.result ≡ seen (take n (drop s.start s.buffer.items)) =
    c.line_of.ensures ∙ ap (λ (l : List ℕ). seen (take (s.start + n - s.start) (drop s.start l))) c.deref-2.ensures.value
    ∙ ap (λ (k : ℕ). seen (take k (drop s.start s.buffer.items))) (omega arith) in
    let at : c.min-self-inside.result ≡ min (length s.buffer.items) (s.start + n + 1) =
    omega (arith, c.min-self-inside.ensures, c.len-2.ensures, c.deref-2.ensures.len, ap length c.deref-2.ensures.value) in
    let given = gives_first c.args.self.now s.ended s.buffer.items s.start n c.min-self-inside.result s.given s.fed (line_seen c.line_of.result) c.self.view_is first at line in
    ((refl, λ _. tt, (given, goes_on_standing c.args.self.now _ (line_seen c.line_of.result) given)), tt)
