use Rattle.std.proofs.Common.{◌≡◌, ℕ, List, ◌++◌, take, drop, arith, sym, ap, ◌∙◌, subst, take-append-drop}
use Rattle.std.proofs.lemmas.List.{length-drop, take_all}
use Rattle.std.specs.List.{flat_map, prefix_len}
use Rattle.sj_rows.specs.RowText.{escaped_byte, stands}
use Rattle.sj_rows.proofs.Escapes.{run_alone}
use Rattle.sj_rows.proofs.field.escape_from.Goals as goal

pub returns-then-plain_end-len-clause-ok : goal.returns-then-plain_end-len-clause-ok
returns-then-plain_end-len-clause-ok c =
    let out = c.args.out.now in
    let behind = drop c.args.from out in
    let same : prefix_len stands (drop c.args.from c.as_slice.result.now) ≡ prefix_len stands behind = ap (λ (l : List ℕ). prefix_len stands (drop c.args.from l)) c.as_slice.ensures in
    let all : take (prefix_len stands behind) behind ≡ behind =
    take_all (prefix_len stands behind) behind (omega (arith, length-drop c.args.from out, same, c.plain_end.ensures, c.len.ensures, c.if-plain_end-len.true, c.requires)) in
    let alone : flat_map escaped_byte behind ≡ behind = subst (λ (l : List ℕ). flat_map escaped_byte l ≡ l) all (run_alone behind) in
    sym (take-append-drop c.args.from out) ∙ ap (λ (l : List ℕ). take c.args.from out ++ l) (sym alone)
