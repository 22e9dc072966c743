use Rattle.std.proofs.Common.{◌≡◌, List, ℕ, ◌-◌, ◌++◌, take, drop, codes, sym, ap, ◌∙◌, append_assoc}
use Rattle.sj_base.specs.State.{code_of}
use Rattle.sj_text.proofs.Appends.{Appending, at_error, grows_to, stays}
use Rattle.sj_rows.specs.RowHead.{IsHead}
use Rattle.sj_rows.specs.RowText.{row_head, error_bytes}
use Rattle.sj_rows.specs.declared.row.HeadText.{HeadText}
use Rattle.sj_rows.proofs.Heads.{text_of}
use Rattle.sj_rows.proofs.row.error_text.Goals as goal

-- the head has come, with its letter
headed : (old now rest : List ℕ) (text : HeadText) (line statement : ℕ) → IsHead text line statement 69 → now ≡ old ++ take (33 - text.first) (drop text.first text.bytes) → Appending old (row_head line statement ++ (codes "\tE\t" ++ rest)) now (codes "\t" ++ rest)
headed old now rest text line statement is came = record {
  part = row_head line statement ++ codes "\tE";
  grown = came ∙ ap (λ (l : List ℕ). old ++ l) (text_of text line statement 69 is);
  splits = sym (append_assoc (row_head line statement) (codes "\tE") (codes "\t" ++ rest));
}

pub returns-in_err-push-clause-err : goal.returns-in_err-push-clause-err
returns-in_err-push-clause-err c =
    let old : List ℕ = c.args.out.now in
    let text : List ℕ = error_bytes c.args.line c.args.statement c.args.state in
    let rest : List ℕ = code_of c.args.state ++ codes "\n" in
    at_error c.from_residual-in_err-push.result
    (stays old text c.append_to.new.out (codes "\t" ++ rest) c.push.new.self (headed old c.append_to.new.out rest c.of.result c.args.line c.args.statement c.of.ensures c.in_ok-append_to.ensures.ok) c.in_err-push.ensures.err)

pub returns-in_err-push-2-clause-err : goal.returns-in_err-push-2-clause-err
returns-in_err-push-2-clause-err c =
    let old : List ℕ = c.args.out.now in
    let text : List ℕ = error_bytes c.args.line c.args.statement c.args.state in
    let rest : List ℕ = code_of c.args.state ++ codes "\n" in
    let marked : Appending old text c.push.new.self rest =
    grows_to old text c.append_to.new.out (codes "\t") rest c.push.new.self (headed old c.append_to.new.out rest c.of.result c.args.line c.args.statement c.of.ensures c.in_ok-append_to.ensures.ok) c.in_ok-push.ensures.ok in
    at_error c.from_residual-in_err-push-2.result (stays old text c.push.new.self rest c.push-2.new.self marked c.in_err-push-2.ensures.err)
