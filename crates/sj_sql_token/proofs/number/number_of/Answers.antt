use Rattle.std.proofs.Common.{⊎_elim, subst, ap, sym, ◌∙◌}
use Rattle.sj_decimal.specs.Parses.{ParsesAs}
use Rattle.sj_sql_token.proofs.Quotes.{slice_from}
use Rattle.sj_sql_token.proofs.Numbers.{number_is, option_of}
use Rattle.sj_sql_token.proofs.number.number_of.Goals as goal

pub returns-in-Exact : goal.returns-in-Exact
returns-in-Exact c = λ w f split len whole fraction.
    let parse : ParsesAs _ c.parse.result = subst (λ x. ParsesAs x c.parse.result) (slice_from c.args.digits.now c.zeros_len-zeros.result) c.parse.ensures.value in
    sym (ap option_of c.in-Exact.is) ∙ number_is c.args.digits.now w f c.args.whole c.zeros_len-zeros.result c.parse.result c.zeros_len-zeros.ensures.value split len whole fraction parse

pub returns-in-Wide : goal.returns-in-Wide
returns-in-Wide c = λ w f split len whole fraction.
    let parse : ParsesAs _ c.parse.result = subst (λ x. ParsesAs x c.parse.result) (slice_from c.args.digits.now c.zeros_len-zeros.result) c.parse.ensures.value in
    sym (⊎_elim (λ e. ap option_of e) (λ e. ap option_of e) c.in-Wide.is) ∙ number_is c.args.digits.now w f c.args.whole c.zeros_len-zeros.result c.parse.result c.zeros_len-zeros.ensures.value split len whole fraction parse
