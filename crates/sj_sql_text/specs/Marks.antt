-- Quotation marks.
use Rattle.std.specs.Prelude.{ℕ}
use Rattle.sj_sql_text.specs.declared.quoted.QuotationMark.{QuotationMark}
use Rattle.sj_sql_text.specs.declared.quoted.QuotationMark.TheVariants.{Single, Double}

abbrev pub mark_of : QuotationMark → ℕ
mark_of Single = 39
mark_of Double = 34
