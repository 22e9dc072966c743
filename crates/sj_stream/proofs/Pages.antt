-- Texts that are put on a page, for those who print.
use Rattle.std.proofs.Common.{◌≡◌, ℕ, ◌+◌, List, [], ◌++◌, Result, refl, sym, subst, arith}
use Rattle.std.proofs.lemmas.List.{append-nil}
use Rattle.sj_page.specs.Pages.{Print, PrintState, Prints, Stopped, followed_by, one_row}
use Rattle.sj_page.specs.declared.stop.Stop.{Stop}
use Rattle.sj_page.specs.declared.stop.Stop.TheVariants.{Memory}
use Rattle.sj_page.proofs.Printing.{Printing, print, same_print, printed_on, prints_same, prints_more, stopped_before, stopped_more}

-- a text was appended, and then it was counted as a row
pub row_counted : (text : List ℕ) (a b c : PrintState) (r : Result Unit Stop) → b.out ≡ a.out → b.page.text ≡ a.page.text ++ text → b.page.rows ≡ a.page.rows → b.page.errors ≡ a.page.errors → Prints one_row b c r → Prints (print text 1 0) a c r
row_counted text a b c r out appended rows errors counted =
    prints_same (followed_by (print text 0 0) one_row) (print text 1 0) a c r (same_print (text ++ []) text (0 + 1) 1 (0 + 0) 0 (append-nil text) (omega arith) (omega arith))
    (prints_more (print text 0 0) one_row a b c r (printed_on (print text 0 0) a b out appended (omega (arith, rows)) (omega (arith, errors))) counted)

-- memory ran out, and something may stand on the page that is not written
pub memory_stops : (whole left : Print) (a b c : PrintState) → Printing whole left a b → c.out ≡ b.out → Stopped whole a c Memory
memory_stops whole left a b c x out = subst (λ (t : Print). Stopped t a c Memory) (sym x.split) (stopped_more x.so_far left a b c Memory x.printed (stopped_before left b c out))
