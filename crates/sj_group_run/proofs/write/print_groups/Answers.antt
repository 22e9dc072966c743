use Rattle.std.proofs.Common.{◌≡◌, ◌+◌, ◌<◌, ◌≤◌, ◌++◌, ℕ, List, [], ◌∷◌, length, get_or, drop, Ok, Err, refl, sym, ◌∙◌, ap, arith}
use Rattle.std.proofs.lemmas.List.{drop_more, drop_all}
use Rattle.sj_group.specs.Grouping.{Row, grouped}
use Rattle.sj_page.specs.Pages.{print_state, followed_by}
use Rattle.sj_page.proofs.Printing.{print, printing_starts, printing_more, printing_stops, printing_ends}
use Rattle.sj_stream.proofs.Pages.{row_counted, memory_stops}
use Rattle.sj_group_run.specs.Gathering.{groups_print}
use Rattle.sj_group_run.proofs.write.print_groups.Goals as goal

-- the text of the next group, and then those behind it
next_text : (texts : List (List ℕ)) (i : ℕ) → i < length texts → groups_print (drop i texts) ≡ followed_by (print (get_or texts i []) 1 0) (groups_print (drop (i + 1) texts))
next_text texts i within = ap groups_print (drop_more texts i [] within)

pub loop-i-init : goal.loop-i-init
loop-i-init g c = record { printing = λ rows stands. printing_starts _ _ }

pub returns-in-Err-clause-prints : goal.returns-in-Err-clause-prints
returns-in-Err-clause-prints g c = λ rows stands. memory_stops _ _ _ _ _ (c.loop-i.invariant.printing rows stands) refl

pub loop-i-preserved : goal.loop-i-preserved
loop-i-preserved g c = record {
  printing = λ rows stands.
      let texts : List (List ℕ) = grouped c.args.groups.now.aggregate rows in
      let i = c.loop-i.i in
      let within : i < length texts = omega (arith, c.loop-i-test.true, c.len.ensures.grouped rows stands) in
      let state = print_state g.O.Sink.taken g.O.Sink.size g.O.Sink.faults in
      let put = state c.loop-i.out (record { text = c.group_text.new.out; rows = c.loop-i.page.rows; errors = c.loop-i.page.errors }) in
      printing_more _ _ _ _ _ _ _ (c.loop-i.invariant.printing rows stands) (next_text texts i within)
      (row_counted (get_or texts i []) (state c.loop-i.out c.loop-i.page) put (state c.row_came.new.out c.row_came.new.self) (Ok c.in-Ok-row_came.field-0) refl (c.in-Ok.ensures.ok rows stands) refl refl c.in-Ok-row_came.ensures.prints);
}

pub returns-in-Err-row_came-clause-prints : goal.returns-in-Err-row_came-clause-prints
returns-in-Err-row_came-clause-prints g c = λ rows stands.
    let texts : List (List ℕ) = grouped c.args.groups.now.aggregate rows in
    let i = c.loop-i.i in
    let within : i < length texts = omega (arith, c.loop-i-test.true, c.len.ensures.grouped rows stands) in
    let state = print_state g.O.Sink.taken g.O.Sink.size g.O.Sink.faults in
    let put = state c.loop-i.out (record { text = c.group_text.new.out; rows = c.loop-i.page.rows; errors = c.loop-i.page.errors }) in
    printing_stops _ _ _ _ _ _ _ _ (c.loop-i.invariant.printing rows stands) (next_text texts i within)
    (row_counted (get_or texts i []) (state c.loop-i.out c.loop-i.page) put (state c.row_came.new.out c.row_came.new.self) (Err c.in-Err-row_came.stop) refl (c.in-Ok.ensures.ok rows stands) refl refl c.in-Err-row_came.ensures.prints)

pub returns-clause-prints : goal.returns-clause-prints
returns-clause-prints g c = λ rows stands.
    let texts : List (List ℕ) = grouped c.args.groups.now.aggregate rows in
    let past : length texts ≤ c.loop-i.i = omega (arith, c.loop-i-test.false, c.len.ensures.grouped rows stands) in
    printing_ends _ _ _ _ _ _ _ (c.loop-i.invariant.printing rows stands) (ap groups_print (drop_all c.loop-i.i texts past)) c.write.ensures.prints
