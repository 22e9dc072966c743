use Rattle.std.proofs.Common.{◌≡◌, List, ℕ, map, inl, inr, refl, ◌∙◌, ap, subst}
use Rattle.sj_bound.specs.View.{bound_of}
use Rattle.sj_rows.specs.Lines.{lines, seen}
use Rattle.sj_group.specs.Grouping.{grouped}
use Rattle.sj_group.specs.declared.aggregate.Aggregate.{Aggregate}
use Rattle.sj_page.specs.Sides.{joined}
use Rattle.sj_page.specs.Pages.{empty_page, print_state}
use Rattle.sj_stream.specs.LineJob.{LineJob, text_behind}
use Rattle.sj_stream.specs.Out.{out_at}
use Rattle.sj_stream.specs.Then.{Ends}
use Rattle.sj_stream.proofs.Streaming.{no_memory}
use Rattle.sj_group_run.specs.Kept.{rows_kept}
use Rattle.sj_group_run.specs.GroupJob.{group_job}
use Rattle.sj_group_run.proofs.group.group_lines.Goals as goal

pub returns-in_default : goal.returns-in_default
returns-in_default g c = inl (record { page = empty_page; streamed = no_memory _ _ _ empty_page; not_done = λ is. absurd (cc is) })

pub returns-in-Done : goal.returns-in-Done
returns-in-Done g c =
    let job : LineJob = group_job c.args.to_group.now.aggregate (bound_of c.args.to_group.now.statement) in
    let s = c.in-Done.ensures job c.new-2.ensures in
    let saw = s.1 refl in
    let x = c.gather_lines.new.taker.printer.to_group.now in
    let all = map seen (lines s.0.bytes) in
    let rows = rows_kept x.aggregate (bound_of x.statement) all in
    let mid = print_state g.O.Sink.taken g.O.Sink.size g.O.Sink.faults c.gather_lines.new.out c.gather_lines.new.page in
    let text : joined (grouped c.gather_lines.new.taker.printer.gatherer.groups.aggregate rows) ≡ text_behind job s.0.bytes = ap (λ (a : Aggregate). joined (grouped a rows)) saw.aggregate ∙ ap (λ (j : LineJob). j.behind all) saw.job_is in
    inr (record {
      mid = mid;
      streamed = s.0;
      ends = subst (λ (t : List ℕ). Ends t mid.out (out_at g.O.Sink c.write_groups.new.out) c.write_groups.result) text (c.write_groups.ensures rows saw.stands);
    })

pub returns : goal.returns
returns g c =
    let job : LineJob = group_job c.args.to_group.now.aggregate (bound_of c.args.to_group.now.statement) in
    inl (record { page = c.gather_lines.new.page; streamed = (c.gather_lines.ensures job c.new-2.ensures).0; not_done = c.in_default-gather_lines.not-Done })
