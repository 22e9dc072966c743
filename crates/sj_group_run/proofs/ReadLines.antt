-- What is gathered of lines that are read together.
use Rattle.std.proofs.Common.{◌≡◌, ℕ, ◌+◌, ◌<◌, List, [], ◌∷◌, ◌++◌, length, drop, get_or, flat_map, Bool, true, false, Option, None, Some, refl, sym, ◌∙◌, ap, arith, append_assoc}
use Rattle.std.proofs.lemmas.List.{append-nil, drop_more}
use Rattle.std.proofs.lemmas.List.Concat.{flat_map-append}
use Rattle.std.specs.List.{list_all}
use Rattle.sj_rows.specs.Lines.{is_blank_byte}
use Rattle.sj_rows.specs.HeldLines.{HeldLines}
use Rattle.sj_json.specs.Tree.{Tree}
use Rattle.sj_json.specs.Document.{document}
use Rattle.sj_table.specs.Series.{elements}
use Rattle.sj_bound.specs.Bound.{Bound}
use Rattle.sj_select_list.specs.Line.{Line}
use Rattle.sj_group.specs.declared.aggregate.Aggregate.{Aggregate}
use Rattle.sj_group.specs.Grouping.{Row}
use Rattle.sj_page.specs.Pages.{Print, nothing, followed_by}
use Rattle.sj_page.proofs.Printing.{nothing_before, nothing_behind, followed_assoc}
use Rattle.sj_file.specs.declared.job.Keys.TheVariants.{Any}
use Rattle.sj_stream.specs.LineJob.{lines_print, lines_cost}
use Rattle.sj_stream.proofs.Streaming.{lines_print-append, lines_cost-append}
use Rattle.sj_batch.specs.declared.batch.ReadLine.{ReadLine}
use Rattle.sj_batch.specs.declared.batch.Behind.{Behind}
use Rattle.sj_batch.specs.declared.batch.Behind.TheVariants.{Nothing}
use Rattle.sj_batch.specs.Batch.{reading, read_line, read_lines, ReadOn, line_read}
use Rattle.sj_batch.specs.Given.{line_as, rows_given, cost_given}
use Rattle.sj_group_run.specs.Kept.{kept, line_kept, rows_kept}
use Rattle.sj_group_run.specs.GroupJob.{errors_print, line_cost, group_job}
use Rattle.sj_group_run.specs.Gathering.{read_kept, batch_print, batch_cost, batch_rows}

-- a line is seen as it was read
same_line : (doc : Option Tree) → line_read (reading Any doc) ≡ line_as Any doc
same_line None = refl
same_line (Some t) = refl

module _ (a : Aggregate) (s : Bound) where
  -- ---- lines behind lines

  prints-append : (xs ys : List ReadLine) → batch_print a s (xs ++ ys) ≡ followed_by (batch_print a s xs) (batch_print a s ys)
  prints-append [] ys = sym (nothing_before (batch_print a s ys))
  prints-append (x ∷ xs) ys =
      ap (followed_by (errors_print x.number (read_kept a s x))) (prints-append xs ys) ∙ sym (followed_assoc (errors_print x.number (read_kept a s x)) (batch_print a s xs) (batch_print a s ys))

  cost-append : (xs ys : List ReadLine) → batch_cost s (xs ++ ys) ≡ batch_cost s xs + batch_cost s ys
  cost-append [] ys = omega arith
  cost-append (x ∷ xs) ys = omega (arith, cost-append xs ys)

  pub rows-append : (xs ys : List ReadLine) → batch_rows a s (xs ++ ys) ≡ batch_rows a s xs ++ batch_rows a s ys
  rows-append [] ys = refl
  rows-append (x ∷ xs) ys =
      ap (λ (l : List Row). elements (read_kept a s x) ++ l) (rows-append xs ys) ∙ sym (append_assoc (elements (read_kept a s x)) (batch_rows a s xs) (batch_rows a s ys))

  -- ---- a line that was read is the line

  print_of : (n : ℕ) (doc : Option Tree) → followed_by (errors_print n (kept a (rows_given s (line_read (reading Any doc))))) nothing ≡ errors_print n (kept a (rows_given s (line_as Any doc)))
  print_of n doc = nothing_behind _ ∙ ap (λ (l : Line). errors_print n (kept a (rows_given s l))) (same_line doc)

  rows_of : (doc : Option Tree) → elements (kept a (rows_given s (line_read (reading Any doc)))) ++ [] ≡ elements (kept a (rows_given s (line_as Any doc)))
  rows_of doc = append-nil _ ∙ ap (λ (l : Line). elements (kept a (rows_given s l))) (same_line doc)

  cost_of : (doc : Option Tree) → cost_given s (line_read (reading Any doc)) + 0 ≡ cost_given s (line_as Any doc)
  cost_of doc = plus_none (cost_given s (line_read (reading Any doc))) ∙ ap (cost_given s) (same_line doc)
    where
      plus_none : (n : ℕ) → n + 0 ≡ n
      plus_none n = omega arith

  line_print : (n : ℕ) (line : Option (List ℕ)) → batch_print a s (read_line Any n line) ≡ errors_print n (line_kept a s line)
  line_print n None = print_of n None
  line_print n (Some line) = by_blank (list_all is_blank_byte line) refl
    where
      by_blank : (blank : Bool) → list_all is_blank_byte line ≡ blank → batch_print a s (read_line Any n (Some line)) ≡ errors_print n (line_kept a s (Some line))
      by_blank true is = rw is refl
      by_blank false is = rw is (print_of n (document line))

  line_rows : (n : ℕ) (line : Option (List ℕ)) → batch_rows a s (read_line Any n line) ≡ elements (line_kept a s line)
  line_rows n None = rows_of None
  line_rows n (Some line) = by_blank (list_all is_blank_byte line) refl
    where
      by_blank : (blank : Bool) → list_all is_blank_byte line ≡ blank → batch_rows a s (read_line Any n (Some line)) ≡ elements (line_kept a s (Some line))
      by_blank true is = rw is refl
      by_blank false is = rw is (rows_of (document line))

  line_costs : (n : ℕ) (line : Option (List ℕ)) → batch_cost s (read_line Any n line) ≡ line_cost s line
  line_costs n None = cost_of None
  line_costs n (Some line) = by_blank (list_all is_blank_byte line) refl
    where
      by_blank : (blank : Bool) → list_all is_blank_byte line ≡ blank → batch_cost s (read_line Any n (Some line)) ≡ line_cost s (Some line)
      by_blank true is = rw is refl
      by_blank false is = rw is (cost_of (document line))

  -- ---- and so with many lines

  read_print : (n : ℕ) (lines : List (Option (List ℕ))) → batch_print a s (read_lines Any n lines) ≡ lines_print (group_job a s) n lines
  read_print n [] = refl
  read_print n (l ∷ ls) =
      prints-append (read_line Any n l) (read_lines Any (n + 1) ls) ∙ ap (λ (p : Print). followed_by p (batch_print a s (read_lines Any (n + 1) ls))) (line_print n l)
      ∙ ap (followed_by (errors_print n (line_kept a s l))) (read_print (n + 1) ls)

  read_cost : (n : ℕ) (lines : List (Option (List ℕ))) → batch_cost s (read_lines Any n lines) ≡ lines_cost (group_job a s) n lines
  read_cost n [] = refl
  read_cost n (l ∷ ls) =
      cost-append (read_line Any n l) (read_lines Any (n + 1) ls) ∙ ap (λ (k : ℕ). k + batch_cost s (read_lines Any (n + 1) ls)) (line_costs n l)
      ∙ ap (λ (k : ℕ). line_cost s l + k) (read_cost (n + 1) ls)

  read_rows : (n : ℕ) (lines : List (Option (List ℕ))) → batch_rows a s (read_lines Any n lines) ≡ rows_kept a s lines
  read_rows n [] = refl
  read_rows n (l ∷ ls) =
      rows-append (read_line Any n l) (read_lines Any (n + 1) ls) ∙ ap (λ (r : List Row). r ++ batch_rows a s (read_lines Any (n + 1) ls)) (line_rows n l)
      ∙ ap (λ (r : List Row). elements (line_kept a s l) ++ r) (read_rows (n + 1) ls)

  -- ---- the lines that wait: those that were read, and then the others

  pub waiting_prints : (old new : HeldLines) (b : List ReadLine) (behind : Behind) → ReadOn Any old new b behind
      → lines_print (group_job a s) (old.given + 1) old.waiting ≡ followed_by (batch_print a s b) (lines_print (group_job a s) (new.given + 1) new.waiting)
  waiting_prints old new b behind r =
      let number : new.given + 1 ≡ old.given + 1 + length r.read.front = omega (arith, r.read.given) in
      ap (lines_print (group_job a s) (old.given + 1)) r.read.split ∙ lines_print-append (group_job a s) (old.given + 1) r.read.front new.waiting
      ∙ ap (λ (k : ℕ). followed_by (lines_print (group_job a s) (old.given + 1) r.read.front) (lines_print (group_job a s) k new.waiting)) (sym number)
      ∙ ap (λ (p : Print). followed_by p (lines_print (group_job a s) (new.given + 1) new.waiting)) (sym (ap (batch_print a s) r.read.batch_is ∙ read_print (old.given + 1) r.read.front))

  -- nothing where no line waits
  pub none_waits : (old new : HeldLines) (b : List ReadLine) → ReadOn Any old new b Nothing → lines_print (group_job a s) (new.given + 1) new.waiting ≡ nothing
  none_waits old new b r = ap (lines_print (group_job a s) (new.given + 1)) r.behind_is

  pub no_rows_wait : (old new : HeldLines) (b : List ReadLine) → ReadOn Any old new b Nothing → rows_kept a s new.waiting ≡ []
  no_rows_wait old new b r = ap (rows_kept a s) r.behind_is

  pub waiting_cost : (old new : HeldLines) (b : List ReadLine) (behind : Behind) → ReadOn Any old new b behind
      → lines_cost (group_job a s) (old.given + 1) old.waiting ≡ batch_cost s b + lines_cost (group_job a s) (new.given + 1) new.waiting
  waiting_cost old new b behind r =
      let number : new.given + 1 ≡ old.given + 1 + length r.read.front = omega (arith, r.read.given) in
      ap (lines_cost (group_job a s) (old.given + 1)) r.read.split ∙ lines_cost-append (group_job a s) (old.given + 1) r.read.front new.waiting
      ∙ ap (λ (k : ℕ). lines_cost (group_job a s) (old.given + 1) r.read.front + lines_cost (group_job a s) k new.waiting) (sym number)
      ∙ ap (λ (k : ℕ). k + lines_cost (group_job a s) (new.given + 1) new.waiting) (sym (ap (batch_cost s) r.read.batch_is ∙ read_cost (old.given + 1) r.read.front))

  pub waiting_rows : (old new : HeldLines) (b : List ReadLine) (behind : Behind) → ReadOn Any old new b behind → rows_kept a s old.waiting ≡ batch_rows a s b ++ rows_kept a s new.waiting
  waiting_rows old new b behind r =
      ap (rows_kept a s) r.read.split ∙ flat_map-append (λ (line : Option (List ℕ)). elements (line_kept a s line)) r.read.front new.waiting
      ∙ ap (λ (l : List Row). l ++ rows_kept a s new.waiting) (sym (ap (batch_rows a s) r.read.batch_is ∙ read_rows (old.given + 1) r.read.front))

  -- ---- the first of the lines that are left

  pub first_prints : (lines : List ReadLine) (i : ℕ) (x : ReadLine) → i < length lines → x ≡ get_or lines i x
      → batch_print a s (drop i lines) ≡ followed_by (errors_print x.number (read_kept a s x)) (batch_print a s (drop (i + 1) lines))
  first_prints lines i x within is = ap (batch_print a s) (drop_more lines i x within) ∙ ap (λ (y : ReadLine). batch_print a s (y ∷ drop (i + 1) lines)) (sym is)

  pub first_costs : (lines : List ReadLine) (i : ℕ) (x : ReadLine) → i < length lines → x ≡ get_or lines i x
      → batch_cost s (drop i lines) ≡ cost_given s (line_read x.reading) + batch_cost s (drop (i + 1) lines)
  first_costs lines i x within is = ap (batch_cost s) (drop_more lines i x within) ∙ ap (λ (y : ReadLine). batch_cost s (y ∷ drop (i + 1) lines)) (sym is)

  pub first_rows : (lines : List ReadLine) (i : ℕ) (x : ReadLine) → i < length lines → x ≡ get_or lines i x
      → batch_rows a s (drop i lines) ≡ elements (read_kept a s x) ++ batch_rows a s (drop (i + 1) lines)
  first_rows lines i x within is = ap (batch_rows a s) (drop_more lines i x within) ∙ ap (λ (y : ReadLine). batch_rows a s (y ∷ drop (i + 1) lines)) (sym is)
