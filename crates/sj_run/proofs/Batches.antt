-- What is asked of lines that are read together.
use Rattle.std.proofs.Common.{◌≡◌, ℕ, ◌+◌, ◌<◌, List, [], ◌∷◌, ◌++◌, length, take, drop, set, map, get_or, Bool, true, false, Option, None, Some, refl, sym, ◌∙◌, ap, arith, append_assoc}
use Rattle.std.proofs.lemmas.List.{append-nil, map-append, take_more, take_at, drop_more, drop-map}
use Rattle.std.proofs.lemmas.List.Concat.{flat_map-append}
use Rattle.std.proofs.Math.Seq.{map-set_same}
use Rattle.std.specs.List.{list_all}
use Rattle.sj_rows.specs.Lines.{is_blank_byte}
use Rattle.sj_rows.specs.HeldLines.{HeldLines}
use Rattle.sj_json.specs.Tree.{Tree}
use Rattle.sj_json.specs.Document.{document}
use Rattle.sj_bound.specs.Bound.{Bound}
use Rattle.sj_bound.specs.View.{bound_of}
use Rattle.sj_bound.specs.declared.bound.Bound.{Bound as BoundHeld}
use Rattle.sj_json.specs.UniqueKeys.{has_unique_keys}
use Rattle.sj_select_list.specs.Line.{Line}
use Rattle.sj_select.specs.Seen.{Seen}
use Rattle.sj_page.specs.Pages.{Print, nothing, followed_by}
use Rattle.sj_page.proofs.Printing.{same_print}
use Rattle.sj_file.specs.declared.job.Keys.{Keys}
use Rattle.sj_file.specs.declared.job.Keys.TheVariants.{Any, Unique}
use Rattle.sj_file.specs.Job.{Job}
use Rattle.sj_batch.specs.declared.batch.ReadLine.{ReadLine}
use Rattle.sj_batch.specs.declared.batch.Behind.{Behind}
use Rattle.sj_batch.specs.declared.batch.Behind.TheVariants.{Nothing}
use Rattle.sj_stream.specs.LineJob.{lines_print, lines_cost}
use Rattle.sj_run.specs.Output.{Asked, asked_from, tree_asked, line_asked, text_of, texts, row_count, error_count, rows_in, errors_in, total, prints, cost, line_job}
use Rattle.sj_batch.specs.Given.{line_as, rows_given, cost_given}
use Rattle.sj_batch.specs.Batch.{reading, read_line, read_lines, ReadOn, line_read}
use Rattle.sj_run.specs.Batch.{batch_asked, bounds_in}
use Rattle.sj_stream.proofs.Streaming.{lines_print-append, lines_cost-append}

-- ---- what is asked prints, and what it costs

total-append : (f : Asked → ℕ) (xs ys : List Asked) → total f (xs ++ ys) ≡ total f xs + total f ys
total-append f [] ys = omega arith
total-append f (x ∷ xs) ys = omega (arith, total-append f xs ys)

prints-append : (xs ys : List Asked) → prints (xs ++ ys) ≡ followed_by (prints xs) (prints ys)
prints-append xs ys =
    same_print (texts (xs ++ ys)) (texts xs ++ texts ys) (rows_in (xs ++ ys)) (rows_in xs + rows_in ys) (errors_in (xs ++ ys)) (errors_in xs + errors_in ys)
    (flat_map-append text_of xs ys) (total-append (λ (a : Asked). row_count (rows_given a.bound a.seen)) xs ys) (total-append (λ (a : Asked). error_count (rows_given a.bound a.seen)) xs ys)

cost-append : (xs ys : List Asked) → cost (xs ++ ys) ≡ cost xs + cost ys
cost-append xs ys = total-append (λ (a : Asked). cost_given a.bound a.seen) xs ys

-- ---- what is asked of lines that were read is what is asked of the lines

batch_asked-append : (K : List Bound) (xs ys : List ReadLine) → batch_asked K (xs ++ ys) ≡ batch_asked K xs ++ batch_asked K ys
batch_asked-append K [] ys = refl
batch_asked-append K (x ∷ xs) ys =
    let these = asked_from 1 K x.number (line_read x.reading) in
    ap (λ (t : List Asked). these ++ t) (batch_asked-append K xs ys) ∙ sym (append_assoc these (batch_asked K xs) (batch_asked K ys))

-- a line is seen as it was read
same_line : (keys : Keys) (doc : Option Tree) → line_read (reading keys doc) ≡ line_as keys doc
same_line Any None = refl
same_line Unique None = refl
same_line Any (Some t) = refl
same_line Unique (Some t) = by_keys (has_unique_keys t) refl
  where
    by_keys : (distinct : Bool) → has_unique_keys t ≡ distinct → line_read (reading Unique (Some t)) ≡ line_as Unique (Some t)
    by_keys true is = rw is refl
    by_keys false is = rw is refl

read_tree : (K : Job) (n : ℕ) (doc : Option Tree) → asked_from 1 K.statements n (line_read (reading K.keys doc)) ++ [] ≡ tree_asked K n doc
read_tree K n doc = append-nil _ ∙ ap (λ (l : Line). asked_from 1 K.statements n l) (same_line K.keys doc)

by_blank : (K : Job) (n : ℕ) (line : List ℕ) (blank : Bool) → list_all is_blank_byte line ≡ blank → batch_asked K.statements (read_line K.keys n (Some line)) ≡ line_asked K n (Some line)
by_blank K n line true is = rw is refl
by_blank K n line false is = rw is (read_tree K n (document line))

line_asked_is : (K : Job) (n : ℕ) (line : Option (List ℕ)) → batch_asked K.statements (read_line K.keys n line) ≡ line_asked K n line
line_asked_is K n None = append-nil _ ∙ ap (λ (l : Line). asked_from 1 K.statements n l) (same_line K.keys None)
line_asked_is K n (Some line) = by_blank K n line (list_all is_blank_byte line) refl

-- what is printed for lines that were read
read_print : (K : Job) (n : ℕ) (lines : List (Option (List ℕ))) → prints (batch_asked K.statements (read_lines K.keys n lines)) ≡ lines_print (line_job K) n lines
read_print K n [] = refl
read_print K n (l ∷ ls) =
    ap prints (batch_asked-append K.statements (read_line K.keys n l) (read_lines K.keys (n + 1) ls) ∙ ap (λ (t : List Asked). t ++ batch_asked K.statements (read_lines K.keys (n + 1) ls)) (line_asked_is K n l))
    ∙ prints-append (line_asked K n l) (batch_asked K.statements (read_lines K.keys (n + 1) ls)) ∙ ap (followed_by (prints (line_asked K n l))) (read_print K (n + 1) ls)

read_cost : (K : Job) (n : ℕ) (lines : List (Option (List ℕ))) → cost (batch_asked K.statements (read_lines K.keys n lines)) ≡ lines_cost (line_job K) n lines
read_cost K n [] = refl
read_cost K n (l ∷ ls) =
    ap cost (batch_asked-append K.statements (read_line K.keys n l) (read_lines K.keys (n + 1) ls) ∙ ap (λ (t : List Asked). t ++ batch_asked K.statements (read_lines K.keys (n + 1) ls)) (line_asked_is K n l))
    ∙ cost-append (line_asked K n l) (batch_asked K.statements (read_lines K.keys (n + 1) ls)) ∙ ap (λ (k : ℕ). cost (line_asked K n l) + k) (read_cost K (n + 1) ls)

-- ---- the lines that wait

-- what is printed for the lines that were read goes before what is printed for those that wait
pub waiting_prints : (K : Job) (old new : HeldLines) (b b' : List ReadLine) (behind : Behind) → ReadOn K.keys old new b behind → b' ≡ b
    → lines_print (line_job K) (old.given + 1) old.waiting ≡ followed_by (prints (batch_asked K.statements b')) (lines_print (line_job K) (new.given + 1) new.waiting)
waiting_prints K old new b b' behind r these =
    let number : new.given + 1 ≡ old.given + 1 + length r.read.front = omega (arith, r.read.given) in
    ap (lines_print (line_job K) (old.given + 1)) r.read.split ∙ lines_print-append (line_job K) (old.given + 1) r.read.front new.waiting
    ∙ ap (λ (k : ℕ). followed_by (lines_print (line_job K) (old.given + 1) r.read.front) (lines_print (line_job K) k new.waiting)) (sym number)
    ∙ ap (λ (p : Print). followed_by p (lines_print (line_job K) (new.given + 1) new.waiting)) (sym (ap (λ (l : List ReadLine). prints (batch_asked K.statements l)) (these ∙ r.read.batch_is) ∙ read_print K (old.given + 1) r.read.front))

-- nothing where no line waits
pub none_waits : (K : Job) (old new : HeldLines) (b : List ReadLine) → ReadOn K.keys old new b Nothing → lines_print (line_job K) (new.given + 1) new.waiting ≡ nothing
none_waits K old new b r = ap (lines_print (line_job K) (new.given + 1)) r.behind_is

pub waiting_cost : (K : Job) (old new : HeldLines) (b b' : List ReadLine) (behind : Behind) → ReadOn K.keys old new b behind → b' ≡ b
    → lines_cost (line_job K) (old.given + 1) old.waiting ≡ cost (batch_asked K.statements b') + lines_cost (line_job K) (new.given + 1) new.waiting
waiting_cost K old new b b' behind r these =
    let number : new.given + 1 ≡ old.given + 1 + length r.read.front = omega (arith, r.read.given) in
    ap (lines_cost (line_job K) (old.given + 1)) r.read.split ∙ lines_cost-append (line_job K) (old.given + 1) r.read.front new.waiting
    ∙ ap (λ (k : ℕ). lines_cost (line_job K) (old.given + 1) r.read.front + lines_cost (line_job K) k new.waiting) (sym number)
    ∙ ap (λ (k : ℕ). k + lines_cost (line_job K) (new.given + 1) new.waiting) (sym (ap (λ (l : List ReadLine). cost (batch_asked K.statements l)) (these ∙ r.read.batch_is) ∙ read_cost K (old.given + 1) r.read.front))

-- ---- the lines of a batch

-- what is asked of lines is asked of those in front, and then of the others
pub both_prints : (K : List Bound) (all front others : List ReadLine) → all ≡ front ++ others → prints (batch_asked K all) ≡ followed_by (prints (batch_asked K front)) (prints (batch_asked K others))
both_prints K all front others is = ap (λ (l : List ReadLine). prints (batch_asked K l)) is ∙ ap prints (batch_asked-append K front others) ∙ prints-append (batch_asked K front) (batch_asked K others)

pub both_cost : (K : List Bound) (all front others : List ReadLine) → all ≡ front ++ others → cost (batch_asked K all) ≡ cost (batch_asked K front) + cost (batch_asked K others)
both_cost K all front others is = ap (λ (l : List ReadLine). cost (batch_asked K l)) is ∙ ap cost (batch_asked-append K front others) ∙ cost-append (batch_asked K front) (batch_asked K others)

pub batch_first : (K : List Bound) (lines : List ReadLine) (i : ℕ) (x : ReadLine) → i < length lines → x ≡ get_or lines i x → prints (batch_asked K (drop i lines)) ≡ followed_by (prints (asked_from 1 K x.number (line_read x.reading))) (prints (batch_asked K (drop (i + 1) lines)))
batch_first K lines i x within is =
    ap (λ (l : List ReadLine). prints (batch_asked K l)) (drop_more lines i x within) ∙ ap (λ (y : ReadLine). prints (batch_asked K (y ∷ drop (i + 1) lines))) (sym is)
    ∙ prints-append (asked_from 1 K x.number (line_read x.reading)) (batch_asked K (drop (i + 1) lines))

pub batch_first_cost : (K : List Bound) (lines : List ReadLine) (i : ℕ) (x : ReadLine) → i < length lines → x ≡ get_or lines i x → cost (batch_asked K (drop i lines)) ≡ cost (asked_from 1 K x.number (line_read x.reading)) + cost (batch_asked K (drop (i + 1) lines))
batch_first_cost K lines i x within is =
    ap (λ (l : List ReadLine). cost (batch_asked K l)) (drop_more lines i x within) ∙ ap (λ (y : ReadLine). cost (batch_asked K (y ∷ drop (i + 1) lines))) (sym is)
    ∙ cost-append (asked_from 1 K x.number (line_read x.reading)) (batch_asked K (drop (i + 1) lines))

-- ---- the rows of statements

-- one more statement
pub more_rows : (S : List BoundHeld) (i : ℕ) (d : BoundHeld) (rs qs : List Seen) (r : Seen) → i < length S → bounds_in rs ≡ map bound_of (take i S) → r.bound ≡ get_or S i d → qs ≡ rs ++ r ∷ []
    → bounds_in qs ≡ map bound_of (take (i + 1) S)
more_rows S i d rs qs r within so_far bound is =
    ap bounds_in is ∙ map-append (λ (x : Seen). bound_of x.bound) rs (r ∷ []) ∙ ap (λ (l : List Bound). l ++ bound_of r.bound ∷ []) so_far
    ∙ ap (λ (x : BoundHeld). map bound_of (take i S) ++ bound_of x ∷ []) bound ∙ sym (map-append bound_of (take i S) (get_or S i d ∷ [])) ∙ ap (map bound_of) (sym (take_more S i d within))

-- the statements that are left, of which the first is the one at this place
pub rows_first : (xs : List Seen) (P : List Bound) (i : ℕ) (d x : Seen) → i < length xs → bounds_in xs ≡ P → x ≡ get_or xs i d → drop i P ≡ bound_of x.bound ∷ drop (i + 1) P
rows_first xs P i d x within same is =
    ap (drop i) (sym same) ∙ drop-map (λ (s : Seen). bound_of s.bound) i xs ∙ ap bounds_in (drop_more xs i d within)
    ∙ ap (λ (l : List Bound). bound_of (get_or xs i d).bound ∷ l) (sym (drop-map (λ (s : Seen). bound_of s.bound) (i + 1) xs) ∙ ap (drop (i + 1)) same)
    ∙ ap (λ (s : Seen). bound_of s.bound ∷ drop (i + 1) P) (sym is)

-- rows that were asked keep their statement
pub rows_asked : (xs : List Seen) (i : ℕ) (d y : Seen) → y.bound ≡ (get_or xs i d).bound → bounds_in (set xs i y) ≡ bounds_in xs
rows_asked xs i d y kept = map-set_same (λ (s : Seen). bound_of s.bound) xs i y d (ap bound_of kept)

-- the rows of all statements were asked
pub rows_kept : (new rest : List Seen) (len : ℕ) (P : List Bound) → length new ≡ len → bounds_in new ≡ P → bounds_in (take len (new ++ rest)) ≡ P
rows_kept new rest len P is same = ap bounds_in (take_at new rest len is) ∙ same
