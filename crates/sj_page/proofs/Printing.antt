-- Printing one thing behind another.
use Rattle.std.proofs.Common.{◌≡◌, ℕ, ◌+◌, List, [], ◌++◌, Result, Ok, Err, IsOk, refl, sym, ◌∙◌, ap, subst, arith, append_assoc}
use Rattle.std.proofs.lemmas.List.{append-nil}
use Rattle.sj_base.specs.Count.{Rose, raised}
use Rattle.sj_page.specs.declared.stop.Stop.{Stop}
use Rattle.sj_page.specs.declared.stop.Stop.TheVariants.{Memory, Output}
use Rattle.sj_page.specs.Sides.{OutputSide, Grew, Wrote}
use Rattle.sj_page.specs.Pages.{Print, nothing, followed_by, PrintState, Printed, IsCause, Stopped, Prints}
use Rattle.sj_page.proofs.Writing.{grew_more, grew_none}

-- ---- one behind the other

abbrev pub print : List ℕ → ℕ → ℕ → Print
print text rows errors = record { text = text; rows = rows; errors = errors }

pub same_print : (s t : List ℕ) (m n k l : ℕ) → s ≡ t → m ≡ n → k ≡ l → print s m k ≡ print t n l
same_print s t m n k l a b c = cc

pub nothing_before : (p : Print) → followed_by nothing p ≡ p
nothing_before p = same_print p.text p.text (0 + p.rows) p.rows (0 + p.errors) p.errors refl (omega arith) (omega arith)

pub nothing_behind : (p : Print) → followed_by p nothing ≡ p
nothing_behind p = same_print (p.text ++ []) p.text (p.rows + 0) p.rows (p.errors + 0) p.errors (append-nil p.text) (omega arith) (omega arith)

pub followed_assoc : (p q r : Print) → followed_by (followed_by p q) r ≡ followed_by p (followed_by q r)
followed_assoc p q r = same_print ((p.text ++ q.text) ++ r.text) (p.text ++ (q.text ++ r.text)) (p.rows + q.rows + r.rows) (p.rows + (q.rows + r.rows)) (p.errors + q.errors + r.errors) (p.errors + (q.errors + r.errors))
    (append_assoc p.text q.text r.text) (omega arith) (omega arith)

-- ---- numbers that stay at their last value

raised_none : (n : ℕ) → n ≡ raised n 0
raised_none n = omega arith

raised_more : (a b c p q : ℕ) → b ≡ raised a p → c ≡ raised b q → c ≡ raised a (p + q)
raised_more a b c p q x y = omega (arith, x, y)

-- ---- what was printed

pub printed_none : (a : PrintState) → Printed nothing a a
printed_none a = record {
  written = [];
  grew = grew_none a.out;
  all = sym (append-nil a.page.text);
  rows = raised_none a.page.rows;
  errors = raised_none a.page.errors;
  no_fault = refl;
}

-- put on the page
pub printed_on : (p : Print) (a b : PrintState) → b.out ≡ a.out → b.page.text ≡ a.page.text ++ p.text → b.page.rows ≡ raised a.page.rows p.rows → b.page.errors ≡ raised a.page.errors p.errors → Printed p a b
printed_on p a b out text rows errors = record {
  written = [];
  grew = subst (λ (o : OutputSide). Grew a.out o []) (sym out) (grew_none a.out);
  all = text;
  rows = rows;
  errors = errors;
  no_fault = ap (λ (o : OutputSide). o.faults) out;
}

-- written whole
pub written_whole : {T E : Type 0} (a b : PrintState) (r : Result T E) → Wrote a.out b.out a.page.text r → IsOk r → b.page.text ≡ [] → b.page.rows ≡ a.page.rows → b.page.errors ≡ a.page.errors → Printed nothing a b
written_whole a b (Ok x) w ok empty rows errors = record {
  written = w.written;
  grew = w.grew;
  all = ap (λ (t : List ℕ). w.written ++ t) (empty ∙ sym w.whole) ∙ sym w.split ∙ sym (append-nil a.page.text);
  rows = rows ∙ raised_none a.page.rows;
  errors = errors ∙ raised_none a.page.errors;
  no_fault = w.cause.kept;
}
written_whole a b (Err e) w ok empty rows errors = absurd (cc ok)

-- or up to a place
pub written_front : {T E : Type 0} (a b : PrintState) (r : Result T E) → Wrote a.out b.out a.page.text r → (IsOk r → ⊥) → Stopped nothing a b Output
written_front a b (Ok x) w bad = absurd (bad refl)
written_front a b (Err e) w bad = record { written = w.written; left = w.left; split = append-nil a.page.text ∙ w.split; grew = w.grew; cause = w.cause.failed }

-- nothing was written where memory ran out
pub stopped_before : (p : Print) (a b : PrintState) → b.out ≡ a.out → Stopped p a b Memory
stopped_before p a b out = record {
  written = [];
  left = a.page.text ++ p.text;
  split = refl;
  grew = subst (λ (o : OutputSide). Grew a.out o []) (sym out) (grew_none a.out);
  cause = ap (λ (o : OutputSide). o.faults) out;
}

pub printed_more : (p q : Print) (a b c : PrintState) → Printed p a b → Printed q b c → Printed (followed_by p q) a c
printed_more p q a b c x y = record {
  written = x.written ++ y.written;
  grew = grew_more a.out b.out c.out x.written y.written x.grew y.grew;
  all = append_assoc x.written y.written c.page.text ∙ ap (λ (t : List ℕ). x.written ++ t) y.all ∙ sym (append_assoc x.written b.page.text q.text)
      ∙ ap (λ (t : List ℕ). t ++ q.text) x.all ∙ append_assoc a.page.text p.text q.text;
  rows = raised_more a.page.rows b.page.rows c.page.rows p.rows q.rows x.rows y.rows;
  errors = raised_more a.page.errors b.page.errors c.page.errors p.errors q.errors x.errors y.errors;
  no_fault = y.no_fault ∙ x.no_fault;
}

cause_since : (a b c : OutputSide) (stop : Stop) → b.faults ≡ a.faults → IsCause b c stop → IsCause a c stop
cause_since a b c Memory same why = why ∙ same
cause_since a b c Output same why = subst (λ (n : ℕ). Rose n c.faults) same why

pub stopped_more : (p q : Print) (a b c : PrintState) (stop : Stop) → Printed p a b → Stopped q b c stop → Stopped (followed_by p q) a c stop
stopped_more p q a b c stop x y = record {
  written = x.written ++ y.written;
  left = y.left;
  split = sym (append_assoc a.page.text p.text q.text) ∙ ap (λ (t : List ℕ). t ++ q.text) (sym x.all) ∙ append_assoc x.written b.page.text q.text
      ∙ ap (λ (t : List ℕ). x.written ++ t) y.split ∙ sym (append_assoc x.written y.written y.left);
  grew = grew_more a.out b.out c.out x.written y.written x.grew y.grew;
  cause = cause_since a.out b.out c.out stop x.no_fault y.cause;
}

-- more would have been printed
pub stopped_early : (p q : Print) (a b : PrintState) (stop : Stop) → Stopped p a b stop → Stopped (followed_by p q) a b stop
stopped_early p q a b stop x = record {
  written = x.written;
  left = x.left ++ q.text;
  split = sym (append_assoc a.page.text p.text q.text) ∙ ap (λ (t : List ℕ). t ++ q.text) x.split ∙ append_assoc x.written x.left q.text;
  grew = x.grew;
  cause = x.cause;
}

-- one after the other, whether the second ends or not
pub prints_more : {T : Type 0} (p q : Print) (a b c : PrintState) (r : Result T Stop) → Printed p a b → Prints q b c r → Prints (followed_by p q) a c r
prints_more p q a b c (Ok x) before behind = printed_more p q a b c before behind
prints_more p q a b c (Err stop) before behind = stopped_more p q a b c stop before behind

pub prints_same : {T : Type 0} (p q : Print) (a b : PrintState) (r : Result T Stop) → p ≡ q → Prints p a b r → Prints q a b r
prints_same p q a b r is x = subst (λ (t : Print). Prints t a b r) is x

-- what was put on the page may be written at once
pub prints_on : {T : Type 0} (p : Print) (a b c : PrintState) (r : Result T Stop) → Printed p a b → Prints nothing b c r → Prints p a c r
prints_on p a b c r before behind = prints_same (followed_by p nothing) p a c r (nothing_behind p) (prints_more p nothing a b c r before behind)

-- ---- in the middle of a text

-- so far was printed, and this is left
pub record Printing (whole left : Print) (old now : PrintState) : Type 0 where
  pub so_far : Print
  pub split : whole ≡ followed_by so_far left
  pub printed : Printed so_far old now

pub printing_starts : (whole : Print) (a : PrintState) → Printing whole whole a a
printing_starts whole a = record { so_far = nothing; split = sym (nothing_before whole); printed = printed_none a }

pub printing_more : (whole left p rest : Print) (a b c : PrintState) → Printing whole left a b → left ≡ followed_by p rest → Printed p b c → Printing whole rest a c
printing_more whole left p rest a b c x is y = record {
  so_far = followed_by x.so_far p;
  split = x.split ∙ ap (followed_by x.so_far) is ∙ sym (followed_assoc x.so_far p rest);
  printed = printed_more x.so_far p a b c x.printed y;
}

pub printing_done : (whole left : Print) (a b : PrintState) → Printing whole left a b → left ≡ nothing → Printed whole a b
printing_done whole left a b x none = subst (λ (t : Print). Printed t a b) (sym (x.split ∙ ap (followed_by x.so_far) none ∙ nothing_behind x.so_far)) x.printed

-- what is left is printed last
pub printing_ends : {T : Type 0} (whole left p : Print) (a b c : PrintState) (r : Result T Stop) → Printing whole left a b → left ≡ p → Prints p b c r → Prints whole a c r
printing_ends whole left p a b c r x is y = prints_same (followed_by x.so_far p) whole a c r (sym (x.split ∙ ap (followed_by x.so_far) is)) (prints_more x.so_far p a b c r x.printed y)

pub printing_stops : (whole left p rest : Print) (a b c : PrintState) (stop : Stop) → Printing whole left a b → left ≡ followed_by p rest → Stopped p b c stop → Stopped whole a c stop
printing_stops whole left p rest a b c stop x is y =
    subst (λ (t : Print). Stopped t a c stop) (sym (x.split ∙ ap (followed_by x.so_far) is))
    (stopped_more x.so_far (followed_by p rest) a b c stop x.printed (stopped_early p rest b c stop y))

-- memory ran out in the middle
pub printing_memory : (whole left : Print) (a b : PrintState) → Printing whole left a b → Stopped whole a b Memory
printing_memory whole left a b x =
    subst (λ (t : Print). Stopped t a b Memory) (sym x.split) (stopped_more x.so_far left a b b Memory x.printed (stopped_before left b b refl))
