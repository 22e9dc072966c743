-- A node is printed visit by visit.
use Rattle.std.proofs.Common.{◌≡◌, ℕ, ◌+◌, ◌≤◌, Bool, true, false, ◌&&◌, if◌then◌else◌, List, ◌∷◌, ◌++◌, Result, OnErr, None, refl, sym, ap, ◌∙◌, subst, zero-add, arith}
use Rattle.sj_base.specs.Count.{raised}
use Rattle.sj_json.specs.Tree.{Tree, below}
use Rattle.sj_json.specs.Printing.{printed}
use Rattle.sj_doc.specs.Tours.{Visited, enter, leave, leaf, hands_out, Touring, tour}
use Rattle.sj_text.specs.declared.place.Place.{Place}
use Rattle.sj_text.specs.declared.place.Place.TheVariants.{First}
use Rattle.sj_text.specs.Prefixes.{AppendsPrefix}
use Rattle.sj_text.proofs.Appends.{Appending}
use Rattle.sj_text.specs.Rendering.{visit_printed, place_after, render, IsVisit, AreVisits, nodes, counted}
use Rattle.sj_text.proofs.Appends.{at_error, begun, grows_to, stops}
use Rattle.sj_text.proofs.Rendered.{render_whole, counted-tour, AreVisits-tour}

-- ---- counts

raised-zero : (n : ℕ) → raised n 0 ≡ n
raised-zero n = omega arith

pub le-raised : (n k : ℕ) → n ≤ raised n k
le-raised n k = omega arith

raised-raised : (n j k : ℕ) → raised (raised n j) k ≡ raised n (j + k)
raised-raised n j k = omega arith

-- ---- the loop

-- the text of t has come up to the visits that are left, and so have the steps
pub record IsUnderWay (old : List ℕ) (t : Tree) (before : ℕ) (out : List ℕ) (place : Place) (left : Touring) (steps : ℕ) : Type 0 where
  pub text : Appending old (printed t) out (render place left.1)
  pub cost : raised steps (counted left) ≡ raised before (below t)
  pub visits : AreVisits left.1

-- the visit v is next: its text is still to come, and its step is made
pub record IsAt (old : List ℕ) (t : Tree) (before : ℕ) (out : List ℕ) (place : Place) (v : Visited) (left : Touring) (steps : ℕ) : Type 0 where
  pub text : Appending old (printed t) out (visit_printed place v ++ render (place_after v) left.1)
  pub cost : raised steps (counted left) ≡ raised before (below t)
  pub visit : IsVisit v
  pub visits : AreVisits left.1

pub sets_out : (old : List ℕ) (t : Tree) (before i : ℕ) → IsUnderWay old t before old First (false, tour None i t) before
sets_out old t before i =
    record {
      text = subst (Appending old (printed t) old) (sym (render_whole i t)) (begun old (printed t));
      cost = ap (raised before) (counted-tour i t);
      visits = AreVisits-tour i t;
    }

-- the step of a visit
abbrev step_of : Bool → Visited → ℕ → ℕ
step_of begun v steps = if begun && hands_out v then raised steps 1 else steps

step_counts : (begun : Bool) (v : Visited) (vs : List Visited) (steps : ℕ) → raised (step_of begun v steps) (nodes vs) ≡ raised steps (counted (begun, v ∷ vs))
step_counts false v vs steps = refl
step_counts true (enter n) vs steps = raised-raised steps 1 (nodes vs)
step_counts true (leave k) vs steps = ap (raised steps) (sym (zero-add (nodes vs)))
step_counts true (leaf n) vs steps = raised-raised steps 1 (nodes vs)

pub arrives : (old : List ℕ) (t : Tree) (before : ℕ) (out : List ℕ) (place : Place) (v : Visited) (left next : Touring) (steps later : ℕ)
    → IsUnderWay old t before out place left steps → left.1 ≡ v ∷ next.1 → next.0 ≡ true → later ≡ step_of left.0 v steps → IsAt old t before out place v next later
arrives old t before out place v (b, vs) (d, ws) steps later u goes begun made =
    let visits : AreVisits (v ∷ ws) = subst AreVisits goes u.visits in
    record {
      text = subst (λ l. Appending old (printed t) out (render place l)) goes u.text;
      cost = rw (made, begun) (step_counts b v ws steps ∙ ap (λ l. raised steps (counted (b, l))) (sym goes) ∙ u.cost);
      visit = visits.0;
      visits = visits.1;
    }

-- the visit brings its text
pub brings : (old : List ℕ) (t : Tree) (before : ℕ) (out : List ℕ) (place : Place) (v : Visited) (left : Touring) (steps : ℕ) (last : List ℕ) (after : Place)
    → IsAt old t before out place v left steps → last ≡ out ++ visit_printed place v → after ≡ place_after v → IsUnderWay old t before last after left steps
brings old t before out place v left steps last after a comes moves =
    record {
      text = subst (λ p. Appending old (printed t) last (render p left.1)) (sym moves) (grows_to old (printed t) out (visit_printed place v) (render (place_after v) left.1) last a.text comes);
      cost = a.cost;
      visits = a.visits;
    }

-- the visit stops in its text
pub is_cut : {T E : Type 0} (r : Result T E) (old : List ℕ) (t : Tree) (before : ℕ) (out : List ℕ) (place : Place) (v : Visited) (left : Touring) (steps : ℕ) (last : List ℕ)
    → IsAt old t before out place v left steps → AppendsPrefix out (visit_printed place v) last → OnErr r (AppendsPrefix old (printed t) last)
is_cut r old t before out place v left steps last a p = at_error r (stops old (printed t) out (visit_printed place v) (render (place_after v) left.1) last a.text p)
