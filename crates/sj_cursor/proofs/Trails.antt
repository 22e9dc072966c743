-- What is left of a path that is gone through by moves, as it goes on.
use Rattle.std.proofs.Common.{◌≡◌, ℕ, zero, suc, ◌+◌, ◌*◌, ◌-◌, ◌≤◌, ◌<◌, List, [], ◌∷◌, ◌++◌, map, length, drop, get_or, drop-cons, length-append, false, Option, Some, None, ap, sym, ◌∙◌, refl, arith}
use Rattle.std.specs.Borrow.{Bor}
use Rattle.std.specs.Prelude.{MatchOption, IfSome}
use Rattle.std.proofs.lemmas.List.{get_or_default}
use Rattle.sj_base.specs.Count.{raised}
use Rattle.sj_json.specs.Tree.{NumberedChild}
use Rattle.sj_doc.specs.Keyed.{from_key}
use Rattle.sj_doc.specs.Kinds.{kind_of}
use Rattle.sj_doc.specs.Listed.{node_id, node_tree}
use Rattle.sj_doc.specs.declared.doc.NodeRef.{NodeRef}
use Rattle.sj_doc.specs.declared.node.Kind.{Kind}
use Rattle.sj_doc.specs.declared.node.Kind.TheVariants as kinds
use Rattle.sj_path_tree.specs.declared.parts.Mode.TheVariants.{Lax}
use Rattle.sj_item.specs.Items.{ItemValue, PullValue, gives, ends, node}
use Rattle.sj_item.specs.declared.truth.Truth.{Truth}
use Rattle.sj_item.specs.declared.truth.Truth.TheVariants.{True, False, Unknown}
use Rattle.sj_step.specs.Reach.{reach, on_kind, by_key, unwrapped, child_item, every, under_key}
use Rattle.sj_step.specs.Trace.{Trace, stop, visit, give, only, after_visits, join, each, visits}
use Rattle.sj_step.proofs.Traces.{join-after_visits, join-stop, join_assoc, each-after_visits, visits-after_visits}
use Rattle.sj_step.proofs.Keyed.{fewer}
use Rattle.sj_plain_path.specs.Chains.{node_value}
use Rattle.sj_plain_path.proofs.NotUnwrapped.{unopened}
use Rattle.sj_plain_path.proofs.UnderKeys.{without_members, members_under, members_first, members_none}
use Rattle.sj_cursor.specs.Decides.{Decides}
use Rattle.sj_cursor.specs.Draws.{Draws}
use Rattle.sj_cursor.specs.Verdicts.{Verdict, filtered, kept}
use Rattle.sj_cursor.specs.Moves.{moved, walked}
use Rattle.sj_cursor.specs.Trails.{Leads, Gives, left_by, children_within, opened_at, frame_left, frames_left, stack_left, Stacked, IsRoomy}
use Rattle.sj_cursor.specs.declared.moves.Move.{Move}
use Rattle.sj_cursor.specs.declared.moves.Move.TheVariants as moves
use Rattle.sj_cursor.specs.declared.trail.Frame.{Frame}
use Rattle.sj_cursor.proofs.Draws.{item_drawn, end_drawn, draws_after, paid}

abbrev Key : Type 0
Key = Bor (List ℕ)

-- ---- being led

after_visits-add : (n m : ℕ) (t : Trace) → after_visits n (after_visits m t) ≡ after_visits (n + m) t
after_visits-add zero m t = let none : m ≡ 0 + m = omega arith in ap (λ k. after_visits k t) none
after_visits-add (suc n) m t = let one : suc (n + m) ≡ suc n + m = omega arith in ap visit (after_visits-add n m t) ∙ ap (λ k. after_visits k t) one

pub leads_same : (t u : Trace) (a : ℕ) → t ≡ u → Leads t a u a
leads_same t u a e = record { spent = 0; is = e; costs = omega arith }

pub leads_behind : (n : ℕ) (t u : Trace) (a b : ℕ) → t ≡ after_visits n u → b ≤ raised a n → Leads t a u b
leads_behind n t u a b e h = record { spent = n; is = e; costs = h }

pub leads_on : (t u v : Trace) (a b c : ℕ) → Leads t a u b → Leads u b v c → Leads t a v c
leads_on t u v a b c l m = record {
  spent = l.spent + m.spent;
  is = l.is ∙ ap (after_visits l.spent) m.is ∙ after_visits-add l.spent m.spent v;
  costs = omega (arith, l.costs, m.costs);
}

pub leads_before : (t u v : Trace) (a b : ℕ) → Leads t a u b → Leads (join t v) a (join u v) b
leads_before t u v a b l = record { spent = l.spent; is = ap (λ w. join w v) l.is ∙ join-after_visits l.spent u v; costs = l.costs }

pub leads_item : (t u : Trace) (x : ItemValue) (a b : ℕ) → Leads t a (give x u) b → Draws t (gives x) u a b
leads_item t u x a b l = rw l.is (item_drawn l.spent u x a b l.costs)

pub leads_end : (t : Trace) (a b : ℕ) → Leads t a stop b → Draws t ends stop a b
leads_end t a b l = rw l.is (end_drawn l.spent a b l.costs)

pub leads_draws : (t u v : Trace) (r : PullValue) (a b c : ℕ) → Leads t a u b → Draws u r v b c → Draws t r v a c
leads_draws t u v r a b c l d = draws_after t u v r a b c (rw l.is (paid l.spent u a b l.costs)) d

visits_led : (t u : Trace) (a b : ℕ) → Leads t a u b → visits u ≤ visits t
visits_led t u a b l = omega (arith, ap visits l.is, visits-after_visits l.spent u)

-- ---- one move on a node

kind_opened : (k : Kind) (x : ItemValue) → k ≡ kinds.Array → on_kind k unwrapped Lax x ≡ on_kind kinds.Array unwrapped Lax x
kind_opened k x e = ap (λ z. on_kind z unwrapped Lax x) e

pub unwrap_array : (n : NodeRef) (within : ItemValue → Trace) → kind_of (node_tree n) ≡ kinds.Array → each (moved moves.Unwrap (node_value n)) within ≡ left_by moves.Unwrap within (children_within n)
unfolding reach
unwrap_array n within e = ap (λ u. each u within) (kind_opened (kind_of (node_tree n)) (node_value n) e)

pub unwrap_other : (n : NodeRef) (within : ItemValue → Trace) → (kind_of (node_tree n) ≡ kinds.Array → ⊥) → each (moved moves.Unwrap (node_value n)) within ≡ within (node_value n)
unwrap_other n within other = ap (λ u. each u within) (unopened Lax (node_value n) other) ∙ join-stop (within (node_value n))

pub member_object : (n : NodeRef) (key : List ℕ) (within : ItemValue → Trace) → kind_of (node_tree n) ≡ kinds.Object
    → each (reach (by_key key) Lax (node_value n)) within ≡ each (under_key 1 Lax key false (map child_item (children_within n))) within
unfolding reach
member_object n key within e = ap (λ z. each (on_kind z (by_key key) Lax (node_value n)) within) e

pub member_other : (n : NodeRef) (key : List ℕ) (within : ItemValue → Trace) → (kind_of (node_tree n) ≡ kinds.Object → ⊥) → each (reach (by_key key) Lax (node_value n)) within ≡ stop
unfolding reach
member_other n key within other = ap (λ u. each u within) (without_members (kind_of (node_tree n)) key (node_value n) other)

-- what is left behind a filter by the truth of its test
abbrev kept_on : Truth → (ItemValue → Trace) → ItemValue → Trace
kept_on r within x = each (kept r x) within

pub filter_leads : (v : Verdict) (within : ItemValue → Trace) (x : ItemValue) (r : Truth) (a b : ℕ) → Decides v r a b → Leads (each (filtered v x) within) a (kept_on r within x) b
unfolding filtered
filter_leads v within x r a b d =
    leads_behind v.allow _ _ a b (each-after_visits v.allow (kept v.truth x) within ∙ ap (λ z. after_visits v.allow (kept_on z within x)) (sym d.answers)) d.costs

pub filter_true : (v : Verdict) (within : ItemValue → Trace) (x : ItemValue) (r : Truth) (a b : ℕ) → Decides v r a b → r ≡ True → Leads (each (filtered v x) within) a (within x) b
filter_true v within x r a b d e =
    leads_on _ _ _ a b b (filter_leads v within x r a b d) (leads_same _ _ b (ap (λ z. kept_on z within x) e ∙ join-stop (within x)))

pub filter_other : (v : Verdict) (within : ItemValue → Trace) (x : ItemValue) (r : Truth) (a b : ℕ) → Decides v r a b → (r ≡ True → ⊥) → Leads (each (filtered v x) within) a stop b
filter_other v within x True a b d other = absurd (other refl)
filter_other v within x False a b d other = filter_leads v within x False a b d
filter_other v within x Unknown a b d other = filter_leads v within x Unknown a b d

-- ---- the next child

keyed_none : (key : List ℕ) (within : ItemValue → Trace) (cs ms : List NumberedChild) → (from_key key cs ≡ []) × (ms ≡ []) → members_under key within cs ≡ after_visits (length cs - length ms) stop
keyed_none key within cs ms e =
    let all : length cs ≡ length cs - length ms = omega (arith, ap (λ (xs : List NumberedChild). length xs) e.1) in
    members_none key within cs e.0 ∙ ap (λ n. after_visits n stop) all

pub keyed_gives : (m : Move) (key : Key) (o : Option NodeRef) (cs ds : List NumberedChild) → m ≡ moves.Member key
    → MatchOption o ((from_key key.now cs ≡ []) × (ds ≡ [])) (λ n. from_key key.now cs ≡ (Some key.now, node_id n, node_tree n) ∷ ds) → Gives m o cs ds
keyed_gives m key None cs ds e h = rw e (λ within. keyed_none key.now within cs ds h)
keyed_gives m key (Some n) cs ds e h = rw e (λ within. members_first key.now within _ cs ds h)

pub keyed_fewer : (key : List ℕ) (o : Option NodeRef) (cs ds : List NumberedChild)
    → MatchOption o ((from_key key cs ≡ []) × (ds ≡ [])) (λ n. from_key key cs ≡ (Some key, node_id n, node_tree n) ∷ ds) → IfSome o (λ _. length ds < length cs)
keyed_fewer key None cs ds h = tt
keyed_fewer key (Some n) cs ds h = fewer Lax key false _ ds cs h

abbrev every_left : (ItemValue → Trace) → List NumberedChild → Trace
every_left within cs = each (every 1 (map child_item cs)) within

pub every_first : (within : ItemValue → Trace) (c : NumberedChild) (cs ds : List NumberedChild) → cs ≡ c ∷ ds → every_left within cs ≡ after_visits (length cs - length ds) (join (within (node c.1 c.2)) (every_left within ds))
every_first within c cs ds e =
    let one : suc 0 ≡ length cs - length ds = omega (arith, ap (λ (xs : List NumberedChild). length xs) e) in
    ap (every_left within) e ∙ ap (λ n. after_visits n (join (within (node c.1 c.2)) (every_left within ds))) one

pub every_none : (within : ItemValue → Trace) (cs ds : List NumberedChild) → (cs ≡ []) × (ds ≡ []) → every_left within cs ≡ after_visits (length cs - length ds) stop
every_none within cs ds e =
    let none : 0 ≡ length cs - length ds = omega (arith, ap (λ (xs : List NumberedChild). length xs) e.0) in
    ap (every_left within) e.0 ∙ ap (λ n. after_visits n stop) none

-- ---- down from one node

-- a move that stands at a place
module _ (ms : List Move) (at : ℕ) (m : Move) (within : at < length ms) (is : m ≡ get_or ms at m) where
  walked_at : (x : ItemValue) → walked (drop at ms) x ≡ each (moved m x) (walked (drop (at + 1) ms))
  walked_at x =
      let next : suc at ≡ at + 1 = omega arith in
      ap (λ ns. walked ns x) (drop-cons ms at m within)
      ∙ ap (λ n. each (moved n x) (walked (drop (suc at) ms))) (sym is)
      ∙ ap (λ i. each (moved m x) (walked (drop i ms))) next

  pub led_at : (x : ItemValue) (u : Trace) (a b : ℕ) → Leads (each (moved m x) (walked (drop (at + 1) ms))) a u b → Leads (walked (drop at ms) x) a u b
  led_at x u a b l = leads_on _ _ _ a a b (leads_same _ _ a (walked_at x)) l

  opened_is : (cs : List NumberedChild) → left_by m (walked (drop (at + 1) ms)) cs ≡ opened_at ms at cs
  opened_is cs = ap (λ n. left_by n (walked (drop (at + 1) ms)) cs) (is ∙ get_or_default ms at m moves.Unwrap within)

  pub led_down : (x : ItemValue) (cs : List NumberedChild) (a b : ℕ) → Leads (each (moved m x) (walked (drop (at + 1) ms))) a (left_by m (walked (drop (at + 1) ms)) cs) b → Leads (walked (drop at ms) x) a (opened_at ms at cs) b
  led_down x cs a b l = leads_on _ _ _ a b b (led_at x _ a b l) (leads_same _ _ b (opened_is cs))

  -- a frame has no child left that goes on
  pub frame_over : (cs ds : List NumberedChild) (s : Trace) (a b : ℕ) → Gives m None cs ds → b ≤ raised a (length cs - length ds) → Leads (join (opened_at ms at cs) s) a s b
  frame_over cs ds s a b g h =
      leads_behind (length cs - length ds) _ _ a b
      (ap (λ u. join u s) (sym (opened_is cs) ∙ g (walked (drop (at + 1) ms))) ∙ join-after_visits (length cs - length ds) stop s)
      h

  -- a child of a frame goes on
  frame_child : (n : NodeRef) (cs ds : List NumberedChild) (s : Trace) → Gives m (Some n) cs ds
      → join (opened_at ms at cs) s ≡ after_visits (length cs - length ds) (join (walked (drop (at + 1) ms) (node_value n)) (join (opened_at ms at ds) s))
  frame_child n cs ds s g =
      let k = length cs - length ds in
      let w : Trace = walked (drop (at + 1) ms) (node_value n) in
      ap (λ u. join u s) (sym (opened_is cs) ∙ g (walked (drop (at + 1) ms)))
      ∙ join-after_visits k (join w (left_by m (walked (drop (at + 1) ms)) ds)) s
      ∙ ap (after_visits k) (join_assoc w (left_by m (walked (drop (at + 1) ms)) ds) s)
      ∙ ap (λ u. after_visits k (join w (join u s))) (opened_is ds)

  pub child_led : (t : Trace) (a : ℕ) (n : NodeRef) (cs ds : List NumberedChild) (s u : Trace) (b c d : ℕ) → Leads t a (join (opened_at ms at cs) s) b → Gives m (Some n) cs ds
      → c ≤ raised b (length cs - length ds) → Leads (walked (drop (at + 1) ms) (node_value n)) c u d → Leads t a (join u (join (opened_at ms at ds) s)) d
  child_led t a n cs ds s u b c d l g h k =
      leads_on _ _ _ a b d l (leads_on _ _ _ b c d (leads_behind _ _ _ b c (frame_child n cs ds s g) h) (leads_before _ u (join (opened_at ms at ds) s) c d k))

  pub child_fewer : (n : NodeRef) (cs ds : List NumberedChild) (s u : Trace) (c d : ℕ) → Gives m (Some n) cs ds → length ds < length cs
      → Leads (walked (drop (at + 1) ms) (node_value n)) c u d → visits (join u (join (opened_at ms at ds) s)) < visits (join (opened_at ms at cs) s)
  child_fewer n cs ds s u c d g some k =
      let w : Trace = join (walked (drop (at + 1) ms) (node_value n)) (join (opened_at ms at ds) s) in
      omega (arith, some, ap visits (frame_child n cs ds s g), visits-after_visits (length cs - length ds) w, visits_led _ _ c d (leads_before _ u (join (opened_at ms at ds) s) c d k))

-- ---- frames

frames_behind : (ms : List Move) (u : Trace) (fs : List Frame) (f : Frame) → frames_left ms u (fs ++ f ∷ []) ≡ join (frame_left ms f) (frames_left ms u fs)
frames_behind ms u [] f = refl
frames_behind ms u (g ∷ fs) f = frames_behind ms (join (frame_left ms g) u) fs f

pub stack_behind : (ms : List Move) (fs : List Frame) (f : Frame) (new : List Frame) → new ≡ fs ++ f ∷ [] → stack_left ms new ≡ join (frame_left ms f) (stack_left ms fs)
stack_behind ms fs f new e = ap (stack_left ms) e ∙ frames_behind ms stop fs f

stacked_behind : (n i : ℕ) (fs : List Frame) (f : Frame) → Stacked n i fs → i + length fs ≤ f.at → f.at < n → Stacked n i (fs ++ f ∷ [])
stacked_behind n i [] f s low high = (omega (arith, low), (high, omega arith))
stacked_behind n i (g ∷ fs) f s low high = (s.0, (s.1.0, stacked_behind n (i + 1) fs f s.1.1 (omega (arith, low)) high))

stacked_before : (n i : ℕ) (fs : List Frame) (f : Frame) → Stacked n i (fs ++ f ∷ []) → Stacked n i fs × ((i + length fs ≤ f.at) × (f.at < n))
stacked_before n i [] f s = (omega arith, (omega (arith, s.0), s.1.0))
stacked_before n i (g ∷ fs) f s =
    let others = stacked_before n (i + 1) fs f s.1.1 in
    ((s.0, (s.1.0, others.0)), (omega (arith, others.1.0), others.1.1))

-- the last frame is taken
pub roomy_taken : (ms : List Move) (places after : ℕ) (old fs : List Frame) (f : Frame) → length ms ≤ places → Stacked (length ms) 0 old → after ≡ places → old ≡ fs ++ f ∷ [] → IsRoomy ms after fs f
roomy_taken ms places after old fs f room stacked same e =
    let taken = stacked_before (length ms) 0 fs f (rw e at stacked) in
    record { room = omega (arith, room, same); stacked = taken.0; within = omega (arith, taken.1.0); at = taken.1.1 }

-- there are no more frames than moves
pub stacked_few : (n i : ℕ) (fs : List Frame) → Stacked n i fs → length fs ≤ n - i
stacked_few n i [] s = omega arith
stacked_few n i (f ∷ fs) s = omega (arith, s.0, s.1.0, stacked_few n (i + 1) fs s.1.1)

-- a frame is put back
pub stacked_put : (ms : List Move) (places : ℕ) (fs new : List Frame) (f g : Frame) → IsRoomy ms places fs f → g.at ≡ f.at → new ≡ fs ++ g ∷ [] → Stacked (length ms) 0 new
stacked_put ms places fs new f g k same e = rw e (stacked_behind (length ms) 0 fs g k.stacked (omega (arith, k.within, same)) (omega (arith, k.at, same)))

pub roomy_put : (ms : List Move) (places after : ℕ) (fs new : List Frame) (f g h : Frame) → IsRoomy ms places fs f → g.at ≡ f.at → new ≡ fs ++ g ∷ [] → after ≡ places
    → f.at + 1 ≤ h.at → h.at < length ms → IsRoomy ms after new h
roomy_put ms places after fs new f g h k same e room low high = record {
  room = omega (arith, k.room, room);
  stacked = stacked_put ms places fs new f g k same e;
  within = omega (arith, ap (λ (xs : List Frame). length xs) e, length-append fs (g ∷ []), k.within, low);
  at = high;
}

-- ---- the first item on a node

pub first_item : (ms : List Move) (fs : List Frame) (t : Trace) (x : ItemValue) (a b : ℕ) → Leads t a (only x) b → fs ≡ [] → Draws t (gives x) (stack_left ms fs) a b
first_item ms fs t x a b l e = rw e (leads_item t stop x a b l)

pub first_end : (ms : List Move) (fs : List Frame) (t : Trace) (a b : ℕ) → Leads t a stop b → fs ≡ [] → Draws t ends (stack_left ms fs) a b
first_end ms fs t a b l e = rw e (leads_end t a b l)

pub first_within : (ms : List Move) (at : ℕ) (cs kids : List NumberedChild) (fs : List Frame) (t v : Trace) (r : PullValue) (a b c : ℕ)
    → Leads t a (opened_at ms at cs) b → kids ≡ cs → fs ≡ [] → Draws (join (opened_at ms at kids) (stack_left ms fs)) r v b c → Draws t r v a c
first_within ms at cs kids fs t v r a b c l k e d =
    leads_draws t _ v r a b c l (rw (join-stop (opened_at ms at cs)) at (rw (k, e) at d))

-- ---- the loop over frames

pub led_item : (ms : List Move) (fs new : List Frame) (g : Frame) (t : Trace) (x : ItemValue) (a b : ℕ)
    → Leads t a (join (only x) (join (frame_left ms g) (stack_left ms fs))) b → new ≡ fs ++ g ∷ [] → Draws t (gives x) (stack_left ms new) a b
led_item ms fs new g t x a b l e = rw (stack_behind ms fs g new e) (leads_item t _ x a b l)

pub led_end : (ms : List Move) (fs gs : List Frame) (t : Trace) (a b : ℕ) → Leads t a (stack_left ms fs) b → length fs ≡ 0 → length gs ≡ 0 → Draws t ends (stack_left ms gs) a b
led_end ms [] [] t a b l h k = leads_end t a b l
led_end ms [] (g ∷ gs) t a b l h k = absurd (omega (arith, k))
led_end ms (f ∷ fs) gs t a b l h k = absurd (omega (arith, h))

-- the measure falls
pub smaller_taken : (t u v : Trace) (a b : ℕ) (old fs : List Frame) (f : Frame) → Leads t a u b → u ≡ v → old ≡ fs ++ f ∷ [] → 2 * visits v + length fs < 2 * visits t + length old
smaller_taken t u v a b old fs f l e h =
    omega (arith, visits_led t u a b l, ap visits e, ap (λ (xs : List Frame). length xs) h, length-append fs (f ∷ []))

-- a frame is put back, and one within it is begun
pub put_is : (ms : List Move) (fs new : List Frame) (g h : Frame) (cs : List NumberedChild) → new ≡ fs ++ g ∷ [] → h.left ≡ cs
    → join (opened_at ms h.at cs) (join (frame_left ms g) (stack_left ms fs)) ≡ join (frame_left ms h) (stack_left ms new)
put_is ms fs new g h cs e k = ap (λ u. join (opened_at ms h.at cs) u) (sym (stack_behind ms fs g new e)) ∙ ap (λ xs. join (opened_at ms h.at xs) (stack_left ms new)) (sym k)

pub smaller_put : (t u v : Trace) (fs new : List Frame) (g : Frame) → visits u < visits t → u ≡ v → new ≡ fs ++ g ∷ [] → 2 * visits v + length new < 2 * visits t + length fs
smaller_put t u v fs new g l e h = omega (arith, l, ap visits e, ap (λ (xs : List Frame). length xs) h, length-append fs (g ∷ []))
