-- Plain paths: what their accessors give of a node, and how a trace is gone through.
use Rattle.std.specs.Borrow.{Bor}
use Rattle.std.specs.Int.{int_min, int_max}
use Rattle.std.specs.Prelude.{◌≤ℤ◌, int_le, if◌then◌else◌}
use Rattle.std.proofs.Common.{◌≡◌, ℕ, zero, suc, ◌+◌, ◌-◌, ◌<◌, ◌≤◌, pos, ◌-ℤ◌, List, [], ◌∷◌, ◌++◌, take, drop, get_or, length, Bool, true, false, ◌&&◌, Some, ap, sym, ◌∙◌, refl, arith}
use Rattle.std.proofs.lemmas.Int.{ints}
use Rattle.std.proofs.lemmas.List.{take_all}
use Rattle.sj_base.specs.Count.{raised}
use Rattle.sj_json.specs.Tree.{Tree, children, Child as JsonChild, numbered, NumberedChild}
use Rattle.sj_doc.specs.Keyed.{from_key}
use Rattle.sj_doc.specs.Kinds.{kind_of}
use Rattle.sj_doc.specs.declared.doc.NodeRef.{NodeRef}
use Rattle.sj_doc.specs.declared.node.Kind.{Kind}
use Rattle.sj_doc.specs.declared.node.Kind.TheVariants as kinds
use Rattle.sj_path_tree.specs.Tree as t
use Rattle.sj_path_tree.specs.declared.parts.Mode.TheVariants.{Lax}
use Rattle.sj_item.specs.Items.{ItemValue, item_tree, node}
use Rattle.sj_step.specs.Trace.{Trace, stop, visit, only, after_visits, join, each}
use Rattle.sj_step.specs.Reach.{reach, on_kind, by_key, all_elements, by_range, unwrapped, unwrap, range_of_one}
use Rattle.sj_step.proofs.Traces.{join-after_visits, join-stop, join_assoc, each-after_visits, each_assoc}
use Rattle.sj_step.proofs.Lasts.{length-numbered}
use Rattle.sj_step.proofs.Ranges.{lax_range_stops, lax_range_goes}
use Rattle.sj_step.proofs.Runs.{run, run_between, run_skip, run_give}
use Rattle.sj_plain_path.specs.Openings.{opened}
use Rattle.sj_plain_path.specs.Takers.{Taken, with_item, suffices, taken_of, taking_cost}
use Rattle.sj_plain_path.specs.Chains.{accessor, accessed, member_under, below, under, over, throughout, element, elements_of, node_value, Reaches, Sought, Seeking}
use Rattle.sj_plain_path.specs.declared.opening.Opening.{Opening}
use Rattle.sj_plain_path.specs.declared.opening.Opening.TheVariants.{AsItIs, Unwrapped}
use Rattle.sj_plain_path.specs.declared.chain.Link.{Link}
use Rattle.sj_plain_path.specs.declared.chain.Link.TheVariants as links
use Rattle.sj_plain_path.proofs.NotUnwrapped.{unopened}
use Rattle.sj_plain_path.proofs.UnderKeys.{without_members, members_under, members_first, members_none}
use Rattle.sj_plain_path.proofs.Takers.{taken-after_visits, taking-after_visits}

abbrev Key : Type 0
Key = Bor (List ℕ)

-- ---- the first accessor and the others, and the last one

pub first_rest : (ls : List Link) (d l : Link) → 1 ≤ length ls → get_or ls 0 d ≡ l → ls ≡ l ∷ take (length ls - 1) (drop 1 ls)
first_rest [] d l some e = absurd (omega arith)
first_rest (x ∷ ls) d l some e = ap (λ (y : Link). y ∷ ls) e ∙ ap (λ (rest : List Link). l ∷ rest) (sym (take_all (length (x ∷ ls) - 1) ls (omega arith)))

pub first_only : (ls : List Link) (d l : Link) → length ls ≡ 1 → get_or ls 0 d ≡ l → ls ≡ l ∷ []
first_only [] d l one e = absurd (omega (arith, one))
first_only (x ∷ []) d l one e = ap (λ (y : Link). y ∷ []) e
first_only (x ∷ y ∷ ls) d l one e = absurd (omega (arith, one))

first_two : (ls : List Link) (d e l m : Link) → length ls ≡ 2 → get_or ls 0 d ≡ l → get_or ls 1 e ≡ m → ls ≡ l ∷ m ∷ []
first_two [] d e l m two a b = absurd (omega (arith, two))
first_two (x ∷ []) d e l m two a b = absurd (omega (arith, two))
first_two (x ∷ y ∷ []) d e l m two a b = ap (λ (u : Link). u ∷ y ∷ []) a ∙ ap (λ (u : Link). l ∷ u ∷ []) b
first_two (x ∷ y ∷ z ∷ ls) d e l m two a b = absurd (omega (arith, two))

pub link_behind : (e : t.Expr) (ls : List Link) (l : Link) → accessed e (ls ++ (l ∷ [])) ≡ t.Access (accessed e ls) (accessor l)
link_behind e [] l = refl
link_behind e (x ∷ ls) l = link_behind (t.Access e (accessor x)) ls l

-- ---- one accessor on a node

pub under_none : (how : Opening) (key : List ℕ) (rest : List Link) (i : ℕ) (tree : Tree) → (kind_of tree ≡ kinds.Object → ⊥) → under how key rest (node i tree) ≡ stop
unfolding reach
under_none how key rest i tree other = ap (λ u. each u (below how rest)) (without_members (kind_of tree) key (node i tree) other)

abbrev pub keyed : Opening → List ℕ → List Link → List NumberedChild → Trace
keyed how key rest cs = members_under key (below how rest) cs

pub under_object : (how : Opening) (key : List ℕ) (rest : List Link) (i : ℕ) (tree : Tree) → kind_of tree ≡ kinds.Object → under how key rest (node i tree) ≡ keyed how key rest (numbered (i + 1) (children tree))
unfolding reach
under_object how key rest i tree e = ap (λ k. each (on_kind k (by_key key) Lax (node i tree)) (below how rest)) e

-- ---- an array, and another item

unwrapped_below : (how : Opening) (key : Key) (rest : List Link) (x : ItemValue) → below how (links.Member key ∷ rest) x ≡ each (unwrap Lax x) (under how key.now rest)
unwrapped_below how key rest x = each_assoc (unwrap Lax x) (reach (by_key key.now) Lax) (below how rest)

pub member_array : (how : Opening) (key : Key) (rest : List Link) (i : ℕ) (tree : Tree) → kind_of tree ≡ kinds.Array
    → below how (links.Member key ∷ rest) (node i tree) ≡ over how key.now rest (numbered (i + 1) (children tree))
unfolding reach
member_array how key rest i tree e =
    unwrapped_below how key rest (node i tree) ∙ ap (λ k. each (on_kind k unwrapped Lax (node i tree)) (under how key.now rest)) e

pub member_other : (how : Opening) (key : Key) (rest : List Link) (i : ℕ) (tree : Tree) → (kind_of tree ≡ kinds.Array → ⊥)
    → below how (links.Member key ∷ rest) (node i tree) ≡ under how key.now rest (node i tree)
member_other how key rest i tree other =
    unwrapped_below how key rest (node i tree)
    ∙ ap (λ u. each u (under how key.now rest)) (unopened Lax (node i tree) other)
    ∙ join-stop (under how key.now rest (node i tree))

pub member_object : (how : Opening) (key : Key) (rest : List Link) (i : ℕ) (tree : Tree) → kind_of tree ≡ kinds.Object
    → below how (links.Member key ∷ rest) (node i tree) ≡ under how key.now rest (node i tree)
member_object how key rest i tree e = member_other how key rest i tree (λ array. absurd (cc))

-- two accessors, each of members
pub two_members : (how : Opening) (ls : List Link) (d e : Link) (outer inner : Key) (x : ItemValue)
    → how ≡ AsItIs → length ls ≡ 2 → get_or ls 0 d ≡ links.Member outer → get_or ls 1 e ≡ links.Member inner
    → below how ls x ≡ below AsItIs (member_under outer.now ∷ member_under inner.now ∷ []) x
two_members how ls d e outer inner x h two a b =
    ap (λ (o : Opening). below o ls x) h ∙ ap (λ (us : List Link). below AsItIs us x) (first_two ls d e (links.Member outer) (links.Member inner) two a b)

pub elements_array : (how : Opening) (rest : List Link) (i : ℕ) (tree : Tree) → kind_of tree ≡ kinds.Array
    → below how (links.AllElements ∷ rest) (node i tree) ≡ throughout how rest (numbered (i + 1) (children tree))
unfolding reach
elements_array how rest i tree e = ap (λ k. each (on_kind k all_elements Lax (node i tree)) (below how rest)) e

kind_itself : (k : Kind) (x : ItemValue) → (k ≡ kinds.Array → ⊥) → on_kind k all_elements Lax x ≡ only x
kind_itself kinds.Null x other = refl
kind_itself kinds.Truth x other = refl
kind_itself kinds.Number x other = refl
kind_itself kinds.String x other = refl
kind_itself kinds.Array x other = absurd (other refl)
kind_itself kinds.Object x other = refl

pub all_itself : (x : ItemValue) → (kind_of (item_tree x) ≡ kinds.Array → ⊥) → reach all_elements Lax x ≡ only x
unfolding reach
all_itself x other = kind_itself (kind_of (item_tree x)) x other

pub elements_other : (how : Opening) (rest : List Link) (i : ℕ) (tree : Tree) → (kind_of tree ≡ kinds.Array → ⊥)
    → below how (links.AllElements ∷ rest) (node i tree) ≡ below how rest (node i tree)
elements_other how rest i tree other =
    ap (λ u. each u (below how rest)) (all_itself (node i tree) other) ∙ join-stop (below how rest (node i tree))

index_array : (index : ℕ) (i : ℕ) (tree : Tree) → kind_of tree ≡ kinds.Array
    → reach (by_range (pos index) (pos index)) Lax (node i tree) ≡ element index (numbered (i + 1) (children tree))
unfolding reach
index_array index i tree e = ap (λ k. on_kind k (by_range (pos index) (pos index)) Lax (node i tree)) e

kind_at_first : (k : Kind) (x : ItemValue) → (k ≡ kinds.Array → ⊥) → on_kind k (by_range (pos 0) (pos 0)) Lax x ≡ only x
kind_at_first kinds.Null x other = refl
kind_at_first kinds.Truth x other = refl
kind_at_first kinds.Number x other = refl
kind_at_first kinds.String x other = refl
kind_at_first kinds.Array x other = absurd (other refl)
kind_at_first kinds.Object x other = refl

pub first_itself : (index : ℕ) (x : ItemValue) → (kind_of (item_tree x) ≡ kinds.Array → ⊥) → index ≡ 0 → reach (by_range (pos index) (pos index)) Lax x ≡ only x
unfolding reach
first_itself index x other e = ap (λ n. reach (by_range (pos n) (pos n)) Lax x) e ∙ kind_at_first (kind_of (item_tree x)) x other

pub index_first : (how : Opening) (index : ℕ) (rest : List Link) (i : ℕ) (tree : Tree) → (kind_of tree ≡ kinds.Array → ⊥) → index ≡ 0
    → below how (links.Element index ∷ rest) (node i tree) ≡ below how rest (node i tree)
index_first how index rest i tree other e =
    ap (λ u. each u (below how rest)) (first_itself index (node i tree) other e) ∙ join-stop (below how rest (node i tree))

not_first : (index : ℕ) (x : ItemValue) → (index ≡ 0 → ⊥) → range_of_one Lax (pos index) (pos index) x ≡ stop
not_first index x some =
    let behind : int_le (pos index) (pos 0) ≡ false = grind (arith, ints) in
    ap (λ (b : Bool). if b && int_le (pos 0) (pos index) then only x else stop) behind

kind_behind_first : (k : Kind) (index : ℕ) (x : ItemValue) → (k ≡ kinds.Array → ⊥) → (index ≡ 0 → ⊥) → on_kind k (by_range (pos index) (pos index)) Lax x ≡ stop
kind_behind_first kinds.Null index x other some = not_first index x some
kind_behind_first kinds.Truth index x other some = not_first index x some
kind_behind_first kinds.Number index x other some = not_first index x some
kind_behind_first kinds.String index x other some = not_first index x some
kind_behind_first kinds.Array index x other some = absurd (other refl)
kind_behind_first kinds.Object index x other some = not_first index x some

pub none_behind_first : (index : ℕ) (x : ItemValue) → (kind_of (item_tree x) ≡ kinds.Array → ⊥) → (index ≡ 0 → ⊥) → reach (by_range (pos index) (pos index)) Lax x ≡ stop
unfolding reach
none_behind_first index x other some = kind_behind_first (kind_of (item_tree x)) index x other some

pub index_none : (how : Opening) (index : ℕ) (rest : List Link) (i : ℕ) (tree : Tree) → (kind_of tree ≡ kinds.Array → ⊥) → (index ≡ 0 → ⊥)
    → below how (links.Element index ∷ rest) (node i tree) ≡ stop
index_none how index rest i tree other some = ap (λ u. each u (below how rest)) (none_behind_first index (node i tree) other some)

pub opened_array : (how : Opening) (i : ℕ) (tree : Tree) → how ≡ Unwrapped → kind_of tree ≡ kinds.Array → opened how Lax (node i tree) ≡ elements_of (numbered (i + 1) (children tree))
unfolding reach
opened_array how i tree h e = rw h (ap (λ k. on_kind k unwrapped Lax (node i tree)) e)

pub opened_other : (how : Opening) (i : ℕ) (tree : Tree) → how ≡ Unwrapped → (kind_of tree ≡ kinds.Array → ⊥) → opened how Lax (node i tree) ≡ only (node i tree)
opened_other how i tree h other = rw h (unopened Lax (node i tree) other)

pub opened_as_it_is : (how : Opening) (x : ItemValue) → how ≡ AsItIs → opened how Lax x ≡ only x
opened_as_it_is how x h = rw h refl

-- ---- the element at an index

pub element_short : (index i : ℕ) (ks : List JsonChild) → length ks ≤ index → element index (numbered i ks) ≡ stop
element_short index i ks short =
    lax_range_stops (pos index) (pos index) (int_max (pos index) (pos 0)) (int_min (pos index) (pos (length ks) -ℤ pos 1)) i ks refl refl (grind (arith, ints))

pub element_run : (index i : ℕ) (ks : List JsonChild) → index < length ks → element index (numbered i ks) ≡ run index 1 (numbered i ks)
element_run index i ks long =
    let start : pos index ≡ int_max (pos index) (pos 0) = grind (arith, ints) in
    let end : pos index ≡ int_min (pos index) (pos (length ks) -ℤ pos 1) = grind (arith, ints) in
    let ordered : pos index ≤ℤ pos index = grind (arith, ints) in
    let one : (index + 1) - index ≡ 1 = omega arith in
    lax_range_goes (pos index) (pos index) (pos index) (pos index) i ks start end ordered
    ∙ sym (run_between index (index + 1) (numbered i ks) (rw length-numbered (omega arith)))
    ∙ ap (λ count. run index count (numbered i ks)) one

pub index_short : (how : Opening) (index : ℕ) (rest : List Link) (i : ℕ) (tree : Tree) → kind_of tree ≡ kinds.Array → element index (numbered (i + 1) (children tree)) ≡ stop
    → below how (links.Element index ∷ rest) (node i tree) ≡ stop
index_short how index rest i tree array short = ap (λ u. each u (below how rest)) (index_array index i tree array ∙ short)

pub element_found : (index i : ℕ) (ks : List JsonChild) (all : List NumberedChild) (t : Trace) → index < length ks → all ≡ numbered i ks → run index 1 all ≡ t → element index (numbered i ks) ≡ t
element_found index i ks all t long e is = element_run index i ks long ∙ sym (ap (run index 1) e) ∙ is

after_visit : (n : ℕ) (t : Trace) → after_visits n (visit t) ≡ after_visits (suc n) t
after_visit zero t = refl
after_visit (suc n) t = ap visit (after_visit n t)

-- so many elements are still to be handed out before the one at an index
pub record Ahead (index before : ℕ) (all cs : List NumberedChild) (steps later : ℕ) : Type 0 where
  pub long : before < length cs
  pub at_most : before ≤ index
  pub ahead : run index 1 all ≡ after_visits (index - before) (run before 1 cs)
  pub costs : later ≡ raised steps (index - before)

pub ahead_from : (index : ℕ) (cs : List NumberedChild) (a : ℕ) → index < length cs → Ahead index index cs cs a a
ahead_from index cs a long =
    let none : 0 ≡ index - index = omega arith in
    record {
      long = long;
      at_most = omega arith;
      ahead = ap (λ n. after_visits n (run index 1 cs)) none;
      costs = omega arith;
    }

pub ahead_next : (index before : ℕ) (all : List NumberedChild) (c : NumberedChild) (cs ds : List NumberedChild) (a b later : ℕ)
    → Ahead index before all cs a b → cs ≡ c ∷ ds → 0 < before → later ≡ raised b 1 → Ahead index (before - 1) all ds a later
ahead_next index before all c cs ds a b later k e more step =
    let one : suc (index - before) ≡ index - (before - 1) = omega (arith, k.at_most) in
    record {
      long = omega (arith, k.long, ap (λ (xs : List NumberedChild). length xs) e);
      at_most = omega (arith, k.at_most);
      ahead =
          k.ahead
          ∙ ap (λ (xs : List NumberedChild). after_visits (index - before) (run before 1 xs)) e
          ∙ ap (after_visits (index - before)) (run_skip before 1 c ds more)
          ∙ after_visit (index - before) (run (before - 1) 1 ds)
          ∙ ap (λ n. after_visits n (run (before - 1) 1 ds)) one;
      costs = omega (arith, k.costs, k.at_most);
    }

-- the next one was the one at the index
pub record IsHere (index : ℕ) (all : List NumberedChild) (x : ItemValue) (steps later : ℕ) : Type 0 where
  pub ahead : run index 1 all ≡ after_visits (index + 1) (only x)
  pub costs : later ≡ raised steps (index + 1)

pub ahead_here : (index before : ℕ) (all : List NumberedChild) (c : NumberedChild) (cs ds : List NumberedChild) (a b later : ℕ)
    → Ahead index before all cs a b → cs ≡ c ∷ ds → before ≡ 0 → later ≡ raised b 1 → IsHere index all (node c.1 c.2) a later
ahead_here index before all c cs ds a b later k e none step =
    let all_before : index - before ≡ index = omega (arith, none) in
    let one : suc index ≡ index + 1 = omega arith in
    record {
      ahead =
          k.ahead
          ∙ ap (λ n. after_visits n (run before 1 cs)) all_before
          ∙ ap (λ n. after_visits index (run n 1 cs)) none
          ∙ ap (λ (xs : List NumberedChild). after_visits index (run 0 1 xs)) e
          ∙ ap (after_visits index) (run_give 0 1 c ds (omega arith) (omega arith))
          ∙ after_visit index (only (node c.1 c.2))
          ∙ ap (λ n. after_visits n (only (node c.1 c.2))) one;
      costs = omega (arith, k.costs, none);
    }

-- ---- going through a trace

module _ (f : Taken) where
  pub seeking_from : (t : Trace) (a : ℕ) → Seeking f t f t a a
  seeking_from t a = record { same = λ w. refl; costs = λ w. omega arith }

  pub seeking_visits : (n : ℕ) (t u : Trace) (g : Taken) (a b c : ℕ) → Seeking f t g (after_visits n u) a b → c ≡ raised b n → Seeking f t g u a c
  seeking_visits n t u g a b c k e = record {
    same = λ w. sym (ap (taken_of g) (join-after_visits n u w) ∙ taken-after_visits g n (join u w)) ∙ k.same w;
    costs = λ w. omega (arith, e, ap (taking_cost g) (join-after_visits n u w), taking-after_visits g n (join u w), k.costs w);
  }

  pub seeking_over : (t p u : Trace) (g h : Taken) (a b c : ℕ) → Seeking f t g (join p u) a b → Sought g p h false b c → Seeking f t h u a c
  seeking_over t p u g h a b c k s = record {
    same = λ w. sym (s.finds (join u w)) ∙ sym (ap (taken_of g) (join_assoc p u w)) ∙ k.same w;
    costs = λ w. omega (arith, s.costs (join u w), ap (taking_cost g) (join_assoc p u w), k.costs w);
  }

  pub seeking_enough : (t p u : Trace) (g h : Taken) (a b c : ℕ) → Seeking f t g (join p u) a b → Sought g p h true b c → Sought f t h true a c
  seeking_enough t p u g h a b c k s = record {
    finds = λ w. sym (k.same w) ∙ ap (taken_of g) (join_assoc p u w) ∙ s.finds (join u w);
    costs = λ w. omega (arith, s.costs (join u w), ap (taking_cost g) (join_assoc p u w), k.costs w);
  }

  pub seeking_end : (t : Trace) (g : Taken) (a b : ℕ) → Seeking f t g stop a b → Sought f t g false a b
  seeking_end t g a b k = record { finds = λ w. sym (k.same w); costs = λ w. k.costs w }

  pub sought_none : (t : Trace) (a : ℕ) → t ≡ stop → Sought f t f false a a
  sought_none t a e = rw e (record { finds = λ w. refl; costs = λ w. omega arith })

  pub sought_behind : (k : ℕ) (t : Trace) (g : Taken) (enough : Bool) (a b later : ℕ) → b ≡ raised a k → Sought f t g enough b later → Sought f (after_visits k t) g enough a later
  sought_behind k t g enough a b later e s = record {
    finds = λ w. ap (taken_of f) (join-after_visits k t w) ∙ taken-after_visits f k (join t w) ∙ s.finds w;
    costs = λ w. omega (arith, e, ap (taking_cost f) (join-after_visits k t w), taking-after_visits f k (join t w), s.costs w);
  }

  pub sought_item : (x : ItemValue) (g : Taken) (enough : Bool) (a : ℕ) → g ≡ with_item f x → enough ≡ suffices g → Sought f (only x) g enough a a
  sought_item x g enough a e h = rw (h, e) (record { finds = λ w. refl; costs = λ w. omega arith })

-- ---- one turn

module _ (f g : Taken) where
  pub sought_same : (t u : Trace) (enough : Bool) (a b : ℕ) → Sought f u g enough a b → t ≡ u → Sought f t g enough a b
  sought_same t u enough a b s e = rw e s

  -- an element is taken, and no element is left
  pub element_taken : (t : Trace) (c : NumberedChild) (cs ds : List NumberedChild) (a b later : ℕ)
      → Seeking f t g (elements_of cs) a b → cs ≡ c ∷ ds → later ≡ raised b 1 → Seeking f t g (join (only (node c.1 c.2)) (elements_of ds)) a later
  element_taken t c cs ds a b later k e step = seeking_visits f 1 t _ g a b later (rw e at k) step

  pub elements_taken : (t : Trace) (cs : List NumberedChild) (a b later : ℕ)
      → Seeking f t g (elements_of cs) a b → cs ≡ [] → later ≡ b → Sought f t g false a later
  elements_taken t cs a b later k e step = rw step (seeking_end f t g a b (rw e at k))

  -- an element is gone into, and no element is left
  pub element_next : (t : Trace) (within : ItemValue → Trace) (c : NumberedChild) (cs ds : List NumberedChild) (a b later : ℕ)
      → Seeking f t g (each (elements_of cs) within) a b → cs ≡ c ∷ ds → later ≡ raised b 1 → Seeking f t g (join (within (node c.1 c.2)) (each (elements_of ds) within)) a later
  element_next t within c cs ds a b later k e step = seeking_visits f 1 t _ g a b later (rw e at k) step

  pub elements_over : (t : Trace) (within : ItemValue → Trace) (cs : List NumberedChild) (a b later : ℕ)
      → Seeking f t g (each (elements_of cs) within) a b → cs ≡ [] → later ≡ b → Sought f t g false a later
  elements_over t within cs a b later k e step = rw step (seeking_end f t g a b (rw e at k))

module _ (how : Opening) (f g : Taken) where
  -- an accessor is the first
  pub sought_first : (ls rest : List Link) (l : Link) (x : ItemValue) (u : Trace) (enough : Bool) (a b : ℕ)
      → Sought f u g enough a b → ls ≡ l ∷ rest → below how (l ∷ rest) x ≡ u → Sought f (below how ls x) g enough a b
  sought_first ls rest l x u enough a b s e is = sought_same f g _ _ enough a b s (ap (λ all. below how all x) e ∙ is)

  -- an array has the element at an index
  pub sought_element : (index : ℕ) (rest : List Link) (i : ℕ) (tree : Tree) (found : NodeRef) (enough : Bool) (a b later : ℕ)
      → kind_of tree ≡ kinds.Array → Reaches (element index (numbered (i + 1) (children tree))) (Some found) (index + 1) a b
      → Sought f (below how rest (node_value found)) g enough b later → Sought f (below how (links.Element index ∷ rest) (node i tree)) g enough a later
  sought_element index rest i tree found enough a b later array reaches s =
      sought_same f g _ _ enough a later (sought_behind f (index + 1) (below how rest (node_value found)) g enough a b later reaches.1 s)
      (ap (λ u. each u (below how rest)) (index_array index i tree array ∙ reaches.0)
      ∙ each-after_visits (index + 1) (only (node_value found)) (below how rest)
      ∙ ap (after_visits (index + 1)) (join-stop (below how rest (node_value found))))

  -- the accessors are at their end
  pub sought_here : (ls : List Link) (x : ItemValue) (enough : Bool) (a b : ℕ) → Sought f (opened how Lax x) g enough a b → ls ≡ [] → Sought f (below how ls x) g enough a b
  sought_here ls x enough a b s e = sought_same f g _ _ enough a b s (ap (λ rest. below how rest x) e)

  -- a member under the key is handed out, and none is left
  pub member_next : (t : Trace) (key : List ℕ) (rest : List Link) (c : NumberedChild) (cs ms : List NumberedChild) (a b later : ℕ)
      → Seeking f t g (keyed how key rest cs) a b → from_key key cs ≡ c ∷ ms → later ≡ raised b (length cs - length ms)
      → Seeking f t g (join (below how rest (node c.1 c.2)) (keyed how key rest ms)) a later
  member_next t key rest c cs ms a b later k e step = seeking_visits f (length cs - length ms) t _ g a b later (rw (members_first key (below how rest) c cs ms e) at k) step

  pub members_over : (t : Trace) (key : List ℕ) (rest : List Link) (cs ms : List NumberedChild) (a b later : ℕ)
      → Seeking f t g (keyed how key rest cs) a b → from_key key cs ≡ [] → ms ≡ [] → later ≡ raised b (length cs - length ms) → Sought f t g false a later
  members_over t key rest cs ms a b later k e none step =
      let all : length cs - length ms ≡ length cs = omega (arith, ap (λ (xs : List NumberedChild). length xs) none) in
      seeking_end f t g a later (seeking_visits f (length cs) t stop g a b later (rw (members_none key (below how rest) cs e) at k) (step ∙ ap (raised b) all))

  -- no member is left behind the last one
  pub member_last : (h : Taken) (t : Trace) (key : List ℕ) (rest : List Link) (p : Trace) (ms : List NumberedChild) (enough : Bool) (a b c : ℕ)
      → Seeking f t g (join p (keyed how key rest ms)) a b → ms ≡ [] → Sought g p h enough b c → Sought f t h enough a c
  member_last h t key rest p ms true a b c k none s = seeking_enough f t p (keyed how key rest ms) g h a b c k s
  member_last h t key rest p ms false a b c k none s =
      seeking_end f t h a c (seeking_over f t p stop g h a b c (rw none at k) s)
