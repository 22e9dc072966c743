-- What the calls of a builder keep.
use Rattle.std.proofs.Common.{◌≡◌, ℕ, suc, zero, ◌+◌, ◌-◌, ◌<◌, ◌≤◌, List, [], ◌∷◌, ◌++◌, length, take, drop, get_or, set, replicate, Bool, true, false, Option, Some, None, option_map, IfSome, Result, Ok, Err, OnOk, OnErr, MatchResult, refl, sym, ap, ap₂, ◌∙◌, subst, length-append, ⊎_elim, arith}
use Rattle.std.specs.List.{AllByRecursion}
use Rattle.std.specs.Str.{IsUtf8, IsAscii}
use Rattle.std.proofs.Math.ListN.{get_or-map}
use Rattle.std.proofs.lemmas.Option.{same_Some}
use Rattle.std.proofs.lemmas.Bool.{cases_lt}
use Rattle.std.proofs.lemmas.Str.{IsUtf8-append, IsUtf8-from_ascii, IsUtf8-nil}
use Rattle.std.proofs.lemmas.Str.Ascii.{IsAscii-nil, IsAscii-cons}
use Rattle.std.proofs.lemmas.List.{get_or-append_right, get_or-replicate, length-replicate, append-nil, length-map, map-append, map-set, set_at, get_or_at, take-append-drop, take-append-le, length-take-le, drop-append-le, take_at, drop_at, length-set, length-drop}
use Rattle.sj_decimal.specs.Shorts.{between}
use Rattle.sj_json.specs.Tree.{Tree, null, truth, string, number}
use Rattle.sj_json.specs.Cells.{Cell, string_cell, number_cell, closed, opened, Entry, layout, tree_of}
use Rattle.sj_json.specs.Building.{Part, top, elements, pairs, State, TakesValue, TakesKey, TakesClose, put, put_key, empty, with_value, with_key, with_open, put_option, with_close, fresh, IsComplete, part_entries, part_kids, part_key, is_object, laid, place, IsState, state_of}
use Rattle.sj_json.specs.Layouts.{tree_of-layout}
use Rattle.sj_json.proofs.Buildings.{seen, outer_state, kids-put, key-put, laid-put, place-put, state-put, closes, kids_le, outer_le, state-put_key, laid-put_key, key-put_key, place-put_key, kids-put_key, laid-empty, state-empty, key-empty, kids-empty}
use Rattle.sj_doc.specs.Limits.{most_nodes, text_bound}
use Rattle.sj_doc.specs.Kinds.{opens_object, want_of}
use Rattle.sj_doc.specs.declared.node.Want.{Want}
use Rattle.sj_doc.specs.declared.node.Want.TheVariants as wants
use Rattle.sj_doc.specs.declared.node.Body.{Body}
use Rattle.sj_doc.specs.declared.node.Body.TheVariants.{Null, Truth, Text, Numeral, Closed, Opened}
use Rattle.sj_doc.specs.declared.node.Node.{Node}
use Rattle.sj_doc.specs.declared.node.Span.{Span}
use Rattle.sj_json.specs.Links.{ups, part_ups, laid_ups}
use Rattle.sj_json.proofs.Links.{ups-put, ups-empty, ups-put_key, ups-close}
use Rattle.sj_json.proofs.Places.{length-layout_items, length-layout_members}
use Rattle.sj_doc.proofs.ParentLinks.{length-item_ups, length-member_ups}
use Rattle.sj_doc.specs.Nodes.{spelled, text_in, cell_of, entry_of, entries, IsLink, AreLinks, IsSpan, IsNumeral, IsBody, IsBelow, IsNode, IsDoc}
use Rattle.sj_doc.specs.declared.builder.OpenTree.{OpenTree}
use Rattle.sj_doc.specs.declared.builder.Innermost.{Innermost}
use Rattle.sj_doc.specs.declared.builder.Innermost.TheVariants as innermost
use Rattle.sj_doc.specs.Builders.{feeds_behind, held, line_in, IsCopied, EndsInFeeds, IsLine, Building, built, node_total, IsBuilder, IsOpenTree, built_tree, innermost_of, innermost_opened, IsInside, Opens, Tells, HasRoom, IsBetween, IsEmpty, Adds, Stays}

pub all_push : {X : Type 0} (P : X → Type 0) (xs : List X) (x : X) → AllByRecursion P xs → P x → AllByRecursion P (xs ++ x ∷ [])
all_push P [] x h p = (p, tt)
all_push P (y ∷ ys) x h p = (h.0, all_push P ys x h.1 p)

take_all : (x : List ℕ) → take (length x) x ≡ x
take_all x = ap (take (length x)) (sym (append-nil x)) ∙ take_at x [] (length x) refl

-- a node whose children, if it may have any, stand elsewhere
abbrev pub IsAlone : List ℕ → Tree → Body → Type 0
IsAlone a t body = (k : Option (List ℕ)) → layout k t ≡ (k, cell_of a 0 body) ∷ []

-- it has no children
abbrev pub IsLeaf : Tree → Type 0
IsLeaf t = (n : ℕ) → ups n t ≡ n ∷ []

-- it does not say how far it lies behind its parent
abbrev pub IsUnlinked : Body → Type 0
IsUnlinked body = (far : ℕ) → IsLink far body

links_push : (us : List ℕ) (ns : List Node) (u : ℕ) (n : Node) → AreLinks us ns → IsLink u n.body → AreLinks (us ++ u ∷ []) (ns ++ n ∷ [])
links_push [] [] u n h l = (l, tt)
links_push [] (m ∷ ns) u n h l = absurd h
links_push (v ∷ us) [] u n h l = absurd h
links_push (v ∷ us) (m ∷ ns) u n h l = (h.0, links_push us ns u n h.1 l)

links_set : (us : List ℕ) (ns : List Node) (i : ℕ) (n : Node) → AreLinks us ns → IsLink (get_or us i 0) n.body → AreLinks us (set ns i n)
links_set [] [] i n h l = tt
links_set [] (m ∷ ns) i n h l = absurd h
links_set (v ∷ us) [] i n h l = absurd h
links_set (v ∷ us) (m ∷ ns) zero n h l = (l, h.1)
links_set (v ∷ us) (m ∷ ns) (suc i) n h l = (h.0, links_set us ns i n h.1 l)

links_count : (us : List ℕ) (ns : List Node) → AreLinks us ns → length ns ≡ length us
links_count [] [] h = refl
links_count [] (m ∷ ns) h = absurd h
links_count (v ∷ us) [] h = absurd h
links_count (v ∷ us) (m ∷ ns) h = ap suc (links_count us ns h.1)

none_below : (body : Body) → IsBelow 0 body
none_below Null = refl
none_below (Truth b) = refl
none_below (Text s) = refl
none_below (Numeral s) = refl
none_below (Closed kind n up) = tt
none_below (Opened kind parent n) = refl

module _ (a : List ℕ) (ns : List Node) (key : Option Span) (inner count depth : ℕ) (b : IsBuilder a ns key inner count depth) where
  pub now_seen : built a ns key ≡ (b.part, b.outer)
  now_seen = ap (λ k. state_of k (entries a ns)) b.keyed ∙ ap (state_of (part_key b.part)) b.laid_out ∙ seen b.part b.outer b.shape

  pub total : length ns ≡ node_total (b.part, b.outer)
  total = sym (length-map ns (entry_of a)) ∙ ap length b.laid_out

module _ (a : List ℕ) (ns : List Node) (key : Option Span) (inner count depth : ℕ) (b : IsBuilder a ns key inner count depth) (s : State) (view : built a ns key ≡ s) where
  pub state_is : (b.part, b.outer) ≡ s
  state_is = sym (now_seen a ns key inner count depth b) ∙ view

  pub count_small : count ≤ length ns
  count_small = omega (arith, b.count_is, kids_le b.part b.outer, total a ns key inner count depth b)

  pub depth_small : depth ≤ length ns
  depth_small = omega (arith, b.depth_is, outer_le b.part b.outer, total a ns key inner count depth b)

  pub room_left : node_total s < most_nodes → length ns < most_nodes
  room_left h = subst (λ n. n < most_nodes) (ap node_total (sym state_is) ∙ sym (total a ns key inner count depth b)) h

  pub value_comes : (t : Tree) (body : Body) → TakesValue s.0 → node_total s < most_nodes → IsAlone a t body → IsLeaf t → IsBody a body → IsUnlinked body → (new : List Node) → new ≡ ns ++ record { key = key; below = 0; body = body } ∷ []
      → IsBuilder a new None inner (count + 1) depth × (built a new None ≡ with_value t s)
  value_comes t body wanted room alone single good unlinked new e =
      let took : TakesValue b.part = subst (λ (x : State). TakesValue x.0) (sym state_is) wanted in
      let node : Node = record { key = key; below = 0; body = body } in
      let far : ℕ = length (laid b.part b.outer) - place b.part b.outer in
      let free = room_left room in
      let out : entries a new ≡ laid (put t b.part) b.outer =
      ap (entries a) e ∙ map-append (entry_of a) ns (node ∷ []) ∙ ap (λ (x : List Entry). x ++ entries a (node ∷ [])) b.laid_out
      ∙ ap (λ (k : Option (List ℕ)). laid b.part b.outer ++ (k, cell_of a 0 body) ∷ []) b.keyed
      ∙ ap (λ (x : List Entry). laid b.part b.outer ++ x) (sym (alone (part_key b.part)))
      ∙ sym (laid-put t b.part b.outer took) in
      let after : IsBuilder a new None inner (count + 1) depth = record {
        part = put t b.part;
        outer = b.outer;
        shape = state-put t b.part b.outer b.shape;
        laid_out = out;
        linked = subst (AreLinks (laid_ups (put t b.part) b.outer)) (sym e)
            (subst (λ (us : List ℕ). AreLinks us (ns ++ node ∷ [])) (ap (λ (x : List ℕ). laid_ups b.part b.outer ++ x) (sym (single far)) ∙ sym (ups-put t b.part b.outer took b.shape))
            (links_push (laid_ups b.part b.outer) ns far node b.linked (unlinked far)));
        keyed = sym (key-put t b.part);
        inner_is = b.inner_is ∙ sym (place-put t b.part b.outer);
        count_is = omega (arith, b.count_is, kids-put t b.part took);
        depth_is = b.depth_is;
        fits = subst (AllByRecursion (IsNode a)) (sym e) (all_push (IsNode a) ns node b.fits (b.key_fits, good, none_below body));
        key_fits = tt;
        small = omega (arith, ap length e, length-append ns (node ∷ []));
        narrow = b.narrow;
      } in
      (after, now_seen a new None inner (count + 1) depth after ∙ ap (with_value t) state_is)

  -- a key comes
  pub key_comes : (k : Span) → TakesKey s.0 → IsSpan a k → IsBuilder a ns (Some k) inner count depth × (built a ns (Some k) ≡ with_key (text_in a k) s)
  key_comes k wanted good =
      let wants : TakesKey b.part = subst (λ (x : State). TakesKey x.0) (sym state_is) wanted in
      let after : IsBuilder a ns (Some k) inner count depth = record {
        part = put_key (text_in a k) b.part;
        outer = b.outer;
        shape = state-put_key (text_in a k) b.part b.outer b.shape;
        laid_out = b.laid_out ∙ laid-put_key (text_in a k) b.part b.outer;
        linked = subst (λ (us : List ℕ). AreLinks us ns) (ups-put_key (text_in a k) b.part b.outer) b.linked;
        keyed = sym (key-put_key (text_in a k) b.part wants);
        inner_is = b.inner_is ∙ place-put_key (text_in a k) b.part b.outer;
        count_is = b.count_is ∙ ap length (kids-put_key (text_in a k) b.part);
        depth_is = b.depth_is;
        fits = b.fits;
        key_fits = good;
        small = b.small;
        narrow = b.narrow;
      } in
      (after, now_seen a ns (Some k) inner count depth after ∙ ap (with_key (text_in a k)) state_is)

  -- a container opens
  pub opens : (kind : Bool) → TakesValue s.0 → node_total s < most_nodes → (new : List Node) → new ≡ ns ++ record { key = key; below = 0; body = Opened kind inner count } ∷ []
      → IsBuilder a new None (length ns) 0 (depth + 1) × (built a new None ≡ with_open kind s)
  opens kind wanted room new e =
      let took : TakesValue b.part = subst (λ (x : State). TakesValue x.0) (sym state_is) wanted in
      let node : Node = record { key = key; below = 0; body = Opened kind inner count } in
      let free = room_left room in
      let out : entries a new ≡ laid (empty kind) (b.part ∷ b.outer) =
      ap (entries a) e ∙ map-append (entry_of a) ns (node ∷ []) ∙ ap (λ (x : List Entry). x ++ entries a (node ∷ [])) b.laid_out
      ∙ ap (λ (k : Option (List ℕ)). laid b.part b.outer ++ (k, opened kind inner count) ∷ []) b.keyed
      ∙ ap (λ (i : ℕ). laid b.part b.outer ++ (part_key b.part, opened kind i count) ∷ []) b.inner_is
      ∙ ap (λ (n : ℕ). laid b.part b.outer ++ (part_key b.part, opened kind (place b.part b.outer) n) ∷ []) b.count_is
      ∙ sym (laid-empty kind b.part b.outer) in
      let after : IsBuilder a new None (length ns) 0 (depth + 1) = record {
        part = empty kind;
        outer = b.part ∷ b.outer;
        shape = state-empty kind b.part b.outer took b.shape;
        laid_out = out;
        linked = subst (AreLinks (laid_ups (empty kind) (b.part ∷ b.outer))) (sym e)
            (subst (λ (us : List ℕ). AreLinks us (ns ++ node ∷ [])) (sym (ups-empty kind b.part b.outer))
            (links_push (laid_ups b.part b.outer) ns (length (laid b.part b.outer) - place b.part b.outer) node b.linked tt));
        keyed = key-empty kind;
        inner_is = total a ns key inner count depth b;
        count_is = kids-empty kind;
        depth_is = omega (arith, b.depth_is);
        fits = subst (AllByRecursion (IsNode a)) (sym e) (all_push (IsNode a) ns node b.fits (b.key_fits, tt, refl));
        key_fits = tt;
        small = omega (arith, ap length e, length-append ns (node ∷ []));
        narrow = b.narrow;
      } in
      (after, now_seen a new None (length ns) 0 (depth + 1) after ∙ ap (with_open kind) state_is)

-- ---- the text grows

text-grown : (a x : List ℕ) (s : Span) → IsSpan a s → text_in (a ++ x) s ≡ text_in a s
text-grown a x s h =
    let within : s.start ≤ length a = omega arith in
    let enough : s.len ≤ length (drop s.start a) = omega (arith, length-drop s.start a) in
    ap (take s.len) (drop-append-le s.start a x within) ∙ take-append-le s.len (drop s.start a) x enough

span-grown : (a x : List ℕ) (s : Span) → IsSpan a s → IsSpan (a ++ x) s
span-grown a x s h = (omega (arith, length-append a x), subst IsUtf8 (sym (text-grown a x s h)) h.1)

-- what stood in a stands in b as well
pub record Grows (a : List ℕ) (b : List ℕ) : Type 0 where
  pub spans : (s : Span) → IsSpan a s → IsSpan b s
  pub texts : (s : Span) → IsSpan a s → text_in b s ≡ text_in a s

text_grows : (a x : List ℕ) → Grows a (a ++ x)
text_grows a x = record { spans = λ s h. span-grown a x s h; texts = λ s h. text-grown a x s h }

module _ (a b : List ℕ) (g : Grows a b) where
  key-grown : (k : Option Span) → IfSome k (IsSpan a) → option_map (text_in b) k ≡ option_map (text_in a) k
  key-grown None h = refl
  key-grown (Some s) h = ap Some (g.texts s h)

  key_fits-grown : (k : Option Span) → IfSome k (IsSpan a) → IfSome k (IsSpan b)
  key_fits-grown None h = tt
  key_fits-grown (Some s) h = g.spans s h

  cell-grown : (l : ℕ) (c : Body) → IsBody a c → cell_of b l c ≡ cell_of a l c
  cell-grown l Null h = refl
  cell-grown l (Truth x) h = refl
  cell-grown l (Text s) h = ap string_cell (g.texts s h)
  cell-grown l (Numeral s) h = ap (λ (x : List ℕ). number_cell (spelled x)) (g.texts s h.0)
  cell-grown l (Closed k n m) h = refl
  cell-grown l (Opened k n m) h = refl

  body-grown : (c : Body) → IsBody a c → IsBody b c
  body-grown Null h = tt
  body-grown (Truth x) h = tt
  body-grown (Text s) h = g.spans s h
  body-grown (Numeral s) h = (g.spans s h.0, subst IsNumeral (sym (g.texts s h.0)) h.1)
  body-grown (Closed k n m) h = tt
  body-grown (Opened k n m) h = tt

  entry-grown : (n : Node) → IsNode a n → entry_of b n ≡ entry_of a n
  entry-grown n h = ap (λ (k : Option (List ℕ)). (k, cell_of b n.below n.body)) (key-grown n.key h.0) ∙ ap (λ (c : Cell). (option_map (text_in a) n.key, c)) (cell-grown n.below n.body h.1)

  entries-grown : (ns : List Node) → AllByRecursion (IsNode a) ns → entries b ns ≡ entries a ns
  entries-grown [] h = refl
  entries-grown (n ∷ ns) h = ap (λ (e : Entry). e ∷ entries b ns) (entry-grown n h.0) ∙ ap (λ (es : List Entry). entry_of a n ∷ es) (entries-grown ns h.1)

  all-grown : (ns : List Node) → AllByRecursion (IsNode a) ns → AllByRecursion (IsNode b) ns
  all-grown [] h = tt
  all-grown (n ∷ ns) h = ((key_fits-grown n.key h.0.0, body-grown n.body h.0.1, h.0.2), all-grown ns h.1)

  grown_comes : (ns : List Node) (key : Option Span) (inner count depth : ℕ) → IsBuilder a ns key inner count depth → length b < text_bound
      → IsBuilder b ns key inner count depth × (built b ns key ≡ built a ns key)
  grown_comes ns key inner count depth m narrow =
      let grown : IsBuilder b ns key inner count depth = record {
        part = m.part;
        outer = m.outer;
        shape = m.shape;
        laid_out = entries-grown ns m.fits ∙ m.laid_out;
        linked = m.linked;
        keyed = key-grown key m.key_fits ∙ m.keyed;
        inner_is = m.inner_is;
        count_is = m.count_is;
        depth_is = m.depth_is;
        fits = all-grown ns m.fits;
        key_fits = key_fits-grown key m.key_fits;
        small = m.small;
        narrow = narrow;
      } in
      (grown, ap (λ k. state_of k (entries b ns)) (key-grown key m.key_fits) ∙ ap (state_of (option_map (text_in a) key)) (entries-grown ns m.fits))

-- the line stays where it is
pub line_kept : (a x new : List ℕ) (k : ℕ) → k ≤ length a → new ≡ a ++ x → (take k new ≡ take k a) × (k ≤ length new)
line_kept a x new k within e = (ap (take k) e ∙ take-append-le k a x within, omega (arith, ap length e, length-append a x, within))

-- the text grows
pub text_comes : (a : List ℕ) (ns : List Node) (key : Option Span) (inner count depth : ℕ) → IsBuilder a ns key inner count depth
    → (x new : List ℕ) → new ≡ a ++ x → length new < text_bound
    → IsBuilder new ns key inner count depth × (built new ns key ≡ built a ns key)
text_comes a ns key inner count depth b x new e small =
    let P : List ℕ → Type 0 = λ l. IsBuilder l ns key inner count depth × (built l ns key ≡ built a ns key) in
    subst P (sym e) (grown_comes a (a ++ x) (text_grows a x) ns key inner count depth b (subst (λ (l : List ℕ). length l < text_bound) e small))

-- the text that was put at the end
pub last_span : (a x new : List ℕ) (s : Span) → new ≡ a ++ x → IsUtf8 x → s.start ≡ length a → s.len ≡ length x → IsSpan new s × (text_in new s ≡ x)
last_span a x new s e good at long =
    let same : text_in new s ≡ x =
    ap (λ (l : List ℕ). text_in l s) e ∙ ap (take s.len) (drop_at a x s.start (sym at)) ∙ ap (λ (n : ℕ). take n x) long ∙ take_all x in
    ((omega (arith, ap length e, length-append a x), subst IsUtf8 (sym same) good), same)

-- what stands in the line
line_span : (a line : List ℕ) (k from to : ℕ) (s : Span) → take k a ≡ line → k ≤ length a → from ≤ to → to ≤ length line → s.start ≡ from → s.len ≡ to - from → IsUtf8 (between line from to)
    → IsSpan a s × (text_in a s ≡ between line from to)
line_span a line k from to s is within later inside start long good =
    let here : text_in line s ≡ between line from to = ap (λ (i : ℕ). take s.len (drop i line)) start ∙ ap (λ (n : ℕ). take n (drop from line)) long in
    let span : IsSpan line s = (omega (arith, start, long), subst IsUtf8 (sym here) good) in
    let whole : a ≡ line ++ drop k a = sym (take-append-drop k a) ∙ ap (λ (x : List ℕ). x ++ drop k a) is in
    (subst (λ (x : List ℕ). IsSpan x s) (sym whole) (span-grown line (drop k a) s span), ap (λ (x : List ℕ). text_in x s) whole ∙ text-grown line (drop k a) s span ∙ here)

-- it has places of 32 bits
line_room : (a line : List ℕ) (k : ℕ) → take k a ≡ line → k ≤ length a → length a < text_bound → length line < text_bound
line_room a line k is within small = omega (arith, ap length (sym is), length-take-le k a within)

-- ---- what is seen of a builder

pub state_seen : {x y : Building} → x ≡ y → x.0 ≡ y.0
state_seen e = ap (λ (z : Building). z.0) e

pub line_seen : {x y : Building} → x ≡ y → x.1 ≡ y.1
line_seen e = ap (λ (z : Building). z.1) e

pub both_seen : {s t : State} {a b : List ℕ} → s ≡ t → a ≡ b → ◌≡◌ {A = Building} (s, a) (t, b)
both_seen e f = ap₂ (λ (s : State) (a : List ℕ). (s, a)) e f

-- ---- a node comes last

-- what holds of the fields holds of a tree that has them
same_fields : (P : List Node → Option Span → ℕ → ℕ → ℕ → Type 0) (u : OpenTree) (ns : List Node) (k : Option Span) (i n d : ℕ)
    → u.nodes.items ≡ ns → u.key ≡ k → u.inner ≡ i → u.count ≡ n → u.depth ≡ d → P ns k i n d → P u.nodes.items u.key u.inner u.count u.depth
same_fields P u ns k i n d e f g h j p =
    subst (λ (x : List Node). P x u.key u.inner u.count u.depth) (sym e)
    (subst (λ (x : Option Span). P ns x u.inner u.count u.depth) (sym f)
    (subst (λ (x : ℕ). P ns k x u.count u.depth) (sym g)
    (subst (λ (x : ℕ). P ns k i x u.depth) (sym h)
    (subst (λ (x : ℕ). P ns k i n x) (sym j) p))))

place_within : (p : Part) (qs : List Part) → place p qs ≤ length (laid p qs)
place_within p [] = omega arith
place_within p (q ∷ qs) = omega (arith, length-append (laid q qs) ((part_key q, opened (is_object p) (place q qs) (length (part_kids q))) ∷ part_entries p))

-- the value that a scalar stands for
abbrev pub scalar_of : List ℕ → Body → Option Tree
scalar_of a Null = Some null
scalar_of a (Truth b) = Some (truth b)
scalar_of a (Text s) = Some (string (text_in a s))
scalar_of a (Numeral s) = Some (number (spelled (text_in a s)))
scalar_of a (Closed kind n up) = None
scalar_of a (Opened kind parent n) = None

scalar_alone : (a : List ℕ) (body : Body) (v : Tree) → scalar_of a body ≡ Some v → IsAlone a v body × IsLeaf v × IsUnlinked body
scalar_alone a Null v e = subst (λ (t : Tree). IsAlone a t Null × IsLeaf t × IsUnlinked Null) (same_Some _ _ e) (λ k. refl, λ n. refl, λ n. tt)
scalar_alone a (Truth b) v e = subst (λ (t : Tree). IsAlone a t (Truth b) × IsLeaf t × IsUnlinked (Truth b)) (same_Some _ _ e) (λ k. refl, λ n. refl, λ n. tt)
scalar_alone a (Text s) v e = subst (λ (t : Tree). IsAlone a t (Text s) × IsLeaf t × IsUnlinked (Text s)) (same_Some _ _ e) (λ k. refl, λ n. refl, λ n. tt)
scalar_alone a (Numeral s) v e = subst (λ (t : Tree). IsAlone a t (Numeral s) × IsLeaf t × IsUnlinked (Numeral s)) (same_Some _ _ e) (λ k. refl, λ n. refl, λ n. tt)
scalar_alone a (Closed kind n up) v e = cc
scalar_alone a (Opened kind parent n) v e = cc

-- the fields of a builder with this text, whose line has k bytes, stand for b
abbrev pub Stands : List ℕ → ℕ → OpenTree → Building → Type 0
Stands a k t b = (IsOpenTree a t × IsLine a k × IsInside a t) × (◌≡◌ {A = Building} (built_tree a t, take k a) b)

-- what the innermost container is follows from what is seen
inside_seen : {i j : Innermost} {x s : State} → i ≡ j → j ≡ innermost_of s.0 → x ≡ s → i ≡ innermost_of x.0
inside_seen e f g = e ∙ f ∙ ap (λ (y : State). innermost_of y.0) (sym g)

inside-put : (t : Tree) (p : Part) → innermost_of p ≡ innermost_of (put t p)
inside-put t (top o) = refl
inside-put t (elements ts) = refl
inside-put t (pairs ms k) = refl

inside-put_key : (x : List ℕ) (p : Part) → innermost_of p ≡ innermost_of (put_key x p)
inside-put_key x (top o) = refl
inside-put_key x (elements ts) = refl
inside-put_key x (pairs ms k) = refl

inside-empty : (kind : Bool) → innermost_opened kind ≡ innermost_of (empty kind)
inside-empty false = refl
inside-empty true = refl

-- the value v came, or nothing changed
abbrev pub Comes : List ℕ → ℕ → OpenTree → Building → Tree → {E : Type 0} → Result (Unit {0}) E → Type 0
Comes a k u b v r = MatchResult r (λ x. Stands a k u (with_value v b.0, b.1)) (λ e. Stands a k u b)

module _ (a : List ℕ) (k : ℕ) (t : OpenTree) (b : Building) (now : Stands a k t b) where
  pub text_stored : (x new : List ℕ) → new ≡ a ++ x → length new < text_bound → Stands new k t b
  text_stored x new e small =
      let g = text_comes a t.nodes.items t.key t.inner t.count t.depth now.0.0 x new e small in
      let line = line_kept a x new k now.0.1.within e in
      let kept : IsLine new k = record { within = line.1; utf8 = subst IsUtf8 (sym line.0) now.0.1.utf8; feeds = subst EndsInFeeds (sym line.0) now.0.1.feeds } in
      ((g.0, kept, inside_seen refl now.0.2 g.1), both_seen (g.1 ∙ state_seen now.1) (line.0 ∙ line_seen now.1))

  pub line_narrow : length b.1 < text_bound
  line_narrow = line_room a b.1 k (line_seen now.1) now.0.1.within now.0.0.narrow

  inside_now : t.innermost ≡ innermost_of b.0.0
  inside_now = now.0.2 ∙ ap (λ (y : State). innermost_of y.0) (state_seen now.1)

  -- what stands in the line from the one place up to the other
  pub line_range : (from to : ℕ) → (from ≤ to) × (to ≤ length b.1) → IsUtf8 (between b.1 from to) → (s : Span) → IsBetween from to s → IsSpan a s × (text_in a s ≡ between b.1 from to)
  line_range from to within good s ends = line_span a b.1 k from to s (line_seen now.1) now.0.1.within within.0 within.1 ends.start ends.len good

  pub key_given : (s : Span) → TakesKey b.0.0 → IsSpan a s → (x : List ℕ) → text_in a s ≡ x
      → (IsBuilder a t.nodes.items (Some s) t.inner t.count t.depth × IsLine a k × (t.innermost ≡ innermost_of (built a t.nodes.items (Some s)).0)) × (◌≡◌ {A = Building} (built a t.nodes.items (Some s), take k a) (with_key x b.0, b.1))
  key_given s wanted good x same =
      let g = key_comes a t.nodes.items t.key t.inner t.count t.depth now.0.0 b.0 (state_seen now.1) s wanted good in
      let view = g.1 ∙ ap (λ (y : List ℕ). with_key y b.0) same in
      ((g.0, now.0.1, inside_seen (inside_now) (inside-put_key x b.0.0) view), both_seen view (line_seen now.1))

  stays : (u : OpenTree) → Stays t u → Stands a k u b
  stays u h =
      let p = same_fields (λ ns l i n d. (IsBuilder a ns l i n d × IsLine a k) × (◌≡◌ {A = Building} (built a ns l, take k a) b)) u t.nodes.items t.key t.inner t.count t.depth h.nodes_are h.key_is h.inner_is h.count_is h.depth_is ((now.0.0, now.0.1), now.1) in
      ((p.0.0, p.0.1, inside_seen h.innermost_is inside_now (state_seen p.1)), p.1)

  module _ (room : node_total b.0 < most_nodes) where
    pub has_room : HasRoom t
    has_room = record {
      few = room_left a t.nodes.items t.key t.inner t.count t.depth now.0.0 b.0 (state_seen now.1) room;
      counted = count_small a t.nodes.items t.key t.inner t.count t.depth now.0.0 b.0 (state_seen now.1);
    }

    -- the scalar v was added, or nothing changed
    pub scalar_added : TakesValue b.0.0 → (body : Body) → IsBody a body → (v : Tree) → scalar_of a body ≡ Some v
        → (u : OpenTree) → {E : Type 0} → (r : Result (Unit {0}) E) → MatchResult r (λ x. Adds t body u) (λ e. Stays t u)
        → Comes a k u b v r
    scalar_added wanted body good v is u (Ok x) h =
        let alone = scalar_alone a body v is in
        let p = value_comes a t.nodes.items t.key t.inner t.count t.depth now.0.0 b.0 (state_seen now.1) v body wanted room alone.0 alone.1 good alone.2 _ refl in
        let q = same_fields (λ ns l i n d. (IsBuilder a ns l i n d × IsLine a k) × (◌≡◌ {A = Building} (built a ns l, take k a) (with_value v b.0, b.1))) u _ None t.inner (t.count + 1) t.depth h.nodes_are h.key_is h.inner_is h.count_is h.depth_is
        ((p.0, now.0.1), both_seen p.1 (line_seen now.1)) in
        ((q.0.0, q.0.1, inside_seen (h.innermost_is ∙ inside_now) (inside-put v b.0.0) (state_seen q.1)), q.1)
    scalar_added wanted body good v is u (Err e) h = stays u h

    -- a container was added, and is the innermost one
    pub container_opened : TakesValue b.0.0 → (kind : Bool) → (u : OpenTree) → Adds t (Opened kind t.inner t.count) u → (at : ℕ) → at ≡ length t.nodes.items
        → (i : Innermost) → i ≡ innermost_opened kind
        → (IsBuilder a u.nodes.items u.key at 0 (u.depth + 1) × IsLine a k × (i ≡ innermost_of (built_tree a u).0)) × (◌≡◌ {A = Building} (built_tree a u, take k a) (with_open kind b.0, b.1))
    container_opened wanted kind u h at here inner inner_is =
        let p = opens a t.nodes.items t.key t.inner t.count t.depth now.0.0 b.0 (state_seen now.1) kind wanted room u.nodes.items h.nodes_are in
        let P = λ (l : Option Span) (i d : ℕ). (IsBuilder a u.nodes.items l i 0 d × IsLine a k) × (◌≡◌ {A = Building} (built a u.nodes.items l, take k a) (with_open kind b.0, b.1)) in
        let q = subst (λ (l : Option Span). P l at (u.depth + 1)) (sym h.key_is)
        (subst (λ (i : ℕ). P None i (u.depth + 1)) (sym here)
        (subst (λ (d : ℕ). P None (length t.nodes.items) (d + 1)) (sym h.depth_is) ((p.0, now.0.1), both_seen p.1 (line_seen now.1)))) in
        ((q.0.0, q.0.1, inside_seen inner_is (inside-empty kind) (state_seen q.1)), q.1)

module _ {E : Type 0} (a : List ℕ) (k : ℕ) (u : OpenTree) (b : Building) (v : Tree) where
  pub kept : (r : Result (Unit {0}) E) → Comes a k u b v r → IsOpenTree a u × IsLine a k × IsInside a u
  kept (Ok x) h = h.0
  kept (Err e) h = h.0

  pub on_ok : (r : Result (Unit {0}) E) → Comes a k u b v r → OnOk r (◌≡◌ {A = Building} (built_tree a u, take k a) (with_value v b.0, b.1))
  on_ok (Ok x) h = h.1
  on_ok (Err e) h = tt

  pub on_err : (r : Result (Unit {0}) E) → Comes a k u b v r → OnErr r (◌≡◌ {A = Building} (built_tree a u, take k a) b)
  on_err (Ok x) h = tt
  on_err (Err e) h = h.1

-- ---- a new builder

pub no_line : (a : List ℕ) → IsLine a 0
no_line a = record { within = omega arith; utf8 = IsUtf8-nil; feeds = λ i h. absurd (omega (arith, h)) }

fed : (line : List ℕ) → EndsInFeeds (held line)
fed line i within other =
    let all : length (held line) ≡ length line + feeds_behind = length-append line (replicate feeds_behind 10) ∙ ap (λ (n : ℕ). length line + n) (length-replicate {A = ℕ} feeds_behind 10) in
    ⊎_elim
    (λ near. omega (arith, near, all))
    (λ far. absurd (other (get_or-append_right line (replicate feeds_behind 10) (length line) i 0 refl far ∙ get_or-replicate feeds_behind (i - length line) 10 0 (omega (arith, within, far, all)))))
    (cases_lt i (length line))

-- a text that ends in line feeds is held as a whole
pub line_held : (a : List ℕ) (k : ℕ) → IsUtf8 a → EndsInFeeds a → k ≡ length a → IsLine a k × (take k a ≡ a)
line_held a k good feeds all =
    let whole : take k a ≡ a = ap (λ (n : ℕ). take n a) all ∙ take_all a in
    (record { within = omega (arith, all); utf8 = subst IsUtf8 (sym whole) good; feeds = subst EndsInFeeds (sym whole) feeds }, whole)

feeds_ascii : (n : ℕ) → IsAscii (replicate n 10)
feeds_ascii zero = IsAscii-nil
feeds_ascii (suc n) = IsAscii-cons 10 (replicate n 10) (omega arith) (feeds_ascii n)

-- a line that was copied is a text, and so it is with the line feeds
module _ (a : List ℕ) (ns : List Node) (c : IsCopied a ns) (line : List ℕ) (view : line_in a ≡ line) where
  pub line_whole : a ≡ held line
  line_whole = c.whole ∙ ap held view

  pub text_whole : IsUtf8 line → IsUtf8 a × EndsInFeeds a
  text_whole good = (
    subst IsUtf8 (sym line_whole) (IsUtf8-append line (replicate feeds_behind 10) good (IsUtf8-from_ascii (replicate feeds_behind 10) (feeds_ascii feeds_behind))),
    subst EndsInFeeds (sym line_whole) (fed line),
  )

pub starts : (a : List ℕ) (ns : List Node) (t : OpenTree) → IsEmpty ns t → ns ≡ [] → length a < text_bound → IsOpenTree a t × (built_tree a t ≡ fresh) × IsInside a t
starts a ns t h e small =
    let none : IsBuilder a [] None 0 0 0 = record {
      part = top None;
      outer = [];
      shape = tt;
      laid_out = refl;
      linked = tt;
      keyed = refl;
      inner_is = refl;
      count_is = refl;
      depth_is = refl;
      fits = tt;
      key_fits = tt;
      small = omega arith;
      narrow = small;
    } in
    let p = same_fields (λ ns l i n d. IsBuilder a ns l i n d × (built a ns l ≡ fresh)) t [] None 0 0 0 (h.nodes_are ∙ e) h.key_is h.inner_is h.count_is h.depth_is (none, refl) in
    (p.0, p.1, inside_seen h.innermost_is refl p.1)

-- ---- a container closes

all_at : {X : Type 0} (P : X → Type 0) (xs : List X) (i : ℕ) (x : X) → AllByRecursion P xs → i < length xs → x ≡ get_or xs i x → P x
all_at P [] i x h l e = absurd (omega arith)
all_at P (y ∷ ys) zero x h l e = subst P (sym e) h.0
all_at P (y ∷ ys) (suc i) x h l e = all_at P ys i x h.1 (omega arith) e

all_set : {X : Type 0} (P : X → Type 0) (xs : List X) (i : ℕ) (x : X) → AllByRecursion P xs → P x → AllByRecursion P (set xs i x)
all_set P [] i x h p = tt
all_set P (y ∷ ys) zero x h p = (p, h.1)
all_set P (y ∷ ys) (suc i) x h p = (h.0, all_set P ys i x h.1 p)

-- the innermost open container, where there is one
abbrev pub OpenCell : Part → List Part → Cell → Type 0
OpenCell p [] c = ⊥
OpenCell p (q ∷ qs) c = c ≡ opened (is_object p) (place q qs) (length (part_kids q))

abbrev pub HasOuter : List Part → Type 0
HasOuter [] = ⊥
HasOuter (q ∷ qs) = Unit {0}

pub has_outer : (p : Part) (qs : List Part) → IsState p qs → TakesClose p → HasOuter qs
has_outer (top o) qs h g = absurd g
has_outer (elements ts) [] h g = absurd h
has_outer (pairs ms k) [] h g = absurd h
has_outer p (q ∷ qs) h g = tt

open_entry : (p q : Part) (qs : List Part) → Entry
open_entry p q qs = (part_key q, opened (is_object p) (place q qs) (length (part_kids q)))

inner_within : (p : Part) (qs : List Part) → HasOuter qs → place p qs < length (laid p qs)
inner_within p [] h = absurd h
inner_within p (q ∷ qs) h = omega (arith, length-append (laid q qs) ((part_key q, opened (is_object p) (place q qs) (length (part_kids q))) ∷ part_entries p))

-- the entry of the innermost open container
abbrev open_at : Part → List Part → Entry → Type 0
open_at p [] e = ⊥
open_at p (q ∷ qs) e = e ≡ (part_key q, opened (is_object p) (place q qs) (length (part_kids q)))

inner_entry : (p : Part) (qs : List Part) (d : Entry) → HasOuter qs → open_at p qs (get_or (laid p qs) (place p qs) d)
inner_entry p [] d h = absurd h
inner_entry p (q ∷ qs) d h = get_or_at (laid q qs) (part_key q, opened (is_object p) (place q qs) (length (part_kids q))) (part_entries p) d (length (laid q qs)) refl

module _ (a : List ℕ) (ns : List Node) (key : Option Span) (inner count depth : ℕ) (b : IsBuilder a ns key inner count depth) where
  pub inner_small : HasOuter b.outer → inner < length ns
  inner_small h = omega (arith, b.inner_is, inner_within b.part b.outer h, total a ns key inner count depth b)

  pub entry_open : (n : Node) → HasOuter b.outer → n ≡ get_or ns inner n → open_at b.part b.outer (entry_of a n)
  entry_open n h e =
      let d = entry_of a n in
      let same : get_or (laid b.part b.outer) (place b.part b.outer) d ≡ d =
      ap (λ (i : ℕ). get_or (laid b.part b.outer) i d) (sym b.inner_is) ∙ ap (λ (cs : List Entry). get_or cs inner d) (sym b.laid_out) ∙ get_or-map (entry_of a) ns inner n ∙ ap (entry_of a) (sym e) in
      subst (open_at b.part b.outer) same (inner_entry b.part b.outer d h)

same_opened : {k l : Bool} {i j m n : ℕ} → opened k i m ≡ opened l j n → (k ≡ l) × (i ≡ j) × (m ≡ n)
same_opened e = (cc, cc, cc)

abbrev pub Closed_up : List ℕ → List Node → Option Span → ℕ → ℕ → ℕ → State → Type 0
Closed_up a new key inner count depth s = IsBuilder a new key inner count depth × (built a new key ≡ with_close s)

-- a container has as many links as entries
part_links : (p : Part) → TakesClose p → length (part_ups p) ≡ length (part_entries p)
part_links (top o) h = absurd h
part_links (elements ts) h = length-item_ups 1 ts ∙ sym (length-layout_items ts)
part_links (pairs ms k) h = length-member_ups 1 ms ∙ sym (length-layout_members ms)

-- the innermost open container lies so far behind its parent
inner_link : (p q : Part) (qs : List Part) (ns : List Node) (inner : ℕ) → TakesClose p → AreLinks (laid_ups p (q ∷ qs)) ns → length ns ≡ length (laid p (q ∷ qs)) → inner ≡ length (laid q qs)
    → get_or (laid_ups p (q ∷ qs)) inner 0 ≡ inner - place q qs
inner_link p q qs ns inner wanted linked total_is inner_is =
    let far : ℕ = length (laid q qs) - place q qs in
    let front : length (laid_ups q qs) ≡ inner =
    omega (
      arith,
      inner_is,
      total_is,
      links_count (laid_ups p (q ∷ qs)) ns linked,
      length-append (laid_ups q qs) (far ∷ part_ups p),
      part_links p wanted,
      length-append (laid q qs) ((part_key q, opened (is_object p) (place q qs) (length (part_kids q))) ∷ part_entries p),
    ) in
    get_or_at (laid_ups q qs) far (part_ups p) 0 inner front ∙ ap (λ (i : ℕ). i - place q qs) (sym inner_is)

no_key : (p : Part) → TakesClose p → part_key p ≡ None
no_key (top o) h = absurd h
no_key (elements ts) h = refl
no_key (pairs ms None) h = refl
no_key (pairs ms (Some k)) h = absurd h

module _ (a : List ℕ) (ns : List Node) (key : Option Span) (n : Node) (inner count depth : ℕ) (kind : Bool) (parent before below up : ℕ) (new : List Node) where
  closing : (p : Part) (qs : List Part) → IsState p qs → TakesClose p → entries a ns ≡ laid p qs
      → option_map (text_in a) key ≡ part_key p → inner ≡ place p qs → count ≡ length (part_kids p) → depth ≡ length qs
      → AllByRecursion (IsNode a) ns → IfSome key (IsSpan a) → length ns ≤ most_nodes → length a < text_bound
      → open_at p qs (entry_of a n) → n.body ≡ Opened kind parent before → IsNode a n
      → AreLinks (laid_ups p qs) ns
      → new ≡ set ns inner (record { key = n.key; below = below; body = Closed kind count up }) → below + 1 + inner ≡ length ns → up ≡ inner - parent
      → Closed_up a new key parent (before + 1) (depth - 1) (p, qs)
  closing p [] shape wanted out keyed inner_is count_is depth_is fits key_fits small narrow here body good linked e size far = absurd (has_outer p [] shape wanted)
  closing p (q ∷ qs) shape wanted out keyed inner_is count_is depth_is fits key_fits small narrow here body good linked e size far =
      let t = closes p wanted in
      let outside = outer_state p q qs shape in
      let parts = same_opened (ap (cell_of a n.below) (sym body) ∙ ap (λ (x : Entry). x.1) here) in
      let node : Node = record { key = n.key; below = below; body = Closed kind count up } in
      let total_is : length ns ≡ length (laid p (q ∷ qs)) = sym (length-map ns (entry_of a)) ∙ ap length out in
      let size_is : below ≡ length (part_entries p) = omega (arith, length-append (laid q qs) ((part_key q, opened (is_object p) (place q qs) (length (part_kids q))) ∷ part_entries p)) in
      let link : up ≡ get_or (laid_ups p (q ∷ qs)) inner 0 = far ∙ ap (λ (i : ℕ). inner - i) parts.1 ∙ sym (inner_link p q qs ns inner wanted linked total_is inner_is) in
      let entry_is : entry_of a node ≡ (part_key q, closed (is_object p) (length (part_kids p)) (length (part_entries p))) =
      ap (λ (k : Option (List ℕ)). (k, closed kind count below)) (ap (λ (x : Entry). x.0) here)
      ∙ ap (λ (k : Bool). (part_key q, closed k count below)) parts.0
      ∙ ap (λ (m : ℕ). (part_key q, closed (is_object p) m below)) count_is
      ∙ ap (λ (m : ℕ). (part_key q, closed (is_object p) (length (part_kids p)) m)) size_is in
      let laid_new : entries a new ≡ laid (put t.0 q) qs =
      ap (entries a) e ∙ map-set (entry_of a) ns inner node ∙ ap (λ (cs : List Entry). set cs inner (entry_of a node)) out
      ∙ ap (λ (i : ℕ). set (laid p (q ∷ qs)) i (entry_of a node)) inner_is
      ∙ set_at (laid q qs) (part_key q, opened (is_object p) (place q qs) (length (part_kids q))) (part_entries p) (entry_of a node) (length (laid q qs)) refl
      ∙ ap (λ (c : Entry). laid q qs ++ c ∷ part_entries p) entry_is
      ∙ ap (λ (cs : List Entry). laid q qs ++ cs) (t.2 (part_key q))
      ∙ sym (laid-put t.0 q qs outside.0) in
      let after : IsBuilder a new key parent (before + 1) (depth - 1) = record {
        part = put t.0 q;
        outer = qs;
        shape = state-put t.0 q qs outside.1;
        laid_out = laid_new;
        linked = subst (AreLinks (laid_ups (put t.0 q) qs)) (sym e)
            (subst (λ (us : List ℕ). AreLinks us (set ns inner node)) (ups-close t.0 p q qs wanted t.1 outside.0 outside.1) (links_set (laid_ups p (q ∷ qs)) ns inner node linked link));
        keyed = keyed ∙ no_key p wanted ∙ sym (key-put t.0 q);
        inner_is = parts.1 ∙ sym (place-put t.0 q qs);
        count_is = omega (arith, parts.2, kids-put t.0 q outside.0);
        depth_is = omega (arith, depth_is);
        fits = subst (AllByRecursion (IsNode a)) (sym e) (all_set (IsNode a) ns inner node fits (good.0, tt, tt));
        key_fits = key_fits;
        small = omega (arith, ap length e, length-set ns inner node);
        narrow = narrow;
      } in
      (after, now_seen a new key parent (before + 1) (depth - 1) after ∙ ap (λ (o : Option Tree). (put_option o q, qs)) (sym t.1))

  pub container_closes : (b : IsBuilder a ns key inner count depth) (s : State) → built a ns key ≡ s → TakesClose s.0
      → n ≡ get_or ns inner n → n.body ≡ Opened kind parent before
      → new ≡ set ns inner (record { key = n.key; below = below; body = Closed kind count up }) → below + 1 + inner ≡ length ns → up ≡ inner - parent
      → Closed_up a new key parent (before + 1) (depth - 1) s
  container_closes b s view wanted e body new_is size far =
      let same = state_is a ns key inner count depth b s view in
      let wants : TakesClose b.part = subst (λ (x : State). TakesClose x.0) (sym same) wanted in
      let outside = has_outer b.part b.outer b.shape wants in
      let good : IsNode a n = all_at (IsNode a) ns inner n b.fits (inner_small a ns key inner count depth b outside) e in
      subst (Closed_up a new key parent (before + 1) (depth - 1)) same
      (closing b.part b.outer b.shape wants b.laid_out b.keyed b.inner_is b.count_is b.depth_is b.fits b.key_fits b.small b.narrow (entry_open a ns key inner count depth b n outside e) body good b.linked new_is size far)

is_open : (a : List ℕ) (l : ℕ) (b : Body) (k : Bool) (i m : ℕ) → cell_of a l b ≡ opened k i m → b ≡ Opened k i m
is_open a l Null k i m e = cc
is_open a l (Truth x) k i m e = cc
is_open a l (Text s) k i m e = cc
is_open a l (Numeral s) k i m e = cc
is_open a l (Closed o j n) k i m e = cc
is_open a l (Opened o j n) k i m e = cc

-- what the node of the innermost open container has: its parent comes before it
abbrev pub IsOpenBody : ℕ → ℕ → Body → Type 0
IsOpenBody inner total b = (k : Bool) × (i : ℕ) × (m : ℕ) × (b ≡ Opened k i m) × (m ≤ total) × (i ≤ inner)

open_body : (a : List ℕ) (n : Node) (p : Part) (qs : List Part) → open_at p qs (entry_of a n) → IsOpenBody (place p qs) (length (laid p qs)) n.body
open_body a n p [] h = absurd h
open_body a n p (q ∷ qs) h = (
  is_object p,
  place q qs,
  length (part_kids q),
  is_open a n.below n.body (is_object p) (place q qs) (length (part_kids q)) (ap (λ (x : Entry). x.1) h),
  omega (arith, kids_le q qs, length-append (laid q qs) ((part_key q, opened (is_object p) (place q qs) (length (part_kids q))) ∷ part_entries p)),
  place_within q qs,
)

outer_some : (qs : List Part) → HasOuter qs → 0 < length qs
outer_some [] h = absurd h
outer_some (q ∷ qs) h = omega arith

module _ (a : List ℕ) (ns : List Node) (key : Option Span) (inner count depth : ℕ) (b : IsBuilder a ns key inner count depth) (s : State) (view : built a ns key ≡ s) (wanted : TakesClose s.0) where
  pub inside : HasOuter b.outer
  inside = has_outer b.part b.outer b.shape (subst (λ (x : State). TakesClose x.0) (sym (state_is a ns key inner count depth b s view)) wanted)

  pub inner_here : inner < length ns
  inner_here = inner_small a ns key inner count depth b inside

  pub depth_some : 0 < depth
  depth_some = omega (arith, outer_some b.outer inside, b.depth_is)

  pub inner_body : (n : Node) → n ≡ get_or ns inner n → IsOpenBody inner (length ns) n.body
  inner_body n e =
      subst (λ (i : ℕ). IsOpenBody i (length ns) n.body) (sym b.inner_is)
      (subst (λ (m : ℕ). IsOpenBody (place b.part b.outer) m n.body) (sym (total a ns key inner count depth b)) (open_body a n b.part b.outer (entry_open a ns key inner count depth b n inside e)))

same_count : {k l : Bool} {i j m n : ℕ} → Opened k i m ≡ Opened l j n → m ≡ n
same_count e = cc

pub count_opened : (inner total : ℕ) (b : Body) (k : Bool) (i m : ℕ) → IsOpenBody inner total b → b ≡ Opened k i m → m ≤ total
count_opened inner total b k i m h e = subst (λ (x : ℕ). x ≤ total) (same_count (sym h.3 ∙ e)) h.4

same_parent : {k l : Bool} {i j m n : ℕ} → Opened k i m ≡ Opened l j n → i ≡ j
same_parent e = cc

pub parent_opened : (inner total : ℕ) (b : Body) (k : Bool) (i m : ℕ) → IsOpenBody inner total b → b ≡ Opened k i m → i ≤ inner
parent_opened inner _ b k i m h e = subst (λ (x : ℕ). x ≤ inner) (same_parent (sym h.3 ∙ e)) h.5

-- ---- the document is complete

complete : (p : Part) (qs : List Part) → IsState p qs → IsComplete (p, qs) → (t : Tree) × (◌≡◌ {A = State} (p, qs) (top (Some t), []))
complete (top None) qs h g = absurd g
complete (top (Some t)) [] h g = (t, refl)
complete (top (Some t)) (q ∷ qs) h g = absurd h
complete (elements ts) qs h g = absurd g
complete (pairs ms k) qs h g = absurd g

pub finishes : (a : List ℕ) (ns : List Node) (key : Option Span) (inner count depth : ℕ) → IsBuilder a ns key inner count depth
    → (s : State) → built a ns key ≡ s → IsComplete s → IsDoc a ns × (s ≡ (top (Some (tree_of (entries a ns))), []))
finishes a ns key inner count depth b s view wanted =
    let same = state_is a ns key inner count depth b s view in
    let t = complete b.part b.outer b.shape (subst IsComplete (sym same) wanted) in
    let out : entries a ns ≡ layout None t.0 = b.laid_out ∙ ap (λ (x : State). laid x.0 x.1) t.1 in
    let tree : tree_of (entries a ns) ≡ t.0 = ap tree_of out ∙ tree_of-layout None t.0 in
    (record { laid = out ∙ ap (layout None) (sym tree); linked = subst (λ (us : List ℕ). AreLinks us ns) (ap (λ (x : State). laid_ups x.0 x.1) t.1 ∙ ap (ups 0) (sym tree)) b.linked; fits = b.fits; small = b.small }, sym same ∙ t.1 ∙ ap (λ (u : Tree). (top (Some u), [])) (sym tree))

-- ---- what is wanted

want_first : (p : Part) → innermost.Top ≡ innermost_of p → length (part_kids p) ≡ 0 → wants.Value ≡ want_of p
want_first (top None) e f = refl
want_first (top (Some t)) e f = absurd (omega arith)
want_first (elements ts) e f = cc
want_first (pairs ms k) e f = cc

want_nothing : (p : Part) → innermost.Top ≡ innermost_of p → 0 < length (part_kids p) → wants.Nothing ≡ want_of p
want_nothing (top None) e f = absurd (omega arith)
want_nothing (top (Some t)) e f = refl
want_nothing (elements ts) e f = cc
want_nothing (pairs ms k) e f = cc

want_items : (p : Part) → innermost.Array ≡ innermost_of p → wants.ValueOrClose ≡ want_of p
want_items (top o) e = cc
want_items (elements ts) e = refl
want_items (pairs ms k) e = cc

want_key : (p : Part) → innermost.Object ≡ innermost_of p → part_key p ≡ None → wants.KeyOrClose ≡ want_of p
want_key (top o) f e = cc
want_key (elements ts) f e = cc
want_key (pairs ms None) f e = refl
want_key (pairs ms (Some k)) f e = cc

want_member : (p : Part) (k : List ℕ) → innermost.Object ≡ innermost_of p → part_key p ≡ Some k → wants.Value ≡ want_of p
want_member (top o) k f e = cc
want_member (elements ts) k f e = cc
want_member (pairs ms None) k f e = cc
want_member (pairs ms (Some l)) k f e = refl

object_opened : (a : List ℕ) (n : Node) (p : Part) (qs : List Part) → open_at p qs (entry_of a n) → opens_object n.body ≡ is_object p
object_opened a n p [] h = absurd h
object_opened a n p (q ∷ qs) h = ap opens_object (is_open a n.below n.body (is_object p) (place q qs) (length (part_kids q)) (ap (λ (x : Entry). x.1) h))

some_outer : (qs : List Part) → 0 < length qs → HasOuter qs
some_outer [] h = absurd (omega arith)
some_outer (q ∷ qs) h = tt

module _ (a : List ℕ) (ns : List Node) (key : Option Span) (inner count depth : ℕ) (b : IsBuilder a ns key inner count depth) (s : State) (view : built a ns key ≡ s) where
  part_is : (w : Want) → w ≡ want_of b.part → w ≡ want_of s.0
  part_is w e = e ∙ ap (λ (x : State). want_of x.0) (state_is a ns key inner count depth b s view)

  part_inside : (i : Innermost) → i ≡ innermost_of (built a ns key).0 → i ≡ innermost_of b.part
  part_inside i e = e ∙ ap (λ (x : State). innermost_of x.0) (now_seen a ns key inner count depth b)

  pub wants_first : innermost.Top ≡ innermost_of (built a ns key).0 → count ≡ 0 → wants.Value ≡ want_of s.0
  wants_first e f = part_is wants.Value (want_first b.part (part_inside innermost.Top e) (sym b.count_is ∙ f))

  pub wants_nothing : innermost.Top ≡ innermost_of (built a ns key).0 → 0 < count → wants.Nothing ≡ want_of s.0
  wants_nothing e f = part_is wants.Nothing (want_nothing b.part (part_inside innermost.Top e) (omega (arith, b.count_is)))

  pub wants_items : innermost.Array ≡ innermost_of (built a ns key).0 → wants.ValueOrClose ≡ want_of s.0
  wants_items e = part_is wants.ValueOrClose (want_items b.part (part_inside innermost.Array e))

  pub wants_key : innermost.Object ≡ innermost_of (built a ns key).0 → key ≡ None → wants.KeyOrClose ≡ want_of s.0
  wants_key f g = part_is wants.KeyOrClose (want_key b.part (part_inside innermost.Object f) (sym b.keyed ∙ ap (option_map (text_in a)) g))

  pub wants_member : (k : Span) → innermost.Object ≡ innermost_of (built a ns key).0 → key ≡ Some k → wants.Value ≡ want_of s.0
  wants_member k f g = part_is wants.Value (want_member b.part (text_in a k) (part_inside innermost.Object f) (sym b.keyed ∙ ap (option_map (text_in a)) g))

-- ---- what the innermost open container is, by its node

none_open : (p : Part) (qs : List Part) → IsState p qs → length qs ≡ 0 → innermost.Top ≡ innermost_of p
none_open (top o) qs h e = refl
none_open (elements ts) [] h e = absurd h
none_open (pairs ms k) [] h e = absurd h
none_open (elements ts) (q ∷ qs) h e = absurd (omega arith)
none_open (pairs ms k) (q ∷ qs) h e = absurd (omega arith)

open_kind : (p : Part) (qs : List Part) → IsState p qs → HasOuter qs → innermost_opened (is_object p) ≡ innermost_of p
open_kind p [] h g = absurd g
open_kind (top o) (q ∷ qs) h g = absurd h
open_kind (elements ts) (q ∷ qs) h g = refl
open_kind (pairs ms k) (q ∷ qs) h g = refl

module _ (a : List ℕ) (ns : List Node) (key : Option Span) (inner count depth : ℕ) (b : IsBuilder a ns key inner count depth) where
  pub inner_read : 0 < depth → inner < length ns
  inner_read h = inner_small a ns key inner count depth b (some_outer b.outer (omega (arith, b.depth_is)))

  of_part : (i : Innermost) → i ≡ innermost_of b.part → i ≡ innermost_of (built a ns key).0
  of_part i e = e ∙ ap (λ (x : State). innermost_of x.0) (sym (now_seen a ns key inner count depth b))

  of_node : (k : Bool) → 0 < depth → Opens ns inner k → innermost_opened k ≡ innermost_of (built a ns key).0
  of_node k h o =
      let outside = some_outer b.outer (omega (arith, b.depth_is)) in
      let kind : k ≡ is_object b.part = sym o.2 ∙ object_opened a o.0 b.part b.outer (entry_open a ns key inner count depth b o.0 outside o.1) in
      of_part (innermost_opened k) (ap innermost_opened kind ∙ open_kind b.part b.outer b.shape outside)

  pub told : (i : Innermost) → Tells ns inner depth i → i ≡ innermost_of (built a ns key).0
  told innermost.Top h = of_part innermost.Top (none_open b.part b.outer b.shape (sym b.depth_is ∙ h))
  told innermost.Array h = of_node false h.0 h.1
  told innermost.Object h = of_node true h.0 h.1

pub count_nodes : (a : List ℕ) (ns : List Node) (key : Option Span) (inner count depth : ℕ) → IsBuilder a ns key inner count depth → (s : State) → built a ns key ≡ s → length ns ≡ node_total s
count_nodes a ns key inner count depth b s view = total a ns key inner count depth b ∙ ap node_total (state_is a ns key inner count depth b s view)
