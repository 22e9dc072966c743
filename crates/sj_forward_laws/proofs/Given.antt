-- Traces that end well, by the trees of their items.
use Rattle.std.proofs.Common.{◌≡◌, ℕ, ◌+◌, List, [], ◌∷◌, ◌++◌, map, flat_map, Bool, true, false, if◌then◌else◌, None, refl, ap, ◌∙◌}
use Rattle.sj_json.specs.Tree.{Tree, Child as JsonChild, children, numbered, below}
use Rattle.sj_path_tree.specs.declared.parts.Mode.TheVariants.{Lax}
use Rattle.sj_doc.specs.Keyed.{is_key}
use Rattle.sj_item.specs.Items.{ItemValue, node, made_number, made_text, made_truth, made_null, made_pair, item_tree}
use Rattle.sj_step.specs.Trace.{Trace, stop, fail, visit, give, after_visits, join, each, items, fault_of}
use Rattle.sj_step.specs.Reach.{Child, child_item, children_of, every, under_key}
use Rattle.sj_step.proofs.Traces.{fault-after_visits, items-after_visits}
use Rattle.sj_forward_laws.specs.Reached.{values, values_under}

-- the trees of a trace's items
abbrev pub trees : Trace → List Tree
trees t = map item_tree (items t)

-- it ends well, and gives items of these trees
abbrev pub Gives : Trace → List Tree → Type 0
Gives t us = (fault_of t ≡ None) × (trees t ≡ us)

pub gives_same : (t : Trace) (us vs : List Tree) → Gives t us → us ≡ vs → Gives t vs
gives_same t us vs h e = (h.0, h.1 ∙ e)

pub gives_trace : (t u : Trace) (us : List Tree) → t ≡ u → Gives u us → Gives t us
gives_trace t u us e h = (ap fault_of e ∙ h.0, ap trees e ∙ h.1)

-- ---- traces that are put together

gives_join : (t u : Trace) (vs : List Tree) → fault_of t ≡ None → Gives u vs → Gives (join t u) (trees t ++ vs)
gives_join stop u vs e h = h
gives_join (fail s) u vs e h = (cc, cc)
gives_join (visit t) u vs e h = gives_join t u vs e h
gives_join (give x t) u vs e h = let r = gives_join t u vs e h in (r.0, ap (λ (us : List Tree). item_tree x ∷ us) r.1)

gives_all : (t : Trace) (g : ItemValue → Trace) (f : Tree → List Tree) → fault_of t ≡ None → ((x : ItemValue) → Gives (g x) (f (item_tree x))) → Gives (each t g) (flat_map f (trees t))
gives_all stop g f e h = (refl, refl)
gives_all (fail s) g f e h = (cc, cc)
gives_all (visit t) g f e h = gives_all t g f e h
gives_all (give x t) g f e h =
    let r = gives_join (g x) (each t g) (flat_map f (trees t)) (h x).0 (gives_all t g f e h) in
    (r.0, r.1 ∙ ap (λ (us : List Tree). us ++ flat_map f (trees t)) (h x).1)

pub gives_each : (t : Trace) (us : List Tree) (g : ItemValue → Trace) (f : Tree → List Tree) → Gives t us → ((x : ItemValue) → Gives (g x) (f (item_tree x))) → Gives (each t g) (flat_map f us)
gives_each t us g f k h = let r = gives_all t g f k.0 h in (r.0, r.1 ∙ ap (flat_map f) k.1)

pub gives_after : (n : ℕ) (t : Trace) (us : List Tree) → Gives t us → Gives (after_visits n t) us
gives_after n t us h = (fault-after_visits n t ∙ h.0, ap (map item_tree) (items-after_visits n t) ∙ h.1)

-- ---- the children of an item, each under its key

abbrev pub named : Child → JsonChild
named c = (c.0, item_tree c.1)

pub named_numbered : (i : ℕ) (ks : List JsonChild) → map named (map child_item (numbered i ks)) ≡ ks
named_numbered i [] = refl
named_numbered i (k ∷ ks) = ap (λ (us : List JsonChild). k ∷ us) (named_numbered (i + 1 + below k.1) ks)

pub named_children : (x : ItemValue) → map named (children_of x) ≡ children (item_tree x)
named_children (node i t) = named_numbered (i + 1) (children t)
named_children (made_number d) = refl
named_children (made_text s) = refl
named_children (made_truth b) = refl
named_children made_null = refl
named_children (made_pair name value id) = refl

-- ---- walks over children

pub gives_every : (n : ℕ) (cs : List Child) → Gives (every n cs) (values (map named cs))
gives_every n [] = (refl, refl)
gives_every n (c ∷ cs) =
    let r = gives_every n cs in
    gives_after n (give c.1 (every n cs)) (item_tree c.1 ∷ values (map named cs)) (r.0, ap (λ (us : List Tree). item_tree c.1 ∷ us) r.1)

if_gives : (b : Bool) (x : ItemValue) (t u : Trace) (us : List Tree) → Gives t us → Gives u us → Gives (if b then give x t else u) (if b then item_tree x ∷ us else us)
if_gives true x t u us h k = (h.0, ap (λ (vs : List Tree). item_tree x ∷ vs) h.1)
if_gives false x t u us h k = k

pub gives_under : (n : ℕ) (key : List ℕ) (found : Bool) (cs : List Child) → Gives (under_key n Lax key found cs) (values_under key (map named cs))
gives_under n key found [] = (refl, refl)
gives_under n key found (c ∷ cs) =
    gives_after n (if is_key key c.0 then give c.1 (under_key n Lax key true cs) else under_key n Lax key found cs) (values_under key (map named (c ∷ cs)))
    (if_gives (is_key key c.0) c.1 (under_key n Lax key true cs) (under_key n Lax key found cs) (values_under key (map named cs)) (gives_under n key true cs) (gives_under n key found cs))
