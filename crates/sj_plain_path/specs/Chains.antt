-- Plain paths: the root or `@` and, behind it, accessors of members, of all elements and of the element at an index, in lax mode. Private clauses of crates above alone cite this; sj_cursor proves that it is the meaning of such a path.
use Rattle.std.specs.Prelude.{◌≡◌, ◌≤◌, ℕ, Bool, List, [], ◌∷◌, map, Option, Some, None, if◌then◌else◌, pos}
use Rattle.sj_base.specs.Count.{raised}
use Rattle.sj_json.specs.Tree.{NumberedChild}
use Rattle.sj_doc.specs.Listed.{node_id, node_tree}
use Rattle.sj_doc.specs.declared.doc.NodeRef.{NodeRef}
use Rattle.sj_path_tree.specs.Tree as t
use Rattle.sj_path_tree.specs.declared.parts.Literal.TheVariants.{Num}
use Rattle.sj_path_tree.specs.declared.parts.Mode.TheVariants.{Lax}
use Rattle.sj_item.specs.Items.{ItemValue, node}
use Rattle.sj_step.specs.Trace.{Trace, stop, only, after_visits, join, each}
use Rattle.sj_step.specs.Reach.{reach, by_key, all_elements, by_range, unwrap, child_item, every, lax_range}
use Rattle.sj_plain_path.specs.Openings.{opened}
use Rattle.sj_plain_path.specs.Takers.{Taken, taken_of, taking_cost}
use Rattle.sj_plain_path.specs.declared.opening.Opening.{Opening}
use Rattle.sj_plain_path.specs.declared.chain.Chain.{Chain}
use Rattle.sj_plain_path.specs.declared.chain.Link.{Link}
use Rattle.sj_plain_path.specs.declared.chain.Link.TheVariants as links

abbrev pub node_value : NodeRef → ItemValue
node_value n = node (node_id n) (node_tree n)

-- ---- the accessors of a plain path

abbrev pub accessor : Link → t.Step
accessor (links.Member key) = t.Member key.now
accessor links.AllElements = t.AllElements
accessor (links.Element index) = t.Elements (t.More (t.One (t.Lit (Num (pos index, 0)))) t.NoSubs)

-- the accessor of members under a key, wherever that lies
abbrev pub member_under : List ℕ → Link
member_under key = links.Member (record { ref_ptr = (0, 0); now = key })

-- accessors on an expression, in order
abbrev pub accessed : t.Expr → List Link → t.Expr
accessed e [] = e
accessed e (link ∷ rest) = accessed (t.Access e (accessor link)) rest

-- what one of them gives of one item: a member is also looked for in the elements of an array
abbrev pub linked : Link → ItemValue → Trace
linked (links.Member key) x = each (unwrap Lax x) (reach (by_key key.now) Lax)
linked links.AllElements x = reach all_elements Lax x
linked (links.Element index) x = reach (by_range (pos index) (pos index)) Lax x

-- what they give of one item, where the items at their end are opened
abbrev pub below : Opening → List Link → ItemValue → Trace
below how [] x = opened how Lax x
below how (link ∷ rest) x = each (linked link x) (below how rest)

-- what a member under a key and the accessors behind it give of an item that was unwrapped
abbrev pub under : Opening → List ℕ → List Link → ItemValue → Trace
under how key rest x = each (reach (by_key key) Lax x) (below how rest)

-- all elements of an array, each as its key, its number and its tree
abbrev pub elements_of : List NumberedChild → Trace
elements_of elements = every 1 (map child_item elements)

-- what the same member gives of the elements of an array
abbrev pub over : Opening → List ℕ → List Link → List NumberedChild → Trace
over how key rest elements = each (elements_of elements) (under how key rest)

-- what accessors give of the elements of an array
abbrev pub throughout : Opening → List Link → List NumberedChild → Trace
throughout how rest elements = each (elements_of elements) (below how rest)

-- the element of an array at an index, behind the visits up to it; of a shorter array there is nothing
abbrev pub element : ℕ → List NumberedChild → Trace
element index elements = lax_range (pos index) (pos index) (map child_item elements)

-- a trace is one node behind n visits, or it is empty
abbrev pub Reaches : Trace → Option NodeRef → ℕ → ℕ → ℕ → Type 0
Reaches t None n steps later = (t ≡ stop) × (later ≡ steps)
Reaches t (Some found) n steps later = (t ≡ after_visits n (only (node_value found))) × (later ≡ raised steps n)

-- ---- what has a chain

-- the accessors of a plain path
pub record IsChainOf (path : t.Path) (chain : Chain) : Type 0 where
  pub lax : path.mode ≡ Lax
  pub links : accessed t.Root chain.links.items ≡ path.expr

-- ---- going through a trace

-- A trace was gone through, or its beginning where that was enough, whatever stands behind it.
pub record Sought (f : Taken) (t : Trace) (g : Taken) (enough : Bool) (steps later : ℕ) : Type 0 where
  pub finds : (w : Trace) → taken_of f (join t w) ≡ (if enough then (g, None) else taken_of g w)
  pub costs : (w : Trace) → raised later (if enough then 0 else taking_cost g w) ≤ raised steps (taking_cost f (join t w))

-- Of a trace that was gone through so far, u is left.
pub record Seeking (f : Taken) (t : Trace) (g : Taken) (u : Trace) (steps later : ℕ) : Type 0 where
  pub same : (w : Trace) → taken_of g (join u w) ≡ taken_of f (join t w)
  pub costs : (w : Trace) → raised later (taking_cost g (join u w)) ≤ raised steps (taking_cost f (join t w))
