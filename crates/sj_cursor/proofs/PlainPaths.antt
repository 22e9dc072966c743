-- A plain path: its accessors mean what they give of each item, one after the other.
use Rattle.std.proofs.Common.{◌≡◌, ℕ, ℤ, pos, List, [], ◌∷◌, ap, sym, ◌∙◌, arith}
use Rattle.std.proofs.lemmas.Int.{ints}
use Rattle.sj_decimal.specs.Rounding.{whole_of}
use Rattle.sj_doc.specs.Kinds.{kind_of}
use Rattle.sj_doc.specs.declared.doc.NodeRef.{NodeRef}
use Rattle.sj_doc.specs.declared.node.Kind.{Kind}
use Rattle.sj_doc.specs.declared.node.Kind.TheVariants as kinds
use Rattle.sj_path_tree.specs.Tree as t
use Rattle.sj_path_tree.specs.declared.parts.Literal.TheVariants.{Num}
use Rattle.sj_path_tree.specs.declared.parts.Mode.TheVariants.{Lax}
use Rattle.sj_item.specs.Items.{ItemValue, made_number, item_tree}
use Rattle.sj_step.specs.Trace.{Trace, stop, only, join, each}
use Rattle.sj_step.specs.Reach.{reach, by_key, all_elements, by_range, unwrap, last, last_on}
use Rattle.sj_step.proofs.Traces.{join-stop, each_assoc, each_cong}
use Rattle.sj_method.specs.Numbers.{operand_of, subscript_of}
use Rattle.sj_path_tree.specs.Vars.{Variables}
use Rattle.sj_cursor.specs.Meaning.{Env, at_last, where_array, meaning, parts, start_env, path_trace}
use Rattle.sj_cursor.specs.Numbers.{element_part}
use Rattle.sj_plain_path.specs.Openings.{opened}
use Rattle.sj_cursor.specs.Left.{operand_whole}
use Rattle.sj_plain_path.specs.Looks.{Look, Finds}
use Rattle.sj_plain_path.specs.Chains.{accessor, accessed, linked, below, node_value, IsChainOf}
use Rattle.sj_cursor.specs.LaxNodes.{IsLaxNode}
use Rattle.sj_plain_path.specs.declared.opening.Opening.{Opening}
use Rattle.sj_plain_path.specs.declared.opening.Opening.TheVariants.{AsItIs}
use Rattle.sj_plain_path.specs.declared.chain.Chain.{Chain}
use Rattle.sj_plain_path.specs.declared.chain.Link.{Link}
use Rattle.sj_plain_path.specs.declared.chain.Link.TheVariants as links
use Rattle.sj_plain_path.specs.declared.look.Limit.{Limit}
use Rattle.sj_cursor.proofs.Operators.{as_it_is}

-- ---- the accessors of a plain path

last_some : (k : Kind) (x : ItemValue) (t : Trace) (go : ℤ → Trace) → ((n : ℤ) → go n ≡ t) → where_array (last_on k Lax x) go ≡ t
last_some kinds.Null x t go e = e _
last_some kinds.Truth x t go e = e _
last_some kinds.Number x t go e = e _
last_some kinds.String x t go e = e _
last_some kinds.Array x t go e = e _
last_some kinds.Object x t go e = e _

whole_index : (index : ℕ) → whole_of (pos index, 0) ≡ pos index
whole_index index = grind (arith, ints)

index_part : (index : ℕ) (x : ItemValue) → element_part Lax (only (made_number (pos index, 0))) x ≡ reach (by_range (pos index) (pos index)) Lax x
unfolding element_part subscript_of operand_of
index_part index x = ap (λ (z : ℤ). reach (by_range z z) Lax x) (whole_index index)

-- the subscript is asked on each item, at no price
index_on : (index : ℕ) (x : ItemValue) (env : Env) → env.mode ≡ Lax
    → where_array (last env.mode x) (λ n. parts (t.More (t.One (t.Lit (Num (pos index, 0)))) t.NoSubs) (at_last env n) x) ≡ linked (links.Element index) x
unfolding last
index_on index x env lax =
    ap (λ m. where_array (last_on (kind_of (item_tree x)) m x) (λ n. join (element_part m (only (made_number (pos index, 0))) x) stop)) lax
    ∙ last_some (kind_of (item_tree x)) x _ _ (λ n. join-stop _ ∙ index_part index x)

linked_on : (l : Link) (e : t.Expr) (env : Env) → env.mode ≡ Lax → meaning (t.Access e (accessor l)) env ≡ each (meaning e env) (linked l)
linked_on (links.Member key) e env lax =
    ap (λ m. each (each (meaning e env) (unwrap m)) (reach (by_key key.now) m)) lax
    ∙ each_assoc (meaning e env) (unwrap Lax) (reach (by_key key.now) Lax)
linked_on links.AllElements e env lax = ap (λ m. each (meaning e env) (reach all_elements m)) lax
linked_on (links.Element index) e env lax = each_cong (meaning e env) _ (linked (links.Element index)) (λ x. index_on index x env lax)

accessed_on : (how : Opening) (e : t.Expr) (ls : List Link) (env : Env) → env.mode ≡ Lax → operand_whole how (accessed e ls) env ≡ each (meaning e env) (below how ls)
accessed_on how e [] env lax = ap (λ m. each (meaning e env) (opened how m)) lax
accessed_on how e (l ∷ ls) env lax =
    accessed_on how (t.Access e (accessor l)) ls env lax
    ∙ ap (λ u. each u (below how ls)) (linked_on l e env lax)
    ∙ each_assoc (meaning e env) (linked l) (below how ls)

pub plain_trace : (path : t.Path) (vars : Variables) (x : ItemValue) (chain : Chain) → IsChainOf path chain → path_trace path vars x ≡ below AsItIs chain.links.items x
unfolding path_trace
plain_trace path vars x chain h =
    ap (λ e. meaning e (start_env path vars x)) (sym h.links)
    ∙ sym (as_it_is (accessed t.Root chain.links.items) (start_env path vars x))
    ∙ accessed_on AsItIs t.Root chain.links.items (start_env path vars x) h.lax
    ∙ join-stop (below AsItIs chain.links.items x)

-- what an accessor gives of a single item
pub link_below : (how : Opening) (e : t.Expr) (l : Link) (x : ItemValue) (env : Env) → env.mode ≡ Lax → meaning e env ≡ only x
    → operand_whole how (t.Access e (accessor l)) env ≡ below how (l ∷ []) x
link_below how e l x env lax is =
    accessed_on how e (l ∷ []) env lax
    ∙ ap (λ u. each u (below how (l ∷ []))) is
    ∙ join-stop (below how (l ∷ []) x)

pub keyed_below : (how : Opening) (e d : t.Expr) (l : Link) (env : Env) (n : NodeRef)
    → d ≡ t.Access e (accessor l) → IsLaxNode e env n → operand_whole how d env ≡ below how (l ∷ []) (node_value n)
keyed_below how e d l env n is h = rw is (link_below how e l (node_value n) env h.lax h.is)

-- ---- a plain path on a node

pub plain_finds : (limit : Limit) (path : t.Path) (vars : Variables) (x : ItemValue) (chain : Chain) (look : Look) (a b : ℕ)
    → IsChainOf path chain → Finds limit (below AsItIs chain.links.items x) look a b → Finds limit (path_trace path vars x) look a b
plain_finds limit path vars x chain look a b h k = rw (plain_trace path vars x chain h) k
