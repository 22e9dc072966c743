-- What contracts say of nodes and members: the words over a `NodeRef`.
use Rattle.std.specs.Prelude.{ℕ, List, Option, option_map}
use Rattle.sj_json.specs.Tree.{Tree, subtree, NumberedChild}
use Rattle.sj_doc.specs.declared.doc.Member.{Member}
use Rattle.sj_doc.specs.declared.doc.NodeRef.{NodeRef}
use Rattle.sj_doc.specs.Stops.{key_in}

-- the number of a node in preorder
abbrev pub node_id : NodeRef → ℕ
node_id n = n.at

-- the tree that begins at a node
abbrev pub node_tree : NodeRef → Tree
node_tree n = subtree n.doc.now n.at

-- the key of a node, none of the whole document and of an element
unfoldable pub node_key : NodeRef → Option (List ℕ)
node_key n = key_in n.doc.now n.at

-- a member as its key, its number and its tree
abbrev pub member_of : Member → NumberedChild
member_of m = (option_map (λ s. s.now) m.key, node_id m.node, node_tree m.node)
