use Rattle.std.proofs.Common.{◌≡◌, ◌+◌, ℕ, List, [], ◌∷◌, ◌++◌, Bor, refl, ap, ◌∙◌}
use Rattle.sj_json.specs.Tree.{Tree, null, truth, string, number, array, object, Items, no_items, item, Members, no_members, member, item_list, member_list, below, numbered, children, subtree}
use Rattle.sj_json.specs.Keys.{keys, member_keys}
use Rattle.sj_doc.specs.Slots.{texts}
use Rattle.sj_doc.specs.Keys.{given}
use Rattle.sj_doc.proofs.keys.collect.Goals as goal

given-items : (ts : Items) (i : ℕ) → given (numbered i (item_list ts)) ≡ []
given-items no_items i = refl
given-items (item t ts) i = given-items ts (i + 1 + below t)

given-members : (ms : Members) (i : ℕ) → given (numbered i (member_list ms)) ≡ member_keys ms
given-members no_members i = refl
given-members (member k t ms) i = ap (λ (ks : List (List ℕ)). k ∷ ks) (given-members ms (i + 1 + below t))

given-children : (t : Tree) (i : ℕ) → given (numbered i (children t)) ≡ keys t
given-children null i = refl
given-children (truth b) i = refl
given-children (string s) i = refl
given-children (number v) i = refl
given-children (array ts) i = given-items ts i
given-children (object ms) i = given-members ms i

pub loop-child-init : goal.loop-child-init
loop-child-init c =
    let n = c.args.node in
    ap (λ (ks : List (Bor (List ℕ))). texts ks ++ given c.children-children.result) c.clear.ensures.items ∙ ap given c.children-children.ensures ∙ given-children (subtree n.doc.now n.at) (n.at + 1)
