-- An item that is no array is not unwrapped.
use Rattle.std.proofs.Common.{◌≡◌, refl}
use Rattle.sj_doc.specs.Kinds.{kind_of}
use Rattle.sj_doc.specs.declared.node.Kind.{Kind}
use Rattle.sj_doc.specs.declared.node.Kind.TheVariants as kinds
use Rattle.sj_doc.specs.declared.doc.NodeRef.{NodeRef}
use Rattle.sj_path_tree.specs.declared.parts.Mode.{Mode}
use Rattle.sj_item.specs.Items.{ItemValue, item_value, item_tree}
use Rattle.sj_item.specs.declared.item.Item.{Item}
use Rattle.sj_item.specs.declared.item.Item.TheVariants as items
use Rattle.sj_step.specs.Trace.{only}
use Rattle.sj_step.specs.Reach.{reach, unwrap, unwrapped, on_kind}

kind_unopened : (k : Kind) (mode : Mode) (x : ItemValue) → (k ≡ kinds.Array → ⊥) → on_kind k unwrapped mode x ≡ only x
kind_unopened kinds.Null mode x other = refl
kind_unopened kinds.Truth mode x other = refl
kind_unopened kinds.Number mode x other = refl
kind_unopened kinds.String mode x other = refl
kind_unopened kinds.Array mode x other = absurd (other refl)
kind_unopened kinds.Object mode x other = refl

pub unopened : (mode : Mode) (x : ItemValue) → (kind_of (item_tree x) ≡ kinds.Array → ⊥) → unwrap mode x ≡ only x
unfolding reach
unopened mode x other = kind_unopened (kind_of (item_tree x)) mode x other

-- an item that the path made
pub made_unopened : (mode : Mode) (x : Item) → ((node : NodeRef) → x ≡ items.Node node → ⊥) → unwrap mode (item_value x) ≡ only (item_value x)
unfolding reach
made_unopened mode (items.Node node) other = absurd (other node refl)
made_unopened mode (items.Num number) other = refl
made_unopened mode (items.Text text) other = refl
made_unopened mode (items.NumberText number) other = refl
made_unopened mode (items.Bool truth) other = refl
made_unopened mode items.Null other = refl
made_unopened mode (items.Pair pair) other = refl
