-- In strict mode nothing is unwrapped.
use Rattle.std.proofs.Common.{◌≡◌, ◌∙◌}
use Rattle.sj_doc.specs.Kinds.{kind_of}
use Rattle.sj_doc.specs.declared.node.Kind.{Kind}
use Rattle.sj_doc.specs.declared.node.Kind.TheVariants as kinds
use Rattle.sj_item.specs.Items.{ItemValue, item_tree}
use Rattle.sj_path_tree.specs.declared.parts.Mode.TheVariants.{Strict}
use Rattle.sj_step.specs.Trace.{Trace, only}
use Rattle.sj_step.specs.Reach.{reach, on_kind, unwrapped, unwrap, spread}
use Rattle.sj_step.proofs.Traces.{each-only, each_cong}
use Rattle.std.proofs.Common.{refl}

on_kind_strict : (k : Kind) (x : ItemValue) → on_kind k unwrapped Strict x ≡ only x
on_kind_strict kinds.Null x = refl
on_kind_strict kinds.Truth x = refl
on_kind_strict kinds.Number x = refl
on_kind_strict kinds.String x = refl
on_kind_strict kinds.Array x = refl
on_kind_strict kinds.Object x = refl

pub unwrap_strict : (x : ItemValue) → unwrap Strict x ≡ only x
unfolding reach
unwrap_strict x = on_kind_strict (kind_of (item_tree x)) x

pub spread_strict : (t : Trace) → spread Strict t ≡ t
spread_strict t = each_cong t (unwrap Strict) only unwrap_strict ∙ each-only t
