-- How the items of an expression are taken: each as it is, or unwrapped.
use Rattle.sj_path_tree.specs.declared.parts.Mode.{Mode}
use Rattle.sj_item.specs.Items.{ItemValue}
use Rattle.sj_step.specs.Trace.{Trace, only}
use Rattle.sj_step.specs.Reach.{unwrap}
use Rattle.sj_plain_path.specs.declared.opening.Opening.{Opening}
use Rattle.sj_plain_path.specs.declared.opening.Opening.TheVariants.{AsItIs, Unwrapped}

abbrev pub opened : Opening → Mode → ItemValue → Trace
opened AsItIs mode x = only x
opened Unwrapped mode x = unwrap mode x
