-- What a `Num` stands for.
use Rattle.std.specs.Prelude.{}
use Rattle.sj_json.specs.Tree.{Number, exact, wide}
use Rattle.sj_doc.specs.declared.doc.Num.{Num}
use Rattle.sj_doc.specs.declared.doc.Num.TheVariants as nums

abbrev pub number_in : Num → Number
number_in (nums.Exact d) = exact d
number_in (nums.Wide s) = wide s.now
