-- Going through all items while their texts are put together. Private clauses alone cite this.
use Rattle.std.specs.Prelude.{List, [], ◌∷◌, Bool, true, false}
use Rattle.sj_doc.specs.declared.node.Kind.{Kind}
use Rattle.sj_item.specs.Items.{ItemValue}
use Rattle.sj_value.specs.declared.clauses.Wrapper.{Wrapper}
use Rattle.sj_value.specs.declared.clauses.Wrapper.TheVariants as wrappers
use Rattle.sj_func.specs.Functions.{is_structured}

abbrev pub has_some : List ItemValue → Bool
has_some [] = false
has_some (x ∷ xs) = true

-- an item of this kind stays without brackets, where others follow it or not
abbrev pub stays : Wrapper → Kind → Bool → Bool
stays wrappers.Conditional kind true = false
stays wrappers.Conditional kind false = is_structured kind
stays wrappers.Unconditional kind others = false
stays wrappers.Without kind others = false
