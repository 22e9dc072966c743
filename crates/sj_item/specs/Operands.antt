-- What a cast looks at of an item. Private clauses alone cite it.
use Rattle.std.specs.Prelude.{◌≡◌, ⊤}
use Rattle.sj_decimal.specs.Text.{decimal_text}
use Rattle.sj_json.specs.Tree.{exact, wide, Tree, null, truth, string, number, array, object}
use Rattle.sj_item.specs.declared.casts.Operand.{Operand}
use Rattle.sj_item.specs.declared.casts.Operand.TheVariants.{Null, Num, Wide, Text, NumberText, Bool as Logical, Structured}

-- an array or an object
abbrev pub IsStructured : Tree → Type 0
IsStructured null = ⊥
IsStructured (truth b) = ⊥
IsStructured (string s) = ⊥
IsStructured (number n) = ⊥
IsStructured (array ts) = ⊤
IsStructured (object ms) = ⊤

-- the tree is cast as this
abbrev pub CastsAs : Tree → Operand → Type 0
CastsAs t Null = t ≡ null
CastsAs t (Logical b) = t ≡ truth b
CastsAs t (Num d) = t ≡ number (exact d)
CastsAs t (Wide s) = t ≡ number (wide s.now)
CastsAs t (Text s) = t ≡ string s.now
CastsAs t (NumberText d) = t ≡ string (decimal_text d)
CastsAs t Structured = IsStructured t
