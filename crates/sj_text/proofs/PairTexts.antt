-- The text of a pair, part by part.
use Rattle.std.proofs.Common.{◌≡◌, ℕ, ℤ, List, [], ◌++◌, codes, ap, ◌∙◌, append_assoc, append-nil}
use Rattle.sj_decimal.specs.Text.{decimal_text}
use Rattle.sj_json.specs.Tree.{Tree}
use Rattle.sj_json.specs.Printing.{printed, printed_string}
use Rattle.sj_item.specs.Items.{pair_tree}

abbrev pub name_part : List ℕ → List ℕ
name_part name = codes "{\"name\":" ++ printed_string name

abbrev pub value_part : Tree → List ℕ
value_part value = codes ",\"value\":" ++ printed value

abbrev pub id_part : ℤ → List ℕ
id_part id = codes ",\"id\":" ++ (decimal_text (id, 0) ++ codes "}")

-- behind the name, the texts of the value and the id
join : (name value id : List ℕ)
    → (name ++ (codes ",\"value\":" ++ (value ++ (codes ",\"id\":" ++ (id ++ []))))) ++ codes "}" ≡ name ++ ((codes ",\"value\":" ++ value) ++ (codes ",\"id\":" ++ (id ++ codes "}")))
join name value id =
    append_assoc name (codes ",\"value\":" ++ (value ++ (codes ",\"id\":" ++ (id ++ [])))) (codes "}")
    ∙ ap (λ l. name ++ (codes ",\"value\":" ++ l))
    (append_assoc value (codes ",\"id\":" ++ (id ++ [])) (codes "}") ∙ ap (λ l. value ++ (codes ",\"id\":" ++ (l ++ codes "}"))) (append-nil id))

pub printed_pair : (name : List ℕ) (value : Tree) (id : ℤ) → printed (pair_tree name value id) ≡ name_part name ++ (value_part value ++ id_part id)
printed_pair name value id = ap (λ l. codes "{\"name\":" ++ l) (join (printed_string name) (printed value) (decimal_text (id, 0)))
