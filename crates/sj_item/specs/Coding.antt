-- How the logic stores an item: the pairs that stand around a value, from the outside in, and the value.
use Rattle.std.specs.Prelude.{◌≡◌, ℕ, ℤ, List, [], ◌∷◌, Bool, false, cond, ◌==◌, pos, refl}
use Rattle.std.specs.Coded.{Coded, code_by, coded×, coded_ℕ, coded_ℤ, coded_list, coded_bool}
use Rattle.std.proofs.Common.{ap}
use Rattle.sj_json.specs.Tree.{Tree, null}
use Rattle.sj_json.specs.Coding.{tree_code}
use Rattle.sj_item.specs.Items.{ItemValue, node, made_number, made_text, made_truth, made_null, made_pair}

-- the names and ids of the pairs
abbrev pub Frames : Type 0
Frames = List (List ℕ × ℤ)

-- what is no pair: which of the others it is, a number and a tree, a decimal, a text and a truth value
abbrev pub Plain : Type 0
Plain = ℕ × (ℕ × (Tree × (ℤ × (ℕ × (List ℕ × Bool)))))

abbrev pub Stored : Type 0
Stored = Frames × Plain

abbrev pub framed : List ℕ → ℤ → Stored → Stored
framed name id s = ((name, id) ∷ s.0, s.1)

abbrev pub item_to : ItemValue → Stored
item_to (node i t) = ([], (0, (i, (t, (pos 0, (0, ([], false)))))))
item_to (made_number d) = ([], (1, (0, (null, (d.0, (d.1, ([], false)))))))
item_to (made_text s) = ([], (2, (0, (null, (pos 0, (0, (s, false)))))))
item_to (made_truth b) = ([], (3, (0, (null, (pos 0, (0, ([], b)))))))
item_to made_null = ([], (4, (0, (null, (pos 0, (0, ([], false)))))))
item_to (made_pair name value id) = framed name id (item_to value)

abbrev pub plain_from : Plain → ItemValue
plain_from p =
    cond (p.0 == 0) (node p.1.0 p.1.1.0) (cond (p.0 == 1) (made_number (p.1.1.1.0, p.1.1.1.1.0)) (cond (p.0 == 2) (made_text p.1.1.1.1.1.0)
    (cond (p.0 == 3) (made_truth p.1.1.1.1.1.1) made_null)))

abbrev pub framed_from : Frames → ItemValue → ItemValue
framed_from [] x = x
framed_from (f ∷ fs) x = made_pair f.0 (framed_from fs x) f.1

abbrev pub item_from : Stored → ItemValue
item_from s = framed_from s.0 (plain_from s.1)

pub item_from-item_to : (x : ItemValue) → item_from (item_to x) ≡ x
item_from-item_to (node i t) = refl
item_from-item_to (made_number d) = refl
item_from-item_to (made_text s) = refl
item_from-item_to (made_truth b) = refl
item_from-item_to made_null = refl
item_from-item_to (made_pair name value id) = ap (λ x. made_pair name x id) (item_from-item_to value)

abbrev pub item_code : Coded ItemValue
item_code =
    code_by Stored (coded× (coded_list (coded× (coded_list coded_ℕ) coded_ℤ)) (coded× coded_ℕ (coded× coded_ℕ (coded× tree_code (coded× coded_ℤ (coded× coded_ℕ (coded× (coded_list coded_ℕ) coded_bool)))))))
    item_to item_from item_from-item_to
