-- How the logic stores a tree: as its layout, cell by cell.
use Rattle.std.specs.Prelude.{◌≡◌, ℕ, ℤ, unsigned_abs, List, [], Bool, false, cond, ◌==◌, Option, None, refl}
use Rattle.std.specs.Coded.{Coded, code_by, coded×, coded_ℕ, coded_list, coded_option, coded_bool}
use Rattle.std.proofs.Common.{ap}
use Rattle.sj_decimal.specs.Signed.{signed, is_negative, signed_parts}
use Rattle.sj_json.specs.Tree.{exact, wide, Tree, Child, item_list, member_list, NumberedChild}
use Rattle.sj_json.specs.Building.{Part, top, elements, pairs, State}
use Rattle.sj_json.specs.Cells.{Cell, null_cell, truth_cell, string_cell, number_cell, closed, opened, Entry, layout, tree_of, items_of, members_of}
use Rattle.sj_json.specs.Layouts.{tree_of-layout, items_of-item_list, members_of-member_list}

abbrev pub Stored : Type 0
Stored = ℕ × List ℕ × Bool × ℕ × ℕ

abbrev pub cell_to : Cell → Stored
cell_to null_cell = (0, [], false, 0, 0)
cell_to (truth_cell b) = (1, [], b, 0, 0)
cell_to (string_cell s) = (2, s, false, 0, 0)
cell_to (closed k n m) = (3, [], k, n, m)
cell_to (opened k n m) = (4, [], k, n, m)
cell_to (number_cell (exact d)) = (5, [], is_negative d.0, unsigned_abs d.0, d.1)
cell_to (number_cell (wide s)) = (6, s, false, 0, 0)

abbrev pub cell_from : Stored → Cell
cell_from p =
    cond (p.0 == 0) null_cell (cond (p.0 == 1) (truth_cell p.2) (cond (p.0 == 2) (string_cell p.1) (cond (p.0 == 3) (closed p.2 p.3 p.4)
    (cond (p.0 == 4) (opened p.2 p.3 p.4) (cond (p.0 == 5) (number_cell (exact (signed p.2 p.3, p.4))) (number_cell (wide p.1)))))))

pub cell_from-cell_to : (c : Cell) → cell_from (cell_to c) ≡ c
cell_from-cell_to null_cell = refl
cell_from-cell_to (truth_cell b) = refl
cell_from-cell_to (string_cell s) = refl
cell_from-cell_to (closed k n m) = refl
cell_from-cell_to (opened k n m) = refl
cell_from-cell_to (number_cell (exact d)) = ap (λ (c : ℤ). number_cell (exact (c, d.1))) (signed_parts d.0)
cell_from-cell_to (number_cell (wide s)) = refl

abbrev pub stored_code : Coded Stored
stored_code = code_by (ℕ × (List ℕ × (Bool × (ℕ × ℕ)))) (coded× coded_ℕ (coded× (coded_list coded_ℕ) (coded× coded_bool (coded× coded_ℕ coded_ℕ)))) (λ p. (p.0, (p.1, (p.2, (p.3, p.4))))) (λ p. (p.0, p.1.0, p.1.1.0, p.1.1.1.0, p.1.1.1.1)) (λ _. refl)

abbrev pub cell_code : Coded Cell
cell_code = code_by Stored stored_code cell_to cell_from cell_from-cell_to

abbrev pub key_code : Coded (Option (List ℕ))
key_code = coded_option (coded_list coded_ℕ)

abbrev pub tree_code : Coded Tree
tree_code = code_by (List Entry) (coded_list (coded× key_code cell_code)) (layout None) tree_of (tree_of-layout None)

abbrev pub kids_code : Coded (List Child)
kids_code = coded_list (coded× key_code tree_code)

-- ---- a document that is being built

abbrev pub StoredPart : Type 0
StoredPart = ℕ × Option Tree × List Child × Option (List ℕ)

abbrev pub part_to : Part → StoredPart
part_to (top o) = (0, o, [], None)
part_to (elements ts) = (1, None, item_list ts, None)
part_to (pairs ms k) = (2, None, member_list ms, k)

abbrev pub part_from : StoredPart → Part
part_from p = cond (p.0 == 0) (top p.1) (cond (p.0 == 1) (elements (items_of p.2)) (pairs (members_of p.2) p.3))

pub part_from-part_to : (p : Part) → part_from (part_to p) ≡ p
part_from-part_to (top o) = refl
part_from-part_to (elements ts) = ap elements (items_of-item_list ts)
part_from-part_to (pairs ms k) = ap (λ x. pairs x k) (members_of-member_list ms)

abbrev pub part_code : Coded Part
part_code =
    code_by (ℕ × (Option Tree × (List Child × Option (List ℕ)))) (coded× coded_ℕ (coded× (coded_option tree_code) (coded× kids_code key_code)))
    (λ p. ((part_to p).0, ((part_to p).1, ((part_to p).2, (part_to p).3)))) (λ p. part_from (p.0, p.1.0, p.1.1.0, p.1.1.1)) part_from-part_to

abbrev pub state_code : Coded State
state_code = coded× part_code (coded_list part_code)

abbrev pub numbered_code : Coded (List NumberedChild)
numbered_code = coded_list (code_by (Option (List ℕ) × (ℕ × Tree)) (coded× key_code (coded× coded_ℕ tree_code)) (λ p. (p.0, (p.1, p.2))) (λ p. (p.0, p.1.0, p.1.1)) (λ _. refl))
