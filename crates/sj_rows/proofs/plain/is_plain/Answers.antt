use Rattle.std.proofs.Common.{◌≡◌, ◌∙◌, ◌≤◌, ap, arith, List, ℕ, map, length}
use Rattle.std.proofs.lemmas.Bool.Decides.{nat_tests}
use Rattle.sj_rows.specs.RowText.{has_escape}
use Rattle.sj_rows.proofs.Windows.{plain_text, read_whole}
use Rattle.sj_rows.proofs.plain.is_plain.Goals as goal
use lib.Count.{count_trailing_zeros}
use lib.Lanes.{mask_l}

pub returns : goal.returns
returns c =
    λ none.
    let text = c.args.text.now in
    let window = c.args.window.now in
    let mask : c.escapes_in_16.result ≡ mask_l (map has_escape window) = c.escapes_in_16.ensures ∙ ap (λ (l : List ℕ). mask_l (map has_escape l)) (read_whole text window c.requires) in
    let within : length text ≤ count_trailing_zeros 64 c.escapes_in_16.result = grind (arith, nat_tests, none) in
    plain_text text window c.requires (omega (arith, within, ap (count_trailing_zeros 64) mask))
