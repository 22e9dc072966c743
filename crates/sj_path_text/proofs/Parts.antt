-- The text of a list of subscripts, part by part.
use Rattle.std.proofs.Common.{◌≡◌, ℕ, ◌+◌, ◌<◌, List, ◌++◌, length, get_or, drop, codes, sym, ap, subst, ◌∙◌, Result, OnErr}
use Rattle.std.proofs.lemmas.List.{at_drop_more}
use Rattle.sj_path_tree.specs.declared.tree.Sub.{Sub}
use Rattle.sj_path_tree.specs.View.{sub_of, subs_of}
use Rattle.sj_text.specs.Prefixes.{AppendsPrefix}
use Rattle.sj_text.proofs.Appends.{Appending, at_error, grows_to, stops}
use Rattle.sj_path_text.specs.Text.{sub_text, subs_text}

-- the next part, and those behind it
next_part : (lead : List ℕ) (subs : List Sub) (i : ℕ) (s : Sub) → i < length subs → s ≡ get_or subs i s
    → subs_text lead (subs_of (drop i subs)) ≡ lead ++ (sub_text (sub_of s) ++ subs_text (codes ", ") (subs_of (drop (i + 1) subs)))
next_part lead subs i s h is =
    at_drop_more (λ (l : List Sub). subs_text lead (subs_of l)) subs i s h
    ∙ ap (λ (x : Sub). lead ++ (sub_text (sub_of x) ++ subs_text (codes ", ") (subs_of (drop (i + 1) subs)))) (sym is)

-- the next part stops, behind its lead
pub stops_in_part : {T E : Type 0} (r : Result T E) (old text new led last lead : List ℕ) (subs : List Sub) (i : ℕ) (s : Sub) → i < length subs → s ≡ get_or subs i s
    → Appending old text new (subs_text lead (subs_of (drop i subs))) → led ≡ new ++ lead → AppendsPrefix led (sub_text (sub_of s)) last → OnErr r (AppendsPrefix old text last)
stops_in_part r old text new led last lead subs i s h is a came p =
    let others = subs_text (codes ", ") (subs_of (drop (i + 1) subs)) in
    at_error r (stops old text led (sub_text (sub_of s)) others last
    (grows_to old text new lead (sub_text (sub_of s) ++ others) led (subst (λ (l : List ℕ). Appending old text new l) (next_part lead subs i s h is) a) came) p)
