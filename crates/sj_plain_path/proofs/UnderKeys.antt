-- The members under a key, each with what is made of it.
use Rattle.std.proofs.Common.{◌≡◌, ℕ, ◌-◌, List, [], ◌∷◌, map, length, true, false, ap, ◌∙◌, refl}
use Rattle.std.specs.Prelude.{if◌then◌else◌}
use Rattle.sj_json.specs.Tree.{NumberedChild}
use Rattle.sj_doc.specs.Keyed.{is_key, from_key}
use Rattle.sj_doc.specs.declared.node.Kind.{Kind}
use Rattle.sj_doc.specs.declared.node.Kind.TheVariants as kinds
use Rattle.sj_path_tree.specs.declared.parts.Mode.TheVariants.{Lax}
use Rattle.sj_item.specs.Items.{ItemValue, node}
use Rattle.sj_step.specs.Reach.{on_kind, by_key, child_item, under_key}
use Rattle.sj_step.specs.Trace.{Trace, stop, visit, give, after_visits, join, each}
use Rattle.sj_step.proofs.Keyed.{gives_first, gives_none}
use Rattle.sj_step.proofs.Traces.{each-after_visits}

-- what is no object has no members
pub without_members : (k : Kind) (key : List ℕ) (x : ItemValue) → (k ≡ kinds.Object → ⊥) → on_kind k (by_key key) Lax x ≡ stop
without_members kinds.Null key x other = refl
without_members kinds.Truth key x other = refl
without_members kinds.Number key x other = refl
without_members kinds.String key x other = refl
without_members kinds.Array key x other = refl
without_members kinds.Object key x other = absurd (other refl)

abbrev pub members_under : List ℕ → (ItemValue → Trace) → List NumberedChild → Trace
members_under key within cs = each (under_key 1 Lax key false (map child_item cs)) within

-- in lax mode it makes no difference whether one was found before
found_or_not : (key : List ℕ) (cs : List NumberedChild) → under_key 1 Lax key true (map child_item cs) ≡ under_key 1 Lax key false (map child_item cs)
found_or_not key [] = refl
found_or_not key (c ∷ cs) = ap (λ u. visit (if is_key key c.0 then give (child_item c).1 (under_key 1 Lax key true (map child_item cs)) else u)) (found_or_not key cs)

pub members_first : (key : List ℕ) (within : ItemValue → Trace) (c : NumberedChild) (cs ms : List NumberedChild) → from_key key cs ≡ c ∷ ms
    → members_under key within cs ≡ after_visits (length cs - length ms) (join (within (node c.1 c.2)) (members_under key within ms))
members_first key within c cs ms e =
    let n = length cs - length ms in
    ap (λ u. each u within) (gives_first Lax key false c ms cs e)
    ∙ each-after_visits n (give (child_item c).1 (under_key 1 Lax key true (map child_item ms))) within
    ∙ ap (λ u. after_visits n (join (within (node c.1 c.2)) (each u within))) (found_or_not key ms)

pub members_none : (key : List ℕ) (within : ItemValue → Trace) (cs : List NumberedChild) → from_key key cs ≡ [] → members_under key within cs ≡ after_visits (length cs) stop
members_none key within cs e = ap (λ u. each u within) (gives_none Lax key false cs e) ∙ each-after_visits (length cs) stop within
