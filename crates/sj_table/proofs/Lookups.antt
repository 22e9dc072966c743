-- The entry of a path in rows that stand beside one another.
use Rattle.std.proofs.Common.{◌≡◌, ℕ, Bool, true, false, cond, eqb, [], ◌∷◌, ◌++◌, Option, None, Some, refl}
use Rattle.sj_item.specs.Items.{ItemValue}
use Rattle.sj_table.specs.Rows.{Row, entry}

none_of : (b : Bool) (v : ItemValue × ℕ) (y : Option (ItemValue × ℕ)) → cond b (Some v) y ≡ None → (b ≡ false) × (y ≡ None)
none_of true v y h = cc
none_of false v y h = (refl, h)

some_of : (b : Bool) (v w : ItemValue × ℕ) (y z : Option (ItemValue × ℕ)) → (y ≡ Some w → z ≡ Some w) → cond b (Some v) y ≡ Some w → cond b (Some v) z ≡ Some w
some_of true v w y z k h = h
some_of false v w y z k h = k h

-- the first row lacks the path
pub entry_behind : (path : ℕ) (r s : Row) → entry path r ≡ None → entry path (r ++ s) ≡ entry path s
entry_behind path [] s h = refl
entry_behind path (e ∷ r) s h =
    let k = none_of (eqb path e.path) (e.item, e.ordinal) (entry path r) h in
    rw k.0 (entry_behind path r s k.1)

-- the first row has it
pub entry_first : (path : ℕ) (r s : Row) (w : ItemValue × ℕ) → entry path r ≡ Some w → entry path (r ++ s) ≡ Some w
entry_first path [] s w h = cc
entry_first path (e ∷ r) s w h = some_of (eqb path e.path) (e.item, e.ordinal) w (entry path r) (entry path (r ++ s)) (entry_first path r s w) h
