use Rattle.std.proofs.Common.{◌↔◌, Some, None, IsTrue, slice_get, subst}
use Rattle.sj_bound.specs.Sound as sound
use Rattle.sj_bound.specs.View.{bound_of, item_of, items_of}
use Rattle.sj_bound.proofs.ViewLists.{item_at, some_is, none_is}
use Rattle.sj_bound.proofs.bound.Bound.is_key.Goals as goal

pub returns-in-Some : goal.returns-in-Some
returns-in-Some c =
    let items = c.args.self.now.items in
    some_is (sound.IsKeyItem (sound.columns_of (bound_of c.args.self.now).table)) c.is_key_item.result (slice_get (items_of items) c.args.number) (item_of c.in-Some.item.now)
    (item_at items c.args.number (Some c.in-Some.item.now) c.in-Some.ensures)
    (subst (λ columns. IsTrue c.is_key_item.result ↔ sound.IsKeyItem columns (item_of c.in-Some.item.now)) c.columns.ensures c.is_key_item.ensures)

pub returns-in-None : goal.returns-in-None
returns-in-None c =
    none_is (sound.IsKeyItem (sound.columns_of (bound_of c.args.self.now).table)) (slice_get (items_of c.args.self.now.items) c.args.number)
    (item_at c.args.self.now.items c.args.number None c.in-None.ensures)
