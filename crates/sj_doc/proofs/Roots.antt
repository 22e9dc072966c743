-- The root of a document has no key.
use Rattle.std.specs.Prelude.{◌≡◌, refl, None}
use Rattle.sj_json.specs.Tree.{Tree, null, truth, string, number, array, object}
use Rattle.sj_doc.specs.Stops.{key_in}

pub no_key : (t : Tree) → key_in t 0 ≡ None
no_key null = refl
no_key (truth b) = refl
no_key (string s) = refl
no_key (number v) = refl
no_key (array ts) = refl
no_key (object ms) = refl
