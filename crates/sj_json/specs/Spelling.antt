-- How a JSON text spells a tree (RFC 8259). Each rule splits the whole text. White space may stand
-- before each token, and at the end.
use Rattle.std.specs.Prelude.{◌≡◌, ℕ, ◌≤◌, List, [], ◌∷◌, ◌++◌, length, true, false, codes, IsUtf8}
use Rattle.std.specs.List.{AllByRecursion}
use Rattle.sj_base.specs.ByteClasses.{is_blank}
use Rattle.sj_decimal.specs.Number.{SpellsExact, SpellsWide}
use Rattle.sj_json.specs.Strings.{Quoted}
use Rattle.sj_json.specs.Tree.{Number, exact, wide, Tree, null, truth, string, number, array, object, Items, no_items, item, Members, no_members, member, depth}

abbrev pub IsBlank : ℕ → Type 0
IsBlank b = is_blank b ≡ true

abbrev pub Blank : List ℕ → Type 0
Blank bs = AllByRecursion IsBlank bs

-- white space, and then P
abbrev pub Spaced : (List ℕ → Type 0) → List ℕ → Type 0
Spaced P b = (w : List ℕ) × (v : List ℕ) × Blank w × P v × (b ≡ w ++ v)

abbrev pub Sign : ℕ → List ℕ → Type 0
Sign c b = b ≡ c ∷ []

-- a number: in the tree it has its value, or where that is not exact its spelling
abbrev pub SpellsNumber : Number → List ℕ → Type 0
SpellsNumber (exact d) b = SpellsExact b d
SpellsNumber (wide s) b = SpellsWide b × (b ≡ s)

abbrev mutual
  pub Spells : Tree → List ℕ → Type 0
  Spells null b = b ≡ codes "null"
  Spells (truth true) b = b ≡ codes "true"
  Spells (truth false) b = b ≡ codes "false"
  Spells (string s) b = Quoted s b
  Spells (number v) b = SpellsNumber v b
  Spells (array ts) b = (x : List ℕ) × (y : List ℕ) × SpellsItems ts x × Spaced (Sign 93) y × (b ≡ 91 ∷ x ++ y)
  Spells (object ms) b = (x : List ℕ) × (y : List ℕ) × SpellsMembers ms x × Spaced (Sign 125) y × (b ≡ 123 ∷ x ++ y)

  pub SpellsItems : Items → List ℕ → Type 0
  SpellsItems no_items b = b ≡ []
  SpellsItems (item t ts) b = (x : List ℕ) × (y : List ℕ) × Spaced (Spells t) x × SpellsMoreItems ts y × (b ≡ x ++ y)

  -- each after a comma
  pub SpellsMoreItems : Items → List ℕ → Type 0
  SpellsMoreItems no_items b = b ≡ []
  SpellsMoreItems (item t ts) b = (c : List ℕ) × (x : List ℕ) × (y : List ℕ) × Spaced (Sign 44) c × Spaced (Spells t) x × SpellsMoreItems ts y × (b ≡ c ++ (x ++ y))

  pub SpellsMembers : Members → List ℕ → Type 0
  SpellsMembers no_members b = b ≡ []
  SpellsMembers (member k t ms) b =
      (l : List ℕ) × (d : List ℕ) × (x : List ℕ) × (y : List ℕ) × Spaced (Quoted k) l × Spaced (Sign 58) d × Spaced (Spells t) x × SpellsMoreMembers ms y × (b ≡ l ++ (d ++ (x ++ y)))

  pub SpellsMoreMembers : Members → List ℕ → Type 0
  SpellsMoreMembers no_members b = b ≡ []
  SpellsMoreMembers (member k t ms) b =
      (c : List ℕ) × (l : List ℕ) × (d : List ℕ) × (x : List ℕ) × (y : List ℕ) × Spaced (Sign 44) c × Spaced (Quoted k) l × Spaced (Sign 58) d × Spaced (Spells t) x × SpellsMoreMembers ms y
      × (b ≡ c ++ (l ++ (d ++ (x ++ y))))

-- the whole text
abbrev pub SpellsText : Tree → List ℕ → Type 0
SpellsText t b = (x : List ℕ) × (w : List ℕ) × Spaced (Spells t) x × Blank w × (b ≡ x ++ w)

-- ---- within the limits

-- the greatest length of a text, in bytes
abbrev pub max_length : ℕ
max_length = 16777216

-- the greatest number of arrays and objects that may be open at one place
abbrev pub max_depth : ℕ
max_depth = 100000

-- The bytes are a JSON text: well-formed UTF-8 within the limits that spells a tree.
abbrev pub IsJson : List ℕ → Type 0
IsJson b = IsUtf8 b × (length b ≤ max_length) × ((t : Tree) × SpellsText t b × (depth t ≤ max_depth))
