-- What a step of the reader does, against the reader of bytes.
use Rattle.std.specs.Prelude.{◌≡◌, ℕ, ◌+◌, ◌<◌, ◌≤◌, ◌==◌, List, length, drop, Bool, false, Some, None, Result, Ok, Err, IfOk, slice_index, ⊤}
use Rattle.sj_base.specs.ByteClasses.{is_blank}
use Rattle.sj_json.specs.Tree.{Tree}
use Rattle.sj_json.specs.Building.{Part, top, elements, pairs, State, TakesValue, TakesKey, with_value}
use Rattle.sj_json.specs.Machine as machine
use Rattle.sj_json.specs.Machine.{run}
use Rattle.sj_json.specs.Spelling.{max_length}
use Rattle.sj_doc.specs.Builders.{feeds_behind, node_total}
use Rattle.sj_read.specs.declared.reader.Mode.{Mode}
use Rattle.sj_read.specs.declared.reader.Mode.TheVariants.{Value, ValueOrClose, Key, KeyOrClose, Colon, AfterValue}
use Rattle.sj_read.specs.declared.reader.Place.{Place}
use Rattle.sj_read.specs.declared.reader.Place.TheVariants.{Member, Anywhere}
use Rattle.sj_read.specs.declared.reader.ReadRefusal.{ReadRefusal}
use Rattle.sj_read.specs.declared.reader.ReadRefusal.TheVariants.{NotJson, Memory}

-- the greatest length of a line as it is held, with the line feeds behind it
abbrev pub most_held : ℕ
most_held = max_length + feeds_behind

abbrev pub mode_of : Mode → machine.Mode
mode_of Value = machine.value
mode_of ValueOrClose = machine.value_or_close
mode_of Key = machine.key
mode_of KeyOrClose = machine.key_or_close
mode_of Colon = machine.colon
mode_of AfterValue = machine.after_value

-- a container closes right behind the bracket that opens it
abbrev pub closes_at : Mode → ℕ → Bool
closes_at Value c = false
closes_at ValueOrClose c = c == 93
closes_at Key c = false
closes_at KeyOrClose c = c == 125
closes_at Colon c = false
closes_at AfterValue c = false

-- a value or a key has just come to its end
abbrev pub HasValue : Part → Type 0
HasValue (top None) = ⊥
HasValue (top (Some t)) = ⊤
HasValue (elements ts) = ⊤
HasValue (pairs ms None) = ⊤
HasValue (pairs ms (Some k)) = ⊥

abbrev pub FirstElement : Part → Type 0
FirstElement (top o) = ⊥
FirstElement (elements ts) = ⊤
FirstElement (pairs ms k) = ⊥

-- a key was given, and its value comes next
abbrev pub HasKey : Part → Type 0
HasKey (top o) = ⊥
HasKey (elements ts) = ⊥
HasKey (pairs ms None) = ⊥
HasKey (pairs ms (Some k)) = ⊤

-- a value comes where it is known to come
abbrev pub StandsIn : Place → State → Type 0
StandsIn Member s = HasKey s.0
StandsIn Anywhere s = ⊤

-- a value has come where it was known to come
abbrev pub StoodIn : Place → State → Type 0
StoodIn Member s = TakesKey s.0
StoodIn Anywhere s = ⊤

-- a value was put in
abbrev pub HasTaken : State → State → Type 0
HasTaken s new = (t : Tree) × (new ≡ with_value t s)

-- the builder takes what the mode wants
abbrev pub Ready : machine.Mode → State → Type 0
Ready machine.value s = TakesValue s.0
Ready machine.value_or_close s = FirstElement s.0
Ready machine.key s = TakesKey s.0
Ready machine.key_or_close s = TakesKey s.0
Ready machine.colon s = HasKey s.0
Ready machine.after_value s = HasValue s.0
Ready (machine.letters r t) s = ⊥
Ready (machine.quoted k x) s = ⊥
Ready (machine.escaped k x e) s = ⊥
Ready (machine.digits a) s = ⊥

-- The builder takes what the mode wants, the line has a byte at the place, and as many nodes as the builder holds fit before it.
pub record Poised (m : machine.Mode) (b : State × List ℕ) (at : ℕ) : Type 0 where
  pub within : (at + feeds_behind < length b.1) × (length b.1 ≤ most_held)
  pub ready : Ready m b.0
  pub room : node_total b.0 ≤ at

-- So it is poised, and the token that begins with this byte is at the place.
pub record Token (m : machine.Mode) (b : State × List ℕ) (at byte : ℕ) : Type 0 where
  pub poised : Poised m b at
  pub here : slice_index b.1 at ≡ byte
  pub not_blank : is_blank byte ≡ false

abbrev pub TakesOneKey : State → Type 0
TakesOneKey s = TakesKey s.0

-- the rest of the text from the one place is read as the rest from the other is
pub record Went (limit : ℕ) (m : machine.Mode) (s : State) (text : List ℕ) (at : ℕ) (n : Mode) (to : ℕ) (t : State) : Type 0 where
  pub same : run limit m s (drop at text) ≡ run limit (mode_of n) t (drop to text)
  pub later : at < to
  pub within : to + feeds_behind ≤ length text
  pub ready : Ready (mode_of n) t
  pub room : node_total t ≤ to

-- a step that leads to the mode n, if to any
abbrev pub Turns : ℕ → Mode → Result ℕ ReadRefusal → machine.Mode → State → List ℕ → ℕ → State → Type 0
Turns limit n (Ok to) m s text at t = Went limit m s text at n to t
Turns limit n (Err NotJson) m s text at t = run limit m s (drop at text) ≡ None
Turns limit n (Err Memory) m s text at t = ⊤

-- a step of a builder, which leaves the line that it holds as it is
pub record Led (limit : ℕ) (n : Mode) (r : Result ℕ ReadRefusal) (m : machine.Mode) (old : State × List ℕ) (at : ℕ) (new : State × List ℕ) : Type 0 where
  pub turns : Turns limit n r m old.0 old.1 at new.0
  pub line : new.1 ≡ old.1

-- such a step over a value
pub record TookValue (limit : ℕ) (n : Mode) (r : Result ℕ ReadRefusal) (m : machine.Mode) (old : State × List ℕ) (at : ℕ) (new : State × List ℕ) : Type 0 where
  pub turns : Turns limit n r m old.0 old.1 at new.0
  pub taken : IfOk r (λ _. HasTaken old.0 new.0)
  pub line : new.1 ≡ old.1
