-- What the fields of a `DocBuilder` stand for.
use Rattle.std.specs.Prelude.{◌≡◌, ◌≢◌, ℕ, ◌+◌, ◌-◌, ◌≤◌, ◌<◌, List, [], ◌∷◌, ◌++◌, length, get_or, slice_index, replicate, take, IsUtf8, Bool, true, false, Option, None, option_map, IfSome}
use Rattle.std.specs.List.{AllByRecursion}
use Rattle.std.specs.Coded.{Coded, coded×, coded_list, coded_ℕ}
use Rattle.sj_json.specs.Coding.{state_code}
use Rattle.sj_json.specs.Building.{Part, top, elements, pairs, State, IsState, laid, part_key, part_kids, place, state_of}
use Rattle.sj_doc.specs.Limits.{most_nodes, text_bound}
use Rattle.sj_doc.specs.declared.node.Span.{Span}
use Rattle.sj_doc.specs.declared.node.Node.{Node}
use Rattle.sj_doc.specs.declared.node.Body.{Body}
use Rattle.sj_doc.specs.declared.builder.OpenTree.{OpenTree}
use Rattle.sj_doc.specs.declared.builder.Innermost.{Innermost}
use Rattle.sj_doc.specs.declared.builder.Innermost.TheVariants.{Top, Array, Object}
use Rattle.sj_json.specs.Links.{laid_ups}
use Rattle.sj_doc.specs.Kinds.{opens_object}
use Rattle.sj_doc.specs.Nodes.{text_in, entries, AreLinks, IsSpan, IsNode}

-- the document so far, and the line with the line feeds behind it
abbrev pub Building : Type 0
Building = State × List ℕ

abbrev pub building_code : Coded Building
building_code = coded× state_code (coded_list coded_ℕ)

-- how many line feeds stand behind a line that is held
abbrev pub feeds_behind : ℕ
feeds_behind = 16

-- a line as it is held
abbrev pub held : List ℕ → List ℕ
held line = line ++ replicate feeds_behind 10

-- the line of a text that is held
abbrev pub line_in : List ℕ → List ℕ
line_in text = take (length text - feeds_behind) text

-- a line that was copied, with the line feeds, and no node
pub record IsCopied (arena : List ℕ) (nodes : List Node) : Type 0 where
  pub whole : arena ≡ held (line_in arena)
  pub narrow : length arena < text_bound
  pub empty : nodes ≡ []

-- so many bytes stand behind each byte that is no line feed
abbrev pub EndsInFeeds : List ℕ → Type 0
EndsInFeeds text = (i : ℕ) → i < length text → slice_index text i ≢ 10 → i + 1 + feeds_behind ≤ length text

-- the first so many bytes are the line that is held, with the line feeds, or there is none
pub record IsLine (arena : List ℕ) (line : ℕ) : Type 0 where
  pub within : line ≤ length arena
  pub utf8 : IsUtf8 (take line arena)
  pub feeds : EndsInFeeds (take line arena)

abbrev pub built : List ℕ → List Node → Option Span → State
built arena nodes key = state_of (option_map (text_in arena) key) (entries arena nodes)

-- the nodes so far
abbrev pub node_total : State → ℕ
node_total s = length (laid s.0 s.1)

pub record IsBuilder (arena : List ℕ) (nodes : List Node) (key : Option Span) (inner : ℕ) (count : ℕ) (depth : ℕ) : Type 0 where
  pub part : Part
  pub outer : List Part
  pub shape : IsState part outer
  pub laid_out : entries arena nodes ≡ laid part outer
  pub linked : AreLinks (laid_ups part outer) nodes
  pub keyed : option_map (text_in arena) key ≡ part_key part
  pub inner_is : inner ≡ place part outer
  pub count_is : count ≡ length (part_kids part)
  pub depth_is : depth ≡ length outer
  pub fits : AllByRecursion (IsNode arena) nodes
  pub key_fits : IfSome key (IsSpan arena)
  pub small : length nodes ≤ most_nodes
  pub narrow : length arena < text_bound

abbrev pub IsOpenTree : List ℕ → OpenTree → Type 0
IsOpenTree arena t = IsBuilder arena t.nodes.items t.key t.inner t.count t.depth

abbrev pub built_tree : List ℕ → OpenTree → State
built_tree arena t = built arena t.nodes.items t.key

-- ---- the innermost open container

abbrev pub innermost_of : Part → Innermost
innermost_of (top o) = Top
innermost_of (elements ts) = Array
innermost_of (pairs ms k) = Object

abbrev pub innermost_opened : Bool → Innermost
innermost_opened false = Array
innermost_opened true = Object

-- it is kept beside the nodes
abbrev pub IsInside : List ℕ → OpenTree → Type 0
IsInside arena t = t.innermost ≡ innermost_of (built_tree arena t).0

-- the node at the place tells whether it is an object
abbrev pub Opens : List Node → ℕ → Bool → Type 0
Opens nodes inner b = (n : Node) × (n ≡ get_or nodes inner n) × (opens_object n.body ≡ b)

-- what it is, by its node and by how many are open
abbrev pub Tells : List Node → ℕ → ℕ → Innermost → Type 0
Tells nodes inner depth Top = depth ≡ 0
Tells nodes inner depth Array = (0 < depth) × Opens nodes inner false
Tells nodes inner depth Object = (0 < depth) × Opens nodes inner true

-- x was put at the end of the text, and the span has it
pub record Stores (old : List ℕ) (new : List ℕ) (x : List ℕ) (s : Span) : Type 0 where
  pub grown : new ≡ old ++ x
  pub narrow : length new < text_bound
  pub fits : IsSpan new s
  pub same : text_in new s ≡ x

-- a range by its ends
pub record IsBetween (from : ℕ) (to : ℕ) (s : Span) : Type 0 where
  pub start : s.start ≡ from
  pub len : s.len ≡ to - from

-- ---- the nodes of a builder, whatever its text

-- there is room for a node
pub record HasRoom (t : OpenTree) : Type 0 where
  pub few : length t.nodes.items < most_nodes
  pub counted : t.count ≤ length t.nodes.items

-- no node, and nothing is open
pub record IsEmpty (nodes : List Node) (t : OpenTree) : Type 0 where
  pub nodes_are : t.nodes.items ≡ nodes
  pub key_is : t.key ≡ None
  pub innermost_is : t.innermost ≡ Top
  pub inner_is : t.inner ≡ 0
  pub count_is : t.count ≡ 0
  pub depth_is : t.depth ≡ 0

-- the node comes last, under the key that was given, and is one more child of the innermost container
pub record Adds (t : OpenTree) (body : Body) (u : OpenTree) : Type 0 where
  pub nodes_are : u.nodes.items ≡ t.nodes.items ++ record { key = t.key; below = 0; body = body } ∷ []
  pub key_is : u.key ≡ None
  pub innermost_is : u.innermost ≡ t.innermost
  pub inner_is : u.inner ≡ t.inner
  pub count_is : u.count ≡ t.count + 1
  pub depth_is : u.depth ≡ t.depth

pub record Stays (t : OpenTree) (u : OpenTree) : Type 0 where
  pub nodes_are : u.nodes.items ≡ t.nodes.items
  pub key_is : u.key ≡ t.key
  pub innermost_is : u.innermost ≡ t.innermost
  pub inner_is : u.inner ≡ t.inner
  pub count_is : u.count ≡ t.count
  pub depth_is : u.depth ≡ t.depth
