-- Lists that have an end: they are done, or a state was raised.
use Rattle.std.specs.Prelude.{ℕ, ◌+◌, List, [], ◌∷◌, Option, Some, None}
use Rattle.sj_base.specs.declared.state.State.{State}

pub data Series (A : Type 0) : Type 0 where
  -- there is nothing more
  done : Series A
  -- it ends here, in this state
  raises : State → Series A
  -- an element, and then the rest
  more : A → Series A → Series A

-- its elements in order
abbrev pub elements : {A : Type 0} → Series A → List A
elements done = []
elements (raises s) = []
elements (more x xs) = x ∷ elements xs

-- the state in which it ends, none where it ends well
abbrev pub end_of : {A : Type 0} → Series A → Option State
end_of done = None
end_of (raises s) = Some s
end_of (more x xs) = end_of xs

-- xs, and then ys where xs ends well
abbrev pub chain : {A : Type 0} → Series A → Series A → Series A
chain done ys = ys
chain (raises s) ys = raises s
chain (more x xs) ys = more x (chain xs ys)

-- each element of xs replaced by what g makes of it, up to the first state
abbrev pub each : {A B : Type 0} → Series A → (A → Series B) → Series B
each done g = done
each (raises s) g = raises s
each (more x xs) g = chain (g x) (each xs g)

-- a number for each element, added up
abbrev pub sum_over : {A : Type 0} → Series A → (A → ℕ) → ℕ
sum_over done f = 0
sum_over (raises s) f = 0
sum_over (more x xs) f = f x + sum_over xs f

-- how many elements there are
abbrev pub size : {A : Type 0} → Series A → ℕ
size done = 0
size (raises s) = 0
size (more x xs) = size xs + 1

-- ---- a series that is taken element by element

-- the first of its elements, where they are lists, and the empty list where there is none
abbrev pub first : {A : Type 0} → Series (List A) → List A
first done = []
first (raises s) = []
first (more x xs) = x

-- what is left behind the first element, and the end alone where there is none
abbrev pub rest : {A : Type 0} → Series A → Series A
rest done = done
rest (raises s) = raises s
rest (more x xs) = xs
