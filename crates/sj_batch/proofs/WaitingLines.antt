-- Reading the lines that wait.
use Rattle.std.proofs.Common.{◌≡◌, ◌≢◌, ◌↔◌, IsTrue, ℕ, ◌+◌, ◌<◌, List, [], ◌∷◌, ◌++◌, length, Bool, true, false, Option, Some, refl, sym, ◌∙◌, ap, arith, append_assoc, length-append}
use Rattle.std.proofs.lemmas.List.{append-nil}
use Rattle.std.specs.Bool.{one_answer}
use Rattle.sj_rows.specs.HeldLines.{HeldLines, gives, drained}
use Rattle.sj_json.specs.Tree.{Tree}
use Rattle.sj_json.specs.Keys.{HasUniqueKeys}
use Rattle.sj_json.specs.UniqueKeys.{has_unique_keys}
use Rattle.sj_json.proofs.Distinct.{unique_from, unique_to}
use Rattle.sj_file.specs.declared.job.Keys.{Keys}
use Rattle.sj_file.specs.declared.job.Keys.TheVariants.{Unique}
use Rattle.sj_batch.specs.declared.batch.ReadLine.{ReadLine}
use Rattle.sj_batch.specs.declared.batch.Reading.TheVariants.{Repeated, Json}
use Rattle.sj_batch.specs.declared.batch.Behind.{Behind}
use Rattle.sj_batch.specs.declared.batch.Behind.TheVariants.{Nothing, Perhaps}
use Rattle.sj_batch.specs.Batch.{reading, read_line, read_lines, ReadFront, ReadOn}

-- ---- lines, one after the other

read_lines-append : (keys : Keys) (n : ℕ) (ls ms : List (Option (List ℕ))) → read_lines keys n (ls ++ ms) ≡ read_lines keys n ls ++ read_lines keys (n + length ls) ms
read_lines-append keys n [] ms = ap (λ (k : ℕ). read_lines keys k ms) (omega arith)
read_lines-append keys n (l ∷ ls) ms =
    let same : n + 1 + length ls ≡ n + length (l ∷ ls) = omega arith in
    ap (λ (t : List ReadLine). read_line keys n l ++ t) (read_lines-append keys (n + 1) ls ms ∙ ap (λ (k : ℕ). read_lines keys (n + 1) ls ++ read_lines keys k ms) same)
    ∙ sym (append_assoc (read_line keys n l) (read_lines keys (n + 1) ls) (read_lines keys (n + length (l ∷ ls)) ms))

-- ---- keys

-- whether keys are unique is answered as the definition has it
same_answer : (t : Tree) (answer : Bool) → (IsTrue answer ↔ HasUniqueKeys t) → has_unique_keys t ≡ answer
same_answer t answer h = one_answer (has_unique_keys t) answer (unique_from t, unique_to t) h

pub judged_unique : (t : Tree) (answer : Bool) → (IsTrue answer ↔ HasUniqueKeys t) → answer ≡ true → Json t ≡ reading Unique (Some t)
judged_unique t answer h is = rw (same_answer t answer h ∙ is) refl

pub judged_repeated : (t : Tree) (answer : Bool) → (IsTrue answer ↔ HasUniqueKeys t) → answer ≡ false → Repeated t ≡ reading Unique (Some t)
judged_repeated t answer h is = rw (same_answer t answer h ∙ is) refl

-- ---- reading on

more_front : (keys : Keys) (n : ℕ) (front : List (Option (List ℕ))) (line : Option (List ℕ)) → read_lines keys n (front ++ line ∷ []) ≡ read_lines keys n front ++ read_line keys (n + length front) line
more_front keys n front line = read_lines-append keys n front (line ∷ []) ∙ ap (λ (t : List ReadLine). read_lines keys n front ++ t) (append-nil (read_line keys (n + length front) line))

-- nothing was read yet
pub read_none : (keys : Keys) (h : HeldLines) → ReadFront keys h h []
read_none keys h = record { front = []; split = refl; given = omega arith; rest = refl; fed = refl; ended = refl; batch_is = refl }

-- the next line was read behind the others
pub read_next : (keys : Keys) (old now new : HeldLines) (b b' : List ReadLine) (line : Option (List ℕ)) → ReadFront keys old now b → gives now line new → b' ≡ b ++ read_line keys (now.given + 1) line → ReadFront keys old new b'
read_next keys old now new b b' line r g is = record {
  front = r.front ++ line ∷ [];
  split = r.split ∙ ap (λ (t : List (Option (List ℕ))). r.front ++ t) g.0 ∙ sym (append_assoc r.front (line ∷ []) new.waiting);
  given = omega (arith, r.given, g.2, length-append r.front (line ∷ []));
  rest = g.1 ∙ r.rest;
  fed = g.3 ∙ r.fed;
  ended = g.4 ∙ r.ended;
  batch_is =
      let number : now.given + 1 ≡ old.given + 1 + length r.front = omega (arith, r.given) in
      is ∙ ap (λ (t : List ReadLine). t ++ read_line keys (now.given + 1) line) r.batch_is ∙ ap (λ (k : ℕ). read_lines keys (old.given + 1) r.front ++ read_line keys k line) number
      ∙ sym (more_front keys (old.given + 1) r.front line);
}

-- no line waits any more
pub read_all : (keys : Keys) (old now : HeldLines) (b : List ReadLine) → ReadFront keys old now b → now.waiting ≡ [] → ReadOn keys old now b Nothing
read_all keys old now b r none = record { read = r; behind_is = none }

some_front : (keys : Keys) (n : ℕ) (front : List (Option (List ℕ))) (b : List ReadLine) → b ≡ read_lines keys n front → 0 < length b → front ≢ []
some_front keys n front b is some none =
    let empty : length b ≡ 0 = ap length is ∙ ap (λ (l : List (Option (List ℕ))). length (read_lines keys n l)) none in
    omega (arith, empty, some)

-- some lines were read
pub read_some : (keys : Keys) (old now : HeldLines) (b : List ReadLine) → ReadFront keys old now b → 0 < length b → ReadOn keys old now b Perhaps
read_some keys old now b r some = record { read = r; behind_is = some_front keys (old.given + 1) r.front b r.batch_is some }

-- what is left is less than what waited
pub read_less : (keys : Keys) (old new : HeldLines) (b : List ReadLine) → ReadOn keys old new b Perhaps → length new.waiting < length old.waiting
read_less keys old new b r = less r.read.front r.read.split r.behind_is
  where
    less : (front : List (Option (List ℕ))) → old.waiting ≡ front ++ new.waiting → front ≢ [] → length new.waiting < length old.waiting
    less [] split some = absurd (some refl)
    less (l ∷ ls) split some = omega (arith, ap length split, length-append (l ∷ ls) new.waiting)

-- the lines that were read are some of those that are all given in the end
pub drained_more : (keys : Keys) (old new : HeldLines) (b : List ReadLine) (behind : Behind) → ReadOn keys old new b behind → drained new ≡ drained old
drained_more keys old new b behind r = drained_same old new r.read.rest count r.read.fed r.read.ended
  where
    count : new.given + length new.waiting ≡ old.given + length old.waiting
    count = omega (arith, r.read.given, ap length r.read.split, length-append r.read.front new.waiting)

    drained_same : (old new : HeldLines) → new.rest ≡ old.rest → new.given + length new.waiting ≡ old.given + length old.waiting → new.fed ≡ old.fed → new.ended ≡ old.ended → drained new ≡ drained old
    drained_same old new a b c d = cc
