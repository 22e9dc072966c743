-- A file that is being read.
use Rattle.std.proofs.Common.{◌≡◌, ℕ, ◌+◌, ◌≤◌, List, [], ◌++◌, length, Option, None, Some, IsSome, refl, sym, ◌∙◌, ap, subst, append_assoc}
use Rattle.std.proofs.lemmas.List.{append-nil}
use Rattle.std.specs.Io.KnownBytes.{Consumes, IsAtEnd}
use Rattle.sj_outside.specs.Outside.{Files, Opens}
use Rattle.sj_sql_grammar.specs.Answers.{max_file}
use Rattle.sj_file.specs.File.{ShelfSide, IsFile, IsTooLong, Holds}

-- what was read so far of the file of this name, and what is left of it
abbrev pub Behind : Option Files → List ℕ → Option (List ℕ) → List ℕ → Type 0
Behind None name left file = Unit {0}
Behind (Some files) name left file = (all : List ℕ) × (files name ≡ Some all) × Consumes (Some all) left file

pub record Loading (name : List ℕ) (old now : ShelfSide) (left : Option (List ℕ)) (file : List ℕ) : Type 0 where
  pub behind : Behind old.files name left file
  pub no_fault : now.faults ≡ old.faults
  pub same_quiet : now.quiet ≡ old.quiet

opened : (files : Option Files) (name : List ℕ) (left : Option (List ℕ)) → Opens files name left → Behind files name left []
opened None name left o = tt
opened (Some files) name left o = go (files name) left refl o.0 o.1
  where
    go : (f left : Option (List ℕ)) → files name ≡ f → IsSome f → left ≡ f → (all : List ℕ) × (files name ≡ Some all) × Consumes (Some all) left []
    go None left is some same = absurd (cc some)
    go (Some all) left is some same = rw same (all, is, refl)

pub loading_starts : (name : List ℕ) (old now : ShelfSide) (left : Option (List ℕ)) → Opens old.files name left → now.faults ≡ old.faults → now.quiet ≡ old.quiet → Loading name old now left []
loading_starts name old now left o same quiet = record { behind = opened old.files name left o; no_fault = same; same_quiet = quiet }

behind_more : (files : Option Files) (name : List ℕ) (left left' : Option (List ℕ)) (file piece : List ℕ) → Behind files name left file → Consumes left left' piece → Behind files name left' (file ++ piece)
behind_more None name left left' file piece b c = tt
behind_more (Some files) name None left' file piece b c = absurd b.2
behind_more (Some files) name (Some l) None file piece b c = absurd c
behind_more (Some files) name (Some l) (Some l') file piece b c = (b.0, b.1, b.2 ∙ ap (λ (r : List ℕ). file ++ r) c ∙ sym (append_assoc file piece l'))

pub loading_more : (name : List ℕ) (old now new : ShelfSide) (left left' : Option (List ℕ)) (file piece file' : List ℕ) → Loading name old now left file → Consumes left left' piece → new.faults ≡ now.faults → new.quiet ≡ now.quiet → file' ≡ file ++ piece → Loading name old new left' file'
loading_more name old now new left left' file piece file' w c same quiet is = record {
  behind = subst (Behind old.files name left') (sym is) (behind_more old.files name left left' file piece w.behind c);
  no_fault = same ∙ w.no_fault;
  same_quiet = quiet ∙ w.same_quiet;
}

read_whole : (files : Option Files) (name : List ℕ) (left : Option (List ℕ)) (file : List ℕ) → Behind files name left file → IsAtEnd left → IsFile files name file
read_whole None name left file b end = tt
read_whole (Some files) name None file b end = absurd b.2
read_whole (Some files) name (Some l) file b end = b.1 ∙ ap Some (b.2 ∙ ap (λ (r : List ℕ). file ++ r) end ∙ append-nil file)

-- All of it was read.
pub loaded : (name : List ℕ) (old now new : ShelfSide) (left left' : Option (List ℕ)) (file : List ℕ) → Loading name old now left file → Consumes left left' [] → IsAtEnd left' → new.faults ≡ now.faults → length file ≤ max_file → Holds name old new file
loaded name old now new left left' file w c end same short = record {
  is = read_whole old.files name left' file (subst (Behind old.files name left') (append-nil file) (behind_more old.files name left left' file [] w.behind c)) end;
  short = short;
  no_fault = same ∙ w.no_fault;
}

read_more : (files : Option Files) (name : List ℕ) (left : Option (List ℕ)) (file : List ℕ) → Behind files name left file → length file ≡ max_file + 1 → IsTooLong files name left
read_more None name left file b long = tt
read_more (Some files) name left file b long = (b.0, b.1, file, long, b.2)

-- One byte past the limit was read.
pub too_long : (name : List ℕ) (old now : ShelfSide) (file : List ℕ) → Loading name old now now.left file → length file ≡ max_file + 1 → IsTooLong old.files name now.left × (now.faults ≡ old.faults)
too_long name old now file w long = (read_more old.files name now.left file w.behind long, w.no_fault)
