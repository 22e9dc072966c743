-- Steps in the growth by a text.
use Rattle.std.proofs.Common.{◌≡◌, ℕ, List, [], ◌++◌, refl, sym, ap, subst, ◌∙◌, append_assoc, append-nil, Result, Ok, Err, OnErr}
use Rattle.std.proofs.lemmas.Result.{on_err_weaker}
use Rattle.sj_text.specs.Prefixes.{AppendsPrefix}

-- the bytes `old` have grown by the text up to here, and `rest` of it is still to come
pub record Appending (old text new rest : List ℕ) : Type 0 where
  pub part : List ℕ
  pub grown : new ≡ old ++ part
  pub splits : text ≡ part ++ rest

-- nothing has come yet
pub begun : (old text : List ℕ) → Appending old text old text
begun old text = record { part = []; grown = sym (append-nil old); splits = refl }

-- a piece comes
pub grows : (old text new piece rest : List ℕ) → Appending old text new (piece ++ rest) → Appending old text (new ++ piece) rest
grows old text new piece rest a =
    record {
      part = a.part ++ piece;
      grown = ap (λ l. l ++ piece) a.grown ∙ append_assoc old a.part piece;
      splits = a.splits ∙ sym (append_assoc a.part piece rest);
    }

pub grows_to : (old text new piece rest last : List ℕ) → Appending old text new (piece ++ rest) → last ≡ new ++ piece → Appending old text last rest
grows_to old text new piece rest last a e = subst (λ l. Appending old text l rest) (sym e) (grows old text new piece rest a)

-- a part of a piece has come
pub stops : (old text new piece rest last : List ℕ) → Appending old text new (piece ++ rest) → AppendsPrefix new piece last → AppendsPrefix old text last
stops old text new piece rest last a p =
    record {
      part = a.part ++ p.part;
      rest = p.rest ++ rest;
      grown = p.grown ∙ ap (λ l. l ++ p.part) a.grown ∙ append_assoc old a.part p.part;
      splits = a.splits ∙ ap (λ l. a.part ++ (l ++ rest)) p.splits ∙ ap (λ l. a.part ++ l) (append_assoc p.part p.rest rest) ∙ sym (append_assoc a.part p.part (p.rest ++ rest));
    }

-- nothing more has come
pub stays : (old text new rest last : List ℕ) → Appending old text new rest → last ≡ new → AppendsPrefix old text last
stays old text new rest last a e = record { part = a.part; rest = rest; grown = e ∙ a.grown; splits = a.splits }

-- what holds at an error holds where there is one
pub at_error : {T E P : Type 0} (r : Result T E) → P → OnErr r P
at_error (Ok x) p = tt
at_error (Err e) p = p

-- ---- one text and then another

-- the first stopped
pub first_stopped : {T E : Type 0} (r : Result T E) (old a b last : List ℕ) → AppendsPrefix old a last → OnErr r (AppendsPrefix old (a ++ b) last)
first_stopped r old a b last p = at_error r (stops old (a ++ b) old a b last (begun old (a ++ b)) p)

-- the first came, and the second stopped
pub second_stopped : {T E : Type 0} (r : Result T E) (old a b middle last : List ℕ) → middle ≡ old ++ a → OnErr r (AppendsPrefix middle b last) → OnErr r (AppendsPrefix old (a ++ b) last)
second_stopped r old a b middle last came = on_err_weaker r (λ p. record {
  part = a ++ p.part;
  rest = p.rest;
  grown = p.grown ∙ ap (λ l. l ++ p.part) came ∙ append_assoc old a p.part;
  splits = ap (λ l. a ++ l) p.splits ∙ sym (append_assoc a p.part p.rest);
})
