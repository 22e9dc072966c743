-- Words, and the part that each plays in the grammar.
use Rattle.std.specs.Prelude.{◌≡◌, ℕ, Bool, true, List, [], ◌∷◌, codes}
use Rattle.std.specs.Str.{bytes_eq}
use Rattle.sj_base.specs.ByteClasses.{is_letter, is_word_byte}
use Rattle.sj_base.specs.Words.{first_like}
use Rattle.sj_path_token.specs.declared.keyword.Keyword.{Keyword}
use Rattle.sj_path_token.specs.declared.keyword.Keyword.TheVariants as w

-- each of the bytes passes the test
pub data AllPass (test : ℕ → Bool) : List ℕ → Type 0 where
  none : AllPass test []
  more : {b : ℕ} {bs : List ℕ} → test b ≡ true → AllPass test bs → AllPass test (b ∷ bs)

-- a letter or _, and then letters, digits and _
pub data IsWord : List ℕ → Type 0 where
  word : {b : ℕ} {bs : List ℕ} → is_letter b ≡ true → AllPass is_word_byte bs → IsWord (b ∷ bs)

-- each keyword with the word that spells it
abbrev pub keywords : List (List ℕ × Keyword)
keywords =
    (codes "lax", w.Lax) ∷
    (codes "strict", w.Strict) ∷
    (codes "last", w.Last) ∷
    (codes "true", w.True) ∷
    (codes "false", w.False) ∷
    (codes "null", w.Null) ∷
    (codes "to", w.To) ∷
    (codes "exists", w.Exists) ∷
    (codes "is", w.Is) ∷
    (codes "unknown", w.Unknown) ∷
    (codes "starts", w.Starts) ∷
    (codes "with", w.With) ∷
    (codes "like_regex", w.LikeRegex) ∷
    (codes "flag", w.Flag) ∷
    (codes "type", w.Type) ∷
    (codes "size", w.Size) ∷
    (codes "ceiling", w.Ceiling) ∷
    (codes "floor", w.Floor) ∷
    (codes "abs", w.Abs) ∷
    (codes "keyvalue", w.KeyValue) ∷
    (codes "bigint", w.Bigint) ∷
    (codes "boolean", w.Boolean) ∷
    (codes "decimal", w.Decimal) ∷
    (codes "integer", w.Integer) ∷
    (codes "number", w.Number) ∷
    (codes "string", w.String) ∷
    (codes "double", w.Double) ∷
    (codes "datetime", w.Datetime) ∷
    []

-- words are told apart by case
abbrev pub keyword_of : List ℕ → Keyword
keyword_of text = first_like bytes_eq w.Other keywords text
