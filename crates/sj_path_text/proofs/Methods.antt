-- The names of the methods, as words and as tokens. One more method is one more line in each table here, and in no other proof.
use Rattle.std.proofs.Common.{◌≡◌, ℕ, true, List, ◌∷◌, ◌++◌, codes, Option, Some, None, refl, sym, subst}
use Rattle.std.specs.Bool.{⊤}
use Rattle.sj_path_token.specs.declared.keyword.Keyword.{Keyword}
use Rattle.sj_path_token.specs.declared.keyword.Keyword.TheVariants as w
use Rattle.sj_path_token.specs.declared.token.Token.TheVariants as k
use Rattle.sj_path_token.specs.Words.{keyword_of}
use Rattle.sj_path_tree.specs.declared.parts.Method.{Method}
use Rattle.sj_path_tree.specs.declared.parts.Method.TheVariants as m
use Rattle.sj_path_tree.specs.Tree.{Step, Call}
use Rattle.sj_path_grammar.specs.Signs.{method_of}
use Rattle.sj_path_grammar.specs.Grammar.{Tokens}
use Rattle.sj_path_grammar.specs.Unsupported.{unsupported}
use Rattle.sj_path_text.specs.Text.{method_name}
use Rattle.sj_path_text.specs.Tokens.{word}
use Rattle.sj_path_text.proofs.Lexing.{stops, is_word}

-- the name is that of the method
pub name_is : (method : Method) → method_of (keyword_of (method_name method)) ≡ Some (Call method)
name_is m.TypeOf = refl
name_is m.Size = refl
name_is m.Ceiling = refl
name_is m.Floor = refl
name_is m.Abs = refl
name_is m.KeyValue = refl
name_is m.Bigint = refl
name_is m.Boolean = refl
name_is m.Decimal = refl
name_is m.Integer = refl
name_is m.Number = refl
name_is m.Text = refl

pub name_word : (method : Method) → is_word (method_name method) ≡ true
name_word m.TypeOf = refl
name_word m.Size = refl
name_word m.Ceiling = refl
name_word m.Floor = refl
name_word m.Abs = refl
name_word m.KeyValue = refl
name_word m.Bigint = refl
name_word m.Boolean = refl
name_word m.Decimal = refl
name_word m.Integer = refl
name_word m.Number = refl
name_word m.Text = refl

-- with its point it may follow an expression
pub name_stops : (method : Method) (rest : List ℕ) → stops ((codes "." ++ (method_name method ++ codes "()")) ++ rest) ≡ true
name_stops m.TypeOf rest = refl
name_stops m.Size rest = refl
name_stops m.Ceiling rest = refl
name_stops m.Floor rest = refl
name_stops m.Abs rest = refl
name_stops m.KeyValue rest = refl
name_stops m.Bigint rest = refl
name_stops m.Boolean rest = refl
name_stops m.Decimal rest = refl
name_stops m.Integer rest = refl
name_stops m.Number rest = refl
name_stops m.Text rest = refl

pub name_supported : (method : Method) (ts : Tokens) → unsupported (k.Dot ∷ word (method_name method) ∷ k.Open ∷ ts) ≡ unsupported ts
name_supported m.TypeOf ts = refl
name_supported m.Size ts = refl
name_supported m.Ceiling ts = refl
name_supported m.Floor ts = refl
name_supported m.Abs ts = refl
name_supported m.KeyValue ts = refl
name_supported m.Bigint ts = refl
name_supported m.Boolean ts = refl
name_supported m.Decimal ts = refl
name_supported m.Integer ts = refl
name_supported m.Number ts = refl
name_supported m.Text ts = refl

-- ---- and back

abbrev IsCallIn : Option Step → Type 0
IsCallIn None = ⊤
IsCallIn (Some s) = (method : Method) × (s ≡ Call method)

call_in : (keyword : Keyword) → IsCallIn (method_of keyword)
call_in w.Type = (m.TypeOf, refl)
call_in w.Size = (m.Size, refl)
call_in w.Ceiling = (m.Ceiling, refl)
call_in w.Floor = (m.Floor, refl)
call_in w.Abs = (m.Abs, refl)
call_in w.KeyValue = (m.KeyValue, refl)
call_in w.Bigint = (m.Bigint, refl)
call_in w.Boolean = (m.Boolean, refl)
call_in w.Decimal = (m.Decimal, refl)
call_in w.Integer = (m.Integer, refl)
call_in w.Number = (m.Number, refl)
call_in w.String = (m.Text, refl)
call_in w.Double = (m.TypeOf, refl)
call_in _ = tt

-- a word that stands for an accessor stands for a method, so that what holds of all methods holds of it
pub of_methods : (P : Step → Type 0) → ((method : Method) → P (Call method)) → (keyword : Keyword) (s : Step) → method_of keyword ≡ Some s → P s
of_methods P all keyword s is = let c : (method : Method) × (s ≡ Call method) = subst IsCallIn is (call_in keyword) in subst P (sym c.1) (all c.0)
