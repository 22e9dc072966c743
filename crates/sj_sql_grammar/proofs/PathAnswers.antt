-- The answer of a text is what sj_path_grammar says of the text.
use Rattle.std.proofs.Common.{◌≡◌, ℕ, Bool, true, false, cond, List, length, Option, Some, None, Result, Ok, Err, refl, sym, ap, subst, ◌∙◌, arith}
use Rattle.sj_path_token.specs.Tokens.{HasTokens}
use Rattle.sj_path_token.specs.Reading.{lex}
use Rattle.sj_path_token.proofs.Texts.{lex_sound, lex_full}
use Rattle.sj_path_grammar.specs.declared.refusal.PathRefusal.{PathRefusal}
use Rattle.sj_path_grammar.specs.declared.refusal.PathRefusal.TheVariants as r
use Rattle.sj_path_grammar.specs.declared.refusal.Name.{Name}
use Rattle.sj_path_tree.specs.Tree.{Path}
use Rattle.sj_path_grammar.specs.Grammar.{Tokens}
use Rattle.sj_path_grammar.specs.Depth.{IsTooDeep}
use Rattle.sj_path_grammar.specs.Misplaced.{is_misplaced}
use Rattle.sj_path_grammar.specs.Unsupported.{unsupported}
use Rattle.sj_path_grammar.specs.Reading.{path_at}
use Rattle.sj_path_grammar.specs.Answers.{Spells, Accepts, Refuses}
use Rattle.sj_path_grammar.specs.Accepted.{is_too_deep}
use Rattle.sj_path_grammar.proofs.Paths.{path_full, path_sound}
use Rattle.sj_path_grammar.proofs.Acceptance.{too_deep_found, too_deep_missed, accepted_is}
use Rattle.sj_path_grammar.proofs.Laws as laws
use Rattle.sj_sql_grammar.specs.PathAnswers.{if_supported, if_spelled, of_tokens, path_answer}
use Rattle.sj_sql_grammar.proofs.ReadTokens.{some_is}

-- ---- what is answered holds

-- what an answer says of a text
abbrev pub Holds : List ℕ → Result Path PathRefusal → Type 0
Holds text (Ok p) = Accepts text p
Holds text (Err e) = Refuses text e × (e ≡ r.Memory → ⊥)

none_some : {A : Type 0} {a : A} → None ≡ Some a → ⊥
none_some q = cc

supported_holds : (text : List ℕ) (ts : Tokens) (p : Path) → HasTokens text ts → Spells ts p → is_misplaced p ≡ false → (o : Option Name) → unsupported ts ≡ o → Holds text (if_supported o p)
supported_holds text ts p b s m None u = record { tokens = ts; breaks = b; allowed = record { spells = s; placed = m; supported = u } }
supported_holds text ts p b s m (Some name) u = ((ts, b, (p, s, m, u)), λ q. cc)

placed_holds : (text : List ℕ) (ts : Tokens) (p : Path) → HasTokens text ts → Spells ts p → (c : Bool) → is_misplaced p ≡ c → Holds text (cond c (Err r.Misplaced) (if_supported (unsupported ts) p))
placed_holds text ts p b s true m = ((ts, b, (p, s, m)), λ q. cc)
placed_holds text ts p b s false m = supported_holds text ts p b s m (unsupported ts) refl

spelled_holds : (text : List ℕ) (ts : Tokens) → HasTokens text ts → (IsTooDeep ts → ⊥) → (o : Option Path) → path_at ts ≡ o → Holds text (if_spelled (unsupported ts) o)
spelled_holds text ts b shallow None e = ((ts, b, (shallow, λ p d. none_some (sym e ∙ path_full d))), λ q. cc)
spelled_holds text ts b shallow (Some p) e = placed_holds text ts p b (record { shallow = shallow; tree = path_sound ts p e }) (is_misplaced p) refl

tokens_hold : (text : List ℕ) (ts : Tokens) → HasTokens text ts → (c : Bool) → is_too_deep ts ≡ c → Holds text (cond c (Err r.TooDeep) (if_spelled (unsupported ts) (path_at ts)))
tokens_hold text ts b true d = ((ts, b, too_deep_found ts d), λ q. cc)
tokens_hold text ts b false d = spelled_holds text ts b (too_deep_missed ts d) (path_at ts) refl

pub answer_holds : (text : List ℕ) → Holds text (path_answer text)
unfolding path_answer lex
answer_holds text = go (lex text) refl
  where
    go : (o : Option Tokens) → lex text ≡ o → Holds text (of_tokens o)
    go None e = ((λ ts b. none_some (sym e ∙ lex_full b (length text) (omega arith))), λ q. cc)
    go (Some ts) e = tokens_hold text ts (lex_sound (length text) text ts (omega arith) e) (is_too_deep ts) refl

-- ---- what holds is answered

same_path : (text : List ℕ) (p q : Path) → Accepts text p → Accepts text q → p ≡ q
same_path text p q a b = some_is (sym (accepted_is text p a) ∙ accepted_is text q b)

pub accepted_answer : (text : List ℕ) (p : Path) → Accepts text p → path_answer text ≡ Ok p
accepted_answer text p a = go (path_answer text) (answer_holds text)
  where
    go : (o : Result Path PathRefusal) → Holds text o → o ≡ Ok p
    go (Ok q) h = ap Ok (same_path text q p h a)
    go (Err e) h = absurd (h.1 (laws.accepted text p e a h.0))

pub refused_answer : (text : List ℕ) (e : PathRefusal) → (e ≡ r.Memory → ⊥) → Refuses text e → path_answer text ≡ Err e
refused_answer text e other f = go (path_answer text) (answer_holds text)
  where
    go : (o : Result Path PathRefusal) → Holds text o → o ≡ Err e
    go (Ok q) h = absurd (other (laws.accepted text q e h f))
    go (Err d) h = ap Err (laws.refused text d e h.0 f h.1 other)

pub answer_accepted : (text : List ℕ) (p : Path) → path_answer text ≡ Ok p → Accepts text p
answer_accepted text p h = subst (Holds text) h (answer_holds text)

pub answer_refused : (text : List ℕ) (e : PathRefusal) → path_answer text ≡ Err e → Refuses text e × (e ≡ r.Memory → ⊥)
answer_refused text e h = subst (Holds text) h (answer_holds text)
