-- How many more parentheses may be open at once, and what it takes for the pieces of a tree to have that room.
use Rattle.std.proofs.Common.{◌≡◌, ℕ, zero, suc, ◌+◌, ◌<◌, ◌≤◌, Bool, cond, List, [], ◌∷◌, take, count_by, refl, arith}
use Rattle.std.proofs.lemmas.List.Recursion.{is_count_by}
use Rattle.std.specs.Bool.{⊤}
use Rattle.sj_base.specs.Nesting.{max_open}
use Rattle.sj_sql_token.specs.declared.token.Token.{Token}
use Rattle.sj_sql_token.specs.declared.token.Token.TheVariants as k
use Rattle.sj_sql_grammar.specs.Phrases.{Tokens, open_at, close_at}
use Rattle.sj_sql_grammar.specs.Grammar.{is_open, is_close, IsTooDeep}
use Rattle.sj_sql_grammar.proofs.ReadTokens.{If, nothing, here}
use Rattle.sj_sql_text.specs.Pieces.{Open, Close, Call, Pieces}
use Rattle.sj_sql_text.specs.Tokens.{tokens_of}
use Rattle.sj_sql_text.proofs.Inner.{AreLexical}

abbrev pub Opened : (ℕ → Type 0) → ℕ → Type 0
Opened P zero = ⊥
Opened P (suc d) = P d

-- P is asked of the room that the token leaves
abbrev pub Through : Token → (ℕ → Type 0) → ℕ → Type 0
Through k.Open P d = Opened P d
Through k.Close P d = P (suc d)
Through _ P d = P d

-- there is room for d more that are open at once
abbrev pub Fits : Tokens → ℕ → Type 0
Fits [] d = ⊤
Fits (u ∷ ts) d = Through u (Fits ts) d

-- ---- what nests too deep has no room

abbrev tally : (Token → Bool) → Tokens → ℕ
tally p [] = 0
tally p (u ∷ ts) = cond (p u) (1 + tally p ts) (tally p ts)

tally_is : (p : Token → Bool) (ts : Tokens) → tally p ts ≡ count_by p ts
tally_is p ts = is_count_by (tally p) p refl (λ _ _. refl) ts

abbrev Deep : Tokens → ℕ → Type 0
Deep ts d = (n : ℕ) × (tally is_close (take n ts) + d < tally is_open (take n ts))

fits_from : (ts : Tokens) (d : ℕ) → (Deep ts d → ⊥) → Fits ts d
fits_from [] d h = tt
fits_from (k.Open ∷ ts) zero h = h (1, omega arith)
fits_from (k.Open ∷ ts) (suc d) h = fits_from ts d (λ x. h (suc x.0, omega (arith, x.1)))
fits_from (k.Close ∷ ts) d h = fits_from ts (suc d) (λ x. h (suc x.0, omega (arith, x.1)))
fits_from (_ ∷ ts) d h = fits_from ts d (λ x. h (suc x.0, x.1))

fits_shallow : (ts : Tokens) (d n : ℕ) → Fits ts d → tally is_close (take n ts) + d < tally is_open (take n ts) → ⊥
fits_shallow [] d zero f h = omega arith
fits_shallow [] d (suc n) f h = omega arith
fits_shallow (u ∷ ts) d zero f h = omega arith
fits_shallow (k.Open ∷ ts) zero (suc n) f h = f
fits_shallow (k.Open ∷ ts) (suc d) (suc n) f h = fits_shallow ts d n f (omega arith)
fits_shallow (k.Close ∷ ts) d (suc n) f h = fits_shallow ts (suc d) n f (omega arith)
fits_shallow (_ ∷ ts) d (suc n) f h = fits_shallow ts d n f h

pub has_room : (ts : Tokens) → (IsTooDeep ts → ⊥) → Fits ts max_open
has_room ts h = fits_from ts max_open (λ x. let c = tally_is is_close (take x.0 ts) in let o = tally_is is_open (take x.0 ts) in h (x.0, omega (arith, x.1, c, o)))

pub shallow : (ts : Tokens) → Fits ts max_open → IsTooDeep ts → ⊥
shallow ts fit x = let c = tally_is is_close (take x.0 ts) in let o = tally_is is_open (take x.0 ts) in fits_shallow ts max_open x.0 fit (omega (arith, x.1, c, o))

-- ---- what tokens leave

-- The tokens in front close what they open. Those behind are of a file if all are.
pub record Keeps (ts rest : Tokens) : Type 0 where
  pub fits : (d : ℕ) → Fits ts d → Fits rest d
  pub lexical : AreLexical ts → AreLexical rest

pub record Opens (ts rest : Tokens) : Type 0 where
  pub fits : (d : ℕ) → Fits ts d → Opened (Fits rest) d
  pub lexical : AreLexical ts → AreLexical rest

pub record Closes (ts rest : Tokens) : Type 0 where
  pub fits : (d : ℕ) → Fits ts d → Fits rest (suc d)
  pub lexical : AreLexical ts → AreLexical rest

pub stays : (ts : Tokens) → Keeps ts ts
stays ts = record { fits = λ d h. h; lexical = λ x. x }

pub and_keeps : {a b c : Tokens} → Keeps a b → Keeps b c → Keeps a c
and_keeps x y = record { fits = λ d h. y.fits d (x.fits d h); lexical = λ q. y.lexical (x.lexical q) }

pub opens : (ts : Tokens) → If (Opens ts) (open_at ts)
opens (k.Open ∷ ts) = here (record { fits = λ d h. h; lexical = λ x. x.1 })
opens _ = nothing

pub closes : (ts : Tokens) → If (Closes ts) (close_at ts)
closes (k.Close ∷ ts) = here (record { fits = λ d h. h; lexical = λ x. x.1 })
closes _ = nothing

pub enclosed_keep : {a b c rest : Tokens} → Opens a b → Keeps b c → Closes c rest → Keeps a rest
enclosed_keep {a} {b} {c} {rest} o x z = record { fits = go; lexical = λ q. z.lexical (x.lexical (o.lexical q)) }
  where
    go : (d : ℕ) → Fits a d → Fits rest d
    go zero h = absurd (o.fits zero h)
    go (suc d) h = z.fits d (x.fits d (o.fits (suc d) h))

-- ---- what pieces need

-- room for n more is enough for the pieces that f puts before others
pub record Needs (n : ℕ) (f : Pieces → Pieces) : Type 0 where
  pub fits : (d : ℕ) (ps : Pieces) → n ≤ d → Fits (tokens_of ps) d → Fits (tokens_of (f ps)) d

pub needs_none : {f : Pieces → Pieces} → ((d : ℕ) (ps : Pieces) → Fits (tokens_of ps) d → Fits (tokens_of (f ps)) d) → Needs 0 f
needs_none h = record { fits = λ d ps le fit. h d ps fit }

pub with_more : {m n : ℕ} {f : Pieces → Pieces} → m ≤ n → Needs m f → Needs n f
with_more le x = record { fits = λ d ps more fit. x.fits d ps (omega arith) fit }

pub and_needs : {n : ℕ} {f h : Pieces → Pieces} → Needs n f → Needs n h → Needs n (λ ps. f (h ps))
and_needs {h = h} x y = record { fits = λ d ps le fit. x.fits d (h ps) le (y.fits d ps le fit) }

pub enclosed_need : {n : ℕ} {f : Pieces → Pieces} → Needs n f → Needs (suc n) (λ ps. Open ∷ f (Close ∷ ps))
enclosed_need {n} {f} x = record { fits = go }
  where
    go : (d : ℕ) (ps : Pieces) → suc n ≤ d → Fits (tokens_of ps) d → Fits (tokens_of (Open ∷ f (Close ∷ ps))) d
    go zero ps le fit = absurd (omega arith)
    go (suc d) ps le fit = x.fits d (Close ∷ ps) (omega arith) fit

-- ---- both

-- the pieces of f have the room that the tokens in front of rest had
pub record Holds (ts : Tokens) (f : Pieces → Pieces) (rest : Tokens) : Type 0 where
  pub needs : (d : ℕ) → Fits ts d → Needs d f
  pub keeps : (d : ℕ) → Fits ts d → Fits rest d
  pub lexical : AreLexical ts → AreLexical rest

pub kept : {ts rest : Tokens} {f : Pieces → Pieces} → Holds ts f rest → Keeps ts rest
kept x = record { fits = x.keeps; lexical = x.lexical }

pub plain : {ts rest : Tokens} {f : Pieces → Pieces} → Needs 0 f → Keeps ts rest → Holds ts f rest
plain x y = record { needs = λ d h. with_more (omega arith) x; keeps = y.fits; lexical = y.lexical }

pub behind : {ts a rest : Tokens} {f : Pieces → Pieces} → Keeps ts a → Holds a f rest → Holds ts f rest
behind x y = record { needs = λ d h. y.needs d (x.fits d h); keeps = λ d h. y.keeps d (x.fits d h); lexical = λ q. y.lexical (x.lexical q) }

pub before : {ts a rest : Tokens} {f : Pieces → Pieces} → Holds ts f a → Keeps a rest → Holds ts f rest
before x y = record { needs = x.needs; keeps = λ d h. y.fits d (x.keeps d h); lexical = λ q. y.lexical (x.lexical q) }

pub joined : {a b c : Tokens} {f h : Pieces → Pieces} → Holds a f b → Holds b h c → Holds a (λ ps. f (h ps)) c
joined x y = record { needs = λ d fit. and_needs (x.needs d fit) (y.needs d (x.keeps d fit)); keeps = λ d fit. y.keeps d (x.keeps d fit); lexical = λ q. y.lexical (x.lexical q) }

-- pieces that need room for one stand for tokens in parentheses
pub by_parentheses : {a b c rest : Tokens} {f : Pieces → Pieces} → Needs 1 f → Opens a b → Keeps b c → Closes c rest → Holds a f rest
by_parentheses {a} {b} {c} {rest} {f} n o x z = record { needs = go; keeps = (enclosed_keep o x z).fits; lexical = (enclosed_keep o x z).lexical }
  where
    go : (d : ℕ) → Fits a d → Needs d f
    go zero h = absurd (o.fits zero h)
    go (suc d) h = with_more (omega arith) n

pub in_parentheses : {a b c rest : Tokens} {f : Pieces → Pieces} → Opens a b → Holds b f c → Closes c rest → Holds a (λ ps. Open ∷ f (Close ∷ ps)) rest
in_parentheses {a} {b} {c} {rest} {f} o x z = record { needs = go; keeps = (enclosed_keep o (kept x) z).fits; lexical = (enclosed_keep o (kept x) z).lexical }
  where
    go : (d : ℕ) → Fits a d → Needs d (λ ps. Open ∷ f (Close ∷ ps))
    go zero h = absurd (o.fits zero h)
    go (suc d) h = enclosed_need (x.needs d (o.fits (suc d) h))

-- and without the parentheses
pub within : {a b c rest : Tokens} {f : Pieces → Pieces} → Opens a b → Holds b f c → Closes c rest → Holds a f rest
within {a} {b} {c} {rest} {f} o x z = record { needs = go; keeps = (enclosed_keep o (kept x) z).fits; lexical = (enclosed_keep o (kept x) z).lexical }
  where
    go : (d : ℕ) → Fits a d → Needs d f
    go zero h = absurd (o.fits zero h)
    go (suc d) h = with_more (omega arith) (x.needs d (o.fits (suc d) h))

pub called : {ts a b c rest : Tokens} {f : Pieces → Pieces} (name : List ℕ) → Keeps ts a → Opens a b → Holds b f c → Closes c rest → Holds ts (λ ps. Call name ∷ f (Close ∷ ps)) rest
called {f = f} name w o x z =
    let inner : Holds _ (λ ps. Open ∷ f (Close ∷ ps)) _ = behind w (in_parentheses o x z) in
    record { needs = λ d h. record { fits = (inner.needs d h).fits }; keeps = inner.keeps; lexical = inner.lexical }
