-- What the code's values stand for in the definitions.
use Rattle.std.specs.Prelude.{◌≡◌, ℕ, List, codes, reverse, Some, None, ⊤}
use Rattle.sj_scan.specs.declared.mode.Word.{Word}
use Rattle.sj_scan.specs.declared.mode.Word.TheVariants.{Ull, Ll, L, Rue, Ue, E, Alse, Lse, Se}
use Rattle.sj_scan.specs.declared.mode.Mode as code
use Rattle.sj_scan.specs.declared.mode.Mode.TheVariants as code_mode
use Rattle.sj_scan.specs.declared.mode.Container.{Container}
use Rattle.sj_scan.specs.declared.turn.Stop.{Stop}
use Rattle.sj_scan.specs.declared.turn.Stop.TheVariants.{NotJson, Memory}
use Rattle.sj_scan.specs.Modes.{Mode, value, value_or_close, key, key_or_close, colon, after_value, word, quoted, escaped, number, Advance}

abbrev pub rest_of : Word → List ℕ
rest_of Ull = codes "ull"
rest_of Ll = codes "ll"
rest_of L = codes "l"
rest_of Rue = codes "rue"
rest_of Ue = codes "ue"
rest_of E = codes "e"
rest_of Alse = codes "alse"
rest_of Lse = codes "lse"
rest_of Se = codes "se"

abbrev pub mode_of : code.Mode → Mode
mode_of code_mode.Value = value
mode_of code_mode.ValueOrClose = value_or_close
mode_of code_mode.Key = key
mode_of code_mode.KeyOrClose = key_or_close
mode_of code_mode.Colon = colon
mode_of code_mode.AfterValue = after_value
mode_of (code_mode.Word w) = word (rest_of w)
mode_of (code_mode.Quoted k) = quoted k
mode_of (code_mode.Escaped k e) = escaped k e
mode_of (code_mode.Number q) = number q

-- A turn led to this mode and these open containers, which a vector has the other way round.
abbrev pub LedTo : Advance → List Container → code.Mode → Type 0
LedTo advance containers m = advance ≡ Some (mode_of m, reverse containers)

-- Nothing may come so, unless memory ran out.
abbrev pub Refuses : Advance → Stop → Type 0
Refuses advance NotJson = advance ≡ None
Refuses advance Memory = ⊤

-- The mode is between two tokens.
abbrev pub IsOutside : code.Mode → Type 0
IsOutside code_mode.Value = ⊤
IsOutside code_mode.ValueOrClose = ⊤
IsOutside code_mode.Key = ⊤
IsOutside code_mode.KeyOrClose = ⊤
IsOutside code_mode.Colon = ⊤
IsOutside code_mode.AfterValue = ⊤
IsOutside (code_mode.Word w) = ⊥
IsOutside (code_mode.Quoted k) = ⊥
IsOutside (code_mode.Escaped k e) = ⊥
IsOutside (code_mode.Number q) = ⊥
