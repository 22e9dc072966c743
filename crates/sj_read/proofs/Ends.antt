-- The end of a text.
use Rattle.std.proofs.Common.{◌≡◌, ◌≢◌, ℕ, ◌≤◌, List, length, drop, Some, None, Err, refl, ap}
use Rattle.std.proofs.lemmas.List.{drop_all}
use Rattle.sj_json.specs.Building.{Part, top, elements, pairs, State}
use Rattle.sj_json.specs.Spelling.{IsJson, max_depth}
use Rattle.sj_json.specs.Machine.{Mode, after_value, ending, run, reading}
use Rattle.sj_json.proofs.Complete.{reading_gives}
use Rattle.sj_doc.specs.Kinds.{want_of}
use Rattle.sj_doc.specs.declared.node.Want.TheVariants as wants
use Rattle.sj_read.specs.declared.reader.Mode as coded
use Rattle.sj_read.specs.declared.reader.Mode.TheVariants as modes
use Rattle.sj_read.specs.declared.reader.ReadRefusal.{ReadRefusal}
use Rattle.sj_read.specs.declared.reader.ReadRefusal.TheVariants.{NotJson, Memory}
use Rattle.sj_read.specs.Turns.{mode_of, HasValue, Turns}

pub not_json : (line : List ℕ) → reading max_depth line ≡ None → IsJson line → ⊥
not_json line e h = let f : reading max_depth line ≡ Some h.2.0 = reading_gives max_depth h.2.0 line h.2.1 h.2.2 in cc

pub at_end : (limit : ℕ) (m : Mode) (s : State) (text : List ℕ) (at : ℕ) → length text ≤ at → run limit m s (drop at text) ≡ ending m s
unfolding run
at_end limit m s text at h = ap (run limit m s) (drop_all at text h)

pub no_end_mode : (m : coded.Mode) (s : State) → m ≢ modes.AfterValue → ending (mode_of m) s ≡ None
no_end_mode modes.Value s h = refl
no_end_mode modes.ValueOrClose s h = refl
no_end_mode modes.Key s h = refl
no_end_mode modes.KeyOrClose s h = refl
no_end_mode modes.Colon s h = refl
no_end_mode modes.AfterValue s h = absurd (h refl)

pub no_end_want : (p : Part) (qs : List Part) → HasValue p → want_of p ≢ wants.Nothing → ending after_value (p, qs) ≡ None
no_end_want (top None) qs h e = absurd h
no_end_want (top (Some t)) qs h e = absurd (e refl)
no_end_want (elements ts) qs h e = refl
no_end_want (pairs ms k) qs h e = refl

-- a refusal in the middle
pub refused : (limit : ℕ) (r : ReadRefusal) (m : Mode) (s : State) (text : List ℕ) (at : ℕ) (n : coded.Mode) (new : State) → Turns limit n (Err r) m s text at new → r ≡ NotJson → run limit m s (drop at text) ≡ None
refused limit NotJson m s text at n new h e = h
refused limit Memory m s text at n new h e = cc
