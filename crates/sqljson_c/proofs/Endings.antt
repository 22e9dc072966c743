-- What the number of an end says.
use Rattle.std.proofs.Common.{◌≡◌, ℕ, ◌<◌, List, length, sym, subst}
use Rattle.sj_sql_grammar.specs.Answers.{max_file}
use Rattle.sj_host.specs.declared.unanswered.Unanswered.{Unanswered}
use Rattle.sj_host.specs.declared.unanswered.Unanswered.TheVariants.{Refused, FileTooLong, Memory, Room}
use Rattle.sj_host.specs.Host.{IsWhy, IsWhyUnshown}
use Rattle.sqljson_c.specs.Ended.{status_of, statement_of, IsRefusedAt}

-- 2 is a refusal
pub refused_at : (file : List ℕ) (why : Unanswered) (status statement : ℕ) → status ≡ status_of why → statement ≡ statement_of why → IsWhy file why → status ≡ 2 → IsRefusedAt file statement
refused_at file (Refused k kind) status statement is at w two = subst (IsRefusedAt file) (sym at) (record { short = w.0; kind = kind; refused = w.1 })
refused_at file Memory status statement is at w two = absurd (cc (is, two))
refused_at file FileTooLong status statement is at w two = absurd (cc (is, two))
refused_at file Room status statement is at w two = absurd w

-- 8 is a file that is too long
pub long_at : (file : List ℕ) (why : Unanswered) (status : ℕ) → status ≡ status_of why → IsWhy file why → status ≡ 8 → max_file < length file
long_at file (Refused k kind) status is w eight = absurd (cc (is, eight))
long_at file Memory status is w eight = absurd (cc (is, eight))
long_at file FileTooLong status is w eight = w
long_at file Room status is w eight = absurd w

-- so it is where a text may have no room
pub refused_shown : (file : List ℕ) (room : ℕ) (why : Unanswered) (status statement : ℕ) → status ≡ status_of why → statement ≡ statement_of why → IsWhyUnshown file room why → status ≡ 2 → IsRefusedAt file statement
refused_shown file room (Refused k kind) status statement is at w two = refused_at file (Refused k kind) status statement is at w two
refused_shown file room Memory status statement is at w two = absurd (cc (is, two))
refused_shown file room FileTooLong status statement is at w two = absurd (cc (is, two))
refused_shown file room Room status statement is at w two = absurd (cc (is, two))

pub long_shown : (file : List ℕ) (room : ℕ) (why : Unanswered) (status : ℕ) → status ≡ status_of why → IsWhyUnshown file room why → status ≡ 8 → max_file < length file
long_shown file room (Refused k kind) status is w eight = absurd (cc (is, eight))
long_shown file room Memory status is w eight = absurd (cc (is, eight))
long_shown file room FileTooLong status is w eight = w
long_shown file room Room status is w eight = absurd (cc (is, eight))
