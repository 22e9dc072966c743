use Rattle.std.proofs.Common.{ℕ, List, refl}
use Rattle.std.specs.Borrow.{Bor}
use Rattle.sj_build.proofs.Inserted.{inserted_is_new, inserted_last}
use Rattle.sj_build.proofs.keys.insert_lent.Goals as goal

pub returns-clause-new : goal.returns-clause-new
returns-clause-new c = inserted_is_new (λ (k : Bor (List ℕ)). k.now) c.args.keys.now.keys c.args.key c.args.key.now c.in_ok-insert.field-0 refl c.in_ok-insert.ensures.added

pub returns-clause-noted : goal.returns-clause-noted
returns-clause-noted c =
    inserted_last (λ (k : Bor (List ℕ)). k.now) c.args.keys.now.keys c.insert.new.self.keys c.args.key c.args.key.now c.in_ok-insert.field-0 refl c.in_ok-insert.ensures.added c.in_ok-insert.ensures.keys
