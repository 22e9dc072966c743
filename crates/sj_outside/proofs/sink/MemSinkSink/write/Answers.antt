use Rattle.std.proofs.Common.{◌≡◌, true, inl, refl, rules}
use Rattle.sj_outside.specs.InMemory.{is_listed}
use Rattle.sj_outside.proofs.sink.MemSinkSink.write.Goals as goal

pub returns-then-contains-clause-fails : goal.returns-then-contains-clause-fails
returns-then-contains-clause-fails c =
    let listed : is_listed c.args.self.now.fails c.args.self.now.calls ≡ true = search rules in
    (λ _. inl listed, λ _. refl)
