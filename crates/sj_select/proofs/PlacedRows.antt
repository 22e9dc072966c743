-- The rows of a table, where they were put in a place of their own.
use Rattle.std.proofs.Common.{◌≡◌, Box, Global, IfOk, Result, Ok, Err, sym, ap, subst}
use Rattle.sj_base.specs.declared.memory.Memory.{Memory}
use Rattle.sj_select.specs.Tables.{IsPlaced}
use Rattle.sj_select.specs.declared.table.TableRows.{TableRows}

pub placed_in : (r : Result (Box TableRows Global) Memory) (t : TableRows) → IfOk r (λ b. b.value ≡ t) → IsPlaced t → IfOk r (λ b. IsPlaced b.value)
placed_in (Ok b) t same placed = subst IsPlaced (sym same) placed
placed_in (Err m) t same placed = tt

pub table_in : (r : Result (Box TableRows Global) Memory) (t : TableRows) → IfOk r (λ b. b.value ≡ t) → IfOk r (λ b. b.value.table.now ≡ t.table.now)
table_in (Ok b) t same = ap (λ (x : TableRows). x.table.now) same
table_in (Err m) t same = tt
