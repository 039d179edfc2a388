-- One move, with the gate before it.
use Rattle.std.proofs.Common.{◌≡◌, ℕ, true, false, List, Option, Some, None, sym, ◌∙◌, ap, subst, append-nil, IsSome}
use Rattle.job_table.specs.declared.entries.TableMove.{TableMove}
use Rattle.job_table.specs.declared.entries.Reply.{Reply}
use Rattle.job_table.specs.declared.moves.MoveKind.{MoveKind}
use Rattle.job_table.specs.Steps.{move_kind}
use Rattle.job_table.specs.History.{entry_if}
use Rattle.workers.specs.Gates.{looks_with, look_number, look_numbers, looks_counted}

false_is_not : false ≡ true → ⊥
false_is_not e = cc

-- a move that was made
pub counted_made : (move : TableMove) (said : Option Reply) (kind : MoveKind) (n : ℕ) (passed : List ℕ → Type 0) → kind ≡ move_kind move → IsSome said
    → passed (look_number (looks_with n kind) kind) → passed (look_numbers n (entry_if move said)) × (looks_with n kind ≡ looks_counted n (entry_if move said))
counted_made move (Some reply) kind n passed is there before = (
  subst passed (ap (λ (k : MoveKind). look_number (looks_with n k) k) is ∙ sym (append-nil (look_number (looks_with n (move_kind move)) (move_kind move)))) before,
  ap (looks_with n) is,
)
counted_made move None kind n passed is there before = absurd (false_is_not there)
