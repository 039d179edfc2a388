-- Looks at one job, as moves.
use Rattle.std.specs.Prelude.{◌≡◌, ℕ, ◌+◌, Bool, List, ◌++◌, map}
use Rattle.std.proofs.Common.{◌∙◌, ap, sym, subst, add_assoc}
use Rattle.std.proofs.lemmas.List.{map-append}
use Rattle.os_io.specs.Looks.{stops_of}
use Rattle.os_io.specs.Laws.{stops_more}
use Rattle.job_table.specs.declared.entries.TableMove.TheVariants.{Look}
use Rattle.job_table.specs.declared.entries.Reply.TheVariants as reply
use Rattle.job_table.specs.History.{MoveEntry, entry_of_move}

-- looks at the job with that number, with these answers
abbrev pub looks : ℕ → List Bool → List MoveEntry
looks n answers = map (λ answer. entry_of_move (Look n) (reply.Marked answer)) answers

-- looks after looks are both
pub looks_then : (did did' both : List MoveEntry → Type 0) → ((a b : List MoveEntry) → did a → did' b → both (a ++ b))
    → (m n : ℕ) → n ≡ m → (a b : List Bool) → did (looks m a) → did' (looks n b) → both (looks m (a ++ b))
looks_then did did' both joins m n same a b p q =
    subst (λ (es : List MoveEntry). both es) (sym (map-append (λ answer. entry_of_move (Look m) (reply.Marked answer)) a b))
    (joins (looks m a) (looks m b) p (subst (λ (k : ℕ). did' (looks k b)) same q))

-- the count of those that said to stop goes on
pub counted_then : (i j k : ℕ) (a b : List Bool) → j ≡ i + stops_of a → k ≡ j + stops_of b → k ≡ i + stops_of (a ++ b)
counted_then i j k a b p q =
    q ∙ ap (λ n. n + stops_of b) p ∙ add_assoc i (stops_of a) (stops_of b) ∙ ap (λ n. i + n) (sym (stops_more a b))
