use Rattle.std.proofs.Common.{◌≡◌}
use Rattle.desk.proofs.desk.DeskOf+J+T.draw.Given as goal

-- nothing is drawn yet
abbrev pub invariant-loop : goal.invariant-loop
invariant-loop g l = (l.me.table_id ≡ l.initial.me.table_id) × (l.me.me ≡ l.initial.me.me)
