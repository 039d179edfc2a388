use Rattle.effects.proofs.Faults.{never_refused}
use Rattle.job_table.proofs.table.Table.enter.Goals as goal

pub unreachable-requires : goal.unreachable-requires
unreachable-requires g c = never_refused _ _ _ _ _ c.in-Err.ensures.refused.1
