use Rattle.memory_ends.specs.Laws.{came_without}
use Rattle.memory_ends.proofs.mem_watch.MemWatchWatch.hear.Goals as goal

pub returns-clause-came : goal.returns-clause-came
returns-clause-came c = came_without c.args.self.now
