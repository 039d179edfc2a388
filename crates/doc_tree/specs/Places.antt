-- Where a reader stands by its own state.
use Rattle.doc_tree.specs.Completions.{view}
use Rattle.doc_tree.specs.Feeding.{Feeding}
use Rattle.doc_tree.specs.declared.reading.Reading.TheInside.{Inside}

abbrev pub feeding : Inside → Feeding
feeding r = record { state = view r.lines.machine; returned = r.lines.returned; awaited = r.awaited; limit = r.limit; count = r.count; refusal = r.refusal }
