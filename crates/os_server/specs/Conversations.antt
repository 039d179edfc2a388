-- Conversations on links that are served beside each other.
use Rattle.std.specs.Prelude.{◌≡◌, ℕ, Bool, true, false, List, Option}
use Rattle.os_io.specs.Streams.{Tells}
use Rattle.job_table.specs.History.{MoveEntry}
use Rattle.os_server.specs.declared.serve.Served.{Served}
use Rattle.os_server.specs.declared.serve.Served.TheVariants as served
use Rattle.os_server.specs.Talk.{Serves}

-- so ended, there was no memory
abbrev pub lacks_memory : Served → Bool
lacks_memory served.Ended = false
lacks_memory served.CutShort = false
lacks_memory served.ReadFault = false
lacks_memory served.WriteFault = false
lacks_memory served.Memory = true

-- a conversation, by which looks a run of a job's texts makes, with the document that comes of it, by what a ring of the bell may answer, what its link
-- told before it, the moves that were made for it, what its link told after it, and whether it ended for want of memory
abbrev pub Converses : (List ℕ → List ℕ → List Bool → Option (List ℕ) → Type 0) → (Bool → Type 0) → Tells → List MoveEntry → Tells → Bool → Type 0
Converses ran rang came said back short =
    (end : Served) × Serves ran rang (λ made. made ≡ said) end came back × (short ≡ lacks_memory end)
