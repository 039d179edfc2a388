-- What holds of every conversation.
use Rattle.std.specs.Prelude.{◌≡◌, ℕ, Bool, List, ◌++◌, Option, Some, map, ⊤}
use Rattle.job_table.specs.declared.entries.Reply.{Reply}
use Rattle.job_table.specs.Jobs.{Register, Rises}
use Rattle.job_table.specs.History.{MoveEntry, LeadsOn}
use Rattle.job_runs.specs.Laws.{AreKeptIfStored}
use Rattle.os_server.specs.declared.serve.Served.{Served}
use Rattle.os_server.specs.declared.serve.Served.TheVariants.{Ended, CutShort, ReadFault, WriteFault, Memory}
use Rattle.os_server.specs.Talk.{Part, AtEnd, ReadsBytes, Talk}

-- so ended, no read and no write failed, and there was memory
abbrev pub HasNoFault : Served → Type 0
HasNoFault Ended = ⊤
HasNoFault CutShort = ⊤
HasNoFault ReadFault = ⊥
HasNoFault WriteFault = ⊥
HasNoFault Memory = ⊥

-- the bytes of each part
abbrev pub takens : List Part → List (List ℕ)
takens parts = map (λ p. p.taken) parts

-- what the moves were replied
abbrev pub replies : List MoveEntry → List Reply
replies entries = map (λ e. e.reply) entries

-- where a table's history is that of one who makes moves, every finish of a conversation is kept, where its effect is stored
abbrev pub ConversationsAreKept : (List ℕ → List ℕ → List Bool → Option (List ℕ) → Type 0) → (Bool → Type 0) → (List ℕ → List ℕ → Bool → Option (List ℕ) → Type 0) → Type 0
ConversationsAreKept made wakes right =
    (end : Served) (left left' : Option (List ℕ)) (p : Part) (start : Register) (before : List MoveEntry) (now : Register) → Rises start
    → Talk made wakes end (AtEnd left left') p → LeadsOn right start (before ++ p.entries) now → AreKeptIfStored p.entries

module _ (made : List ℕ → List ℕ → List Bool → Option (List ℕ) → Type 0) (wakes : Bool → Type 0) where
  -- without a fault, and with memory, the bytes to come are cut into requests and a last part in one way, which says how the
  -- conversation ends
  abbrev pub BytesAreCutOneWay : Type 0
  BytesAreCutOneWay =
      (end other : Served) (bytes left rest : List ℕ) (p q : Part)
      (t : Talk made wakes end (AtEnd (Some bytes) (Some left)) p) (u : Talk made wakes other (AtEnd (Some bytes) (Some rest)) q)
      → HasNoFault end → HasNoFault other
      → ReadsBytes p.taken (Some bytes) (Some left) → ReadsBytes q.taken (Some bytes) (Some rest)
      → (end ≡ other) × (takens t.done ≡ takens u.done) × (t.last.taken ≡ u.last.taken)

  -- without a fault, and with memory, the bytes to come and what the moves were replied decide the bytes written
  abbrev pub RepliesDecide : Type 0
  RepliesDecide =
      (end other : Served) (bytes left rest : List ℕ) (p q : Part)
      (t : Talk made wakes end (AtEnd (Some bytes) (Some left)) p) (u : Talk made wakes other (AtEnd (Some bytes) (Some rest)) q)
      → HasNoFault end → HasNoFault other
      → ReadsBytes p.taken (Some bytes) (Some left) → ReadsBytes q.taken (Some bytes) (Some rest)
      → replies p.entries ≡ replies q.entries → p.out ≡ q.out
