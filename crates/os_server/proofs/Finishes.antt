-- The finishes of a conversation are kept, where they are stored.
use Rattle.std.proofs.Common.{◌≡◌, true, false, List, [], ◌++◌, Some, refl, sym, subst, append_assoc, inl}
use Rattle.std.proofs.lemmas.List.Elements.{All-nil, All-cons, All-append}
use Rattle.job_table.specs.declared.job.Job.{Job}
use Rattle.job_table.specs.declared.entries.TableMove.{TableMove}
use Rattle.job_table.specs.declared.entries.TableMove.TheVariants as moves
use Rattle.job_table.specs.declared.entries.Reply as tables
use Rattle.job_table.specs.declared.entries.Reply.TheVariants as reply
use Rattle.job_table.specs.Jobs.{Register, Rises}
use Rattle.job_table.specs.History.{MoveEntry, entry_of_move, LeadsOn, MovesOn, IsGiving}
use Rattle.job_runs.specs.Laws.{kept_if_finish, IsKeptIfStored, AreKeptIfStored, RunsAreKept}
use Rattle.job_table.proofs.Histories.{chains_split}
use Rattle.os_server.specs.declared.serve.Served.{Served}
use Rattle.os_server.specs.Talk.{Part, Talk}
use Rattle.job_runs.proofs.Judgements.{Made, Judgement}
use Rattle.os_server.proofs.Pieces.{Wakes, is_plain, Builds, talk_so}

false_is_not : false ≡ true → ⊥
false_is_not e = cc

plain_kept : (move : TableMove) (said : tables.Reply) → is_plain move said ≡ true → kept_if_finish move said ≡ true
plain_kept (moves.Finish j asked document) said plain = absurd (false_is_not plain)
plain_kept move said plain = refl

given_kept : (move : TableMove) (j : Job) → IsGiving move → kept_if_finish move (reply.Gave (Some j)) ≡ true
given_kept (moves.Enter o p) j giving = refl
given_kept (moves.Claim worker) j giving = refl
given_kept move j giving = absurd giving

module _ (made : Made) (right : Judgement) (law : RunsAreKept made right) where
  -- these moves are kept wherever they stand in a history
  abbrev Keeps : List MoveEntry → Type 0
  Keeps own = (start : Register) (before : List MoveEntry) (now : Register) → Rises start → LeadsOn right start (before ++ own) now → AreKeptIfStored own

  both_kept : (a b : List MoveEntry) → Keeps a → Keeps b → Keeps (a ++ b)
  both_kept a b p q start before now rises runs =
      let whole : LeadsOn right start ((before ++ a) ++ b) now = subst (λ (es : List MoveEntry). LeadsOn right start es now) (sym (append_assoc before a b)) runs in
      let found = chains_split (MovesOn right) start now (before ++ a) b whole in All-append IsKeptIfStored a b (p start before found.0 rises found.1) (q start (before ++ a) now rises whole)

  keeps : Builds made Keeps
  keeps = record {
    none = λ start before now rises runs. All-nil IsKeptIfStored;
    both = both_kept;
    plain = λ move said plain start before now rises runs. All-cons IsKeptIfStored (entry_of_move move said) [] (inl (plain_kept move said plain)) (All-nil IsKeptIfStored);
    given = λ j move fault run giving is_run start before now rises runs. All-cons IsKeptIfStored (entry_of_move move (reply.Gave (Some j))) run (inl (given_kept move j giving)) (law start j move fault before run now rises giving is_run runs);
  }

  -- every finish of a conversation
  pub talk_kept : (wakes : Wakes) (end : Served) (A : Type 0) (p : Part) → Talk made wakes end A p → Keeps p.entries
  talk_kept wakes end A p t = talk_so made Keeps keeps wakes end A p t
