-- What the histories of a desk are: legal ones of a table alone, and ones of a table beside what keeps the effects of its moves.
use Rattle.std.proofs.Common.{ℕ, List, [], ◌∷◌, Bool, Option, sym, ap, subst}
use Rattle.job_table.specs.Jobs.{Register, beginning}
use Rattle.job_table.specs.Steps.{Step}
use Rattle.job_table.specs.History as table
use Rattle.job_table.specs.declared.entries.TableMove.{TableMove}
use Rattle.job_table.specs.declared.entries.Reply.{Reply}
use Rattle.job_table.proofs.Histories.{first_led}
use Rattle.effects.specs.Records.{Deed}
use Rattle.desk.specs.declared.held.Held.{Held}
use Rattle.desk.specs.declared.held.Stored.{Stored}
use Rattle.desk.specs.Kinds.{Moves}
use Rattle.desk.specs.Stores.{LeadsStored, IsStoredLegal}
use Rattle.desk.specs.declared.view.SeatEntry.{SeatEntry}
use Rattle.desk.specs.History.{Makes, CanMake, LeadsFrom, LeadsTo, IsLegalFrom, IsLegal, moves_in}

-- the table begins so too
pub led_to : (right : List ℕ → List ℕ → Bool → Option (List ℕ) → Type 0) (start : ℕ) (log : List SeatEntry) (held : Register) → LeadsFrom right start log held → LeadsTo right log held
led_to right start log held leads = subst (λ (k : ℕ). LeadsFrom right k log held) (sym (first_led right start (moves_in log) held leads)) leads

pub legal_led : (right : List ℕ → List ℕ → Bool → Option (List ℕ) → Type 0) (start : ℕ) (log : List SeatEntry) → IsLegalFrom right start log → IsLegal right log
legal_led right start log (held, leads) = (held, led_to right start log held leads)

-- of a desk whose slot has a table alone, which began empty
module _ {J : Type 0} (right : List ℕ → List ℕ → Bool → Option (List ℕ) → Type 0) where
  abbrev pub Plain : Held J → TableMove → Reply → Held J → Type 0
  Plain h move reply k = Step right h.table move reply k.table

  leads_plain : (h : Held J) (log : List SeatEntry) (held : Held J) → Makes Plain h log held → table.LeadsStepwise right h.table (moves_in log) held.table
  leads_plain h [] held same = ap (λ (x : Held J). x.table) same
  leads_plain h (e ∷ es) held (next, stp, rest) = (next.table, stp, leads_plain next es held rest)

  pub leads_of : (start : ℕ) (log : List SeatEntry) (held : Held J) → Makes Plain (record { table = beginning start }) log held → LeadsFrom right start log held.table
  leads_of start log held makes = leads_plain (record { table = beginning start }) log held makes

  pub legal_of : (start : ℕ) (log : List SeatEntry) → CanMake Plain (record { table = beginning start }) log → IsLegalFrom right start log
  legal_of start log (held, makes) = (held.table, leads_of start log held makes)

-- of a desk whose slot has a store too
module _ {J S : Type 0} (right : List ℕ → List ℕ → Bool → Option (List ℕ) → Type 0) (keeps : S → List Deed → Type 0) (passes : S → S → List Deed → Deed → Type 0) (too_long : S → List Deed → Deed → Bool) (broken : S → Bool) (faults : S → ℕ) where
  abbrev pub Beside : Stored J S → TableMove → Reply → Stored J S → Type 0
  Beside h move reply k = Moves right keeps passes too_long broken faults (h.table, h.store) move reply (k.table, k.store)

  pub paired : (start : Stored J S) (log : List SeatEntry) (held : Stored J S) → Makes Beside start log held
      → LeadsStored right keeps passes too_long broken faults (start.table, start.store) log (held.table, held.store)
  paired start [] held same = λ i. ((same i).table, (same i).store)
  paired start (e ∷ es) held (next, moved, rest) = ((next.table, next.store), moved, paired next es held rest)

  pub legal_beside : (start : Stored J S) (log : List SeatEntry) → CanMake Beside start log → IsStoredLegal right keeps passes too_long broken faults (start.table, start.store) log
  legal_beside start log (held, makes) = ((held.table, held.store), paired start log held makes)
