use Rattle.evidence.proofs.Completed.{completed_form, completed_farkas, completed_costs}
use Rattle.evidence.proofs.RowRounds.{rows_cut}
use Rattle.evidence.proofs.leaves_of_rows_are_completed.Goals as goal

pub returns-clause-forms : goal.returns-clause-forms
returns-clause-forms c = λ I t ms good pt pm j h. let e = completed_form I good t pt ms pm j h in e.is

pub returns-clause-farkas : goal.returns-clause-farkas
returns-clause-farkas c = λ I ms good p legal above. completed_farkas I good ms p legal above

pub returns-clause-bound : goal.returns-clause-bound
returns-clause-bound c = λ I ms z good p legal reaches. record { legal = legal; costs = completed_costs I good ms p; reaches = reaches }

pub returns-clause-round : goal.returns-clause-round
returns-clause-round c = λ I ms cs k good p r. rows_cut I ms good cs k r
