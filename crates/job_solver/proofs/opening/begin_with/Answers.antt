use Rattle.std.proofs.Common.{◌≡◌, inr, ℕ, true, length, Err, sym, ◌∙◌, ap, subst}
use Rattle.effects.specs.Records.{Begin, body}
use Rattle.effects.specs.declared.store.NotStored.{NotStored}
use Rattle.job_journal.specs.Journal.{is_too_long}
use Rattle.job_journal.proofs.Runs.{stays_whole}
use Rattle.job_solver.proofs.Openings.{begun, begins_then, puts_so, stays_so}
use Rattle.job_solver.proofs.opening.begin_with.Goals as goal

pub returns-in-Ok-apply-clause-begun : goal.returns-in-Ok-apply-clause-begun
returns-in-Ok-apply-clause-begun g c =
    begun g.D.Disk.seen g.D.Disk.may_leave g.D.Disk.told c.args.first c.args.journal.now.disk c.put.new.self.disk c.args.journal.now.end c.put.new.self.end c.args.table.now c.apply.new.self c.in-Ok-apply.field-0
    c.in-Ok-apply.ensures (sym c.has_given.ensures ∙ c.if-has_given.false) c.requires.some c.requires.within c.in-Ok.ensures.stored

pub returns-in-Ok-apply-clause-sound : goal.returns-in-Ok-apply-clause-sound
returns-in-Ok-apply-clause-sound g c =
    let put = c.in-Ok.ensures in
    (stays_whole c.args.journal.now.broken c.put.new.self.broken _ _ put.broken put.breaks (λ e. cc) (λ e. cc)).1

pub returns-in-Ok-apply-clause-begins : goal.returns-in-Ok-apply-clause-begins
returns-in-Ok-apply-clause-begins g c =
    begins_then c.args.first c.put.new.self.end c.args.table.now c.apply.new.self c.in-Ok-apply.field-0 c.in-Ok-apply.ensures (sym c.has_given.ensures ∙ c.if-has_given.false) c.requires.some c.requires.within

pub returns-in-Err-Long-clause-begins : goal.returns-in-Err-Long-clause-begins
returns-in-Err-Long-clause-begins g c =
    let put = c.in-Err-Long.ensures in
    let is = ap (λ (f : NotStored). Err f) c.in-Err-Long.field-0-is in
    let still = put.same_long is in
    inr (inr (subst (λ (end : ℕ). is_too_long end (length (body (Begin c.args.first))) ≡ true) (ap (λ j. j.end) (sym still)) (put.long.0 is).1))

pub returns-then-has_given-clause-any_moment : goal.returns-then-has_given-clause-any_moment
returns-then-has_given-clause-any_moment g c = λ deeds t rests folds.
    stays_so g.D.Disk.may_leave g.D.Disk.moment g.D.Disk.left_since c.args.first g.D.Disk.seen c.args.journal.now.disk c.args.journal.now.end deeds (g.met.D.Disk.only_now c.args.journal.now.disk) rests

pub returns-in-Ok-apply-clause-any_moment : goal.returns-in-Ok-apply-clause-any_moment
returns-in-Ok-apply-clause-any_moment g c = λ deeds t rests folds.
    puts_so g.D.Disk.may_leave g.D.Disk.moment g.D.Disk.left_since c.args.first c.args.journal.now.disk c.put.new.self.disk deeds c.args.table.now (sym c.has_given.ensures ∙ c.if-has_given.false) c.requires.some c.requires.within folds (c.put.ensures.any_moment deeds t rests)

pub returns-in-Err-clause-any_moment : goal.returns-in-Err-clause-any_moment
returns-in-Err-clause-any_moment g c = λ deeds t rests folds.
    puts_so g.D.Disk.may_leave g.D.Disk.moment g.D.Disk.left_since c.args.first c.args.journal.now.disk c.put.new.self.disk deeds c.args.table.now (sym c.has_given.ensures ∙ c.if-has_given.false) c.requires.some c.requires.within folds (c.put.ensures.any_moment deeds t rests)

pub returns-in-Err-Disk-clause-any_moment : goal.returns-in-Err-Disk-clause-any_moment
returns-in-Err-Disk-clause-any_moment g c = λ deeds t rests folds.
    puts_so g.D.Disk.may_leave g.D.Disk.moment g.D.Disk.left_since c.args.first c.args.journal.now.disk c.put.new.self.disk deeds c.args.table.now (sym c.has_given.ensures ∙ c.if-has_given.false) c.requires.some c.requires.within folds (c.put.ensures.any_moment deeds t rests)

pub returns-in-Err-Broken-clause-any_moment : goal.returns-in-Err-Broken-clause-any_moment
returns-in-Err-Broken-clause-any_moment g c = λ deeds t rests folds.
    puts_so g.D.Disk.may_leave g.D.Disk.moment g.D.Disk.left_since c.args.first c.args.journal.now.disk c.put.new.self.disk deeds c.args.table.now (sym c.has_given.ensures ∙ c.if-has_given.false) c.requires.some c.requires.within folds (c.put.ensures.any_moment deeds t rests)

pub returns-in-Err-Long-clause-any_moment : goal.returns-in-Err-Long-clause-any_moment
returns-in-Err-Long-clause-any_moment g c = λ deeds t rests folds.
    puts_so g.D.Disk.may_leave g.D.Disk.moment g.D.Disk.left_since c.args.first c.args.journal.now.disk c.put.new.self.disk deeds c.args.table.now (sym c.has_given.ensures ∙ c.if-has_given.false) c.requires.some c.requires.within folds (c.put.ensures.any_moment deeds t rests)
