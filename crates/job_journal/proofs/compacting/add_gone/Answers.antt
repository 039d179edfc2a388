use Rattle.std.proofs.Common.{◌≡◌, [], ◌∷◌, ◌++◌, true, sym, ◌∙◌}
use Rattle.effects.specs.Records.{Killed, deed_of}
use Rattle.job_journal.specs.Journal.{FileStandsFor}
use Rattle.job_journal.proofs.Calms.{runs_on}
use Rattle.job_journal.proofs.Rooms.{behind_without_room, more_without_room}
use Rattle.job_journal.proofs.compacting.add_gone.Goals as goal

pub add-requires-in-Ok : goal.add-requires-in-Ok
add-requires-in-Ok g c = record {
  drafted = λ t.
      let t_0 : g.E.Disk.told c.args.draft.now.disk ≡ true = sym c.add.ensures.told ∙ t in
      let (deeds, o) = c.requires.drafted t_0 in
      (deeds ++ Killed c.args.number ∷ [], c.in-Ok.ensures.written deeds t_0 o);
}

pub returns-in-Ok-clause-any_moment : goal.returns-in-Ok-clause-any_moment
returns-in-Ok-clause-any_moment g c = λ deeds t o.
    runs_on g.E.Disk.moment g.E.Disk.left_since c.args.draft.now.disk c.add.new.self.disk c.add-in-Ok.new.self.disk (FileStandsFor []) (FileStandsFor []) (FileStandsFor [])
    (c.add.ensures.any_moment deeds t o) (c.add-in-Ok.ensures.any_moment (deeds ++ Killed c.args.number ∷ []) (c.add.ensures.told ∙ t) (c.in-Ok.ensures.written deeds t o)) (λ f was. was) (λ f now. now)

pub returns-in-Ok-clause-long : goal.returns-in-Ok-clause-long
returns-in-Ok-clause-long g c = λ deeds t o is.
    behind_without_room deeds (Killed c.args.number ∷ []) (deed_of c.args.given_up.now ∷ []) (c.add-in-Ok.ensures.long (deeds ++ Killed c.args.number ∷ []) (c.add.ensures.told ∙ t) (c.in-Ok.ensures.written deeds t o) is)

pub returns-in-Err-clause-long : goal.returns-in-Err-clause-long
returns-in-Err-clause-long g c = λ deeds t o is. more_without_room deeds (Killed c.args.number ∷ []) (deed_of c.args.given_up.now ∷ []) (c.add.ensures.long deeds t o (c.in-Err.is ∙ is))
