use Rattle.std.proofs.Common.{sym, ap, ◌∙◌}
use Rattle.desk.proofs.Steps.{opens}
use Rattle.desk.proofs.desk.DeskOf+J+T.open.Goals as goal

pub new-requires : goal.new-requires
new-requires g c = opens _ c.push.new.self.items c.in-Ok.slots.items c.args.held (c.in-Ok-push.ensures.items) c.in-Ok.ensures.items (sym (ap g.T.SlotContents.opening c.of-told.ensures ∙ c.requires))
