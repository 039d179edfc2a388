use Rattle.std.proofs.Common.{rules, List, ap, sym, ◌∙◌, subst}
use Rattle.job_table.specs.declared.entries.TableMove.{TableMove}
use Rattle.desk.specs.declared.view.SeatEntry.{SeatEntry}
use Rattle.job_table.specs.Kept.{said_in}
use Rattle.desk.specs.History.{Makes}
use Rattle.desk.specs.SeatMoves.{told_of, IsMoveAnswered, reply_in}
use Rattle.desk.proofs.Entries.{not_made}
use Rattle.desk.proofs.Steps.{skips, answered}
use Rattle.desk.proofs.desk.DeskOf+J+T.answer.Goals as goal

pub pass_on-requires-clause-turn : goal.pass_on-requires-clause-turn
pass_on-requires-clause-turn g c =
    let made = c.make-answer in
    let said = said_in g.M.Move.said made.result in
    let start = g.T.SlotContents.opening (told_of c.args.self.now) in
    subst (λ (move : TableMove). IsMoveAnswered g.T.SlotContents.becomes start move (reply_in said) c.give.new.me.me)
    (ap g.M.Move.table_move (sym c.of-asked.ensures))
    (answered g.T.SlotContents.becomes c.args.me.now.me _ c.args.number c.args.held _ _ said c.requires.turn c.give.ensures.1 made.ensures.ok
    (c.is_answered.ensures.0 c.if-is_answered.true))

pub fetch_add-requires : goal.fetch_add-requires
fetch_add-requires g c =
    let e = c.give.ensures.1 in
    let turn = c.requires.turn in
    let start = g.T.SlotContents.opening (told_of c.args.self.now) in
    let same = not_made _ _ _ c.if-is_answered.false c.is_answered.ensures c.make-answer.ensures.err in (
      search rules,
      search rules,
      skips _ _ _ _ c.args.number _ (ap (λ m. m.0.turn) e ∙ turn.turn) (ap (λ m. m.0.live) e ∙ turn.live) (ap (λ m. m.1) e)
          (subst (λ (z : List SeatEntry × _). Makes g.T.SlotContents.becomes start z.0 z.1) (λ i. (sym (ap (λ m. m.0.seen) e) i, sym same i)) turn.leads),
    )
