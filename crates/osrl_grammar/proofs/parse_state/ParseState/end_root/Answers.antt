use Rattle.osrl_grammar.proofs.Names.{◌∙◌, ap, sym, State, report_of}
use Rattle.osrl_grammar.proofs.Endings.{none_unread, root_unread, root_ends}
use Rattle.osrl_grammar.proofs.parse_state.ParseState.end_root.Goals as goal

pub returns-in-Some : goal.returns-in-Some
returns-in-Some c = root_unread c.args.self.now c.args.self.now c.in-Some.bad c.refusal.result c.in-Some.ensures c.refusal.ensures

pub returns-in-Some-2 : goal.returns-in-Some-2
returns-in-Some-2 c =
    root_ends c.args.self.now _ c.in-Some-2.report (none_unread c.args.self.now c.bad_item.result c.bad_item.ensures c.in_default.not-Some) (c.are_counted.ensures.0 c.if-not-are_counted.false)
    (ap report_of (sym c.replace.ensures.value) ∙ sym c.in_ok-report.ensures ∙ c.in-Some-2.is) (ap (λ (s : State). let z : State = record s { report = c.in-Some-2.report } in z) (c.self-2.view_is ∙ c.replace.ensures.after ∙ c.new.ensures))
