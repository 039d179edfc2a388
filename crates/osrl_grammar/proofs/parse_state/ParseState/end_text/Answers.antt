use Rattle.osrl_grammar.proofs.Names.{◌∙◌, ap, trimmed}
use Rattle.osrl_grammar.proofs.Endings.{job_ends, message_ends, status_ends, other_ends}
use Rattle.osrl_grammar.proofs.parse_state.ParseState.end_text.Goals as goal

pub returns-in-JobId : goal.returns-in-JobId
returns-in-JobId c = job_ends _ c.args.self.now c.self.view_is c.args.place c.outer-self-inside.result c.outer-self-inside.ensures c.keep_first.result _ _ c.in-JobId.is (c.trim.ensures ∙ ap trimmed c.as_slice-text.ensures.value) c.keep_first.ensures

pub returns-in-Message : goal.returns-in-Message
returns-in-Message c = message_ends _ c.args.self.now c.self.view_is c.args.place c.outer-self-inside.result c.outer-self-inside.ensures c.keep_first-in-Message.result _ _ c.in-Message.is (c.trim-in-Message.ensures ∙ ap trimmed c.as_slice-text.ensures.value) c.keep_first-in-Message.ensures

pub returns-in-JobStatus : goal.returns-in-JobStatus
returns-in-JobStatus c = status_ends _ c.args.self.now c.self.view_is c.args.place c.outer-self-inside.result c.outer-self-inside.ensures c.keep_first-in-JobStatus.result _ _ c.in-JobStatus.is c.as_slice-text.ensures.value c.keep_first-in-JobStatus.ensures

pub returns-in_default : goal.returns-in_default
returns-in_default c = other_ends _ c.args.self.now c.self.view_is c.args.place c.outer-self-inside.result c.outer-self-inside.ensures c.in_default.not-JobId c.in_default.not-Message c.in_default.not-JobStatus c.requires.item c.requires.root
