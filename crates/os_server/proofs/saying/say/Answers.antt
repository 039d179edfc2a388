use Rattle.std.proofs.Common.{◌∙◌, Some, sym, ap}
use Rattle.os_server.specs.declared.fault.FaultCode.TheVariants as codes_of
use Rattle.os_server.specs.Answers.{said_by, fault_said, reply_of, returns}
use Rattle.os_server.proofs.Replies.{said_as, returned_as}
use Rattle.os_server.proofs.saying.say.Goals as goal

pub returns-in-Full : goal.returns-in-Full
returns-in-Full c =
    said_as c.args.kind c.args.number (reply_of c.args.last.now) _ c.said_fault.result (ap (λ last. said_by c.args.kind c.args.number (reply_of last)) c.in-Full.is) c.said_fault.ensures

pub returns-in-Spent : goal.returns-in-Spent
returns-in-Spent c =
    said_as c.args.kind c.args.number (reply_of c.args.last.now) _ c.said_fault-in-Spent.result (ap (λ last. said_by c.args.kind c.args.number (reply_of last)) c.in-Spent.is)
    c.said_fault-in-Spent.ensures

pub returns-in-NotStored : goal.returns-in-NotStored
returns-in-NotStored c =
    said_as c.args.kind c.args.number (reply_of c.args.last.now) _ c.said_fault-in-NotStored.result
    (ap (λ last. said_by c.args.kind c.args.number (reply_of last)) c.in-NotStored.is ∙ ap (λ text. Some (fault_said codes_of.Disk text)) (sym c.why.ensures))
    c.said_fault-in-NotStored.ensures

pub returns-in_ok-text-in-Killing : goal.returns-in_ok-text-in-Killing
returns-in_ok-text-in-Killing c =
    returned_as c.args.kind c.args.number (reply_of c.args.last.now) c.as_slice-in-Killing.result.now c.returned-in-Killing.result
    (ap (λ last. said_by c.args.kind c.args.number (reply_of last)) c.in-Killing.is ∙ ap (returns c.args.kind) (sym (c.as_slice-in-Killing.ensures ∙ c.in_ok-text-in-Killing.ensures)))
    c.returned-in-Killing.ensures

pub returns-in_ok-text-in-Statistics : goal.returns-in_ok-text-in-Statistics
returns-in_ok-text-in-Statistics c =
    returned_as c.args.kind c.args.number (reply_of c.args.last.now) c.as_slice-in-Statistics.result.now c.returned-in-Statistics.result
    (ap (λ last. said_by c.args.kind c.args.number (reply_of last)) c.in-Statistics.is ∙ ap (returns c.args.kind) (sym (c.as_slice-in-Statistics.ensures ∙ c.in_ok-text-in-Statistics.ensures)))
    c.returned-in-Statistics.ensures
