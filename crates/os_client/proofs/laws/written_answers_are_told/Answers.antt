use Rattle.std.proofs.Common.{◌++◌, Ok, Err, codes}
use Rattle.http_link.specs.Replies.{code_of}
use Rattle.http_link.specs.Responses.{answer_text, fault_answer_text, refusal_bytes}
use Rattle.six_calls.specs.Names.{kind_text}
use Rattle.soap_calls.specs.Writing.{reply_text, fault_text}
use Rattle.os_client.specs.declared.fault.CallFault.TheVariants.{Refused, Http}
use Rattle.os_client.specs.Outputs.{returned_status, fault_line, http_line}
use Rattle.os_client.proofs.ServerAnswers.{told_of, due_is}
use Rattle.os_client.proofs.laws.written_answers_are_told.Goals as goal

pub returns-clause-returned : goal.returns-clause-returned
returns-clause-returned c status run text xml may short gives ends which =
    let reply = reply_text (kind_text run.kind) text in
    let told = told_of c.bytes_have_one_answer.ensures c.one_reply_comes_first.ensures status run (answer_text reply) (Ok text)
    (c.answers_are_read_back.ensures.answer reply short).1 (c.written_answers_are_heard.ensures.returned run.kind text xml may short) gives ends which in
    due_is status (returned_status run.kind text) text told.0 run.output run.output_after told.1 told.2

pub returns-clause-fault : goal.returns-clause-fault
returns-clause-fault c status run code text xml xml_text short gives ends which =
    let body = fault_text code text in
    let named = codes "soap:" ++ code in
    let told = told_of c.bytes_have_one_answer.ensures c.one_reply_comes_first.ensures status run (fault_answer_text body) (Err (Refused named text))
    (c.answers_are_read_back.ensures.fault body short).1 (c.written_answers_are_heard.ensures.fault (kind_text run.kind) code text xml xml_text short) gives ends which in
    due_is status 1 (fault_line named text) told.0 run.output run.output_after told.1 told.2

pub returns-clause-refused : goal.returns-clause-refused
returns-clause-refused c status run refusal gives ends which =
    let told = told_of c.bytes_have_one_answer.ensures c.one_reply_comes_first.ensures status run (refusal_bytes refusal) (Err (Http (code_of refusal)))
    (c.refusals_are_read_back.ensures refusal).1 (c.written_answers_are_heard.ensures.refused (kind_text run.kind) refusal) gives ends which in
    due_is status 1 (http_line (code_of refusal)) told.0 run.output run.output_after told.1 told.2
