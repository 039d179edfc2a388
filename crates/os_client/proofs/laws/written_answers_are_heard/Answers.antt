use Rattle.std.proofs.Common.{◌≢◌, [], arith}
use Rattle.http_link.specs.declared.refusal.Refusal.{Refusal}
use Rattle.http_link.specs.declared.refusal.Refusal.TheVariants.{BadRequest, MethodNotAllowed, LengthRequired, ContentTooLarge, HeadTooLarge, NotImplemented, ServiceUnavailable}
use Rattle.http_link.specs.Replies.{code_of}
use Rattle.six_calls.specs.Names.{kind_text}
use Rattle.soap_calls.specs.Writing.{reply_text, fault_text}
use Rattle.os_client.proofs.laws.written_answers_are_heard.Goals as goal

-- a refusal's status is neither 200 nor 500
apart : (r : Refusal) → (code_of r ≢ 200) × (code_of r ≢ 500)
apart BadRequest = (omega arith, omega arith)
apart MethodNotAllowed = (omega arith, omega arith)
apart LengthRequired = (omega arith, omega arith)
apart ContentTooLarge = (omega arith, omega arith)
apart HeadTooLarge = (omega arith, omega arith)
apart NotImplemented = (omega arith, omega arith)
apart ServiceUnavailable = (omega arith, omega arith)

pub returns-clause-returned : goal.returns-clause-returned
returns-clause-returned c k text xml may short =
    (reply_text (kind_text k) text, (c.answers_are_read_back.ensures.answer (reply_text (kind_text k) text) short).0, c.returns_are_read_back.ensures.says k text xml may short)

pub returns-clause-fault : goal.returns-clause-fault
returns-clause-fault c name code text xml xml_text short =
    (fault_text code text, (c.answers_are_read_back.ensures.fault (fault_text code text) short).0, c.faults_are_read_back.ensures.says name code text xml xml_text short)

pub returns-clause-refused : goal.returns-clause-refused
returns-clause-refused c name refusal = ([], (c.refusals_are_read_back.ensures refusal).0, (apart refusal).0, (apart refusal).1)
