use Rattle.osil_grammar.proofs.Words.{ℕ, List, subst, State, start, WasFed, IsInstanceText, DecodeFails}
use Rattle.tag_tests.specs.Readers.{Decoding}
use Rattle.osil_grammar.specs.declared.stop.Refused.{Refused}
use Rattle.osil_grammar.specs.declared.fault.OsilFault.TheVariants as faults
use Rattle.osil_grammar.proofs.Decodings.{is_instance, is_refused, is_no_document}
use Rattle.osil_grammar.proofs.decoder.Decoder.finish.Goals as goal

pub returns-in_ok-instance-in-Ok-Ok-clause-ok : goal.returns-in_ok-instance-in-Ok-Ok-clause-ok
returns-in_ok-instance-in-Ok-Ok-clause-ok c =
    let said = c.in_ok-instance-in-Ok-Ok in
    subst (λ (d : Decoding State Refused). (bytes : List ℕ) → WasFed d bytes → IsInstanceText bytes said.field-0) c.self.view_is (λ bytes h. is_instance bytes c.in-Ok-Ok.reader said.field-0 said.ensures (rw c.in-Ok-Ok.field-0-is at (c.in-Ok-Ok.ensures.ok start bytes h)))

pub returns-in-Ok-Err-clause-err : goal.returns-in-Ok-Err-clause-err
returns-in-Ok-Err-clause-err c = subst (λ (d : Decoding State Refused). (bytes : List ℕ) → WasFed d bytes → DecodeFails bytes (faults.Refused c.in-Ok-Err.field-0-0.refusal c.in-Ok-Err.field-0-0.at)) c.self.view_is (λ bytes h. is_refused bytes c.in-Ok-Err.field-0-0 (rw c.in-Ok-Err.field-0-is at (c.in-Ok-Err.ensures.ok start bytes h)))

pub returns-in-Err-clause-err : goal.returns-in-Err-clause-err
returns-in-Err-clause-err c = subst (λ (d : Decoding State Refused). (bytes : List ℕ) → WasFed d bytes → DecodeFails bytes c.told.result) c.self.view_is (λ bytes h. is_no_document bytes c.in-Err.fault c.told.result c.told.ensures (c.in-Err.ensures.err start bytes h))
