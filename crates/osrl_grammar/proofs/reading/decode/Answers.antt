use Rattle.osrl_grammar.proofs.Names.{Ok, subst, OsrlFault, State, osrl}
use Rattle.document_tags.specs.Documents.{OfDocument}
use Rattle.tag_tests.specs.Forms.{AreTaken, AreRefused}
use Rattle.tag_tests.specs.Readers.{Reads}
use Rattle.osrl_grammar.proofs.reading.decode.Goals as goal

pub returns-in-Ok-Ok-clause-ok : goal.returns-in-Ok-Ok-clause-ok
returns-in-Ok-Ok-clause-ok c =
    let h = subst (λ (s : State). OfDocument (Reads {R = OsrlFault} (AreTaken osrl) (AreRefused osrl) s) c.args.bytes.now (Ok c.in-Ok-Ok.parse_state)) c.new.ensures
    (rw c.in-Ok-Ok.field-0-is at c.in-Ok-Ok.ensures.ok) in
    record { root = h.root; document = h.document; is = (c.in-Ok-Ok.parse_state, h.is, c.report.ensures) }
