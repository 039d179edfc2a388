use Rattle.osil_grammar.proofs.OneDocument.{root_refused_once, text_refused_once, text_not_both}
use Rattle.osil_grammar.proofs.OneFault.{faults_alike, told_once, never_both}
use Rattle.osil_grammar.proofs.reading_laws.documents_are_refused_in_one_way.Goals as goal

pub returns-clause-root : goal.returns-clause-root
returns-clause-root c = root_refused_once

pub returns-clause-text : goal.returns-clause-text
returns-clause-text c = text_refused_once

pub returns-clause-no_instance : goal.returns-clause-no_instance
returns-clause-no_instance c = text_not_both

pub returns-clause-faults : goal.returns-clause-faults
returns-clause-faults c = λ bytes f g one other h k. faults_alike bytes f g one other h k

pub returns-clause-told : goal.returns-clause-told
returns-clause-told c = λ bytes f g s t h k a b. told_once bytes f g s t h k a b

pub returns-clause-no_fault : goal.returns-clause-no_fault
returns-clause-no_fault c = λ bytes p f is h. never_both bytes p f is h
