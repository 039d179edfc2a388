use Rattle.document_tags.proofs.CharacterTexts.{document_of, own_of}
use Rattle.document_tags.proofs.laws.documents_are_of_characters.Goals as goal

pub returns : goal.returns
returns c = record { root = document_of; own = own_of }
