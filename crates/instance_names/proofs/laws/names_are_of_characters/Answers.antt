use Rattle.instance_names.proofs.NameCharacters.{given_xml}
use Rattle.instance_names.proofs.laws.names_are_of_characters.Goals as goal

pub returns : goal.returns
returns c = given_xml c.documents_are_of_characters.ensures.root
