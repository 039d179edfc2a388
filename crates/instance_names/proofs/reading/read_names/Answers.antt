use Rattle.instance_names.proofs.FoundNames.{may_be_found}
use Rattle.instance_names.proofs.reading.read_names.Goals as goal

pub returns-in-Ok : goal.returns-in-Ok
returns-in-Ok c = may_be_found c.args.bytes.now c.new.result c.in-Ok.parse_state c.names.result c.new.ensures (c.documents_have_one_tree.ensures c.args.bytes.now) c.names.ensures c.in-Ok.ensures.ok
