use Rattle.std.proofs.Common.{sym}
use Rattle.instance_names.proofs.Walks.{chars_alone}
use Rattle.instance_names.proofs.parse_state.ParseStateMarkFold.chars.Goals as goal

pub returns : goal.returns
returns c = sym (chars_alone c.args._text.now c.args.self.now)
