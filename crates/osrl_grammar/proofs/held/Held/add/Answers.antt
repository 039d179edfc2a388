use Rattle.osrl_grammar.proofs.ItemTests.{point_added, value_added, ray_added, bound_added}
use Rattle.osrl_grammar.proofs.held.Held.add.Goals as goal

pub returns-in-Point-clause-read : goal.returns-in-Point-clause-read
returns-in-Point-clause-read c = point_added c.push_number.result c.args.part c.args.text.now c.args.self.now c.push_number.new.numbers c.in-Point.is c.push_number.ensures

pub returns-in-Value-clause-read : goal.returns-in-Value-clause-read
returns-in-Value-clause-read c = value_added c.push_number-in-Value.result c.args.part c.args.text.now c.args.self.now c.push_number-in-Value.new.numbers c.in-Value.is c.push_number-in-Value.ensures

pub returns-in-Ray-clause-read : goal.returns-in-Ray-clause-read
returns-in-Ray-clause-read c = ray_added c.push_number-in-Ray.result c.args.part c.args.text.now c.args.self.now c.push_number-in-Ray.new.numbers c.in-Ray.is c.push_number-in-Ray.ensures

pub returns-in-Bound-clause-read : goal.returns-in-Bound-clause-read
returns-in-Bound-clause-read c = bound_added c.push_number-in-Bound.result c.args.part c.args.text.now c.args.self.now c.push_number-in-Bound.new.numbers c.in-Bound.is c.push_number-in-Bound.ensures
