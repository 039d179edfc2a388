use Rattle.osrl_grammar.proofs.Beginnings.{general_begun, claiming_begun, solution_begun, result_begun, item_begun, other_begun}
use Rattle.osrl_grammar.proofs.parse_state.ParseState.begin.Goals as goal

pub returns-in-GeneralStatus : goal.returns-in-GeneralStatus
returns-in-GeneralStatus c = general_begun _ c.args.self.now c.self.view_is c.args.attributes.now c.args.place _ c.clear.ensures.items c.keep_first.result _ c.type_of.result.now c.in-GeneralStatus.is c.type_of.ensures c.keep_first.ensures

pub returns-in-SolutionStatus : goal.returns-in-SolutionStatus
returns-in-SolutionStatus c = claiming_begun _ c.args.self.now c.self.view_is c.args.attributes.now c.args.place _ c.clear.ensures.items c.keep_first-in-SolutionStatus.result _ c.type_of-in-SolutionStatus.result.now c.in-SolutionStatus.is c.type_of-in-SolutionStatus.ensures c.keep_first-in-SolutionStatus.ensures

pub returns-in-Solution : goal.returns-in-Solution
returns-in-Solution c = solution_begun _ c.args.self.now c.self.view_is c.args.attributes.now c.args.place _ c.clear.ensures.items _ c.in-Solution.is c.either-self-inside.ensures

pub returns-in-Result : goal.returns-in-Result
returns-in-Result c = result_begun _ c.args.self.now c.self.view_is c.args.attributes.now c.args.place _ c.clear.ensures.items c.in-Result.part _ _ _ c.in-Result.is c.has.ensures c.either-self-inside-in-Result.ensures c.begin.ensures

pub returns-in-Item : goal.returns-in-Item
returns-in-Item c = item_begun _ c.args.self.now c.self.view_is c.args.attributes.now c.args.place _ c.clear.ensures.items _ c.in-Item.is

pub returns-in_default : goal.returns-in_default
returns-in_default c = other_begun _ c.args.self.now c.self.view_is c.args.attributes.now c.args.place _ c.clear.ensures.items c.in_default.not-GeneralStatus c.in_default.not-SolutionStatus c.in_default.not-Solution c.in_default.not-Result c.in_default.not-Item
