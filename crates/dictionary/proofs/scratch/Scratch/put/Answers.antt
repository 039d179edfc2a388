use Rattle.std.proofs.Common.{◌≡◌, ℕ, not, nat_eq, FitsSigned, rules, arith, refl, ◌∙◌, ap}
use mir.Syntax.{w128}
use Rattle.std.specs.Prelude.{unsigned_abs}
use Rattle.std.proofs.Math.ListN.{length-set}
use Rattle.std.proofs.lemmas.Int.{to_z-of_z}
use Rattle.marks.specs.Marks.{is_marked}
use Rattle.dictionary.proofs.FoundValues.{found_own, found_other, found_more}
use Rattle.dictionary.proofs.SpreadRows.{set_other}
use Rattle.dictionary.proofs.scratch.Scratch.put.Goals as goal
use Rattle.dictionary.proofs.scratch.Scratch.put.Goals.{After-put}

own : (c : After-put) → is_marked c.put.new.self c.args.col ≡ not (nat_eq (unsigned_abs c.args.value.numer) 0)
own c =
    let fits : FitsSigned w128 c.args.value.numer = search rules in
    let size = simp to_z-of_z at c.unsigned_abs-size.ensures.value in
    c.put.ensures.own ∙ ap (λ (k : ℕ). not (nat_eq k 0)) size

pub index_mut-requires : goal.index_mut-requires
index_mut-requires c = let v = c.args.self.now.values in let e = v.ok.0 in let l = c.requires in omega arith

pub put-requires : goal.put-requires
put-requires c = let m = c.args.self.now.marks in let l = c.requires in omega arith

pub returns-clause-count : goal.returns-clause-count
returns-clause-count c = length-set c.args.self.now.values.items c.args.col c.args.value

pub returns-clause-own : goal.returns-clause-own
returns-clause-own c = found_own c.args.self.now _ c.args.col c.args.value c.requires refl (own (goal.at.returns-clause-own c).After-put) c.put.ensures.others

pub returns-clause-others : goal.returns-clause-others
returns-clause-others c = found_other c.args.self.now _ c.args.col c.args.value c.requires refl (own (goal.at.returns-clause-others c).After-put) c.put.ensures.others

pub returns-clause-found : goal.returns-clause-found
returns-clause-found c = found_more c.args.self.now _ c.args.col c.args.value c.requires refl (own (goal.at.returns-clause-found c).After-put) c.put.ensures.others

pub returns-clause-values : goal.returns-clause-values
returns-clause-values c j d = set_other c.args.self.now.values.items c.args.col j c.args.value d
