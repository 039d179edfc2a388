use Rattle.std.proofs.Common.{◌≡◌, ℕ, not, nat_eq, FitsSigned, rules, arith, get_or, set, ap, subst, sym, ◌∙◌, get_or-set_same, get_or-set_other}
use mir.Syntax.{w128}
use Rattle.std.specs.Prelude.{unsigned_abs}
use Rattle.std.proofs.Math.ListN.{length-set}
use Rattle.std.proofs.lemmas.Int.{to_z-of_z}
use Rattle.std.proofs.lemmas.List.{map-set, length-map}
use Rattle.rational.specs.Ratio.{Ratio}
use Rattle.fraction.specs.Frac.{ratio, ratios}
use Rattle.evidence.specs.Sums.{none}
use Rattle.evidence.specs.Point.{value_at}
use Rattle.evidence.proofs.Columns.{by_eq}
use Rattle.marks.specs.Marks.{is_marked}
use Rattle.dictionary.specs.Numbers.{has_number}
use Rattle.dictionary.specs.Dict.{count_of, place_values}
use Rattle.dictionary.proofs.places.Places.set.Goals as goal

pub index_mut-requires : goal.index_mut-requires
unfolding count_of
index_mut-requires c = let v = c.args.self.now.values in let e = v.ok.0 in let l = c.requires in omega arith

pub put-requires : goal.put-requires
unfolding count_of
put-requires c = let p = c.args.self.now in let f = p.few in let l = c.requires in omega arith

pub invariant_of-self : goal.invariant_of-self
unfolding count_of
invariant_of-self c =
    let p = c.args.self.now in
    let xs = p.values.items in
    let fits : FitsSigned w128 c.args.value.numer = search rules in
    let size = simp to_z-of_z at c.unsigned_abs-size.ensures.value in
    let l = c.requires in
    let own = ap (λ ys. get_or ys c.args.column none) (map-set ratio xs c.args.column c.args.value) ∙ get_or-set_same (ratios xs) c.args.column (ratio c.args.value) none (omega (arith, length-map xs ratio)) in
    let mark = c.put.ensures.own ∙ ap (λ (k : ℕ). not (nat_eq k 0)) size ∙ ap (λ (x : Ratio). not (nat_eq (unsigned_abs x.num) 0)) (sym own) in
    record {
      few = let f = p.few in let n = length-set xs c.args.column c.args.value in let s = c.put.ensures.size in omega arith;
      marked = λ k. by_eq k c.args.column
          (λ e. subst (λ j. is_marked c.put.new.self j ≡ has_number (value_at (ratios (set xs c.args.column c.args.value))) j) (sym e) mark)
          (λ d. c.put.ensures.others k d ∙ p.marked k ∙ ap (λ (x : Ratio). not (nat_eq (unsigned_abs x.num) 0)) (sym (ap (λ ys. get_or ys k none) (map-set ratio xs c.args.column c.args.value) ∙ get_or-set_other (ratios xs) c.args.column k (ratio c.args.value) none d)));
    }

pub returns-clause-count : goal.returns-clause-count
unfolding count_of
returns-clause-count c = length-set c.args.self.now.values.items c.args.column c.args.value

pub returns-clause-own : goal.returns-clause-own
unfolding count_of place_values
returns-clause-own c =
    let xs = c.args.self.now.values.items in
    let l = c.requires in
    ap (λ ys. get_or ys c.args.column none) (map-set ratio xs c.args.column c.args.value) ∙ get_or-set_same (ratios xs) c.args.column (ratio c.args.value) none (omega (arith, length-map xs ratio))

pub returns-clause-others : goal.returns-clause-others
unfolding count_of place_values
returns-clause-others c k d =
    let xs = c.args.self.now.values.items in
    ap (λ ys. get_or ys k none) (map-set ratio xs c.args.column c.args.value) ∙ get_or-set_other (ratios xs) c.args.column k (ratio c.args.value) none d
