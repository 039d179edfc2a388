use Rattle.std.proofs.Common.{◌≡◌, ◌<◌, List, [], ◌∷◌, ◌++◌, length, map, slice_set, arith, refl, sym, ◌∙◌, ap, ap₂}
use Rattle.std.proofs.lemmas.List.{length-set, take_more_set, take_all, map_more}
use Rattle.simplex.specs.declared.ends.Ends.{Ends}
use Rattle.simplex.specs.Cuts.{Cutting}
use Rattle.branch_bound.specs.Levels.{ends_in}
use Rattle.branch_bound.proofs.relaxation.set_ends.Goals as goal

-- the same but for the ends of the variables
abbrev with_ends : Cutting → List Ends → Cutting
with_ends k es = record k { ends = es }

pub loop-j-init : goal.loop-j-init
loop-j-init c = record { long = c.requires.long; rest = refl; ends = refl }

pub loop-j-preserved : goal.loop-j-preserved
loop-j-preserved c =
    let l = c.loop-j in
    let e = c.set.ensures in
    let v : Ends = ends_in c.index-cuts-j.result in
    let below : l.j < length l.ends.ends = let a = l.invariant.long in let b = c.loop-j-test.true in omega arith in
    record {
      long = rw e (length-set l.ends.ends l.j v ∙ l.invariant.long);
      rest = rw e (ap (λ (k : Cutting). with_ends k (slice_set l.ends.ends l.j v)) l.invariant.rest);
      ends = rw e (
          take_more_set l.ends.ends l.j v below
          ∙ ap₂ (λ (es : List Ends) (x : Ends). es ++ x ∷ []) l.invariant.ends (ap ends_in c.index-cuts-j.is)
          ∙ sym (map_more ends_in c.args.cuts.now l.j c.index-cuts-j.result c.loop-j-test.true)
          );
    }

pub returns : goal.returns
returns c =
    let l = c.loop-j in
    let out = c.loop-j-test.false in
    let long = l.invariant.long in
    let all : l.ends.ends ≡ map ends_in c.args.cuts.now =
    sym (take_all l.j l.ends.ends (omega arith)) ∙ l.invariant.ends ∙ ap (map ends_in) (take_all l.j c.args.cuts.now (omega arith)) in
    l.invariant.rest ∙ ap (with_ends c.args.ends.now) all
