use Rattle.std.proofs.Common.{◌≡◌, ◌+◌, List, length, refl, sym, ◌∙◌, ap, ap₂, subst, arith}
use Rattle.std.specs.Vec.{with_items}
use Rattle.std.proofs.lemmas.List.{with_items_is}
use Rattle.evidence.specs.Instance as Of
use Rattle.instance.specs.declared.parts.Row.{Row}
use Rattle.dictionary.specs.Dict.{width_of}
use Rattle.bases.specs.Program.{is_fresh}
use Rattle.simplex_rules.specs.declared.columns.Status.{Status}
use Rattle.simplex_rules.specs.Statuses.{IsFirstBasis}
use Rattle.simplex.specs.declared.cuts.Added.{Added}
use Rattle.simplex.specs.declared.ends.Ends.{Ends}
use Rattle.simplex.specs.Cuts.{range_at, IsCutBy, AreEndsOf}
use Rattle.simplex.specs.Tables.{AreHeld, HasSizeOf}
use Rattle.simplex.proofs.CutPrograms.{cut_ends}
use Rattle.simplex.proofs.KnownValues.{none_known}
use Rattle.simplex.proofs.Changes.{under_way}
use Rattle.simplex.proofs.work.Work.begin.Goals as goal
use Rattle.simplex.proofs.work.Work.begin.Goals.{After-load, After-set_ends, After-set_first}

-- the ends, where they were written and as they are stored
ends : (g : _) (c : After-set_ends g) (I : Of.Instance) → IsCutBy c.args.instance.now c.args.cuts.now I → AreEndsOf I c.set_ends.new.ends
ends g c I cut =
    let p = c.args.instance.now in
    let k = c.args.cuts.now in
    let w = c.args.self.now in
    let a = c.set_ends.auto.ends in
    let b = c.as_mut_slice-ends.ensures.len in
    let d = w.ends_long in
    let v = c.requires.vars in
    let q = c.requires.rows in
    let e = c.requires.cuts.ends in
    let s = c.as_slice.ensures in
    let r = c.rows.ensures.value in
    let m = c.rows-2.ensures in
    cut_ends p k I cut c.set_ends.new.ends (omega arith)
    (λ i h. c.set_ends.ensures i (omega arith) ∙ ap₂ (λ cs rs. range_at cs rs c.rows-2.result.now i) s r ∙ ap (λ more. range_at k.ends p.rows more i) m)

stored : (g : _) (c : After-set_ends g) → c.set_ends.new.ends ≡ (with_items c.args.self.now.ends c.set_ends.new.ends).items
stored g c = sym (with_items_is c.args.self.now.ends c.set_ends.new.ends (c.set_ends.auto.ends ∙ c.as_mut_slice-ends.ensures.len))

first : (g : _) (c : After-set_first g) → c.set_first.new.statuses ≡ (with_items c.args.self.now.statuses c.set_first.new.statuses).items
first g c = sym (with_items_is c.args.self.now.statuses c.set_first.new.statuses (c.set_first.auto.statuses ∙ c.as_mut_slice-statuses.ensures.len))

sized : (g : _) (c : After-load g) (I : Of.Instance) → IsCutBy c.args.instance.now c.args.cuts.now I → HasSizeOf I c.load.new.dict
sized g c I cut = record {
  width = c.load.ensures.size.width ∙ c.requires.vars ∙ sym c.requires.cuts.ends ∙ sym cut.width;
  height = c.load.ensures.size.height ∙ c.requires.rows ∙ sym cut.height;
}

pub set_ends-requires : goal.set_ends-requires
set_ends-requires g c =
    let s : length c.as_slice.result.now ≡ length c.args.cuts.now.ends = ap (λ (xs : List Ends). length xs) c.as_slice.ensures in
    let r : length c.rows.result.now ≡ length c.args.instance.now.rows = ap (λ (xs : List Row). length xs) c.rows.ensures.value in
    let a : length c.rows-2.result.now ≡ length c.args.cuts.now.rows = ap (λ (xs : List Added). length xs) c.rows-2.ensures in
    let b = c.as_mut_slice-ends.ensures.len in let d = c.args.self.now.ends_long in let v = c.requires.vars in let q = c.requires.rows in let e = c.requires.cuts.ends in omega arith

pub returns-in-Some-clause-clash : goal.returns-in-Some-clause-clash
returns-in-Some-clause-clash g c = λ I cut. c.in-Some.ensures I (ends g (goal.at.returns-in-Some-clause-clash g c).After-set_ends I cut)

pub returns-clause-clash : goal.returns-clause-clash
returns-clause-clash g c = λ I cut. c.in_default.ensures I (ends g (goal.at.returns-clause-clash g c).After-set_ends I cut)

pub returns-in-Some-clause-of : goal.returns-in-Some-clause-of
returns-in-Some-clause-of g c = λ I start cut starts.
    let e = (goal.at.returns-in-Some-clause-of g c).After-set_ends in
    record {
      ends = subst (λ (xs : List Ends). AreEndsOf I xs) (stored g e) (ends g e I cut);
      size = sized g (goal.at.returns-in-Some-clause-of g c).After-load I cut;
      begun = starts;
      rows = c.load.ensures.holds I cut;
    }

pub returns-clause-of : goal.returns-clause-of
returns-clause-of g c = λ I start cut starts.
    let e = (goal.at.returns-clause-of g c).After-set_ends in
    record {
      ends = subst (λ (xs : List Ends). AreEndsOf I xs) (stored g e) (ends g e I cut);
      size = sized g (goal.at.returns-clause-of g c).After-load I cut;
      begun = starts;
      rows = c.load.ensures.holds I cut;
    }

pub returns-clause-fresh : goal.returns-clause-fresh
returns-clause-fresh g c = λ _ I cut.
    subst (λ (xs : List Status). IsFirstBasis I xs) (first g (goal.at.returns-clause-fresh g c).After-set_first)
    (c.set_first.ensures.fresh I (ends g (goal.at.returns-clause-fresh g c).After-set_ends I cut) (cut.width ∙ sym c.len.ensures))

pub returns-clause-state : goal.returns-clause-state
returns-clause-state g c = λ _.
    let (B, holds) = c.load.ensures.held in
    let self = c.args.self.now in
    let w : width_of c.load.new.dict ≡ c.len.result = c.load.ensures.size.width ∙ c.requires.vars ∙ sym c.requires.cuts.ends ∙ sym c.len.ensures in
    let long = c.set_first.auto.statuses in
    let b = c.as_mut_slice-statuses.ensures.len in
    let d = self.statuses_long in
    let n = self.goal_is in
    let u = self.unknown_room in
    let wide = c.load.ensures.size.width in
    let high = c.load.ensures.size.height in
    let s = c.forget_all.ensures.size in
    under_way _ c.set_ends.new.ends c.set_first.new.statuses self.values.items (stored g (goal.at.returns-clause-state g c).After-set_ends) (first g (goal.at.returns-clause-state g c).After-set_first) refl
    (record {
      rows = B;
      holds = holds;
      statuses = record { count = omega arith; basic = λ k l. c.set_first.ensures.basic k ∙ ap (λ n. is_fresh n k) (sym w) ∙ sym (c.load.ensures.basis k l) };
    })
    c.set_rest.ensures.values
    (none_known c.load.new.dict c.set_rest.new.rest c.set_first.new.statuses self.values.items c.forget_all.new.unknown
    (λ j l. c.forget_all.ensures.all j (omega arith)) (λ j l. c.forget_all.ensures.past j (omega arith)) (omega arith))
