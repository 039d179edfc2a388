use Rattle.std.proofs.Common.{◌≡◌, ℕ, ◌+◌, ◌*◌, ◌≤◌, length, true, inl, arith, sym, ◌∙◌, ap, subst}
use Rattle.rational.specs.Ratio.{Ratio}
use Rattle.evidence.proofs.Fits.{no_factor}
use Rattle.instance.proofs.Terms.{nothing_added}
use Rattle.dictionary.specs.Numbers.{HasNumber}
use Rattle.dictionary.specs.Rows.{numbers_of, replacement_cost}
use Rattle.dictionary.specs.Steps.{nonzeros}
use Rattle.dictionary.proofs.Nonzeros.{unless_not}
use Rattle.dictionary.proofs.RowForms.{none_unmarked, unmarked_none, marked_has}
use Rattle.dictionary.proofs.replacing.replace.Goals as goal
use Rattle.dictionary.proofs.replacing.replace.Goals.{After-has}

pub has-requires : goal.has-requires
has-requires g c = let r = c.requires.rows in (_, r.0, r.1, let l = c.requires.inside in omega arith)

pub returns-then-not-has-clause-is : goal.returns-then-not-has-clause-is
returns-then-not-has-clause-is g c =
    let row = c.args.row.now in
    let r = c.requires.rows in
    let none_there = none_unmarked row _ r.0 r.1 c.args.skip (sym c.has.ensures ∙ c.if-not-has.true) in
    record {
      gone = none_there;
      others = λ j d. nothing_added (numbers_of row j) (numbers_of row c.args.skip) (numbers_of c.args.by.now j) (inl (ap (λ (v : Ratio). v.num) none_there));
    }

pub returns-then-not-has-clause-fits : goal.returns-then-not-has-clause-fits
returns-then-not-has-clause-fits g c =
    let row = c.args.row.now in
    let r = c.requires.rows in
    let zero = unmarked_none row _ r.0 r.1 c.args.skip (sym c.has.ensures ∙ c.if-not-has.true) in
    record { terms = λ j. no_factor (numbers_of row j) (numbers_of row c.args.skip) (numbers_of c.args.by.now j) zero }

-- an entry stands there
stands : (g : _) (c : After-has g) → c.has.result ≡ true → HasNumber (numbers_of c.args.row.now) c.args.skip
stands g c t = let r = c.requires.rows in marked_has c.args.row.now _ r.0 r.1 c.args.skip (sym c.has.ensures ∙ t)

pub change_common-requires-clause-stands : goal.change_common-requires-clause-stands
change_common-requires-clause-stands g c = stands g (goal.at.change_common-requires-clause-stands g c).After-has c.if-not-has.false

pub change_fractions-requires-clause-stands : goal.change_fractions-requires-clause-stands
change_fractions-requires-clause-stands g c = stands g (goal.at.change_fractions-requires-clause-stands g c).After-has c.if-not-has.false

-- the steps are counted, where one stands
counted : (g : _) (c : After-has g) → c.has.result ≡ true → replacement_cost (length c.args.scratch.now.values.items) (numbers_of c.args.row.now) (numbers_of c.args.by.now) c.args.skip ≡ 3 * (nonzeros (length c.args.scratch.now.values.items) (numbers_of c.args.row.now) + nonzeros (length c.args.scratch.now.values.items) (numbers_of c.args.by.now))
counted g c t =
    let k : ℕ = length c.args.scratch.now.values.items in
    unless_not (numbers_of c.args.row.now c.args.skip).num (3 * (nonzeros k (numbers_of c.args.row.now) + nonzeros k (numbers_of c.args.by.now))) (stands g c t)

pub returns-then-by-clause-cost : goal.returns-then-by-clause-cost
returns-then-by-clause-cost g c = subst (λ m. c.change_common.new.steps ≤ c.args.steps.now + m) (sym (counted g (goal.at.returns-then-by-clause-cost g c).After-has c.if-not-has.false)) c.change_common.ensures.cost

pub returns-clause-cost : goal.returns-clause-cost
returns-clause-cost g c = subst (λ m. c.change_fractions.new.steps ≤ c.args.steps.now + m) (sym (counted g (goal.at.returns-clause-cost g c).After-has c.if-not-has.false)) c.change_fractions.ensures.cost
