use Rattle.std.proofs.Common.{w8, to_z, of_z, ◌≡◌, ◌+◌, ◌<◌, List, length, get_or, sym, ◌∙◌, ap, subst, arith}
use Rattle.std.specs.List.{All}
use Rattle.evidence.specs.Instance as Of
use Rattle.fraction.specs.declared.ends.Entry.{Entry}
use Rattle.instance.specs.declared.parts.Row.{Row}
use Rattle.instance.specs.declared.parts.Var.{Var}
use Rattle.instance.specs.Parts.{IsInside}
use Rattle.instance.specs.Program.{goals}
use Rattle.bases.specs.Program.{rows_with_goal}
use Rattle.dictionary.specs.Dict.{width_of, height_of, basic_of, entry_of}
use Rattle.simplex.specs.Cuts.{added_at, IsAdded}
use Rattle.simplex.specs.declared.cuts.Added.{Added}
use Rattle.simplex.specs.Loads.{factor_of}
use Rattle.simplex.proofs.AddedRows.{beside_same}
use Rattle.simplex.proofs.CutPrograms.{rows_loaded, factor_fits}
use Rattle.simplex.proofs.loading.load.Goals as goal

pub load-requires-clause-costs : goal.load-requires-clause-costs
load-requires-clause-costs g c = ap length c.as_slice-costs.ensures ∙ c.goal_at-asked.ensures.costs ∙ sym c.requires.vars

pub load-requires-clause-inside : goal.load-requires-clause-inside
load-requires-clause-inside g c =
    subst (λ (es : List Entry). All (IsInside (height_of c.args.dict.now) (width_of c.args.dict.now)) es) (sym c.entries.ensures.value)
    (λ k x l.
    let i = c.entries.ensures.valid.inside k x l in
    let row = i.row in
    let col = i.col in
    let w = c.requires.vars in
    let h = c.requires.rows in
    record { row = omega arith; col = omega arith; nonzero = i.nonzero })

pub set_rows-requires-clause-first : goal.set_rows-requires-clause-first
set_rows-requires-clause-first g c = (_, c.load.ensures.first)

pub set_rows-requires-clause-rows : goal.set_rows-requires-clause-rows
set_rows-requires-clause-rows g c =
    let v : length c.vars.result.now ≡ length c.args.instance.now.vars = ap (λ (xs : List Var). length xs) c.vars.ensures.value in
    let r : length c.rows.result.now ≡ length c.args.instance.now.rows = ap (λ (xs : List Row). length xs) c.rows.ensures.value in
    let a : length c.rows-2.result.now ≡ length c.args.cuts.now.rows = ap (λ (xs : List Added). length xs) c.rows-2.ensures in
    let e = c.requires.goal in
    omega arith

pub set_rows-requires-clause-added : goal.set_rows-requires-clause-added
set_rows-requires-clause-added g c =
    let r : length c.rows.result.now ≡ length c.args.instance.now.rows = ap (λ (xs : List Row). length xs) c.rows.ensures.value in
    let w : width_of c.load.new.self ≡ length c.args.instance.now.vars = c.load.ensures.size.width ∙ c.requires.vars in
    λ i l.
    let h = subst (λ (xs : List Added). i < length xs) c.rows-2.ensures l in
    subst (λ (xs : List Added). IsAdded (width_of c.load.new.self) (length c.rows.result.now + i) (added_at xs i)) (sym c.rows-2.ensures)
    (subst (λ n. IsAdded (width_of c.load.new.self) (n + i) (added_at c.args.cuts.now.rows i)) (sym r)
    (subst (λ n. IsAdded n (length c.args.instance.now.rows + i) (added_at c.args.cuts.now.rows i)) (sym w) (c.requires.cuts.rows i h)))

pub returns-clause-size : goal.returns-clause-size
returns-clause-size g c = record { width = c.set_rows.ensures.size.width ∙ c.load.ensures.size.width; height = c.set_rows.ensures.size.height ∙ c.load.ensures.size.height }

pub returns-clause-basis : goal.returns-clause-basis
returns-clause-basis g c =
    let (B, is, beside) = c.set_rows.ensures.rows _ c.load.ensures.first in
    c.first_dictionaries_are_loaded.ensures.basis B c.set_rows.new.dict is

pub returns-clause-held : goal.returns-clause-held
returns-clause-held g c =
    let (B, is, beside) = c.set_rows.ensures.rows _ c.load.ensures.first in
    (B, c.first_dictionaries_are_loaded.ensures.holds B c.set_rows.new.dict is)

pub returns-clause-holds : goal.returns-clause-holds
returns-clause-holds g c = λ I cut.
    let p = c.args.instance.now in
    let k = c.args.cuts.now in
    let d = c.set_rows.new.dict in
    let asked = c.goal_at-asked.result.now in
    let r : length c.rows.result.now ≡ length p.rows = ap (λ (xs : List Row). length xs) c.rows.ensures.value in
    let w : width_of d ≡ Of.width I = c.set_rows.ensures.size.width ∙ c.load.ensures.size.width ∙ c.requires.vars ∙ sym c.requires.cuts.ends ∙ sym cut.width in
    let (B, is, begun) = c.set_rows.ensures.rows _ c.load.ensures.first in
    let sign : to_z w8 (of_z w8 c.factor-sign.result) ≡ factor_of c.args.zero_goal asked.sense = ap (λ f. to_z w8 (of_z w8 f)) c.factor-sign.ensures ∙ factor_fits c.args.zero_goal asked.sense in
    let beside = beside_same c.entries.result.now p.entries c.as_slice-costs.result.now asked.costs (to_z w8 (of_z w8 c.factor-sign.result)) (factor_of c.args.zero_goal asked.sense) (height_of c.args.dict.now) (length c.rows.result.now) (length p.rows) c.rows-2.result.now k.rows B
    c.entries.ensures.value c.as_slice-costs.ensures sign r c.rows-2.ensures begun in
    let own = c.goal_at-asked.ensures.goal ∙ ap (λ n. get_or (goals p.goals) n Of.no_goal) c.goal.ensures in
    let h = c.first_dictionaries_are_loaded.ensures.holds B d is in
    record {
      loaded = h.loaded;
      is = c.dictionaries_of_equal_rows.ensures (width_of d) (height_of d + 1) B (rows_with_goal c.args.zero_goal I) (basic_of d) (entry_of d)
          (λ i j _ l. rows_loaded p k I cut asked own c.args.zero_goal B (height_of c.args.dict.now) c.requires.rows beside i j (omega arith)) h.is;
    }
