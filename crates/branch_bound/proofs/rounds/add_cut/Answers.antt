use mir.Val.{SFits}
use mir.Syntax.{w128}
use Rattle.std.proofs.Math.Facts.{to_z-of_z}
use Rattle.std.proofs.Common.{rules, ◌≡◌, ℕ, ◌+◌, ◌<◌, Option, List, [], ◌∷◌, ◌++◌, length, refl, ◌∙◌, ap, arith}
use Rattle.std.proofs.lemmas.List.{map_push}
use Rattle.rational.specs.Ratio.{whole}
use Rattle.fraction.specs.declared.frac.Frac.{Frac}
use Rattle.evidence.specs.Instance.{entry_at}
use Rattle.evidence.specs.OneDenominator.{number_at}
use Rattle.instance.specs.declared.parts.Row.{Row}
use Rattle.instance.specs.Program.{entries, row}
use Rattle.certificate.specs.declared.nodes.Round.TheVariants.{Whole}
use Rattle.certificate.specs.Meanings as Means
use Rattle.cert_checker.specs.Programs.{coefficient, numerators}
use Rattle.branch_bound.proofs.AddedRows.{on_ok}
use Rattle.branch_bound.proofs.CutRows.{cut_range, ends_range, placed, cut_suits, cut_at}
use Rattle.branch_bound.proofs.rounds.add_cut.Goals as goal

pub returns-clause-rounds : goal.returns-clause-rounds
returns-clause-rounds g c = on_ok _ _ _ c.push-2.result (λ e. ap Means.rounds e ∙ map_push Means.round c.args.level.now.rounds (Whole c.args.mults)) c.push-2.ensures.ok

pub returns-clause-suits : goal.returns-clause-suits
returns-clause-suits g c =
    let p = c.args.instance.now in
    let r = c.args.relaxation.now in
    let cs = numerators r.slots.items in
    let a = c.in_ok-row.row in
    let x = c.in_ok-added.added in
    let first = c.requires.suits.one c.requires.one in
    let read : c.as_slice.result.now ≡ r.slots.items = c.as_slice.ensures.value in
    let wide : length a.coefficients.items ≡ length p.vars = c.in_ok-row.ensures.wide ∙ ap (λ (os : List (Option Frac)). length os) read ∙ c.requires.suits.size.slots in
    let told = c.in_ok-row.ensures.ends in
    let fits : SFits w128 c.args.low = search rules in
    let own : row a.ends ≡ cut_range c.args.low = ends_range a.ends told.0 c.args.low told.1 (told.2 ∙ ap whole (to_z-of_z fits)) in
    let pushed : c.push.new.self.items ≡ c.add_row.new.relaxation.rows.items ++ a ∷ [] = search rules in
    let rows = rw c.in_ok-add_row.ensures.rows at pushed in
    let same : (j : ℕ) → j < length p.vars → coefficient a j ≡ whole (number_at cs j) =
    c.in_ok-row.ensures.row (length p.vars) (λ j. whole (number_at cs j)) (let long = c.requires.suits.size.slots in rw read (omega arith)) (rw read c.requires.holds) in
    let values : (j : ℕ) → j < length p.vars → entry_at (entries x.entries) (length p.rows + length r.ends.rows) j ≡ whole (number_at cs j) =
    (λ j h.
    let low : j < length a.coefficients.items = omega (arith, wide, h) in
    placed x.entries (length a.coefficients.items) (coefficient a) _ (length p.rows + length r.ends.rows) c.in_ok-added.ensures.values
    (omega (arith, ap (λ (rs : List Row). length rs) c.rows.ensures.value, c.len.ensures, first.1)) j low ∙ same j h) in
    let z = c.in_ok-add_row.ensures.size in
    on_ok _ _ _ c.push-2.result
    (λ e. cut_suits p r (record c.add_row.new.relaxation { rows = c.push.new.self }) c.args.level.now cs c.args.low x a c.requires.one c.in_ok-add_row.ensures.given rows (c.in_ok-added.ensures.ends ∙ own) own values same
    (record c.args.level.now { rounds = c.push-2.new.self }) refl (record { width = z.width; height = z.height; few = z.few; suits = z.suits; slots = z.slots }) c.requires.suits)
    c.push-2.ensures.ok

pub returns-clause-at : goal.returns-clause-at
returns-clause-at g c =
    let p = c.args.instance.now in
    let r = c.args.relaxation.now in
    let cs = numerators r.slots.items in
    let a = c.in_ok-row.row in
    let x = c.in_ok-added.added in
    let first = c.requires.suits.one c.requires.one in
    let read : c.as_slice.result.now ≡ r.slots.items = c.as_slice.ensures.value in
    let wide : length a.coefficients.items ≡ length p.vars = c.in_ok-row.ensures.wide ∙ ap (λ (os : List (Option Frac)). length os) read ∙ c.requires.suits.size.slots in
    let told = c.in_ok-row.ensures.ends in
    let fits : SFits w128 c.args.low = search rules in
    let own : row a.ends ≡ cut_range c.args.low = ends_range a.ends told.0 c.args.low told.1 (told.2 ∙ ap whole (to_z-of_z fits)) in
    let pushed : c.push.new.self.items ≡ c.add_row.new.relaxation.rows.items ++ a ∷ [] = search rules in
    let rows = rw c.in_ok-add_row.ensures.rows at pushed in
    let same : (j : ℕ) → j < length p.vars → coefficient a j ≡ whole (number_at cs j) =
    c.in_ok-row.ensures.row (length p.vars) (λ j. whole (number_at cs j)) (let long = c.requires.suits.size.slots in rw read (omega arith)) (rw read c.requires.holds) in
    let values : (j : ℕ) → j < length p.vars → entry_at (entries x.entries) (length p.rows + length r.ends.rows) j ≡ whole (number_at cs j) =
    (λ j h.
    let low : j < length a.coefficients.items = omega (arith, wide, h) in
    placed x.entries (length a.coefficients.items) (coefficient a) _ (length p.rows + length r.ends.rows) c.in_ok-added.ensures.values
    (omega (arith, ap (λ (rs : List Row). length rs) c.rows.ensures.value, c.len.ensures, first.1)) j low ∙ same j h) in
    on_ok _ _ _ c.push-2.result
    (λ e L D at. cut_at p r (record c.add_row.new.relaxation { rows = c.push.new.self }) c.args.level.now cs c.args.low x a c.requires.one c.in_ok-add_row.ensures.given rows (c.in_ok-added.ensures.ends ∙ own) own values same
    (record c.args.level.now { rounds = c.push-2.new.self }) refl refl refl L D at)
    c.push-2.ensures.ok
