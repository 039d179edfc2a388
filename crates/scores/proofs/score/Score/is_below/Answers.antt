use Rattle.std.proofs.Common.{◌<◌, ◌↔◌, arith}
use Rattle.std.proofs.lemmas.Bool.{lt-ltb, ltb-true, eqb-true}
use Rattle.std.proofs.lemmas.Int.{ints}
use Rattle.rational.specs.Ratio.{IsBelow}
use Rattle.scores.specs.Scores.{times_power}
use Rattle.scores.proofs.Parts.{lower_power, same_power, none_below, not_below_none, higher_power}
use Rattle.scores.proofs.Scored.{digits_of}
use Rattle.scores.proofs.score.Score.is_below.Goals as goal
use Rattle.scores.proofs.score.Score.is_below.Goals.{then-self-eq0-via-then-self-eq0, then-self-eq0-via-else-self-eq0+then-other-eq0}

pub returns-then-self-eq0 : goal.returns-then-self-eq0
returns-then-self-eq0 c =
    let s = c.args.self in
    let o = c.args.other in
    let i : IsBelow (times_power s.digits s.power) (times_power o.digits o.power) ↔ s.digits < o.digits = elim c.then-self-eq0.branch [
      | then-self-eq0-via-then-self-eq0 w ↦ none_below s.digits o.digits s.power o.power w.if-self-eq0.true
      | then-self-eq0-via-else-self-eq0+then-other-eq0 w ↦ not_below_none s.digits o.digits s.power o.power w.if-other-eq0.true
    ] in
    (λ h. i.1 (ltb-true s.digits o.digits h), λ h. lt-ltb s.digits o.digits (i.0 h))

pub returns-then-self-other : goal.returns-then-self-other
returns-then-self-other c =
    let s = c.args.self in
    let o = c.args.other in
    let a = digits_of s c.requires.cut (λ e. c.if-self-eq0.false e) in
    let b = digits_of o c.requires.by_cut (λ e. c.if-other-eq0.false e) in
    (λ h. lower_power s.digits o.digits s.power o.power a.1 b.0 (omega (arith, ints)), λ h. grind (arith, ints))

pub returns-then-self-other-2 : goal.returns-then-self-other-2
returns-then-self-other-2 c =
    let s = c.args.self in
    let o = c.args.other in
    let i = same_power s.digits o.digits s.power o.power (omega (arith, ints)) in
    (λ h. i.1 (ltb-true s.digits o.digits h), λ h. lt-ltb s.digits o.digits (i.0 h))

pub returns-else-self-other-2 : goal.returns-else-self-other-2
returns-else-self-other-2 c =
    let s = c.args.self in
    let o = c.args.other in
    let a = digits_of s c.requires.cut (λ e. c.if-self-eq0.false e) in
    let b = digits_of o c.requires.by_cut (λ e. c.if-other-eq0.false e) in
    (λ h. absurd (c.if-self-other-2.false (eqb-true _ _ h)), λ h. absurd (higher_power o.digits s.digits o.power s.power b.1 a.0 (omega (arith, ints)) h))
