use Rattle.std.proofs.Common.{◌+◌, [], ◌∷◌, length, get_or, arith, refl, sym, ap, ◌∙◌, subst, Option}
use Rattle.std.proofs.lemmas.List.{length-take-le}
use Rattle.rational.specs.Ratio.{Ratio}
use Rattle.evidence.specs.Instance.{Instance, width, height}
use Rattle.evidence.specs.Width.{ProvesWithin}
use Rattle.certificate.specs.Meanings as Means
use Rattle.cert_checker.specs.Programs.{bound}
use Rattle.cert_checker.specs.Trees.{TreeRefuses}
use Rattle.cert_checker.proofs.HandRows.{hand_level, hand_width, hand_height}
use Rattle.cert_checker.proofs.levels.check_at.Goals as goal

pub slice_bounds-cuts-end : goal.slice_bounds-cuts-end
slice_bounds-cuts-end c =
    let h = ap height c.of-program.ensures ∙ hand_height c.args.instance.now c.args.added.now c.index-goals-level.result in
    let told = c.height.ensures.value in
    let room = c.requires.columns in
    let s = c.requires.slots in
    omega arith

pub slice_bounds-cuts-end-2 : goal.slice_bounds-cuts-end-2
slice_bounds-cuts-end-2 c =
    let h = ap height c.of-program.ensures ∙ hand_height c.args.instance.now c.args.added.now c.index-goals-level.result in
    let told = c.height.ensures.value in
    let room = c.requires.columns in
    let s = c.requires.slots in
    let t = length-take-le (length c.args.slots.now + c.height.result) c.args.cuts.now (omega arith) in
    omega arith

pub check_tree-requires-clause-slots : goal.check_tree-requires-clause-slots
check_tree-requires-clause-slots c = c.requires.slots ∙ sym (ap width c.of-program.ensures ∙ hand_width c.args.instance.now c.args.added.now c.index-goals-level.result)

pub check_tree-requires-clause-count : goal.check_tree-requires-clause-count
check_tree-requires-clause-count c =
    let w = ap width c.of-program.ensures ∙ hand_width c.args.instance.now c.args.added.now c.index-goals-level.result in
    let h = ap height c.of-program.ensures ∙ hand_height c.args.instance.now c.args.added.now c.index-goals-level.result in
    let told = c.height.ensures.value in
    let room = c.requires.columns in
    let s = c.requires.slots in
    let t = length-take-le (length c.args.slots.now + c.height.result) c.args.cuts.now (omega arith) in
    omega arith

pub returns-in-Ok-clause-ok : goal.returns-in-Ok-clause-ok
returns-in-Ok-clause-ok c =
    let g = c.index-goals-level.result in
    let is = c.index-goals-level.is ∙ ap (λ l. get_or l c.args.level g) c.goals-goals.ensures.value in
    subst (λ (I : Instance). ProvesWithin I (Means.nodes c.args.nodes.now) (bound I c.args.value)) (c.of-program.ensures ∙ hand_level c.args.instance.now c.args.added.now g c.args.level c.requires.level is)
    (subst (λ (z : Option Ratio). ProvesWithin c.of-program.result (Means.nodes c.args.nodes.now) z) c.aim_of-aim.ensures c.in-Ok.ensures.ok)

pub returns-in-Err-clause-err : goal.returns-in-Err-clause-err
returns-in-Err-clause-err c =
    let g = c.index-goals-level.result in
    let is = c.index-goals-level.is ∙ ap (λ l. get_or l c.args.level g) c.goals-goals.ensures.value in (
      c.in-Err.why,
      subst (λ (I : Instance). TreeRefuses (I ∷ []) (Means.nodes c.args.nodes.now) (bound I c.args.value) 1 c.in-Err.why) (c.of-program.ensures ∙ hand_level c.args.instance.now c.args.added.now g c.args.level c.requires.level is)
          (subst (λ (z : Option Ratio). TreeRefuses (c.of-program.result ∷ []) (Means.nodes c.args.nodes.now) z 1 c.in-Err.why) c.aim_of-aim.ensures c.in-Err.ensures.err),
      refl,
    )
