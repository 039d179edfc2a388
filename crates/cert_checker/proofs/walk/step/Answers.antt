use mir.Val.{SFits, of_z, to_z}
use mir.Syntax.{w128}
use Rattle.std.proofs.Common.{rules, arith, IsTrue, false, inl, ◌≡◌, ◌+◌, ◌-◌, ℤ, pos, ◌+ℤ◌, Some, None, ◌∷◌, length, map, take, drop, refl, sym, ◌∙◌, ap, subst}
use Rattle.std.proofs.Math.Facts.{to_z-of_z}
use Rattle.cert_checker.proofs.Sizes.{not_none}
use Rattle.std.proofs.lemmas.Result.{err_from_is_err_and}
use Rattle.fraction.specs.Frac.{ratio}
use Rattle.evidence.specs.Instance.{Instance, IsInstance, width}
use Rattle.evidence.specs.Cases as Cases
use Rattle.certificate.specs.Meanings as Means
use Rattle.certificate.specs.declared.nodes.Node.{Node}
use Rattle.case_tree.specs.Cuts as Tree
use Rattle.cert_checker.specs.Cuts as Of
use Rattle.cert_checker.specs.Trees.{TreeRefuses, LeadsThrough}
use Rattle.cert_checker.specs.declared.refused.Unshown.TheVariants.{Tree as Missing}
use Rattle.cert_checker.specs.Leaves.{LeafHolds, LeafRefuses, ClashHolds, ClashRefuses}
use Rattle.cert_checker.specs.Grids.{GridLeafHolds, GridLeafRefuses}
use Rattle.cert_checker.specs.Columns.{ends, parted, open_cases}
use Rattle.cert_checker.proofs.PartedCases.{case_is, split_inside, split_next, split_cases, zero_inside, zero_cases}
use Rattle.cert_checker.specs.RowLeaves.{RowLeafHolds, RowLeafRefuses, BoundRowsHold, BoundRowsRefuse, GridRowLeafHolds, GridRowLeafRefuses}
use Rattle.cert_checker.proofs.Widths.{cut-instance}
use Rattle.cert_checker.proofs.RowWalks.{farkas_rows_leads, bound_rows_leads, grid_rows_leads, as_meant, meant_refused, farkas_meant, bound_meant, grid_meant}
use Rattle.cert_checker.proofs.Walks.{split_leads, zero_leads, clash_leads, farkas_node_leads, bound_node_leads, grid_node_leads, farkas_refused, bound_refused, grid_refused}
use Rattle.cert_checker.proofs.walk.step.Goals.{in-Clash+in_ok-check_clash-in-Clash, in-Farkas+in_ok-check_leaf-in-Farkas, in-Bound+else-is_none+in_ok-check_leaf-in-Bound, in-Grid+in_ok-check_grid_leaf-in-Grid, in-FarkasRows+in_ok-check_row_leaf-in-FarkasRows, in-BoundRows+in_ok-check_bound_rows-in-BoundRows, in-GridRows+in_ok-check_grid_row_leaf-in-GridRows}
use Rattle.cert_checker.proofs.walk.step.Goals as goal

pub returns-then-not-is_split-clause-err : goal.returns-then-not-is_split-clause-err
returns-then-not-is_split-clause-err c = λ rest.
    let p = c.args.program.now in
    let m = width p in
    let cs = c.args.cuts.now in
    let I = parted m (Tree.cut p cs) in
    let js = map (parted m) (Tree.pending p cs c.args.branches.now c.args.depth) in
    let k = c.in-Split.k in
    let f : SFits w128 k = search rules in
    let same : to_z w128 (of_z w128 k) ≡ k = to_z-of_z f in
    let at = case_is (length c.args.slots.now) m p c.over-case.result cs c.requires.slots c.over-case.ensures.value in
    subst (λ (n : Node). TreeRefuses (I ∷ js) (Means.node n ∷ rest) (Of.aim c.args.aim) c.args.number (Missing c.args.number)) (sym c.in-Split.is)
    (inl (λ h. let t : IsTrue false = c.if-not-is_split.ensures.1 (subst (λ (J : Instance). Cases.IsSplit J c.in-Split.col (to_z w128 (of_z w128 k))) (sym at) (subst (λ (z : ℤ). Cases.IsSplit I c.in-Split.col z) (sym same) h)) in cc, refl))

pub enter-requires-clause-inside : goal.enter-requires-clause-inside
enter-requires-clause-inside c =
    let p = c.args.program.now in
    let cs = c.args.cuts.now in
    let count = c.requires.count in
    let at = case_is (length c.args.slots.now) (width p) p c.over-case.result cs c.requires.slots c.over-case.ensures.value in
    split_inside (width p) p cs (omega arith) c.in-Split.col (to_z w128 (of_z w128 c.in-Split.k)) (subst (λ (J : Instance). Cases.IsSplit J c.in-Split.col (to_z w128 (of_z w128 c.in-Split.k))) at (c.if-not-is_split.ensures.0 refl))

pub enter-requires-clause-next : goal.enter-requires-clause-next
enter-requires-clause-next c = split_next _ _ _ (c.if-not-is_split.ensures.0 refl)

pub returns-then-not-is_zero_branch-clause-err : goal.returns-then-not-is_zero_branch-clause-err
returns-then-not-is_zero_branch-clause-err c = λ rest.
    let p = c.args.program.now in
    let m = width p in
    let cs = c.args.cuts.now in
    let I = parted m (Tree.cut p cs) in
    let js = map (parted m) (Tree.pending p cs c.args.branches.now c.args.depth) in
    let K : Instance = record p { rows = map ends (take (length cs - length c.args.slots.now) (drop (length c.args.slots.now) cs)) } in
    let at = case_is (length c.args.slots.now) m p K cs c.requires.slots refl in
    let b = c.if-not-is_zero_branch.ensures K in
    subst (λ (n : Node). TreeRefuses (I ∷ js) (Means.node n ∷ rest) (Of.aim c.args.aim) c.args.number (Missing c.args.number)) (sym c.in-Zero.is)
    (inl (λ h. let t : IsTrue false = b.1 (subst (λ (J : Instance). Cases.IsZeroBranch J c.in-Zero.col) (sym at) h) in cc, refl))

pub enter-requires-in-Zero-clause-inside : goal.enter-requires-in-Zero-clause-inside
enter-requires-in-Zero-clause-inside c =
    let p = c.args.program.now in
    let cs = c.args.cuts.now in
    let count = c.requires.count in
    let K : Instance = record p { rows = map ends (take (length cs - length c.args.slots.now) (drop (length c.args.slots.now) cs)) } in
    let at = case_is (length c.args.slots.now) (width p) p K cs c.requires.slots refl in
    let h = zero_inside (width p) p cs (omega arith) c.in-Zero.col (subst (λ (J : Instance). Cases.IsZeroBranch J c.in-Zero.col) at (let b = c.if-not-is_zero_branch.ensures K in b.0 refl)) in
    omega arith

pub returns-in-Split-clause-ok : goal.returns-in-Split-clause-ok
returns-in-Split-clause-ok c = λ rest.
    let p = c.args.program.now in
    let m = width p in
    let cs = c.args.cuts.now in
    let I = parted m (Tree.cut p cs) in
    let js = map (parted m) (Tree.pending p cs c.args.branches.now c.args.depth) in
    let after = open_cases m p c.enter.new.cuts c.enter.new.branches (Some (c.args.depth + 1)) in
    let j = c.in-Split.col in
    let k = c.in-Split.k in
    let f : SFits w128 k = search rules in
    let same : to_z w128 (of_z w128 k) ≡ k = to_z-of_z f in
    let count = c.requires.count in
    let at = case_is (length c.args.slots.now) m p c.over-case.result cs c.requires.slots c.over-case.ensures.value in
    let split : Cases.IsSplit I j k = subst (λ (z : ℤ). Cases.IsSplit I j z) same (subst (λ (J : Instance). Cases.IsSplit J j (to_z w128 (of_z w128 k))) at (c.if-not-is_split.ensures.0 refl)) in
    let inside = split_inside m p cs (omega arith) j k split in
    let parts : after ≡ Cases.low_case I j (to_z w128 (of_z w128 k)) ∷ Cases.high_case I j (to_z w128 (of_z w128 k) +ℤ pos 1) ∷ js = ap (map (parted m)) (c.enter.ensures.cases p) ∙ split_cases m p cs (omega arith) j (to_z w128 (of_z w128 k)) js inside in
    subst (λ (n : Node). LeadsThrough (I ∷ js) (Means.node n ∷ rest) c.args.number after rest (c.args.number + 1) (Of.aim c.args.aim)) (sym c.in-Split.is)
    (split_leads I js after c.args.number (Of.aim c.args.aim) rest j k split
    (subst (λ (z : ℤ). after ≡ Cases.low_case I j z ∷ Cases.high_case I j (z +ℤ pos 1) ∷ js) same parts))

pub returns-in-Zero-clause-ok : goal.returns-in-Zero-clause-ok
returns-in-Zero-clause-ok c = λ rest.
    let p = c.args.program.now in
    let m = width p in
    let cs = c.args.cuts.now in
    let I = parted m (Tree.cut p cs) in
    let js = map (parted m) (Tree.pending p cs c.args.branches.now c.args.depth) in
    let after = open_cases m p c.enter-in-Zero.new.cuts c.enter-in-Zero.new.branches (Some (c.args.depth + 1)) in
    let j = c.in-Zero.col in
    let count = c.requires.count in
    let K : Instance = record p { rows = map ends (take (length cs - length c.args.slots.now) (drop (length c.args.slots.now) cs)) } in
    let at = case_is (length c.args.slots.now) m p K cs c.requires.slots refl in
    let zero : Cases.IsZeroBranch I j = subst (λ (J : Instance). Cases.IsZeroBranch J j) at (let b = c.if-not-is_zero_branch.ensures K in b.0 refl) in
    subst (λ (n : Node). LeadsThrough (I ∷ js) (Means.node n ∷ rest) c.args.number after rest (c.args.number + 1) (Of.aim c.args.aim)) (sym c.in-Zero.is)
    (zero_leads I js after c.args.number (Of.aim c.args.aim) rest j zero
    (ap (map (parted m)) (c.enter-in-Zero.ensures.cases p) ∙ zero_cases m p cs (omega arith) j js (zero_inside m p cs (omega arith) j zero)))

pub returns-in_err-check_clash-in-Clash-clause-err : goal.returns-in_err-check_clash-in-Clash-clause-err
returns-in_err-check_clash-in-Clash-clause-err c =
    let p = err_from_is_err_and c.from_residual.result c.from_residual.ensures.1 in
    let q = c.args.program.now in
    let cs = c.args.cuts.now in
    let I = parted (width q) (Tree.cut q cs) in
    let js = map (parted (width q)) (Tree.pending q cs c.args.branches.now c.args.depth) in
    let r = c.in_err-check_clash-in-Clash.field-0.0 in
    rw (p.1, p.2)
    (λ rest. subst (λ (n : Node). TreeRefuses (I ∷ js) (Means.node n ∷ rest) (Of.aim c.args.aim) c.args.number r) (sym c.in-Clash.is)
    (inl (subst (λ (J : Instance). ClashRefuses J c.in-Clash.col c.args.number r) (case_is (length c.args.slots.now) (width q) q c.over-case.result cs c.requires.slots c.over-case.ensures.value) c.in_err-check_clash-in-Clash.ensures.err)))

pub returns-in_err-check_leaf-in-Farkas-clause-err : goal.returns-in_err-check_leaf-in-Farkas-clause-err
returns-in_err-check_leaf-in-Farkas-clause-err c =
    let p = err_from_is_err_and c.from_residual-in_err-check_leaf-in-Farkas.result c.from_residual-in_err-check_leaf-in-Farkas.ensures.1 in
    rw (p.1, p.2)
    (λ rest. farkas_refused (parted (width c.args.program.now) (Tree.cut c.args.program.now c.args.cuts.now)) (map (parted (width c.args.program.now)) (Tree.pending c.args.program.now c.args.cuts.now c.args.branches.now c.args.depth)) c.args.number (Of.aim c.args.aim) rest c.args.node.now c.in-Farkas.mults c.as_slice.result.now c.in-Farkas.is c.as_slice.ensures c.in_err-check_leaf-in-Farkas.field-0.0 (subst (λ (J : Instance). LeafRefuses J (Means.multipliers c.as_slice.result.now) None c.args.number c.in_err-check_leaf-in-Farkas.field-0.0) (case_is (length c.args.slots.now) (width c.args.program.now) c.args.program.now c.over-case.result c.args.cuts.now c.requires.slots c.over-case.ensures.value) c.in_err-check_leaf-in-Farkas.ensures.err))

pub returns-in_err-check_leaf-in-Bound-clause-err : goal.returns-in_err-check_leaf-in-Bound-clause-err
returns-in_err-check_leaf-in-Bound-clause-err c =
    let p = err_from_is_err_and c.from_residual-in_err-check_leaf-in-Bound.result c.from_residual-in_err-check_leaf-in-Bound.ensures.1 in
    rw (p.1, p.2)
    (λ rest. bound_refused (parted (width c.args.program.now) (Tree.cut c.args.program.now c.args.cuts.now)) (map (parted (width c.args.program.now)) (Tree.pending c.args.program.now c.args.cuts.now c.args.branches.now c.args.depth)) c.args.number rest c.args.node.now c.in-Bound.mults c.as_slice-in-Bound.result.now c.in-Bound.is c.as_slice-in-Bound.ensures c.args.aim (not_none c.args.aim c.is_none.result c.is_none.ensures c.if-is_none.false) c.in_err-check_leaf-in-Bound.field-0.0 (subst (λ (J : Instance). LeafRefuses J (Means.multipliers c.as_slice-in-Bound.result.now) (Of.aim c.args.aim) c.args.number c.in_err-check_leaf-in-Bound.field-0.0) (case_is (length c.args.slots.now) (width c.args.program.now) c.args.program.now c.over-case.result c.args.cuts.now c.requires.slots c.over-case.ensures.value) c.in_err-check_leaf-in-Bound.ensures.err))

pub returns-in_err-check_grid_leaf-in-Grid-clause-err : goal.returns-in_err-check_grid_leaf-in-Grid-clause-err
returns-in_err-check_grid_leaf-in-Grid-clause-err c =
    let p = err_from_is_err_and c.from_residual-in_err-check_grid_leaf-in-Grid.result c.from_residual-in_err-check_grid_leaf-in-Grid.ensures.1 in
    rw (p.1, p.2)
    (λ rest. grid_refused (parted (width c.args.program.now) (Tree.cut c.args.program.now c.args.cuts.now)) (map (parted (width c.args.program.now)) (Tree.pending c.args.program.now c.args.cuts.now c.args.branches.now c.args.depth)) c.args.number (Of.aim c.args.aim) rest c.args.node.now c.in-Grid.step c.in-Grid.mults c.as_slice-in-Grid.result.now c.in-Grid.is c.as_slice-in-Grid.ensures c.in_err-check_grid_leaf-in-Grid.field-0.0 (subst (λ (J : Instance). GridLeafRefuses J (ratio c.in-Grid.step) (Means.multipliers c.as_slice-in-Grid.result.now) (Of.aim c.args.aim) c.args.number c.in_err-check_grid_leaf-in-Grid.field-0.0) (case_is (length c.args.slots.now) (width c.args.program.now) c.args.program.now c.over-case.result c.args.cuts.now c.requires.slots c.over-case.ensures.value) c.in_err-check_grid_leaf-in-Grid.ensures.err))

pub returns-in_err-check_row_leaf-in-FarkasRows-clause-err : goal.returns-in_err-check_row_leaf-in-FarkasRows-clause-err
returns-in_err-check_row_leaf-in-FarkasRows-clause-err c =
    let p = err_from_is_err_and c.from_residual-in_err-check_row_leaf-in-FarkasRows.result c.from_residual-in_err-check_row_leaf-in-FarkasRows.ensures.1 in
    rw (p.1, p.2)
    (λ rest. meant_refused (parted (width c.args.program.now) (Tree.cut c.args.program.now c.args.cuts.now)) (map (parted (width c.args.program.now)) (Tree.pending c.args.program.now c.args.cuts.now c.args.branches.now c.args.depth)) c.args.number (Of.aim c.args.aim) rest c.args.node.now (Cases.FarkasByRows (Means.multipliers c.as_slice-in-FarkasRows.result.now))
    (farkas_meant c.args.node.now c.in-FarkasRows.mults c.as_slice-in-FarkasRows.result.now c.as_slice-in-FarkasRows.ensures c.in-FarkasRows.is) c.in_err-check_row_leaf-in-FarkasRows.field-0.0 (inl (subst (λ (J : Instance). RowLeafRefuses J (Means.multipliers c.as_slice-in-FarkasRows.result.now) None c.args.number c.in_err-check_row_leaf-in-FarkasRows.field-0.0) (case_is (length c.args.slots.now) (width c.args.program.now) c.args.program.now c.over-case.result c.args.cuts.now c.requires.slots c.over-case.ensures.value) c.in_err-check_row_leaf-in-FarkasRows.ensures.err)))

pub returns-in_err-check_bound_rows-in-BoundRows-clause-err : goal.returns-in_err-check_bound_rows-in-BoundRows-clause-err
returns-in_err-check_bound_rows-in-BoundRows-clause-err c =
    let p = err_from_is_err_and c.from_residual-in_err-check_bound_rows-in-BoundRows.result c.from_residual-in_err-check_bound_rows-in-BoundRows.ensures.1 in
    rw (p.1, p.2)
    (λ rest. meant_refused (parted (width c.args.program.now) (Tree.cut c.args.program.now c.args.cuts.now)) (map (parted (width c.args.program.now)) (Tree.pending c.args.program.now c.args.cuts.now c.args.branches.now c.args.depth)) c.args.number (Of.aim c.args.aim) rest c.args.node.now (Cases.BoundByRows (Means.multipliers c.as_slice-in-BoundRows.result.now))
    (bound_meant c.args.node.now c.in-BoundRows.mults c.as_slice-in-BoundRows.result.now c.as_slice-in-BoundRows.ensures c.in-BoundRows.is) c.in_err-check_bound_rows-in-BoundRows.field-0.0 (inl (subst (λ (J : Instance). BoundRowsRefuse J (Means.multipliers c.as_slice-in-BoundRows.result.now) (Of.aim c.args.aim) c.args.number c.in_err-check_bound_rows-in-BoundRows.field-0.0) (case_is (length c.args.slots.now) (width c.args.program.now) c.args.program.now c.over-case.result c.args.cuts.now c.requires.slots c.over-case.ensures.value) c.in_err-check_bound_rows-in-BoundRows.ensures.err)))

pub returns-in_err-check_grid_row_leaf-in-GridRows-clause-err : goal.returns-in_err-check_grid_row_leaf-in-GridRows-clause-err
returns-in_err-check_grid_row_leaf-in-GridRows-clause-err c =
    let p = err_from_is_err_and c.from_residual-in_err-check_grid_row_leaf-in-GridRows.result c.from_residual-in_err-check_grid_row_leaf-in-GridRows.ensures.1 in
    rw (p.1, p.2)
    (λ rest. meant_refused (parted (width c.args.program.now) (Tree.cut c.args.program.now c.args.cuts.now)) (map (parted (width c.args.program.now)) (Tree.pending c.args.program.now c.args.cuts.now c.args.branches.now c.args.depth)) c.args.number (Of.aim c.args.aim) rest c.args.node.now (Cases.GridByRows (ratio c.in-GridRows.step) (Means.multipliers c.as_slice-in-GridRows.result.now))
    (grid_meant c.args.node.now c.in-GridRows.mults c.as_slice-in-GridRows.result.now c.as_slice-in-GridRows.ensures c.in-GridRows.step c.in-GridRows.is) c.in_err-check_grid_row_leaf-in-GridRows.field-0.0 (inl (subst (λ (J : Instance). GridRowLeafRefuses J (ratio c.in-GridRows.step) (Means.multipliers c.as_slice-in-GridRows.result.now) (Of.aim c.args.aim) c.args.number c.in_err-check_grid_row_leaf-in-GridRows.field-0.0) (case_is (length c.args.slots.now) (width c.args.program.now) c.args.program.now c.over-case.result c.args.cuts.now c.requires.slots c.over-case.ensures.value) c.in_err-check_grid_row_leaf-in-GridRows.ensures.err)))

pub returns-clause-ok : goal.returns-clause-ok
returns-clause-ok c = λ rest.
    let p = c.args.program.now in
    let m = width p in
    let cs = c.args.cuts.now in
    let I = parted m (Tree.cut p cs) in
    let js = map (parted m) (Tree.pending p cs c.args.branches.now c.args.depth) in
    let after = open_cases m p c.back.new.cuts c.back.new.branches c.back.result in
    let went : after ≡ js = ap (map (parted m)) (c.back.ensures.cases p) in
    let here : Tree.cut c.over-case.result (take (length c.args.slots.now) cs) ≡ I = case_is (length c.args.slots.now) m p c.over-case.result cs c.requires.slots c.over-case.ensures.value in
    let good : IsInstance I = subst IsInstance here (cut-instance c.over-case.result c.over-case.ensures.numbers (take (length c.args.slots.now) cs)) in
    elim c.match-node.branch [
      | in-Clash+in_ok-check_clash-in-Clash w ↦
          subst (λ (n : Node). LeadsThrough (I ∷ js) (Means.node n ∷ rest) c.args.number after rest (c.args.number + 1) (Of.aim c.args.aim)) (sym w.in-Clash.is)
          (clash_leads I js after c.args.number (Of.aim c.args.aim) rest w.in-Clash.col (subst (λ (J : Instance). ClashHolds J w.in-Clash.col) here w.in_ok-check_clash-in-Clash.ensures.ok) went)
      | in-Farkas+in_ok-check_leaf-in-Farkas w ↦
          farkas_node_leads I js after c.args.number (Of.aim c.args.aim) rest c.args.node.now w.in-Farkas.mults w.as_slice.result.now w.in-Farkas.is w.as_slice.ensures (subst (λ (J : Instance). LeafHolds J (Means.multipliers w.as_slice.result.now) None) here w.in_ok-check_leaf-in-Farkas.ensures.ok) went
      | in-Bound+else-is_none+in_ok-check_leaf-in-Bound w ↦
          bound_node_leads I js after c.args.number rest c.args.node.now w.in-Bound.mults w.as_slice-in-Bound.result.now w.in-Bound.is w.as_slice-in-Bound.ensures c.args.aim (not_none c.args.aim w.is_none.result w.is_none.ensures w.if-is_none.false) (subst (λ (J : Instance). LeafHolds J (Means.multipliers w.as_slice-in-Bound.result.now) (Of.aim c.args.aim)) here w.in_ok-check_leaf-in-Bound.ensures.ok) went
      | in-Grid+in_ok-check_grid_leaf-in-Grid w ↦
          grid_node_leads I js after c.args.number (Of.aim c.args.aim) rest c.args.node.now w.in-Grid.step w.in-Grid.mults w.as_slice-in-Grid.result.now w.in-Grid.is w.as_slice-in-Grid.ensures (subst (λ (J : Instance). GridLeafHolds J (ratio w.in-Grid.step) (Means.multipliers w.as_slice-in-Grid.result.now) (Of.aim c.args.aim)) here w.in_ok-check_grid_leaf-in-Grid.ensures.ok) went
      | in-FarkasRows+in_ok-check_row_leaf-in-FarkasRows w ↦
          as_meant I js after c.args.number rest (Of.aim c.args.aim) c.args.node.now (Cases.FarkasByRows (Means.multipliers w.as_slice-in-FarkasRows.result.now))
          (farkas_meant c.args.node.now w.in-FarkasRows.mults w.as_slice-in-FarkasRows.result.now w.as_slice-in-FarkasRows.ensures w.in-FarkasRows.is)
          (farkas_rows_leads I good js after c.args.number rest (Means.multipliers w.as_slice-in-FarkasRows.result.now) (Of.aim c.args.aim) (subst (λ (J : Instance). RowLeafHolds J (Means.multipliers w.as_slice-in-FarkasRows.result.now) None) here w.in_ok-check_row_leaf-in-FarkasRows.ensures.ok) went)
      | in-BoundRows+in_ok-check_bound_rows-in-BoundRows w ↦
          as_meant I js after c.args.number rest (Of.aim c.args.aim) c.args.node.now (Cases.BoundByRows (Means.multipliers w.as_slice-in-BoundRows.result.now))
          (bound_meant c.args.node.now w.in-BoundRows.mults w.as_slice-in-BoundRows.result.now w.as_slice-in-BoundRows.ensures w.in-BoundRows.is)
          (bound_rows_leads I good js after c.args.number rest (Means.multipliers w.as_slice-in-BoundRows.result.now) (Of.aim c.args.aim) (subst (λ (J : Instance). BoundRowsHold J (Means.multipliers w.as_slice-in-BoundRows.result.now) (Of.aim c.args.aim)) here w.in_ok-check_bound_rows-in-BoundRows.ensures.ok) went)
      | in-GridRows+in_ok-check_grid_row_leaf-in-GridRows w ↦
          as_meant I js after c.args.number rest (Of.aim c.args.aim) c.args.node.now (Cases.GridByRows (ratio w.in-GridRows.step) (Means.multipliers w.as_slice-in-GridRows.result.now))
          (grid_meant c.args.node.now w.in-GridRows.mults w.as_slice-in-GridRows.result.now w.as_slice-in-GridRows.ensures w.in-GridRows.step w.in-GridRows.is)
          (grid_rows_leads I good js after c.args.number rest (Means.multipliers w.as_slice-in-GridRows.result.now) (ratio w.in-GridRows.step) w.in-GridRows.step.above (Of.aim c.args.aim) (subst (λ (J : Instance). GridRowLeafHolds J (ratio w.in-GridRows.step) (Means.multipliers w.as_slice-in-GridRows.result.now) (Of.aim c.args.aim)) here w.in_ok-check_grid_row_leaf-in-GridRows.ensures.ok) went)
    ]
