use Rattle.osil_grammar.proofs.Words.{◌≡◌, ◌+◌, ◌-◌, ◌≤◌, ◌++◌, length, arith, rules, sym, ◌∙◌, ap, append-nil, lists_of}
use Rattle.instance.specs.Program.{entries as entries_of}
use Rattle.osil_grammar.specs.Matrix.{stored as stored_lists}
use Rattle.osil_grammar.proofs.Lines.{divides, IsLine, is_line, more_lines, last_line}
use Rattle.osil_grammar.proofs.entries.stored.Goals as goal

line_here : (c : goal.After-deref) → IsLine c.as_slice-starts.result.now c.loop-line.line (length c.args.lists.now.indices.items) (length c.args.lists.now.values.items)
line_here c = is_line c.args.lists.now c.requires.0 c.requires.2 c.as_slice-starts.result.now c.as_slice-starts.ensures.value c.loop-line.line c.loop-line.auto.line c.loop-line-test.true

pub slice_bounds-indices-count : goal.slice_bounds-indices-count
slice_bounds-indices-count c = (line_here c).rise

pub slice_bounds-indices-start : goal.slice_bounds-indices-start
slice_bounds-indices-start c = let line = line_here c in let rise = line.rise in let inside = line.in_indices in let count = ap length c.deref.ensures.value in search rules

pub slice_bounds-indices-end : goal.slice_bounds-indices-end
slice_bounds-indices-end c = let line = line_here c in let rise = line.rise in let inside = line.in_indices in let count = ap length c.deref.ensures.value in search rules

line_there : (c : goal.After-deref-in-loop-line) → IsLine c.as_slice-starts.result.now c.loop-line.line (length c.args.lists.now.indices.items) (length c.args.lists.now.values.items)
line_there c = is_line c.args.lists.now c.requires.0 c.requires.2 c.as_slice-starts.result.now c.as_slice-starts.ensures.value c.loop-line.line c.loop-line.auto.line c.loop-line-test.true

pub slice_bounds-values-count : goal.slice_bounds-values-count
slice_bounds-values-count c = (line_there c).rise

pub slice_bounds-values-start : goal.slice_bounds-values-start
slice_bounds-values-start c = let line = line_there c in let rise = line.rise in let inside = line.in_values in let count = ap length c.deref-in-loop-line.ensures.value in search rules

pub slice_bounds-values-end : goal.slice_bounds-values-end
slice_bounds-values-end c = let line = line_there c in let rise = line.rise in let inside = line.in_values in let count = ap length c.deref-in-loop-line.ensures.value in search rules

pub loop-line-preserved : goal.loop-line-preserved
loop-line-preserved c =
    let l = c.args.lists.now in
    let s = c.as_slice-starts.result.now in
    let line = c.loop-line.line in
    let here = is_line l c.requires.0 c.requires.2 s c.as_slice-starts.ensures.value line c.loop-line.auto.line c.loop-line-test.true in
    more_lines l.by_columns line s l.starts.items c.deref.result.now l.indices.items c.deref-in-loop-line.result.now l.values.items
    (entries_of c.loop-line.out.items) (entries_of c.push_line.new.out.items) (stored_lists (lists_of l))
    c.as_slice-starts.ensures.value c.deref.ensures.value c.deref-in-loop-line.ensures.value c.loop-line.auto.line c.loop-line-test.true here c.in_ok-push_line.ensures c.loop-line.invariant

pub returns : goal.returns
returns c =
    let starts = c.args.lists.now.starts.items in
    let same = ap length c.as_slice-starts.ensures.value in
    let d = divides starts c.requires.0 (length c.args.lists.now.values.items) c.requires.2.divided in
    let some : 1 ≤ length c.as_slice-starts.result.now = omega (arith, d.one_more) in
    let over = c.loop-line.auto.line-end some in
    let end : c.loop-line.line - 1 + 1 ≡ length starts = omega (arith, c.loop-line.auto.line, c.loop-line-test.false) in
    sym (append-nil (entries_of c.loop-line.out.items))
    ∙ ap (λ l. entries_of c.loop-line.out.items ++ l) (sym (last_line c.args.lists.now.by_columns (c.loop-line.line - 1) starts c.args.lists.now.indices.items c.args.lists.now.values.items end))
    ∙ c.loop-line.invariant
