use Rattle.osil_grammar.proofs.Words.{◌++◌, ◌∷◌, [], get_or, take, arith, refl, sym, ◌∙◌, ap, append_assoc, map_push, entry, line_entries}
use Rattle.instance.specs.Program.{entries as entries_of}
use Rattle.osil_grammar.proofs.Lines.{line_more}
use Rattle.osil_grammar.proofs.entries.push_line.Goals as goal

pub loop-k-preserved : goal.loop-k-preserved
loop-k-preserved c =
    let k = c.loop-k.k in
    let old = entries_of c.args.out.now.items in
    let so_far = line_entries c.args.by_columns c.args.line (take k c.args.indices.now) (take k c.args.values.now) in
    ap entries_of c.in_ok-push.ensures.items ∙ map_push entry c.loop-k.out.items c.entry.result
    ∙ ap (λ l. l ++ entry c.entry.result ∷ []) c.loop-k.invariant
    ∙ append_assoc old so_far (entry c.entry.result ∷ [])
    ∙ ap (λ e. old ++ (so_far ++ e ∷ [])) c.entry.ensures
    ∙ ap (λ l. old ++ l) (sym (line_more c.args.by_columns c.args.line c.args.indices.now c.args.values.now k (get_or c.args.indices.now k 0) c.index-values-k.result (omega (arith, c.requires)) (omega (arith, c.loop-k-test.true)) refl c.index-values-k.is))
