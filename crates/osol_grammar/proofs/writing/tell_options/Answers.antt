use Rattle.std.proofs.Common.{List, [], ◌∷◌, ◌∙◌, ap}
use Rattle.std.specs.Prelude.{codes}
use Rattle.tree_grammar.specs.Elements.{Event, Open, Close, none, nodes_events}
use Rattle.document_tags.specs.Writing.{only, group}
use Rattle.document_tags.proofs.Tellings.{told_then, ends_told, ok_told_as}
use Rattle.osol_grammar.specs.Writing.{told_limits, limit_nodes, gap_nodes, job_nodes, time_nodes, first_nodes}
use Rattle.osol_grammar.proofs.WrittenLimits.{limits_then, job_then, time_then, first_then}
use Rattle.osol_grammar.proofs.writing.tell_options.Goals as goal

pub returns : goal.returns
returns c =
    let o = c.args.options.now in
    let limits = group (codes "solverOptions") (limit_nodes o (gap_nodes o.gap none)) none in
    let behind = group (codes "optimization") (first_nodes o.first limits) none in
    ok_told_as c.close-3.result _ _ _ _
    (λ k.
    let ends = Close (codes "optimization") ∷ Close (codes "osol") ∷ k in
    let options = ap (λ (es : List Event). nodes_events (first_nodes o.first none) (Open (codes "solverOptions") [] ∷ es)) (limits_then o (told_limits o) (gap_nodes o.gap none) (Close (codes "solverOptions") ∷ ends)) in
    let within = ap (λ (es : List Event). nodes_events (time_nodes o.seconds none) (Open (codes "optimization") [] ∷ es)) (options ∙ first_then o.first limits ends) in
    ap (λ (es : List Event). Open (codes "osol") (only (codes "xmlns") (codes "os.optimizationservices.org")) ∷ es)
    (ap (nodes_events (job_nodes o.job none)) (within ∙ time_then o.seconds behind (Close (codes "osol") ∷ k)) ∙ job_then o.job (time_nodes o.seconds behind) (Close (codes "osol") ∷ k)))
    (ends_told c.close-3.result _ _ _ _ _
    (told_then _ _ _ _ _ (told_then _ _ _ _ _ (told_then _ _ _ _ _ (told_then _ _ _ _ _ (told_then _ _ _ _ _ (told_then _ _ _ _ _ (told_then _ _ _ _ _ (told_then _ _ _ _ _ (told_then _ _ _ _ _ c.in_ok-open_with.ensures c.in_ok-tell_job.ensures) c.in_ok-tell_time.ensures) c.in_ok-open.ensures) c.in_ok-tell_first.ensures) c.in_ok-open-2.ensures) c.in_ok-tell_limits.ensures) c.in_ok-tell_gap.ensures) c.in_ok-close.ensures) c.in_ok-close-2.ensures) c.close-3.ensures)
