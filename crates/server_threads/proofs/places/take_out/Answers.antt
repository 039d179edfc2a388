use Rattle.std.proofs.Common.{arith, ◌≡◌, ◌∷◌, Option, None, sym, subst, MatchOption, IsPermutation, set}
use Rattle.server_threads.specs.Serving.{taken}
use Rattle.server_threads.proofs.Rounds.{taken_by}
use Rattle.server_threads.proofs.places.take_out.Goals as goal

pub returns-clause-out : goal.returns-clause-out
returns-clause-out g c =
    let items = c.args.places.now.items in
    let long = c.args.places.now.ok.0 in
    let within = c.requires in
    subst (λ (o : Option g.row.T.Denot). MatchOption c.take.result (taken (set items c.args.at o) ≡ taken items) (λ one. IsPermutation (taken items) (one ∷ taken (set items c.args.at o)))) (sym c.take.ensures.after)
    (subst (λ (r : Option g.row.T.Denot). MatchOption r (taken (set items c.args.at None) ≡ taken items) (λ one. IsPermutation (taken items) (one ∷ taken (set items c.args.at None)))) (sym c.take.ensures.value)
    (taken_by items c.args.at c.index_mut.result.now c.index_mut.result.now (omega arith) c.index_mut.ensures.value))
