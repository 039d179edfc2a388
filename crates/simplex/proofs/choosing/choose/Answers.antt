use Rattle.std.proofs.Common.{inl, inr, refl, arith}
use Rattle.evidence.specs.Sums.{none}
use Rattle.simplex_rules.specs.Runs.{Repairs, Improves, IsNext}
use Rattle.dictionary.specs.Dict.{entry_of}
use Rattle.simplex.specs.Tables.{values_in}
use Rattle.simplex.proofs.PlainPrograms.{plain, plain_ends}
use Rattle.simplex.proofs.Choices.{leads_map, held_dictionary}
use Rattle.simplex.proofs.choosing.choose.Goals as goal

pub returns-in-Err-clause-next : goal.returns-in-Err-clause-next
returns-in-Err-clause-next g c = λ I zeroed t k e size holds starts.
    (entry_of c.args.dict.now, held_dictionary c.args.dict.now I zeroed c.args.statuses.now c.requires.statuses size holds, inl (c.in-Err.ensures.wide I e size, refl))

pub repair-requires-clause-inside : goal.repair-requires-clause-inside
repair-requires-clause-inside g c =
    let e = plain_ends c.args.ends.now in
    let h = c.in-Some.ensures (plain c.args.ends.now) (λ j k. none) e in
    let i = h.inside in let n = e.count in let a = c.requires.ends in let f = c.requires.goal in omega arith

pub repair-requires-clause-basic : goal.repair-requires-clause-basic
repair-requires-clause-basic g c = let h = c.in-Some.ensures (plain c.args.ends.now) (λ j k. none) (plain_ends c.args.ends.now) in h.out.basic

pub returns-in-Some-clause-next : goal.returns-in-Some-clause-next
returns-in-Some-clause-next g c = λ I zeroed t k e size holds starts.
    let d = held_dictionary c.args.dict.now I zeroed c.args.statuses.now c.requires.statuses size holds in
    leads_map I c.args.statuses.now (entry_of c.args.dict.now) (values_in c.find_values.new.values) t k
    (Repairs I zeroed t (record { statuses = c.args.statuses.now; clock = k }) (entry_of c.args.dict.now) (values_in c.find_values.new.values) c.in-Some.out.col c.in-Some.out.way)
    (IsNext I zeroed t (record { statuses = c.args.statuses.now; clock = k }))
    (λ next q. (entry_of c.args.dict.now, d, inr (values_in c.find_values.new.values, c.in-Ok.ensures.fits I e size, c.in-Ok.ensures.ok I e size, inl (c.in-Some.out.col, c.in-Some.out.way, c.in-Some.ensures I (entry_of c.args.dict.now) e, q))))
    c.repair.result (c.repair.ensures.next I (values_in c.find_values.new.values) zeroed t k e size)

pub returns-in-None-clause-next : goal.returns-in-None-clause-next
returns-in-None-clause-next g c = λ I zeroed t k e size holds starts.
    let d = held_dictionary c.args.dict.now I zeroed c.args.statuses.now c.requires.statuses size holds in
    leads_map I c.args.statuses.now (entry_of c.args.dict.now) (values_in c.find_values.new.values) t k
    (Improves I zeroed t (record { statuses = c.args.statuses.now; clock = k }) (entry_of c.args.dict.now) (values_in c.find_values.new.values))
    (IsNext I zeroed t (record { statuses = c.args.statuses.now; clock = k }))
    (λ next q. (entry_of c.args.dict.now, d, inr (values_in c.find_values.new.values, c.in-Ok.ensures.fits I e size, c.in-Ok.ensures.ok I e size, inr (c.in-None.ensures I (entry_of c.args.dict.now) e, q))))
    c.improve.result (c.improve.ensures.next I zeroed t k e size holds.is.entries starts)
