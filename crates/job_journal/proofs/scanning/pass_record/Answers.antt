use Rattle.std.proofs.Common.{◌≡◌, ◌≤◌, ◌∷◌, List, ℕ, length, drop, true, refl, sym, ◌∙◌, ap, subst, arith}
use Rattle.std.specs.Prelude.{None}
use Rattle.job_journal.specs.Ahead.{IsAhead, held_of}
use Rattle.job_journal.specs.Opening.{CutsRecord, TakesOn, TakesRecord, StopsAt}
use Rattle.job_journal.specs.declared.scanning.OpenFault.TheVariants.{Damaged}
use Rattle.job_journal.proofs.Aheads.{takes_on, stops_at, shut, made_on, passes_on}
use Rattle.job_journal.proofs.scanning.pass_record.Goals as goal

pub returns-in-None-clause-takes : goal.returns-in-None-clause-takes
returns-in-None-clause-takes g c = λ t.
    let a = c.read_on.new.self in
    let file = g.D.Disk.seen c.args.disk.now in
    let r = (c.in-Ok.ensures.ahead t (c.requires t)).1 in (
      c.read_on.ensures.place,
      refl,
      λ behind is. shut file a.place (held_of a) r (λ b e. c.in-None.ensures.none b (c.rest.ensures ∙ e)) behind
          (subst (λ (k : ℕ). drop k file ≡ 1 ∷ behind) (sym c.read_on.ensures.place) is),
    )

pub returns-in-Ok-Some-clause-takes : goal.returns-in-Ok-Some-clause-takes
returns-in-Ok-Some-clause-takes g c = λ t.
    let a = c.read_on.new.self in
    let file = g.D.Disk.seen c.args.disk.now in
    let behind = c.in-Some.behind.now in
    let after = c.in-Ok-Some.after.now in
    let L = g.R.Replay.holds c.args.table.now in
    let M = g.R.Replay.holds c.take_record.new.table in
    let r = (c.in-Ok.ensures.ahead t (c.requires t)).1 in
    let is_open : held_of a ≡ 1 ∷ behind = sym c.rest.ensures ∙ c.in-Some.ensures.some in
    let cut : CutsRecord g.S.Sieve.accepted behind L after M = rw c.in-Ok-Some.field-0-is at c.in-Ok-Some.ensures in
    subst (λ (k : ℕ). TakesOn g.S.Sieve.accepted file k L true c.pass.new.self.place M) c.read_on.ensures.place
    (subst (λ (k : ℕ). TakesOn g.S.Sieve.accepted file a.place L true k M) (sym c.pass.ensures.place)
    (takes_on file a.place (held_of a) r g.S.Sieve.accepted behind after c.gate_and_record-size.result L M is_open cut c.gate_and_record-size.ensures))

pub returns-in-Ok-Some-clause-made : goal.returns-in-Ok-Some-clause-made
returns-in-Ok-Some-clause-made g c = λ made.
    let L = g.R.Replay.holds c.args.table.now in
    let M = g.R.Replay.holds c.take_record.new.table in
    let cut : CutsRecord g.S.Sieve.accepted c.in-Some.behind.now L c.in-Ok-Some.after.now M = rw c.in-Ok-Some.field-0-is at c.in-Ok-Some.ensures in
    made_on g.S.Sieve.accepted c.in-Some.behind.now c.in-Ok-Some.after.now L M cut made

pub returns-in-Ok-Some-clause-ahead : goal.returns-in-Ok-Some-clause-ahead
returns-in-Ok-Some-clause-ahead g c = λ t.
    let a = c.read_on.new.self in
    let file = g.D.Disk.seen c.args.disk.now in
    let n = c.gate_and_record-size.result in
    let stands = c.in-Ok.ensures.ahead t (c.requires t) in
    let is_open : held_of a ≡ 1 ∷ c.in-Some.behind.now = sym c.rest.ensures ∙ c.in-Some.ensures.some in
    let le : n ≤ length (held_of a) = omega (arith, c.gate_and_record-size.ensures, ap length is_open) in
    let on = passes_on file a.place (held_of a) n stands.1.ahead le in (
      c.pass.ensures.len ∙ stands.0,
      subst (λ (l : List ℕ). IsAhead file c.pass.new.self.place l) (sym c.pass.ensures.rest)
          (subst (λ (k : ℕ). IsAhead file k (drop n (held_of a))) (sym c.pass.ensures.place) on),
    )

pub returns-in-Ok-None-clause-err : goal.returns-in-Ok-None-clause-err
returns-in-Ok-None-clause-err g c = λ t.
    let a = c.read_on.new.self in
    let file = g.D.Disk.seen c.args.disk.now in
    let behind = c.in-Some.behind.now in
    let L = g.R.Replay.holds c.args.table.now in
    let M = g.R.Replay.holds c.take_record.new.table in
    let r = (c.in-Ok.ensures.ahead t (c.requires t)).1 in
    let is_open : held_of a ≡ 1 ∷ behind = sym c.rest.ensures ∙ c.in-Some.ensures.some in
    let none : TakesRecord g.S.Sieve.accepted behind L None M = rw c.in-Ok-None.field-0-is at c.in-Ok-None.ensures in
    subst (λ (k : ℕ). StopsAt g.S.Sieve.accepted file k L (Damaged c.place.result)) c.read_on.ensures.place
    (subst (λ (k : ℕ). StopsAt g.S.Sieve.accepted file a.place L (Damaged k)) (sym c.place.ensures)
    (stops_at file a.place (held_of a) r g.S.Sieve.accepted behind L M is_open none))
