use Rattle.std.proofs.Common.{◌≡◌, ◌≤◌, ◌∷◌, ◌++◌, List, ℕ, length, drop, refl, sym, ◌∙◌, ap, subst, arith, append_assoc}
use Rattle.std.specs.Prelude.{Option, Err}
use Rattle.std.proofs.lemmas.Result.{IfErr-at_err}
use Rattle.effects.specs.Records.{deed_of, body}
use Rattle.job_journal.specs.Ahead.{IsAhead, held_of}
use Rattle.job_journal.specs.Compacting.{is_held, shortened_one}
use Rattle.job_journal.proofs.Aheads.{opened, shut, passes_on, record_there, no_record}
use Rattle.job_journal.proofs.RecordCopies.{stands_there}
use Rattle.job_journal.proofs.Compactions.{unwritten_old, unwritten_undamaged, unwritten_copies}
use Rattle.job_journal.proofs.compacting.copy_record.Goals as goal

pub returns-in-None-clause-copies : goal.returns-in-None-clause-copies
returns-in-None-clause-copies g c = λ t stands.
    let a = c.read_on.new.self in
    let file = g.D.Disk.seen c.args.disk.now in
    let r = (c.in-Ok.ensures.ahead t stands).1 in
    (λ behind is. shut file a.place (held_of a) r (λ b e. c.in-None.ensures.none b (c.rest.ensures ∙ e)) behind (subst (λ (k : ℕ). drop k file ≡ 1 ∷ behind) (sym c.read_on.ensures.place) is), refl, refl)

pub returns-in-Ok-add_shortened-clause-copies : goal.returns-in-Ok-add_shortened-clause-copies
returns-in-Ok-add_shortened-clause-copies g c = λ t stands.
    let a = c.read_on.new.self in
    let file = g.D.Disk.seen c.args.disk.now in
    let d = deed_of c.in-Some-decode.effect in
    let r = (c.in-Ok.ensures.ahead t stands).1 in
    let is_open : held_of a ≡ 1 ∷ c.in-Some.behind.now = sym c.rest.ensures ∙ c.in-Some.ensures.some in
    let there = record_there file a.place (held_of a) r c.in-Some.behind.now (body d) c.in-Some-decode.after.now c.gate_and_record-size.result is_open c.in-Some-decode.ensures.some.0 c.gate_and_record-size.ensures in
    record {
      deed = d;
      fits = c.in-Some-decode.ensures.some.1;
      is = subst (λ (k : ℕ). drop k file ≡ 1 ∷ (body d ++ drop c.pass.new.self.place file)) c.read_on.ensures.place
          (subst (λ (k : ℕ). drop a.place file ≡ 1 ∷ (body d ++ drop k file)) (sym c.pass.ensures.place) there);
      next_is = c.next_behind-next.ensures;
      drafts = λ told deeds o. c.in-Ok-add_shortened.ensures.written deeds told o;
    }

pub returns-in-Ok-add_shortened-clause-ahead : goal.returns-in-Ok-add_shortened-clause-ahead
returns-in-Ok-add_shortened-clause-ahead g c = λ t stands.
    let a = c.read_on.new.self in
    let file = g.D.Disk.seen c.args.disk.now in
    let n = c.gate_and_record-size.result in
    let now = c.in-Ok.ensures.ahead t stands in
    let is_open : held_of a ≡ 1 ∷ c.in-Some.behind.now = sym c.rest.ensures ∙ c.in-Some.ensures.some in
    let le : n ≤ length (held_of a) = omega (arith, c.gate_and_record-size.ensures, ap length is_open) in (
      c.pass.ensures.len ∙ now.0,
      subst (λ (l : List ℕ). IsAhead file c.pass.new.self.place l) (sym c.pass.ensures.rest)
          (subst (λ (k : ℕ). IsAhead file k (drop n (held_of a))) (sym c.pass.ensures.place) (passes_on file a.place (held_of a) n now.1.ahead le)),
    )

pub returns-in-Ok-add_shortened-clause-drafted : goal.returns-in-Ok-add_shortened-clause-drafted
returns-in-Ok-add_shortened-clause-drafted g c = λ told.
    let (deeds, o) = c.requires.drafted told in
    (deeds ++ shortened_one (is_held (g.R.Replay.holds c.args.table.now)) c.args.next (deed_of c.in-Some-decode.effect), c.in-Ok-add_shortened.ensures.written deeds told o)

pub returns-in-None-decode-clause-undamaged : goal.returns-in-None-decode-clause-undamaged
returns-in-None-decode-clause-undamaged g c = λ done deeds t stands fit_done fit copied ends.
    let a = c.read_on.new.self in
    let file = g.D.Disk.seen c.args.disk.now in
    let r = (c.in-Ok.ensures.ahead t stands).1 in
    let is_open : held_of a ≡ 1 ∷ c.in-Some.behind.now = sym c.rest.ensures ∙ c.in-Some.ensures.some in
    let (d, gate, more, fits, there) = stands_there file c.args.ahead.now.place done deeds (c.in-Some.behind.now ++ r.ahead.behind) fit_done fit copied ends
    (subst (λ (k : ℕ). drop k file ≡ 1 ∷ (c.in-Some.behind.now ++ r.ahead.behind)) c.read_on.ensures.place (opened file a.place (held_of a) r c.in-Some.behind.now is_open)) in
    no_record file a.place (held_of a) r c.in-Some.behind.now is_open c.in-None-decode.ensures.none d gate more fits (subst (λ (k : ℕ). drop k file ≡ 1 ∷ (body d ++ gate ∷ more)) (sym c.read_on.ensures.place) there)

pub returns-in-Err-add_shortened-clause-undamaged : goal.returns-in-Err-add_shortened-clause-undamaged
returns-in-Err-add_shortened-clause-undamaged g c = λ done deeds t stands fit_done fit copied ends. unwritten_undamaged c.in-Err-add_shortened.fault c.in-Err-add_shortened.ensures.err

pub returns-in-Err-add_shortened-clause-untaken : goal.returns-in-Err-add_shortened-clause-untaken
returns-in-Err-add_shortened-clause-untaken g c = unwritten_copies c.in-Err-add_shortened.fault c.in-Err-add_shortened.ensures.err

pub returns-in-Err-add_shortened-clause-old_cause : goal.returns-in-Err-add_shortened-clause-old_cause
returns-in-Err-add_shortened-clause-old_cause g c = unwritten_old {X = Option ℕ} (Err c.in-Err-add_shortened.fault) _ _ c.in-Err-add_shortened.ensures.err (rw c.in-Ok.is at c.read_on.ensures.cause)

pub returns-in-Err-add_shortened-clause-long : goal.returns-in-Err-add_shortened-clause-long
returns-in-Err-add_shortened-clause-long g c = λ deeds t stands told o is.
    let a = c.read_on.new.self in
    let file = g.D.Disk.seen c.args.disk.now in
    let d = deed_of c.in-Some-decode.effect in
    let r = (c.in-Ok.ensures.ahead t stands).1 in
    let is_open : held_of a ≡ 1 ∷ c.in-Some.behind.now = sym c.rest.ensures ∙ c.in-Some.ensures.some in
    record {
      deed = d;
      fits = c.in-Some-decode.ensures.some.1;
      after = c.in-Some-decode.after.now ++ r.ahead.behind;
      is = subst (λ (k : ℕ). drop k file ≡ 1 ∷ (c.in-Some.behind.now ++ r.ahead.behind)) c.read_on.ensures.place (opened file a.place (held_of a) r c.in-Some.behind.now is_open)
          ∙ ap (λ (l : List ℕ). 1 ∷ (l ++ r.ahead.behind)) c.in-Some-decode.ensures.some.0 ∙ ap (λ (l : List ℕ). 1 ∷ l) (append_assoc (body d) c.in-Some-decode.after.now r.ahead.behind);
      none = c.add_shortened.ensures.long deeds told o (IfErr-at_err (λ f. c.add_shortened.result ≡ Err f) is c.in-Err-add_shortened.is);
    }
