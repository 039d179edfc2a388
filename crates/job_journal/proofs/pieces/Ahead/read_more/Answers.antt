use Rattle.std.proofs.Common.{◌≡◌, ◌≤◌, ◌+◌, ◌-◌, List, ℕ, ◌++◌, length, take, drop, sym, ap, ◌∙◌, subst, arith, length-append, length-take, length-drop}
use Rattle.std.proofs.lemmas.List.{with_items_is}
use Rattle.job_journal.specs.Ahead.{IsAhead, held_of}
use Rattle.job_journal.proofs.Aheads.{held_length, held_more, more_ahead}
use Rattle.job_journal.proofs.pieces.Ahead.read_more.Goals as goal

pub returns-in-Ok-clause-ahead : goal.returns-in-Ok-clause-ahead
returns-in-Ok-clause-ahead g c = λ t stands.
    let s = c.args.self.now in
    let file = g.D.Disk.seen c.args.disk.now in
    let held = c.deref_mut.result.now in
    let piece = c.piece_at.new.piece in
    let rest = drop (s.to + c.min-more.result - s.to) (drop s.to held) in
    let within : s.to ≤ length s.room.items = omega (arith, s.within, s.room.ok) in
    let long : length piece ≡ c.min-more.result = omega (arith, c.piece_at.auto.piece, c.min-more.ensures, c.deref_mut.ensures.len, s.within, s.room.ok, length-take c.min-more.result (drop s.to held), length-drop s.to held) in
    let size : length (take s.to held ++ (piece ++ rest)) ≡ s.room.len = omega (
      arith,
      long,
      within,
      s.room.ok,
      c.min-more.ensures,
      ap length c.deref_mut.ensures.value,
      length-append (take s.to held) (piece ++ rest),
      length-append piece rest,
      length-take s.to held,
      length-drop (s.to + c.min-more.result - s.to) (drop s.to held),
      length-drop s.to held,
    ) in
    let is = with_items_is s.room (take s.to held ++ (piece ++ rest)) size ∙ ap (λ (l : List ℕ). take s.to l ++ (piece ++ rest)) c.deref_mut.ensures.value in
    let more = held_more s.room.items _ piece rest s.from s.to c.in-Ok.n s.ordered within (omega (arith, c.in-Ok.ensures.within, c.piece_at.auto.piece)) is in
    let at = held_length s.room.items s.from s.to within in (
      stands.0,
      subst (λ (l : List ℕ). IsAhead file s.place l) (sym more)
          (more_ahead file s.place (held_of s) piece c.in-Ok.n c.end-end.result (omega (arith, c.end-end.ensures, at)) (c.in-Ok.ensures.read t).front stands.1),
    )
