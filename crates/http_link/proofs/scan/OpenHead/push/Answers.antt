use Rattle.std.proofs.Common.{◌≡◌, true, false, refl, arith}
use Rattle.http_link.proofs.Lines.{open_count, push_byte, push_full, push_empty, push_whole}
use Rattle.http_link.proofs.scan.OpenHead.push.Goals as goal

pub overflow_add-self : goal.overflow_add-self
overflow_add-self c = omega (arith, open_count _ _ _ c.requires.begun, c.requires.room)

pub returns-then-byte-ne10-clause-ok : goal.returns-then-byte-ne10-clause-ok
returns-then-byte-ne10-clause-ok c =
    push_byte _ _ _ _ c.args.byte c.requires.begun c.in_ok-push.ensures.ok c.if-byte-ne10.true

pub returns-then-not-empty-clause-ok : goal.returns-then-not-empty-clause-ok
returns-then-not-empty-clause-ok c =
    push_full _ _ _ _ c.args.byte _ c.requires.begun c.in_ok-push.ensures.ok c.if-byte-ne10.false c.len-self.ensures
    (λ empty. let never : false ≡ true = c.if-not-empty.ensures.1 empty in cc)

pub returns-then-self-gt0-clause-ok : goal.returns-then-self-gt0-clause-ok
returns-then-self-gt0-clause-ok c =
    push_whole _ _ _ _ c.args.byte c.requires.begun c.in_ok-push.ensures.ok c.if-byte-ne10.false (c.if-not-empty.ensures.0 refl) c.if-self-gt0.true

pub returns-else-self-gt0-clause-ok : goal.returns-else-self-gt0-clause-ok
returns-else-self-gt0-clause-ok c =
    push_empty _ _ _ _ c.args.byte _ c.requires.begun c.in_ok-push.ensures.ok c.if-byte-ne10.false c.len-self.ensures
    (c.if-not-empty.ensures.0 refl) c.if-self-gt0.false
