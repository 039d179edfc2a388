use Rattle.std.proofs.Common.{inl, arith}
use Rattle.std.proofs.lemmas.Bool.Decides.{Decides-eqb}
use Rattle.http_link.proofs.Lines.{open_is_blank, open_not_blank}
use Rattle.http_link.proofs.scan.OpenHead.is_blank.Goals as goal

pub returns-then-self-eq0 : goal.returns-then-self-eq0
returns-then-self-eq0 c = open_is_blank _ _ _ c.requires c.if-self-eq0.true c.len.result c.len.ensures

pub returns-else-self-eq0 : goal.returns-else-self-eq0
returns-else-self-eq0 c =
    let some = c.if-self-eq0.false in
    let never = open_not_blank _ _ _ c.requires (inl (omega (arith, some))) in (
      λ yes. absurd (some ((Decides-eqb c.args.self.now.lines 0).0 yes)),
      λ blank. absurd (never blank),
    )
