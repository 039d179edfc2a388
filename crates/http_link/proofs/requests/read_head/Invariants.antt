use Rattle.std.proofs.Common.{◌≡◌, ◌-◌, ◌≤◌, ◌++◌, length}
use Rattle.os_io.specs.Streams.{BothTold, SameOutput}
use Rattle.http_link.specs.Checks.{most_head}
use Rattle.http_link.specs.Lines.{IsOpenHead}
use Rattle.http_link.proofs.requests.read_head.Given as goal

abbrev pub invariant-loop-source : goal.invariant-loop-source
invariant-loop-source g l = record {
  begun : IsOpenHead l.head.text l.head.start l.head.lines;
  fits : length l.head.text ≤ most_head;
  taken : BothTold (g.S.Stream.tells l.fn.source).left (g.S.Stream.tells l.source).left (λ before after. before ≡ l.head.text ++ after);
  faults : (g.S.Stream.tells l.source).read_faults ≡ (g.S.Stream.tells l.fn.source).read_faults;
  output : SameOutput (g.S.Stream.tells l.fn.source) (g.S.Stream.tells l.source);
}

abbrev pub decreases-loop-source : goal.decreases-loop-source
decreases-loop-source g l = most_head - length l.head.text
