use Rattle.std.proofs.Common.{List, ◌∙◌, ap₂}
use Rattle.certificate.specs.declared.nodes.Cert.{Cert}
use Rattle.certificate.specs.declared.nodes.Round.{Round}
use Rattle.branch_bound.proofs.FirstLevel.{begun_level}
use Rattle.branch_bound.proofs.searching.begin.Goals as goal

pub returns : goal.returns
returns g c = record {
  size = c.in_ok-relax.ensures.size;
  beside = c.in_ok-relax.ensures.ends;
  goal = c.in_ok-relax.ensures.goal;
  rows = c.in_ok-relax.ensures.rows;
  turns = c.in_ok-relax.ensures.turns;
  level = ap₂ (λ (ks : List Cert) (rs : List Round). begun_level ks rs) c.new.ensures c.new-2.ensures;
  walk = c.in_ok-first_walk.ensures.walk;
  fresh = c.in_ok-first_walk.ensures.fresh;
  best = c.in_ok-first_walk.ensures.first.0;
  ray = c.in_ok-first_walk.ensures.first.1;
  keeps = c.in_ok-first_walk.ensures.keeps ∙ c.keeps.ensures;
  carried = c.in_ok-first_walk.ensures.carried;
}
