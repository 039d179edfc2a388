-- What a claim asks of its nodes, and the room for a check.
use Rattle.std.specs.Prelude.{ℕ, ◌+◌, ◌≤◌, Option, None, Some, length}
use Rattle.std.specs.List.{All}
use Rattle.rational.specs.Ratio.{Ratio}
use Rattle.fraction.specs.Frac.{ratio}
use Rattle.fraction.specs.declared.frac.Frac.{Frac}
use Rattle.instance.specs.Parts.{Parts}
use Rattle.certificate.specs.Nodes.{certs_of}
use Rattle.certificate.specs.declared.nodes.Cert.{Cert}
use Rattle.certificate.specs.declared.claims.Claim.{Claim}

-- a value that claims and multipliers may have
abbrev pub aim : Option Frac → Option Ratio
aim None = None
aim (Some z) = Some (ratio z)

-- how many variables, columns, nodes of a tree, and added rows there is room for
pub record Room : Type 0 where
  pub vars : ℕ
  pub columns : ℕ
  pub nodes : ℕ
  pub rows : ℕ

-- there is room for a check: the columns are the variables, the rows, and those that are added; a tree has no more nodes, a certificate no more rounds, and there are no more goals after the first
pub record HasRoom (p : Parts) (c : Claim) (r : Room) : Type 0 where
  pub vars : length p.vars ≤ r.vars
  pub columns : length p.vars + (length p.rows + r.rows) ≤ r.columns
  pub nodes : All (λ (cert : Cert). length cert.nodes ≤ r.nodes) (certs_of c)
  pub rounds : All (λ (cert : Cert). length cert.rounds ≤ r.rows) (certs_of c)
  pub goals : length p.goals ≤ r.rows + 1
