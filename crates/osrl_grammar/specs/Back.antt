-- The reports that come back from their texts.
use Rattle.std.specs.Prelude.{◌≡◌, ◌≢◌, ℕ, ◌+◌, ◌^◌, ◌<◌, ◌≤◌, unsigned_abs, Option, None, Some, List, [], ◌∷◌, length}
use Rattle.std.specs.List.{All}
use Rattle.tree_grammar.specs.Characters.{IsXmlText}
use Rattle.document_tags.specs.Texts.{document_limit}
use Rattle.decimal_text.specs.Space.{trimmed}
use Rattle.rational.specs.Width.{most}
use Rattle.certificate.specs.declared.lists.Mult.{Mult}
use Rattle.certificate.specs.declared.nodes.Node.{Node}
use Rattle.certificate.specs.declared.nodes.Node.TheVariants.{Split, Zero, Clash, Farkas, Bound, Grid, FarkasRows, BoundRows, GridRows}
use Rattle.certificate.specs.declared.nodes.Round.{Round}
use Rattle.certificate.specs.declared.nodes.Round.TheVariants.{Whole, OfRows}
use Rattle.certificate.specs.declared.nodes.Cert.{Cert}
use Rattle.certificate.specs.declared.causes.Cause.{Cause}
use Rattle.certificate.specs.declared.causes.Cause.TheVariants as causes
use Rattle.certificate.specs.declared.claims.ProvedBound.{ProvedBound}
use Rattle.certificate.specs.declared.claims.Claim.{Claim}
use Rattle.certificate.specs.declared.claims.Claim.TheVariants.{Optimal, Infeasible, Unbounded, BestSoFar, Unsure}
use Rattle.osrl_writing.specs.declared.report.Report.{Report}
use Rattle.osrl_writing.specs.Writing.{report_text}

-- characters of XML, one at least, with no white space round them
pub record IsBare (text : List ℕ) : Type 0 where
  pub some : text ≢ []
  pub bare : trimmed text ≡ text
  pub characters : IsXmlText text

-- a text that is bare, or none
abbrev pub IsBareOrNone : Option (List ℕ) → Type 0
IsBareOrNone None = Unit {0}
IsBareOrNone (Some text) = IsBare text

-- each column is a number of its type, as every multiplier's is
abbrev pub HaveColumns : List Mult → Type 0
HaveColumns ms = All (λ m. m.col < 2 ^ 32) ms

-- the numbers are of their types, and a split's isn't the least of its type, whose size no fraction has
abbrev pub NodeComesBack : Node → Type 0
NodeComesBack (Split j k) = (j < 2 ^ 32) × (unsigned_abs k ≤ most)
NodeComesBack (Zero j) = j < 2 ^ 32
NodeComesBack (Clash c) = c < 2 ^ 32
NodeComesBack (Farkas ms) = HaveColumns ms
NodeComesBack (Bound ms) = HaveColumns ms
NodeComesBack (Grid g ms) = HaveColumns ms
NodeComesBack (FarkasRows ms) = HaveColumns ms
NodeComesBack (BoundRows ms) = HaveColumns ms
NodeComesBack (GridRows g ms) = HaveColumns ms

-- so are those of a round
abbrev pub RoundComesBack : Round → Type 0
RoundComesBack (Whole ms) = HaveColumns ms
RoundComesBack (OfRows ms) = HaveColumns ms

-- the numbers are of their types, as those of every cause are
abbrev pub CauseComesBack : Cause → Type 0
CauseComesBack causes.Killed = Unit {0}
CauseComesBack (causes.NodeLimit n) = n < 2 ^ 32
CauseComesBack (causes.TurnLimit n) = n < 2 ^ 32
CauseComesBack causes.Gap = Unit {0}
CauseComesBack (causes.TimeLimit x) = Unit {0}
CauseComesBack (causes.Wide p) = (p.node < 2 ^ 32) × (p.turn < 2 ^ 64)
CauseComesBack causes.Length = Unit {0}
CauseComesBack causes.Memory = Unit {0}

-- a level behind the first has no rounds, and may have no node
abbrev pub LevelComesBack : Cert → Type 0
LevelComesBack c = (c.rounds ≡ []) × All NodeComesBack c.nodes

-- the first tree has a node, or there are levels behind it
pub record TreesComeBack (c : Cert) (cs : List Cert) : Type 0 where
  pub some : 0 < length c.nodes + length cs
  pub rounds : All RoundComesBack c.rounds
  pub first : All NodeComesBack c.nodes
  pub levels : All LevelComesBack cs

-- there are trees
abbrev pub HasTrees : List Cert → Type 0
HasTrees [] = ⊥
HasTrees (c ∷ cs) = TreesComeBack c cs

-- or none
abbrev pub MayHaveTrees : List Cert → Type 0
MayHaveTrees [] = Unit {0}
MayHaveTrees (c ∷ cs) = TreesComeBack c cs

-- a bound has a tree, of one level
abbrev pub BoundComesBack : Option ProvedBound → Type 0
BoundComesBack None = Unit {0}
BoundComesBack (Some b) = TreesComeBack b.cert []

abbrev pub ClaimComesBack : Option Claim → Type 0
ClaimComesBack None = Unit {0}
ClaimComesBack (Some (Optimal x vs cs)) = (0 < length vs) × HasTrees cs
ClaimComesBack (Some (Infeasible c)) = TreesComeBack c []
ClaimComesBack (Some (Unbounded x vs cs r)) = (0 < length vs) × MayHaveTrees cs
ClaimComesBack (Some (BestSoFar x vs c b)) = (0 < length vs) × CauseComesBack c × BoundComesBack b
ClaimComesBack (Some (Unsure c b)) = CauseComesBack c × BoundComesBack b

-- the text is no longer than a document may be, and what the report says can be written and read
pub record ComesBack (r : Report) : Type 0 where
  pub short : length (report_text r) ≤ document_limit
  pub job : IsBareOrNone r.job
  pub message : IsBareOrNone r.message
  pub claim : ClaimComesBack r.claim
