-- What items stand for: numbers, rounds, nodes, what begins a level, and causes.
use Rattle.std.specs.Prelude.{◌≡◌, ℕ, pos, Option, None, Some, List, [], ◌∷◌}
use Rattle.std.specs.List.{AllZip}
use Rattle.rational.specs.Ratio.{Ratio, whole}
use Rattle.fraction.specs.Frac.{ratio}
use Rattle.fraction.specs.declared.frac.Frac.{Frac}
use Rattle.certificate.specs.declared.lists.Mult.{Mult}
use Rattle.certificate.specs.declared.nodes.Node.{Node}
use Rattle.certificate.specs.declared.nodes.Node.TheVariants as nodes
use Rattle.certificate.specs.declared.nodes.Round.{Round}
use Rattle.certificate.specs.declared.nodes.Round.TheVariants as rounds
use Rattle.certificate.specs.declared.causes.Place.{Place}
use Rattle.certificate.specs.declared.causes.Cause as why
use Rattle.certificate.specs.declared.causes.Cause.TheVariants as causes
use Rattle.osrl_grammar.specs.declared.parts.NodeWord.{NodeWord}
use Rattle.osrl_grammar.specs.declared.parts.NodeWord.TheVariants as heads
use Rattle.osrl_grammar.specs.declared.parts.RoundWord.{RoundWord}
use Rattle.osrl_grammar.specs.declared.parts.RoundWord.TheVariants as turns
use Rattle.osrl_grammar.specs.declared.parts.CauseWord.{CauseWord}
use Rattle.osrl_grammar.specs.declared.parts.CauseWord.TheVariants as reasons
use Rattle.osrl_grammar.specs.declared.parts.TreeItem.{TreeItem}
use Rattle.osrl_grammar.specs.declared.parts.TreeItem.TheVariants as trees
use Rattle.osrl_grammar.specs.Numbers.{Index, Turn, Whole, Exact, WritesNumber, IsNumberText}
use Rattle.osrl_grammar.specs.Pieces.{pieces, Pair, parted}
use Rattle.osrl_writing.specs.declared.parts.Part.{Part}
use Rattle.osrl_writing.specs.declared.parts.Part.TheVariants.{Tree}
use Rattle.osrl_grammar.specs.Items.{node_word, round_word, cause_word, step_text}

abbrev pub IsFraction : List ℕ → Frac → Type 0
IsFraction text x = IsNumberText Exact text (ratio x)

-- whole numbers from 0 on
abbrev pub IsIndex : List ℕ → ℕ → Type 0
IsIndex text n = IsNumberText Index text (whole (pos n))

abbrev pub IsTurn : List ℕ → ℕ → Type 0
IsTurn text n = IsNumberText Turn text (whole (pos n))

abbrev pub IsMultOf : Option Pair → Mult → Type 0
IsMultOf None m = ⊥
IsMultOf (Some p) m = IsIndex p.column m.col × IsFraction p.factor m.value

abbrev pub IsMult : List ℕ → Mult → Type 0
IsMult piece m = IsMultOf (parted piece) m

-- one piece that is an index
abbrev pub IsOne : List (List ℕ) → ℕ → Type 0
IsOne (t ∷ []) n = IsIndex t n
IsOne ps n = ⊥

-- one piece that is a number
abbrev pub IsOneFraction : List (List ℕ) → Frac → Type 0
IsOneFraction (t ∷ []) x = IsFraction t x
IsOneFraction ps x = ⊥

abbrev pub IsPlace : List (List ℕ) → Place → Type 0
IsPlace (n ∷ t ∷ s ∷ []) p = IsIndex n p.node × IsTurn t p.turn × (s ≡ step_text p.step)
IsPlace ps p = ⊥

-- a step, and then multipliers
abbrev pub SaysSteps : List (List ℕ) → Frac × List Mult → Type 0
SaysSteps [] leaf = ⊥
SaysSteps (s ∷ ps) leaf = IsFraction s leaf.0 × AllZip IsMult ps leaf.1

-- the word of a node, and the pieces behind it
abbrev pub node_head : Node → NodeWord
node_head (nodes.Split j k) = heads.Split
node_head (nodes.Zero j) = heads.Zero
node_head (nodes.Clash c) = heads.Clash
node_head (nodes.Farkas ms) = heads.Farkas
node_head (nodes.Bound ms) = heads.Bound
node_head (nodes.Grid g ms) = heads.Grid
node_head (nodes.FarkasRows ms) = heads.FarkasRows
node_head (nodes.BoundRows ms) = heads.BoundRows
node_head (nodes.GridRows g ms) = heads.GridRows

abbrev pub SaysNode : Node → List (List ℕ) → Type 0
SaysNode (nodes.Split j k) (c ∷ b ∷ []) = IsIndex c j × IsNumberText Whole b (whole k)
SaysNode (nodes.Split j k) ps = ⊥
SaysNode (nodes.Zero j) ps = IsOne ps j
SaysNode (nodes.Clash c) ps = IsOne ps c
SaysNode (nodes.Farkas ms) ps = AllZip IsMult ps ms
SaysNode (nodes.Bound ms) ps = AllZip IsMult ps ms
SaysNode (nodes.Grid g ms) ps = SaysSteps ps (g, ms)
SaysNode (nodes.FarkasRows ms) ps = AllZip IsMult ps ms
SaysNode (nodes.BoundRows ms) ps = AllZip IsMult ps ms
SaysNode (nodes.GridRows g ms) ps = SaysSteps ps (g, ms)

-- the word of an item of a tree, and the pieces behind it: a node, or the number of the level that begins
abbrev pub tree_head : TreeItem → NodeWord
tree_head (trees.Node n) = node_head n
tree_head (trees.Level l) = heads.Level

abbrev pub SaysTree : TreeItem → List (List ℕ) → Type 0
SaysTree (trees.Node n) ps = SaysNode n ps
SaysTree (trees.Level l) ps = IsOne ps l

-- the word of a round, and the pieces behind it
abbrev pub round_head : Round → RoundWord
round_head (rounds.Whole ms) = turns.Whole
round_head (rounds.OfRows ms) = turns.OfRows

abbrev pub SaysRound : Round → List (List ℕ) → Type 0
SaysRound (rounds.Whole ms) ps = AllZip IsMult ps ms
SaysRound (rounds.OfRows ms) ps = AllZip IsMult ps ms

-- the word of why a search stopped, and the pieces behind it
abbrev pub cause_head : why.Cause → CauseWord
cause_head causes.Killed = reasons.Killed
cause_head (causes.NodeLimit n) = reasons.NodeLimit
cause_head (causes.TurnLimit n) = reasons.TurnLimit
cause_head causes.Gap = reasons.Gap
cause_head (causes.TimeLimit x) = reasons.TimeLimit
cause_head (causes.Wide p) = reasons.Wide
cause_head causes.Length = reasons.Length
cause_head causes.Memory = reasons.Memory

abbrev pub SaysCause : why.Cause → List (List ℕ) → Type 0
SaysCause (causes.NodeLimit n) ps = IsOne ps n
SaysCause (causes.TurnLimit n) ps = IsOne ps n
SaysCause (causes.TimeLimit x) ps = IsOneFraction ps x
SaysCause (causes.Wide p) ps = IsPlace ps p
SaysCause c ps = ps ≡ []

-- it is of this word, and said by what stands behind
abbrev pub IsSaidBehind : {W X : Type 0} → (X → W) → (X → List (List ℕ) → Type 0) → W → List (List ℕ) → X → Type 0
IsSaidBehind {W} {X} head Says w ps x = (head x ≡ w) × Says x ps

-- pieces of which the first is the word
abbrev pub BeginsWithWord : {W X : Type 0} → (W → List ℕ) → (X → W) → (X → List (List ℕ) → Type 0) → List (List ℕ) → X → Type 0
BeginsWithWord {W} {X} word head Says [] x = ⊥
BeginsWithWord {W} {X} word head Says (p ∷ ps) x = (p ≡ word (head x)) × Says x ps

abbrev pub IsTreeItem : List ℕ → TreeItem → Type 0
IsTreeItem text i = BeginsWithWord node_word tree_head SaysTree (pieces text) i

abbrev pub IsRound : List ℕ → Round → Type 0
IsRound text r = BeginsWithWord round_word round_head SaysRound (pieces text) r

abbrev pub IsCause : List ℕ → why.Cause → Type 0
IsCause text c = BeginsWithWord cause_word cause_head SaysCause (pieces text) c

-- pieces that begin a level whose number is written, and isn't l
abbrev pub IsLevelBut : ℕ → List (List ℕ) → Type 0
IsLevelBut l (p ∷ k ∷ []) = (p ≡ node_word heads.Level) × (x : Ratio) × WritesNumber Index k x × (x ≡ whole (pos l) → ⊥)
IsLevelBut l ps = ⊥

-- an item of a tree that begins a level out of order, where l comes next
abbrev pub IsOutOfOrder : ℕ → Part → List ℕ → Type 0
IsOutOfOrder l Tree text = IsLevelBut l (pieces text)
IsOutOfOrder l p text = ⊥
