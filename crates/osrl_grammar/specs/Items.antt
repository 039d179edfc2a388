-- The items of a certificate's parts: the texts in them that stand for numbers, where they have their shapes. The form is the project's own.
use Rattle.std.specs.Prelude.{◌≡◌, ℕ, Bool, false, Option, None, Some, option_map, bytes_eq, Result, Ok, Err, List, [], ◌∷◌, ◌++◌, codes}
use Rattle.certificate.specs.declared.causes.Step.{Step}
use Rattle.certificate.specs.declared.causes.Step.TheVariants as steps
pub use Rattle.certificate.specs.Words.{step_text}
use Rattle.tag_tests.specs.Tests.{AllPass}
use Rattle.tag_tests.specs.Fields.{OneFirst}
use Rattle.osrl_writing.specs.declared.parts.Part.{Part}
use Rattle.osrl_writing.specs.declared.parts.Part.TheVariants.{Rounds, Tree, Cause}
use Rattle.osrl_grammar.specs.declared.parts.NodeWord.{NodeWord}
use Rattle.osrl_grammar.specs.declared.parts.NodeWord.TheVariants as nodes
use Rattle.osrl_grammar.specs.declared.parts.RoundWord.{RoundWord}
use Rattle.osrl_grammar.specs.declared.parts.RoundWord.TheVariants as rounds
use Rattle.osrl_grammar.specs.declared.parts.CauseWord.{CauseWord}
use Rattle.osrl_grammar.specs.declared.parts.CauseWord.TheVariants as causes
use Rattle.osrl_grammar.specs.declared.parts.Misread.{Misread}
use Rattle.osrl_grammar.specs.declared.parts.Misread.TheVariants.{NoShape, NoNumber, TooGreat}
use Rattle.tag_tests.specs.declared.numbers.Unread.{Unread}
use Rattle.tag_tests.specs.declared.numbers.Unread.TheVariants.{NotNumber, Wide}
use Rattle.osrl_grammar.specs.Words.{worded}
use Rattle.osrl_grammar.specs.Numbers.{NumberKind, Index, Turn, Whole, Exact, Field, IsBad, IsTooGreat}
use Rattle.osrl_grammar.specs.Pieces.{pieces, Pair, parted}

-- the words of nodes and of what begins a level, of rounds, and of causes; steps have theirs
abbrev pub node_word : NodeWord → List ℕ
node_word nodes.Split = codes "split"
node_word nodes.Zero = codes "zero"
node_word nodes.Clash = codes "clash"
node_word nodes.Farkas = codes "farkas"
node_word nodes.Bound = codes "bound"
node_word nodes.Grid = codes "grid"
node_word nodes.FarkasRows = codes "farkasRows"
node_word nodes.BoundRows = codes "boundRows"
node_word nodes.GridRows = codes "gridRows"
node_word nodes.Level = codes "level"

abbrev pub all_node_words : List NodeWord
all_node_words = nodes.Split ∷ nodes.Zero ∷ nodes.Clash ∷ nodes.Farkas ∷ nodes.Bound ∷ nodes.Grid ∷ nodes.FarkasRows ∷ nodes.BoundRows ∷ nodes.GridRows ∷ nodes.Level ∷ []

abbrev pub round_word : RoundWord → List ℕ
round_word rounds.Whole = codes "round"
round_word rounds.OfRows = codes "roundRows"

abbrev pub all_round_words : List RoundWord
all_round_words = rounds.Whole ∷ rounds.OfRows ∷ []

abbrev pub cause_word : CauseWord → List ℕ
cause_word causes.Killed = codes "killed"
cause_word causes.NodeLimit = codes "nodeLimit"
cause_word causes.TurnLimit = codes "turnLimit"
cause_word causes.Gap = codes "gap"
cause_word causes.TimeLimit = codes "timeLimit"
cause_word causes.Wide = codes "wide"
cause_word causes.Length = codes "length"
cause_word causes.Memory = codes "memory"

abbrev pub all_cause_words : List CauseWord
all_cause_words = causes.Killed ∷ causes.NodeLimit ∷ causes.TurnLimit ∷ causes.Gap ∷ causes.TimeLimit ∷ causes.Wide ∷ causes.Length ∷ causes.Memory ∷ []

abbrev pub all_steps : List Step
all_steps = steps.Values ∷ steps.Ratio ∷ steps.Pivot ∷ steps.Point ∷ steps.Ray ∷ steps.Round ∷ steps.Check ∷ []

abbrev pub field : NumberKind → List ℕ → Field
field kind text = record { kind = kind; text = text }

-- THE TEXTS FOR NUMBERS, in their order, in pieces behind a word; none where the pieces aren't of such a shape
abbrev pub no_field : List (List ℕ) → Option (List Field)
no_field [] = Some []
no_field ps = None

abbrev pub one_field : NumberKind → List (List ℕ) → Option (List Field)
one_field k (a ∷ []) = Some (field k a ∷ [])
one_field k ps = None

abbrev pub two_fields : NumberKind → NumberKind → List (List ℕ) → Option (List Field)
two_fields k l (a ∷ b ∷ []) = Some (field k a ∷ field l b ∷ [])
two_fields k l ps = None

-- a column, a colon, and its multiplier
abbrev pub pair_fields : Pair → List Field
pair_fields p = field Index p.column ∷ field Exact p.factor ∷ []

abbrev pub mult_fields : List ℕ → Option (List Field)
mult_fields piece = option_map pair_fields (parted piece)

abbrev pub with_fields : Option (List Field) → Option (List Field) → Option (List Field)
with_fields (Some fs) (Some gs) = Some (fs ++ gs)
with_fields fs gs = None

abbrev pub mults_fields : List (List ℕ) → Option (List Field)
mults_fields [] = Some []
mults_fields (p ∷ ps) = with_fields (mult_fields p) (mults_fields ps)

-- a step, and then multipliers
abbrev pub grid_fields : List (List ℕ) → Option (List Field)
grid_fields [] = None
grid_fields (s ∷ ps) = with_fields (Some (field Exact s ∷ [])) (mults_fields ps)

-- a node, a turn, and the word of a step
abbrev pub place_fields : List (List ℕ) → Option (List Field)
place_fields (n ∷ t ∷ s ∷ []) = option_map (λ step. field Index n ∷ field Turn t ∷ []) (worded step_text all_steps s)
place_fields ps = None

abbrev pub node_behind : NodeWord → List (List ℕ) → Option (List Field)
node_behind nodes.Split ps = two_fields Index Whole ps
node_behind nodes.Zero ps = one_field Index ps
node_behind nodes.Clash ps = one_field Index ps
node_behind nodes.Farkas ps = mults_fields ps
node_behind nodes.Bound ps = mults_fields ps
node_behind nodes.Grid ps = grid_fields ps
node_behind nodes.FarkasRows ps = mults_fields ps
node_behind nodes.BoundRows ps = mults_fields ps
node_behind nodes.GridRows ps = grid_fields ps
node_behind nodes.Level ps = one_field Index ps

abbrev pub round_behind : RoundWord → List (List ℕ) → Option (List Field)
round_behind rounds.Whole ps = mults_fields ps
round_behind rounds.OfRows ps = mults_fields ps

abbrev pub cause_behind : CauseWord → List (List ℕ) → Option (List Field)
cause_behind causes.Killed ps = no_field ps
cause_behind causes.NodeLimit ps = one_field Index ps
cause_behind causes.TurnLimit ps = one_field Index ps
cause_behind causes.Gap ps = no_field ps
cause_behind causes.TimeLimit ps = one_field Exact ps
cause_behind causes.Wide ps = place_fields ps
cause_behind causes.Length ps = no_field ps
cause_behind causes.Memory ps = no_field ps

-- of pieces that begin with one of these words
abbrev pub behind_word : {W : Type 0} → (W → List (List ℕ) → Option (List Field)) → Option W → List (List ℕ) → Option (List Field)
behind_word {W} behind None ps = None
behind_word {W} behind (Some w) ps = behind w ps

abbrev pub worded_fields : {W : Type 0} → (W → List ℕ) → List W → (W → List (List ℕ) → Option (List Field)) → List (List ℕ) → Option (List Field)
worded_fields {W} word all behind [] = None
worded_fields {W} word all behind (p ∷ ps) = behind_word behind (worded word all p) ps

-- of an item of a part
abbrev pub item_fields : Part → List ℕ → Option (List Field)
item_fields Rounds text = worded_fields round_word all_round_words round_behind (pieces text)
item_fields Tree text = worded_fields node_word all_node_words node_behind (pieces text)
item_fields Cause text = worded_fields cause_word all_cause_words cause_behind (pieces text)
item_fields p text = Some (field Exact text ∷ [])

-- what is wrong with the numbers, as it is told of the item
abbrev pub misread_of : Unread → Misread
misread_of NotNumber = NoNumber
misread_of Wide = TooGreat

-- what is wrong with a step and multipliers, of which the latter are misread
abbrev pub wrong_with : {A : Type 0} → Misread → Result A Unread → Misread
wrong_with {A} TooGreat (Err NotNumber) = NoNumber
wrong_with {A} m step = m

-- all of these texts were read, and say so; or this is wrong with the item
abbrev pub ReadsTexts : {A : Type 0} → Option (List Field) → Result A Misread → (A → Type 0) → Type 0
ReadsTexts {A} None r Says = r ≡ Err NoShape
ReadsTexts {A} (Some fs) (Ok a) Says = AllPass IsBad fs × AllPass IsTooGreat fs × Says a
ReadsTexts {A} (Some fs) (Err NoShape) Says = ⊥
ReadsTexts {A} (Some fs) (Err NoNumber) Says = OneFirst IsBad fs
ReadsTexts {A} (Some fs) (Err TooGreat) Says = AllPass IsBad fs × OneFirst IsTooGreat fs

-- an item that begins with the word of a level
abbrev pub begins_level : List (List ℕ) → Bool
begins_level [] = false
begins_level (p ∷ ps) = bytes_eq p (node_word nodes.Level)

abbrev pub is_level : Part → List ℕ → Bool
is_level Tree text = begins_level (pieces text)
is_level p text = false
