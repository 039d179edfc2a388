-- What an item of a certificate's part adds to what its part holds, and what is kept in mind of it.
use Rattle.std.specs.Prelude.{◌≡◌, ◌⊎◌, ℕ, Bool, true, ◌&&◌, Option, None, Some, Result, Ok, Err, List, [], ◌∷◌, ◌++◌}
use Rattle.fraction.specs.declared.frac.Frac.{Frac}
use Rattle.certificate.specs.declared.nodes.Round.{Round}
use Rattle.certificate.specs.declared.causes.Cause as why
use Rattle.osrl_grammar.specs.declared.held.Held.{Held}
use Rattle.osrl_writing.specs.declared.parts.Part.{Part}
use Rattle.osrl_writing.specs.declared.parts.Part.TheVariants.{Point, Value, Ray, Cause, Bound, Rounds, Tree}
use Rattle.osrl_grammar.specs.declared.parts.Misread.{Misread}
use Rattle.osrl_grammar.specs.declared.parts.Misread.TheVariants.{NoShape}
use Rattle.osrl_grammar.specs.declared.parts.BadItem.{BadItem}
use Rattle.osrl_grammar.specs.declared.parts.TreeItem.{TreeItem}
use Rattle.osrl_grammar.specs.declared.parts.TreeItem.TheVariants as trees
use Rattle.osrl_grammar.specs.Items.{item_fields, is_level, ReadsTexts}
use Rattle.osrl_grammar.specs.Values.{IsFraction, IsRound, IsTreeItem, IsCause, IsOutOfOrder}
use Rattle.osrl_grammar.specs.ParseState.{State, emptied}
use Rattle.osrl_grammar.specs.Saying.{cert, next_level, has_one_level}

-- a node is added to the latest level, or a level begins behind it
abbrev pub with_tree_item : TreeItem → Held → Held
with_tree_item (trees.Node n) h = record h { tree = h.tree ++ n ∷ [] }
with_tree_item (trees.Level l) h = record h { levels = h.levels ++ cert [] h.tree ∷ []; tree = [] }

-- an item of this text stands for what it says, and is added to those of its part
abbrev pub AddsItem : Part → (said : List ℕ) → Held → Held → Type 0
AddsItem Point said h k = (x : Frac) × IsFraction said x × (k ≡ record h { point = h.point ++ x ∷ [] })
AddsItem Value said h k = (x : Frac) × IsFraction said x × (k ≡ record h { values = h.values ++ x ∷ [] })
AddsItem Ray said h k = (x : Frac) × IsFraction said x × (k ≡ record h { ray = h.ray ++ x ∷ [] })
AddsItem Cause said h k = (c : why.Cause) × IsCause said c × (k ≡ record h { causes = h.causes ++ c ∷ [] })
AddsItem Bound said h k = (x : Frac) × IsFraction said x × (k ≡ record h { bounds = h.bounds ++ x ∷ [] })
AddsItem Rounds said h k = (r : Round) × IsRound said r × (k ≡ record h { rounds = h.rounds ++ r ∷ [] })
AddsItem Tree said h k = (i : TreeItem) × IsTreeItem said i × (k ≡ with_tree_item i h)

-- WHAT IS READ OF AN ITEM: what the parts hold then, or what is wrong with it; a level out of order isn't of its shape
abbrev pub IsItemRead : Part → (said : List ℕ) → Held → Result Held Misread → Type 0
IsItemRead p said h r = (IsOutOfOrder (next_level h) p said × (r ≡ Err NoShape)) ⊎ ((IsOutOfOrder (next_level h) p said → ⊥) × ReadsTexts (item_fields p said) r (λ k. AddsItem p said h k))

-- the number of the first item that begins with the word of a level, where the solution may speak of one level
abbrev pub first_level : Bool → Option ℕ → ℕ → Option ℕ
first_level true None n = Some n
first_level b old n = old

abbrev pub noted : State → Part → State
noted s p = record s { level = first_level (has_one_level true true s.claiming && is_level p s.text) s.level s.count }

-- what the parts hold then; or the first item that isn't read, and no item is held any more
abbrev pub with_read : State → Result Held Misread → State
with_read s (Ok k) = record s { held = k }
with_read s (Err u) = record s { bad = Some (record { misread = u; number = s.count }); held = emptied s.held }

-- WHAT AN ITEM LEAVES; behind one that isn't read it says nothing
abbrev pub AfterItem : Option BadItem → State → Part → State → Type 0
AfterItem (Some b) s p z = z ≡ s
AfterItem None s p z = (r : Result Held Misread) × IsItemRead p s.text s.held r × (z ≡ with_read (noted s p) r)
