-- A mark that is taken leaves one state.
use Rattle.osrl_grammar.proofs.Names.{◌≡◌, ◌∙◌, inl, inr, ℕ, Option, None, Some, Result, Ok, Err, List, [], ◌∷◌, ◌++◌, refl, ap, sym, AllPass, Frac, TreeItem, BadItem, Misread, NoShape, NoNumber, TooGreat, Field, IsBad, IsTooGreat, ReadsTexts, item_fields, IsItemRead, AfterItem, noted, with_read, with_tree_item, Report, Held, To, Over, OtherRoot, Part, State, start, begins, ends, kind, AddsItem, Ends, Leaves, osrl, Kind, Round}
use Rattle.tag_tests.specs.Fields.{OneFirst}
use Rattle.tag_tests.specs.Forms.{LeavesOne}
use Rattle.certificate.specs.declared.causes.Cause as why
use Rattle.osrl_grammar.specs.declared.elements.Place.{Place}
use Rattle.osrl_grammar.specs.declared.elements.Place.TheVariants as places
use Rattle.osrl_writing.specs.declared.parts.Part.TheVariants as parts
use Rattle.osrl_grammar.specs.Leaving.{out_of}
use Rattle.osrl_grammar.proofs.OneValue.{fraction_once, round_said_once, tree_said_once, cause_said_once}

-- of texts of which all pass, none is the first that doesn't
none_first : {X : Type 0} (P : X → Type 0) (fs : List X) → AllPass P fs → OneFirst P fs → ⊥
none_first P [] all one = one
none_first P (f ∷ fs) all (inl bad) = all.0 bad
none_first P (f ∷ fs) all (inr later) = none_first P fs all.1 later.1

added_once : (p : Part) (said : List ℕ) (h a b : Held) → AddsItem p said h a → AddsItem p said h b → a ≡ b
added_once parts.Point said h a b k l = k.2 ∙ ap (λ (x : Frac). let g : Held = record h { point = h.point ++ x ∷ [] } in g) (fraction_once said k.0 l.0 k.1 l.1) ∙ sym l.2
added_once parts.Value said h a b k l = k.2 ∙ ap (λ (x : Frac). let g : Held = record h { values = h.values ++ x ∷ [] } in g) (fraction_once said k.0 l.0 k.1 l.1) ∙ sym l.2
added_once parts.Ray said h a b k l = k.2 ∙ ap (λ (x : Frac). let g : Held = record h { ray = h.ray ++ x ∷ [] } in g) (fraction_once said k.0 l.0 k.1 l.1) ∙ sym l.2
added_once parts.Bound said h a b k l = k.2 ∙ ap (λ (x : Frac). let g : Held = record h { bounds = h.bounds ++ x ∷ [] } in g) (fraction_once said k.0 l.0 k.1 l.1) ∙ sym l.2
added_once parts.Rounds said h a b k l = k.2 ∙ ap (λ (x : Round). let g : Held = record h { rounds = h.rounds ++ x ∷ [] } in g) (round_said_once said k.0 l.0 k.1 l.1) ∙ sym l.2
added_once parts.Tree said h a b k l = k.2 ∙ ap (λ (x : TreeItem). with_tree_item x h) (tree_said_once said k.0 l.0 k.1 l.1) ∙ sym l.2
added_once parts.Cause said h a b k l = k.2 ∙ ap (λ (x : why.Cause). let g : Held = record h { causes = h.causes ++ x ∷ [] } in g) (cause_said_once said k.0 l.0 k.1 l.1) ∙ sym l.2

-- what is read of texts that pass, or not, is one thing
reads_once : (o : Option (List Field)) (P : Held → Type 0) → ((a b : Held) → P a → P b → a ≡ b) → (r q : Result Held Misread) → ReadsTexts o r P → ReadsTexts o q P → r ≡ q
reads_once None P one r q h g = h ∙ sym g
reads_once (Some fs) P one (Ok a) (Ok b) h g = ap (λ (k : Held). let t : Result Held Misread = Ok k in t) (one a b h.2 g.2)
reads_once (Some fs) P one (Ok a) (Err NoShape) h g = absurd g
reads_once (Some fs) P one (Ok a) (Err NoNumber) h g = absurd (none_first IsBad fs h.0 g)
reads_once (Some fs) P one (Ok a) (Err TooGreat) h g = absurd (none_first IsTooGreat fs h.1 g.1)
reads_once (Some fs) P one (Err NoShape) q h g = absurd h
reads_once (Some fs) P one (Err NoNumber) (Ok b) h g = absurd (none_first IsBad fs g.0 h)
reads_once (Some fs) P one (Err NoNumber) (Err NoShape) h g = absurd g
reads_once (Some fs) P one (Err NoNumber) (Err NoNumber) h g = refl
reads_once (Some fs) P one (Err NoNumber) (Err TooGreat) h g = absurd (none_first IsBad fs g.0 h)
reads_once (Some fs) P one (Err TooGreat) (Ok b) h g = absurd (none_first IsTooGreat fs g.1 h.1)
reads_once (Some fs) P one (Err TooGreat) (Err NoShape) h g = absurd g
reads_once (Some fs) P one (Err TooGreat) (Err NoNumber) h g = absurd (none_first IsBad fs h.0 g)
reads_once (Some fs) P one (Err TooGreat) (Err TooGreat) h g = refl

item_once : (p : Part) (said : List ℕ) (h : Held) (r q : Result Held Misread) → IsItemRead p said h r → IsItemRead p said h q → r ≡ q
item_once p said h r q (inl a) (inl b) = a.1 ∙ sym b.1
item_once p said h r q (inl a) (inr b) = absurd (b.0 a.0)
item_once p said h r q (inr a) (inl b) = absurd (a.0 b.0)
item_once p said h r q (inr a) (inr b) = reads_once (item_fields p said) (λ (k : Held). AddsItem p said h k) (added_once p said h) r q a.1 b.1

item_left_once : (o : Option BadItem) (s : State) (p : Part) (a b : State) → AfterItem o s p a → AfterItem o s p b → a ≡ b
item_left_once (Some x) s p a b k l = k ∙ sym l
item_left_once None s p a b k l = k.2 ∙ ap (with_read (noted s p)) (item_once p s.text s.held k.0 l.0 k.1 l.1) ∙ sym l.2

ended_once : (s : State) (p : Place) (a b : State) → Ends s p a → Ends s p b → a ≡ b
ended_once s (places.Item p) a b k l = item_left_once s.bad (out_of s (places.Item p)) p a b k l
ended_once s places.Osrl a b k l = let same : Some k.0 ≡ Some l.0 = sym k.1 ∙ l.1 in k.2 ∙ ap (λ (r : Report). let z : State = record start { report = r } in z) (cc) ∙ sym l.2
ended_once s p a b k l = k ∙ sym l

left_once : (s : State) (k : Kind Place) (a b : State) → Leaves s k a → Leaves s k b → a ≡ b
left_once s (begins (To p) as') a b h g = h ∙ sym g
left_once s (begins Over as') a b h g = h ∙ sym g
left_once s (begins OtherRoot as') a b h g = absurd h
left_once s (ends p) a b h g = ended_once s p a b h g
left_once s k a b h g = h ∙ sym g

pub leaves_one : LeavesOne osrl
leaves_one s m a b h g = left_once s (kind s m) a b h.1 g.1
