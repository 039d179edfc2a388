-- The machine's state without where it lies in memory, and what completes a document from there.
use Rattle.std.specs.Prelude.{◌≡◌, ℕ, List, [], ◌∷◌, ◌++◌, Bool, true, false, map, reverse, drop, ◌↔◌, ◌⊎◌, ◌≤◌, ◌<◌, ◌-◌, ◌≢◌, length, encode_utf8}
use Rattle.std.specs.Char.{IsScalar}
use Rattle.tree_grammar.specs.Elements.{Attribute}
use Rattle.tree_grammar.specs.Characters.{IsSpace, Each, IsNameStart, IsQName, local_part}
use Rattle.tree_grammar.specs.Tags.{IsAmong, IsQuote}
use Rattle.tree_grammar.specs.Declaration.{IsEncodingName, IsUtf8Name}
use Rattle.element_tree.specs.Building.{said}
use Rattle.doc_tree.specs.Marks.{Mark, Start, Char, Finish, spread}
use Rattle.doc_tree.specs.Rests.{TreeTerms, Then, Word, QuoteRest, RefRest, DigitRest, NumeralRest, IsNameRest, CommentRest, SectionRest, pending_brackets, PiText, PiOver, FirstOver, EndRest, Saying, Or, Never, TagRest, BodyRest, AttributeValue, KeyOver, KeyRest, After, depth_left, keep, Between, Before, FieldValue, FieldOver, IsValueBegun, Choice, Gap, Marked, Whole}
use Rattle.doc_tree.specs.declared.names.Part.{Part}
use Rattle.doc_tree.specs.declared.names.Part.TheVariants as parts
use Rattle.doc_tree.specs.declared.machine.Round.{Round}
use Rattle.doc_tree.specs.declared.machine.Round.TheVariants as rounds
use Rattle.doc_tree.specs.declared.declaration.Field.{Field}
use Rattle.doc_tree.specs.declared.declaration.Field.TheVariants as fields
use Rattle.doc_tree.specs.declared.machine.Goal.{Goal}
use Rattle.doc_tree.specs.declared.machine.Goal.TheVariants as goals
use Rattle.doc_tree.specs.declared.machine.Place.{Place}
use Rattle.doc_tree.specs.declared.machine.Place.TheVariants as places
use Rattle.doc_tree.specs.declared.machine.Machine.{Machine}

-- Where the machine stands, what it holds of the text that is read, and what it has told so far.
pub record MachineState : Type 0 where
  pub place : Place
  pub round : Round
  pub names : List (List ℕ)
  pub field : Field
  pub left : List ℕ
  pub goal : Goal
  pub name : List ℕ
  pub keys : List (List ℕ)
  pub part : Part
  pub key : List ℕ
  pub quote : ℕ
  pub value : List ℕ
  pub count : ℕ
  pub in_value : Bool
  pub number : ℕ
  pub radix : ℕ
  pub kept : List Attribute
  pub marks : List Mark

-- The machine's state: its open elements are listed with the innermost first.
abbrev pub view : Machine → MachineState
view m = record {
  place = m.place;
  round = m.round;
  names = reverse (map (λ v. v.items) m.names.items);
  field = m.field;
  left = drop m.matched m.word.items;
  goal = m.goal;
  name = m.name.items;
  keys = m.keys;
  part = m.part;
  key = m.key.items;
  quote = m.quote;
  value = m.value.items;
  count = m.brackets;
  in_value = m.in_value;
  number = m.number;
  radix = m.radix;
  kept = m.builder.attributes;
  marks = spread (said m.builder);
}

-- In the content of an element.
abbrev pub Insides : ℕ → List (List ℕ) → TreeTerms → List ℕ → List Mark → Type 0
Insides count [] t = Never
Insides count (name ∷ names) t = Between count (name ∷ names) t

-- In an end tag, behind the innermost element's name.
abbrev pub EndOver : List (List ℕ) → TreeTerms → List ℕ → List Mark → Type 0
EndOver [] t bytes marks = ⊥
EndOver (name ∷ names) t bytes marks = EndRest name (Between 0 names t) bytes marks

-- In the start tag that is read.
abbrev pub InTag : MachineState → List ℕ → TreeTerms → List ℕ → List Mark → Type 0
InTag s name t = TagRest (depth_left t s.names - 1) name s.keys s.kept (Between 0 s.names t)

-- In its attribute that is read, behind the name.
abbrev pub InKey : MachineState → TreeTerms → List ℕ → List ℕ → List Mark → Type 0
InKey s t key = KeyRest (depth_left t s.names - 1) s.name s.keys s.kept (Between 0 s.names t) key

-- The same behind the whole name.
abbrev pub BehindKey : MachineState → TreeTerms → List ℕ → List Mark → Type 0
BehindKey s t = InKey s t s.key

-- Behind its white space.
abbrev pub InBody : MachineState → TreeTerms → List ℕ → List Mark → Type 0
InBody s t = BodyRest (depth_left t s.names - 1) s.name s.kept (Between 0 s.names t)

-- Behind white space in it: an attribute, or the tag's end.
abbrev pub TagChoice : MachineState → TreeTerms → List ℕ → List Mark → Type 0
TagChoice s t = Or (InBody s t) (Then IsQName (InKey s t))

-- In its value, behind this much of what it says.
abbrev pub InValue : MachineState → List ℕ → TreeTerms → List ℕ → List Mark → Type 0
InValue s before t = AttributeValue (depth_left t s.names - 1) s.name s.keys s.kept (Between 0 s.names t) s.key s.quote before

-- Behind the attribute that is read, whose value this is.
abbrev pub BehindValue : MachineState → List ℕ → TreeTerms → List ℕ → List Mark → Type 0
BehindValue s value t = TagRest (depth_left t s.names - 1) s.name (s.keys ++ (s.key ∷ [])) (keep s.key value s.kept) (Between 0 s.names t)

-- Behind the attribute that is read, whose name is now among those of its tag.
abbrev pub HoldsKey : MachineState → MachineState → Type 0
HoldsKey old new = new ≡ record old { place = places.TagAfter; keys = old.keys ++ (old.key ∷ []); key = [] }

-- Behind a reference in content that stands for these characters.
abbrev pub SaidByReference : List (List ℕ) → TreeTerms → List ℕ → List ℕ → List Mark → Type 0
SaidByReference names t chars = Saying (map Char chars) (Insides 0 names t)

-- Behind a reference that stands for these characters.
abbrev pub Behind : Bool → MachineState → TreeTerms → List ℕ → List ℕ → List Mark → Type 0
Behind true s t chars = InValue s (s.value ++ chars) t
Behind false s t chars = SaidByReference s.names t chars

-- The same where the state knows where it stands.
abbrev pub BehindReference : MachineState → List ℕ → TreeTerms → List ℕ → List Mark → Type 0
BehindReference s chars t = Behind s.in_value s t chars

-- Behind an empty-element tag.
abbrev pub Emptied : MachineState → TreeTerms → List ℕ → List Mark → Type 0
Emptied s t = Saying (Start (local_part s.name) s.kept ∷ Finish (local_part s.name) ∷ []) (Between 0 s.names t)

-- Behind a comment, an instruction or a section.
abbrev pub Around : Round → List (List ℕ) → TreeTerms → List ℕ → List Mark → Type 0
Around rounds.Prolog names t = Before t
Around rounds.Content names t = Insides 0 names t
Around rounds.Epilog names t = After t

-- Behind the name of the instruction that is read.
abbrev pub PiNamed : MachineState → TreeTerms → List ℕ → List Mark → Type 0
PiNamed s t = PiOver s.name (Around s.round s.names t)

-- In a reference's digits, with this value so far.
abbrev pub InNumeral : ℕ → ℕ → MachineState → TreeTerms → List ℕ → List Mark → Type 0
InNumeral radix number s t = NumeralRest radix number (Behind s.in_value s t)

-- Behind the fixed text that is read.
abbrev pub ReachesGoal : Goal → MachineState → TreeTerms → List ℕ → List Mark → Type 0
ReachesGoal goals.Marked s t = Marked t
ReachesGoal goals.Field s t = FieldOver t s.field (Gap s.field t)
ReachesGoal goals.Prolog s t = Before t
ReachesGoal goals.EmptyTag s t = Emptied s t
ReachesGoal goals.EndName s t = EndOver s.names t
ReachesGoal goals.Comment s t = CommentRest (Around s.round s.names t)
ReachesGoal goals.Section s t = SectionRest 0 (Insides 0 s.names t)
ReachesGoal goals.Around s t = Around s.round s.names t
ReachesGoal goals.Entity s t = Behind s.in_value s t (encode_utf8 s.number)

-- The bytes and marks that complete a document from here.
abbrev pub RestsAt : Place → MachineState → TreeTerms → List ℕ → List Mark → Type 0
RestsAt places.Start s t bytes = Whole t bytes
RestsAt places.Marked s t bytes = Marked t bytes
RestsAt places.FirstLess s t bytes = Marked t (60 ∷ bytes)
RestsAt places.Prolog s t bytes = Before t bytes
RestsAt places.PrologLess s t bytes = Before t (60 ∷ bytes)
RestsAt places.FieldGap s t bytes = Gap s.field t bytes
RestsAt places.FieldSpace s t bytes = Then (Each IsSpace) (λ _. Choice s.field t) bytes
RestsAt places.FieldEquals s t bytes = FieldOver t s.field (Gap s.field t) bytes
RestsAt places.FieldQuote s t bytes = QuoteRest (FieldValue t s.field (Gap s.field t) []) bytes
RestsAt places.FieldValue s t bytes = FieldValue t s.field (Gap s.field t) s.value s.quote bytes
RestsAt places.Word s t bytes = Word s.left (ReachesGoal s.goal s t) bytes
RestsAt places.TagName s t bytes = Then (IsNameRest s.part) (λ run. InTag s (s.name ++ run) t) bytes
RestsAt places.TagAfter s t bytes = InTag s s.name t bytes
RestsAt places.TagSpace s t bytes = Then (Each IsSpace) (λ _. TagChoice s t) bytes
RestsAt places.Key s t bytes = Then (IsNameRest s.part) (λ run. InKey s t (s.key ++ run)) bytes
RestsAt places.KeyEquals s t bytes = KeyOver (depth_left t s.names - 1) s.name s.keys s.kept (Between 0 s.names t) s.key bytes
RestsAt places.KeyQuote s t bytes = QuoteRest (λ quote. AttributeValue (depth_left t s.names - 1) s.name s.keys s.kept (Between 0 s.names t) s.key quote []) bytes
RestsAt places.Value s t bytes = InValue s s.value t bytes
RestsAt places.Content s t bytes = Insides s.count s.names t bytes
RestsAt places.ContentLess s t bytes = Insides 0 s.names t (60 ∷ bytes)
RestsAt places.EndSpace s t bytes = EndOver s.names t bytes
RestsAt places.Ampersand s t bytes = RefRest (Behind s.in_value s t) bytes
RestsAt places.AmpersandA s t bytes = RefRest (Behind s.in_value s t) (97 ∷ bytes)
RestsAt places.Hash s t bytes = RefRest (Behind s.in_value s t) (35 ∷ bytes)
RestsAt places.NoDigit s t bytes = InNumeral s.radix 0 s t bytes
RestsAt places.Digit s t bytes = DigitRest s.radix s.number (Behind s.in_value s t) bytes
RestsAt places.Epilog s t bytes = After t bytes
RestsAt places.EpilogLess s t bytes = After t (60 ∷ bytes)
RestsAt places.Bang s t bytes = Around s.round s.names t (60 ∷ 33 ∷ bytes)
RestsAt places.Comment s t bytes = CommentRest (Around s.round s.names t) bytes
RestsAt places.CommentDash s t bytes = CommentRest (Around s.round s.names t) (45 ∷ bytes)
RestsAt places.Section s t bytes = SectionRest 0 (Insides 0 s.names t) (pending_brackets s.count bytes)
RestsAt places.FirstQuestion s t bytes = Marked t (60 ∷ 63 ∷ bytes)
RestsAt places.FirstName s t bytes = Then (IsNameRest parts.Local) (λ run. FirstOver (s.name ++ run) t) bytes
RestsAt places.Question s t bytes = Around s.round s.names t (60 ∷ 63 ∷ bytes)
RestsAt places.PiName s t bytes = Then (IsNameRest parts.Local) (λ run. PiOver (s.name ++ run) (Around s.round s.names t)) bytes
RestsAt places.PiText s t bytes = PiText (Around s.round s.names t) bytes
RestsAt places.PiMark s t bytes = PiText (Around s.round s.names t) (63 ∷ bytes)

-- Behind these marks.
pub record GoesBehind (before : List Mark) (K : List ℕ → List Mark → Type 0) (bytes : List ℕ) (says : List Mark) : Type 0 where
  pub later : List Mark
  pub whole : says ≡ before ++ later
  pub rest : K bytes later

-- The rest of the bytes with which the document says all of this.
abbrev pub Completes : MachineState → TreeTerms → List ℕ → List Mark → Type 0
Completes s t = GoesBehind s.marks (RestsAt s.place s t)

-- a printable character of ASCII
abbrev pub IsPrintable : ℕ → Type 0
IsPrintable c = (32 ≤ c) × (c ≤ 126)

-- names of such characters
abbrev pub ArePrintable : List (List ℕ) → Type 0
ArePrintable [] = Unit {0}
ArePrintable (name ∷ names) = Each IsPrintable name × ArePrintable names

-- In an element.
abbrev pub InElement : List (List ℕ) → List Attribute → Type 0
InElement names kept = (kept ≡ []) × (names ≢ []) × ArePrintable names

-- In a start tag (XML 1.0, section 3.1).
abbrev pub GoodTag : MachineState → Type 0
GoodTag s = Each IsPrintable s.name × ArePrintable s.names

-- Before the root.
abbrev pub Outer : MachineState → Type 0
Outer s = (s.kept ≡ []) × (s.names ≡ [])

-- Where a comment or an instruction stands.
abbrev pub GoodRound : Round → List (List ℕ) → List Attribute → Type 0
GoodRound rounds.Prolog names kept = (kept ≡ []) × (names ≡ [])
GoodRound rounds.Content names kept = InElement names kept
GoodRound rounds.Epilog names kept = Unit {0}

-- In an attribute's value.
abbrev pub GoodValue : MachineState → Type 0
GoodValue s = (IsAmong s.key s.keys → ⊥) × IsQuote s.quote × GoodTag s

-- In a reference, in a value or in content (XML 1.0, section 4.1).
abbrev pub GoodReference : Bool → MachineState → Type 0
GoodReference true s = GoodValue s
GoodReference false s = InElement s.names s.kept

-- What holds where a fixed text that leads to this is read.
abbrev pub GoodGoal : Goal → MachineState → Type 0
GoodGoal goals.Field s = Outer s × (s.field ≢ fields.Before)
GoodGoal goals.EmptyTag s = GoodTag s
GoodGoal goals.EndName s = InElement s.names s.kept
GoodGoal goals.Comment s = GoodRound s.round s.names s.kept
GoodGoal goals.Section s = InElement s.names s.kept
GoodGoal goals.Around s = GoodRound s.round s.names s.kept
GoodGoal goals.Entity s = GoodReference s.in_value s × IsScalar s.number
GoodGoal _ s = Outer s

-- the rest of a fixed text: of the byte order mark, or of printable characters
abbrev pub IsFixed : Goal → List ℕ → Type 0
IsFixed goals.Marked left = (left ≡ 187 ∷ 191 ∷ []) ⊎ (left ≡ 191 ∷ [])
IsFixed _ left = Each IsPrintable left

-- In the byte order mark.
abbrev pub IsInMark : Place → Goal → Type 0
IsInMark places.Word goals.Marked = Unit {0}
IsInMark _ _ = ⊥

-- decimal or hexadecimal
abbrev pub IsRadix : ℕ → Type 0
IsRadix radix = (radix ≡ 10) ⊎ (radix ≡ 16)

-- what holds at each place of a machine that has been used as it should
abbrev pub Good : Place → MachineState → Type 0
Good places.Word s = (s.left ≢ []) × IsFixed s.goal s.left × GoodGoal s.goal s
Good places.TagName s = (s.kept ≡ []) × (s.keys ≡ []) × GoodTag s
Good places.TagAfter s = GoodTag s
Good places.TagSpace s = GoodTag s
Good places.Key s = GoodTag s
Good places.KeyEquals s = (IsAmong s.key s.keys → ⊥) × GoodTag s
Good places.KeyQuote s = (IsAmong s.key s.keys → ⊥) × GoodTag s
Good places.Value s = GoodValue s
Good places.FieldEquals s = Outer s × (s.field ≢ fields.Before)
Good places.FieldQuote s = Outer s × (s.field ≢ fields.Before)
Good places.FieldValue s = Outer s × IsQuote s.quote × IsValueBegun s.field s.value
Good places.Content s = InElement s.names s.kept
Good places.ContentLess s = InElement s.names s.kept
Good places.EndSpace s = InElement s.names s.kept
Good places.Ampersand s = GoodReference s.in_value s
Good places.AmpersandA s = GoodReference s.in_value s
Good places.Hash s = GoodReference s.in_value s
Good places.NoDigit s = IsRadix s.radix × (s.number ≡ 0) × GoodReference s.in_value s
Good places.Digit s = IsRadix s.radix × (s.number ≤ 1114111) × GoodReference s.in_value s
Good places.Epilog s = Unit {0}
Good places.EpilogLess s = Unit {0}
Good places.Bang s = GoodRound s.round s.names s.kept
Good places.Comment s = GoodRound s.round s.names s.kept
Good places.CommentDash s = GoodRound s.round s.names s.kept
Good places.Section s = InElement s.names s.kept × (s.count ≤ 2)
Good places.Question s = GoodRound s.round s.names s.kept
Good places.PiName s = GoodRound s.round s.names s.kept
Good places.PiText s = GoodRound s.round s.names s.kept
Good places.PiMark s = GoodRound s.round s.names s.kept
Good _ s = Outer s

-- before a field's or an attribute's `=`, and the place behind it
abbrev pub EqualsAt : MachineState → Place → Type 0
EqualsAt s to = ((s.place ≡ places.FieldEquals) × (to ≡ places.FieldQuote) × Outer s × (s.field ≢ fields.Before)) ⊎ ((s.place ≡ places.KeyEquals) × (to ≡ places.KeyQuote) × (IsAmong s.key s.keys → ⊥) × GoodTag s)

-- behind `<?`, and the place in the name
abbrev pub QuestionAt : MachineState → Place → Type 0
QuestionAt s to = ((s.place ≡ places.FirstQuestion) × (to ≡ places.FirstName) × Outer s) ⊎ ((s.place ≡ places.Question) × (to ≡ places.PiName) × GoodRound s.round s.names s.kept)

-- before a field's or an attribute's value, and the place in it
abbrev pub QuoteAt : MachineState → Place → Type 0
QuoteAt s to = ((s.place ≡ places.FieldQuote) × (to ≡ places.FieldValue) × Outer s × (s.field ≢ fields.Before)) ⊎ ((s.place ≡ places.KeyQuote) × (to ≡ places.Value) × (IsAmong s.key s.keys → ⊥) × GoodTag s)

-- The machine goes on wherever that many elements may stand in one another.
abbrev pub IsDepthAllowed : TreeTerms → Type 0
IsDepthAllowed t = 32 ≤ t.depth

-- From what completes this, the machine takes the byte: behind it all stays the same. No byte of ASCII leads into the byte order mark.
pub record FollowsByte (before : List Mark) (K : TreeTerms → List ℕ → List Mark → Type 0) (b : ℕ) (new : MachineState) : Type 0 where
  pub good : Good new.place new
  pub unmarked : b < 128 → IsInMark new.place new.goal → ⊥
  pub same : (t : TreeTerms) → IsDepthAllowed t → (bytes : List ℕ) (says : List Mark) → GoesBehind before (K t) (b ∷ bytes) says ↔ Completes new t bytes says

-- Nothing that begins with this byte completes it.
pub record Stuck (K : TreeTerms → List ℕ → List Mark → Type 0) (b : ℕ) : Type 0 where
  pub none : (t : TreeTerms) → IsDepthAllowed t → (bytes : List ℕ) (marks : List Mark) → K t (b ∷ bytes) marks → ⊥

-- An element begins in as many as may stand in one another.
abbrev pub IsDeep : MachineState → ℕ → Type 0
IsDeep s b = (s.place ≡ places.ContentLess) × (32 ≤ length s.names) × IsNameStart b

-- The declaration's encoding ends here, and isn't one that is read.
abbrev pub IsOther : MachineState → ℕ → Type 0
IsOther s b = (s.place ≡ places.FieldValue) × (s.field ≡ fields.Encoding) × (b ≡ s.quote) × IsEncodingName s.value × (IsUtf8Name s.value → ⊥)

-- A document type begins.
abbrev pub IsDoctype : MachineState → ℕ → Type 0
IsDoctype s b = (s.place ≡ places.Bang) × (s.round ≡ rounds.Prolog) × (b ≡ 68)

-- No element that is too deep begins, no such encoding ends, and no document type begins.
abbrev pub IsPlainByte : MachineState → ℕ → Type 0
IsPlainByte s b = (IsDeep s b → ⊥) × (IsOther s b → ⊥) × (IsDoctype s b → ⊥)

-- What completes this is what completes the machine.
pub record ReachesState (before : List Mark) (K : TreeTerms → List ℕ → List Mark → Type 0) (new : MachineState) : Type 0 where
  pub good : Good new.place new
  pub unmarked : IsInMark new.place new.goal → ⊥
  pub same : (t : TreeTerms) → IsDepthAllowed t → (bytes : List ℕ) (says : List Mark) → GoesBehind before (K t) bytes says ↔ Completes new t bytes says

-- What completes the state is what continues the bytes.
pub record RunsOn (s : MachineState) (bytes : List ℕ) : Type 0 where
  pub good : Good s.place s
  pub same : (t : TreeTerms) → IsDepthAllowed t → (rest : List ℕ) (says : List Mark) → Whole t (bytes ++ rest) says ↔ Completes s t rest says
