-- At each place of the machine some printable bytes complete a document.
use Rattle.doc_tree.proofs.Words.{After, Around, Attribute, AttributeValue, Before, Behind, Between, Bool, Char, Choice, CommentRest, Each, Emptied, EndsDeclaration, Field, FieldOver, FieldRest, FieldValue, Finish, FirstOver, Gap, GapRest, Goal, Good, GoodGoal, GoodReference, GoodRound, GoodTag, InBody, InKey, InTag, Insides, IsFieldValue, IsFixed, IsInMark, IsNameRest, IsPrintable, IsSpace, IsValueBegun, KeyOver, List, Mark, Marked, Never, Next1, Next2, Or, PiOver, PiRest, Place, ReachesGoal, RefRest, RestsAt, Round, Some1, Start, MachineState, TagChoice, TagRest, TreeTerms, Then, Valued, Whole, Word, [], any, arith, depth_left, encode_utf8, false, field_name, inl, inr, keep, local_part, map, refl, suc, true, ℕ, ◌++◌, ◌-◌, ◌∷◌, ◌≢◌, ◌≤◌}
use Rattle.doc_tree.specs.declared.declaration.Field.TheVariants as fields
use Rattle.doc_tree.specs.declared.names.Part.TheVariants as parts
use Rattle.doc_tree.specs.declared.machine.Round.TheVariants as rounds
use Rattle.doc_tree.specs.declared.machine.Goal.TheVariants as goals
use Rattle.doc_tree.specs.declared.machine.Place.TheVariants as places
use Rattle.doc_tree.proofs.ByteGrammar.{each_map, each_right, encoding_printable, field_printable, marked_plain, marked_question, printable_text, quote_printable}
use Rattle.doc_tree.proofs.MachineSteps.{around_dash, around_mark, begun_nothing, field_each}
use Rattle.doc_tree.proofs.Viability.Completions.{Completion, letters, letters_each, letters_part, letter_is, total, long_new, completes_behind, completes_map, completes_said, completes_word, completes_then, completes_quote, completes_equals, completes_value, completes_amp, completes_dash, completes_comment, completes_mark, completes_text, completes_pi, completes_named, completes_section, completes_body, completes_tag, completes_after, completes_between, completes_insides, completes_less, completes_over_end, completes_before, completes_before_less}
use Rattle.doc_tree.proofs.Viability.Numerals.{completes_digit, completes_numeral, completes_hash}

-- documents that may name any encoding
abbrev pub wide : ℕ → TreeTerms
wide depth = record { depth = depth; aim = any }

-- a fixed text other than the mark
pub fixed : (g : Goal) (left : List ℕ) → IsFixed g left → (IsInMark places.Word g → ⊥) → Each IsPrintable left
fixed goals.Marked left i n = absurd (n tt)
fixed _ left i n = i

module _ (depth : ℕ) (l : 1 ≤ depth) where
  abbrev t : TreeTerms
  t = wide depth

  before : Completion (Before t)
  before = completes_before t (omega arith)

  pub marked : Completion (Marked t)
  marked = completes_map (Before t) (Marked t) (λ x es. marked_plain t x es) before

  -- the declaration
  ends : Completion (EndsDeclaration t)
  ends = completes_word (63 ∷ 62 ∷ []) (Before t) (printable_text (63 ∷ 62 ∷ []) refl) before

  field_value : (f : Field) (K : List ℕ → List Mark → Type 0) (v : List ℕ) (quote : ℕ) → IsValueBegun f v → Each IsPrintable (quote ∷ []) → Completion K → Completion (FieldValue t f K v quote)
  field_value f K v quote b p c =
      let e = each_map _ IsPrintable encoding_printable (v ++ b.0) (field_each t f (v ++ b.0) b.1) in
      completes_then (λ more. IsFieldValue any f (v ++ more)) (λ more. Word (quote ∷ []) (Valued t f K (v ++ more))) b.0 b.1 (each_right IsPrintable v b.0 e) (completes_word (quote ∷ []) (Valued t f K (v ++ b.0)) p (completes_map K (Valued t f K (v ++ b.0)) (λ x es k. inl k) c))

  field_quoted : (f : Field) (K : List ℕ → List Mark → Type 0) → f ≢ fields.Before → Completion K → Completion (FieldValue t f K [] 34)
  field_quoted f K n c = field_value f K [] 34 (begun_nothing f n) (quote_printable 34 (inl refl)) c

  field_over : (f : Field) (K : List ℕ → List Mark → Type 0) → f ≢ fields.Before → Completion K → Completion (FieldOver t f K)
  field_over f K n c = completes_equals (FieldValue t f K []) (field_quoted f K n c)

  ends_gap : (K : List ℕ → List Mark → Type 0) → Completion (GapRest t K)
  ends_gap K = completes_map (EndsDeclaration t) (GapRest t K) (λ x es k. inl k) ends

  ends_choice : (K : List ℕ → List Mark → Type 0) → Completion (Or (EndsDeclaration t) K)
  ends_choice K = completes_map (EndsDeclaration t) (Or (EndsDeclaration t) K) (λ x es k. inl k) ends

  version : Completion (FieldRest t fields.Version (GapRest t (Next1 t)))
  version = completes_word (field_name fields.Version) (FieldOver t fields.Version (GapRest t (Next1 t))) (field_printable fields.Version) (field_over fields.Version (GapRest t (Next1 t)) (λ e. cc) (ends_gap (Next1 t)))

  choice : (f : Field) → Completion (Choice f t)
  choice fields.Before = completes_map (FieldRest t fields.Version (GapRest t (Next1 t))) (Choice fields.Before t) (λ x es k. inr k) version
  choice fields.Version = ends_choice (Next1 t)
  choice fields.Encoding = ends_choice (Next2 t)
  choice fields.Standalone = ends_choice Never

  gap : (f : Field) → Completion (Gap f t)
  gap fields.Before = completes_map (Then (Some1 IsSpace) (λ _. Choice fields.Before t)) (Gap fields.Before t) (λ x es k. inr k) (completes_then (Some1 IsSpace) (λ _. Choice fields.Before t) (32 ∷ []) (inl refl, tt) (printable_text (32 ∷ []) refl) (choice fields.Before))
  gap fields.Version = ends_gap (Next1 t)
  gap fields.Encoding = ends_gap (Next2 t)
  gap fields.Standalone = ends_gap Never

  -- what an instruction or a comment stands in
  pub around : (r : Round) (names : List (List ℕ)) (kept : List Attribute) → GoodRound r names kept → Completion (Around r names t)
  around rounds.Prolog names kept g = before
  around rounds.Content names kept g = completes_insides t 0 names g.1 g.2
  around rounds.Epilog names kept g = completes_after t

  bang : (r : Round) (names : List (List ℕ)) (kept : List Attribute) → GoodRound r names kept → Completion (λ x. Around r names t (60 ∷ 33 ∷ x))
  bang r names kept g =
      let w : Completion (Word (45 ∷ []) (CommentRest (Around r names t))) = completes_word (45 ∷ []) (CommentRest (Around r names t)) (printable_text (45 ∷ []) refl) (completes_comment (Around r names t) (around r names kept g)) in
      completes_behind (Word (45 ∷ []) (CommentRest (Around r names t))) (λ x. Around r names t (60 ∷ 33 ∷ x)) (45 ∷ []) (printable_text (45 ∷ []) refl) (λ x es k. (around_dash t r names x es).1 k) w

  question : (r : Round) (names : List (List ℕ)) (kept : List Attribute) → GoodRound r names kept → Completion (λ x. Around r names t (60 ∷ 63 ∷ x))
  question r names kept g = completes_map (PiRest (Around r names t)) (λ x. Around r names t (60 ∷ 63 ∷ x)) (λ x es k. (around_mark t r names x es).1 k) (completes_pi (Around r names t) (around r names kept g))

  -- tags
  pub tag : (s : MachineState) (name : List ℕ) (keys : List (List ℕ)) (kept : List Attribute) → GoodTag s → Completion (TagRest (depth_left t s.names - 1) name keys kept (Between 0 s.names t))
  tag s name keys kept g = completes_tag (depth_left t s.names - 1) name (Between 0 s.names t) (completes_between t 0 s.names g.1) keys kept

  value : (s : MachineState) (quote : ℕ) (v : List ℕ) → Each IsPrintable (quote ∷ []) → GoodTag s → Completion (AttributeValue (depth_left t s.names - 1) s.name s.keys s.kept (Between 0 s.names t) s.key quote v)
  value s quote v p g = completes_value quote v (λ w. TagRest (depth_left t s.names - 1) s.name (s.keys ++ (s.key ∷ [])) (keep s.key w s.kept) (Between 0 s.names t)) p (tag s s.name (s.keys ++ (s.key ∷ [])) (keep s.key (v ++ []) s.kept) g)

  key_value : (s : MachineState) (key : List ℕ) → GoodTag s → Completion (AttributeValue (depth_left t s.names - 1) s.name s.keys s.kept (Between 0 s.names t) key 34 [])
  key_value s key g = value (record s { key = key }) 34 [] (quote_printable 34 (inl refl)) g

  key_over : (s : MachineState) (key : List ℕ) → GoodTag s → Completion (KeyOver (depth_left t s.names - 1) s.name s.keys s.kept (Between 0 s.names t) key)
  key_over s key g = completes_equals (λ quote. AttributeValue (depth_left t s.names - 1) s.name s.keys s.kept (Between 0 s.names t) key quote []) (key_value s key g)

  key_new : (s : MachineState) → GoodTag s → Completion (InKey s t (s.key ++ letters (suc (total s.keys))))
  key_new s g = let key : List ℕ = s.key ++ letters (suc (total s.keys)) in completes_map (KeyOver (depth_left t s.names - 1) s.name s.keys s.kept (Between 0 s.names t) key) (InKey s t key) (λ x es k. record { new = long_new s.key s.keys; over = k }) (key_over s key g)

  emptied : (s : MachineState) → GoodTag s → Completion (Emptied s t)
  emptied s g = completes_said (Start (local_part s.name) s.kept ∷ Finish (local_part s.name) ∷ []) (Between 0 s.names t) (completes_between t 0 s.names g.1)

  -- references
  behind : (v : Bool) (s : MachineState) → GoodReference v s → (chars : List ℕ) → Completion (Behind v s t chars)
  behind true s g chars = value s s.quote (s.value ++ chars) (quote_printable s.quote g.1) g.2
  behind false s g chars = completes_said (map Char chars) (Insides 0 s.names t) (completes_insides t 0 s.names g.1 g.2)

  -- a fixed text
  reaches : (g : Goal) (s : MachineState) → GoodGoal g s → Completion (ReachesGoal g s t)
  reaches goals.Marked s g = marked
  reaches goals.Field s g = field_over s.field (Gap s.field t) g.1 (gap s.field)
  reaches goals.Prolog s g = before
  reaches goals.EmptyTag s g = emptied s g
  reaches goals.EndName s g = completes_over_end t s.names g.1 g.2
  reaches goals.Comment s g = completes_comment (Around s.round s.names t) (around s.round s.names s.kept g)
  reaches goals.Section s g = completes_section (Insides 0 s.names t) (completes_insides t 0 s.names g.1 g.2) 0 (omega arith)
  reaches goals.Around s g = around s.round s.names s.kept g
  reaches goals.Entity s g = behind s.in_value s g.0 (encode_utf8 s.number)

  first_named : (name : List ℕ) → Completion (Then (IsNameRest parts.Local) (λ run. FirstOver (name ++ run) t))
  first_named name =
      let n : Completion (Then (IsNameRest parts.Local) (λ run. PiOver (name ++ run) (Before t))) = completes_named name (Before t) before in
      completes_map (Then (IsNameRest parts.Local) (λ run. PiOver (name ++ run) (Before t))) (Then (IsNameRest parts.Local) (λ run. FirstOver (name ++ run) t)) (λ x es k. record { run = k.run; is = k.is; behind = k.behind; text = k.text; after = inr k.after }) n

  first_question : Completion (λ x. Marked t (60 ∷ 63 ∷ x))
  first_question =
      let p : Completion (PiRest (Before t)) = completes_pi (Before t) before in
      completes_map (PiRest (Before t)) (λ x. Marked t (60 ∷ 63 ∷ x)) (λ x es k. (marked_question t x es).1 (record { run = k.run; is = k.is; behind = k.behind; text = k.text; after = inr k.after })) p

  -- at each place
  pub alive : (p : Place) (s : MachineState) → Good p s → (IsInMark p s.goal → ⊥) → Completion (RestsAt p s t)
  alive places.Start s g n = completes_map (Marked t) (Whole t) (λ x es k. record { mark = false; behind = x; text = refl; after = k }) marked
  alive places.Marked s g n = marked
  alive places.FirstLess s g n = completes_map (λ x. Before t (60 ∷ x)) (λ x. Marked t (60 ∷ x)) (λ x es k. marked_plain t (60 ∷ x) es k) (completes_before_less t (omega arith))
  alive places.Prolog s g n = before
  alive places.PrologLess s g n = completes_before_less t (omega arith)
  alive places.FieldGap s g n = gap s.field
  alive places.FieldSpace s g n = completes_then (Each IsSpace) (λ _. Choice s.field t) [] tt tt (choice s.field)
  alive places.FieldEquals s g n = field_over s.field (Gap s.field t) g.1 (gap s.field)
  alive places.FieldQuote s g n = completes_quote (FieldValue t s.field (Gap s.field t) []) (field_quoted s.field (Gap s.field t) g.1 (gap s.field))
  alive places.FieldValue s g n = field_value s.field (Gap s.field t) s.value s.quote g.2 (quote_printable s.quote g.1) (gap s.field)
  alive places.Word s g n = completes_word s.left (ReachesGoal s.goal s t) (fixed s.goal s.left g.1 n) (reaches s.goal s g.2)
  alive places.TagName s g n = completes_then (IsNameRest s.part) (λ run. InTag s (s.name ++ run) t) (letters 1) (letters_part s.part 0) (letters_each IsPrintable letter_is 1) (tag s (s.name ++ letters 1) s.keys s.kept g.2)
  alive places.TagAfter s g n = tag s s.name s.keys s.kept g
  alive places.TagSpace s g n = completes_then (Each IsSpace) (λ _. TagChoice s t) [] tt tt (completes_map (InBody s t) (TagChoice s t) (λ x es k. inl k) (completes_body (depth_left t s.names - 1) s.name (Between 0 s.names t) (completes_between t 0 s.names g.1) s.kept))
  alive places.Key s g n = completes_then (IsNameRest s.part) (λ run. InKey s t (s.key ++ run)) (letters (suc (total s.keys))) (letters_part s.part (total s.keys)) (letters_each IsPrintable letter_is (suc (total s.keys))) (key_new s g)
  alive places.KeyEquals s g n = key_over s s.key g.1
  alive places.KeyQuote s g n = completes_quote (λ quote. AttributeValue (depth_left t s.names - 1) s.name s.keys s.kept (Between 0 s.names t) s.key quote []) (key_value s s.key g.1)
  alive places.Value s g n = value s s.quote s.value (quote_printable s.quote g.1) g.2
  alive places.Content s g n = completes_insides t s.count s.names g.1 g.2
  alive places.ContentLess s g n = completes_less t s.names g.1 g.2
  alive places.EndSpace s g n = completes_over_end t s.names g.1 g.2
  alive places.Ampersand s g n = completes_behind (λ x. RefRest (Behind s.in_value s t) (97 ∷ x)) (RefRest (Behind s.in_value s t)) (97 ∷ []) (letter_is, tt) (λ x es k. k) (completes_amp (Behind s.in_value s t) (behind s.in_value s g (38 ∷ [])))
  alive places.AmpersandA s g n = completes_amp (Behind s.in_value s t) (behind s.in_value s g (38 ∷ []))
  alive places.Hash s g n = completes_hash (Behind s.in_value s t) (behind s.in_value s g)
  alive places.NoDigit s g n = completes_numeral (Behind s.in_value s t) (behind s.in_value s g.2) s.radix g.0
  alive places.Digit s g n = completes_digit (Behind s.in_value s t) (behind s.in_value s g.2) s.radix s.number g.0 g.1
  alive places.Epilog s g n = completes_after t
  alive places.EpilogLess s g n = completes_behind (λ x. Around rounds.Epilog [] t (60 ∷ 33 ∷ x)) (λ x. After t (60 ∷ x)) (33 ∷ []) (printable_text (33 ∷ []) refl) (λ x es k. k) (bang rounds.Epilog [] [] tt)
  alive places.Bang s g n = bang s.round s.names s.kept g
  alive places.Comment s g n = completes_comment (Around s.round s.names t) (around s.round s.names s.kept g)
  alive places.CommentDash s g n = completes_dash (Around s.round s.names t) (around s.round s.names s.kept g)
  alive places.Section s g n = completes_section (Insides 0 s.names t) (completes_insides t 0 s.names g.0.1 g.0.2) s.count g.1
  alive places.FirstQuestion s g n = first_question
  alive places.FirstName s g n = first_named s.name
  alive places.Question s g n = question s.round s.names s.kept g
  alive places.PiName s g n = completes_named s.name (Around s.round s.names t) (around s.round s.names s.kept g)
  alive places.PiText s g n = completes_text (Around s.round s.names t) (around s.round s.names s.kept g)
  alive places.PiMark s g n = completes_mark (Around s.round s.names t) (around s.round s.names s.kept g)
