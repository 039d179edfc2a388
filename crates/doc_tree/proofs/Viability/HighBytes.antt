-- Behind a byte from 128 on any others may stand, wherever it may stand at all.
use Rattle.doc_tree.proofs.Words.{Around, Attribute, Before, Behind, BehindValue, Between, BodyRest, Char, Choice, CommentRest, Each, EndsBehind, Field, FieldValue, Finish, FirstOver, Gap, Goal, Good, InKey, InTag, Insides, IsEncodingChar, IsFixed, IsInMark, IsNameRest, IsNameStart, IsQuote, IsRadix, IsSpace, List, Mark, Marked, NumeralRest, Part, PiOver, PiText, Place, ReachesGoal, RefRest, RestsAt, Saying, SectionRest, Start, MachineState, TagChoice, TagFirst, TagRest, TreeTerms, Then, ValueRest, Word, [], arith, attribute_list, body_marks, brackets, depth_left, digit_value, first_letter, inl, inr, keep, local_part, map, pending_brackets, refl, subst, sym, ℕ, ◌++◌, ◌-◌, ◌↔◌, ◌∷◌, ◌≡◌, ◌≢◌, ◌≤◌}
use Rattle.doc_tree.specs.declared.declaration.Field.TheVariants as fields
use Rattle.doc_tree.specs.declared.names.Part.TheVariants as parts
use Rattle.doc_tree.specs.declared.machine.Place.TheVariants as places
use Rattle.doc_tree.proofs.Viability.PrintableEnds.{fixed}
use Rattle.doc_tree.proofs.ByteGrammar.{IsHigh, IsMultibyte, after_less, after_stuck, before_less, before_stuck, body_begins, choice_ends as tag_ends, comment_dash_byte, comment_plain_byte, content_char, content_tag, digit_more, each_last, encoding_printable, equals_stuck, first_over_high, first_stuck, key_high, marked_less, marked_question, marked_stuck, name_none, no_brackets, numeral_stuck, part_printable, pi_mark, pi_over_high, pi_plain, quote_range, quote_stuck, radix_low, ref_a_stuck, ref_hash, ref_stuck, section_run, space_low, spaces_over, start_printable, tag_high, then_over, value_char, word_first}
use Rattle.doc_tree.proofs.MachineSteps.{KQ, around_mark, around_no, choice_ends, end_no, ends_first, field_each, gap_plain, value_more}

-- Whatever the byte goes on with, it goes on so behind others, saying perhaps more.
abbrev pub Absorbs : (List ℕ → List Mark → Type 0) → ℕ → Type 0
Absorbs K b = (x : List ℕ) (es : List Mark) → K (b ∷ x) es → (more : List ℕ) → Each IsMultibyte more → (says : List Mark) × K (b ∷ (more ++ x)) says

never : (K : List ℕ → List Mark → Type 0) (b : ℕ) → ((x : List ℕ) (es : List Mark) → K (b ∷ x) es → ⊥) → Absorbs K b
never K b f x es h more m = absurd (f x es h)

pub high_space : (b : ℕ) → 128 ≤ b → IsSpace b → ⊥
high_space b l s = let k = space_low b s in omega arith

high_start : (b : ℕ) → 128 ≤ b → IsNameStart b → ⊥
high_start b l s = let k = (start_printable b s).1 in omega arith

high_quote : (b : ℕ) → 128 ≤ b → IsQuote b → ⊥
high_quote b l i = let k = (quote_range b i).1 in omega arith

high_digit : (b : ℕ) → 128 ≤ b → digit_value b ≡ 36
high_digit b l = grind arith

-- content
module _ (t : TreeTerms) (names : List (List ℕ)) where
  content_in : (x : List ℕ) (es : List Mark) → Insides 0 names t x es → (more : List ℕ) → Each IsMultibyte more → (says : List Mark) × Insides 0 names t (more ++ x) says
  content_in x es h [] m = (es, h)
  content_in x es h (c ∷ cs) m =
      let l : 128 ≤ c = m.0 in
      let k = content_in x es h cs m.1 in
      (Char c ∷ k.0, (content_char t 0 names c (cs ++ x) (Char c ∷ k.0) (λ e. omega arith) (λ e. omega arith) (λ n e. omega arith)).1 (record { later = k.0; says = refl; after = subst (λ z. Insides z names t (cs ++ x) k.0) (sym (no_brackets 0 c (λ e. omega arith))) k.1 }))

  content_absorbs : (count b : ℕ) → 128 ≤ b → Absorbs (Insides count names t) b
  content_absorbs count b l x es h more m =
      let s : Saying (Char b ∷ []) (Insides (brackets count b) names t) x es = (content_char t count names b x es (λ e. omega arith) (λ e. omega arith) (λ n e. omega arith)).0 h in
      let k = content_in x s.later (subst (λ z. Insides z names t x s.later) (no_brackets count b (λ e. omega arith)) s.after) more m in
      (Char b ∷ k.0, (content_char t count names b (more ++ x) (Char b ∷ k.0) (λ e. omega arith) (λ e. omega arith) (λ n e. omega arith)).1 (record { later = k.0; says = refl; after = subst (λ z. Insides z names t (more ++ x) k.0) (sym (no_brackets count b (λ e. omega arith))) k.1 }))

-- values
module _ (q : ℕ) (i : IsQuote q) (K : List ℕ → List ℕ → List Mark → Type 0) (f : (v w : List ℕ) (y : List ℕ) (es : List Mark) → K v y es → (says : List Mark) × K w y says) where
  value_byte : (before : List ℕ) (b : ℕ) → 128 ≤ b → (x : List ℕ) (es : List Mark) → ValueRest q before K (b ∷ x) es ↔ ValueRest q (before ++ (b ∷ [])) K x es
  value_byte before b l x es = let k = (quote_range q i).1 in value_char q before K b x es (λ e. omega arith) (λ e. omega arith) (λ e. omega arith) (high_space b l)

  value_in : (x : List ℕ) (v : List ℕ) (es : List Mark) → ValueRest q v K x es → (more : List ℕ) → Each IsMultibyte more → (w : List ℕ) → (says : List Mark) × ValueRest q w K (more ++ x) says
  value_in x v es h [] m w = let k = f _ _ h.behind es h.after in (k.0, record { value = h.value; behind = h.behind; text = h.text; after = k.1 })
  value_in x v es h (c ∷ cs) m w = let k = value_in x v es h cs m.1 (w ++ (c ∷ [])) in (k.0, (value_byte w c m.0 (cs ++ x) k.0).1 k.1)

  value_absorbs : (before : List ℕ) (b : ℕ) → 128 ≤ b → Absorbs (ValueRest q before K) b
  value_absorbs before b l x es h more m =
      let k = value_in x (before ++ (b ∷ [])) es ((value_byte before b l x es).0 h) more m (before ++ (b ∷ [])) in
      (k.0, (value_byte before b l (more ++ x) k.0).1 k.1)

-- a tag says what belongs to it
tag_says : (room : ℕ) (name : List ℕ) (keys : List (List ℕ)) (K : List ℕ → List Mark → Type 0) (kept other : List Attribute) (y : List ℕ) (es : List Mark) → TagRest room name keys kept K y es → (says : List Mark) × TagRest room name keys other K y says
tag_says room name keys K kept other y es h =
    let b : BodyRest room name (kept ++ attribute_list h.attributes) K h.behind es = h.after in
    (Start (local_part name) (other ++ attribute_list h.attributes) ∷ body_marks b.body (Finish (local_part name) ∷ b.later), record { attributes = h.attributes; fresh = h.fresh; space = h.space; spaced = h.spaced; behind = h.behind; text = h.text; after = record { body = b.body; fit = b.fit; behind = b.behind; later = b.later; text = b.text; says = refl; after = b.after } })

-- comments, instructions and sections
module _ (K : List ℕ → List Mark → Type 0) where
  comment_in : (x : List ℕ) (es : List Mark) → CommentRest K x es → (more : List ℕ) → Each IsMultibyte more → CommentRest K (more ++ x) es
  comment_in x es h [] m = h
  comment_in x es h (c ∷ cs) m = let l : 128 ≤ c = m.0 in (comment_plain_byte K c (cs ++ x) es (λ e. omega arith)).1 (comment_in x es h cs m.1)

  comment_absorbs : (b : ℕ) → 128 ≤ b → Absorbs (CommentRest K) b
  comment_absorbs b l x es h more m = (es, (comment_plain_byte K b (more ++ x) es (λ e. omega arith)).1 (comment_in x es ((comment_plain_byte K b x es (λ e. omega arith)).0 h) more m))

  dash_absorbs : (b : ℕ) → 128 ≤ b → Absorbs (λ x. CommentRest K (45 ∷ x)) b
  dash_absorbs b l x es h more m = (es, (comment_dash_byte K b (more ++ x) es (λ e. omega arith)).1 (comment_in x es ((comment_dash_byte K b x es (λ e. omega arith)).0 h) more m))

  text_in : (x : List ℕ) (es : List Mark) → PiText K x es → (more : List ℕ) → Each IsMultibyte more → PiText K (more ++ x) es
  text_in x es h [] m = h
  text_in x es h (c ∷ cs) m = let l : 128 ≤ c = m.0 in (pi_plain K c (cs ++ x) es (λ e. omega arith)).1 (text_in x es h cs m.1)

  text_absorbs : (b : ℕ) → 128 ≤ b → Absorbs (PiText K) b
  text_absorbs b l x es h more m = (es, (pi_plain K b (more ++ x) es (λ e. omega arith)).1 (text_in x es ((pi_plain K b x es (λ e. omega arith)).0 h) more m))

  mark_absorbs : (b : ℕ) → 128 ≤ b → Absorbs (λ x. PiText K (63 ∷ x)) b
  mark_absorbs b l x es h more m =
      let k = text_absorbs b l x es ((pi_mark K b x es (λ e. omega arith)).0 h) more m in
      (k.0, (pi_mark K b (more ++ x) k.0 (λ e. omega arith)).1 k.1)

  section_in : (x : List ℕ) (es : List Mark) → SectionRest 0 K x es → (more : List ℕ) → Each IsMultibyte more → (says : List Mark) × SectionRest 0 K (more ++ x) says
  section_in x es h [] m = (es, h)
  section_in x es h (c ∷ cs) m =
      let l : 128 ≤ c = m.0 in
      let k = section_in x es h cs m.1 in
      (Char c ∷ k.0, (section_run K 0 c (cs ++ x) (Char c ∷ k.0) (omega arith) (λ e. omega arith) (λ h. absurd (omega arith))).1 (record { later = k.0; says = refl; after = k.1 }))

  section_said : (text : List ℕ) (x : List ℕ) (es : List Mark) → Saying (map Char text) (SectionRest 0 K) x es → (more : List ℕ) → Each IsMultibyte more → (says : List Mark) × Saying (map Char text) (SectionRest 0 K) (more ++ x) says
  section_said text x es h more m = let k = section_in x h.later h.after more m in (map Char text ++ k.0, record { later = k.0; says = refl; after = k.1 })

  section_absorbs : (n b : ℕ) → n ≤ 2 → 128 ≤ b → Absorbs (λ x. SectionRest 0 K (pending_brackets n x)) b
  section_absorbs n b j l x es h more m =
      let k = section_said (pending_brackets n (b ∷ [])) x es ((section_run K n b x es j (λ e. omega arith) (λ _ e. omega arith)).0 h) more m in
      (k.0, (section_run K n b (more ++ x) k.0 j (λ e. omega arith) (λ _ e. omega arith)).1 k.1)

-- where none may stand
module _ (u : TreeTerms) (b : ℕ) (l : 128 ≤ b) where
  letter_low : (f : Field) → first_letter f ≤ 118
  letter_low fields.Before = omega arith
  letter_low _ = omega arith

  ends_none : (f : Field) (x : List ℕ) (es : List Mark) → EndsBehind f u (b ∷ x) es → ⊥
  ends_none f x es h = let e = ends_first u f b x es h in omega arith

  gap_none : (f : Field) (x : List ℕ) (es : List Mark) → Gap f u (b ∷ x) es → ⊥
  gap_none f x es h = ends_none f x es ((gap_plain u f b x es (high_space b l)).0 h)

  choice_none : (f : Field) (x : List ℕ) (es : List Mark) → Choice f u (b ∷ x) es → ⊥
  choice_none f x es h = ends_none f x es ((choice_ends u f b x es (λ g i e. (let k = letter_low g in omega arith))).0 h)

  value_none : (f : Field) (K : List ℕ → List Mark → Type 0) (v : List ℕ) (q : ℕ) → IsQuote q → (x : List ℕ) (es : List Mark) → FieldValue u f K v q (b ∷ x) es → ⊥
  value_none f K v q i x es h =
      let low = (quote_range q i).1 in
      let k = (value_more u f K v q b x es (λ e. omega arith)).0 h in
      let e = encoding_printable b (each_last IsEncodingChar v b k.run (field_each u f ((v ++ (b ∷ [])) ++ k.run) k.is)) in
      let m = e.1 in omega arith

  first_none : (names : List (List ℕ)) (x : List ℕ) (es : List Mark) → TagFirst names u (b ∷ x) es → ⊥
  first_none names x es h = first_stuck u names b x es (high_start b l) h

  before_none : (x : List ℕ) (es : List Mark) → Before u (60 ∷ b ∷ x) es → ⊥
  before_none x es h = first_none [] x es ((before_less u b x es (λ e. omega arith) (λ e. omega arith)).0 h)

  marked_none : (x : List ℕ) (es : List Mark) → Marked u (60 ∷ b ∷ x) es → ⊥
  marked_none x es h = before_none x es ((marked_less u b x es (λ e. omega arith)).0 h)

  less_none : (names : List (List ℕ)) (x : List ℕ) (es : List Mark) → Insides 0 names u (60 ∷ b ∷ x) es → ⊥
  less_none names x es h = first_none names x es (content_tag u names b x es (λ e. omega arith) (λ e. omega arith) (λ e. omega arith) h)

  choice_tag_none : (s : MachineState) (x : List ℕ) (es : List Mark) → TagChoice s u (b ∷ x) es → ⊥
  choice_tag_none s x es h = elim (body_begins _ _ _ _ b x es ((tag_ends u s b x es (high_start b l)).0 h)) [ inl e ↦ omega arith | inr e ↦ omega arith ]

  -- a name that goes on, or what is behind it
  part_none : (p : Part) (run : List ℕ) → IsNameRest p (b ∷ run) → ⊥
  part_none p run h = let k = (part_printable p b run h).1 in omega arith

  named_none : (p : Part) (L : List ℕ → List ℕ → List Mark → Type 0) → ((n x : List ℕ) (es : List Mark) → L n (b ∷ x) es → ⊥) → (name x : List ℕ) (es : List Mark) → Then (IsNameRest p) (λ run. L (name ++ run)) (b ∷ x) es → ⊥
  named_none p L f name x es h = f (name ++ []) x es (then_over (IsNameRest p) (λ run. L (name ++ run)) b x es (part_none p) h).1

  high : IsHigh b
  high = inr (inr (inr (omega arith)))

  -- references
  digit_none : (radix n : ℕ) (K : List ℕ → List ℕ → List Mark → Type 0) → IsRadix radix → (x : List ℕ) (es : List Mark) → NumeralRest radix n K (b ∷ x) es → ⊥
  digit_none radix n K r x es h = numeral_stuck radix n K b x es (λ k. (let e = high_digit b l in let m = radix_low radix r in omega arith)) h

  hash_none : (K : List ℕ → List ℕ → List Mark → Type 0) (x : List ℕ) (es : List Mark) → RefRest K (35 ∷ b ∷ x) es → ⊥
  hash_none K x es h = digit_none 10 0 K (inl refl) x es ((ref_hash K b x es (λ e. omega arith)).0 h)

  -- a fixed text
  fixed_none : (g : Goal) (left : List ℕ) (K : List ℕ → List Mark → Type 0) → left ≢ [] → IsFixed g left → (IsInMark places.Word g → ⊥) → (x : List ℕ) (es : List Mark) → Word left K (b ∷ x) es → ⊥
  fixed_none g [] K n i m x es h = n refl
  fixed_none g (w ∷ ws) K n i m x es h =
      let e = (word_first K w ws b x es h).0 in
      let k = (fixed g (w ∷ ws) i m).0.1 in omega arith

  -- at each place
  pub absorbs : (p : Place) (s : MachineState) → p ≢ places.Start → Good p s → (IsInMark p s.goal → ⊥) → Absorbs (RestsAt p s u) b
  absorbs places.Start s n g i = absurd (n refl)
  absorbs places.Marked s n g i = never (Marked u) b (λ x es h. marked_stuck u b x es (high_space b l) (λ e. omega arith) h)
  absorbs places.FirstLess s n g i = never (λ x. Marked u (60 ∷ x)) b marked_none
  absorbs places.Prolog s n g i = never (Before u) b (λ x es h. before_stuck u b x es (high_space b l) (λ e. omega arith) h)
  absorbs places.PrologLess s n g i = never (λ x. Before u (60 ∷ x)) b before_none
  absorbs places.FieldGap s n g i = never (Gap s.field u) b (gap_none s.field)
  absorbs places.FieldSpace s n g i = never (Then (Each IsSpace) (λ _. Choice s.field u)) b (λ x es h. choice_none s.field x es ((spaces_over (Choice s.field u) b x es (high_space b l)).0 h))
  absorbs places.FieldEquals s n g i = never (RestsAt places.FieldEquals s u) b (λ x es h. equals_stuck (FieldValue u s.field (Gap s.field u) []) b x es (high_space b l) (λ e. omega arith) h)
  absorbs places.FieldQuote s n g i = never (RestsAt places.FieldQuote s u) b (λ x es h. quote_stuck (FieldValue u s.field (Gap s.field u) []) b x es (high_space b l) (high_quote b l) h)
  absorbs places.FieldValue s n g i = never (RestsAt places.FieldValue s u) b (value_none s.field (Gap s.field u) s.value s.quote g.1)
  absorbs places.Word s n g i = never (RestsAt places.Word s u) b (fixed_none s.goal s.left (ReachesGoal s.goal s u) g.0 g.1 i)
  absorbs places.TagName s n g i = never (RestsAt places.TagName s u) b (named_none s.part (λ m. InTag s m u) (λ m x es h. tag_high u s b m x es high h) s.name)
  absorbs places.TagAfter s n g i = never (RestsAt places.TagAfter s u) b (λ x es h. tag_high u s b s.name x es high h)
  absorbs places.TagSpace s n g i = never (RestsAt places.TagSpace s u) b (λ x es h. choice_tag_none s x es ((spaces_over (TagChoice s u) b x es (high_space b l)).0 h))
  absorbs places.Key s n g i = never (RestsAt places.Key s u) b (named_none s.part (InKey s u) (λ m x es h. key_high u s b m x es high h) s.key)
  absorbs places.KeyEquals s n g i = never (RestsAt places.KeyEquals s u) b (λ x es h. equals_stuck (KQ s u) b x es (high_space b l) (λ e. omega arith) h)
  absorbs places.KeyQuote s n g i = never (RestsAt places.KeyQuote s u) b (λ x es h. quote_stuck (KQ s u) b x es (high_space b l) (high_quote b l) h)
  absorbs places.Value s n g i = value_absorbs s.quote g.1 (λ v. BehindValue s v u) (λ v w y es h. tag_says (depth_left u s.names - 1) s.name (s.keys ++ (s.key ∷ [])) (Between 0 s.names u) (keep s.key v s.kept) (keep s.key w s.kept) y es h) s.value b l
  absorbs places.Content s n g i = content_absorbs u s.names s.count b l
  absorbs places.ContentLess s n g i = never (RestsAt places.ContentLess s u) b (less_none s.names)
  absorbs places.EndSpace s n g i = never (RestsAt places.EndSpace s u) b (λ x es h. end_no u s.names b x es (high_space b l) (λ e. omega arith) h)
  absorbs places.Ampersand s n g i = never (RestsAt places.Ampersand s u) b (λ x es h. ref_stuck (Behind s.in_value s u) b x es (λ e. omega arith) (λ e. omega arith) (λ e. omega arith) (λ e. omega arith) (λ e. omega arith) h)
  absorbs places.AmpersandA s n g i = never (RestsAt places.AmpersandA s u) b (λ x es h. ref_a_stuck (Behind s.in_value s u) b x es (λ e. omega arith) (λ e. omega arith) h)
  absorbs places.Hash s n g i = never (RestsAt places.Hash s u) b (hash_none (Behind s.in_value s u))
  absorbs places.NoDigit s n g i = never (RestsAt places.NoDigit s u) b (digit_none s.radix 0 (Behind s.in_value s u) g.0)
  absorbs places.Digit s n g i = never (RestsAt places.Digit s u) b (λ x es h. digit_none s.radix s.number (Behind s.in_value s u) g.0 x es ((digit_more s.radix s.number (Behind s.in_value s u) b x es (λ e. omega arith)).0 h))
  absorbs places.Epilog s n g i = never (RestsAt places.Epilog s u) b (λ x es h. after_stuck u b x es (high_space b l) (λ e. omega arith) h)
  absorbs places.EpilogLess s n g i = never (RestsAt places.EpilogLess s u) b (λ x es h. after_less u b x es (λ e. omega arith) (λ e. omega arith) h)
  absorbs places.Bang s n g i = never (RestsAt places.Bang s u) b (λ x es h. around_no u s.round s.names b x es (λ e. omega arith) (λ e. omega arith) (λ r e k. omega arith) h)
  absorbs places.Comment s n g i = comment_absorbs (Around s.round s.names u) b l
  absorbs places.CommentDash s n g i = dash_absorbs (Around s.round s.names u) b l
  absorbs places.Section s n g i = section_absorbs (Insides 0 s.names u) s.count b g.1 l
  absorbs places.FirstQuestion s n g i = never (RestsAt places.FirstQuestion s u) b (λ x es h. name_none (λ m. FirstOver m u) b x es (high_start b l) ((marked_question u (b ∷ x) es).0 h))
  absorbs places.FirstName s n g i = never (RestsAt places.FirstName s u) b (named_none parts.Local (λ m. FirstOver m u) (λ m x es h. first_over_high u b m x es high h) s.name)
  absorbs places.Question s n g i = never (RestsAt places.Question s u) b (λ x es h. name_none (λ m. PiOver m (Around s.round s.names u)) b x es (high_start b l) ((around_mark u s.round s.names (b ∷ x) es).0 h))
  absorbs places.PiName s n g i = never (RestsAt places.PiName s u) b (named_none parts.Local (λ m. PiOver m (Around s.round s.names u)) (λ m x es h. pi_over_high (Around s.round s.names u) b m x es high h) s.name)
  absorbs places.PiText s n g i = text_absorbs (Around s.round s.names u) b l
  absorbs places.PiMark s n g i = mark_absorbs (Around s.round s.names u) b l
