-- Steps of states.
use Rattle.doc_tree.proofs.Words.{ArePrintable, Attribute, AttributeValue, Behind, Between, Bool, Char, Choice, DigitRest, Each, EndOver, EndsBehind, EqualsAt, Field, FieldOver, FieldValue, FollowsByte, Gap, Goal, Good, GoodReference, InElement, InNumeral, Insides, IsInMark, IsNameRest, IsNameStart, IsNextField, IsPrintable, IsQuote, IsRadix, IsScalar, IsSpace, List, Mark, NoNextField, NumeralRest, Outer, Place, QuoteAt, ReachesState, RefRest, RestsAt, Saying, MachineState, Stuck, TagFirst, TagRest, TreeTerms, Then, Word, [], ap, arith, brackets, depth_left, digit_value, encode_utf8, field_name, first_letter, inl, inr, length, refl, subst, sym, ℕ, ◌*◌, ◌++◌, ◌+◌, ◌-◌, ◌<◌, ◌↔◌, ◌∙◌, ◌∷◌, ◌≡◌, ◌≢◌, ◌≤◌}
use Rattle.doc_tree.specs.declared.machine.Goal.TheVariants as goals
use Rattle.doc_tree.specs.declared.names.Part.TheVariants as parts
use Rattle.doc_tree.specs.declared.machine.Place.TheVariants as places
use Rattle.doc_tree.proofs.Behind.{good_reference, in_reference}
use Rattle.doc_tree.proofs.MachineSteps.FieldValues.{begun_nothing, next_not_before}
use Rattle.doc_tree.proofs.ByteGrammar.{content_char, content_end, content_tag, content_tag_from, equals_sign, equals_space, equals_stuck, field_printable, first_printable, first_tag, numeral_digit, quote_over, quote_space, quote_stuck, ref_hash, ref_x, spaces_more, spaces_over, start_printable, word_over}
use Rattle.doc_tree.proofs.MachineSteps.Moves.{moves, moves_at, moves_word, follows_from, follows_saying, stays}
use Rattle.doc_tree.proofs.MachineSteps.FieldSteps.{choice_not_space, choice_next, choice_ends}

-- another equation of places
pub at_place : (P : Place → Type 0) (p q : Place) → p ≡ q → P q → P p
at_place P p q e h = subst P (sym e) h

abbrev FQ : MachineState → TreeTerms → ℕ → List ℕ → List Mark → Type 0
FQ s t = FieldValue t s.field (Gap s.field t) []

abbrev pub KQ : MachineState → TreeTerms → ℕ → List ℕ → List Mark → Type 0
KQ s t quote = AttributeValue (depth_left t s.names - 1) s.name s.keys s.kept (Between 0 s.names t) s.key quote []

pub equals_stays : (s : MachineState) (to : Place) (b : ℕ) → EqualsAt s to → IsSpace b → FollowsByte s.marks (RestsAt s.place s) b s
equals_stays s to b (inl p) i = at_place (λ z. FollowsByte s.marks (RestsAt z s) b s) s.place places.FieldEquals p.0 (moves_at s.marks (RestsAt places.FieldEquals s) b s places.FieldEquals p.0 refl (λ l h. h) (p.2, p.3) (λ u l x es. equals_space (FQ s u) b x es i))
equals_stays s to b (inr p) i = at_place (λ z. FollowsByte s.marks (RestsAt z s) b s) s.place places.KeyEquals p.0 (moves_at s.marks (RestsAt places.KeyEquals s) b s places.KeyEquals p.0 refl (λ l h. h) (p.2, p.3) (λ u l x es. equals_space (KQ s u) b x es i))

pub equals_goes : (s : MachineState) (to : Place) (b : ℕ) → EqualsAt s to → b ≡ 61 → FollowsByte s.marks (RestsAt s.place s) b (record s { place = to })
equals_goes s to b (inl p) e = subst (λ d. FollowsByte s.marks (RestsAt s.place s) d (record s { place = to })) (sym e) (at_place (λ z. FollowsByte s.marks (RestsAt z s) 61 (record s { place = to })) s.place places.FieldEquals p.0 (moves_at s.marks (RestsAt places.FieldEquals s) 61 (record s { place = to }) places.FieldQuote p.1 refl (λ l h. h) (p.2, p.3) (λ u l x es. equals_sign (FQ s u) x es)))
equals_goes s to b (inr p) e = subst (λ d. FollowsByte s.marks (RestsAt s.place s) d (record s { place = to })) (sym e) (at_place (λ z. FollowsByte s.marks (RestsAt z s) 61 (record s { place = to })) s.place places.KeyEquals p.0 (moves_at s.marks (RestsAt places.KeyEquals s) 61 (record s { place = to }) places.KeyQuote p.1 refl (λ l h. h) (p.2, p.3) (λ u l x es. equals_sign (KQ s u) x es)))

pub equals_no : (s : MachineState) (to : Place) (b : ℕ) → EqualsAt s to → (IsSpace b → ⊥) → b ≢ 61 → Stuck (RestsAt s.place s) b
equals_no s to b (inl p) n m = at_place (λ z. Stuck (RestsAt z s) b) s.place places.FieldEquals p.0 (record { none = λ u l x es h. equals_stuck (FQ s u) b x es n m h })
equals_no s to b (inr p) n m = at_place (λ z. Stuck (RestsAt z s) b) s.place places.KeyEquals p.0 (record { none = λ u l x es h. equals_stuck (KQ s u) b x es n m h })

pub quote_stays : (s : MachineState) (to : Place) (b : ℕ) → QuoteAt s to → IsSpace b → FollowsByte s.marks (RestsAt s.place s) b s
quote_stays s to b (inl p) i = at_place (λ z. FollowsByte s.marks (RestsAt z s) b s) s.place places.FieldQuote p.0 (moves_at s.marks (RestsAt places.FieldQuote s) b s places.FieldQuote p.0 refl (λ l h. h) (p.2, p.3) (λ u l x es. quote_space (FQ s u) b x es i))
quote_stays s to b (inr p) i = at_place (λ z. FollowsByte s.marks (RestsAt z s) b s) s.place places.KeyQuote p.0 (moves_at s.marks (RestsAt places.KeyQuote s) b s places.KeyQuote p.0 refl (λ l h. h) (p.2, p.3) (λ u l x es. quote_space (KQ s u) b x es i))

pub quote_goes : (s : MachineState) (to : Place) (b : ℕ) (v : List ℕ) → QuoteAt s to → IsQuote b → v ≡ [] → FollowsByte s.marks (RestsAt s.place s) b (record s { quote = b; value = v; place = to })
quote_goes s to b v (inl p) i e = subst (λ d. FollowsByte s.marks (RestsAt s.place s) b (record s { quote = b; value = d; place = to })) (sym e) (at_place (λ z. FollowsByte s.marks (RestsAt z s) b (record s { quote = b; value = []; place = to })) s.place places.FieldQuote p.0 (moves_at s.marks (RestsAt places.FieldQuote s) b (record s { quote = b; value = []; place = to }) places.FieldValue p.1 refl (λ l h. h) (p.2, i, begun_nothing s.field p.3) (λ u l x es. quote_over (FQ s u) b x es i)))
quote_goes s to b v (inr p) i e = subst (λ d. FollowsByte s.marks (RestsAt s.place s) b (record s { quote = b; value = d; place = to })) (sym e) (at_place (λ z. FollowsByte s.marks (RestsAt z s) b (record s { quote = b; value = []; place = to })) s.place places.KeyQuote p.0 (moves_at s.marks (RestsAt places.KeyQuote s) b (record s { quote = b; value = []; place = to }) places.Value p.1 refl (λ l h. h) (p.2, i, p.3) (λ u l x es. quote_over (KQ s u) b x es i)))

pub quote_no : (s : MachineState) (to : Place) (b : ℕ) → QuoteAt s to → (IsSpace b → ⊥) → (IsQuote b → ⊥) → Stuck (RestsAt s.place s) b
quote_no s to b (inl p) n m = at_place (λ z. Stuck (RestsAt z s) b) s.place places.FieldQuote p.0 (record { none = λ u l x es h. quote_stuck (FQ s u) b x es n m h })
quote_no s to b (inr p) n m = at_place (λ z. Stuck (RestsAt z s) b) s.place places.KeyQuote p.0 (record { none = λ u l x es h. quote_stuck (KQ s u) b x es n m h })

-- a start tag begins
pub tag_begun : (s : MachineState) (b : ℕ) (name : List ℕ) (keys : List (List ℕ)) → name ≡ b ∷ [] → keys ≡ [] → s.kept ≡ [] → ArePrintable s.names → IsNameStart b → length s.names < 32 → FollowsByte s.marks (TagFirst s.names) b (record s { name = name; keys = keys; part = parts.First; place = places.TagName })
tag_begun s b name keys e f k n i l =
    let N : List ℕ → List (List ℕ) → MachineState = λ n ks. record s { name = n; keys = ks; part = parts.First; place = places.TagName } in
    subst (λ n. FollowsByte s.marks (TagFirst s.names) b (N n keys)) (sym e) (subst (λ ks. FollowsByte s.marks (TagFirst s.names) b (N (b ∷ []) ks)) (sym f) (moves s.marks (TagFirst s.names) b (N (b ∷ []) []) refl (λ l h. h) (k, refl, ((start_printable b i, tt), n)) (λ u d x es. subst (λ z. TagFirst s.names u (b ∷ x) es ↔ Then (IsNameRest parts.First) (λ run. TagRest (depth_left u s.names - 1) (b ∷ run) [] z (Between 0 s.names u)) x es) (sym k) (first_tag u s.names b x es i (omega arith)))))

-- a byte that is known
pub at_byte : (before : List Mark) (A : TreeTerms → List ℕ → List Mark → Type 0) (b d : ℕ) (new : MachineState) → b ≡ d → FollowsByte before A d new → FollowsByte before A b new
at_byte before A b d new e h = subst (λ z. FollowsByte before A z new) (sym e) h

pub stuck_at : (A : TreeTerms → List ℕ → List Mark → Type 0) (b d : ℕ) → b ≡ d → Stuck A d → Stuck A b
stuck_at A b d e h = subst (λ z. Stuck A z) (sym e) h

-- what holds in what a reference stands in
good_same : (v : Bool) (s : MachineState) (p : Place) (w : List ℕ) (g : Goal) (n r : ℕ) → GoodReference v s → GoodReference v (record s { place = p; left = w; goal = g; number = n; radix = r })
good_same v s p w g n r h = subst (λ z. z) (sym (good_reference v s p w g n r s.marks)) h

-- an entity
entity_any : (before : List ℕ) (s : MachineState) (b : ℕ) (word : List ℕ) (char : ℕ) (new : MachineState) → new ≡ record s { place = places.Word; left = word; goal = goals.Entity; number = char } → word ≢ [] → Each IsPrintable word → encode_utf8 char ≡ char ∷ [] → IsScalar char → GoodReference s.in_value s → ((K : List ℕ → List ℕ → List Mark → Type 0) (x : List ℕ) (es : List Mark) → RefRest K (before ++ (b ∷ x)) es ↔ Word word (K (char ∷ [])) x es) → FollowsByte s.marks (λ u x es. RefRest (Behind s.in_value s u) (before ++ x) es) b new
entity_any before s b word char new e n w f i g h =
    let t : MachineState = record s { place = places.Word; left = word; goal = goals.Entity; number = char } in
    subst (λ z. FollowsByte s.marks (λ u x es. RefRest (Behind s.in_value s u) (before ++ x) es) b z) (sym e) (moves s.marks (λ u x es. RefRest (Behind s.in_value s u) (before ++ x) es) b t refl (λ l h. h) (n, w, (good_same s.in_value s places.Word word goals.Entity char s.radix g, i)) (λ u l x es.
    let same = ap (λ k. k (encode_utf8 char)) (in_reference s.in_value s places.Word word goals.Entity char s.radix s.marks u) ∙ ap (Behind s.in_value s u) f in
    subst (λ z. RefRest (Behind s.in_value s u) (before ++ (b ∷ x)) es ↔ Word word z x es) (sym same) (h (Behind s.in_value s u) x es)))

pub entity_moves : (s : MachineState) (b : ℕ) (word : List ℕ) (char : ℕ) (new : MachineState) → new ≡ record s { place = places.Word; left = word; goal = goals.Entity; number = char } → word ≢ [] → Each IsPrintable word → encode_utf8 char ≡ char ∷ [] → IsScalar char → GoodReference s.in_value s → ((K : List ℕ → List ℕ → List Mark → Type 0) (x : List ℕ) (es : List Mark) → RefRest K (b ∷ x) es ↔ Word word (K (char ∷ [])) x es) → FollowsByte s.marks (RestsAt places.Ampersand s) b new
entity_moves s b word char new e n w f i g h = entity_any [] s b word char new e n w f i g h

pub entity_moves_a : (s : MachineState) (b : ℕ) (word : List ℕ) (char : ℕ) (new : MachineState) → new ≡ record s { place = places.Word; left = word; goal = goals.Entity; number = char } → word ≢ [] → Each IsPrintable word → encode_utf8 char ≡ char ∷ [] → IsScalar char → GoodReference s.in_value s → ((K : List ℕ → List ℕ → List Mark → Type 0) (x : List ℕ) (es : List Mark) → RefRest K (97 ∷ b ∷ x) es ↔ Word word (K (char ∷ [])) x es) → FollowsByte s.marks (RestsAt places.AmpersandA s) b new
entity_moves_a s b word char new e n w f i g h = entity_any (97 ∷ []) s b word char new e n w f i g h

-- a number
pub hash_x : (s : MachineState) → GoodReference s.in_value s → FollowsByte s.marks (RestsAt places.Hash s) 120 (record s { place = places.NoDigit; number = 0; radix = 16 })
hash_x s g = moves s.marks (RestsAt places.Hash s) 120 (record s { place = places.NoDigit; number = 0; radix = 16 }) refl (λ l h. h) (inr refl, refl, good_same s.in_value s places.NoDigit s.left s.goal 0 16 g) (λ u l x es. subst (λ k. RestsAt places.Hash s u (120 ∷ x) es ↔ NumeralRest 16 0 k x es) (sym (in_reference s.in_value s places.NoDigit s.left s.goal 0 16 s.marks u)) (ref_x (Behind s.in_value s u) x es))

hash_both : (u : TreeTerms) (s : MachineState) (b : ℕ) (x : List ℕ) (es : List Mark) → b ≢ 120 → RestsAt places.Hash s u (b ∷ x) es ↔ InNumeral 10 0 (record s { number = 0; radix = 10 }) u (b ∷ x) es
hash_both u s b x es n = subst (λ k. RestsAt places.Hash s u (b ∷ x) es ↔ NumeralRest 10 0 k (b ∷ x) es) (sym (in_reference s.in_value s s.place s.left s.goal 0 10 s.marks u)) (ref_hash (Behind s.in_value s u) b x es n)

pub hash_to : (u : TreeTerms) (s : MachineState) (b : ℕ) (x : List ℕ) (es : List Mark) → b ≢ 120 → RestsAt places.Hash s u (b ∷ x) es → InNumeral 10 0 (record s { number = 0; radix = 10 }) u (b ∷ x) es
hash_to u s b x es n h = (hash_both u s b x es n).0 h

pub hash_follows : (s : MachineState) (b : ℕ) (new : MachineState) → b ≢ 120 → FollowsByte s.marks (InNumeral 10 0 (record s { number = 0; radix = 10 })) b new → FollowsByte s.marks (RestsAt places.Hash s) b new
hash_follows s b new n h = follows_from s.marks (RestsAt places.Hash s) (InNumeral 10 0 (record s { number = 0; radix = 10 })) b new (λ u l x es. hash_both u s b x es n) h

pub digit_moves : (s : MachineState) (b d n : ℕ) → d ≡ digit_value b → n ≡ s.number * s.radix + d → d < s.radix → n ≤ 1114111 → IsRadix s.radix → GoodReference s.in_value s → FollowsByte s.marks (InNumeral s.radix s.number s) b (record s { number = n; place = places.Digit })
digit_moves s b d n e f l m i g = let t : MachineState = record s { number = n; place = places.Digit } in moves s.marks (InNumeral s.radix s.number s) b t refl (λ l h. h) (i, m, good_same s.in_value s places.Digit s.left s.goal n s.radix g) (λ u o x es.
    let k = numeral_digit s.radix s.number (Behind s.in_value s u) b x es (subst (λ z. z < s.radix) e l) in
    let j : s.number * s.radix + digit_value b ≡ n = ap (λ z. s.number * s.radix + z) (sym e) ∙ sym f in
    subst (λ z. InNumeral s.radix s.number s u (b ∷ x) es ↔ DigitRest s.radix n z x es) (sym (in_reference s.in_value s places.Digit s.left s.goal n s.radix s.marks u)) (subst (λ z. InNumeral s.radix s.number s u (b ∷ x) es ↔ DigitRest s.radix z (Behind s.in_value s u) x es) j k))

pub at_here : (t : MachineState) → t.place ≡ places.Content → InElement t.names t.kept → ReachesState t.marks (Insides t.count t.names) t
at_here t p g = stays t.marks (Insides t.count t.names) t refl (λ h. subst (λ z. IsInMark z t.goal) p h) (at_place (λ z. Good z t) t.place places.Content p g) (λ u l x es. at_place (λ z. Insides t.count t.names u x es ↔ RestsAt z t u x es) t.place places.Content p (λ h. h, λ h. h))

-- a character of content
pub content_said : (s : MachineState) (b count : ℕ) (marks : List Mark) (kept : List Attribute) → marks ≡ s.marks ++ (Char b ∷ []) → count ≡ brackets s.count b → InElement s.names kept → s.place ≡ places.Content → b ≢ 60 → b ≢ 38 → (2 ≤ s.count → b ≢ 62) → FollowsByte s.marks (RestsAt places.Content s) b (record s { count = count; kept = kept; marks = marks })
content_said s b count marks kept e f g p nl na n =
    let t : MachineState = record s { count = count; kept = kept; marks = marks } in
    follows_saying s.marks (Char b ∷ []) (RestsAt places.Content s) (Insides count s.names) b t (λ u l x es. subst (λ z. Insides s.count s.names u (b ∷ x) es ↔ Saying (Char b ∷ []) (Insides z s.names u) x es) (sym f) (content_char u s.count s.names b x es nl na n)) (subst (λ z. ReachesState z (Insides count s.names) t) e (at_here t p g))

-- an element in an element
pub content_tag_any : (u : TreeTerms) (names : List (List ℕ)) (b : ℕ) (r : List ℕ) (es : List Mark) → names ≢ [] → b ≢ 47 → b ≢ 33 → b ≢ 63 → Insides 0 names u (60 ∷ b ∷ r) es ↔ TagFirst names u (b ∷ r) es
content_tag_any u [] b r es n e f g = absurd (n refl)
content_tag_any u (m ∷ names) b r es n e f g = (λ h. content_tag u (m ∷ names) b r es e f g h, λ h. content_tag_from u m names (b ∷ r) es h)

-- an end tag
end_both : (u : TreeTerms) (names : List (List ℕ)) (n : List ℕ) (rest : List (List ℕ)) (r : List ℕ) (es : List Mark) → names ≡ n ∷ rest → Insides 0 names u (60 ∷ 47 ∷ r) es ↔ Word n (EndOver names u) r es
end_both u names n rest r es e = subst (λ z. Insides 0 z u (60 ∷ 47 ∷ r) es ↔ Word n (EndOver z u) r es) (sym e) (content_end u n rest r es)

pub end_moves : (s : MachineState) (n : List ℕ) (rest : List (List ℕ)) (word : List ℕ) (new : MachineState) → s.names ≡ n ∷ rest → word ≡ n → word ≢ [] → InElement s.names s.kept → new ≡ record s { place = places.Word; left = word; goal = goals.EndName } → FollowsByte s.marks (RestsAt places.ContentLess s) 47 new
end_moves s n rest word new e f m k q = moves_word s.marks (RestsAt places.ContentLess s) 47 s goals.EndName word new q refl (λ l h. h) m (subst (Each IsPrintable) (sym f) (first_printable s.names n rest e k.2).0) k (λ u l x es. subst (λ z. Insides 0 s.names u (60 ∷ 47 ∷ x) es ↔ Word z (EndOver s.names u) x es) (sym f) (end_both u s.names n rest x es e))

pub end_empty : (s : MachineState) (n : List ℕ) (rest : List (List ℕ)) → s.names ≡ n ∷ rest → n ≡ [] → InElement s.names s.kept → FollowsByte s.marks (RestsAt places.ContentLess s) 47 (record s { place = places.EndSpace })
end_empty s n rest e f k = moves s.marks (RestsAt places.ContentLess s) 47 (record s { place = places.EndSpace }) refl (λ l h. h) k (λ u l x es.
    let w : Insides 0 s.names u (60 ∷ 47 ∷ x) es ↔ Word [] (EndOver s.names u) x es = subst (λ z. Insides 0 s.names u (60 ∷ 47 ∷ x) es ↔ Word z (EndOver s.names u) x es) f (end_both u s.names n rest x es e) in
    let o = word_over (EndOver s.names u) x es in (λ h. o.0 (w.0 h), λ h. w.1 (o.1 h)))

-- the fields
pub field_ends : (u : TreeTerms) (s : MachineState) (b : ℕ) (x : List ℕ) (es : List Mark) → (IsSpace b → ⊥) → NoNextField s.field b → RestsAt places.FieldSpace s u (b ∷ x) es ↔ EndsBehind s.field u (b ∷ x) es
field_ends u s b x es n m = let a = spaces_over (Choice s.field u) b x es n in let c = choice_ends u s.field b x es m in (λ h. c.0 (a.0 h), λ h. a.1 (c.1 h))

-- behind an element
insides_any : (u : TreeTerms) (names : List (List ℕ)) (x : List ℕ) (es : List Mark) → names ≢ [] → Between 0 names u x es ↔ Insides 0 names u x es
insides_any u [] x es n = absurd (n refl)
insides_any u (m ∷ names) x es n = (λ h. h, λ h. h)

pub over_child : (s : MachineState) → InElement s.names s.kept → ReachesState s.marks (Between 0 s.names) (record s { place = places.Content; count = 0 })
over_child s k = stays s.marks (Between 0 s.names) (record s { place = places.Content; count = 0 }) refl (λ h. h) k (λ u l x es. insides_any u s.names x es k.1)

-- the fields
pub space_stays : (s : MachineState) (b : ℕ) → s.place ≡ places.FieldSpace → Outer s → IsSpace b → FollowsByte s.marks (RestsAt places.FieldSpace s) b s
space_stays s b p o i = moves_at s.marks (RestsAt places.FieldSpace s) b s places.FieldSpace p refl (λ l h. h) o (λ u l x es. spaces_more (Choice s.field u) b x es i (λ k. choice_not_space u s.field b x es i k))

pub field_moves : (s : MachineState) (b : ℕ) (g : Field) (word : List ℕ) (new : MachineState) → new ≡ record s { field = g; place = places.Word; left = word; goal = goals.Field } → Outer s → (IsSpace b → ⊥) → IsNextField s.field g × (b ≡ first_letter g) → field_name g ≡ first_letter g ∷ word → word ≢ [] → FollowsByte s.marks (RestsAt places.FieldSpace s) b new
field_moves s b g word new q o n i e m = moves_word s.marks (RestsAt places.FieldSpace s) b (record s { field = g }) goals.Field word new q refl (λ l h. h) m ((subst (Each IsPrintable) e (field_printable g)).1) (o, next_not_before s.field g i.0) (λ u l x es.
    let a = spaces_over (Choice s.field u) b x es n in
    let c = subst (λ z. Choice s.field u (z ∷ x) es ↔ Word word (FieldOver u g (Gap g u)) x es) (sym i.1) (choice_next u s.field g word x es i.0 e) in
    (λ h. c.0 (a.0 h), λ h. a.1 (c.1 h)))
