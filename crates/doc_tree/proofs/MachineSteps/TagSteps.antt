-- Steps of states in a start tag, an end tag and a field's value.
use Rattle.doc_tree.proofs.Words.{Aim, Attribute, BehindKey, BehindValue, Between, Emptied, EndOver, EndRest, Field, Finish, FollowsByte, Foreign, Gap, Good, GoodTag, InBody, InKey, InTag, Inside, Insides, IsAmong, IsEncodingName, IsFieldValue, IsNameRest, IsNameStart, IsPrintable, IsSpace, IsUtf8Name, IsValueBegun, List, Mark, Part, ReachesState, RestsAt, Saying, Start, MachineState, Stuck, TagChoice, TreeTerms, Word, [], any, ap, append_assoc, arith, depth_left, length, local_part, readable, refl, special, subst, sym, ℕ, ◌++◌, ◌-◌, ◌↔◌, ◌∙◌, ◌∷◌, ◌≡◌, ◌≢◌}
use Rattle.doc_tree.specs.declared.declaration.Field.TheVariants as fieldkinds
use Rattle.doc_tree.specs.declared.names.Part.TheVariants as parts
use Rattle.doc_tree.specs.declared.machine.Place.TheVariants as places
use Rattle.doc_tree.proofs.MachineSteps.Moves.{moves, moves_at, follows_saying, reached_saying}
use Rattle.doc_tree.proofs.ByteGrammar.{body_open, choice_ends, choice_key, equals_sign, key_high, name_next, name_over, next_printable, not_space, space_low, spaces_more, spaces_over, tag_high, value_char, value_space, word_first, word_last}
use Rattle.doc_tree.proofs.MachineSteps.Steps.{KQ, at_byte, at_here}
use Rattle.doc_tree.proofs.MachineSteps.FieldSteps as fields
use Rattle.doc_tree.proofs.MachineSteps.FieldValues.{any_aim, each_longer}

-- a field's value, whichever encodings may be named
every_aim : (f : Field) (v : List ℕ) → IsFieldValue readable f v → (aim : Aim) → IsFieldValue aim f v
every_aim fieldkinds.Encoding v h any = (h.0, tt)
every_aim fieldkinds.Encoding v h special = (h.0, tt)
every_aim _ v h _ = h

pub no_aim : (f : Field) (v : List ℕ) → (IsFieldValue readable f v → ⊥) → (f ≡ fieldkinds.Encoding → IsEncodingName v → (IsUtf8Name v → ⊥) → ⊥) → (aim : Aim) → IsFieldValue aim f v → ⊥
no_aim fieldkinds.Before v n p aim h = h
no_aim fieldkinds.Encoding v n p any h = p refl h.0 (λ q. n (h.0, q))
no_aim fieldkinds.Encoding v n p special h = p refl h.0 (λ q. n (h.0, q))
no_aim _ v n p _ h = n h

-- a value that is read ends no text
not_foreign : (u : TreeTerms) (f : Field) (v : List ℕ) → IsFieldValue readable f v → (r : List ℕ) (es : List Mark) → Foreign u f v r es → ⊥
not_foreign u f v h r es k = let i : IsFieldValue readable fieldkinds.Encoding v = subst (λ z. IsFieldValue readable z v) k.is h in k.other i.1

pub field_stays : (s : MachineState) (b : ℕ) (v : List ℕ) → v ≡ s.value ++ (b ∷ []) → s.place ≡ places.FieldValue → Good places.FieldValue s → b ≢ s.quote → IsValueBegun s.field (s.value ++ (b ∷ [])) → FollowsByte s.marks (RestsAt places.FieldValue s) b (record s { value = v })
field_stays s b v e p g n i = subst (λ z. FollowsByte s.marks (RestsAt places.FieldValue s) b (record s { value = z })) (sym e) (moves_at s.marks (RestsAt places.FieldValue s) b (record s { value = s.value ++ (b ∷ []) }) places.FieldValue p refl (λ l h. h) (g.0, g.1, i) (λ u l x es. fields.value_more u s.field (Gap s.field u) s.value s.quote b x es n))

pub field_over : (s : MachineState) (b : ℕ) → b ≡ s.quote → Good places.FieldValue s → IsFieldValue readable s.field s.value → FollowsByte s.marks (RestsAt places.FieldValue s) b (record s { place = places.FieldGap })
field_over s b e g i = at_byte s.marks (RestsAt places.FieldValue s) b s.quote (record s { place = places.FieldGap }) e (moves s.marks (RestsAt places.FieldValue s) s.quote (record s { place = places.FieldGap }) refl (λ l h. h) g.0 (λ u l x es. fields.value_over u s.field (Gap s.field u) s.value s.quote x es g.1 (every_aim s.field s.value i u.aim) (not_foreign u s.field s.value i x es)))

-- a name may end here
part_ends : (p : Part) → p ≢ parts.Colon → IsNameRest p []
part_ends parts.Colon n = absurd (n refl)
part_ends _ n = tt

-- a start tag's name
pub tag_more : (s : MachineState) (b : ℕ) (name : List ℕ) (q : Part) → name ≡ s.name ++ (b ∷ []) → s.place ≡ places.TagName → Good places.TagName s → ((run : List ℕ) → IsNameRest s.part (b ∷ run) ↔ IsNameRest q run) → FollowsByte s.marks (RestsAt places.TagName s) b (record s { name = name; part = q })
tag_more s b name q e p g f = subst (λ z. FollowsByte s.marks (RestsAt places.TagName s) b (record s { name = z; part = q })) (sym e) (moves_at s.marks (RestsAt places.TagName s) b (record s { name = s.name ++ (b ∷ []); part = q }) places.TagName p refl (λ l h. h) (g.0, g.1, (each_longer IsPrintable s.name b g.2.0 (next_printable s.part q b f), g.2.1)) (λ u l x es. name_next (λ m. InTag s m u) s.name s.part q b x es f (λ m y fs i h. tag_high u s b m y fs i h)))

pub tag_named : (u : TreeTerms) (s : MachineState) (b : ℕ) (x : List ℕ) (es : List Mark) → s.part ≢ parts.Colon → ((run : List ℕ) → IsNameRest s.part (b ∷ run) → ⊥) → RestsAt places.TagName s u (b ∷ x) es ↔ InTag s s.name u (b ∷ x) es
tag_named u s b x es n f = name_over (λ m. InTag s m u) s.name s.part b x es f (part_ends s.part n)

-- white space, an attribute, or the end
pub key_begins : (s : MachineState) (b : ℕ) (key : List ℕ) → key ≡ b ∷ [] → GoodTag s → (IsSpace b → ⊥) → IsNameStart b → FollowsByte s.marks (RestsAt places.TagSpace s) b (record s { key = key; part = parts.First; place = places.Key })
key_begins s b key e g n i = subst (λ z. FollowsByte s.marks (RestsAt places.TagSpace s) b (record s { key = z; part = parts.First; place = places.Key })) (sym e) (moves s.marks (RestsAt places.TagSpace s) b (record s { key = b ∷ []; part = parts.First; place = places.Key }) refl (λ l h. h) g (λ u l x es.
    let a = spaces_over (TagChoice s u) b x es n in let c = choice_key u s b x es i in (λ h. c.0 (a.0 h), λ h. a.1 (c.1 h))))

pub space_ends : (u : TreeTerms) (s : MachineState) (b : ℕ) (x : List ℕ) (es : List Mark) → (IsSpace b → ⊥) → (IsNameStart b → ⊥) → RestsAt places.TagSpace s u (b ∷ x) es ↔ InBody s u (b ∷ x) es
space_ends u s b x es n m = let a = spaces_over (TagChoice s u) b x es n in let c = choice_ends u s b x es m in (λ h. c.0 (a.0 h), λ h. a.1 (c.1 h))

-- an attribute's name
pub key_more : (s : MachineState) (b : ℕ) (key : List ℕ) (q : Part) → key ≡ s.key ++ (b ∷ []) → s.place ≡ places.Key → GoodTag s → ((run : List ℕ) → IsNameRest s.part (b ∷ run) ↔ IsNameRest q run) → FollowsByte s.marks (RestsAt places.Key s) b (record s { key = key; part = q })
key_more s b key q e p g f = subst (λ z. FollowsByte s.marks (RestsAt places.Key s) b (record s { key = z; part = q })) (sym e) (moves_at s.marks (RestsAt places.Key s) b (record s { key = s.key ++ (b ∷ []); part = q }) places.Key p refl (λ l h. h) g (λ u l x es. name_next (InKey s u) s.key s.part q b x es f (λ m y fs i h. key_high u s b m y fs i h)))

pub key_named : (u : TreeTerms) (s : MachineState) (b : ℕ) (x : List ℕ) (es : List Mark) → s.part ≢ parts.Colon → ((run : List ℕ) → IsNameRest s.part (b ∷ run) → ⊥) → RestsAt places.Key s u (b ∷ x) es ↔ BehindKey s u (b ∷ x) es
key_named u s b x es n f = name_over (InKey s u) s.key s.part b x es f (part_ends s.part n)

pub key_equals : (s : MachineState) (b : ℕ) → b ≡ 61 → GoodTag s → (IsAmong s.key s.keys → ⊥) → FollowsByte s.marks (BehindKey s) b (record s { place = places.KeyQuote })
key_equals s b e g n = at_byte s.marks (BehindKey s) b 61 (record s { place = places.KeyQuote }) e (moves s.marks (BehindKey s) 61 (record s { place = places.KeyQuote }) refl (λ l h. h) (n, g) (λ u l x es. let k = equals_sign (KQ s u) x es in (λ h. k.0 h.over, λ h. record { new = n; over = k.1 h })))

-- the tag's end
room_less : (u : TreeTerms) (names : List (List ℕ)) (n : List ℕ) → depth_left u names - 1 ≡ depth_left u (n ∷ names)
room_less u names n = let l = length names in omega arith

pub tag_opens : (s : MachineState) (b : ℕ) (names : List (List ℕ)) (name l : List ℕ) (kept : List Attribute) (marks : List Mark) → b ≡ 62 → names ≡ s.name ∷ s.names → l ≡ local_part s.name → marks ≡ s.marks ++ (Start l s.kept ∷ []) → kept ≡ [] → GoodTag s → FollowsByte s.marks (InBody s) b (record s { place = places.Content; names = names; name = name; count = 0; kept = kept; marks = marks })
tag_opens s b names name l kept marks e f g m k d =
    let T : List (List ℕ) → MachineState = λ ns. record s { place = places.Content; names = ns; name = name; count = 0; kept = kept; marks = marks } in
    let n2 : List (List ℕ) = s.name ∷ s.names in
    let m2 : marks ≡ s.marks ++ (Start (local_part s.name) s.kept ∷ []) = m ∙ ap (λ z. s.marks ++ (Start z s.kept ∷ [])) g in
    at_byte s.marks (InBody s) b 62 (T names) e (subst (λ z. FollowsByte s.marks (InBody s) 62 (T z)) (sym f) (follows_saying s.marks (Start (local_part s.name) s.kept ∷ []) (InBody s) (Insides 0 n2) 62 (T n2)
    (λ u d x es. subst (λ r. InBody s u (62 ∷ x) es ↔ Saying (Start (local_part s.name) s.kept ∷ []) (Inside r 0 s.name (Between 0 s.names u)) x es) (room_less u s.names s.name) (body_open (depth_left u s.names - 1) s.name s.kept (Between 0 s.names u) x es))
    (subst (λ z. ReachesState z (Insides 0 n2) (T n2)) m2 (at_here (T n2) refl (k, (λ z. cc), d)))))

-- an end tag
end_space_any : (u : TreeTerms) (names : List (List ℕ)) (b : ℕ) (x : List ℕ) (es : List Mark) → IsSpace b → EndOver names u (b ∷ x) es ↔ EndOver names u x es
end_space_any u [] b x es i = (λ h. h, λ h. h)
end_space_any u (n ∷ names) b x es i = spaces_more (Word (62 ∷ []) (Saying (Finish (local_part n) ∷ []) (Between 0 names u))) b x es i (λ w. let e = (word_first (Saying (Finish (local_part n) ∷ []) (Between 0 names u)) 62 [] b x es w).0 in let l = space_low b i in omega arith)

pub end_stays : (s : MachineState) (b : ℕ) → s.place ≡ places.EndSpace → Good places.EndSpace s → IsSpace b → FollowsByte s.marks (RestsAt places.EndSpace s) b s
end_stays s b p g i = moves_at s.marks (RestsAt places.EndSpace s) b s places.EndSpace p refl (λ l h. h) g (λ u l x es. end_space_any u s.names b x es i)

pub end_no : (u : TreeTerms) (names : List (List ℕ)) (b : ℕ) (x : List ℕ) (es : List Mark) → (IsSpace b → ⊥) → b ≢ 62 → EndOver names u (b ∷ x) es → ⊥
end_no u [] b x es n m h = h
end_no u (k ∷ names) b x es n m h = let S : List ℕ → List Mark → Type 0 = Saying (Finish (local_part k) ∷ []) (Between 0 names u) in m (word_first S 62 [] b x es ((spaces_over (Word (62 ∷ []) S) b x es n).0 h)).0

end_sign : (u : TreeTerms) (k : List ℕ) (names : List (List ℕ)) (x : List ℕ) (es : List Mark) → EndRest k (Between 0 names u) (62 ∷ x) es ↔ Saying (Finish (local_part k) ∷ []) (Between 0 names u) x es
end_sign u k names x es = let a = spaces_over (Word (62 ∷ []) (Saying (Finish (local_part k) ∷ []) (Between 0 names u))) 62 x es (not_space 62 (omega arith)) in let c = word_last (Saying (Finish (local_part k) ∷ []) (Between 0 names u)) 62 x es in (λ h. c.0 (a.0 h), λ h. a.1 (c.1 h))

pub end_over : (s : MachineState) (b : ℕ) (k : List ℕ) (names : List (List ℕ)) (l : List ℕ) (marks : List Mark) (new : MachineState) → b ≡ 62 → s.names ≡ k ∷ names → l ≡ local_part k → marks ≡ s.marks ++ (Finish l ∷ []) → ReachesState marks (Between 0 names) new → FollowsByte s.marks (RestsAt places.EndSpace s) b new
end_over s b k names l marks new e f g m r =
    let m2 : marks ≡ s.marks ++ (Finish (local_part k) ∷ []) = m ∙ ap (λ z. s.marks ++ (Finish z ∷ [])) g in
    at_byte s.marks (RestsAt places.EndSpace s) b 62 new e (follows_saying s.marks (Finish (local_part k) ∷ []) (RestsAt places.EndSpace s) (Between 0 names) 62 new
    (λ u d x es. subst (λ z. EndOver z u (62 ∷ x) es ↔ Saying (Finish (local_part k) ∷ []) (Between 0 names u) x es) (sym f) (end_sign u k names x es))
    (subst (λ z. ReachesState z (Between 0 names) new) m2 r))

-- an attribute's value
pub value_spaced : (s : MachineState) (b : ℕ) (v : List ℕ) → v ≡ s.value ++ (32 ∷ []) → s.place ≡ places.Value → Good places.Value s → IsSpace b → FollowsByte s.marks (RestsAt places.Value s) b (record s { value = v })
value_spaced s b v e p g i = subst (λ z. FollowsByte s.marks (RestsAt places.Value s) b (record s { value = z })) (sym e) (moves_at s.marks (RestsAt places.Value s) b (record s { value = s.value ++ (32 ∷ []) }) places.Value p refl (λ l h. h) g (λ u d x es. value_space s.quote s.value (λ v. BehindValue s v u) b x es g.1 i))

pub value_said : (s : MachineState) (b : ℕ) (v : List ℕ) → v ≡ s.value ++ (b ∷ []) → s.place ≡ places.Value → Good places.Value s → b ≢ s.quote → b ≢ 60 → b ≢ 38 → (IsSpace b → ⊥) → FollowsByte s.marks (RestsAt places.Value s) b (record s { value = v })
value_said s b v e p g q l a n = subst (λ z. FollowsByte s.marks (RestsAt places.Value s) b (record s { value = z })) (sym e) (moves_at s.marks (RestsAt places.Value s) b (record s { value = s.value ++ (b ∷ []) }) places.Value p refl (λ l h. h) g (λ u d x es. value_char s.quote s.value (λ v. BehindValue s v u) b x es q l a n))

-- an empty-element tag
pub tag_emptied : (s : MachineState) (l1 l2 : List ℕ) (m1 m2 : List Mark) (new : MachineState) → l1 ≡ local_part s.name → l2 ≡ local_part s.name → m1 ≡ s.marks ++ (Start l1 s.kept ∷ []) → m2 ≡ m1 ++ (Finish l2 ∷ []) → ReachesState m2 (Between 0 s.names) new → ReachesState s.marks (Emptied s) new
tag_emptied s l1 l2 m1 m2 new e f g h r =
    let L = local_part s.name in
    let k : m2 ≡ s.marks ++ (Start L s.kept ∷ Finish L ∷ []) = h ∙ ap (λ z. z ++ (Finish l2 ∷ [])) g ∙ append_assoc s.marks (Start l1 s.kept ∷ []) (Finish l2 ∷ []) ∙ ap (λ z. s.marks ++ (Start z s.kept ∷ Finish l2 ∷ [])) e ∙ ap (λ z. s.marks ++ (Start L s.kept ∷ Finish z ∷ [])) f in
    reached_saying s.marks (Start L s.kept ∷ Finish L ∷ []) (Emptied s) (Between 0 s.names) new (λ u d x es. (λ z. z, λ z. z)) (subst (λ z. ReachesState z (Between 0 s.names) new) k r)

pub field_none : (s : MachineState) (b : ℕ) → b ≢ s.quote → (IsValueBegun s.field (s.value ++ (b ∷ [])) → ⊥) → Stuck (RestsAt places.FieldValue s) b
field_none s b n m = record { none = λ u d x es h. let k = (fields.value_more u s.field (Gap s.field u) s.value s.quote b x es n).0 h in m (k.run, any_aim u.aim s.field ((s.value ++ (b ∷ [])) ++ k.run) k.is) }
