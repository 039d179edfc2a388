-- Where a document type shows, and an encoding that isn't read.
use Rattle.doc_tree.proofs.ByteGrammar.{quote_range}
use Rattle.doc_tree.proofs.Words.{After, Aim, Around, Before, Blocks, BodyRest, Bool, Completes, Continues, Declaration, Equals, FieldValue, Finish, Finishes, Foreign, ForeignRest, Gap, Good, IsDeclarationRead, IsDoctype, IsDoctypeAt, IsEncodingAt, IsFieldValue, IsOther, IsQuote, IsReadEncoding, List, Mark, Misc, RestsAt, Start, MachineState, Tag, TreeTerms, Version, Whole, [], any, ap, append-nil, arith, begins_with_line_feed, closed, codes, cond, declaration_text, declared, encoded, equals_text, false, inl, inr, length, length-append, mark_text, misc_over, misc_text, no_attribute, normal_lines, refl, special, subst, sym, true, unread, version_text, ℕ, ◌++◌, ◌<◌, ◌==◌, ◌∙◌, ◌∷◌, ◌≡◌, ◌≤◌, ◌⊎◌}
use Rattle.doc_tree.specs.declared.declaration.Field.TheVariants as fields
use Rattle.doc_tree.specs.declared.machine.Place.TheVariants as places
use Rattle.doc_tree.proofs.TextTrees.LineFeeds.{allowed, continues_end}
use Rattle.doc_tree.proofs.Viability.Continuations.{Carries, behind_run, both_carry, mark_carries, declaration_carries, version_carries, equals_carries, misc_carries}
use Rattle.doc_tree.proofs.Viability.Specials.{plain_line, doctype_stops}
use Rattle.doc_tree.proofs.MachineSteps.{value_back, value_valued}
use Rattle.doc_tree.proofs.Viability.Endings.{gap_lasts, not_over}
use Rattle.doc_tree.proofs.TextTrees.Wholes.{Held, Typed, Foreigned, Texts, held, typed, foreign, texts_of, held_of, whole_of, document_marks}

-- what stands before the last byte
not_nothing : (ys : List ℕ) (c : ℕ) → [] ≡ ys ++ (c ∷ []) → ⊥
not_nothing [] c e = absurd (cc)
not_nothing (y ∷ ys) c e = absurd (cc)

last_same : (xs ys : List ℕ) (b c : ℕ) → xs ++ (b ∷ []) ≡ ys ++ (c ∷ []) → (xs ≡ ys) × (b ≡ c)
last_same [] [] b c e = (refl, cc)
last_same [] (y ∷ ys) b c e = absurd (not_nothing ys c (cc))
last_same (x ∷ xs) [] b c e = absurd (not_nothing xs b (cc))
last_same (x ∷ xs) (y ∷ ys) b c e = let r = last_same xs ys b c (cc) in let p = r.0 in (cc, r.1)

-- line ends before a byte that is none
begins_so : (b : ℕ) (cs : List ℕ) → 13 < b → begins_with_line_feed (cs ++ (b ∷ [])) ≡ begins_with_line_feed cs
begins_so b [] l = grind arith
begins_so b (c ∷ cs) l = refl

choose_carries : (p q : Bool) (c : ℕ) (x k : List ℕ) → cond p (cond q (x ++ k) (10 ∷ (x ++ k))) (c ∷ (x ++ k)) ≡ cond p (cond q x (10 ∷ x)) (c ∷ x) ++ k
choose_carries true true c x k = refl
choose_carries _ _ c x k = refl

lines_so : (b : ℕ) (seen : List ℕ) → 13 < b → normal_lines (seen ++ (b ∷ [])) ≡ normal_lines seen ++ (b ∷ [])
lines_so b [] l = plain_line false b [] l
lines_so b (c ∷ cs) l =
    let N = normal_lines (cs ++ (b ∷ [])) in
    ap (λ z. cond (c == 13) (cond z N (10 ∷ N)) (c ∷ N)) (begins_so b cs l) ∙ (ap (λ z. cond (c == 13) (cond (begins_with_line_feed cs) z (10 ∷ z)) (c ∷ z)) (lines_so b cs l) ∙ choose_carries (c == 13) (begins_with_line_feed cs) c (normal_lines cs) (b ∷ []))

-- texts that end with a document type's `D` or an encoding's quote
abbrev pub specials : TreeTerms
specials = record { depth = 32; aim = special }

-- documents of any encoding
abbrev pub named : TreeTerms
named = record { depth = 32; aim = any }

read_free : (aim : Aim) → ((name : List ℕ) → IsReadEncoding aim name) → (d : Declaration) → IsDeclarationRead aim d
read_free aim f (declared v (encoded b p e quote i name n) s space sp) = f name
read_free aim f _ = tt

-- before a document type
abbrev type_text : Bool → Declaration → Misc → List ℕ → List ℕ
type_text m d misc k = mark_text m (declaration_text d (misc_text misc k))

type_carries : (m : Bool) (d : Declaration) (misc : Misc) → Carries (type_text m d misc)
type_carries m d misc = both_carry (mark_text m) (λ k. declaration_text d (misc_text misc k)) (mark_carries m) (both_carry (declaration_text d) (misc_text misc) (declaration_carries d) (misc_carries misc))

-- before an encoding's quote
abbrev name_text : Bool → Version → List ℕ → Equals → List ℕ → List ℕ
name_text m v space e k = mark_text m (codes "<?xml" ++ version_text v (space ++ (codes "encoding" ++ equals_text e k)))

name_carries : (m : Bool) (v : Version) (space : List ℕ) (e : Equals) → Carries (name_text m v space e)
name_carries m v space e =
    let w : Carries (λ k. codes "encoding" ++ equals_text e k) = behind_run (codes "encoding") (equals_text e) (equals_carries e) in
    let s : Carries (λ k. space ++ (codes "encoding" ++ equals_text e k)) = behind_run space (λ k. codes "encoding" ++ equals_text e k) w in
    let a : Carries (λ k. version_text v (space ++ (codes "encoding" ++ equals_text e k))) = both_carry (version_text v) (λ k. space ++ (codes "encoding" ++ equals_text e k)) (version_carries v) s in
    let b : Carries (λ k. codes "<?xml" ++ version_text v (space ++ (codes "encoding" ++ equals_text e k))) = behind_run (codes "<?xml") (λ k. version_text v (space ++ (codes "encoding" ++ equals_text e k))) a in
    both_carry (mark_text m) (λ k. codes "<?xml" ++ version_text v (space ++ (codes "encoding" ++ equals_text e k))) (mark_carries m) b

-- Behind the bytes seen this byte shows one of them.
abbrev pub IsShownAt : List ℕ → ℕ → Type 0
IsShownAt seen b = IsDoctypeAt seen b ⊎ IsEncodingAt seen b

shown_high : (seen : List ℕ) (b : ℕ) → IsShownAt seen b → 13 < b
shown_high seen b (inl h) = let e = h.letter in omega arith
shown_high seen b (inr h) = let l = (quote_range b h.quoted).0 in omega arith

-- such a text is complete
shown_text : (seen : List ℕ) (b : ℕ) → IsShownAt seen b → Whole specials (normal_lines seen ++ (b ∷ [])) []
shown_text seen b (inl h) =
    let e : normal_lines seen ++ (b ∷ []) ≡ type_text h.mark h.declaration h.misc (codes "<!D") = ap (λ z. z ++ (b ∷ [])) h.text ∙ (ap (λ z. type_text h.mark h.declaration h.misc (codes "<!") ++ (z ∷ [])) h.letter ∙ sym (type_carries h.mark h.declaration h.misc (codes "<!") (68 ∷ []))) in
    record {
      mark = h.mark;
      behind = declaration_text h.declaration (misc_text h.misc (codes "<!D"));
      text = e;
      after = inl (record { declaration = h.declaration; read = read_free special (λ n. tt) h.declaration; behind = misc_text h.misc (codes "<!D"); text = refl; after = record { misc = h.misc; behind = codes "!D"; text = refl; after = inr (record { special = tt; text = refl; says = refl }) } });
    }
shown_text seen b (inr h) =
    let e : normal_lines seen ++ (b ∷ []) ≡ name_text h.mark h.version h.space h.equals (b ∷ (h.name ++ (b ∷ []))) = ap (λ z. z ++ (b ∷ [])) h.text ∙ sym (name_carries h.mark h.version h.space h.equals (b ∷ h.name) (b ∷ [])) in
    let x = h.space ++ (codes "encoding" ++ equals_text h.equals (b ∷ (h.name ++ (b ∷ [])))) in
    let f : ForeignRest specials x [] = record { special = tt; space = h.space; spaced = h.spaced; equals = h.equals; quote = b; quoted = h.quoted; name = h.name; named = h.named; other = h.other; text = refl; says = refl } in
    record {
      mark = h.mark;
      behind = codes "<?xml" ++ version_text h.version x;
      text = e;
      after = inr (record { behind = version_text h.version x; text = refl; after = record { version = h.version; behind = x; text = refl; after = f } });
    }

shown_whole : (seen : List ℕ) (b : ℕ) → IsShownAt seen b → Whole specials (normal_lines (seen ++ (b ∷ []))) []
shown_whole seen b h = subst (λ z. Whole specials z []) (sym (lines_so b seen (shown_high seen b h))) (shown_text seen b h)

-- and no other is, but a document
typed_at : (seen : List ℕ) (b : ℕ) (marks : List Mark) → Typed specials (normal_lines seen ++ (b ∷ [])) marks → IsDoctypeAt seen b
typed_at seen b marks h =
    let p = last_same (normal_lines seen) (type_text h.mark h.declaration h.misc (codes "<!")) b 68 (h.same ∙ type_carries h.mark h.declaration h.misc (codes "<!") (68 ∷ [])) in
    record { mark = h.mark; declaration = h.declaration; misc = h.misc; text = p.0; letter = p.1 }

foreign_at : (seen : List ℕ) (b : ℕ) (marks : List Mark) → Foreigned specials (normal_lines seen ++ (b ∷ [])) marks → IsEncodingAt seen b
foreign_at seen b marks h =
    let f : ForeignRest specials h.behind marks = h.after in
    let e : normal_lines seen ++ (b ∷ []) ≡ name_text h.mark h.version f.space f.equals (f.quote ∷ (f.name ++ (f.quote ∷ []))) = h.same ∙ ap (λ z. mark_text h.mark (codes "<?xml" ++ version_text h.version z)) f.text in
    let p = last_same (normal_lines seen) (name_text h.mark h.version f.space f.equals (f.quote ∷ f.name)) b f.quote (e ∙ name_carries h.mark h.version f.space f.equals (f.quote ∷ f.name) (f.quote ∷ [])) in
    record {
      mark = h.mark;
      version = h.version;
      space = f.space;
      spaced = f.spaced;
      equals = f.equals;
      quoted = subst IsQuote (sym p.1) f.quoted;
      name = f.name;
      named = f.named;
      other = f.other;
      text = p.0 ∙ ap (λ z. name_text h.mark h.version f.space f.equals (z ∷ f.name)) (sym p.1);
    }

shown_of : (seen : List ℕ) (b : ℕ) (marks : List Mark) → (Held specials (normal_lines seen ++ (b ∷ [])) marks → ⊥) → Texts specials (normal_lines seen ++ (b ∷ [])) marks → IsShownAt seen b
shown_of seen b marks n (held h) = absurd (n h)
shown_of seen b marks n (typed h) = inl (typed_at seen b marks h)
shown_of seen b marks n (foreign h) = inr (foreign_at seen b marks h)

module _ (s : MachineState) (returned : Bool) (seen : List ℕ) (b : ℕ) (l : 13 < b) (c : Continues s returned seen) where
  last_line : normal_lines (unread returned (b ∷ [])) ≡ b ∷ []
  last_line = plain_line returned b [] l

  -- a document would end with this byte
  held_ends : (marks : List Mark) → Held specials (normal_lines seen ++ (b ∷ [])) marks → (es : List Mark) × RestsAt s.place s named (b ∷ []) es
  held_ends marks h =
      let w : Whole named (normal_lines (seen ++ (b ∷ []))) (document_marks h.document) = subst (λ z. Whole named z (document_marks h.document)) (sym h.same ∙ sym (lines_so b seen l)) (whole_of named h.document h.room h.deep (read_free any (λ n. tt) h.document.declaration)) in
      let k : Finishes s returned named (b ∷ []) (document_marks h.document) = (c.same named allowed (b ∷ []) (document_marks h.document)).0 w in
      (k.later, subst (λ z. RestsAt s.place s named z k.later) last_line k.rest)

  -- where a special text ends with the byte, and no document
  shown_here : RestsAt s.place s specials (b ∷ []) [] → ((es : List Mark) → RestsAt s.place s named (b ∷ []) es → ⊥) → IsShownAt seen b
  shown_here h n =
      let says = s.marks ++ [] in
      let k : Finishes s returned specials (b ∷ []) says = record { later = []; whole = refl; rest = subst (λ z. RestsAt s.place s specials z []) (sym last_line) h } in
      let w : Whole specials (normal_lines seen ++ (b ∷ [])) says = subst (λ z. Whole specials z says) (lines_so b seen l) ((c.same specials allowed (b ∷ []) says).1 k) in
      shown_of seen b says (λ g. let p = held_ends says g in n p.0 p.1) (texts_of specials (normal_lines seen ++ (b ∷ [])) says w)

-- a document can't end with the quote
no_gap : (s : MachineState) (b : ℕ) → IsOther s b → IsQuote s.quote → (es : List Mark) → RestsAt s.place s named (b ∷ []) es → ⊥
no_gap s b o q es h =
    let e : b ≡ s.quote = o.2 in
    let f : FieldValue named s.field (Gap s.field named) s.value s.quote (s.quote ∷ []) es = subst (λ z. RestsAt places.FieldValue s named (z ∷ []) es) e (subst (λ z. RestsAt z s named (b ∷ []) es) o.0 h) in
    elim (value_valued named s.field (Gap s.field named) s.value s.quote [] es q f) [ inl k ↦ gap_lasts named s.field es k | inr k ↦ k.special ]

not_letter : (q : ℕ) → IsQuote q → q ≡ 68 → ⊥
not_letter q i e = grind arith

nothing_behind : (t : TreeTerms) → After t [] []
nothing_behind t = record { misc = misc_over; text = refl; says = refl }

-- a document says something
nothing_said : (s : MachineState) (returned : Bool) (bytes : List ℕ) → Continues s returned bytes → s.place ≡ places.Epilog → Completes s specials [] [] → ⊥
nothing_said s returned bytes c e k =
    let r : RestsAt s.place s named [] [] = subst (λ z. RestsAt z s named [] []) (sym e) (nothing_behind named) in
    let d : Completes s named [] s.marks = record { later = []; whole = sym (append-nil s.marks); rest = r } in
    let w : Held named (normal_lines bytes) s.marks = held_of named (normal_lines bytes) s.marks (λ i. i) ((continues_end s returned bytes c named allowed s.marks).1 d) in
    let a : [] ≡ document_marks w.document ++ k.later = k.whole ∙ ap (λ z. z ++ k.later) w.says in
    absurd (cc)

-- Where the machine stands before the `D` of a document type.
pub doctype_at : (s : MachineState) (returned : Bool) (seen : List ℕ) (b : ℕ) → IsDoctype s b → Continues s returned seen → IsDoctypeAt seen b
doctype_at s returned seen b d c =
    let e : b ≡ 68 = d.2 in
    let l : 13 < b = omega arith in
    let r : Before specials (60 ∷ 33 ∷ 68 ∷ []) [] = record { misc = misc_over; behind = codes "!D"; text = refl; after = inr (record { special = tt; text = refl; says = refl }) } in
    let a : Around s.round s.names specials (60 ∷ 33 ∷ 68 ∷ []) [] = subst (λ z. Around z s.names specials (60 ∷ 33 ∷ 68 ∷ []) []) (sym d.1) r in
    let h : RestsAt s.place s specials (b ∷ []) [] = subst (λ z. RestsAt z s specials (b ∷ []) []) (sym d.0) (subst (λ z. RestsAt places.Bang s specials (z ∷ []) []) (sym e) a) in
    elim (shown_here s returned seen b l c h (λ es k. doctype_stops s b d named (λ i. i) [] es k)) [
      | inl p ↦ p
      | inr p ↦ absurd (not_letter b p.quoted e)
    ]

-- Where it stands before the closing quote of an encoding that isn't read.
pub encoding_at : (s : MachineState) (returned : Bool) (seen : List ℕ) (b : ℕ) → IsOther s b → Continues s returned seen → IsEncodingAt seen b
encoding_at s returned seen b o c =
    let g : Good places.FieldValue s = subst (λ z. Good z s) o.0 c.good in
    let q : IsQuote s.quote = g.1 in
    let m = (quote_range s.quote q).0 in
    let e : b ≡ s.quote = o.2 in
    let l : 13 < b = omega arith in
    let i : IsFieldValue special s.field s.value = subst (λ z. IsFieldValue special z s.value) (sym o.1) (o.3, tt) in
    let f : Foreign specials s.field s.value [] [] = record { special = tt; is = o.1; other = o.4; text = refl; says = refl } in
    let r : RestsAt places.FieldValue s specials (s.quote ∷ []) [] = value_back specials s.field (Gap s.field specials) s.value s.quote [] [] i (inr f) in
    let h : RestsAt s.place s specials (b ∷ []) [] = subst (λ z. RestsAt z s specials (b ∷ []) []) (sym o.0) (subst (λ z. RestsAt places.FieldValue s specials (z ∷ []) []) (sym e) r) in
    elim (shown_here s returned seen b l c h (λ es k. no_gap s b o q es k)) [
      | inl p ↦ (let d = p.letter in absurd (not_letter s.quote q (sym e ∙ d)))
      | inr p ↦ p
    ]

-- A byte that was taken shows neither.
pub taken_plain : (s : MachineState) (returned : Bool) (seen : List ℕ) (b : ℕ) → Continues s returned (seen ++ (b ∷ [])) → IsShownAt seen b → ⊥
taken_plain s returned seen b c h =
    let k : Completes s specials [] [] = (continues_end s returned (seen ++ (b ∷ [])) c specials allowed []).0 (shown_whole seen b h) in
    not_over specials s (λ e. nothing_said s returned (seen ++ (b ∷ [])) c e k) c.good [] k

-- Nor does one that was refused.
pub refused_plain : (s : MachineState) (returned : Bool) (seen : List ℕ) (b : ℕ) → Continues s returned seen → Blocks s returned b → IsShownAt seen b → ⊥
refused_plain s returned seen b c n h = n specials allowed [] [] ((c.same specials allowed (b ∷ []) []).0 (shown_whole seen b h))

-- Two bytes at least stand before the `D` of a document type.
pub doctype_long : (seen : List ℕ) (b : ℕ) → IsDoctypeAt seen b → 2 ≤ length (normal_lines seen)
doctype_long seen b h =
    let x = type_text h.mark h.declaration h.misc [] in
    let e : normal_lines seen ≡ x ++ (60 ∷ 33 ∷ []) = h.text ∙ type_carries h.mark h.declaration h.misc [] (60 ∷ 33 ∷ []) in
    let l : length (normal_lines seen) ≡ length (x ++ (60 ∷ 33 ∷ [])) = ap length e in
    let a = length-append x (60 ∷ 33 ∷ []) in
    omega arith

-- a small root
small_root : Before named (codes "<a/>") (Start (97 ∷ []) [] ∷ Finish (97 ∷ []) ∷ [])
small_root =
    let tag : Tag = record { name = 97 ∷ []; named = (inl (inr (omega arith, omega arith)), tt); attributes = no_attribute; fresh = tt; space = []; spaced = tt } in
    let body : BodyRest 31 (97 ∷ []) [] (After named) (codes "/>") (Start (97 ∷ []) [] ∷ Finish (97 ∷ []) ∷ []) = record { body = closed; fit = tt; behind = []; later = []; text = refl; says = refl; after = nothing_behind named } in
    record { misc = misc_over; behind = codes "a/>"; text = refl; after = inl (record { room = omega arith; tag = tag; behind = codes "/>"; text = refl; after = body }) }

small_gap : Gap fields.Encoding named (codes "?><a/>") (Start (97 ∷ []) [] ∷ Finish (97 ∷ []) ∷ [])
small_gap = inl (record { behind = codes "<a/>"; text = refl; after = small_root })

-- Some document of a small depth goes on behind the quote of an encoding that isn't read.
pub encoding_goes : (s : MachineState) (returned : Bool) (seen : List ℕ) (b : ℕ) → IsOther s b → Continues s returned seen → (says : List Mark) × Whole named (normal_lines (seen ++ (b ∷ codes "?><a/>"))) says
encoding_goes s returned seen b o c =
    let g : Good places.FieldValue s = subst (λ z. Good z s) o.0 c.good in
    let q : IsQuote s.quote = g.1 in
    let m = (quote_range s.quote q).0 in
    let e : b ≡ s.quote = o.2 in
    let l : 13 < b = omega arith in
    let es : List Mark = Start (97 ∷ []) [] ∷ Finish (97 ∷ []) ∷ [] in
    let i : IsFieldValue any s.field s.value = subst (λ z. IsFieldValue any z s.value) (sym o.1) (o.3, tt) in
    let k : Gap s.field named (codes "?><a/>") es = subst (λ z. Gap z named (codes "?><a/>") es) (sym o.1) small_gap in
    let r : RestsAt places.FieldValue s named (s.quote ∷ codes "?><a/>") es = value_back named s.field (Gap s.field named) s.value s.quote (codes "?><a/>") es i (inl k) in
    let h : RestsAt s.place s named (b ∷ codes "?><a/>") es = subst (λ z. RestsAt z s named (b ∷ codes "?><a/>") es) (sym o.0) (subst (λ z. RestsAt places.FieldValue s named (z ∷ codes "?><a/>") es) (sym e) r) in
    let f : Finishes s returned named (b ∷ codes "?><a/>") (s.marks ++ es) = record { later = es; whole = refl; rest = subst (λ z. RestsAt s.place s named z es) (sym (plain_line returned b (codes "?><a/>") l)) h } in
    (s.marks ++ es, (c.same named allowed (b ∷ codes "?><a/>") (s.marks ++ es)).1 f)
