-- Printable characters.
use Rattle.doc_tree.proofs.Words.{ArePrintable, Some1, and_parts, Bool, Each, Field, IsEncodingChar, IsNameChar, IsNameRest, IsNameStart, IsPrintable, IsQuote, List, Part, [], arith, field_name, inl, inr, leb, leb-true, refl, subst, true, ℕ, ◌&&◌, ◌++◌, ◌↔◌, ◌∷◌, ◌≡◌}
use Rattle.doc_tree.specs.declared.declaration.Field.TheVariants as fields
use Rattle.doc_tree.specs.declared.names.Part.TheVariants as parts
use Rattle.doc_tree.proofs.ByteGrammar.Bytes.{char_range, quote_range, some_run, start_range}

-- a text that is known
abbrev printable : List ℕ → Bool
printable [] = true
printable (c ∷ cs) = leb 32 c && (leb c 126 && printable cs)

pub printable_text : (cs : List ℕ) → printable cs ≡ true → Each IsPrintable cs
printable_text [] e = tt
printable_text (c ∷ cs) e =
    let f = and_parts (leb 32 c) (leb c 126 && printable cs) e in
    let g = and_parts (leb c 126) (printable cs) f.1 in
    ((leb-true 32 c f.0, leb-true c 126 g.0), printable_text cs g.1)

-- names
pub start_printable : (c : ℕ) → IsNameStart c → IsPrintable c
start_printable c h = let r = start_range c h in (omega arith, omega arith)

char_printable : (c : ℕ) → IsNameChar c → IsPrintable c
char_printable c h = let r = char_range c h in (omega arith, omega arith)

pub part_printable : (p : Part) (c : ℕ) (cs : List ℕ) → IsNameRest p (c ∷ cs) → IsPrintable c
part_printable parts.First c cs (inl p) = char_printable c p.0
part_printable parts.First c cs (inr p) = let e = p.0 in (omega arith, omega arith)
part_printable parts.Colon c cs h = start_printable c h.0
part_printable parts.Local c cs h = char_printable c h.0

pub next_printable : (p q : Part) (c : ℕ) → ((run : List ℕ) → IsNameRest p (c ∷ run) ↔ IsNameRest q run) → IsPrintable c
next_printable p q c f = let s = some_run q in part_printable p c s.0 ((f s.0).1 s.1)

-- a field's word behind its first letter
pub field_printable : (g : Field) → Each IsPrintable (field_name g)
field_printable fields.Before = tt
field_printable fields.Version = printable_text (field_name fields.Version) refl
field_printable fields.Encoding = printable_text (field_name fields.Encoding) refl
field_printable fields.Standalone = printable_text (field_name fields.Standalone) refl

-- the innermost name
pub first_printable : (names : List (List ℕ)) (n : List ℕ) (rest : List (List ℕ)) → names ≡ n ∷ rest → ArePrintable names → Each IsPrintable n × ArePrintable rest
first_printable names n rest e h = subst ArePrintable e h

-- the second text
pub each_right : (P : ℕ → Type 0) (xs ys : List ℕ) → Each P (xs ++ ys) → Each P ys
each_right P [] ys h = h
each_right P (x ∷ xs) ys h = each_right P xs ys h.1

pub each_last : (P : ℕ → Type 0) (xs : List ℕ) (b : ℕ) (ys : List ℕ) → Each P ((xs ++ (b ∷ [])) ++ ys) → P b
each_last P [] b ys h = h.0
each_last P (x ∷ xs) b ys h = each_last P xs b ys h.1

pub some_each : (P : ℕ → Type 0) (xs : List ℕ) → Some1 P xs → Each P xs
some_each P [] h = absurd h
some_each P (x ∷ xs) h = h

pub each_map : (P Q : ℕ → Type 0) → ((c : ℕ) → P c → Q c) → (xs : List ℕ) → Each P xs → Each Q xs
each_map P Q f [] h = tt
each_map P Q f (x ∷ xs) h = (f x h.0, each_map P Q f xs h.1)

-- what stands in an encoding's name, and a quote
pub encoding_printable : (c : ℕ) → IsEncodingChar c → IsPrintable c
encoding_printable c h = (grind arith, grind arith)

pub quote_printable : (c : ℕ) → IsQuote c → Each IsPrintable (c ∷ [])
quote_printable c i = let r = quote_range c i in ((omega arith, omega arith), tt)
