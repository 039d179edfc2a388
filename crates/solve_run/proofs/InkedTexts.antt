-- Texts that begin and end with a character that is seen have no white space round them.
use Rattle.std.proofs.Common.{◌≡◌, ◌∙◌, ℕ, zero, suc, ◌+◌, ◌/◌, ◌%◌, ◌<◌, ◌≤◌, ◌==◌, ◌&&◌, Bool, true, false, cond, leb, ltb, List, [], ◌∷◌, ◌++◌, take, length, length-append, reverse, refl, ap, sym, subst, arith, append_assoc, lt-ltb}
use Rattle.std.specs.Prelude.{decimal}
use Rattle.std.specs.List.{list_all}
use Rattle.std.specs.Fmt.{digits, digits_onto, digit_glyph}
use Rattle.std.proofs.lemmas.Bool.{leb-true, ltb-true, ne_eqb}
use Rattle.std.proofs.lemmas.List.{reverse-append, reverse-reverse}
use Rattle.tree_grammar.specs.Characters.{Each, Some1}
use Rattle.decimal_text.specs.Space.{is_space, without_leading_space, trimmed}
use Rattle.tree_grammar.proofs.XmlTexts.{Printable, and_split, each_append}
use Rattle.document_tags.specs.Faults.{told_name}
use Rattle.document_tags.proofs.Lengths.{decimal_size}
use Rattle.document_tags.proofs.PrintableTexts.{decimal_printable, printable_text}
use Rattle.osrl_grammar.specs.Back.{IsBare}

-- a character of ASCII that is seen
abbrev pub IsInk : ℕ → Type 0
IsInk c = (33 ≤ c) × (c < 128)

abbrev is_ink : ℕ → Bool
is_ink c = leb 33 c && ltb c 128

unspaced : (c : ℕ) → IsInk c → is_space c ≡ false
unspaced c is = let low = is.0 in rw (ne_eqb c 32 (λ e. omega (arith, e, low)), ne_eqb c 9 (λ e. omega (arith, e, low)), ne_eqb c 10 (λ e. omega (arith, e, low)), ne_eqb c 13 (λ e. omega (arith, e, low))) refl

printable : (cs : List ℕ) → Each IsInk cs → Each Printable cs
printable [] is = tt
printable (c ∷ cs) is = let low = is.0.0 in ((omega (arith, low), is.0.1), printable cs is.1)

inked : (cs : List ℕ) → list_all is_ink cs ≡ true → Each IsInk cs
inked [] is = tt
inked (c ∷ cs) is =
    let both = and_split (is_ink c) (list_all is_ink cs) is in
    let one = and_split (leb 33 c) (ltb c 128) both.0 in
    ((leb-true 33 c one.0, ltb-true c 128 one.1), inked cs both.1)

-- the text ends with one
pub record EndsSo (text : List ℕ) : Type 0 where
  pub before : List ℕ
  pub last : ℕ
  pub ink : IsInk last
  pub are : text ≡ before ++ last ∷ []

ends_behind : (before text : List ℕ) → EndsSo text → EndsSo (before ++ text)
ends_behind before text e =
    record { before = before ++ e.before; last = e.last; ink = e.ink; are = ap (λ (t : List ℕ). before ++ t) e.are ∙ sym (append_assoc before e.before (e.last ∷ [])) }

ends_with : (c : ℕ) (cs : List ℕ) → IsInk c → Each IsInk cs → EndsSo (c ∷ cs)
ends_with c [] is rest = record { before = []; last = c; ink = is; are = refl }
ends_with c (d ∷ ds) is rest = ends_behind (c ∷ []) (d ∷ ds) (ends_with d ds rest.0 rest.1)

-- a text of printable characters, of at most so many, that ends with one that is seen
pub record IsPiece (most : ℕ) (text : List ℕ) : Type 0 where
  pub printable : Each Printable text
  pub ends : EndsSo text
  pub short : length text ≤ most

pub piece_behind : (m n : ℕ) (before text : List ℕ) → Each Printable before → length before ≤ m → IsPiece n text → IsPiece (m + n) (before ++ text)
piece_behind m n before text are few piece = record {
  printable = each_append Printable before text are piece.printable;
  ends = ends_behind before text piece.ends;
  short = let s = piece.short in omega (arith, s, few, length-append before text);
}

-- ---- names

-- the beginning of a name
begins_inked : (n : ℕ) (cs : List ℕ) → Each IsInk cs → Each IsInk (take n cs)
begins_inked zero cs are = tt
begins_inked (suc n) [] are = tt
begins_inked (suc n) (c ∷ cs) are = (are.0, begins_inked n cs are.1)

begins_short : (n : ℕ) (cs : List ℕ) → length (take n cs) ≤ n
begins_short zero cs = omega arith
begins_short (suc n) [] = omega arith
begins_short (suc n) (c ∷ cs) = let rest = begins_short n cs in omega (arith, rest)

-- as far as a refusal tells it
pub name_piece : (name : List ℕ) → Some1 IsInk name → IsPiece 64 (told_name name)
name_piece [] some = absurd some
name_piece (c ∷ cs) some =
    let rest : Each IsInk (take 63 cs) = begins_inked 63 cs some.1 in
    record { printable = printable (c ∷ take 63 cs) (some.0, rest); ends = ends_with c (take 63 cs) some.0 rest; short = begins_short 64 (c ∷ cs) }

-- a fixed word
abbrev pub is_word : List ℕ → Bool
is_word [] = false
is_word (c ∷ cs) = leb (length (c ∷ cs)) 64 && list_all is_ink (c ∷ cs)

pub word_piece : (word : List ℕ) → is_word word ≡ true → IsPiece 64 word
word_piece [] is = absurd (let clash : false ≡ true = is in cc)
word_piece (c ∷ cs) is =
    let both = and_split (leb (length (c ∷ cs)) 64) (list_all is_ink (c ∷ cs)) is in
    let are = inked (c ∷ cs) both.1 in
    record { printable = printable (c ∷ cs) are; ends = ends_with c cs are.0 are.1; short = leb-true (length (c ∷ cs)) 64 both.0 }

-- ---- numbers

glyph_ink : (d : ℕ) → d < 10 → IsInk (digit_glyph false d)
glyph_ink d small = subst (λ (b : Bool). IsInk (cond b (48 + d) (87 + d))) (sym (lt-ltb d 10 small)) (omega arith, omega (arith, small))

either_ends : (b : Bool) (one more : List ℕ) → EndsSo one → EndsSo more → EndsSo (cond b one more)
either_ends true one more h k = h
either_ends false one more h k = k

onto_ends : (k n : ℕ) (acc : List ℕ) → EndsSo acc → EndsSo (digits_onto k 10 false n acc)
onto_ends zero n acc ends = ends
onto_ends (suc k) n acc ends =
    let last = digit_glyph false (n % 10) in
    let here = ends_behind (last ∷ []) acc ends in
    either_ends (n / 10 == 0) (last ∷ acc) (digits_onto k 10 false (n / 10) (last ∷ acc)) here (onto_ends k (n / 10) (last ∷ acc) here)

number_ends : (n : ℕ) → EndsSo (decimal n)
unfolding digits
number_ends n =
    let last = digit_glyph false (n % 10) in
    let here : EndsSo (last ∷ []) = record { before = []; last = last; ink = glyph_ink (n % 10) (omega arith); are = refl } in
    either_ends (n / 10 == 0) (last ∷ []) (digits_onto 63 10 false (n / 10) (last ∷ [])) here (onto_ends 63 (n / 10) (last ∷ []) here)

pub number_piece : (n : ℕ) → IsPiece 64 (decimal n)
number_piece n = record { printable = decimal_printable n; ends = number_ends n; short = decimal_size n }

-- ---- messages

-- what a report may say
pub record IsMessage (text : List ℕ) : Type 0 where
  pub bare : IsBare text
  pub short : length text ≤ 300

abbrev pub StartsSo : List ℕ → Type 0
StartsSo [] = ⊥
StartsSo (c ∷ cs) = IsInk c

-- nothing is dropped before one
led : (c : ℕ) (cs : List ℕ) → IsInk c → without_leading_space (c ∷ cs) ≡ c ∷ cs
led c cs is = ap (λ (t : Bool). cond t (without_leading_space cs) (c ∷ cs)) (unspaced c is)

untrimmed : (c : ℕ) (cs : List ℕ) → IsInk c → EndsSo (c ∷ cs) → trimmed (c ∷ cs) ≡ c ∷ cs
untrimmed c cs first e =
    let turned : reverse (c ∷ cs) ≡ e.last ∷ reverse e.before = ap reverse e.are ∙ reverse-append e.before (e.last ∷ []) in
    ap (λ (s : List ℕ). reverse (without_leading_space (reverse s))) (led c cs first)
    ∙ ap (λ (s : List ℕ). reverse (without_leading_space s)) turned
    ∙ ap reverse (led e.last (reverse e.before) e.ink)
    ∙ ap reverse (sym turned)
    ∙ reverse-reverse (c ∷ cs)

pub bare_of : (n : ℕ) (text : List ℕ) → StartsSo text → IsPiece n text → IsBare text
bare_of n [] first piece = absurd first
bare_of n (c ∷ cs) first piece = record { some = λ e. cc; bare = untrimmed c cs first piece.ends; characters = printable_text (c ∷ cs) piece.printable }

pub message_of : (n : ℕ) (text : List ℕ) → n ≤ 300 → StartsSo text → IsPiece n text → IsMessage text
message_of n text few first piece = record { bare = bare_of n text first piece; short = let s = piece.short in omega (arith, s, few) }
