-- A text of characters of XML, cut at a character of ASCII: what stands before and behind it are such texts.
use Rattle.std.proofs.Common.{◌≡◌, ◌∙◌, ℕ, ◌<◌, ◌≤◌, inl, inr, ◌==◌, Bool, true, false, cond, List, [], ◌∷◌, ◌++◌, refl, ap, sym, subst, arith, append_assoc, append-nil, lit<}
use Rattle.std.proofs.lemmas.Bool.{eqb-true, cases_lt}
use Rattle.std.proofs.lemmas.Str.{encode_ascii}
use Rattle.std.specs.Char.{encode_utf8}
use Rattle.std.specs.Prelude.{encode_utf8_all}
use Rattle.tree_grammar.specs.Characters.{Each, IsXmlChar, IsXmlText, IsSpace, normal_lines, begins_with_line_feed}
use Rattle.tree_grammar.proofs.XmlTexts.{Printable, text_append, high_bytes}
use Rattle.doc_tree.proofs.Utf8.{no_text}

-- a character's bytes
pub char_text : (c : ℕ) → IsXmlChar c → IsXmlText (encode_utf8 c)
char_text c is = record { characters = c ∷ []; each = (is, tt); encoded = sym (append-nil (encode_utf8 c)) }

pub low_text : (c : ℕ) → c < 128 → IsXmlChar c → IsXmlText (c ∷ [])
low_text c low is = subst IsXmlText (encode_ascii c low) (char_text c is)

-- a text, cut at this character
pub record Cut (before : List ℕ) (c : ℕ) (behind : List ℕ) : Type 0 where
  pub before_it : IsXmlText before
  pub from_it : IsXmlText (c ∷ behind)
  pub behind_it : IsXmlText behind

-- bytes past ASCII stand before the cut
cut_past : (high before : List ℕ) (c : ℕ) (behind rest : List ℕ) → Each (λ b. 128 ≤ b) high → c < 128 → before ++ (c ∷ behind) ≡ high ++ rest → (more : List ℕ) × (before ≡ high ++ more) × (more ++ (c ∷ behind) ≡ rest)
cut_past [] before c behind rest far low e = (before, refl, e)
cut_past (b ∷ high) [] c behind rest far low e = let same : c ≡ b = cc in let past = far.0 in absurd (omega (arith, same, past))
cut_past (b ∷ high) (d ∷ before) c behind rest far low e =
    let one : d ≡ b = cc in
    let others : before ++ (c ∷ behind) ≡ high ++ rest = cc in
    let p = cut_past high before c behind rest far.1 low others in
    (p.0, ap (λ z. z ∷ before) one ∙ ap (λ z. b ∷ z) p.1, p.2)

-- the characters may be cut wherever they begin with the one
abbrev Cuts : (c : ℕ) (behind cs : List ℕ) → Type 0
Cuts c behind cs = (before : List ℕ) → before ++ (c ∷ behind) ≡ encode_utf8_all cs → Cut before c behind

first_text : (x d : ℕ) → x ≡ d → d < 128 → IsXmlChar d → IsXmlText (x ∷ [])
first_text x d same low is = subst (λ z. IsXmlText (z ∷ [])) (sym same) (low_text d low is)

cut_low : (d : ℕ) (ds : List ℕ) (c : ℕ) (behind : List ℕ) → d < 128 → IsXmlChar d → Each IsXmlChar ds → Cuts c behind ds → (before : List ℕ) → before ++ (c ∷ behind) ≡ d ∷ encode_utf8_all ds → Cut before c behind
cut_low d ds c behind low is are later [] e =
    let same : c ≡ d = cc in
    let others : behind ≡ encode_utf8_all ds = cc in
    let more : IsXmlText behind = record { characters = ds; each = are; encoded = others } in
    record { before_it = no_text; from_it = text_append (c ∷ []) behind (first_text c d same low is) more; behind_it = more }
cut_low d ds c behind low is are later (x ∷ before) e =
    let same : x ≡ d = cc in
    let others : before ++ (c ∷ behind) ≡ encode_utf8_all ds = cc in
    let parts = later before others in
    record { before_it = text_append (x ∷ []) before (first_text x d same low is) parts.before_it; from_it = parts.from_it; behind_it = parts.behind_it }

cut_high : (d : ℕ) (ds : List ℕ) (c : ℕ) (behind : List ℕ) → c < 128 → 128 ≤ d → IsXmlChar d → Cuts c behind ds → Cuts c behind (d ∷ ds)
cut_high d ds c behind low high is later before e =
    let p = cut_past (encode_utf8 d) before c behind (encode_utf8_all ds) (high_bytes d high) low e in
    let parts = later p.0 p.2 in
    record { before_it = subst IsXmlText (sym p.1) (text_append (encode_utf8 d) p.0 (char_text d is) parts.before_it); from_it = parts.from_it; behind_it = parts.behind_it }

cut_at : (cs : List ℕ) → Each IsXmlChar cs → (c : ℕ) (behind : List ℕ) → c < 128 → Cuts c behind cs
cut_at [] are c behind low [] e = absurd (cc)
cut_at [] are c behind low (x ∷ before) e = absurd (cc)
cut_at (d ∷ ds) are c behind low before e =
    let later : Cuts c behind ds = cut_at ds are.1 c behind low in
    elim (cases_lt d 128) [ inl l ↦ cut_low d ds c behind l are.0 are.1 later before (e ∙ ap (λ z. z ++ encode_utf8_all ds) (encode_ascii d l)) | inr h ↦ cut_high d ds c behind low h are.0 later before e ]

pub cut : (before : List ℕ) (c : ℕ) (behind : List ℕ) → c < 128 → IsXmlText (before ++ (c ∷ behind)) → Cut before c behind
cut before c behind low text = cut_at text.characters text.each c behind low before text.encoded

pub parts : (before : List ℕ) (c : ℕ) (behind : List ℕ) → c < 128 → IsXmlText (before ++ (c ∷ behind)) → IsXmlText before × IsXmlText behind
parts before c behind low text = let p = cut before c behind low text in (p.before_it, p.behind_it)

-- what stands behind a character of ASCII, or behind several
pub behind_one : (c : ℕ) (behind : List ℕ) → c < 128 → IsXmlText (c ∷ behind) → IsXmlText behind
behind_one c behind low text = (cut [] c behind low text).behind_it

pub behind_printable : (xs behind : List ℕ) → Each Printable xs → IsXmlText (xs ++ behind) → IsXmlText behind
behind_printable [] behind is text = text
behind_printable (x ∷ xs) behind is text = behind_printable xs behind is.1 (behind_one x (xs ++ behind) is.0.1 text)

pub low_space : (c : ℕ) → IsSpace c → c < 128
low_space c is = grind arith

pub behind_space : (xs behind : List ℕ) → Each IsSpace xs → IsXmlText (xs ++ behind) → IsXmlText behind
behind_space [] behind is text = text
behind_space (x ∷ xs) behind is text = behind_space xs behind is.1 (behind_one x (xs ++ behind) (low_space x is.0) text)

-- one byte more stands before
pub one_more : (before : List ℕ) (c : ℕ) (behind : List ℕ) → IsXmlText (before ++ (c ∷ behind)) → IsXmlText ((before ++ (c ∷ [])) ++ behind)
one_more before c behind text = subst IsXmlText (sym (append_assoc before (c ∷ []) behind)) text

pub one_less : (before : List ℕ) (c : ℕ) (behind : List ℕ) → IsXmlText ((before ++ (c ∷ [])) ++ behind) → IsXmlText (before ++ (c ∷ behind))
one_less before c behind text = subst IsXmlText (append_assoc before (c ∷ []) behind) text

line_feed : IsXmlText (10 ∷ [])
line_feed = low_text 10 (lit< tt) (inr (inl refl))

either_text : (b : Bool) (xs ys : List ℕ) → IsXmlText xs → IsXmlText ys → IsXmlText (cond b xs ys)
either_text true xs ys h k = h
either_text false xs ys h k = k

-- normal line ends leave such a text
pub lines_text : (before bytes : List ℕ) → IsXmlText (before ++ bytes) → IsXmlText (before ++ normal_lines bytes)
lines_text before [] text = text
lines_text before (c ∷ cs) text = by_return (c == 13) refl (λ t. lines_text [] cs t) (lines_text (before ++ (c ∷ [])) cs (one_more before c cs text))
  where
    by_return : (b : Bool) → (c == 13) ≡ b → (IsXmlText cs → IsXmlText (normal_lines cs)) → IsXmlText ((before ++ (c ∷ [])) ++ normal_lines cs) → IsXmlText (before ++ cond b (cond (begins_with_line_feed cs) (normal_lines cs) (10 ∷ normal_lines cs)) (c ∷ normal_lines cs))
    by_return true e of_rest on =
        let parts = cut before c cs (let is = eqb-true c 13 e in omega (arith, is)) text in
        let rest = of_rest parts.behind_it in
        text_append before _ parts.before_it (either_text (begins_with_line_feed cs) (normal_lines cs) (10 ∷ normal_lines cs) rest (text_append (10 ∷ []) (normal_lines cs) line_feed rest))
    by_return false e of_rest on = one_less before c (normal_lines cs) on
