-- Texts of XML without carriage returns, and texts that can be printed.
use Rattle.std.proofs.Common.{◌≡◌, ◌≢◌, ℕ, ◌+◌, ◌<◌, ◌≤◌, inl, inr, Bool, true, false, cond, leb, ltb, ◌&&◌, ◌/◌, ◌%◌, List, [], ◌∷◌, ◌++◌, refl, ap, arith, ◌∙◌, sym, subst, append_assoc, append-nil, lit≤}
use Rattle.std.proofs.lemmas.Bool.{ne_eqb, leb-true, ltb-true}
use Rattle.std.proofs.lemmas.Str.{encode_ascii}
use Rattle.std.specs.List.{list_all}
use Rattle.std.specs.Char.{encode_utf8}
use Rattle.std.specs.Prelude.{encode_utf8_all}
use Rattle.tree_grammar.specs.Characters.{IsXmlChar, IsXmlText, Each, normal_lines, IsQName, IsQNameRest, IsName, IsNameStart, IsNameChar}

-- A text of XML without carriage returns.
pub record Clean (bytes : List ℕ) : Type 0 where
  pub text : IsXmlText bytes
  pub lines : Each (λ c. c ≢ 13) bytes

pub each_append : (P : ℕ → Type 0) (xs ys : List ℕ) → Each P xs → Each P ys → Each P (xs ++ ys)
each_append P [] ys h k = k
each_append P (x ∷ xs) ys h k = (h.0, each_append P xs ys h.1 k)

pub encode_all-append : (xs ys : List ℕ) → encode_utf8_all (xs ++ ys) ≡ encode_utf8_all xs ++ encode_utf8_all ys
encode_all-append [] ys = refl
encode_all-append (x ∷ xs) ys = ap (λ z. encode_utf8 x ++ z) (encode_all-append xs ys) ∙ sym (append_assoc (encode_utf8 x) (encode_utf8_all xs) (encode_utf8_all ys))

pub text_append : (a b : List ℕ) → IsXmlText a → IsXmlText b → IsXmlText (a ++ b)
text_append a b s t = record {
  characters = s.characters ++ t.characters;
  each = each_append IsXmlChar s.characters t.characters s.each t.each;
  encoded = ap (λ z. z ++ b) s.encoded ∙ (ap (λ z. encode_utf8_all s.characters ++ z) t.encoded ∙ sym (encode_all-append s.characters t.characters));
}

pub clean_append : (a b : List ℕ) → Clean a → Clean b → Clean (a ++ b)
clean_append a b s t = record { text = text_append a b s.text t.text; lines = each_append (λ c. c ≢ 13) a b s.lines t.lines }

pub clean_nothing : Clean []
clean_nothing = record { text = record { characters = []; each = tt; encoded = refl }; lines = tt }

-- A printable character of ASCII.
abbrev pub Printable : ℕ → Type 0
Printable c = (32 ≤ c) × (c < 128)

pub clean_one : (c : ℕ) (cs : List ℕ) → Printable c → Clean cs → Clean (c ∷ cs)
clean_one c cs p t = record {
  text = text_append (c ∷ []) cs (record { characters = c ∷ []; each = (inr (inr (inr (inl (p.0, (let h = p.1 in omega arith))))), tt); encoded = sym (encode_ascii c p.1) ∙ sym (append-nil (encode_utf8 c)) }) t.text;
  lines = ((λ e. (let h = p.0 in absurd (omega arith))), t.lines);
}

-- printable characters, and then k
pub clean_ascii : (xs cs : List ℕ) → Each Printable xs → Clean cs → Clean (xs ++ cs)
clean_ascii [] cs p t = t
clean_ascii (x ∷ xs) cs p t = clean_one x (xs ++ cs) p.0 (clean_ascii xs cs p.1 t)

-- names are printable
pub start_printable : (c : ℕ) → IsNameStart c → Printable c
start_printable c (inl (inl h)) = (let a = h.0 in let b = h.1 in (omega arith, omega arith))
start_printable c (inl (inr h)) = (let a = h.0 in let b = h.1 in (omega arith, omega arith))
start_printable c (inr h) = (omega arith, omega arith)

pub char_printable : (c : ℕ) → IsNameChar c → Printable c
char_printable c (inl h) = start_printable c h
char_printable c (inr (inl h)) = (let a = h.0 in let b = h.1 in (omega arith, omega arith))
char_printable c (inr (inr (inl h))) = (omega arith, omega arith)
char_printable c (inr (inr (inr h))) = (omega arith, omega arith)

pub chars_printable : (cs : List ℕ) → Each IsNameChar cs → Each Printable cs
chars_printable [] h = tt
chars_printable (c ∷ cs) h = (char_printable c h.0, chars_printable cs h.1)

pub name_printable : (cs : List ℕ) → IsName cs → Each Printable cs
name_printable [] h = absurd h
name_printable (c ∷ cs) h = (start_printable c h.0, chars_printable cs h.1)

pub rest_printable : (cs : List ℕ) → IsQNameRest cs → Each Printable cs
rest_printable [] h = tt
rest_printable (c ∷ cs) (inl h) = (char_printable c h.0, rest_printable cs h.1)
rest_printable (c ∷ cs) (inr h) = ((let e = h.0 in (omega arith, omega arith)), name_printable cs h.1)

pub qname_printable : (cs : List ℕ) → IsQName cs → Each Printable cs
qname_printable [] h = absurd h
qname_printable (c ∷ cs) h = (start_printable c h.0, rest_printable cs h.1)

pub and_split : (a b : Bool) → (a && b) ≡ true → (a ≡ true) × (b ≡ true)
and_split true b e = (refl, e)
and_split false b e = cc

abbrev pub is_printable : ℕ → Bool
is_printable c = leb 32 c && ltb c 128

pub list_printable : (xs : List ℕ) → list_all is_printable xs ≡ true → Each Printable xs
list_printable [] e = tt
list_printable (x ∷ xs) e =
    let s = and_split (is_printable x) (list_all is_printable xs) e in
    let t = and_split (leb 32 x) (ltb x 128) s.0 in
    ((leb-true 32 x t.0, ltb-true x 128 t.1), list_printable xs s.1)

-- a fixed text
pub clean_fixed : (xs : List ℕ) → list_all is_printable xs ≡ true → Clean xs
clean_fixed xs e = subst Clean (append-nil xs) (clean_ascii xs [] (list_printable xs e) clean_nothing)

-- a character of XML in ASCII that is no carriage return
pub clean_low : (c : ℕ) → c < 128 → IsXmlChar c → c ≢ 13 → Clean (c ∷ [])
clean_low c low x n = record {
  text = record { characters = c ∷ []; each = (x, tt); encoded = sym (encode_ascii c low) ∙ sym (append-nil (encode_utf8 c)) };
  lines = (n, tt);
}

-- each byte of a character past ASCII is past ASCII
pub high_bytes : (c : ℕ) → 128 ≤ c → Each (λ b. 128 ≤ b) (encode_utf8 c)
unfolding encode_utf8
high_bytes c h =
    any_of (ltb c 128) (c ∷ []) (cond (ltb c 2048) ((192 + c / 64) ∷ next c ∷ []) (cond (ltb c 65536) ((224 + c / 4096) ∷ next (c / 64) ∷ next c ∷ []) ((240 + c / 262144) ∷ next (c / 4096) ∷ next (c / 64) ∷ next c ∷ []))) (h, tt)
    (any_of (ltb c 2048) ((192 + c / 64) ∷ next c ∷ []) (cond (ltb c 65536) ((224 + c / 4096) ∷ next (c / 64) ∷ next c ∷ []) ((240 + c / 262144) ∷ next (c / 4096) ∷ next (c / 64) ∷ next c ∷ [])) (more 192 (c / 64) (lit≤ tt), (more 128 (c % 64) (lit≤ tt), tt))
    (any_of (ltb c 65536) ((224 + c / 4096) ∷ next (c / 64) ∷ next c ∷ []) ((240 + c / 262144) ∷ next (c / 4096) ∷ next (c / 64) ∷ next c ∷ []) (more 224 (c / 4096) (lit≤ tt), (more 128 (c / 64 % 64) (lit≤ tt), (more 128 (c % 64) (lit≤ tt), tt)))
    (more 240 (c / 262144) (lit≤ tt), (more 128 (c / 4096 % 64) (lit≤ tt), (more 128 (c / 64 % 64) (lit≤ tt), (more 128 (c % 64) (lit≤ tt), tt))))))
  where
    next : ℕ → ℕ
    next bits = 128 + bits % 64

    more : (a b : ℕ) → 128 ≤ a → 128 ≤ a + b
    more a b h = omega arith

    any_of : (b : Bool) (xs ys : List ℕ) → Each (λ b. 128 ≤ b) xs → Each (λ b. 128 ≤ b) ys → Each (λ b. 128 ≤ b) (cond b xs ys)
    any_of true xs ys h k = h
    any_of false xs ys h k = k

-- without carriage returns no line end changes
pub lines_kept : (bytes : List ℕ) → Each (λ c. c ≢ 13) bytes → normal_lines bytes ≡ bytes
lines_kept [] h = refl
lines_kept (c ∷ cs) h = rw (ne_eqb c 13 h.0) (ap (λ z. c ∷ z) (lines_kept cs h.1))
