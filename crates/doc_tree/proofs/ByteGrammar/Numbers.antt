-- The digits of references, byte by byte.
use Rattle.doc_tree.proofs.Words.{DigitRest, IsDigitsRest, IsNumeralRest, IsRadix, IsXmlChar, List, Mark, NumeralRest, Word, [], arith, digit_value, digits_value_after, encode_utf8, inl, inr, subst, sym, ℕ, ◌*◌, ◌++◌, ◌+◌, ◌<◌, ◌↔◌, ◌∷◌, ◌≡◌, ◌≢◌, ◌≤◌}
use Rattle.doc_tree.proofs.ByteGrammar.Spans.{then_over, then_here, then_next, then_back, word_first, word_last}

grows : (radix n d : ℕ) → IsRadix radix → n ≤ n * radix + d
grows radix n d (inl e) = let h : n ≤ n * 10 + d = omega arith in subst (λ z. n ≤ n * z + d) (sym e) h
grows radix n d (inr e) = let h : n ≤ n * 16 + d = omega arith in subst (λ z. n ≤ n * z + d) (sym e) h

after_grows : (radix n : ℕ) (ds : List ℕ) → IsRadix radix → n ≤ digits_value_after radix n ds
after_grows radix n [] i = omega arith
after_grows radix n (d ∷ ds) i = let a = after_grows radix (n * radix + digit_value d) ds i in let b = grows radix n (digit_value d) i in omega arith

xml_low : (c : ℕ) → IsXmlChar c → c ≤ 1114111
xml_low c h = grind arith

pub radix_low : (radix : ℕ) → IsRadix radix → radix ≤ 16
radix_low radix (inl e) = omega arith
radix_low radix (inr e) = omega arith

module _ (radix n : ℕ) (K : List ℕ → List ℕ → List Mark → Type 0) where
  abbrev P : List ℕ → Type 0
  P = IsNumeralRest radix n

  abbrev KP : List ℕ → List ℕ → List Mark → Type 0
  KP digits = Word (59 ∷ []) (K (encode_utf8 (digits_value_after radix n digits)))

  pub numeral_digit : (b : ℕ) (r : List ℕ) (es : List Mark) → digit_value b < radix → NumeralRest radix n K (b ∷ r) es ↔ DigitRest radix (n * radix + digit_value b) K r es
  numeral_digit b r es l = (
    then_next P (IsDigitsRest radix (n * radix + digit_value b)) KP b r es (λ run i. (i.0.1.1, i.1)) (λ i k. let z = i.0.0 in omega arith),
    then_back P (IsDigitsRest radix (n * radix + digit_value b)) KP b r es (λ run i. ((omega arith, (l, i.0)), i.1)),
  )

  pub numeral_stuck : (b : ℕ) (r : List ℕ) (es : List Mark) → (digit_value b < radix → ⊥) → NumeralRest radix n K (b ∷ r) es → ⊥
  numeral_stuck b r es l h = let p = then_over P KP b r es (λ run i. l i.0.1.0) h in let z = p.0.0.0 in omega arith

  pub numeral_big : (b : ℕ) (r : List ℕ) (es : List Mark) → IsRadix radix → digit_value b < radix → 1114111 < n * radix + digit_value b → NumeralRest radix n K (b ∷ r) es → ⊥
  numeral_big b r es i l g h = let d = (numeral_digit b r es l).0 h in let x = xml_low (digits_value_after radix (n * radix + digit_value b) d.run) d.is.1 in let y = after_grows radix (n * radix + digit_value b) d.run i in omega arith

  abbrev Q : List ℕ → Type 0
  Q = IsDigitsRest radix n

  digit_over : (r : List ℕ) (es : List Mark) → IsRadix radix → DigitRest radix n K (59 ∷ r) es → Q [] × KP [] (59 ∷ r) es
  digit_over r es i h = then_over Q KP 59 r es (λ run q. let a : 36 < radix = q.0.0 in let b = radix_low radix i in omega arith) h

  pub digit_end : (r : List ℕ) (es : List Mark) → IsRadix radix → IsXmlChar n → DigitRest radix n K (59 ∷ r) es ↔ K (encode_utf8 n) r es
  digit_end r es i x = (
    λ h. (word_last (K (encode_utf8 n)) 59 r es).0 (digit_over r es i h).1,
    λ k. then_here Q KP (59 ∷ r) es (tt, x) ((word_last (K (encode_utf8 n)) 59 r es).1 k),
  )

  pub digit_end_stuck : (r : List ℕ) (es : List Mark) → IsRadix radix → (IsXmlChar n → ⊥) → DigitRest radix n K (59 ∷ r) es → ⊥
  digit_end_stuck r es i x h = x (digit_over r es i h).0.1

  more_to : (b : ℕ) (r : List ℕ) (es : List Mark) → b ≢ 59 → (run : List ℕ) → Q run → (y : List ℕ) → b ∷ r ≡ run ++ y → KP run y es → NumeralRest radix n K (b ∷ r) es
  more_to b r es nb [] q y e k = absurd (nb (word_first (K (encode_utf8 n)) 59 [] b r es (subst (λ z. KP [] z es) (sym e) k)).0)
  more_to b r es nb (c ∷ cs) q y e k = record { run = c ∷ cs; is = ((omega arith, q.0), q.1); behind = y; text = e; after = k }

  pub digit_more : (b : ℕ) (r : List ℕ) (es : List Mark) → b ≢ 59 → DigitRest radix n K (b ∷ r) es ↔ NumeralRest radix n K (b ∷ r) es
  digit_more b r es nb = (
    λ h. more_to b r es nb h.run h.is h.behind h.text h.after,
    λ h. record { run = h.run; is = (h.is.0.1, h.is.1); behind = h.behind; text = h.text; after = h.after },
  )
