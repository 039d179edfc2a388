-- A run of bytes of a kind, and what stands behind it, are found from the text.
use Rattle.doc_tree.proofs.Words.{Each, Equals, IsName, IsNameChar, IsQName, IsQNameRest, IsQuote, IsSpace, List, [], arith, equals_text, inl, inr, refl, subst, sym, ℕ, ◌++◌, ◌∷◌, ◌≡◌, ◌≤◌}
use Rattle.doc_tree.proofs.ByteGrammar.{IsHigh, char_high, high_not_space, not_space, rest_high, start_range}

-- The text doesn't go on with a byte of the kind.
abbrev pub Stops : (ℕ → Type 0) → List ℕ → Type 0
Stops P [] = Unit {0}
Stops P (c ∷ cs) = P c → ⊥

module _ (P : ℕ → Type 0) where
  never : (y : ℕ) (ys k l : List ℕ) → P y → Stops P k → k ≡ y ∷ (ys ++ l) → ⊥
  never y ys [] l p s e = cc
  never y ys (c ∷ cs) l p s e = let h : c ≡ y = cc in s (subst P (sym h) p)

  pub each_same : (x y k l : List ℕ) → Each P x → Each P y → Stops P k → Stops P l → x ++ k ≡ y ++ l → (x ≡ y) × (k ≡ l)
  each_same [] [] k l p q s t e = (refl, e)
  each_same [] (b ∷ ys) k l p q s t e = absurd (never b ys k l q.0 s e)
  each_same (a ∷ xs) [] k l p q s t e = absurd (never a xs l k p.0 t (sym e))
  each_same (a ∷ xs) (b ∷ ys) k l p q s t e =
      let r = each_same xs ys k l p.1 q.1 s t (cc) in
      let h : a ≡ b = cc in
      let w = r.0 in
      ((cc), r.1)

-- names
chars_high : (cs : List ℕ) → Each IsNameChar cs → Each IsHigh cs
chars_high [] e = tt
chars_high (c ∷ cs) e = (char_high c e.0, chars_high cs e.1)

pub name_high : (cs : List ℕ) → IsName cs → Each IsHigh cs
name_high [] n = absurd n
name_high (c ∷ cs) n = (inr (inr (inr ((start_range c n.0).0))), chars_high cs n.1)

more_high : (cs : List ℕ) → IsQNameRest cs → Each IsHigh cs
more_high [] n = tt
more_high (c ∷ cs) (inl p) = (rest_high c cs (inl p), more_high cs p.1)
more_high (c ∷ cs) (inr p) = (rest_high c cs (inr p), name_high cs p.1)

pub qname_high : (cs : List ℕ) → IsQName cs → Each IsHigh cs
qname_high [] n = absurd n
qname_high (c ∷ cs) n = (inr (inr (inr ((start_range c n.0).0))), more_high cs n.1)

-- a name begins with a letter or `_`
pub qname_begins : (P : ℕ → Type 0) (cs k : List ℕ) → IsQName cs → ((c : ℕ) → 65 ≤ c → P c → ⊥) → Stops P (cs ++ k)
qname_begins P [] k n f = absurd n
qname_begins P (c ∷ cs) k n f = f c ((start_range c n.0).0)

pub letter_not_space : (c : ℕ) → 65 ≤ c → IsSpace c → ⊥
letter_not_space c l s = not_space c (omega arith) s

-- white space and then a byte of another kind
pub spaces_stop : (P : ℕ → Type 0) (space k : List ℕ) → Each IsSpace space → ((c : ℕ) → IsSpace c → P c → ⊥) → Stops P k → Stops P (space ++ k)
spaces_stop P [] k s f t = t
spaces_stop P (c ∷ cs) k s f t = f c s.0

pub space_not_high : (c : ℕ) → IsSpace c → IsHigh c → ⊥
space_not_high c s h = high_not_space c h s

pub spaces_same : (x y k l : List ℕ) → Each IsSpace x → Each IsSpace y → Stops IsSpace k → Stops IsSpace l → x ++ k ≡ y ++ l → k ≡ l
spaces_same x y k l p q s t e = (each_same IsSpace x y k l p q s t e).1

pub names_same : (x y k l : List ℕ) → IsQName x → IsQName y → Stops IsHigh k → Stops IsHigh l → x ++ k ≡ y ++ l → (x ≡ y) × (k ≡ l)
names_same x y k l p q s t e = each_same IsHigh x y k l (qname_high x p) (qname_high y q) s t e

-- `=` with white space round it
pub sixty_one : IsHigh 61 → ⊥
sixty_one h = grind arith

pub equals_stop : (e : Equals) (k : List ℕ) → Stops IsHigh (equals_text e k)
equals_stop e k = spaces_stop IsHigh e.before (61 ∷ (e.after ++ k)) e.spaced_before space_not_high sixty_one

pub quote_not_space : (q : ℕ) → IsQuote q → IsSpace q → ⊥
quote_not_space q i s = not_space q (low q i) s
  where
    low : (q : ℕ) → IsQuote q → 33 ≤ q
    low q (inl e) = omega arith
    low q (inr e) = omega arith

pub equals_same : (e f : Equals) (k l : List ℕ) → Stops IsSpace k → Stops IsSpace l → equals_text e k ≡ equals_text f l → k ≡ l
equals_same e f k l s t h =
    let r = spaces_same e.before f.before (61 ∷ (e.after ++ k)) (61 ∷ (f.after ++ l)) e.spaced_before f.spaced_before (λ x. not_space 61 (omega arith) x) (λ x. not_space 61 (omega arith) x) h in
    spaces_same e.after f.after k l e.spaced_after f.spaced_after s t (cc)
