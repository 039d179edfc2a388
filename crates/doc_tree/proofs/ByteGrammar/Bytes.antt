-- Which bytes are of which kind.
use Rattle.doc_tree.proofs.Words.{IsNameChar, IsNameRest, IsNameStart, IsQNameRest, IsQuote, IsSpace, List, Part, [], arith, inl, inr, ℕ, ◌∷◌, ◌≡◌, ◌≢◌, ◌≤◌, ◌⊎◌}
use Rattle.doc_tree.specs.declared.names.Part.TheVariants as parts

-- at `-`, at `.`, from `0` to `:`, or from `A` on
abbrev pub IsHigh : ℕ → Type 0
IsHigh c = (c ≡ 45) ⊎ ((c ≡ 46) ⊎ (((48 ≤ c) × (c ≤ 58)) ⊎ (65 ≤ c)))

-- a byte of a character of more than one
abbrev pub IsMultibyte : ℕ → Type 0
IsMultibyte c = 128 ≤ c

pub quote_range : (c : ℕ) → IsQuote c → (33 ≤ c) × (c ≤ 39)
quote_range c i = (grind arith, grind arith)

pub start_range : (c : ℕ) → IsNameStart c → (65 ≤ c) × (c ≤ 122)
start_range c i = (grind arith, grind arith)

pub char_range : (c : ℕ) → IsNameChar c → (45 ≤ c) × (c ≤ 122) × (c ≢ 58)
char_range c i = (grind arith, grind arith, grind arith)

pub char_high : (c : ℕ) → IsNameChar c → IsHigh c
char_high c (inl p) = inr (inr (inr ((start_range c p).0)))
char_high c (inr (inl p)) = inr (inr (inl (p.0, (let q = p.1 in omega arith))))
char_high c (inr (inr (inl p))) = inl p
char_high c (inr (inr (inr p))) = inr (inl p)

pub space_low : (c : ℕ) → IsSpace c → c ≤ 32
space_low c h = grind arith

pub not_space : (c : ℕ) → 33 ≤ c → IsSpace c → ⊥
not_space c l h = let k = space_low c h in omega arith

pub high_not_space : (c : ℕ) → IsHigh c → IsSpace c → ⊥
high_not_space c h s = let k = space_low c s in grind arith

pub rest_high : (c : ℕ) (cs : List ℕ) → IsQNameRest (c ∷ cs) → IsHigh c
rest_high c cs (inl p) = char_high c p.0
rest_high c cs (inr p) = inr (inr (inl (let e = p.0 in omega arith, let e = p.0 in omega arith)))

-- a byte that a name goes on with
pub part_high : (p : Part) (c : ℕ) (cs : List ℕ) → IsNameRest p (c ∷ cs) → IsHigh c
part_high parts.First c cs h = rest_high c cs h
part_high parts.Colon c cs h = inr (inr (inr ((start_range c h.0).0)))
part_high parts.Local c cs h = char_high c h.0

-- a text that each part may go on with
pub some_run : (p : Part) → (run : List ℕ) × IsNameRest p run
some_run parts.Colon = (97 ∷ [], (inl (inr (omega arith, omega arith)), tt))
some_run _ = ([], tt)
