-- How many costs aren't 0, one after another.
use Rattle.osil_grammar.proofs.Words.{◌≡◌, ℕ, ◌+◌, ◌<◌, ◌≤◌, List, [], ◌∷◌, length, drop, get_or, ap, refl, sym, ◌∙◌, subst, arith, inl, inr, drop_more, drop_all, Frac, CountsCosts}

-- the first, and the rest
counts_join : (c : Frac) (cs : List Frac) (m n : ℕ) → CountsCosts (c ∷ []) m → CountsCosts cs n → CountsCosts (c ∷ cs) (m + n)
counts_join c cs m n (inl none_here) rest =
    let same : n ≡ m + n = omega (arith, none_here.1) in
    inl (none_here.0, subst (CountsCosts cs) same rest)
counts_join c cs m n (inr here) rest = inr (here.0, n, rest, omega (arith, here.2, here.3))

-- what the rest's count makes of the whole's, one cost further on
pub counts_next : (costs : List Frac) (i count m : ℕ) (c : Frac) → i < length costs → c ≡ get_or costs i c → ((n : ℕ) → CountsCosts (drop i costs) n → CountsCosts costs (count + n)) → CountsCosts (c ∷ []) m → (n : ℕ) → CountsCosts (drop (i + 1) costs) n → CountsCosts costs (count + m + n)
counts_next costs i count m c inside is before here n rest =
    let both : CountsCosts (c ∷ drop (i + 1) costs) (m + n) = counts_join c (drop (i + 1) costs) m n here rest in
    let next : c ∷ drop (i + 1) costs ≡ drop i costs = ap (λ (x : Frac). x ∷ drop (i + 1) costs) is ∙ sym (drop_more costs i c inside) in
    let whole : CountsCosts costs (count + (m + n)) = before (m + n) (subst (λ (l : List Frac). CountsCosts l (m + n)) next both) in
    let same : count + (m + n) ≡ count + m + n = omega arith in
    subst (CountsCosts costs) same whole

-- behind the last
pub counts_all : (costs : List Frac) (i count : ℕ) → length costs ≤ i → ((n : ℕ) → CountsCosts (drop i costs) n → CountsCosts costs (count + n)) → CountsCosts costs count
counts_all costs i count over before =
    let whole : CountsCosts costs (count + 0) = before 0 (subst (λ (l : List Frac). CountsCosts l 0) (sym (drop_all i costs over)) refl) in
    let same : count + 0 ≡ count = omega arith in
    subst (CountsCosts costs) same whole
