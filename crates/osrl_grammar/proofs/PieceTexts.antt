-- The pieces of texts that the code cuts.
use Rattle.osrl_grammar.proofs.Names.{Bor, ◌≡◌, ◌∙◌, ◌≢◌, ◌<◌, ℕ, Bool, true, false, cond, Option, None, Some, option_map, List, [], ◌∷◌, ◌++◌, length, refl, ap, sym, arith, ne_eqb, MatchOption, is_some, false≢true, true≢false, All-nil, All-cons, All-head, All-tail, IsFree, pieces, more, Pair, parted, no_field}
use Rattle.std.proofs.Common.{nat_eq, eq-eqb}
use Rattle.osrl_grammar.specs.Pieces.{onto}

other_byte : (byte c : ℕ) (a : List ℕ) → IsFree byte (c ∷ a) → nat_eq c byte ≡ false
other_byte byte c a free = ne_eqb c byte (All-head (λ b. b ≢ byte) c a free)

pub pieces_free : (a : List ℕ) → IsFree 32 a → pieces a ≡ a ∷ []
pieces_free [] free = refl
pieces_free (c ∷ a) free = ap (λ (b : Bool). cond b ([] ∷ pieces a) (onto c (pieces a))) (other_byte 32 c a free) ∙ ap (onto c) (pieces_free a (All-tail (λ b. b ≢ 32) c a free))

pub pieces_cut : (a b : List ℕ) → IsFree 32 a → pieces (a ++ 32 ∷ b) ≡ a ∷ pieces b
pieces_cut [] b free = refl
pieces_cut (c ∷ a) b free = ap (λ (t : Bool). cond t ([] ∷ pieces (a ++ 32 ∷ b)) (onto c (pieces (a ++ 32 ∷ b)))) (other_byte 32 c a free) ∙ ap (onto c) (pieces_cut a b (All-tail (λ b. b ≢ 32) c a free))

pub first_is : (text front : List ℕ) (behind : Option (Bor (List ℕ))) → IsFree 32 front → MatchOption behind (text ≡ front) (λ r. text ≡ front ++ 32 ∷ r.now) → pieces text ≡ front ∷ more behind
first_is text front None free is = ap pieces is ∙ pieces_free front free
first_is text front (Some r) free is = ap pieces is ∙ pieces_cut front r.now free

-- before the first colon
abbrev with_front : ℕ → Option Pair → Option Pair
with_front c o = option_map (λ p. record { column = c ∷ p.column; factor = p.factor }) o

pub parted_free : (a : List ℕ) → IsFree 58 a → parted a ≡ None
parted_free [] free = refl
parted_free (c ∷ a) free = ap (λ (b : Bool). cond b (Some (record { column = []; factor = a })) (with_front c (parted a))) (other_byte 58 c a free) ∙ ap (with_front c) (parted_free a (All-tail (λ b. b ≢ 58) c a free))

pub parted_cut : (a b : List ℕ) → IsFree 58 a → parted (a ++ 58 ∷ b) ≡ Some (record { column = a; factor = b })
parted_cut [] b free = refl
parted_cut (c ∷ a) b free = ap (λ (t : Bool). cond t (Some (record { column = []; factor = a ++ 58 ∷ b })) (with_front c (parted (a ++ 58 ∷ b)))) (other_byte 58 c a free) ∙ ap (with_front c) (parted_cut a b (All-tail (λ b. b ≢ 58) c a free))

pub parted_none : (text front : List ℕ) (behind : Option (Bor (List ℕ))) → behind ≡ None → IsFree 58 front → MatchOption behind (text ≡ front) (λ r. text ≡ front ++ 58 ∷ r.now) → parted text ≡ None
parted_none text front None e free is = ap parted is ∙ parted_free front free
parted_none text front (Some r) e free is = absurd (cc)

pub parted_some : (text front : List ℕ) (behind : Option (Bor (List ℕ))) (rest : Bor (List ℕ)) → behind ≡ Some rest → IsFree 58 front → MatchOption behind (text ≡ front) (λ r. text ≡ front ++ 58 ∷ r.now) → parted text ≡ Some (record { column = front; factor = rest.now })
parted_some text front None rest e free is = absurd (cc)
parted_some text front (Some r) rest e free is = let same : r ≡ rest = cc in ap parted is ∙ parted_cut front r.now free ∙ ap (λ (b : Bor (List ℕ)). Some (record { column = front; factor = b.now })) same

-- a text has a piece
onto_some : (c : ℕ) (ps : List (List ℕ)) → 0 < length (onto c ps)
onto_some c [] = omega arith
onto_some c (p ∷ ps) = omega arith

one_of : (b : Bool) (ps qs : List (List ℕ)) → 0 < length ps → 0 < length qs → 0 < length (cond b ps qs)
one_of true ps qs h k = h
one_of false ps qs h k = k

pub pieces_some : (t : List ℕ) → 0 < length (pieces t)
pieces_some [] = omega arith
pieces_some (c ∷ cs) = one_of (nat_eq c 32) ([] ∷ pieces cs) (onto c (pieces cs)) (omega arith) (onto_some c (pieces cs))

pub behind_some : (o : Option (Bor (List ℕ))) (t : Bor (List ℕ)) → o ≡ Some t → 0 < length (more o)
behind_some None t e = absurd (cc)
behind_some (Some r) t e = pieces_some r.now

pub more_some : (o : Option (Bor (List ℕ))) → true ≡ is_some o → 0 < length (more o)
more_some None e = absurd (true≢false e)
more_some (Some t) e = pieces_some t.now

pub not_none : (ps : List (List ℕ)) → 0 < length ps → no_field ps ≡ None
not_none [] some = absurd (omega arith)
not_none (p ∷ ps) some = refl

-- a text that is seen to be without a byte
abbrev pub is_without : ℕ → List ℕ → Bool
is_without byte [] = true
is_without byte (c ∷ cs) = cond (nat_eq c byte) false (is_without byte cs)

free_more : (byte c : ℕ) (cs : List ℕ) (b : Bool) → nat_eq c byte ≡ b → IsFree byte cs → cond b false true ≡ true → IsFree byte (c ∷ cs)
free_more byte c cs b e free t = All-cons (λ d. d ≢ byte) c cs (λ same. let yes = eq-eqb c byte same in absurd (clash b (sym e ∙ yes) t)) free
  where
    clash : (b : Bool) → b ≡ true → cond b false true ≡ true → ⊥
    clash b one other = false≢true (sym (ap (λ (x : Bool). cond x false true) one) ∙ other)

both_so : (b rest : Bool) → cond b false rest ≡ true → (cond b false true ≡ true) × (rest ≡ true)
both_so false rest h = (refl, h)
both_so true rest h = absurd (false≢true h)

pub seen_free : (byte : ℕ) (text : List ℕ) → is_without byte text ≡ true → IsFree byte text
seen_free byte [] h = All-nil (λ b. b ≢ byte)
seen_free byte (c ∷ cs) h = let both = both_so (nat_eq c byte) (is_without byte cs) h in free_more byte c cs (nat_eq c byte) refl (seen_free byte cs both.1) both.0
