-- The nodes of a tree, met with whichever case first, are told in the tree's own order.
use Rattle.std.proofs.Common.{◌≡◌, ℕ, ℤ, pos, ◌+ℤ◌, Bool, true, false, Option, List, [], ◌∷◌, ◌++◌, append_assoc, append-nil, inl, refl, sym, ◌∙◌, ap, ap₂, subst}
use Rattle.rational.specs.Ratio.{Ratio}
use Rattle.evidence.specs.Instance.{Instance}
use Rattle.evidence.specs.Cases.{Tree, Split, Zero, Node, SplitAt, ZeroAt, preorder, IsBranch, IsZeroBranch, low_case, high_case, at_zero, unless_zero, Shows}
use Rattle.search_rules.specs.Sides.{Met, has_cases, placed, parts_of, first_part, in_order, IsMet, closes, low_first, high_first, divides}

abbrev pub met : Node → Bool → Met
met n up = record { node = n; up = up }

two_parts : (a b : Tree) (xs ys more : List Met) → ((ms : List Met) → parts_of (xs ++ ms) ≡ preorder a ∷ parts_of ms) → ((ms : List Met) → parts_of (ys ++ ms) ≡ preorder b ∷ parts_of ms) → parts_of ((xs ++ ys) ++ more) ≡ preorder a ∷ preorder b ∷ parts_of more
two_parts a b xs ys more p q = ap parts_of (append_assoc xs ys more) ∙ p (ys ++ more) ∙ ap (λ ps. preorder a ∷ ps) (q more)

leaf_placed : (n : Node) (parts : List (List Node)) → has_cases n ≡ false → placed (met n false) parts ≡ (n ∷ []) ∷ parts
leaf_placed n parts e = rw e refl

-- whatever comes behind them
pub parts_met : (T : Tree) (ms : List Met) → IsMet T ms → (more : List Met) → parts_of (ms ++ more) ≡ preorder T ∷ parts_of more
parts_met T ms (closes {n} e f) more = leaf_placed n (parts_of more) f ∙ ap (λ ns. ns ∷ parts_of more) (sym e)
parts_met T ms (low_first {a} {b} {xs} {ys} j k p q) more = ap (placed (met (SplitAt j k) false)) (two_parts a b xs ys more (parts_met a xs p) (parts_met b ys q))
parts_met T ms (high_first {a} {b} {xs} {ys} j k p q) more = ap (placed (met (SplitAt j k) true)) (two_parts b a ys xs more (parts_met b ys q) (parts_met a xs p))
parts_met T ms (divides {a} {b} {xs} {ys} j p q) more = ap (placed (met (ZeroAt j) false)) (two_parts a b xs ys more (parts_met a xs p) (parts_met b ys q))

pub told_in_order : (T : Tree) (ms : List Met) → IsMet T ms → in_order ms ≡ preorder T
told_in_order T ms p = ap (λ ns. first_part (parts_of ns)) (sym (append-nil ms)) ∙ ap first_part (parts_met T ms p [])

-- a tree for each of these programs, one after the other as a search meets their nodes, and nothing after them
abbrev pub MetAll : List Instance → List Met → Option Ratio → Type 0
MetAll [] ms z = ms ≡ []
MetAll (I ∷ Is) ms z = (T : Tree) × (xs : List Met) × (rest : List Met) × IsMet T xs × (ms ≡ xs ++ rest) × Shows I T z × MetAll Is rest z

pub closes_first : (I : Instance) (Is : List Instance) (T : Tree) (n : Node) (more : List Met) (z : Option Ratio) → preorder T ≡ n ∷ [] → has_cases n ≡ false → Shows I T z → MetAll Is more z → MetAll (I ∷ Is) (met n false ∷ more) z
closes_first I Is T n more z e f s o = (T, met n false ∷ [], more, closes e f, refl, s, o)

behind : (m : Met) (xs ys more rest last : List Met) → more ≡ xs ++ rest → rest ≡ ys ++ last → m ∷ more ≡ (m ∷ (xs ++ ys)) ++ last
behind m xs ys more rest last e f = ap (λ ms. m ∷ ms) (e ∙ ap (λ ms. xs ++ ms) f ∙ sym (append_assoc xs ys last))

-- a split, whichever case is met first
pub splits_low : (I : Instance) (Is : List Instance) (j : ℕ) (k : ℤ) (more : List Met) (z : Option Ratio) → IsBranch I j k → MetAll (low_case I j k ∷ high_case I j (k +ℤ pos 1) ∷ Is) more z → MetAll (I ∷ Is) (met (SplitAt j k) false ∷ more) z
splits_low I Is j k more z br (a, xs, rest, p, e, s, (b, ys, last, q, f, u, o)) =
    (Split j k a b, met (SplitAt j k) false ∷ (xs ++ ys), last, low_first j k p q, behind (met (SplitAt j k) false) xs ys more rest last e f, (inl br, s, u), o)

pub splits_high : (I : Instance) (Is : List Instance) (j : ℕ) (k : ℤ) (more : List Met) (z : Option Ratio) → IsBranch I j k → MetAll (high_case I j (k +ℤ pos 1) ∷ low_case I j k ∷ Is) more z → MetAll (I ∷ Is) (met (SplitAt j k) true ∷ more) z
splits_high I Is j k more z br (b, ys, rest, q, e, u, (a, xs, last, p, f, s, o)) =
    (Split j k a b, met (SplitAt j k) true ∷ (ys ++ xs), last, high_first j k p q, behind (met (SplitAt j k) true) ys xs more rest last e f, (inl br, s, u), o)

-- or a variable that may be 0 besides
pub divides_first : (I : Instance) (Is : List Instance) (j : ℕ) (more : List Met) (z : Option Ratio) → IsZeroBranch I j → MetAll (at_zero I j ∷ unless_zero I j ∷ Is) more z → MetAll (I ∷ Is) (met (ZeroAt j) false ∷ more) z
divides_first I Is j more z br (a, xs, rest, p, e, s, (b, ys, last, q, f, u, o)) =
    (Zero j a b, met (ZeroAt j) false ∷ (xs ++ ys), last, divides j p q, behind (met (ZeroAt j) false) xs ys more rest last e f, (br, s, u), o)

-- at the end they are those of a tree that shows it
pub all_met : (I : Instance) (ms : List Met) (z : Option Ratio) → MetAll (I ∷ []) ms z → (T : Tree) × IsMet T ms × Shows I T z
all_met I ms z (T, xs, rest, p, e, s, o) = (T, subst (IsMet T) (sym (e ∙ ap (λ ns. xs ++ ns) o ∙ append-nil xs)) p, s)

abbrev pub nodes_of : List Met → List Node
nodes_of [] = []
nodes_of (m ∷ ms) = m.node ∷ nodes_of ms

nodes_append : (xs ys : List Met) → nodes_of (xs ++ ys) ≡ nodes_of xs ++ nodes_of ys
nodes_append [] ys = refl
nodes_append (x ∷ xs) ys = ap (λ ns. x.node ∷ ns) (nodes_append xs ys)

-- behind none the case of at least k + 1 came first
abbrev pub AllLow : List Met → Type 0
AllLow [] = Unit {0}
AllLow (m ∷ ms) = (m.up ≡ false) × AllLow ms

lows_both : (xs ys : List Met) → AllLow (xs ++ ys) → AllLow xs × AllLow ys
lows_both [] ys h = (tt, h)
lows_both (x ∷ xs) ys (l, h) = let r = lows_both xs ys h in ((l, r.0), r.1)

-- then they are in the tree's order as they were met
pub told_as_met : (T : Tree) (ms : List Met) → IsMet T ms → AllLow ms → nodes_of ms ≡ preorder T
told_as_met T ms (closes {n} e f) h = sym e
told_as_met T ms (low_first {a} {b} {xs} {ys} j k p q) (l, h) = let r = lows_both xs ys h in ap (λ ns. SplitAt j k ∷ ns) (nodes_append xs ys ∙ ap₂ (λ ns os. ns ++ os) (told_as_met a xs p r.0) (told_as_met b ys q r.1))
told_as_met T ms (high_first {a} {b} {xs} {ys} j k p q) (l, h) = absurd (cc)
told_as_met T ms (divides {a} {b} {xs} {ys} j p q) (l, h) = let r = lows_both xs ys h in ap (λ ns. ZeroAt j ∷ ns) (nodes_append xs ys ∙ ap₂ (λ ns os. ns ++ os) (told_as_met a xs p r.0) (told_as_met b ys q r.1))
