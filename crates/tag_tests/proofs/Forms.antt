-- Marks one after another.
use Rattle.std.proofs.Common.{◌≡◌, ◌∙◌, List, [], ◌∷◌, ◌++◌, refl, ap, sym, subst, append_assoc}
use Rattle.tag_tests.specs.Tests.{AllPass}
use Rattle.tag_tests.specs.Forms.{Form, Refuses, TakesMark, AreTaken, AreRefused, LeavesOne}
use Rattle.tag_tests.proofs.Tests.{not_pass, first_is_one}

-- one mark more is taken
pub taken_then : {S T C R : Type 0} (F : Form S T C R) (s m z : S) (ts : List T) (t : T) → AreTaken F s ts m → TakesMark F m t z → AreTaken F s (ts ++ t ∷ []) z
taken_then F s m z [] t taken takes = let P = subst (λ x. TakesMark F x t z) taken takes in (z, P, refl)
taken_then F s m z (x ∷ ts) t taken takes = (taken.0, taken.1, taken_then F taken.0 m z ts t taken.2 takes)

-- marks are taken in one way
pub taken_once : {S T C R : Type 0} (F : Form S T C R) → LeavesOne F → (s : S) (ts : List T) (a b : S) → AreTaken F s ts a → AreTaken F s ts b → a ≡ b
taken_once F one s [] a b p q = p ∙ sym q
taken_once {S} F one s (t ∷ ts) a b p q =
    let same : q.0 ≡ p.0 = one s t q.0 p.0 q.1 p.1 in
    taken_once F one p.0 ts a b p.2 (subst (λ (m : S). AreTaken F m ts b) same q.2)

-- marks that are taken are not refused
middle : {S T C R : Type 0} (F : Form S T C R) → LeavesOne F → (s : S) (before : List T) (t : T) (after : List T) (m z : S) (r : R) → AreTaken F s before m → Refuses F m t r → AreTaken F s (before ++ t ∷ after) z → ⊥
middle {S} F one s [] t after m z r taken refuses all = not_pass (F.Fails s t) (F.told s t) (F.tests s t) r all.1.0 (subst (λ (x : S). Refuses F x t r) taken refuses)
middle {S} F one s (b ∷ before) t after m z r taken refuses all =
    let same : all.0 ≡ taken.0 = one s b all.0 taken.0 all.1 taken.1 in
    middle F one taken.0 before t after m z r taken.2 refuses (subst (λ (x : S). AreTaken F x (before ++ t ∷ after) z) same all.2)

pub not_both : {S T C R : Type 0} (F : Form S T C R) → LeavesOne F → (s : S) (ts : List T) (z : S) (r : R) → AreTaken F s ts z → AreRefused F s ts r → ⊥
not_both {S} {T} F one s ts z r taken f = middle F one s f.before f.mark f.after f.state z r f.taken f.refuses (subst (λ (l : List T). AreTaken F s l z) f.split taken)

pub heads : {T : Type 0} (x y : T) (xs ys : List T) → x ∷ xs ≡ y ∷ ys → (x ≡ y) × (xs ≡ ys)
heads x y xs ys e = let a : x ≡ y = cc in let b : xs ≡ ys = cc in (a, b)

-- a mark at which some test doesn't pass, behind marks that are taken, is one mark in one state
pub one_stop : {S T C R : Type 0} (F : Form S T C R) → LeavesOne F → (s : S) (before others : List T) (t u : T) (after more : List T) (m k : S) → before ++ t ∷ after ≡ others ++ u ∷ more → AreTaken F s before m → AreTaken F s others k → (AllPass (F.Fails m t) (F.tests m t) → ⊥) → (AllPass (F.Fails k u) (F.tests k u) → ⊥) → (m ≡ k) × (t ≡ u)
one_stop {S} {T} F one s [] [] t u after more m k same p o a b = (p ∙ sym o, (heads t u after more same).0)
one_stop {S} {T} F one s [] (x ∷ others) t u after more m k same p o a b =
    let here = subst (λ (y : S). AllPass (F.Fails y t) (F.tests y t) → ⊥) p a in
    absurd (subst (λ (y : T). AllPass (F.Fails s y) (F.tests s y) → ⊥) (heads t x after (others ++ u ∷ more) same).0 here o.1.0)
one_stop {S} {T} F one s (x ∷ before) [] t u after more m k same p o a b =
    let there = subst (λ (y : S). AllPass (F.Fails y u) (F.tests y u) → ⊥) o b in
    absurd (subst (λ (y : T). AllPass (F.Fails s y) (F.tests s y) → ⊥) (sym (heads x u (before ++ t ∷ after) more same).0) there p.1.0)
one_stop {S} {T} F one s (x ∷ before) (y ∷ others) t u after more m k same p o a b =
    let parts = heads x y (before ++ t ∷ after) (others ++ u ∷ more) same in
    let takes = subst (λ (w : T). TakesMark F s w o.0) (sym parts.0) o.1 in
    let state : o.0 ≡ p.0 = one s x o.0 p.0 takes p.1 in
    one_stop F one p.0 before others t u after more m k parts.1 p.2 (subst (λ (w : S). AreTaken F w others k) state o.2) a b

-- marks are refused in one way
pub refused_once : {S T C R : Type 0} (F : Form S T C R) → LeavesOne F → (s : S) (ts : List T) (r q : R) → AreRefused F s ts r → AreRefused F s ts q → r ≡ q
refused_once {S} {T} {C} {R} F one s ts r q a b =
    let same = one_stop F one s a.before b.before a.mark b.mark a.after b.after a.state b.state (sym a.split ∙ b.split) a.taken b.taken
    (λ pass. not_pass (F.Fails a.state a.mark) (F.told a.state a.mark) (F.tests a.state a.mark) r pass a.refuses)
    (λ pass. not_pass (F.Fails b.state b.mark) (F.told b.state b.mark) (F.tests b.state b.mark) q pass b.refuses) in
    let there = subst (λ (y : T). Refuses F a.state y q) (sym same.1) (subst (λ (x : S). Refuses F x b.mark q) (sym same.0) b.refuses) in
    first_is_one (F.Fails a.state a.mark) (F.told a.state a.mark) (F.tests a.state a.mark) r q a.refuses there

-- the first mark refuses, or is taken and one behind it refuses
pub refused_here : {S T C R : Type 0} (F : Form S T C R) (s : S) (t : T) (ts : List T) (r : R) → Refuses F s t r → AreRefused F s (t ∷ ts) r
refused_here F s t ts r refuses = record { before = []; mark = t; after = ts; split = refl; state = s; taken = refl; refuses = refuses }

pub refused_later : {S T C R : Type 0} (F : Form S T C R) (s m : S) (t : T) (ts : List T) (r : R) → TakesMark F s t m → AreRefused F m ts r → AreRefused F s (t ∷ ts) r
refused_later {S} {T} F s m t ts r takes f = record { before = t ∷ f.before; mark = f.mark; after = f.after; split = ap (λ (l : List T). t ∷ l) f.split; state = f.state; taken = (m, takes, f.taken); refuses = f.refuses }

-- marks, and marks behind them
pub taken_both : {S T C R : Type 0} (F : Form S T C R) (s m z : S) (ts us : List T) → AreTaken F s ts m → AreTaken F m us z → AreTaken F s (ts ++ us) z
taken_both {S} {T} F s m z [] us p q = subst (λ (x : S). AreTaken F x us z) p q
taken_both F s m z (t ∷ ts) us p q = (p.0, p.1, taken_both F p.0 m z ts us p.2 q)

pub refused_more : {S T C R : Type 0} (F : Form S T C R) (s : S) (ts us : List T) (r : R) → AreRefused F s ts r → AreRefused F s (ts ++ us) r
refused_more {S} {T} F s ts us r f = record { before = f.before; mark = f.mark; after = f.after ++ us; split = ap (λ (l : List T). l ++ us) f.split ∙ append_assoc f.before (f.mark ∷ f.after) us; state = f.state; taken = f.taken; refuses = f.refuses }

pub refused_behind : {S T C R : Type 0} (F : Form S T C R) (s m : S) (ts us : List T) (r : R) → AreTaken F s ts m → AreRefused F m us r → AreRefused F s (ts ++ us) r
refused_behind {S} {T} {C} {R} F s m [] us r p f = subst (λ (x : S). AreRefused F x us r) p f
refused_behind F s m (t ∷ ts) us r p f = refused_later F s p.0 t (ts ++ us) r p.1 (refused_behind F p.0 m ts us r p.2 f)

pub taken_parts : {S T C R : Type 0} (F : Form S T C R) (s z : S) (ts us : List T) → AreTaken F s (ts ++ us) z → (m : S) × AreTaken F s ts m × AreTaken F m us z
taken_parts F s z [] us p = (s, refl, p)
taken_parts F s z (t ∷ ts) us p = let parted = taken_parts F p.0 z ts us p.2 in (parted.0, (p.0, p.1, parted.1), parted.2)
