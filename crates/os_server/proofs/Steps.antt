-- Parts of a conversation, one after another.
use Rattle.std.proofs.Common.{◌≡◌, ℕ, List, [], ◌∷◌, ◌++◌, inl, inr, Option, Some, None, refl, sym, ◌∙◌, ap, append_assoc, append-nil}
use Rattle.os_io.specs.Streams.{Tells, BothTold, Appends}
use Rattle.os_server.specs.Talk.{Part, part, then, all_of, ReadsBytes, AtEnd, HandsOnAll}

abbrev Bytes : Type 0
Bytes = Option (List ℕ)

pub read_then : (x y z : Bytes) (a b : List ℕ) → ReadsBytes a x y → ReadsBytes b y z → ReadsBytes (a ++ b) x z
read_then None y z a b p q = tt
read_then (Some x) None z a b p q = absurd p
read_then (Some x) (Some y) None a b p q = absurd q
read_then (Some x) (Some y) (Some z) a b p q = p ∙ ap (λ s. a ++ s) q ∙ sym (append_assoc a b z)

pub wrote_then : (x y z : Bytes) (a b : List ℕ) → BothTold x y (Appends a) → BothTold y z (Appends b) → BothTold x z (Appends (a ++ b))
wrote_then None y z a b p q = tt
wrote_then (Some x) None z a b p q = absurd p
wrote_then (Some x) (Some y) None a b p q = absurd q
wrote_then (Some x) (Some y) (Some z) a b p q = q ∙ ap (λ s. s ++ b) p ∙ append_assoc x a b

pub at_end_then : (x y z : Bytes) (a : List ℕ) → ReadsBytes a x y → AtEnd y z → AtEnd x z
at_end_then None y z a p q = tt
at_end_then (Some x) None z a p q = absurd p
at_end_then (Some x) (Some y) None a p q = absurd q
at_end_then (Some x) (Some y) (Some z) a p q = q

pub read_none : (x : Bytes) → ReadsBytes [] x x
read_none None = tt
read_none (Some x) = refl

pub wrote_none : (x : Bytes) → BothTold x x (Appends [])
wrote_none None = tt
wrote_none (Some x) = sym (append-nil x)

-- the read bytes, of which more was known
pub read_of : (P : List ℕ → Type 0) (x y : Bytes) (taken : List ℕ) → BothTold x y (λ before after. (before ≡ taken ++ after) × P after)
    → ReadsBytes taken x y
read_of P None y taken p = tt
read_of P (Some x) None taken p = absurd p
read_of P (Some x) (Some y) taken p = p.0

-- and of which the end of the input was known
pub end_of : (x y : Bytes) (taken : List ℕ) → BothTold x y (λ before after. (before ≡ taken ++ after) × (after ≡ []))
    → AtEnd x y
end_of None y taken p = tt
end_of (Some x) None taken p = absurd p
end_of (Some x) (Some y) taken p = p.1

-- what is handed on after what was handed on
pub hands_then : (a b c : Tells) → HandsOnAll a b → HandsOnAll b c → HandsOnAll a c
hands_then a b c p (inl all) = inl all
hands_then a b c (inl all) (inr same) = inl (same.1 ∙ all ∙ sym same.0)
hands_then a b c (inr before) (inr same) = inr (same.0 ∙ before.0, same.1 ∙ before.1)

then_assoc : (p q r : Part) → then (then p q) r ≡ then p (then q r)
then_assoc p q r =
    λ i. part (append_assoc p.taken q.taken r.taken i) (append_assoc p.entries q.entries r.entries i) (append_assoc p.out q.out r.out i)

pub then_none : (p : Part) → then p (part [] [] []) ≡ p
then_none p = λ i. part (append-nil p.taken i) (append-nil p.entries i) (append-nil p.out i)

pub all_more : (ps : List Part) (p : Part) → all_of (ps ++ p ∷ []) ≡ then (all_of ps) p
all_more [] p = then_none p
all_more (q ∷ ps) p = ap (then q) (all_more ps p) ∙ sym (then_assoc q (all_of ps) p)
