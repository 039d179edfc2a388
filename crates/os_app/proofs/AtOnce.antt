-- What waits for others, behind what touched nothing.
use Rattle.std.proofs.Common.{◌≡◌, subst}

-- what holds of four that are as they were holds of them before
pub carried : {F K O N : Type 0} (R : F → K → O → N → Type 0) (f now_f : F) (k now_k : K) (o now_o : O) (n now_n : N) → (now_f ≡ f) × (now_k ≡ k) × (now_o ≡ o) × (now_n ≡ n) → R now_f now_k now_o now_n → R f k o n
carried R f now_f k now_k o now_o n now_n same holds =
    subst (λ x. R f k o x) same.3 (subst (λ x. R f k x now_n) same.2 (subst (λ x. R f x now_o now_n) same.1 (subst (λ x. R x now_k now_o now_n) same.0 holds)))
