-- Looks after looks.
use Rattle.std.proofs.Common.{◌≡◌, ℕ, zero, suc, ◌+◌, Bool, true, false, Option, None, Some, [], ◌∷◌, ◌++◌, append_assoc, sym, ◌∙◌, ap, subst, arith}
use Rattle.simplex_rules.specs.Looks.{went_on, answers, IsAfter, AgreesWith, looks_after}

went_more : (n k : ℕ) → went_on n ++ went_on k ≡ went_on (n + k)
went_more zero k = let e : k ≡ 0 + k = omega arith in ap went_on e
went_more (suc n) k = let e : suc (n + k) ≡ suc n + k = omega arith in ap (λ l. false ∷ l) (went_more n k) ∙ ap went_on e

pub answers_more : (n k : ℕ) (b : Bool) → went_on n ++ answers k b ≡ answers (n + k) b
answers_more n k false = went_more n k
answers_more n k true = sym (append_assoc (went_on n) (went_on k) (true ∷ [])) ∙ ap (λ l. l ++ true ∷ []) (went_more n k)

-- a stop that agrees with all looks comes after the first n
pub after_less : (looks n k : ℕ) (b : Bool) (stop : Option ℕ) → AgreesWith stop looks (n + k) b → IsAfter (looks + n) stop
after_less looks n k false None h = tt
after_less looks n k false (Some i) h = omega arith
after_less looks n k true None h = absurd (cc)
after_less looks n k true (Some i) h = let e : i ≡ looks + (n + k) + 1 = cc in omega arith

-- and agrees with the others
pub tells_less : (looks n k : ℕ) (b : Bool) (stop : Option ℕ) → AgreesWith stop looks (n + k) b → AgreesWith stop (looks + n) k b
tells_less looks n k false stop h = let e : looks + (n + k) ≡ looks + n + k = omega arith in subst (λ i. IsAfter i stop) e h
tells_less looks n k true stop h = let e : looks + (n + k) + 1 ≡ looks + n + k + 1 = omega arith in h ∙ ap Some e

pub after_more : (looks n k : ℕ) (b : Bool) → looks_after (looks + n) k b ≡ looks_after looks (n + k) b
after_more looks n k false = omega arith
after_more looks n k true = omega arith
