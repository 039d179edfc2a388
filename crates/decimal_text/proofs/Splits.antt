-- A text and what it begins with.
use Rattle.std.proofs.Common.{◌≡◌, ℕ, Bool, true, false, List, [], ◌∷◌, ◌++◌, length, refl, ap, sym, ◌∙◌, arith}
use Rattle.std.proofs.lemmas.List.{append_assoc}
use Rattle.decimal_text.specs.Sign.{optional}

pub strip_none : (byte : ℕ) (b : Bool) (x y : List ℕ) → x ≡ optional byte b ++ y → b ≡ false → x ≡ y
strip_none byte false x y e h = e
strip_none byte true x y e h = cc

pub strip_some : (byte : ℕ) (b : Bool) (x y : List ℕ) → x ≡ optional byte b ++ y → b ≡ true → x ≡ byte ∷ y
strip_some byte true x y e h = e
strip_some byte false x y e h = cc

-- a text in two parts, the second of them a byte and two more
pub regroup : (text before behind fraction after rest : List ℕ) (byte : ℕ) → text ≡ before ++ behind → behind ≡ byte ∷ fraction → fraction ≡ after ++ rest → text ≡ (before ++ byte ∷ after) ++ rest
regroup text before behind fraction after rest byte e f g =
    e ∙ (ap (λ x. before ++ x) (f ∙ ap (λ x. byte ∷ x) g) ∙ sym (append_assoc before (byte ∷ after) rest))

pub is_nothing : (rest : List ℕ) → length rest ≡ 0 → rest ≡ []
is_nothing [] h = refl
is_nothing (b ∷ t) h = absurd (omega (arith, h))
