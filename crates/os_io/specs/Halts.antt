-- Looks at whether there is a file.
use Rattle.std.specs.Prelude.{◌≡◌, ℕ, ◌+◌, Bool, List, [], ◌++◌, refl}
use Rattle.std.specs.Borrow.{Bor}
use Rattle.std.proofs.Common.{◌∙◌, sym, ap, ap₂, subst}
use Rattle.std.proofs.Math.Nat.{add_assoc, add-zero}
use Rattle.os_io.specs.Files.{Held, NoFile}
use Rattle.os_io.specs.Laws.{stops_more}
use Rattle.os_io.specs.Looks.{stops_of}

-- looks with these answers, of a name that holds this: those that said to stop are counted, and saw a file; where it is told that there is none, none did
pub record CameHalted (held : Held) (before after : ℕ) (answers : List Bool) : Type 0 where
  pub counted : after ≡ before + stops_of answers
  pub seen : held ≡ NoFile → stops_of answers ≡ 0

-- no look
pub halted_without : (held : Held) (stops : ℕ) → CameHalted held stops stops []
halted_without held stops = record { counted = sym (add-zero stops); seen = λ none. refl }

-- looks after looks, of the same name
halted_more : (held : Held) (i j k : ℕ) (a b : List Bool) → CameHalted held i j a → CameHalted held j k b → CameHalted held i k (a ++ b)
halted_more held i j k a b p q = record {
  counted = q.counted ∙ ap (λ n. n + stops_of b) p.counted ∙ add_assoc i (stops_of a) (stops_of b) ∙ ap (λ n. i + n) (sym (stops_more a b));
  seen = λ none. stops_more a b ∙ ap₂ (λ (x y : ℕ). x + y) (p.seen none) (q.seen none);
}

-- of the same files
pub halted_then : {F : Type 0} (held : F → List ℕ → Held) (f g : Bor F) → g ≡ f → (m n : Bor (List ℕ)) → n ≡ m → (i j k : ℕ) (a b : List Bool)
    → CameHalted (held f.now m.now) i j a → CameHalted (held g.now n.now) j k b → CameHalted (held f.now m.now) i k (a ++ b)
halted_then {F} held f g files m n name i j k a b p q =
    halted_more (held f.now m.now) i j k a b p
    (subst (λ (x : Bor (List ℕ)). CameHalted (held f.now x.now) j k b) name
    (subst (λ (x : Bor F). CameHalted (held x.now n.now) j k b) files q))
