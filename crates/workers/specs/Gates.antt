-- The looks among moves, numbered for the gate that is passed before each.
use Rattle.std.specs.Prelude.{◌≡◌, ℕ, List, [], ◌∷◌, ◌++◌}
use Rattle.std.proofs.Common.{refl, sym, ◌∙◌, ap, subst, append_assoc}
use Rattle.os_io.specs.Looks.{next_call}
use Rattle.job_table.specs.declared.moves.MoveKind.{MoveKind}
use Rattle.job_table.specs.declared.moves.MoveKind.TheVariants.{Looks, Gives, Else}
use Rattle.job_table.specs.Steps.{move_kind}
use Rattle.job_table.specs.History.{MoveEntry}

-- how many looks at a job there are with one more move: one that gives a job begins to count anew
abbrev pub looks_with : ℕ → MoveKind → ℕ
looks_with n Looks = next_call n
looks_with n Gives = 0
looks_with n Else = n

-- the number of a look, and nothing of another move
abbrev pub look_number : ℕ → MoveKind → List ℕ
look_number n Looks = n ∷ []
look_number n Gives = []
look_number n Else = []

-- the numbers of the looks among these moves, after so many
abbrev pub look_numbers : ℕ → List MoveEntry → List ℕ
look_numbers n [] = []
look_numbers n (e ∷ es) =
    let kind = move_kind e.table_move in let m = looks_with n kind in look_number m kind ++ look_numbers m es

-- how many there are after them
abbrev pub looks_counted : ℕ → List MoveEntry → ℕ
looks_counted n [] = n
looks_counted n (e ∷ es) = looks_counted (looks_with n (move_kind e.table_move)) es

numbered-append : (n : ℕ) (a b : List MoveEntry) → look_numbers n (a ++ b) ≡ look_numbers n a ++ look_numbers (looks_counted n a) b
numbered-append n [] b = refl
numbered-append n (e ∷ es) b =
    let m : ℕ = looks_with n (move_kind e.table_move) in
    ap (λ (l : List ℕ). look_number m (move_kind e.table_move) ++ l) (numbered-append m es b)
    ∙ sym (append_assoc (look_number m (move_kind e.table_move)) (look_numbers m es) (look_numbers (looks_counted m es) b))

counted-append : (n : ℕ) (a b : List MoveEntry) → looks_counted n (a ++ b) ≡ looks_counted (looks_counted n a) b
counted-append n [] b = refl
counted-append n (e ∷ es) b = counted-append (looks_with n (move_kind e.table_move)) es b

-- a gate that is passed before moves, and then before others, is passed before both
pub passed_then : (passed passed' both : List ℕ → Type 0) → ((a b : List ℕ) → passed a → passed' b → both (a ++ b))
    → (m n : ℕ) (a b : List MoveEntry) → n ≡ looks_counted m a → passed (look_numbers m a) → passed' (look_numbers n b) → both (look_numbers m (a ++ b))
passed_then passed passed' both joins m n a b same p q =
    subst both (ap (λ (k : ℕ). look_numbers m a ++ look_numbers k b) same ∙ sym (numbered-append m a b)) (joins (look_numbers m a) (look_numbers n b) p q)

-- and so the count goes on
pub looks_counted_then : (l m n : ℕ) (a b : List MoveEntry) → m ≡ looks_counted l a → n ≡ looks_counted m b → n ≡ looks_counted l (a ++ b)
looks_counted_then l m n a b p q = q ∙ ap (λ (k : ℕ). looks_counted k b) p ∙ sym (counted-append l a b)
