-- A dictionary in memory, its columns and their places.
use Rattle.std.proofs.Common.{◌≡◌, ℕ, ◌+◌, zero, suc, ◌<◌, ◌≤◌, Bool, true, false, IsTrue, List, [], ◌∷◌, length, slice_index, get_or, arith, refl, sym, subst}
use Rattle.dictionary.specs.declared.dict.Dict.{Dict}
use Rattle.dictionary.specs.Basis.{ArePlaces, ChangePlaces}
use Rattle.dictionary.specs.Dict.{width_of, height_of, columns_of, IsLoaded}

abbrev pub cols : {L : _} {G : _} → Dict L G → ℕ → ℕ
cols d = slice_index d.columns.items

abbrev pub place : {L : _} {G : _} → Dict L G → ℕ → ℕ
place d = slice_index d.places.items

-- an element that was read
pub same_number : (xs : List ℕ) (i x : ℕ) → i < length xs → x ≡ get_or xs i x → x ≡ slice_index xs i
same_number [] i x h e = absurd (omega arith)
same_number (y ∷ ys) zero x h e = e
same_number (y ∷ ys) (suc i) x h e = same_number ys i x (omega arith) e

-- a list of numbers past its end
pub past_list : (xs : List ℕ) (c : ℕ) → length xs ≤ c → slice_index xs c ≡ 0
past_list [] c h = refl
past_list (x ∷ xs) zero h = absurd (omega arith)
past_list (x ∷ xs) (suc c) h = past_list xs c (omega arith)

pub not_loaded : {L : _} {G : _} (d : Dict L G) → d.is_loaded ≡ false → IsLoaded d → ⊥
unfolding IsLoaded
not_loaded d e h = let f : false ≡ true = subst (λ (x : Bool). IsTrue x) e h.0 in absurd (cc)

-- the places that were lent, and the columns
pub moved_there : {L : _} {G : _} (d : Dict L G) (b e : ℕ) (P C : List ℕ) (to : ℕ → ℕ) → P ≡ d.places.items → C ≡ d.columns.items → ChangePlaces (slice_index P b) (slice_index P e) (slice_index C) to → ChangePlaces (place d b) (place d e) (cols d) to
moved_there d b e P C to ep ec h = subst (λ (X : List ℕ). ChangePlaces (slice_index X b) (slice_index X e) (cols d) to) ep (subst (λ (X : List ℕ). ChangePlaces (slice_index P b) (slice_index P e) (slice_index X) to) ec h)

pub all_columns : {L : _} {G : _} (d : Dict L G) → columns_of d ≡ d.width + length d.rows.items
unfolding width_of height_of
all_columns d = let c = d.count in omega arith

pub placed : {L : _} {G : _} (d : Dict L G) → ArePlaces (d.width + length d.rows.items) (cols d) (place d)
placed d = subst (λ k. ArePlaces (d.width + k) (cols d) (place d)) (sym d.count) d.basis
