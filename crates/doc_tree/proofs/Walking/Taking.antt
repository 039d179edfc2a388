-- A reader whose machine took bytes together took them one by one.
use Rattle.doc_tree.proofs.Words.{Awaited, Bool, CanGoOn, CharacterFollows, Feeding, Good, IsAlone, IsTaken, List, Refused, RefusesByte, RefusesBytes, MachineState, TakesBytes, TreeFault, Walks, [], ap, append-nil, append_assoc, arith, behind, false, get_or, length, length-take-le, refl, returned_behind, subst, sym, take, take-take, take_more, ℕ, ◌++◌, ◌+◌, ◌-◌, ◌<◌, ◌∙◌, ◌∷◌, ◌≡◌, ◌≤◌}
use Rattle.doc_tree.specs.declared.characters.Awaited.TheVariants as awaits
use Rattle.doc_tree.proofs.Behind.{passes_after}
use Rattle.doc_tree.proofs.Utf8.{first_one, low_char}
use Rattle.doc_tree.proofs.TextTrees.LineFeeds.{passes_other}
use Rattle.doc_tree.proofs.TextTrees.Hearing.{on_option}
use Rattle.doc_tree.proofs.TextTrees.Verdicts.{fed_up_to}
use Rattle.doc_tree.proofs.Viability.Refusals.{taken}
use Rattle.doc_tree.proofs.Walking.Steps.{walks_good}

abbrev walked : Feeding → MachineState → Bool → ℕ → Feeding
walked f t returned count = record f { state = t; returned = returned; count = count }

alone_follows : (awaited : Awaited) (b : ℕ) → awaited ≡ awaits.First → IsAlone b → CharacterFollows awaited b awaited
alone_follows awaited b e i = let l = i.0 in subst (λ z. CharacterFollows z b z) (sym e) (first_one b (low_char b l (let h = i.1 in omega arith)) i.1)

still : (xs : List ℕ) → returned_behind xs false ≡ false
still [] = refl
still (x ∷ xs) = refl

pub walks_taken : (xs : List ℕ) (f : Feeding) (t : MachineState) → f.awaited ≡ awaits.First → length xs ≤ f.limit - f.count → Walks f.state xs t → TakesBytes f xs (walked f t (returned_behind xs f.returned) (f.count + length xs))
walks_taken [] f t a l w told bytes k =
    let n : f.count ≡ f.count + 0 = omega arith in
    subst (IsTaken (behind told (walked f t f.returned (f.count + 0)))) (sym (append-nil bytes)) (subst (λ z. IsTaken (behind told (walked f z f.returned (f.count + 0))) bytes) (sym w) (subst (λ z. IsTaken (behind told (walked f f.state f.returned z)) bytes) n k))
walks_taken (b ∷ xs) f t a l (mid, i, step, w) told bytes k =
    let g : Feeding = walked f mid false (f.count + 1) in
    let low = i.0 in
    let p = passes_after told f.state f.returned b mid false (passes_other f.state f.returned b mid (λ e. omega arith) (λ _ e. omega arith) step) in
    let first : IsTaken (behind told g) (bytes ++ b ∷ []) = taken (behind told f) bytes b k (omega arith) (behind told g) p (alone_follows f.awaited b a i) refl refl in
    let all = walks_taken xs g t a (omega arith) w told (bytes ++ b ∷ []) first in
    let n : f.count + 1 + length xs ≡ f.count + length (b ∷ xs) = omega arith in
    subst (IsTaken (behind told (walked f t false (f.count + length (b ∷ xs))))) (append_assoc bytes (b ∷ []) xs) (subst (λ z. IsTaken (behind told (walked f t false z)) ((bytes ++ b ∷ []) ++ xs)) n (subst (λ z. IsTaken (behind told (walked f t z (f.count + 1 + length xs))) ((bytes ++ b ∷ []) ++ xs)) (still xs) all))

pub walks_can : (f : Feeding) (xs : List ℕ) (t : MachineState) (returned : Bool) (count : ℕ) → Walks f.state xs t → CanGoOn f → CanGoOn (walked f t returned count)
walks_can f xs t returned count w h = on_option {A = Good f.state.place f.state} {B = Good t.place t} f.refusal (λ fault. Unit {0}) (walks_good f.state t xs w) h

-- those of the first `m` that were taken
pub together_taken : (f v : Feeding) (t : MachineState) (returned : Bool) (n m : ℕ) (xs : List ℕ) → f ≡ v → f.awaited ≡ awaits.First → n ≤ length (take m xs) → m ≤ length xs → m ≤ f.limit - f.count → Walks f.state (take n (take m xs)) t → returned ≡ returned_behind (take n (take m xs)) f.returned → TakesBytes v (take n xs) (walked f t returned (f.count + n))
together_taken f v t returned n m xs e a l k room w r =
    let o : length (take m xs) ≡ m = length-take-le m xs k in
    let size : length (take n xs) ≡ n = length-take-le n xs (omega arith) in
    let same : take n (take m xs) ≡ take n xs = take-take n m xs (omega arith) in
    let w2 = subst (λ z. Walks f.state z t) same w in
    let r2 : returned_behind (take n xs) f.returned ≡ returned = sym (r ∙ ap (λ z. returned_behind z f.returned) same) in
    let all = walks_taken (take n xs) f t a (omega arith) w2 in
    subst (λ z. TakesBytes z (take n xs) (walked f t returned (f.count + n))) e (subst (λ z. TakesBytes f (take n xs) (walked f t z (f.count + n))) r2 (subst (λ z. TakesBytes f (take n xs) (walked f t (returned_behind (take n xs) f.returned) (f.count + z))) size all))

-- one byte behind none
none_first : (old mid : Feeding) (n : ℕ) (xs : List ℕ) → n ≡ 0 → TakesBytes old (take n xs) mid → TakesBytes old [] mid
none_first old mid n xs e f = subst (λ z. TakesBytes old (take z xs) mid) e f

pub then_one : (old mid new : Feeding) (n d : ℕ) (xs : List ℕ) → 0 < length xs → n ≡ 0 → TakesBytes old (take n xs) mid → TakesBytes mid (get_or xs 0 d ∷ []) new → TakesBytes old (take 1 xs) new
then_one old mid new n d xs l e f g told bytes k =
    let a = subst (IsTaken (behind told mid)) (append-nil bytes) (none_first old mid n xs e f told bytes k) in
    subst (λ z. IsTaken (behind told new) (bytes ++ z)) (sym (take_more xs 0 d l)) (g told bytes a)

pub then_refused : (old mid : Feeding) (n : ℕ) (xs : List ℕ) (fault : TreeFault) → 0 < length xs → n ≡ 0 → mid.limit ≡ old.limit → TakesBytes old (take n xs) mid → RefusesByte mid (get_or xs 0 0) fault → RefusesBytes old xs fault
then_refused old mid n xs fault l e s f g told bytes k =
    let a : IsTaken (behind told mid) (bytes ++ []) = none_first old mid n xs e f told bytes k in
    fed_up_to old.limit bytes xs 0 fault l (subst (λ z. Refused z ((bytes ++ []) ++ (get_or xs 0 0 ∷ [])) fault) s (g told (bytes ++ []) a))
