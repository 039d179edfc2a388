-- What a visitor was told, and what waits.
use Rattle.doc_tree.proofs.Words.{Err, Feeding, HandedOn, Heard, IsEnd, IsTaken, List, Mark, MatchOption, None, Ok, Option, ReadingFails, Refused, RefusesBytes, Relieved, Result, Some, MachineState, TakesBytes, TreeFault, Visits, WasHeard, ap, append_assoc, arith, behind, drop, length, length-drop, refl, subst, sym, take, take-add, take-append-drop, take_rest, ℕ, ◌++◌, ◌+◌, ◌-◌, ◌<◌, ◌∙◌, ◌≡◌, ◌≤◌}
use Rattle.doc_tree.specs.Feeding.{ToldBefore}
use Rattle.doc_tree.specs.declared.fault.TreeFault.TheVariants as faults
use Rattle.doc_tree.proofs.Behind.{over_after}
use Rattle.doc_tree.proofs.TextTrees.Verdicts.{refused_fed, visited}

-- a machine that is relieved
pub relieved : (had : List Mark → Type 0) (s new : MachineState) (told : List Mark) → had told → s.marks ≡ told ++ new.marks → new ≡ record s { marks = new.marks } → Relieved s new had
relieved had s new told h r e = record { told = told; has = h; rest = r; same = e }

pub handed : (had : List Mark → Type 0) (f v : Feeding) (s : MachineState) → f ≡ v → Relieved f.state s had → HandedOn v (record f { state = s }) had
handed had f v s e r = subst (λ z. HandedOn z (record f { state = s }) had) e (record { told = r.told; has = r.has; rest = r.rest; same = ap (λ z. record f { state = z }) r.same })

-- where a reader wasn't refused
pub on_option : {A B : Type 0} (o : Option TreeFault) (R : TreeFault → Type 0) → (A → B) → MatchOption o A R → MatchOption o B R
on_option None R f h = f h
on_option (Some fault) R f h = h

-- more marks are told
abbrev with_marks : Feeding → List Mark → Feeding
with_marks f m = record f { state = record f.state { marks = m } }

told_on : (had : List Mark → Type 0) (mid new : Feeding) (h : HandedOn mid new had) (told : List Mark) → behind (told ++ h.told) new ≡ behind told mid
told_on had mid new h told =
    let m : (told ++ h.told) ++ new.state.marks ≡ told ++ mid.state.marks = append_assoc told h.told new.state.marks ∙ ap (λ z. told ++ z) (sym h.rest) in
    ap {A = Feeding} {B = Feeding} (λ z. with_marks z ((told ++ h.told) ++ new.state.marks)) h.same ∙ ap {A = List Mark} {B = Feeding} (with_marks mid) m

module _ (had step now : List Mark → Type 0) (joined : (a b : List Mark) → had a → step b → now (a ++ b)) where
  pub heard_on : (mid new : Feeding) (bytes : List ℕ) → HandedOn mid new step → Heard had mid bytes → Heard now new bytes
  heard_on mid new bytes h k = record { told = k.told ++ h.told; has = joined k.told h.told k.has h.has; taken = subst (λ z. IsTaken z bytes) (sym (told_on step mid new h k.told)) k.taken }

pub handed_refusal : (had : List Mark → Type 0) (mid new : Feeding) → HandedOn mid new had → mid.refusal ≡ None → new.refusal ≡ None
handed_refusal had mid new h e = ap (λ z. z.refusal) h.same ∙ e

-- bytes are taken, or refused
pub heard_bytes : (had : List Mark → Type 0) (old mid : Feeding) (bytes taken : List ℕ) → TakesBytes old taken mid → Heard had old bytes → Heard had mid (bytes ++ taken)
heard_bytes had old mid bytes taken f k = record { told = k.told; has = k.has; taken = f k.told bytes k.taken }

pub bytes_refused : (had now : List Mark → Type 0) (old mid : Feeding) (bytes more : List ℕ) (fault : TreeFault) → RefusesBytes old more fault → mid.limit ≡ old.limit → mid.refusal ≡ Some fault → Heard had old bytes → WasHeard now mid (bytes ++ more)
bytes_refused had now old mid bytes more fault f l e k = refused_fed now mid (bytes ++ more) fault e (subst (λ z. Refused z (bytes ++ more) fault) (sym l) (f k.told bytes k.taken))

-- the bytes end too early
abbrev pub Cut : Feeding → Type 0
Cut f = (told : List Mark) (bytes : List ℕ) → IsTaken (behind told f) bytes → ReadingFails f.limit bytes (faults.Malformed f.count)

-- where a reader says that it was refused
pub answers_err : {A : Type 0} (o : Option TreeFault) (r : Result A TreeFault) (ok : A) (fault : TreeFault) → MatchOption o (r ≡ Ok ok) (λ f. r ≡ Err f) → r ≡ Err fault → o ≡ Some fault
answers_err {A} None r ok fault m e = let h : ◌≡◌ {A = Result A TreeFault} (Ok ok) (Err fault) = sym m ∙ e in absurd (cc)
answers_err {A} (Some f) r ok fault m e = let h : ◌≡◌ {A = Result A TreeFault} (Err f) (Err fault) = sym m ∙ e in let k : f ≡ fault = cc in ap Some k

-- at the end all is told, and the bytes hold an element
pub told_whole : (had step now : List Mark → Type 0) → ((a b : List Mark) → had a → step b → now (a ++ b)) → (f : Feeding) (bytes : List ℕ) → IsEnd f → step f.state.marks → Heard had f bytes → Visits now f.limit bytes
told_whole had step now joined f bytes e s k = visited now (behind k.told f) bytes k.taken e.whole (over_after k.told f.state e.over) (joined k.told f.state.marks k.has s)

-- where it says that it wasn't
pub answers_ok : {A : Type 0} (B : Type 0) (o : Option TreeFault) (r : Result A TreeFault) (x : A) → MatchOption o B (λ f. r ≡ Err f) → r ≡ Ok x → o ≡ None
answers_ok {A} B None r x m e = refl
answers_ok {A} B (Some f) r x m e = let h : ◌≡◌ {A = Result A TreeFault} (Ok x) (Err f) = sym e ∙ m in absurd (cc)

-- bytes behind those that were heard
pub heard_more : (now : List Mark → Type 0) (f : Feeding) (bytes xs : List ℕ) (i n : ℕ) → WasHeard now f ((bytes ++ take i xs) ++ take n (take (length xs - i) (drop i xs))) → WasHeard now f (bytes ++ take (i + n) xs)
heard_more now f bytes xs i n h = subst (WasHeard now f) (ap (λ z. (bytes ++ take i xs) ++ take n z) (take_rest xs i) ∙ append_assoc bytes (take i xs) (take n (drop i xs)) ∙ ap (λ z. bytes ++ z) (sym (take-add i n xs))) h

-- what was told before a byte of these was refused
pub told_more : (had : List Mark → Type 0) (bytes xs : List ℕ) (i : ℕ) → ToldBefore had ((bytes ++ take i xs) ++ take (length xs - i) (drop i xs)) → ToldBefore had (bytes ++ xs)
told_more had bytes xs i h = subst (ToldBefore had) (ap (λ z. (bytes ++ take i xs) ++ z) (take_rest xs i) ∙ append_assoc bytes (take i xs) (drop i xs) ∙ ap (λ z. bytes ++ z) (take-append-drop i xs)) h

pub within_more : (xs : List ℕ) (i n : ℕ) → i < length xs → n ≤ length (take (length xs - i) (drop i xs)) → i + n ≤ length xs
within_more xs i n l h = omega (arith, h, ap length (take_rest xs i), length-drop i xs)
