-- What the bytes that were read say, their line ends made normal.
use Rattle.doc_tree.proofs.Words.{Bool, Completes, Continues, Err, Finishes, FollowsByte, GoesBehind, IsDepthAllowed, IsErrOf, List, Mark, PassesByte, RestsAt, Result, MachineState, TreeTerms, Whole, [], ap, append-nil, append_assoc, arith, bounds, false, normal_lines, refl, subst, sym, true, unread, ℕ, ◌++◌, ◌<◌, ◌↔◌, ◌∙◌, ◌∷◌, ◌≡◌, ◌≢◌}

-- nothing is left of nothing
unread_nothing : (returned : Bool) → normal_lines (unread returned []) ≡ []
unread_nothing true = refl
unread_nothing false = refl

-- both complete the same where they are the same
over : (s : MachineState) (t : TreeTerms) (x y : List ℕ) (says : List Mark) → x ≡ y → Completes s t x says ↔ Completes s t y says
over s t x y says e = (λ h. subst (λ z. Completes s t z says) e h, λ h. subst (λ z. Completes s t z says) (sym e) h)

-- what the bytes so far say
pub continues_on : (s : MachineState) (returned : Bool) (bytes : List ℕ) (b : ℕ) (t : MachineState) (returns : Bool) → Continues s returned bytes → PassesByte s returned b t returns → Continues t returns (bytes ++ b ∷ [])
continues_on s returned bytes b t returns c p = record {
  good = p.good;
  same = λ u l rest says.
      let e : (bytes ++ b ∷ []) ++ rest ≡ bytes ++ (b ∷ rest) = append_assoc bytes (b ∷ []) rest in (
        λ h. (p.same u l rest says).0 ((c.same u l (b ∷ rest) says).0 (subst (λ z. Whole u (normal_lines z) says) e h)),
        λ h. subst (λ z. Whole u (normal_lines z) says) (sym e) ((c.same u l (b ∷ rest) says).1 ((p.same u l rest says).1 h)),
      );
}

-- the bounds are allowed
pub allowed : IsDepthAllowed bounds
allowed = omega arith

-- no document within the bounds goes on with this byte
abbrev pub BlocksHere : MachineState → Bool → ℕ → Type 0
BlocksHere s returned b = (rest : List ℕ) (says : List Mark) → Finishes s returned bounds (b ∷ rest) says → ⊥

pub continues_end : (s : MachineState) (returned : Bool) (bytes : List ℕ) → Continues s returned bytes → (t : TreeTerms) → IsDepthAllowed t → (says : List Mark) → Whole t (normal_lines bytes) says ↔ Completes s t [] says
continues_end s returned bytes c t l says =
    let e : bytes ++ [] ≡ bytes = append-nil bytes in
    let o = over s t (normal_lines (unread returned [])) [] says (unread_nothing returned) in (
      λ h. o.0 ((c.same t l [] says).0 (subst (λ z. Whole t (normal_lines z) says) (sym e) h)),
      λ h. subst (λ z. Whole t (normal_lines z) says) e ((c.same t l [] says).1 (o.1 h)),
    )

-- a refused byte
pub refused_blocks : {T E B : Type 0} {y : E} (r : Result T E) (x : E) → (IsErrOf r y → B) → r ≡ Err x → x ≡ y → B
refused_blocks {T} {E} {B} {y} r x f e q = f (e ∙ ap Err q)

-- whether the document is over
pub over_whole : (s : MachineState) (returned : Bool) (bytes : List ℕ) → Continues s returned bytes → ((t : TreeTerms) (says : List Mark) → Completes s t [] says ↔ (says ≡ s.marks)) → Whole bounds (normal_lines bytes) s.marks
over_whole s returned bytes c f = (continues_end s returned bytes c bounds allowed s.marks).1 ((f bounds s.marks).1 refl)

-- a byte behind the layer that makes line ends normal
line_return : (r : Bool) (rest : List ℕ) → normal_lines (unread r (13 ∷ rest)) ≡ 10 ∷ normal_lines (unread true rest)
line_return true (c ∷ cs) = grind arith
line_return false (c ∷ cs) = grind arith
line_return true [] = refl
line_return false [] = refl

line_other : (r : Bool) (b : ℕ) (rest : List ℕ) → b ≢ 13 → (r ≡ true → b ≢ 10) → normal_lines (unread r (b ∷ rest)) ≡ b ∷ normal_lines (unread false rest)
line_other true b rest n m = let k = m refl in grind arith
line_other false b rest n m = grind arith

follows_passes : (s : MachineState) (r : Bool) (b d : ℕ) (new : MachineState) (returns : Bool) → (b < 128 → d < 128) → ((rest : List ℕ) → normal_lines (unread r (b ∷ rest)) ≡ d ∷ normal_lines (unread returns rest)) → FollowsByte s.marks (RestsAt s.place s) d new → PassesByte s r b new returns
follows_passes s r b d new returns low e f = record {
  good = f.good;
  unmarked = λ l n. f.unmarked (low l);
  same = λ t l rest says.
      let q : GoesBehind s.marks (RestsAt s.place s t) (d ∷ normal_lines (unread returns rest)) says ↔ Finishes new returns t rest says = f.same t l (normal_lines (unread returns rest)) says in
      (λ h. q.0 (subst (λ z. GoesBehind s.marks (RestsAt s.place s t) z says) (e rest) h), λ h. subst (λ z. GoesBehind s.marks (RestsAt s.place s t) z says) (sym (e rest)) (q.1 h));
}

pub passes_return : (s : MachineState) (r : Bool) (b : ℕ) (new : MachineState) → b ≡ 13 → FollowsByte s.marks (RestsAt s.place s) 10 new → PassesByte s r b new true
passes_return s r b new e f = subst (λ z. PassesByte s r z new true) (sym e) (follows_passes s r 13 10 new true (λ l. omega arith) (λ rest. line_return r rest) f)

pub passes_other : (s : MachineState) (r : Bool) (b : ℕ) (new : MachineState) → b ≢ 13 → (r ≡ true → b ≢ 10) → FollowsByte s.marks (RestsAt s.place s) b new → PassesByte s r b new false
passes_other s r b new n m f = follows_passes s r b b new false (λ l. l) (λ rest. line_other r b rest n m) f
