-- Elements that are too deep, and encodings that aren't read.
use Rattle.doc_tree.proofs.Words.{Bool, FieldValue, Finishes, Gap, Good, Insides, IsDeep, IsDoctype, IsFieldValue, IsOther, IsSpecial, List, Mark, RestsAt, MachineState, TagFirst, TreeTerms, arith, bounds, false, normal_lines, readable, subst, true, unread, ℕ, ◌<◌, ◌∷◌, ◌≡◌, ◌≤◌}
use Rattle.doc_tree.specs.declared.declaration.Field.TheVariants as fields
use Rattle.doc_tree.specs.declared.machine.Place.TheVariants as places
use Rattle.doc_tree.proofs.ByteGrammar.{content_tag, quote_range, start_range}
use Rattle.doc_tree.proofs.MachineSteps.{bang_no, value_stuck}
use Rattle.doc_tree.proofs.TextTrees.LineFeeds.{BlocksHere}

-- a byte that is no line end
pub plain_line : (r : Bool) (b : ℕ) (rest : List ℕ) → 13 < b → normal_lines (unread r (b ∷ rest)) ≡ b ∷ normal_lines rest
plain_line true b rest l = grind arith
plain_line false b rest l = grind arith

-- from what the machine refuses to what the reader does
stops : (s : MachineState) (r : Bool) (b : ℕ) (t : TreeTerms) → 13 < b → ((x : List ℕ) (es : List Mark) → RestsAt s.place s t (b ∷ x) es → ⊥) → (rest : List ℕ) (says : List Mark) → Finishes s r t (b ∷ rest) says → ⊥
stops s r b t l f rest says h = f (normal_lines rest) h.later (subst (λ z. RestsAt s.place s t z h.later) (plain_line r b rest l) h.rest)

blocks : (s : MachineState) (r : Bool) (b : ℕ) → 13 < b → ((x : List ℕ) (es : List Mark) → RestsAt s.place s bounds (b ∷ x) es → ⊥) → BlocksHere s r b
blocks s r b l f = stops s r b bounds l f

pub deep_stuck : (t : TreeTerms) → t.depth ≤ 32 → (s : MachineState) (b : ℕ) → IsDeep s b → (x : List ℕ) (es : List Mark) → RestsAt s.place s t (b ∷ x) es → ⊥
deep_stuck u m s b d x es h =
    let l = (start_range b d.2).0 in
    let k : Insides 0 s.names u (60 ∷ b ∷ x) es = subst (λ z. RestsAt z s u (b ∷ x) es) d.0 h in
    let t : TagFirst s.names u (b ∷ x) es = content_tag u s.names b x es (λ e. omega arith) (λ e. omega arith) (λ e. omega arith) k in
    let r = t.room in let n = d.1 in omega arith

pub deep_blocks : (s : MachineState) (r : Bool) (b : ℕ) → IsDeep s b → BlocksHere s r b
deep_blocks s r b d = let l = (start_range b d.2).0 in blocks s r b (omega arith) (λ x es h. deep_stuck bounds (omega arith) s b d x es h)

pub other_blocks : (s : MachineState) (r : Bool) (b : ℕ) → IsOther s b → Good s.place s → BlocksHere s r b
other_blocks s r b o g =
    let k : Good places.FieldValue s = subst (λ z. Good z s) o.0 g in
    let q = (quote_range s.quote k.1).0 in
    let e : b ≡ s.quote = o.2 in
    blocks s r b (omega arith) (λ x es h.
    let f : FieldValue bounds s.field (Gap s.field bounds) s.value s.quote (s.quote ∷ x) es = subst (λ z. RestsAt places.FieldValue s bounds (z ∷ x) es) e (subst (λ z. RestsAt z s bounds (b ∷ x) es) o.0 h) in
    value_stuck bounds s.field (Gap s.field bounds) s.value s.quote x es k.1 (λ i. let j : IsFieldValue readable fields.Encoding s.value = subst (λ z. IsFieldValue readable z s.value) o.1 i in o.4 j.1) f)

-- no document goes on with the `D`
pub doctype_stops : (s : MachineState) (b : ℕ) → IsDoctype s b → (t : TreeTerms) → (IsSpecial t.aim → ⊥) → (x : List ℕ) (es : List Mark) → RestsAt s.place s t (b ∷ x) es → ⊥
doctype_stops s b d t n x es h = let e : b ≡ 68 = d.2 in bang_no t s b (λ f. omega arith) (λ f. omega arith) (λ r f i. n i) x es (subst (λ z. RestsAt z s t (b ∷ x) es) d.0 h)

pub doctype_blocked : (s : MachineState) (r : Bool) (b : ℕ) → IsDoctype s b → (t : TreeTerms) → (IsSpecial t.aim → ⊥) → (rest : List ℕ) (says : List Mark) → Finishes s r t (b ∷ rest) says → ⊥
doctype_blocked s r b d t n = let e : b ≡ 68 = d.2 in stops s r b t (omega arith) (λ x es h. doctype_stops s b d t n x es h)
