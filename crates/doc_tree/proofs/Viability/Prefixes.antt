-- Documents go on behind what the machine has taken, and none behind what it refuses.
use Rattle.doc_tree.proofs.Words.{Between, Bool, Continues, Declaration, Each, Finishes, Good, Insides, IsDeclarationRead, IsDeep, IsDeepAt, IsFixed, IsInMark, IsNameStart, IsPrintable, IsShallowlyViable, IsText, IsViable, IsXmlText, List, Mark, Marked, ReachesGoal, RestsAt, MachineState, TagRest, TreeTerms, Whole, Word, [], any, ap, append-nil, append_assoc, arith, body_nodes, declared, depth_left, false, inl, inr, length, no_encoding, nodes_depth, normal_lines, refl, subst, suc, sym, true, unread, ℕ, ◌++◌, ◌-◌, ◌<◌, ◌∙◌, ◌∷◌, ◌≡◌, ◌≤◌, each_append, text_append, clean_ascii, clean_nothing, Printable}
use Rattle.doc_tree.specs.declared.machine.Goal.TheVariants as goals
use Rattle.doc_tree.specs.declared.machine.Place.TheVariants as places
use Rattle.doc_tree.proofs.TextTrees.Wholes.{Held, held_of, whole_of, document_marks}
use Rattle.doc_tree.proofs.Viability.Specials.{plain_line, deep_stuck}
use Rattle.doc_tree.proofs.ByteGrammar.{each_map, start_printable, start_range}
use Rattle.doc_tree.proofs.MachineSteps.{content_tag_any}
use Rattle.doc_tree.proofs.Viability.Completions.{Completion, completes_map, completes_tag, completes_between}
use Rattle.doc_tree.proofs.Viability.PrintableEnds.{wide, alive, marked}

-- no line end
abbrev pub IsSteady : ℕ → Type 0
IsSteady c = 32 ≤ c

pub steady : (r : Bool) (bytes : List ℕ) → Each IsSteady bytes → normal_lines (unread r bytes) ≡ bytes
steady true [] h = refl
steady false [] h = refl
steady r (c ∷ cs) h = let l : 32 ≤ c = h.0 in plain_line r c cs (omega arith) ∙ ap (λ z. c ∷ z) (steady false cs h.1)

pub printable_steady : (bytes : List ℕ) → Each IsPrintable bytes → Each IsSteady bytes
printable_steady bytes h = each_map IsPrintable IsSteady (λ c p. p.0) bytes h

-- characters of XML
pub printable_xml : (bytes : List ℕ) → Each IsPrintable bytes → IsXmlText bytes
printable_xml bytes h = subst IsXmlText (append-nil bytes) (clean_ascii bytes [] (each_map IsPrintable Printable (λ c p. (let l = p.1 in (p.0, omega arith))) bytes h) clean_nothing).text

-- Behind these bytes, printable ones end a document of at most this depth.
pub record Open (depth : ℕ) (s : MachineState) (returned : Bool) (more : List ℕ) : Type 0 where
  pub bytes : List ℕ
  pub printable : Each IsPrintable bytes
  pub marks : List Mark
  pub rest : Finishes s returned (wide depth) (more ++ bytes) marks

open_of : (depth : ℕ) (s : MachineState) (r : Bool) (more : List ℕ) → Each IsSteady more → Completion (λ x. RestsAt s.place s (wide depth) (more ++ x)) → Open depth s r more
open_of depth s r more h c = record {
  bytes = c.bytes;
  printable = c.printable;
  marks = s.marks ++ c.marks;
  rest = record { later = c.marks; whole = refl; rest = subst (λ z. RestsAt s.place s (wide depth) z c.marks) (sym (steady r (more ++ c.bytes) (each_append IsSteady more c.bytes h (printable_steady c.bytes c.printable)))) c.rest };
}

-- the machine between characters
pub open_here : (depth : ℕ) → 1 ≤ depth → (s : MachineState) (r : Bool) → Good s.place s → (IsInMark s.place s.goal → ⊥) → Open depth s r []
open_here depth l s r g n = open_of depth s r [] tt (alive depth l s.place s g n)

-- in the byte order mark
pub mark_steady : (left : List ℕ) → IsFixed goals.Marked left → Each IsSteady left
mark_steady left (inl e) = subst (Each IsSteady) (sym e) (omega arith, (omega arith, tt))
mark_steady left (inr e) = subst (Each IsSteady) (sym e) (omega arith, tt)

pub open_mark : (depth : ℕ) → 1 ≤ depth → (s : MachineState) (r : Bool) → Good s.place s → s.place ≡ places.Word → s.goal ≡ goals.Marked → Open depth s r s.left
open_mark depth l s r g p q =
    let t : TreeTerms = wide depth in
    let k : Good places.Word s = subst (λ z. Good z s) p g in
    let c : Completion (Marked t) = marked depth l in
    let d : Completion (λ x. Word s.left (Marked t) (s.left ++ x)) = completes_map (Marked t) (λ x. Word s.left (Marked t) (s.left ++ x)) (λ x es h. record { behind = x; text = refl; after = h }) c in
    let e : Completion (λ x. Word s.left (ReachesGoal s.goal s t) (s.left ++ x)) = subst (λ z. Completion (λ x. Word s.left (ReachesGoal z s t) (s.left ++ x))) (sym q) d in
    open_of depth s r s.left (mark_steady s.left (subst (λ z. IsFixed z s.left) q k.1)) (subst (λ z. Completion (λ x. RestsAt z s t (s.left ++ x))) (sym p) e)

-- what was taken, these bytes, and the end
abbrev pub IsWithinDepth : ℕ → List ℕ → Type 0
IsWithinDepth depth bytes = (w : IsText bytes) × (suc (nodes_depth (body_nodes w.document.body)) ≤ depth)

ended : (depth : ℕ) → 32 ≤ depth → (s : MachineState) (r : Bool) (seen rest : List ℕ) (says : List Mark) → Continues s r seen → Finishes s r (wide depth) rest says → IsXmlText (seen ++ rest) → IsWithinDepth depth (seen ++ rest)
ended depth l s r seen rest says c f x =
    let t : TreeTerms = wide depth in
    let d : Held t (normal_lines (seen ++ rest)) says = held_of t (normal_lines (seen ++ rest)) says (λ z. z) ((c.same t l rest says).1 f) in
    let deep = d.deep in
    (record { characters = x; document = d.document; text = d.same }, omega arith)

-- What completes characters and document is such an end.
pub viable_so : (s : MachineState) (r : Bool) (seen rest : List ℕ) (says : List Mark) → Continues s r seen → Finishes s r (wide 32) rest says → IsXmlText (seen ++ rest) → IsShallowlyViable seen
viable_so s r seen rest says c f x = let w = ended 32 (omega arith) s r seen rest says c f x in record { rest = rest; whole = w.0; shallow = w.1 }

open_xml : (depth : ℕ) (s : MachineState) (r : Bool) (seen more : List ℕ) (o : Open depth s r more) → IsXmlText (seen ++ more) → IsXmlText (seen ++ (more ++ o.bytes))
open_xml depth s r seen more o x = subst IsXmlText (append_assoc seen more o.bytes) (text_append (seen ++ more) o.bytes x (printable_xml o.bytes o.printable))

-- Some document that isn't too deep goes on so.
pub viable : (s : MachineState) (r : Bool) (seen more : List ℕ) → Continues s r seen → Open 32 s r more → IsXmlText (seen ++ more) → IsShallowlyViable seen
viable s r seen more c o x = viable_so s r seen (more ++ o.bytes) o.marks c o.rest (open_xml 32 s r seen more o x)

-- behind whole characters
pub viable_here : (s : MachineState) (r : Bool) (seen : List ℕ) → Continues s r seen → (IsInMark s.place s.goal → ⊥) → IsXmlText seen → IsShallowlyViable seen
viable_here s r seen c n x = viable s r seen [] c (open_here 32 (omega arith) s r c.good n) (subst IsXmlText (sym (append-nil seen)) x)

-- Nothing goes on with a byte that is refused.
any_read : (d : Declaration) → IsDeclarationRead any d
any_read (declared v no_encoding s space sp) = tt
any_read _ = tt

pub whole_within : (depth : ℕ) (bytes : List ℕ) (w : IsText bytes) → suc (nodes_depth (body_nodes w.document.body)) ≤ depth → Whole (wide depth) (normal_lines bytes) (document_marks w.document)
whole_within depth bytes w l = subst (λ z. Whole (wide depth) z (document_marks w.document)) (sym w.text) (whole_of (wide depth) w.document (omega arith) (omega arith) (any_read w.document.declaration))

pub text_finishes : (depth : ℕ) → 32 ≤ depth → (s : MachineState) (r : Bool) (seen : List ℕ) (b : ℕ) (rest : List ℕ) (w : IsText ((seen ++ (b ∷ [])) ++ rest)) → suc (nodes_depth (body_nodes w.document.body)) ≤ depth → Continues s r seen → Finishes s r (wide depth) (b ∷ rest) (document_marks w.document)
text_finishes depth l s r seen b rest w m c =
    let says : List Mark = document_marks w.document in
    let k : Whole (wide depth) (normal_lines (seen ++ (b ∷ rest))) says = subst (λ z. Whole (wide depth) (normal_lines z) says) (append_assoc seen (b ∷ []) rest) (whole_within depth ((seen ++ (b ∷ [])) ++ rest) w m) in
    (c.same (wide depth) l (b ∷ rest) says).0 k

-- an element of depth 33 begins
deep_tag : (depth : ℕ) (s : MachineState) (b : ℕ) → Good places.ContentLess s → IsNameStart b → length s.names < depth → Completion (λ x. RestsAt places.ContentLess s (wide depth) (b ∷ x))
deep_tag depth s b g i l =
    let t : TreeTerms = wide depth in
    let high = (start_range b i).0 in
    let c : Completion (TagRest (depth_left t s.names - 1) (b ∷ []) [] [] (Between 0 s.names t)) = completes_tag (depth_left t s.names - 1) (b ∷ []) (Between 0 s.names t) (completes_between t 0 s.names g.2) [] [] in
    completes_map (TagRest (depth_left t s.names - 1) (b ∷ []) [] [] (Between 0 s.names t)) (λ x. Insides 0 s.names t (60 ∷ b ∷ x)) (λ x es k. (content_tag_any t s.names b x es g.1 (λ e. omega arith) (λ e. omega arith) (λ e. omega arith)).1 (record { room = omega arith; rest = record { run = b ∷ []; is = (i, tt); behind = x; text = refl; after = k } })) c

deep_open : (s : MachineState) (r : Bool) (b : ℕ) → Good s.place s → IsDeep s b → Open (suc (length s.names)) s r (b ∷ [])
deep_open s r b g d =
    let depth : ℕ = suc (length s.names) in
    let high = (start_range b d.2).0 in
    open_of depth s r (b ∷ []) (omega arith, tt) (subst (λ z. Completion (λ x. RestsAt z s (wide depth) (b ∷ x))) (sym d.0) (deep_tag depth s b (subst (λ z. Good z s) d.0 g) d.2 (omega arith)))

deep_viable : (s : MachineState) (r : Bool) (seen : List ℕ) (b : ℕ) → Continues s r seen → IsXmlText seen → IsDeep s b → IsViable (seen ++ (b ∷ []))
deep_viable s r seen b c x d =
    let l = d.1 in
    let o : Open (suc (length s.names)) s r (b ∷ []) = deep_open s r b c.good d in
    let y : IsXmlText (seen ++ (b ∷ [])) = text_append seen (b ∷ []) x (printable_xml (b ∷ []) (start_printable b d.2, tt)) in
    let w : IsWithinDepth (suc (length s.names)) (seen ++ (b ∷ o.bytes)) = ended (suc (length s.names)) (omega arith) s r seen (b ∷ o.bytes) o.marks c o.rest (open_xml (suc (length s.names)) s r seen (b ∷ []) o y) in
    record { rest = o.bytes; whole = subst IsText (sym (append_assoc seen (b ∷ []) o.bytes)) w.0 }

deep_not : (s : MachineState) (r : Bool) (seen : List ℕ) (b : ℕ) → Continues s r seen → IsDeep s b → IsShallowlyViable (seen ++ (b ∷ [])) → ⊥
deep_not s r seen b c d v =
    let high = (start_range b d.2).0 in
    let f : Finishes s r (wide 32) (b ∷ v.rest) (document_marks v.whole.document) = text_finishes 32 (omega arith) s r seen b v.rest v.whole v.shallow c in
    deep_stuck (wide 32) (omega arith) s b d (normal_lines v.rest) f.later (subst (λ z. RestsAt s.place s (wide 32) z f.later) (plain_line r b v.rest (omega arith)) f.rest)

less_not_mark : (s : MachineState) → s.place ≡ places.ContentLess → IsInMark s.place s.goal → ⊥
less_not_mark s e h = subst (λ z. IsInMark z s.goal) e h

pub deep : (s : MachineState) (r : Bool) (seen : List ℕ) (b : ℕ) → Continues s r seen → IsXmlText seen → IsDeep s b → IsDeepAt seen b
deep s r seen b c x d = record {
  before = viable_here s r seen c (less_not_mark s d.0) x;
  viable = deep_viable s r seen b c x d;
  deep = deep_not s r seen b c d;
}
