-- What is said of a result that is handed in, and isn't taken, and of first values, may be told in a report.
use Rattle.std.proofs.Common.{◌≡◌, ℕ, ◌+◌, inl, inr, Bool, true, false, cond, Option, None, Some, List, [], ◌∷◌, ◌++◌, refl, sym, subst, arith, length-append, lit<, lit≤}
use Rattle.std.specs.Prelude.{codes, decimal, nat_eq}
use Rattle.instance.specs.Parts.{Parts}
use Rattle.instance.specs.Program.{problem}
use Rattle.evidence.specs.Instance as Of
use Rattle.doc_tree.specs.declared.fault.TreeFault.{TreeFault}
use Rattle.doc_tree.specs.declared.fault.TreeFault.TheVariants as tree
use Rattle.tree_grammar.proofs.XmlTexts.{list_printable, each_append}
use Rattle.tree_grammar.proofs.XmlTexts.{Printable}
use Rattle.document_tags.specs.Faults.{IsTreeText}
use Rattle.certificate.specs.declared.claims.Claim.{Claim}
use Rattle.cert_checker.specs.Words.{numbered, placed, unshown_words, level_words, refused_words}
use Rattle.cert_checker.specs.declared.refused.Refused.{Refused}
use Rattle.cert_checker.specs.declared.refused.Refused.TheVariants as reasons
use Rattle.cert_checker.specs.declared.refused.Unshown.{Unshown}
use Rattle.cert_checker.specs.declared.refused.Unshown.TheVariants as why
use Rattle.osrl_grammar.specs.Back.{IsBareOrNone}
use Rattle.fraction.specs.declared.frac.Frac.{Frac}
use Rattle.search_rules.specs.Search.{Found}
use Rattle.osol_grammar.specs.declared.options.Options.{Options}
use Rattle.osrl_grammar.specs.Texts as results
use Rattle.osrl_grammar.specs.declared.fault.OsrlFault.{OsrlFault}
use Rattle.osrl_grammar.specs.declared.fault.OsrlFault.TheVariants as result_faults
use Rattle.document_checker.specs.declared.fault.CheckFault.{CheckFault}
use Rattle.document_checker.specs.declared.fault.CheckFault.TheVariants as faults
use Rattle.document_checker.specs.Documents.{ClaimRefuses, IsUnshownIn}
use Rattle.document_checker.specs.Texts.{reason, quoted, IsCheckFaultText}
use Rattle.handed_results.specs.declared.handed.Handed.{Handed}
use Rattle.handed_results.specs.declared.handed.Handed.TheVariants.{Nothing, Once, Twice}
use Rattle.solve_run.specs.Handing.{about_handed, IsNoteOf}
use Rattle.solve_run.specs.Firsts.{first_note, both_notes, IsNoteFrom}
use Rattle.solve_run.proofs.InkedTexts.{IsPiece, piece_behind, is_word, word_piece, number_piece, StartsSo, bare_of}
use Rattle.solve_run.proofs.FaultMessages.{spaced, worded}
use Rattle.solve_run.proofs.FaultMessages as refusals

-- of some length
abbrev IsSomePiece : List ℕ → Type 0
IsSomePiece text = (n : ℕ) × IsPiece n text

-- ---- the words of the checker

numbered_piece : (name : List ℕ) (n : ℕ) → is_word name ≡ true → IsPiece 129 (numbered name n)
numbered_piece name n is = worded 65 name (32 ∷ decimal n) is (spaced 64 (decimal n) (number_piece n))

placed_piece : (name : List ℕ) (n m : ℕ) → is_word name ≡ true → IsPiece 194 (placed name n m)
placed_piece name n m is =
    let first = numbered_piece name n is in
    piece_behind 129 65 (numbered name n) (32 ∷ decimal m) first.printable first.short (spaced 64 (decimal m) (number_piece m))

unshown_piece : (u : Unshown) → IsSomePiece (unshown_words u)
unshown_piece (why.Tree n) = (129, numbered_piece (codes "Tree") n refl)
unshown_piece (why.Sign n c) = (194, placed_piece (codes "Sign") n c refl)
unshown_piece (why.Form n c) = (194, placed_piece (codes "Form") n c refl)
unshown_piece (why.Step n c) = (194, placed_piece (codes "Step") n c refl)
unshown_piece (why.Sum n) = (129, numbered_piece (codes "Sum") n refl)
unshown_piece (why.Direction c) = (129, numbered_piece (codes "Direction") c refl)
unshown_piece (why.Wide n) = (129, numbered_piece (codes "Wide") n refl)

level_piece : (level : ℕ) (text : List ℕ) → IsSomePiece text → IsSomePiece (level_words level ++ text)
level_piece level text (n, piece) = by (nat_eq level 1)
  where
    by : (b : Bool) → IsSomePiece (cond b [] (numbered (codes "Level") level ++ (32 ∷ [])) ++ text)
    by true = (n, piece)
    by false =
        let name = numbered_piece (codes "Level") level refl in
        let short = name.short in
        (130 + n, piece_behind 130 n (numbered (codes "Level") level ++ (32 ∷ [])) text (each_append Printable (numbered (codes "Level") level) (32 ∷ []) name.printable ((lit≤ tt, lit< tt), tt)) (omega (arith, short, length-append (numbered (codes "Level") level) (32 ∷ []))) piece)

refused_piece : (r : Refused) → IsSomePiece (refused_words r)
refused_piece (reasons.NotFeasible c) = (129, numbered_piece (codes "NotFeasible") c refl)
refused_piece reasons.WidePoint = (129, numbered_piece (codes "Wide") 0 refl)
refused_piece reasons.Value = (64, word_piece (codes "Value") refl)
refused_piece (reasons.Round n c) = (194, placed_piece (codes "Round") n c refl)
refused_piece (reasons.WideRound n) = (129, numbered_piece (codes "WideRound") n refl)
refused_piece (reasons.Levels n) = (129, numbered_piece (codes "Levels") n refl)
refused_piece (reasons.Level level u) = level_piece level (unshown_words u) (unshown_piece u)
refused_piece reasons.NoClaim = (64, word_piece (codes "NoClaim") refl)

-- ---- those of the reader

told_piece : (name : List ℕ) (n : ℕ) → is_word name ≡ true → IsSomePiece (results.told_at name n)
told_piece name n is = (197, refusals.placed (codes "osrl") name n refl is)

tree_piece : (f : TreeFault) (text : List ℕ) → IsTreeText (codes "osrl") f text → IsSomePiece text
tree_piece (tree.Malformed at) text says = subst IsSomePiece (sym says) (told_piece (codes "Malformed") at refl)
tree_piece (tree.Doctype at) text says = subst IsSomePiece (sym says) (told_piece (codes "Doctype") at refl)
tree_piece tree.Encoding text says = subst IsSomePiece (sym says) (129, refusals.unplaced (codes "osrl") (codes "Encoding") refl refl)
tree_piece (tree.Deep at) text says = subst IsSomePiece (sym says) (told_piece (codes "Deep") at refl)
tree_piece tree.Long text says = subst IsSomePiece (sym says) (129, refusals.unplaced (codes "osrl") (codes "Long") refl refl)
tree_piece tree.Memory text says = absurd says

result_piece : (f : OsrlFault) (text : List ℕ) → results.IsFaultText f text → IsSomePiece text
result_piece (result_faults.Tree f) text says = tree_piece f text says
result_piece result_faults.Root text says = subst IsSomePiece (sym says) (told_piece (codes "Root") 1 refl)
result_piece result_faults.Missing text says = subst IsSomePiece (sym says) (told_piece (codes "Missing") 1 refl)
result_piece (result_faults.Item n) text says = subst IsSomePiece (sym says) (told_piece (codes "Item") n refl)
result_piece result_faults.Count text says = subst IsSomePiece (sym says) (told_piece (codes "Count") 1 refl)
result_piece (result_faults.Number n) text says = subst IsSomePiece (sym says) (told_piece (codes "Number") n refl)
result_piece (result_faults.Wide n) text says = subst IsSomePiece (sym says) (told_piece (codes "Wide") n refl)
result_piece result_faults.Memory text says = absurd says

-- ---- messages

-- a piece that begins so too
abbrev IsTold : List ℕ → Type 0
IsTold text = StartsSo text × IsSomePiece text

about_told : (words : List ℕ) → IsSomePiece words → IsTold (about_handed (reason words))
about_told words (n, piece) = ((lit≤ tt, lit< tt), (23 + n, piece_behind 23 n (codes "os_cert.result refused ") words (list_printable (codes "os_cert.result refused ") refl) (lit≤ tt) piece))

quoted_told : (told : List ℕ) → IsSomePiece told → IsTold (about_handed (quoted (codes "Result") told))
quoted_told told (n, piece) = about_told (codes "Result" ++ (32 ∷ told)) (64 + (1 + n), worded (1 + n) (codes "Result") (32 ∷ told) refl (spaced n told piece))

result_told : (f : OsrlFault) (words : List ℕ) → IsCheckFaultText (faults.Result f) words → IsTold (about_handed words)
result_told f words (told, says, is) = subst (λ (w : List ℕ). IsTold (about_handed w)) (sym is) (quoted_told told (result_piece f told says))

claim_told : (r : Refused) (words : List ℕ) → IsCheckFaultText (faults.Claim r) words → IsTold (about_handed words)
claim_told r words is = subst (λ (w : List ℕ). IsTold (about_handed w)) (sym is) (about_told (refused_words r) (refused_piece r))

refused_told : (P : Of.Problem) (o : Option Claim) (f : CheckFault) (words : List ℕ) → ClaimRefuses P o f → IsCheckFaultText f words → IsTold (about_handed words)
refused_told P None f words is says = claim_told reasons.NoClaim words (subst (λ (g : CheckFault). IsCheckFaultText g words) is says)
refused_told P (Some c) f words (r, refused, is) says = claim_told r words (subst (λ (g : CheckFault). IsCheckFaultText g words) is says)

unshown_told : (p : Parts) (text : List ℕ) (f : CheckFault) (words : List ℕ) → IsUnshownIn p text f → IsCheckFaultText f words → IsTold (about_handed words)
unshown_told p text f words (inl missing) says = result_told missing.fault words (subst (λ (g : CheckFault). IsCheckFaultText g words) missing.is says)
unshown_told p text f words (inr (inl h)) says = refused_told (problem p) h.report.claim f words h.refuses says
unshown_told p text f words (inr (inr none)) says = absurd (subst (λ (g : CheckFault). IsCheckFaultText g words) none says)

abbrev MayTell : Option (List ℕ) → Type 0
MayTell None = Unit {0}
MayTell (Some text) = IsTold text

note_told : (p : Parts) (h : Handed) (note : Option (List ℕ)) → IsNoteOf p h note → MayTell note
note_told p Nothing note is = subst MayTell (sym is) tt
note_told p (Once text) note (words, refused, is) = subst MayTell (sym is) (unshown_told p text refused.fault words refused.unshown refused.says)
note_told p Twice note is = subst MayTell (sym is) (about_told (codes "Twice") (64, word_piece (codes "Twice") refl))

-- ---- first values

first_told : (gs : Option (List (Option Frac))) (start : Option Found) → MayTell (first_note gs start)
first_told None start = tt
first_told (Some vs) None = ((lit≤ tt, lit< tt), (47 + 64, piece_behind 47 64 (codes "initialVariableValues passed over: no feasible ") (codes "point") (list_printable (codes "initialVariableValues passed over: no feasible ") refl) (lit≤ tt) (word_piece (codes "point") refl)))
first_told (Some vs) (Some f) = tt

both_told : (a b : Option (List ℕ)) → MayTell a → MayTell b → MayTell (both_notes a b)
both_told None b h k = k
both_told (Some a) None h k = h
both_told (Some []) (Some b) h k = absurd h.0
both_told (Some (x ∷ xs)) (Some b) (starts, (m, first)) (begins, (n, second)) =
    let short = first.short in
    (starts, ((2 + m) + n, piece_behind (2 + m) n ((x ∷ xs) ++ codes "; ") b (each_append Printable (x ∷ xs) (codes "; ") first.printable (list_printable (codes "; ") refl)) (omega (arith, short, length-append (x ∷ xs) (codes "; "))) second))

told_bare : (note : Option (List ℕ)) → MayTell note → IsBareOrNone note
told_bare None h = tt
told_bare (Some text) (starts, (n, piece)) = bare_of n text starts piece

pub whole_bare : (beside : Option (List ℕ)) (osol : List ℕ) (o : Options) (p : Parts) (start : Option Found) (note : Option (List ℕ)) → IsNoteFrom beside osol o p start note → IsBareOrNone note
whole_bare beside osol o p start note h =
    told_bare note (subst MayTell (sym h.is) (both_told h.handed (first_note o.first start) (note_told p h.none_handed.handed h.handed h.none_handed.notes) (first_told o.first start)))
