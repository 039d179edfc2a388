-- What is said of refused options, and of a refused instance, may be told in a report.
use Rattle.std.proofs.Common.{◌≡◌, ℕ, ◌+◌, true, List, [], ◌∷◌, ◌++◌, refl, sym, subst, arith, append-nil, lit<, lit≤}
use Rattle.std.specs.Prelude.{codes, decimal}
use Rattle.doc_tree.specs.declared.fault.TreeFault.{TreeFault}
use Rattle.doc_tree.specs.declared.fault.TreeFault.TheVariants as tree
use Rattle.tree_grammar.proofs.XmlTexts.{list_printable}
use Rattle.document_tags.specs.Faults.{refusal_at, refusal_of, IsTreeText}
use Rattle.osol_grammar.specs.declared.fault.Refusal.{Refusal as OptionsRefusal}
use Rattle.osol_grammar.specs.declared.fault.Refusal.TheVariants as options_refusals
use Rattle.osol_grammar.specs.declared.fault.OsolFault.{OsolFault}
use Rattle.osol_grammar.specs.declared.fault.OsolFault.TheVariants as options_faults
use Rattle.osol_grammar.specs.Texts as options_texts
use Rattle.osil_grammar.specs.declared.fault.OsilFault.{OsilFault}
use Rattle.osil_grammar.specs.declared.fault.OsilFault.TheVariants as instance_faults
use Rattle.osil_grammar.specs.Refusals.{Refusal, Root, Beyond, Attribute}
use Rattle.osil_grammar.specs.Texts.{refusal_name, refusal_text}
use Rattle.osil_grammar.specs.Reading.{told_refusal}
use Rattle.osil_grammar.specs.Reading as instances
use Rattle.solve_run.proofs.InkedTexts.{IsPiece, piece_behind, is_word, word_piece, number_piece, IsMessage, StartsSo, message_of}
use Rattle.solve_run.proofs.RefusedNames.{HasName, refused_name}

-- a word behind a space
pub spaced : (n : ℕ) (text : List ℕ) → IsPiece n text → IsPiece (1 + n) (32 ∷ text)
spaced n text piece = piece_behind 1 n (32 ∷ []) text ((lit≤ tt, lit< tt), tt) (omega arith) piece

-- words, one behind the other
pub worded : (n : ℕ) (word text : List ℕ) → is_word word ≡ true → IsPiece n text → IsPiece (64 + n) (word ++ text)
worded n word text is piece = let w = word_piece word is in piece_behind 64 n word text w.printable w.short piece

pub placed : (document name : List ℕ) (n : ℕ) → is_word document ≡ true → is_word name ≡ true → IsPiece 197 (refusal_at document name n)
placed document name n is named =
    let at : IsPiece 68 (codes " at " ++ decimal n) = piece_behind 4 64 (codes " at ") (decimal n) (list_printable (codes " at ") refl) (omega arith) (number_piece n) in
    worded 133 document (32 ∷ (name ++ (codes " at " ++ decimal n))) is (spaced 132 (name ++ (codes " at " ++ decimal n)) (worded 68 name (codes " at " ++ decimal n) named at))

pub unplaced : (document name : List ℕ) → is_word document ≡ true → is_word name ≡ true → IsPiece 129 (refusal_of document name)
unplaced document name is named = worded 65 document (32 ∷ name) is (spaced 64 name (word_piece name named))

-- of a kind of document
module _ (document : List ℕ) (is : is_word document ≡ true) (starts : (more : List ℕ) → StartsSo (document ++ more)) where
  placed_message : (name : List ℕ) (n : ℕ) → is_word name ≡ true → IsMessage (refusal_at document name n)
  placed_message name n named = message_of 197 (refusal_at document name n) (omega arith) (starts _) (placed document name n is named)

  unplaced_message : (name : List ℕ) → is_word name ≡ true → IsMessage (refusal_of document name)
  unplaced_message name named = message_of 129 (refusal_of document name) (omega arith) (starts _) (unplaced document name is named)

  tree_message : (f : TreeFault) (text : List ℕ) → IsTreeText document f text → IsMessage text
  tree_message (tree.Malformed at) text says = subst IsMessage (sym says) (placed_message (codes "Malformed") at refl)
  tree_message (tree.Doctype at) text says = subst IsMessage (sym says) (placed_message (codes "Doctype") at refl)
  tree_message tree.Encoding text says = subst IsMessage (sym says) (unplaced_message (codes "Encoding") refl)
  tree_message (tree.Deep at) text says = subst IsMessage (sym says) (placed_message (codes "Deep") at refl)
  tree_message tree.Long text says = subst IsMessage (sym says) (unplaced_message (codes "Long") refl)
  tree_message tree.Memory text says = absurd says

options_name : (r : OptionsRefusal) → is_word (options_texts.refusal_name r) ≡ true
options_name options_refusals.Root = refl
options_name r = refl

pub options_message : (f : OsolFault) (text : List ℕ) → options_texts.IsFaultText f text → IsMessage text
options_message (options_faults.Tree f) text says = tree_message (codes "osol") refl (λ more. (lit≤ tt, lit< tt)) f text says
options_message (options_faults.Refused r n) text says = subst IsMessage (sym says) (placed_message (codes "osol") refl (λ more. (lit≤ tt, lit< tt)) (options_texts.refusal_name r) n (options_name r))
options_message options_faults.Memory text says = absurd says

instance_name : (r : Refusal) → is_word (refusal_name r) ≡ true
instance_name Root = refl
instance_name r = refl

-- with the name that is told, or without
named_message : (kind name : List ℕ) (n : ℕ) → is_word kind ≡ true → IsPiece 64 name → IsMessage (refusal_at (codes "osil") kind n ++ (32 ∷ name))
named_message kind name n is named =
    let first = placed (codes "osil") kind n refl is in
    message_of 262 (refusal_at (codes "osil") kind n ++ (32 ∷ name)) (omega arith) (lit≤ tt, lit< tt) (piece_behind 197 65 (refusal_at (codes "osil") kind n) (32 ∷ name) first.printable first.short (spaced 64 name named))

refused_message : (r : Refusal) (n : ℕ) → HasName r → IsMessage (refusal_text r n)
refused_message (Beyond name) n named = named_message (codes "Beyond") name n refl named
refused_message (Attribute name) n named = named_message (codes "Attribute") name n refl named
refused_message r n named = subst IsMessage (sym (append-nil (refusal_at (codes "osil") (refusal_name r) n))) (placed_message (codes "osil") refl (λ more. (lit≤ tt, lit< tt)) (refusal_name r) n (instance_name r))

pub instance_message : (bytes : List ℕ) (f : OsilFault) (text : List ℕ) → instances.DecodeFails bytes f → instances.IsFaultText f text → IsMessage text
instance_message bytes (instance_faults.Tree f) text fails says = tree_message (codes "osil") refl (λ more. (lit≤ tt, lit< tt)) f text says
instance_message bytes (instance_faults.Refused r at) text fails says = subst IsMessage (sym says) (refused_message (told_refusal r) at (refused_name bytes (told_refusal r) at fails))
instance_message bytes instance_faults.Memory text fails says = absurd says
