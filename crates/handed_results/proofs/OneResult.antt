-- A text of options hands in one thing; one that options in memory are written as, nothing.
use Rattle.std.proofs.Common.{◌≡◌, ◌∙◌, ℕ, inl, inr, ◌==◌, Bool, true, false, length, Option, None, Some, List, [], ◌∷◌, refl, ap, sym}
use Rattle.std.specs.Prelude.{codes}
use Rattle.tree_grammar.specs.Elements.{Nodes, none, Element, Event, Close, nodes_events, events}
use Rattle.doc_tree.specs.Marks.{spread}
use Rattle.tree_grammar.specs.Document.{Doc}
use Rattle.document_tags.specs.Documents.{OfDocument}
use Rattle.document_tags.specs.Texts.{IsDocument}
use Rattle.document_tags.specs.Writing.{text_nodes, leaf, group, bare_root}
use Rattle.fraction.specs.Frac.{ratio}
use Rattle.fraction.specs.declared.frac.Frac.{Frac}
use Rattle.decimal_text.specs.Exact.{ratio_text}
use Rattle.osol_grammar.specs.declared.options.Options.{Options}
use Rattle.osol_grammar.specs.Meaning.{IsBlank, IsOptionsText}
use Rattle.osol_grammar.specs.Writing.{job_nodes, time_nodes, first_nodes, options_nodes, options_text}
use Rattle.osol_grammar.specs.Back.{ComesBack}
use Rattle.osol_grammar.proofs.WrittenText.{told_nodes, optimization, text_document, text_not_blank}
use Rattle.handed_results.specs.declared.handed.Handed.{Handed}
use Rattle.handed_results.specs.declared.handed.Handed.TheVariants.{Nothing}
use Rattle.handed_results.specs.declared.parse_state.Place.TheVariants.{InRoot, InGeneral}
use Rattle.handed_results.specs.declared.parse_state.ParseState.{ParseState}
use Rattle.mark_folds.specs.Folds.{IsFolded}
use Rattle.handed_results.specs.Marked.{bare, start, left_by, left}
use Rattle.handed_results.specs.Reading.{handed_by, MayHandIn, HandsIn}
use Rattle.handed_results.proofs.Walks.{at, passed_left}

-- what is left behind all marks is handed in, whatever the bytes are read as
may_hand_in : (bytes : List ℕ) (first s : ParseState) (h : Handed) → first ≡ start → ((a b : Element) → Doc bytes a → Doc bytes b → a ≡ b) → h ≡ bare s.handed → OfDocument (IsFolded left_by first) bytes s → MayHandIn bytes h
may_hand_in bytes first s h begins one is read = λ root doc.
    let own = read.document in
    is ∙ ap (λ (z : ParseState). bare z.handed) (read.is ∙ ap (λ (z : ParseState). left z (spread (events read.root))) begins) ∙ ap handed_by (one read.root root own.document doc.document)

pub document_hands : (bytes : List ℕ) (first s : ParseState) (h : Handed) → (IsBlank bytes → ⊥) → first ≡ start → ((a b : Element) → Doc bytes a → Doc bytes b → a ≡ b) → h ≡ bare s.handed → OfDocument (IsFolded left_by first) bytes s → HandsIn bytes h
document_hands bytes first s h some begins one is read = record { document = λ other. may_hand_in bytes first s h begins one is read; blank = λ is_blank. absurd (some is_blank) }

-- a text that isn't empty has a character
pub is_some : (b : Bool) (text : List ℕ) → b ≡ (length text == 0) → b ≡ false → text ≡ [] → ⊥
is_some b text seen some none_left = let clash : true ≡ false = sym (seen ∙ ap (λ (t : List ℕ). length t == 0) none_left) ∙ some in cc

-- bytes that are blank, and those that are no document
pub blank_hands : (bytes : List ℕ) → IsBlank bytes → HandsIn bytes Nothing
blank_hands bytes is_blank = record { document = λ some. absurd (some is_blank); blank = λ is. refl }

pub no_document_hands : (bytes : List ℕ) → ((root : Element) → IsDocument bytes root → ⊥) → HandsIn bytes Nothing
no_document_hands bytes no_root = record { document = λ some root is. absurd (no_root root is); blank = λ is. refl }

pub hands_once : (bytes : List ℕ) (o : Options) (h k : Handed) → IsOptionsText bytes o → HandsIn bytes h → HandsIn bytes k → h ≡ k
hands_once bytes o h k (inl blank) a b = a.blank blank.0 ∙ sym (b.blank blank.0)
hands_once bytes o h k (inr text) a b = a.document text.0 text.1.root text.1.document ∙ sym (b.document text.0 text.1.root text.1.document)

-- ---- options in memory

after_optimization : (o : Options) (k : List Event) → left (at InRoot 0 Nothing) (spread (nodes_events (optimization o) k)) ≡ left (at InRoot 0 Nothing) (spread k)
after_optimization o k = passed_left (first_nodes o.first (group (codes "solverOptions") (told_nodes o) none)) (codes "optimization") InRoot Nothing k

after_time : (seconds : Option Frac) (more : Nodes) (k : List Event) → left (at InRoot 0 Nothing) (spread (nodes_events (time_nodes seconds more) k)) ≡ left (at InRoot 0 Nothing) (spread (nodes_events more k))
after_time None more k = refl
after_time (Some s) more k = passed_left (leaf (codes "maxTime") (ratio_text (ratio s)) none) (codes "job") InRoot Nothing (nodes_events more k)

after_job : (job : Option (List ℕ)) (more : Nodes) (k : List Event) → left (at InRoot 0 Nothing) (spread (nodes_events (job_nodes job more) k)) ≡ left (at InRoot 0 Nothing) (spread (nodes_events more k))
after_job None more k = refl
after_job (Some name) more k = passed_left (text_nodes name) (codes "jobID") InGeneral Nothing (Close (codes "general") ∷ nodes_events more k)

nothing_by : (o : Options) → handed_by (bare_root (codes "osol") (options_nodes o)) ≡ Nothing
nothing_by o =
    let k : List Event = Close (codes "osol") ∷ [] in
    ap (λ (z : ParseState). bare z.handed) (after_job o.job (time_nodes o.seconds (optimization o)) k ∙ after_time o.seconds (optimization o) k ∙ after_optimization o k)

pub nothing_written : (o : Options) (h : Handed) → ComesBack o → HandsIn (options_text o) h → h ≡ Nothing
nothing_written o h back hands = hands.document (text_not_blank o) (bare_root (codes "osol") (options_nodes o)) (text_document o back) ∙ nothing_by o
