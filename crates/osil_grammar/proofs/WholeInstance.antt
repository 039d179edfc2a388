-- A whole instance, written part by part.
use Rattle.osil_grammar.proofs.Words.{◌≡◌, ◌∙◌, ℕ, List, [], ◌∷◌, ◌==◌, Bool, true, false, length, map, sym, subst, refl, codes, Attribute, Nodes, none, element, Element, Event, Open, Close, nodes_events, Entry, Parts, counted_element, with_attribute, WriteVars, WriteRows, WriteGoals, WriteValues, WriteLists, WritesInstance, counts_nodes, row_starts, Wrote, WroteRoot}
use Rattle.tree_writing.specs.Awaiting.{WritesEvent, BeginsTag, AddsAttributes}
use Rattle.tree_writing.specs.declared.text_writer.TextWriter.{TextWriter}
use Rattle.osil_grammar.proofs.Tellings.{begun, begun_with}
use Rattle.osil_grammar.proofs.Parts.{ToldSome}

-- these nodes are an element of such nodes
abbrev pub InOne : (Nodes → Type 0) → (Nodes → Nodes) → Nodes → Type 0
InOne Q around nodes = (inner : Nodes) × Q inner × (nodes ≡ around inner)

-- a list whose length isn't 0
pub not_empty : (es : List Entry) (b : Bool) → b ≡ (length es == 0) → b ≡ false → es ≡ [] → ⊥
not_empty [] b is some empty = let clash : true ≡ false = sym is ∙ some in cc
not_empty (e ∷ es) b is some empty = cc

-- the three lists
pub lists_told : (m : ℕ) (es : List Entry) (a b c d : TextWriter) → (es ≡ [] → ⊥) → Wrote a b (nodes_events (element (codes "start") [] (counts_nodes (row_starts es 0 m)) none)) → Wrote b c (nodes_events (element (codes "colIdx") [] (counts_nodes (map (λ e. e.col) es)) none)) → ToldSome (InOne (WriteValues es) (λ inner. element (codes "value") [] inner none)) c d → ToldSome (WriteLists m es) a d
lists_told m [] a b c d some starts columns values = absurd (some refl)
lists_told m (e ∷ es) a b c d some starts columns values =
    let inner : Nodes = values.1.0 in
    let last : Wrote c d (nodes_events (element (codes "value") [] inner none)) = subst (λ (n : Nodes). Wrote c d (nodes_events n)) values.1.2 values.2 in
    let first : Nodes → Nodes = λ more. element (codes "start") [] (counts_nodes (row_starts (e ∷ es) 0 m)) more in
    let second : Nodes → Nodes = λ more. element (codes "colIdx") [] (counts_nodes (map (λ (x : Entry). x.col) (e ∷ es))) more in (
      first (second (element (codes "value") [] inner none)),
      (inner, values.1.1, refl),
      λ behind text awaits. last behind text (columns (nodes_events (element (codes "value") [] inner none) behind) text (starts (nodes_events (second (element (codes "value") [] inner none)) behind) text awaits)),
    )

-- what a part of `instanceData` is: an element with a count
abbrev pub IsPart : (name key : List ℕ) → ℕ → (Nodes → Type 0) → Nodes → Type 0
IsPart name key n Q = InOne Q (λ inner. counted_element name key n inner none)

-- such a part was written
part_told : (a b : TextWriter) (name key : List ℕ) (n : ℕ) (Q : Nodes → Type 0) (part : ToldSome (IsPart name key n Q) a b) → Wrote a b (nodes_events (counted_element name key n part.1.0 none))
part_told a b name key n Q part = subst (λ (nodes : Nodes). Wrote a b (nodes_events nodes)) part.1.2 part.2

abbrev namespace : List Attribute
namespace = with_attribute (codes "xmlns") (codes "os.optimizationservices.org") []

-- the instance's root
pub record ToldWhole (p : Parts) (a b : TextWriter) : Type 0 where
  pub root : Element
  pub writes : WritesInstance p root
  pub wrote : WroteRoot a b root

-- all from the start to the end
pub whole_told : (p : Parts) (a b c d e f g h i j k l : TextWriter) → BeginsTag a b (codes "osil") → AddsAttributes b c namespace → BeginsTag c d (codes "instanceHeader") → WritesEvent d e (Close (codes "instanceHeader")) → BeginsTag e f (codes "instanceData")
    → ToldSome (IsPart (codes "variables") (codes "numberOfVariables") (length p.vars) (WriteVars p.vars)) f g
    → ToldSome (IsPart (codes "objectives") (codes "numberOfObjectives") (length p.goals) (WriteGoals p.goals)) g h
    → ToldSome (IsPart (codes "constraints") (codes "numberOfConstraints") (length p.rows) (WriteRows p.rows)) h i
    → ToldSome (IsPart (codes "linearConstraintCoefficients") (codes "numberOfValues") (length p.entries) (WriteLists (length p.rows) p.entries)) i j
    → WritesEvent j k (Close (codes "instanceData")) → WritesEvent k l (Close (codes "osil")) → ToldWhole p a l
whole_told p a b c d e f g h i j k l begins adds header passes opens vars goals rows lists closes ends =
    let v : Nodes → Nodes = λ more. counted_element (codes "variables") (codes "numberOfVariables") (length p.vars) vars.1.0 more in
    let o : Nodes → Nodes = λ more. counted_element (codes "objectives") (codes "numberOfObjectives") (length p.goals) goals.1.0 more in
    let r : Nodes → Nodes = λ more. counted_element (codes "constraints") (codes "numberOfConstraints") (length p.rows) rows.1.0 more in
    let m : Nodes = counted_element (codes "linearConstraintCoefficients") (codes "numberOfValues") (length p.entries) lists.1.0 none in
    let root : Element = record { name = codes "osil"; attributes = namespace; children = element (codes "instanceHeader") [] none (element (codes "instanceData") [] (v (o (r m))) none) } in
    let behind : List Event = Close (codes "instanceData") ∷ Close (codes "osil") ∷ [] in
    let in_it : List Event = Open (codes "instanceData") [] ∷ nodes_events (v (o (r m))) behind in record {
      root = root;
      writes = record { vars = vars.1.0; are_vars = vars.1.1; goals = goals.1.0; are_goals = goals.1.1; rows = rows.1.0; are_rows = rows.1.1; lists = lists.1.0; are_lists = lists.1.1; says = refl };
      wrote = λ text awaits.
          let in_root = begun_with a b c (codes "osil") namespace begins adds (Open (codes "instanceHeader") [] ∷ Close (codes "instanceHeader") ∷ in_it) text awaits in
          let in_header = begun c d (codes "instanceHeader") header (Close (codes "instanceHeader") ∷ in_it) text in_root in
          let in_data = begun e f (codes "instanceData") opens (nodes_events (v (o (r m))) behind) text (passes in_it text in_header) in
          let past_vars = part_told f g (codes "variables") (codes "numberOfVariables") (length p.vars) (WriteVars p.vars) vars (nodes_events (o (r m)) behind) text in_data in
          let past_goals = part_told g h (codes "objectives") (codes "numberOfObjectives") (length p.goals) (WriteGoals p.goals) goals (nodes_events (r m) behind) text past_vars in
          let past_rows = part_told h i (codes "constraints") (codes "numberOfConstraints") (length p.rows) (WriteRows p.rows) rows (nodes_events m behind) text past_goals in
          let past_lists = part_told i j (codes "linearConstraintCoefficients") (codes "numberOfValues") (length p.entries) (WriteLists (length p.rows) p.entries) lists behind text past_rows in
          ends [] text (closes (Close (codes "osil") ∷ []) text past_lists);
    }
