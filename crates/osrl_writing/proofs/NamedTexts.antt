-- Values with names, and texts that have them.
use Rattle.osrl_writing.proofs.Names.{◌≡◌, ◌∙◌, ℕ, ◌<◌, ◌≤◌, Bool, List, [], ◌++◌, length, cond, append-nil, refl, ap, sym, subst, arith, codes, OnOk, none, Event, nodes_events, said, ratio, Frac, cut_text, name_attribute, indexed, named_text, report_text, told_text, NameLists, Labels, Cert, point_values, dual_values}
use Rattle.std.specs.Prelude.{true, false, Option, None, Result, Ok, Err, nat_le}
use Rattle.std.proofs.lemmas.Bool.{leb-true, leb-false}
use Rattle.tree_grammar.specs.Elements.{Attribute}
use Rattle.element_tree.specs.Building.{Building}
use Rattle.document_tags.specs.Texts.{document_limit}
use Rattle.document_tags.specs.Writing.{only, with_attribute}
use Rattle.document_tags.specs.Telling.{Told, ToldAttributes, marked}
use Rattle.document_tags.proofs.Tellings.{told_after, attributes_then}
use Rattle.osrl_writing.specs.declared.report.Report.{Report}

-- an index, a name where there is one, and the element that has them
pub indexed_told : {X E : Type 0} (r : Result X E) (a b c d : Building) (name index : List ℕ) (own : Option (List ℕ)) (x : Frac) (text : List ℕ) → a.attributes ≡ [] → text ≡ cut_text (ratio x)
    → ToldAttributes a b (only (codes "idx") index) → ToldAttributes b c (name_attribute own) → OnOk r (Told c d (marked name c.attributes text)) → OnOk r (Told a d (λ k. nodes_events (indexed name index own x none) k))
indexed_told {X} {E} (Err e) a b c d name index own x text no_wait is first second told = tt
indexed_told {X} {E} (Ok y) a b c d name index own x text no_wait is first second told =
    let all : List Attribute = with_attribute (codes "idx") index (name_attribute own) in
    let waiting : c.attributes ≡ all = second.waiting ∙ ap (λ (l : List Attribute). l ++ name_attribute own) (first.waiting ∙ ap (λ (l : List Attribute). l ++ only (codes "idx") index) no_wait) in
    let same : Told c d (marked name all (cut_text (ratio x))) = subst (λ (t : List ℕ). Told c d (marked name all t)) is (subst (λ (l : List Attribute). Told c d (marked name l text)) waiting told) in
    told_after a c d (marked name all (cut_text (ratio x))) (attributes_then a b c _ _ first second) same

-- the text with names, where that isn't too long
pub told_named : (ns : NameLists) (r : Report) (text : List ℕ) → text ≡ named_text ns r → length text ≤ document_limit → text ≡ told_text ns r
told_named ns r text is short = is ∙ by (nat_le (length (named_text ns r)) document_limit) refl
  where
    by : (b : Bool) → nat_le (length (named_text ns r)) document_limit ≡ b → named_text ns r ≡ cond b (named_text ns r) (report_text r)
    by true few = refl
    by false many = let long = leb-false (length (named_text ns r)) document_limit many in let size = ap length is in absurd (omega (arith, long, short, size))

-- and else that without them
pub told_bare : (ns : NameLists) (r : Report) (named text : List ℕ) → named ≡ named_text ns r → document_limit < length named → text ≡ report_text r → text ≡ told_text ns r
told_bare ns r named text is long bare = bare ∙ by (nat_le (length (named_text ns r)) document_limit) refl
  where
    by : (b : Bool) → nat_le (length (named_text ns r)) document_limit ≡ b → report_text r ≡ cond b (named_text ns r) (report_text r)
    by true few = let short = leb-true (length (named_text ns r)) document_limit few in let size = ap length is in absurd (omega (arith, long, short, size))
    by false many = refl

-- the same names, however they are lent
pub points_lent : (a b : Building) (ls ks : Labels) (x vs : List Frac) → ls ≡ ks → Told a b (λ k. nodes_events (point_values ls x vs none) k) → Told a b (λ k. nodes_events (point_values ks x vs none) k)
points_lent a b ls ks x vs same told = subst (λ (l : Labels). Told a b (λ k. nodes_events (point_values l x vs none) k)) same told

pub duals_lent : (a b : Building) (ls ks : Labels) (n : ℕ) (vs : List Frac) (cs : List Cert) → ls ≡ ks → Told a b (λ k. nodes_events (dual_values ls n vs cs none) k) → Told a b (λ k. nodes_events (dual_values ks n vs cs none) k)
duals_lent a b ls ks n vs cs same told = subst (λ (l : Labels). Told a b (λ k. nodes_events (dual_values l n vs cs none) k)) same told

-- no name is told where there is none
pub none_told : (b : Building) (own : Option (List ℕ)) → own ≡ None → ToldAttributes b b (name_attribute own)
none_told b own absent = subst (λ (o : Option (List ℕ)). ToldAttributes b b (name_attribute o)) (sym absent) (record { told = refl; waiting = sym (append-nil b.attributes) })
