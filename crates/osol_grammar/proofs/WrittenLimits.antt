-- The options of limits, told.
use Rattle.std.proofs.Common.{◌≡◌, ◌∙◌, ℕ, Option, None, Some, Result, List, [], ◌∷◌, ◌++◌, refl, ap, subst}
use Rattle.std.specs.Prelude.{OnOk, codes, decimal}
use Rattle.fraction.specs.Frac.{ratio}
use Rattle.decimal_text.specs.Exact.{ratio_text}
use Rattle.tree_grammar.specs.Elements.{Attribute, Nodes, none, Event, nodes_events}
use Rattle.element_tree.specs.Building.{Building}
use Rattle.document_tags.specs.Writing.{with_attribute}
use Rattle.document_tags.specs.Telling.{Told, ToldAttributes, opening, closing}
use Rattle.document_tags.proofs.Tellings.{told_after, ends_told, attributes_then}
use Rattle.fraction.specs.declared.frac.Frac.{Frac}
use Rattle.osol_grammar.specs.declared.limit.Limit.{Limit}
use Rattle.osol_grammar.specs.declared.options.Options.{Options}
use Rattle.osol_grammar.specs.Writing.{option_node, limit_node, option_nodes, job_nodes, time_nodes, value_nodes, first_nodes}

abbrev three : (name value : List ℕ) → List Attribute
three name value = with_attribute (codes "name") name (with_attribute (codes "value") value (with_attribute (codes "solver") (codes "os_cert") []))

waiting : (a b c : Building) (name value : List ℕ) → a.attributes ≡ [] → ToldAttributes a b (with_attribute (codes "name") name []) → ToldAttributes b c (with_attribute (codes "value") value []) → c.attributes ++ with_attribute (codes "solver") (codes "os_cert") [] ≡ three name value
waiting a b c name value no_wait first second =
    ap (λ (l : List Attribute). l ++ with_attribute (codes "solver") (codes "os_cert") []) (second.waiting ∙ ap (λ (l : List Attribute). l ++ with_attribute (codes "value") value []) (first.waiting ∙ ap (λ (l : List Attribute). l ++ with_attribute (codes "name") name []) no_wait))

pub option_told : {X E : Type 0} (r : Result X E) (a b c d e : Building) (name value : List ℕ) → a.attributes ≡ [] → ToldAttributes a b (with_attribute (codes "name") name []) → ToldAttributes b c (with_attribute (codes "value") value [])
    → Told c d (opening (codes "solverOption") (c.attributes ++ with_attribute (codes "solver") (codes "os_cert") [])) → OnOk r (Told d e (closing (codes "solverOption"))) → OnOk r (Told a e (λ k. nodes_events (option_node name value none) k))
option_told {X} {E} r a b c d e name value no_wait first second begins ends =
    let opened : Told c d (opening (codes "solverOption") (three name value)) = subst (λ (as' : List Attribute). Told c d (opening (codes "solverOption") as')) (waiting a b c name value no_wait first second) begins in
    ends_told r a d e (opening (codes "solverOption") (three name value)) (closing (codes "solverOption")) (told_after a c d _ (attributes_then a b c _ _ first second) opened) ends

-- an option whose name and value are these
pub told_so : {X E : Type 0} (r : Result X E) (a b : Building) (name value n v : List ℕ) → name ≡ n → value ≡ v → OnOk r (Told a b (λ k. nodes_events (option_node name value none) k)) → OnOk r (Told a b (λ k. nodes_events (option_node n v none) k))
told_so {X} {E} r a b name value n v is_name is_value told =
    subst (λ (x : List ℕ). OnOk r (Told a b (λ k. nodes_events (option_node x v none) k))) is_name (subst (λ (x : List ℕ). OnOk r (Told a b (λ k. nodes_events (option_node name x none) k))) is_value told)

-- the options of limits, and then more
pub limits_then : (o : Options) (ls : List Limit) (more : Nodes) (k : List Event) → nodes_events (option_nodes o ls none) (nodes_events more k) ≡ nodes_events (option_nodes o ls more) k
limits_then o [] more k = refl
limits_then o (l ∷ ls) more k = ap (λ (es : List Event). nodes_events (limit_node o l none) es) (limits_then o ls more k)

-- the job's name, and then more
pub job_then : (job : Option (List ℕ)) (more : Nodes) (k : List Event) → nodes_events (job_nodes job none) (nodes_events more k) ≡ nodes_events (job_nodes job more) k
job_then None more k = refl
job_then (Some name) more k = refl

-- the time, and then more
pub time_then : (seconds : Option Frac) (more : Nodes) (k : List Event) → nodes_events (time_nodes seconds none) (nodes_events more k) ≡ nodes_events (time_nodes seconds more) k
time_then None more k = refl
time_then (Some s) more k = refl

-- the first values, and then more
pub value_then : (n : ℕ) (value : Option Frac) (more : Nodes) (k : List Event) → nodes_events (value_nodes n value none) (nodes_events more k) ≡ nodes_events (value_nodes n value more) k
value_then n None more k = refl
value_then n (Some x) more k = refl

pub first_then : (first : Option (List (Option Frac))) (more : Nodes) (k : List Event) → nodes_events (first_nodes first none) (nodes_events more k) ≡ nodes_events (first_nodes first more) k
first_then None more k = refl
first_then (Some vs) more k = refl

-- a first value, told
pub value_told : {X E : Type 0} (r : Result X E) (a b c d : Building) (n : ℕ) (x : Frac) (index value : List ℕ) → a.attributes ≡ [] → index ≡ decimal n → value ≡ ratio_text (ratio x) → ToldAttributes a b (with_attribute (codes "idx") index [])
    → Told b c (opening (codes "var") (b.attributes ++ with_attribute (codes "value") value [])) → OnOk r (Told c d (closing (codes "var"))) → OnOk r (Told a d (λ k. nodes_events (value_nodes n (Some x) none) k))
value_told {X} {E} r a b c d n x index value no_wait is_index is_value first begins ends =
    let two : (i v : List ℕ) → List Attribute = λ i v. with_attribute (codes "idx") i (with_attribute (codes "value") v []) in
    let attributes : b.attributes ++ with_attribute (codes "value") value [] ≡ two (decimal n) (ratio_text (ratio x)) =
    ap (λ (l : List Attribute). l ++ with_attribute (codes "value") value []) (first.waiting ∙ ap (λ (l : List Attribute). l ++ with_attribute (codes "idx") index []) no_wait) ∙ ap (λ (i : List ℕ). two i value) is_index ∙ ap (λ (v : List ℕ). two (decimal n) v) is_value in
    let opened : Told b c (opening (codes "var") (two (decimal n) (ratio_text (ratio x)))) = subst (λ (as' : List Attribute). Told b c (opening (codes "var") as')) attributes begins in
    ends_told r a c d (opening (codes "var") (two (decimal n) (ratio_text (ratio x)))) (closing (codes "var")) (told_after a b c _ first.told opened) ends
