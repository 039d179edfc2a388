-- What stands before the root is found from the text.
use Rattle.doc_tree.proofs.Words.{Bool, Declaration, Each, Encoding, Equals, Instruction, IsEncodingChar, IsName, IsQName, IsQuote, IsSpace, List, Misc, Some1, Standalone, Version, [], ap, arith, bare, codes, comment_text, declaration_text, declared, each_append, encoded, encoding_text, equals_text, false, instruction_text, leb, leb-true, map, mark_text, misc_comment, misc_instruction, misc_over, misc_space, misc_text, no_declaration, no_encoding, no_standalone, refl, standalone_text, standing, sym, to_ascii_lowercase, true, version_text, with_text, ℕ, ◌&&◌, ◌++◌, ◌<◌, ◌∙◌, ◌∷◌, ◌≡◌, ◌≢◌, ◌≤◌, Field, IsFieldValue, any, and_parts}
use Rattle.doc_tree.specs.declared.declaration.Field.TheVariants as fields
use Rattle.doc_tree.proofs.MachineSteps.{field_each}
use Rattle.doc_tree.proofs.Viability.Continuations.{inside, inside_carries}
use Rattle.doc_tree.proofs.ByteGrammar.{IsHigh, each_map, not_space, quote_range, some_each, space_low, start_range}
use Rattle.doc_tree.proofs.OneDocument.Spans.{Stops, each_same, name_high, space_not_high}
use Rattle.doc_tree.proofs.OneDocument.Asides.{behind_comment, instruction_same, mark_not_high}

-- a name stands first
abbrev pub IsNamed : List ℕ → Type 0
IsNamed [] = ⊥
IsNamed (c ∷ cs) = 65 ≤ c

pub qname_named : (name k : List ℕ) → IsQName name → IsNamed (name ++ k)
qname_named [] k n = absurd n
qname_named (c ∷ cs) k n = (start_range c n.0).0

low_first : (x : List ℕ) (b : ℕ) (z : List ℕ) → IsNamed x → b < 65 → x ≡ b ∷ z → ⊥
low_first [] b z n l e = n
low_first (c ∷ cs) b z n l e = let h : c ≡ b = cc in omega arith

-- `<` and a name begin no comment, no instruction and no white space
element_first : (m : Misc) (x y : List ℕ) → IsNamed x → IsNamed y → 60 ∷ x ≡ misc_text m (60 ∷ y) → x ≡ y
element_first misc_over x y n o e = cc
element_first (misc_space c s m) x y n o e = let h : 60 ≡ c = cc in absurd (not_space c (omega arith) s)
element_first (misc_comment t m) x y n o e = absurd (low_first x 33 (45 ∷ 45 ∷ comment_text t (misc_text m (60 ∷ y))) n (omega arith) (cc))
element_first (misc_instruction i m) x y n o e = absurd (low_first x 63 (instruction_text i (misc_text m (60 ∷ y))) n (omega arith) (cc))

pub misc_same : (m n : Misc) (x y : List ℕ) → IsNamed x → IsNamed y → misc_text m (60 ∷ x) ≡ misc_text n (60 ∷ y) → x ≡ y
misc_same misc_over n x y a b e = element_first n x y a b e
misc_same (misc_space c s m) misc_over x y a b e = sym (element_first (misc_space c s m) y x b a (sym e))
misc_same (misc_space c s m) (misc_space d t n) x y a b e = misc_same m n x y a b (cc)
misc_same (misc_comment t m) misc_over x y a b e = sym (element_first (misc_comment t m) y x b a (sym e))
misc_same (misc_comment t m) (misc_space d s n) x y a b e = let h : 60 ≡ d = cc in absurd (not_space d (omega arith) s)
misc_same (misc_comment t m) (misc_comment u n) x y a b e = misc_same m n x y a b (behind_comment (λ z fs. z ≡ (misc_text n (60 ∷ y))) t (misc_text m (60 ∷ x)) [] (record { comment = u; behind = (misc_text n (60 ∷ y)); text = (cc); after = refl }))
misc_same (misc_comment t m) (misc_instruction i n) x y a b e = let h : ◌≡◌ {A = ℕ} 33 63 = cc in absurd (omega arith)
misc_same (misc_instruction i m) misc_over x y a b e = sym (element_first (misc_instruction i m) y x b a (sym e))
misc_same (misc_instruction i m) (misc_space d s n) x y a b e = let h : 60 ≡ d = cc in absurd (not_space d (omega arith) s)
misc_same (misc_instruction i m) (misc_comment t n) x y a b e = let h : ◌≡◌ {A = ℕ} 63 33 = cc in absurd (omega arith)
misc_same (misc_instruction i m) (misc_instruction j n) x y a b e = misc_same m n x y a b (instruction_same i j (misc_text m (60 ∷ x)) (misc_text n (60 ∷ y)) (cc))
misc_same (misc_space c s m) _ x y a b e = let h : c ≡ 60 = cc in absurd (not_space c (omega arith) s)

-- no `?`
abbrev Other : ℕ → Type 0
Other c = c ≢ 63

space_other : (c : ℕ) → IsSpace c → Other c
space_other c s e = let l = space_low c s in omega arith

encoding_other : (c : ℕ) → IsEncodingChar c → Other c
encoding_other c p e = grind arith

quote_other : (c : ℕ) → IsQuote c → Other c
quote_other c i e = let r = quote_range c i in omega arith

-- a text of letters
abbrev pub all_above : List ℕ → Bool
all_above [] = true
all_above (c ∷ cs) = leb 64 c && all_above cs

above_other : (x : List ℕ) → all_above x ≡ true → Each Other x
above_other [] e = tt
above_other (c ∷ cs) e = let b = and_parts (leb 64 c) (all_above cs) e in ((λ h. let l = leb-true 64 c b.0 in omega arith), above_other cs b.1)

-- a field of the declaration, and what stands behind it
field_other : (f : Field) (space word : List ℕ) (e : Equals) (quote : ℕ) (value k : List ℕ) → Some1 IsSpace space → all_above word ≡ true → IsQuote quote → IsFieldValue any f value → Each Other k → Each Other (space ++ (word ++ equals_text e (quote ∷ (value ++ (quote ∷ k)))))
field_other f space word e quote value k s w q v r =
    let spaces : (x : List ℕ) → Each IsSpace x → Each Other x = each_map IsSpace Other space_other in
    let n : Other quote = quote_other quote q in
    let a : Each Other (quote ∷ (value ++ (quote ∷ k))) = (n, each_append Other value (quote ∷ k) (each_map IsEncodingChar Other encoding_other value (field_each (record { depth = 32; aim = any }) f value v)) (n, r)) in
    let b : Each Other (equals_text e (quote ∷ (value ++ (quote ∷ k)))) = each_append Other e.before (61 ∷ (e.after ++ (quote ∷ (value ++ (quote ∷ k))))) (spaces e.before e.spaced_before) ((λ h. omega arith), each_append Other e.after (quote ∷ (value ++ (quote ∷ k))) (spaces e.after e.spaced_after) a) in
    each_append Other space (word ++ equals_text e (quote ∷ (value ++ (quote ∷ k)))) (spaces space (some_each IsSpace space s)) (each_append Other word (equals_text e (quote ∷ (value ++ (quote ∷ k)))) (above_other word w) b)

encoded_other : (e : Encoding) (k : List ℕ) → Each Other k → Each Other (encoding_text e k)
encoded_other no_encoding k r = r
encoded_other (encoded space s e quote q name n) k r = field_other fields.Encoding space (codes "encoding") e quote name k s refl q (n, tt) r

standing_other : (s : Standalone) (k : List ℕ) → Each Other k → Each Other (standalone_text s k)
standing_other no_standalone k r = r
standing_other (standing space s e quote q word w) k r = field_other fields.Standalone space (codes "standalone") e quote word k s refl q w r

inside_other : (v : Version) (e : Encoding) (s : Standalone) (space : List ℕ) → Each IsSpace space → Each Other (inside v e s space [])
inside_other v e s space sp = field_other fields.Version v.space (codes "version") v.equals v.quote (49 ∷ 46 ∷ v.digits) (encoding_text e (standalone_text s (space ++ []))) v.spaced refl v.quoted (v.digits, refl, v.numbered) (encoded_other e (standalone_text s (space ++ [])) (standing_other s (space ++ []) (each_append Other space [] (each_map IsSpace Other space_other space sp) tt)))

-- no declaration stands first: no `<?xml` with white space behind it
abbrev pub IsUndeclared : List ℕ → Type 0
IsUndeclared x = (c : ℕ) (z : List ℕ) → IsSpace c → x ≡ codes "<?xml" ++ (c ∷ z) → ⊥

some_first : (space r : List ℕ) → Some1 IsSpace space → (c : ℕ) × (z : List ℕ) × IsSpace c × (space ++ r ≡ c ∷ z)
some_first [] r s = absurd s
some_first (c ∷ cs) r s = (c, cs ++ r, s.0, refl)

declared_first : (x : List ℕ) → IsUndeclared x → (v : Version) (k : List ℕ) → x ≡ codes "<?xml" ++ version_text v k → ⊥
declared_first x n v k e =
    let f = some_first v.space (codes "version" ++ equals_text v.equals (v.quote ∷ 49 ∷ 46 ∷ (v.digits ++ (v.quote ∷ k)))) v.spaced in
    n f.0 f.1 f.2 (e ∙ ap (λ z. codes "<?xml" ++ z) f.3)

pub declaration_same : (d f : Declaration) (x y : List ℕ) → IsUndeclared x → IsUndeclared y → declaration_text d x ≡ declaration_text f y → x ≡ y
declaration_same no_declaration no_declaration x y n m e = e
declaration_same no_declaration (declared v e s space sp) x y n m h = absurd (declared_first x n v (encoding_text e (standalone_text s (space ++ (63 ∷ 62 ∷ y)))) h)
declaration_same (declared v e s space sp) no_declaration x y n m h = absurd (declared_first y m v (encoding_text e (standalone_text s (space ++ (63 ∷ 62 ∷ x)))) (sym h))
declaration_same (declared v e s space sp) (declared v' e' s' space' sp') x y n m h =
    let same : inside v e s space (63 ∷ 62 ∷ x) ≡ inside v' e' s' space' (63 ∷ 62 ∷ y) = cc in
    let r = each_same Other (inside v e s space []) (inside v' e' s' space' []) (63 ∷ 62 ∷ x) (63 ∷ 62 ∷ y) (inside_other v e s space sp) (inside_other v' e' s' space' sp') (λ n. n refl) (λ n. n refl) (sym (inside_carries v e s space [] (63 ∷ 62 ∷ x)) ∙ (same ∙ inside_carries v' e' s' space' [] (63 ∷ 62 ∷ y))) in
    let b = r.1 in
    cc

-- an instruction's name isn't `xml`
xml_named : IsName (codes "xml")
xml_named = grind arith

name_other_than : (name k : List ℕ) (c : ℕ) (z : List ℕ) → IsName name → map to_ascii_lowercase name ≢ codes "xml" → Stops IsHigh k → IsSpace c → name ++ k ≡ codes "xml" ++ (c ∷ z) → ⊥
name_other_than name k c z n o s i e =
    let r = each_same IsHigh name (codes "xml") k (c ∷ z) (name_high name n) (name_high (codes "xml") xml_named) s (space_not_high c i) e in
    o (ap (map to_ascii_lowercase) r.0)

instruction_other : (i : Instruction) (k : List ℕ) (c : ℕ) (z : List ℕ) → IsSpace c → instruction_text i k ≡ codes "xml" ++ (c ∷ z) → ⊥
instruction_other (bare name n o) k c z s e = name_other_than name (63 ∷ 62 ∷ k) c z n o mark_not_high s e
instruction_other (with_text name n o d i text t) k c z s e = name_other_than name (d ∷ (text ++ (63 ∷ 62 ∷ k))) c z n o (space_not_high d i) s e

pub misc_undeclared : (m : Misc) (x : List ℕ) → IsNamed x → IsUndeclared (misc_text m (60 ∷ x))
misc_undeclared misc_over x n c z s e = low_first x 63 (codes "xml" ++ (c ∷ z)) n (omega arith) (cc)
misc_undeclared (misc_space d i more) x n c z s e = let h : d ≡ 60 = cc in not_space d (omega arith) i
misc_undeclared (misc_comment t more) x n c z s e = let h : ◌≡◌ {A = ℕ} 33 63 = cc in omega arith
misc_undeclared (misc_instruction i more) x n c z s e = instruction_other i (misc_text more (60 ∷ x)) c z s (cc)

-- no byte order mark stands first
abbrev pub IsUnmarked : List ℕ → Type 0
IsUnmarked x = (z : List ℕ) → x ≡ 239 ∷ z → ⊥

pub declaration_unmarked : (d : Declaration) (m : Misc) (k : List ℕ) → IsUnmarked (declaration_text d (misc_text m (60 ∷ k)))
declaration_unmarked no_declaration (misc_space c i more) k z e = let h : c ≡ 239 = cc in not_space c (omega arith) i
declaration_unmarked _ _ k z e = grind arith

pub mark_same : (a b : Bool) (x y : List ℕ) → IsUnmarked x → IsUnmarked y → mark_text a x ≡ mark_text b y → x ≡ y
mark_same false false x y n m e = e
mark_same false true x y n m e = absurd (n (187 ∷ 191 ∷ y) e)
mark_same true false x y n m e = absurd (m (187 ∷ 191 ∷ x) (sym e))
mark_same true true x y n m e = cc
