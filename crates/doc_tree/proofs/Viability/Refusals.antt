-- Which refusal a byte decides, and that one that is taken decides none.
use Rattle.doc_tree.proofs.Words.{Awaited, Blocks, Bool, CharacterFollows, CharacterRest, CharacterStuck, Continues, Decides, Document, Feeding, Finishes, Insides, IsClean, IsDeep, IsDeepAt, IsDepthAllowed, IsDoctype, IsDoctypeAt, IsEncodingAt, IsMalformedAt, IsNameStart, IsOther, IsQName, IsQuote, IsRefusedIn, IsShallowlyViable, IsTaken, IsText, IsViable, IsXmlText, List, Mark, MeetsBoth, NoneBegins, NoneWithin, PassesByte, Refused, RestsAt, Spells, MachineState, TagFirst, TreeTerms, TreeFault, Whole, [], any, any_encoding, ap, append_assoc, arith, begins_with_line_feed, body_nodes, bounds, cases_lt, codes, cond, drop, false, get_or, inl, inr, length, length-append, length-take-le, nodes_depth, normal_lines, rank, refl, subst, suc, sym, take, true, ℕ, ◌++◌, ◌+◌, ◌-◌, ◌<◌, ◌==◌, ◌∙◌, ◌∷◌, ◌≡◌, ◌≤◌, clean_fixed}
use Rattle.doc_tree.specs.declared.characters.Awaited.TheVariants as awaits
use Rattle.doc_tree.specs.declared.fault.TreeFault.TheVariants as faults
use Rattle.doc_tree.specs.declared.machine.Place.TheVariants as at
use Rattle.doc_tree.proofs.ByteGrammar.{content_tag, marked_stuck, not_space, quote_range, start_range, whole_plain}
use Rattle.doc_tree.proofs.TextTrees.LineFeeds.{allowed, BlocksHere, continues_on}
use Rattle.doc_tree.proofs.Viability.Specials.{plain_line, deep_blocks, other_blocks}
use Rattle.doc_tree.proofs.OneRefusal.{Places, same, before, behind, places}
use Rattle.doc_tree.proofs.TextTrees.Results.{split_at, none_refuses, long_refuses, text_refuses}
use Rattle.doc_tree.proofs.Utf8.{low_char, first_one, BeginsInside, first_or_inside, spells_on, spells_whole}
use Rattle.doc_tree.proofs.TextTrees.Wholes.{Held, held_of, document_marks}
use Rattle.doc_tree.proofs.Viability.DocumentTypes.{doctype_at, encoding_at, encoding_goes, doctype_long, IsShownAt, taken_plain, refused_plain}
use Rattle.doc_tree.proofs.Viability.Specials.{doctype_blocked}
use Rattle.doc_tree.proofs.Viability.Prefixes.{deep, text_finishes, whole_within}
use Rattle.doc_tree.proofs.Viability.CommonEnds.{fed_on}

named_allowed : IsDepthAllowed any_encoding
named_allowed = omega arith

-- A document is a whole at some terms.
abbrev pub as_deep : Document → TreeTerms
as_deep d = record { depth = 32 + nodes_depth (body_nodes d.body); aim = any }

pub as_deep_allowed : (d : Document) → IsDepthAllowed (as_deep d)
as_deep_allowed d = omega arith

pub text_whole : (bytes : List ℕ) (i : IsText bytes) → Whole (as_deep i.document) (normal_lines bytes) (document_marks i.document)
text_whole bytes i = whole_within (32 + nodes_depth (body_nodes i.document.body)) bytes i (omega arith)

-- what completes the bytes makes them viable
shallow_of : (seen rest : List ℕ) (says : List Mark) → Whole any_encoding (normal_lines (seen ++ rest)) says → IsXmlText (seen ++ rest) → IsShallowlyViable seen
shallow_of seen rest says w t =
    let h : Held any_encoding (normal_lines (seen ++ rest)) says = held_of any_encoding (normal_lines (seen ++ rest)) says (λ i. i) w in
    let deep = h.deep in
    record { rest = rest; whole = record { characters = t; document = h.document; text = h.same }; shallow = omega arith }

module _ (s : MachineState) (returned : Bool) (seen : List ℕ) (c : Continues s returned seen) where
  -- what goes on with the byte completes the state
  viable_finishes : (b : ℕ) (v : IsViable (seen ++ (b ∷ []))) → Finishes s returned (as_deep v.whole.document) (b ∷ v.rest) (document_marks v.whole.document)
  viable_finishes b v = text_finishes (32 + nodes_depth (body_nodes v.whole.document.body)) (omega arith) s returned seen b v.rest v.whole (omega arith) c

  blocked_none : (b : ℕ) → Blocks s returned b → IsViable (seen ++ (b ∷ [])) → ⊥
  blocked_none b n v = let d : Document = v.whole.document in n (as_deep d) (as_deep_allowed d) v.rest (document_marks d) (viable_finishes b v)

  doctype_none : (b : ℕ) → IsDoctype s b → IsViable (seen ++ (b ∷ [])) → ⊥
  doctype_none b o v = let d : Document = v.whole.document in doctype_blocked s returned b o (record { depth = 32 + nodes_depth (body_nodes d.body); aim = any }) (λ i. i) v.rest (document_marks d) (viable_finishes b v)

  meets_shallow : (w : Awaited) → Spells w seen → MeetsBoth w s returned → IsShallowlyViable seen
  meets_shallow w p m = shallow_of seen m.rest m.says ((c.same any_encoding named_allowed m.rest m.says).1 m.document) ((p m.rest).1 m.character)

shallow_viable : (seen : List ℕ) → IsShallowlyViable seen → IsViable seen
shallow_viable seen v = record { rest = v.rest; whole = v.whole }

-- what holds of the rank of each refusal that a byte decides, where it isn't one too many
decided : (limit : ℕ) (seen : List ℕ) (b : ℕ) → length seen < limit → (P : ℕ → Type 0) → (IsDeepAt seen b → P 1) → (IsDoctypeAt seen b → P 2) → (IsEncodingAt seen b → P 3) → (IsMalformedAt seen b → P 4) → (other : TreeFault) → Decides limit seen b other → P (rank other)
decided limit seen b short P d t n m faults.Memory h = absurd h
decided limit seen b short P d t n m faults.Long h = absurd (omega arith)
decided limit seen b short P d t n m (faults.Deep at) h = d h.0
decided limit seen b short P d t n m (faults.Doctype at) h = t h.0
decided limit seen b short P d t n m faults.Encoding h = n h
decided limit seen b short P d t n m (faults.Malformed at) h = m h.0

-- the byte that is refused is the last
refused_last : (limit : ℕ) (seen : List ℕ) (b : ℕ) (fault : TreeFault) → IsClean limit seen → Decides limit seen b fault → ((other : TreeFault) → Decides limit seen b other → rank fault ≤ rank other) → IsRefusedIn limit (seen ++ (b ∷ [])) fault
refused_last limit seen b fault c d l = record { seen = seen; byte = b; more = []; text = refl; clean = c; decides = d; least = l }

-- bytes that come behind a refusal change nothing
pub refused_more : (limit : ℕ) (bytes more : List ℕ) (fault : TreeFault) → IsRefusedIn limit bytes fault → IsRefusedIn limit (bytes ++ more) fault
refused_more limit bytes more fault r = record {
  seen = r.seen;
  byte = r.byte;
  more = r.more ++ more;
  text = ap (λ z. z ++ more) r.text ∙ append_assoc r.seen (r.byte ∷ r.more) more;
  clean = r.clean;
  decides = r.decides;
  least = r.least;
}

pub refused_on : (limit : ℕ) (bytes more : List ℕ) (fault : TreeFault) → Refused limit bytes fault → Refused limit (bytes ++ more) fault
refused_on limit bytes more fault (inl e) = inl e
refused_on limit bytes more fault (inr r) = inr (refused_more limit bytes more fault r.0, (λ rest. subst (NoneWithin limit) (sym (append_assoc bytes more rest)) (r.1 (more ++ rest))))

-- a byte that decides nothing leaves the bytes clean
last_longer : (bytes seen k more : List ℕ) (b byte : ℕ) → bytes ++ (b ∷ []) ≡ seen ++ (byte ∷ more) → seen ≡ bytes ++ (b ∷ k) → ⊥
last_longer bytes seen k more b byte e f =
    let p = ap length e in
    let q = ap length f in
    omega (arith, p, q, length-append bytes (b ∷ []), length-append seen (byte ∷ more), length-append bytes (b ∷ k))

last_cases : (P : List ℕ → ℕ → Type 0) (bytes : List ℕ) (b : ℕ) (seen : List ℕ) (byte : ℕ) (more : List ℕ) → bytes ++ (b ∷ []) ≡ seen ++ (byte ∷ more) → ((k : List ℕ) → bytes ≡ seen ++ (byte ∷ k) → P seen byte) → P bytes b → Places bytes b seen byte → P seen byte
last_cases P bytes b seen byte more e f p (same g h) = subst (λ z. P z byte) g (subst (P bytes) h p)
last_cases P bytes b seen byte more e f p (before k g) = absurd (last_longer bytes seen k more b byte e g)
last_cases P bytes b seen byte more e f p (behind k g) = f k g

clean_on : (limit : ℕ) (bytes : List ℕ) (b : ℕ) → IsClean limit bytes → ((fault : TreeFault) → Decides limit bytes b fault → ⊥) → IsClean limit (bytes ++ (b ∷ []))
clean_on limit bytes b c n seen byte more fault e d = last_cases (λ a z. Decides limit a z fault → ⊥) bytes b seen byte more e (λ k q. c seen byte k fault q) (n fault) (places bytes b [] seen byte more e) d

pub clean_start : (limit : ℕ) → IsClean limit []
clean_start limit [] byte more fault e d = cc
clean_start limit (x ∷ seen) byte more fault e d = cc

-- clean bytes aren't too many
pub clean_short : (limit : ℕ) (bytes : List ℕ) → IsClean limit bytes → length bytes ≤ limit
clean_short limit bytes c =
    elim (cases_lt limit (length bytes)) [
      | inl l ↦ absurd (c (take limit bytes) (get_or bytes limit 0) (drop (limit + 1) bytes) faults.Long (split_at bytes limit 0 l) (length-take-le limit bytes (omega arith)))
      | inr k ↦ k
    ]

-- the first byte of an element's name isn't the first of all
deep_some : (seen : List ℕ) (b : ℕ) → IsNameStart b → IsViable (seen ++ (b ∷ [])) → 1 ≤ length seen
deep_some [] b n v =
    let d : Document = v.whole.document in
    let l = (start_range b n).0 in
    let m = (start_range b n).1 in
    let w : Whole (as_deep d) (normal_lines (b ∷ v.rest)) (document_marks d) = text_whole (b ∷ v.rest) v.whole in
    let w2 : Whole (as_deep d) (b ∷ normal_lines v.rest) (document_marks d) = subst (λ z. Whole (as_deep d) z (document_marks d)) (plain_line false b v.rest (omega arith)) w in
    absurd (marked_stuck (as_deep d) b (normal_lines v.rest) (document_marks d) (λ s. not_space b (omega arith) s) (λ e. omega arith) ((whole_plain (as_deep d) b (normal_lines v.rest) (document_marks d) (λ e. omega arith)).0 w2))
deep_some (x ∷ seen) b n v = omega arith

-- normal line ends make the bytes no more
cond_short : (p q : Bool) (x y z : List ℕ) (n : ℕ) → length x ≤ n → length y ≤ n → length z ≤ n → length (cond p (cond q x y) z) ≤ n
cond_short true true x y z n a b c = a
cond_short true false x y z n a b c = b
cond_short false q x y z n a b c = c

lines_short : (bytes : List ℕ) → length (normal_lines bytes) ≤ length bytes
lines_short [] = omega arith
lines_short (c ∷ cs) = let h = lines_short cs in cond_short (c == 13) (begins_with_line_feed cs) (normal_lines cs) (10 ∷ normal_lines cs) (c ∷ normal_lines cs) (suc (length cs)) (omega arith) (omega arith) (omega arith)

quote_no_letter : (b : ℕ) → IsQuote b → b ≡ 68 → ⊥
quote_no_letter b q e = grind arith

name_low : (b : ℕ) (x run later : List ℕ) → 128 ≤ b → IsQName run → b ∷ x ≡ run ++ later → ⊥
name_low b x [] later l n e = n
name_low b x (c ∷ cs) later l n e = let h : b ≡ c = cc in let k = (start_range c n.0).1 in omega arith

-- Behind a `<` no character is cut.
less_inside : (s : MachineState) (returned : Bool) (rest : List ℕ) (says : List Mark) → s.place ≡ at.ContentLess → BeginsInside rest → Finishes s returned any_encoding rest says → ⊥
less_inside s returned [] says e i h = i
less_inside s returned (b ∷ rest) says e i h =
    let l : 128 ≤ b = i.0 in
    let r : RestsAt s.place s any_encoding (b ∷ normal_lines rest) h.later = subst (λ z. RestsAt s.place s any_encoding z h.later) (plain_line returned b rest (omega arith)) h.rest in
    let k : Insides 0 s.names any_encoding (60 ∷ b ∷ normal_lines rest) h.later = subst (λ z. RestsAt z s any_encoding (b ∷ normal_lines rest) h.later) e r in
    let g : TagFirst s.names any_encoding (b ∷ normal_lines rest) h.later = content_tag any_encoding s.names b (normal_lines rest) h.later (λ q. omega arith) (λ q. omega arith) (λ q. omega arith) k in
    (let r = g.rest in name_low b (normal_lines rest) r.run r.behind l r.is r.text)

-- behind the quote of an encoding that isn't read goes a document of a small depth: what ends a declaration, and a small root
small_text : IsXmlText (codes "?><a/>")
small_text = (clean_fixed (codes "?><a/>") refl).text

quote_text : (b : ℕ) → IsQuote b → IsXmlText (b ∷ codes "?><a/>")
quote_text b q = let h = quote_range b q in let l : b < 128 = omega arith in (first_one b (low_char b (omega arith) (omega arith)) l (codes "?><a/>")).1 small_text

quote_first : (w : Awaited) (b : ℕ) (rest : List ℕ) → IsQuote b → CharacterRest w (b ∷ rest) → w ≡ awaits.First
quote_first w b rest q h = let l = quote_range b q in elim (first_or_inside w (b ∷ rest) h) [ inl e ↦ e | inr i ↦ (let k : 128 ≤ b = i.0 in absurd (omega arith)) ]

other_shallow : (s : MachineState) (returned : Bool) (seen : List ℕ) → Continues s returned seen → (b : ℕ) → IsOther s b → IsEncodingAt seen b → (w : Awaited) → Spells w seen → IsViable (seen ++ (b ∷ [])) → IsShallowlyViable (seen ++ (b ∷ []))
other_shallow s returned seen c b o e w p v =
    let inside : CharacterRest w (b ∷ v.rest) = (p (b ∷ v.rest)).0 (subst IsXmlText (append_assoc seen (b ∷ []) v.rest) v.whole.characters) in
    let first : w ≡ awaits.First = quote_first w b v.rest e.quoted inside in
    let text : IsXmlText (seen ++ (b ∷ codes "?><a/>")) = (p (b ∷ codes "?><a/>")).1 (subst (λ z. CharacterRest z (b ∷ codes "?><a/>")) (sym first) (quote_text b e.quoted)) in
    let g = encoding_goes s returned seen b o c in
    let back : seen ++ (b ∷ codes "?><a/>") ≡ (seen ++ (b ∷ [])) ++ codes "?><a/>" = sym (append_assoc seen (b ∷ []) (codes "?><a/>")) in
    shallow_of (seen ++ (b ∷ [])) (codes "?><a/>") g.0 (subst (λ z. Whole any_encoding (normal_lines z) g.0) back g.1) (subst IsXmlText back text)

-- what decides a refusal with the byte, and what stands behind it is none
module _ (f : Feeding) (bytes : List ℕ) (b : ℕ) (t : IsTaken f bytes) where
  abbrev now : List ℕ
  now = bytes ++ (b ∷ [])

  blocks_begin : BlocksHere f.state f.returned b → NoneBegins f.limit now
  blocks_begin n = λ more. none_refuses f.limit (now ++ more) (λ says h. n more says ((t.continues.same bounds allowed (b ∷ more) says).0 (subst (λ z. Whole bounds (normal_lines z) says) (append_assoc bytes (b ∷ []) more) h)))

  pub long_refused : f.limit ≤ f.count → Refused f.limit now faults.Long
  long_refused l =
      let n = t.counted in
      let m = clean_short f.limit bytes t.clean in
      inr (
        refused_last f.limit bytes b faults.Long t.clean (omega arith) (λ other d. omega arith),
        λ more. long_refuses f.limit (now ++ more) (λ k. omega (arith, length-append bytes (b ∷ []), length-append now more)),
      )

  module _ (short : f.count < f.limit) where
    fits : length bytes < f.limit
    fits = let n = t.counted in omega arith

    deep_whole : IsDeep f.state b → f.awaited ≡ awaits.First
    deep_whole d = elim (first_or_inside f.awaited t.meets.rest t.meets.character) [ inl q ↦ q | inr i ↦ absurd (less_inside f.state f.returned t.meets.rest t.meets.says d.0 i t.meets.document) ]

    pub deep_refused : (place : ℕ) → place ≡ f.count - 1 → IsDeep f.state b → Refused f.limit now (faults.Deep place)
    deep_refused place e d =
        let text : IsXmlText bytes = spells_whole f.awaited bytes (deep_whole d) t.spells in
        let is_deep : IsDeepAt bytes b = deep f.state f.returned bytes b t.continues text d in
        let n = t.counted in
        let some = deep_some bytes b d.2 is_deep.viable in
        inr (
          refused_last f.limit bytes b (faults.Deep place) t.clean (is_deep, omega arith) (decided f.limit bytes b fits (λ n. 1 ≤ n) (λ h. omega arith) (λ h. omega arith) (λ h. omega arith) (λ h. omega arith)),
          blocks_begin (deep_blocks f.state f.returned b d),
        )

    pub doctype_refused : (place : ℕ) → place ≡ f.count - 2 → IsDoctype f.state b → Refused f.limit now (faults.Doctype place)
    doctype_refused place e d =
        let type : IsDoctypeAt bytes b = doctype_at f.state f.returned bytes b d t.continues in
        let n = t.counted in
        let some = doctype_long bytes b type in
        let less = lines_short bytes in
        let none : IsDeepAt bytes b → ⊥ = λ h. doctype_none f.state f.returned bytes t.continues b d h.viable in
        inr (
          refused_last f.limit bytes b (faults.Doctype place) t.clean (type, omega arith) (decided f.limit bytes b fits (λ n. 2 ≤ n) (λ h. absurd (none h)) (λ h. omega arith) (λ h. omega arith) (λ h. omega arith)),
          blocks_begin (doctype_blocked f.state f.returned b d bounds (λ i. i)),
        )

    pub encoding_refused : IsOther f.state b → Refused f.limit now faults.Encoding
    encoding_refused o =
        let encoding : IsEncodingAt bytes b = encoding_at f.state f.returned bytes b o t.continues in
        let none : IsDeepAt bytes b → ⊥ = λ h. h.deep (other_shallow f.state f.returned bytes t.continues b o encoding f.awaited t.spells h.viable) in
        inr (
          refused_last f.limit bytes b faults.Encoding t.clean encoding (decided f.limit bytes b fits (λ n. 3 ≤ n) (λ h. absurd (none h)) (λ h. absurd (quote_no_letter b encoding.quoted h.letter)) (λ h. omega arith) (λ h. omega arith)),
          blocks_begin (other_blocks f.state f.returned b o t.continues.good),
        )

    -- where no document goes on with the byte
    malformed : (IsViable now → ⊥) → (IsShownAt bytes b → ⊥) → NoneBegins f.limit now → Refused f.limit now (faults.Malformed f.count)
    malformed none plain never =
        let n = t.counted in
        let shallow : IsShallowlyViable bytes = meets_shallow f.state f.returned bytes t.continues f.awaited t.spells t.meets in
        let bad : IsMalformedAt bytes b = record { before = shallow_viable bytes shallow; none = none } in
        inr (refused_last f.limit bytes b (faults.Malformed f.count) t.clean (bad, omega arith) (decided f.limit bytes b fits (λ n. 4 ≤ n) (λ h. absurd (none h.viable)) (λ h. absurd (plain (inl h))) (λ h. absurd (plain (inr h))) (λ h. omega arith)), never)

    pub blocked_refused : Blocks f.state f.returned b → Refused f.limit now (faults.Malformed f.count)
    blocked_refused n = malformed (blocked_none f.state f.returned bytes t.continues b n) (refused_plain f.state f.returned bytes b t.continues n) (blocks_begin (λ rest says h. n bounds allowed rest says h))

    pub character_refused : (s : MachineState) (returns : Bool) → PassesByte f.state f.returned b s returns → CharacterStuck f.awaited b → Refused f.limit now (faults.Malformed f.count)
    character_refused s returns p n =
        let never : (more : List ℕ) → IsXmlText (now ++ more) → ⊥ = λ more i. n more ((t.spells (b ∷ more)).0 (subst IsXmlText (append_assoc bytes (b ∷ []) more) i)) in
        malformed (λ v. never v.rest v.whole.characters) (taken_plain s returns bytes b (continues_on f.state f.returned bytes b s returns t.continues p)) (λ more. text_refuses f.limit (now ++ more) (never more))

    pub taken : (new : Feeding) → PassesByte f.state f.returned b new.state new.returned → CharacterFollows f.awaited b new.awaited → new.count ≡ f.count + 1 → new.limit ≡ f.limit → IsTaken new now
    taken new p c count limit =
        let on : Continues new.state new.returned now = continues_on f.state f.returned bytes b new.state new.returned t.continues p in
        let spells : Spells new.awaited now = spells_on f.awaited new.awaited bytes b t.spells c in
        let meets : MeetsBoth new.awaited new.state new.returned = fed_on f.state f.returned f.awaited bytes b new.state new.returned new.awaited t.continues t.spells t.meets p c in
        let shallow : IsShallowlyViable now = meets_shallow new.state new.returned now on new.awaited spells meets in
        let plain : IsShownAt bytes b → ⊥ = taken_plain new.state new.returned bytes b on in
        let n = t.counted in
        record {
          continues = on;
          spells = spells;
          meets = meets;
          counted = omega (arith, length-append bytes (b ∷ []));
          clean = subst (λ z. IsClean z now) (sym limit) (clean_on f.limit bytes b t.clean (decided f.limit bytes b fits (λ _. ⊥) (λ h. h.deep shallow) (λ h. plain (inl h)) (λ h. plain (inr h)) (λ h. h.none (shallow_viable now shallow))));
        }
