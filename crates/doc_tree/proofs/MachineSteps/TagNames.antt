-- The names of a tag: their numbers, and their set.
use Rattle.doc_tree.proofs.Words.{AreNumbered, AreSameNames, BTreeSet, Bool, Equal, Greater, IsAmong, IsSorted, Less, List, Ordering, Updates, [], ap, arith, bytes_eq-Decides, cond, contains, false, get_or, get_or-map, inl, inr, insert_key, is_at, is_eq, is_eq-slice_cmp, length, length-append, length-map, list_any, map, match_ordering, number_from, refl, slice_cmp, subst, sym, take, take-append-le, take_all, take_more, true, ℕ, ◌++◌, ◌+◌, ◌<◌, ◌||◌, ◌∙◌, ◌∷◌, ◌≡◌, ◌≤◌, ◌⊎◌}
use Rattle.std.specs.Ordering.{nat_cmp}

pub among_first : (n name : List ℕ) (names : List (List ℕ)) → IsAmong n names → IsAmong n (names ++ (name ∷ []))
among_first n name [] h = absurd h
among_first n name (m ∷ names) (inl e) = inl e
among_first n name (m ∷ names) (inr h) = inr (among_first n name names h)

pub among_last : (n name : List ℕ) (names : List (List ℕ)) → n ≡ name → IsAmong n (names ++ (name ∷ []))
among_last n name [] e = inl e
among_last n name (m ∷ names) e = inr (among_last n name names e)

pub among_either : (n name : List ℕ) (names : List (List ℕ)) → IsAmong n (names ++ (name ∷ [])) → IsAmong n names ⊎ (n ≡ name)
among_either n name [] (inl e) = inr e
among_either n name [] (inr h) = absurd h
among_either n name (m ∷ names) (inl e) = inl (inl e)
among_either n name (m ∷ names) (inr h) = elim (among_either n name names h) [ inl a ↦ inl (inr a) | inr e ↦ inr e ]

same_more : (names others : List (List ℕ)) (name : List ℕ) → AreSameNames names others → AreSameNames (names ++ (name ∷ [])) (others ++ (name ∷ []))
same_more names others name h = λ n. (
  (λ a. elim (among_either n name names a) [ inl b ↦ among_first n name others ((h n).0 b) | inr e ↦ among_last n name others e ]),
  (λ a. elim (among_either n name others a) [ inl b ↦ among_first n name names ((h n).1 b) | inr e ↦ among_last n name names e ]),
)

or_true : (b : Bool) → (b || true) ≡ true
or_true true = refl
or_true false = refl

-- names by their bytes
module _ {K : Type 0} (bytes : K → List ℕ) where
  abbrev pub test : List ℕ → K → Bool
  test name k = is_eq (slice_cmp nat_cmp name (bytes k))

  abbrev pub order : K → K → Ordering
  order k l = slice_cmp nat_cmp (bytes k) (bytes l)

  found_by : (name : List ℕ) (k : K) (keys : List K) (here : Bool) → here ≡ test name k → (list_any (test name) keys ≡ true → IsAmong name (map bytes keys)) → here || list_any (test name) keys ≡ true → IsAmong name (map bytes (k ∷ keys))
  found_by name k keys true e more h = inl ((bytes_eq-Decides name (bytes k)).0 (sym (e ∙ is_eq-slice_cmp name (bytes k))))
  found_by name k keys false e more h = inr (more h)

  pub found : (name : List ℕ) (keys : List K) → list_any (test name) keys ≡ true → IsAmong name (map bytes keys)
  found name [] h = absurd (let clash : false ≡ true = h in cc)
  found name (k ∷ keys) h = found_by name k keys (test name k) refl (found name keys) h

  pub finds : (name : List ℕ) (keys : List K) → IsAmong name (map bytes keys) → list_any (test name) keys ≡ true
  finds name [] h = absurd h
  finds name (k ∷ keys) (inl e) = ap (λ z. z || list_any (test name) keys) (is_eq-slice_cmp name (bytes k) ∙ (bytes_eq-Decides name (bytes k)).1 e)
  finds name (k ∷ keys) (inr h) = ap (λ z. test name k || z) (finds name keys h) ∙ or_true (test name k)

  put_by : (key k : K) (keys : List K) (o : Ordering) → o ≡ order key k → AreSameNames (map bytes (insert_key order keys key)) (map bytes keys ++ (bytes key ∷ [])) → AreSameNames (map bytes (match_ordering o (key ∷ k ∷ keys) (k ∷ keys) (k ∷ insert_key order keys key))) (map bytes (k ∷ keys) ++ (bytes key ∷ []))
  put_by key k keys Less e more = λ n. (
    (λ h. elim h [ inl q ↦ among_last n (bytes key) (map bytes (k ∷ keys)) q | inr q ↦ among_first n (bytes key) (map bytes (k ∷ keys)) q ]),
    (λ h. elim (among_either n (bytes key) (map bytes (k ∷ keys)) h) [ inl q ↦ inr q | inr q ↦ inl q ]),
  )
  put_by key k keys Equal e more = λ n. (
    (λ h. among_first n (bytes key) (map bytes (k ∷ keys)) h),
    (λ h. elim (among_either n (bytes key) (map bytes (k ∷ keys)) h) [ inl q ↦ q | inr q ↦ inl (q ∙ ((bytes_eq-Decides (bytes key) (bytes k)).0 (sym (is_eq-slice_cmp (bytes key) (bytes k)) ∙ ap is_eq (sym e)))) ]),
  )
  put_by key k keys Greater e more = λ n. (
    (λ h. elim h [ inl q ↦ inl q | inr q ↦ inr ((more n).0 q) ]),
    (λ h. elim h [ inl q ↦ inl q | inr q ↦ inr ((more n).1 q) ]),
  )

  pub put : (keys : List K) (key : K) → AreSameNames (map bytes (insert_key order keys key)) (map bytes keys ++ (bytes key ∷ []))
  put [] key = λ n. (λ h. h, λ h. h)
  put (k ∷ keys) key = put_by key k keys (order key k) refl (put keys key)

  -- one name more in order
  pub sorted_next : (names : List K) (i : ℕ) (keys : List K) (key k : K) → i < length names → k ≡ get_or names i k → bytes key ≡ bytes k → IsSorted (map bytes names) i (map bytes keys) → IsSorted (map bytes names) (i + 1) (map bytes (insert_key order keys key))
  sorted_next names i keys key k l e f h =
      let m : i < length (map bytes names) = subst (λ z. i < z) (sym (length-map names bytes)) l in
      let g : get_or (map bytes names) i (bytes k) ≡ bytes key = get_or-map bytes names i k ∙ ap bytes (sym e) ∙ sym f in
      record {
        within = omega arith;
        same = subst (AreSameNames (map bytes (insert_key order keys key))) (sym (take_more (map bytes names) i (bytes k) m ∙ ap (λ z. take i (map bytes names) ++ (z ∷ [])) g)) (λ n.
            let a = put keys key n in let b = same_more (map bytes keys) (take i (map bytes names)) (bytes key) h.same n in
            (λ q. b.0 (a.0 q), λ q. a.1 (b.1 q)));
      }

  -- all are in order
  pub sorted_all : (names : List K) (settled : ℕ) (keys : List K) → IsSorted (map bytes names) settled (map bytes keys) → length names ≤ settled → AreSameNames (map bytes keys) (map bytes names)
  sorted_all names settled keys h l = subst (AreSameNames (map bytes keys)) (take_all settled (map bytes names) (subst (λ z. z ≤ settled) (sym (length-map names bytes)) l)) h.same

-- the names' numbers, with one more
pub numbered_more : (names : List (List ℕ)) (old new : BTreeSet ℕ) (k : ℕ) → Updates nat_cmp old new k true → AreNumbered names old → AreNumbered names new
numbered_more names old new k u h = λ name a. u.0 (number_from 0 name) ∙ either (is_at (nat_cmp k) (number_from 0 name)) (contains nat_cmp old (number_from 0 name)) (h name a)
  where
    either : (here there : Bool) → there ≡ true → cond here true there ≡ true
    either true there e = refl
    either false there e = e

-- a name that comes is not yet in order
pub sorted_push : (names : List (List ℕ)) (name : List ℕ) (settled : ℕ) (sorted : List (List ℕ)) → IsSorted names settled sorted → IsSorted (names ++ (name ∷ [])) settled sorted
sorted_push names name settled sorted h = record {
  within = omega (arith, h.within, length-append names (name ∷ []));
  same = subst (AreSameNames sorted) (sym (take-append-le settled names (name ∷ []) h.within)) h.same;
}

pub numbered_push : (names : List (List ℕ)) (name : List ℕ) (numbers : BTreeSet ℕ) → AreNumbered names numbers → contains nat_cmp numbers (number_from 0 name) ≡ true → AreNumbered (names ++ (name ∷ [])) numbers
numbered_push names name numbers h e = λ n a. elim (among_either n name names a) [ inl b ↦ h n b | inr q ↦ ap (λ z. contains nat_cmp numbers (number_from 0 z)) q ∙ e ]
