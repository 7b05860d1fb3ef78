-- Chains of entries that have one parent.
use Rattle.std.proofs.Common.{◌≡◌, ℕ, ◌+◌, ◌<◌, ◌≤◌, ◌⊎◌, inl, inr, List, [], ◌∷◌, ◌++◌, length, set, get_or, refl, sym, ap, subst, ◌∙◌, arith}
use Rattle.std.proofs.lemmas.List.{get_or-set_same, get_or-set_other, length-set, get_or_append_left, length-append}
use Rattle.std.proofs.lemmas.Bool.{cases_eq, cases_lt}
use Rattle.wire_names.specs.Entry.{Entry}
use Rattle.wire_names.specs.Chains.{IsNewest, AreChained, parent_at}

-- the parent of an entry stays when one is entered behind
parent_stays : (xs : List Entry) (x : Entry) (i : ℕ) → i < length xs → parent_at (xs ++ x ∷ []) i ≡ parent_at xs i
parent_stays xs x i h = ap (λ (e : Entry). e.parent) (get_or_append_left xs (x ∷ []) (record { key = 0; position = 0; parent = 0; octets = [] }) i h)

parent_last : (xs : List Entry) (x : Entry) → parent_at (xs ++ x ∷ []) (length xs) ≡ x.parent
parent_last [] x = refl
parent_last (y ∷ xs) x = parent_last xs x

-- among the first entries nothing changes
newest_stays : (xs : List Entry) (x : Entry) (parent count index : ℕ) → count ≤ length xs → IsNewest xs parent count index → IsNewest (xs ++ x ∷ []) parent count index
newest_stays xs x parent count index within n = record {
  within = n.within;
  is = λ h. parent_stays xs x index (omega arith) ∙ n.is h;
  others = λ i h e. n.others i h (sym (parent_stays xs x i (omega arith)) ∙ e);
}

-- of another parent the newest stays
newest_other : (xs : List Entry) (x : Entry) (parent index : ℕ) → length xs < 256 → (x.parent ≡ parent → ⊥) → IsNewest xs parent (length xs) index → IsNewest (xs ++ x ∷ []) parent (length xs + 1) index
newest_other xs x parent index few differs n = record {
  within = elim n.within [ inl low ↦ inl (omega arith) | inr gone ↦ inr gone ];
  is = λ h. elim n.within [ inl low ↦ parent_stays xs x index low ∙ n.is low | inr gone ↦ absurd (omega arith) ];
  others = λ i h e. elim (cases_lt i (length xs)) [
    | inl low ↦ (let o = n.others i low (sym (parent_stays xs x i low) ∙ e) in let a = o.0 in (omega arith, o.1))
    | inr high ↦ (let same : i ≡ length xs = omega arith in absurd (differs (sym (parent_last xs x) ∙ ap (parent_at (xs ++ x ∷ [])) (sym same) ∙ e)))
  ];
}

-- the one that was entered is the newest of its parent
newest_own : (xs : List Entry) (x : Entry) → IsNewest (xs ++ x ∷ []) x.parent (length xs + 1) (length xs)
newest_own xs x = record {
  within = inl (omega arith);
  is = λ h. parent_last xs x;
  others = λ i h e. (omega arith, omega arith);
}

-- no entry has the parent that is entered behind the next
newest_none : (xs : List Entry) (parent : ℕ) → ((i : ℕ) → i < length xs → (parent_at xs i ≤ length xs) ⊎ (257 ≤ parent_at xs i)) → length xs < 256 → parent ≡ length xs + 1 → IsNewest xs parent (length xs) 256
newest_none xs parent low few e = record {
  within = inr refl;
  is = λ h. absurd (omega arith);
  others = λ i h own. elim (low i h) [ inl a ↦ absurd (omega arith) | inr b ↦ absurd (omega arith) ];
}

-- what leads to the newest of each parent, also of the one behind the next
module _ (xs : List Entry) (x : Entry) (newest older : List ℕ) (chained : AreChained xs newest older) (few : length xs < 256) (wide : length newest ≡ 258) where
  abbrev pub cleared : List ℕ
  cleared = set newest (length xs + 1) 256

  head_cleared : (parent : ℕ) → (parent ≤ length xs + 1) ⊎ (parent ≡ 257) → IsNewest xs parent (length xs) (get_or cleared parent 0)
  head_cleared parent low = elim (cases_eq parent (length xs + 1)) [
    | inl same ↦ (let here : get_or cleared parent 0 ≡ 256 = ap (λ (n : ℕ). get_or cleared n 0) same ∙ get_or-set_same newest (length xs + 1) 256 0 (omega arith) in
        subst (IsNewest xs parent (length xs)) (sym here) (newest_none xs parent chained.low few same))
    | inr differs ↦ subst (IsNewest xs parent (length xs)) (sym (get_or-set_other newest (length xs + 1) parent 256 0 differs))
        (chained.heads parent (elim low [ inl a ↦ inl (omega arith) | inr b ↦ inr b ]))
  ]

  low_more : (x.parent ≤ length xs + 1) ⊎ (257 ≤ x.parent) → (i : ℕ) → i < length (xs ++ x ∷ []) → (parent_at (xs ++ x ∷ []) i ≤ length (xs ++ x ∷ [])) ⊎ (257 ≤ parent_at (xs ++ x ∷ []) i)
  low_more low i h =
      let len = length-append xs (x ∷ []) in
      elim (cases_lt i (length xs)) [
        | inl before ↦ (let e = parent_stays xs x i before in elim (chained.low i before) [ inl a ↦ inl (omega arith) | inr b ↦ inr (omega arith) ])
        | inr after ↦ (let same : i ≡ length xs = omega arith in
            let e : parent_at (xs ++ x ∷ []) i ≡ x.parent = ap (parent_at (xs ++ x ∷ [])) same ∙ parent_last xs x in
            elim low [ inl a ↦ inl (omega arith) | inr b ↦ inr (omega arith) ])
      ]

  -- an entry whose parent no entry spells is in no chain
  pub chained_alone : (parent : ℕ) → x.parent ≡ parent → 258 ≤ parent → AreChained (xs ++ x ∷ []) cleared older
  chained_alone parent own high =
      let len = length-append xs (x ∷ []) in
      let many : length (xs ++ x ∷ []) ≡ length xs + 1 = omega arith in
      record {
        few = omega arith;
        heads = λ p low. subst (λ (n : ℕ). IsNewest (xs ++ x ∷ []) p n (get_or cleared p 0)) (sym many)
            (elim low [
              | inl a ↦ newest_other xs x p (get_or cleared p 0) few (λ e. absurd (omega arith)) (head_cleared p (inl (omega arith)))
              | inr b ↦ newest_other xs x p (get_or cleared p 0) few (λ e. absurd (omega arith)) (head_cleared p (inr b))
            ]);
        olders = λ i h small. elim (cases_lt i (length xs)) [
          | inl before ↦ (let e = parent_stays xs x i before in
              subst (λ (p : ℕ). IsNewest (xs ++ x ∷ []) p i (get_or older i 0)) (sym e)
              (newest_stays xs x (parent_at xs i) i (get_or older i 0) (omega arith) (chained.olders i before (omega arith))))
          | inr after ↦ (let same : i ≡ length xs = omega arith in
              let e : parent_at (xs ++ x ∷ []) i ≡ x.parent = ap (parent_at (xs ++ x ∷ [])) same ∙ parent_last xs x in
              absurd (omega arith))
        ];
        low = low_more (inr (omega arith));
      }

  -- one that has a parent comes in front of those that have the same
  pub chained_more : (parent : ℕ) → x.parent ≡ parent → (parent ≤ length xs + 1) ⊎ (parent ≡ 257) → length older ≡ 256 → AreChained (xs ++ x ∷ []) (set cleared parent (length xs)) (set older (length xs) (get_or cleared parent 0))
  chained_more parent own low long =
      let len = length-append xs (x ∷ []) in
      let many : length (xs ++ x ∷ []) ≡ length xs + 1 = omega arith in
      let wide_still : length cleared ≡ 258 = length-set newest (length xs + 1) 256 ∙ wide in
      let next : List ℕ = set older (length xs) (get_or cleared parent 0) in
      let small : parent < 258 = elim low [ inl a ↦ omega arith | inr b ↦ omega arith ] in
      record {
        few = omega arith;
        heads = λ p where_p. subst (λ (n : ℕ). IsNewest (xs ++ x ∷ []) p n (get_or (set cleared parent (length xs)) p 0)) (sym many)
            (elim (cases_eq p parent) [
              | inl same ↦ (let here : get_or (set cleared parent (length xs)) p 0 ≡ length xs = ap (λ (n : ℕ). get_or (set cleared parent (length xs)) n 0) same ∙ get_or-set_same cleared parent (length xs) 0 (omega arith) in
                  subst (IsNewest (xs ++ x ∷ []) p (length xs + 1)) (sym here)
                  (subst (λ (n : ℕ). IsNewest (xs ++ x ∷ []) n (length xs + 1) (length xs)) (own ∙ sym same) (newest_own xs x)))
              | inr differs ↦ subst (IsNewest (xs ++ x ∷ []) p (length xs + 1)) (sym (get_or-set_other cleared parent p (length xs) 0 differs))
                  (newest_other xs x p (get_or cleared p 0) few (λ e. differs (sym e ∙ own))
                  (head_cleared p (elim where_p [ inl a ↦ inl (omega arith) | inr b ↦ inr b ])))
            ]);
        olders = λ i h has. elim (cases_lt i (length xs)) [
          | inl before ↦ (let e = parent_stays xs x i before in
              let apart : i ≡ length xs → ⊥ = λ s. absurd (omega arith) in
              subst (λ (p : ℕ). IsNewest (xs ++ x ∷ []) p i (get_or next i 0)) (sym e)
              (subst (IsNewest (xs ++ x ∷ []) (parent_at xs i) i) (sym (get_or-set_other older (length xs) i (get_or cleared parent 0) 0 apart))
              (newest_stays xs x (parent_at xs i) i (get_or older i 0) (omega arith) (chained.olders i before (omega arith)))))
          | inr after ↦ (let same : i ≡ length xs = omega arith in
              let e : parent_at (xs ++ x ∷ []) i ≡ parent = ap (parent_at (xs ++ x ∷ [])) same ∙ parent_last xs x ∙ own in
              let here : get_or next i 0 ≡ get_or cleared parent 0 = ap (λ (n : ℕ). get_or next n 0) same ∙ get_or-set_same older (length xs) (get_or cleared parent 0) 0 (omega arith) in
              subst (λ (p : ℕ). IsNewest (xs ++ x ∷ []) p i (get_or next i 0)) (sym e)
              (subst (IsNewest (xs ++ x ∷ []) parent i) (sym here)
              (subst (λ (n : ℕ). IsNewest (xs ++ x ∷ []) parent n (get_or cleared parent 0)) (sym same)
              (newest_stays xs x parent (length xs) (get_or cleared parent 0) (omega arith) (head_cleared parent low)))))
        ];
        low = low_more (elim low [ inl a ↦ inl (omega arith) | inr b ↦ inr (omega arith) ]);
      }
