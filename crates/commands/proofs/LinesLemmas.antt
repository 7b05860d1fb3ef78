-- Lemmas on lines, and on octets that are written.
use Rattle.std.proofs.Common.{◌≡◌, ℕ, suc, ◌-◌, ◌<◌, Bool, true, false, cond, eqb, ltb, List, [], ◌∷◌, ◌++◌, length, slice_index, take, drop, Option, Some, None, Result, Ok, Err, refl, sym, ap, ◌∙◌, arith, append_assoc, subst, IfSome, OnErr, append-nil}
use Rattle.std.specs.Io.BufRead.{take_through, drop_through, strip_last, first_piece}
use Rattle.std.specs.Io.KnownBytes.{Appends, Keeps}
use Rattle.std.proofs.lemmas.Bool.{lt-ltb}
use Rattle.std.proofs.lemmas.List.{take-append-drop}
use Rattle.commands.specs.Lines.{Begins, input_lines, onto_first}

-- the end is cut off a longer list as off its rest
pub strip_last-cons : (byte c x : ℕ) (xs : List ℕ) → strip_last byte (c ∷ x ∷ xs) ≡ c ∷ strip_last byte (x ∷ xs)
strip_last-cons byte c x xs =
    let e : suc (suc (length xs)) - 1 ≡ suc (length xs) = omega arith in
    let f : suc (length xs) - 1 ≡ length xs = omega arith in
    let g : ltb 0 (suc (suc (length xs))) ≡ true = lt-ltb _ _ (omega arith) in
    let h : ltb 0 (suc (length xs)) ≡ true = lt-ltb _ _ (omega arith) in
    rw (e, f, g, h) (at_end (eqb (slice_index (x ∷ xs) (length xs)) byte))
  where
    at_end : (b : Bool) → cond b (c ∷ take (length xs) (x ∷ xs)) (c ∷ x ∷ xs) ≡ c ∷ cond b (take (length xs) (x ∷ xs)) (x ∷ xs)
    at_end true = refl
    at_end false = refl

-- what a reader takes up to a line end isn't empty where something is left
pub take_through-some : (c : ℕ) (cs : List ℕ) → (x : ℕ) × (xs : List ℕ) × (take_through 10 (c ∷ cs) ≡ x ∷ xs)
take_through-some c cs = at_test (eqb c 10)
  where
    at_test : (b : Bool) → (x : ℕ) × (xs : List ℕ) × (cond b (c ∷ []) (c ∷ take_through 10 cs) ≡ x ∷ xs)
    at_test true = (c, [], refl)
    at_test false = (c, take_through 10 cs, refl)

-- the first line of an input is what stands before its first line end
pub input_lines-first : (c : ℕ) (cs : List ℕ) → input_lines (c ∷ cs) ≡ first_piece 10 (c ∷ cs) ∷ input_lines (drop_through 10 (c ∷ cs))
input_lines-first c [] = at_test (eqb c 10) refl
  where
    at_test : (b : Bool) → eqb c 10 ≡ b → cond b ([] ∷ []) ((c ∷ []) ∷ []) ≡ strip_last 10 (cond b (c ∷ []) (c ∷ [])) ∷ input_lines (cond b [] [])
    at_test true e = rw e refl
    at_test false e = rw e refl
input_lines-first c (d ∷ ds) = at_test (eqb c 10) refl (input_lines-first d ds) (take_through-some d ds)
  where
    at_test : (b : Bool) → eqb c 10 ≡ b → input_lines (d ∷ ds) ≡ first_piece 10 (d ∷ ds) ∷ input_lines (drop_through 10 (d ∷ ds)) → (x : ℕ) × (xs : List ℕ) × (take_through 10 (d ∷ ds) ≡ x ∷ xs)
        → cond b ([] ∷ input_lines (d ∷ ds)) (onto_first c (input_lines (d ∷ ds))) ≡ strip_last 10 (cond b (c ∷ []) (c ∷ take_through 10 (d ∷ ds))) ∷ input_lines (cond b (d ∷ ds) (drop_through 10 (d ∷ ds)))
    at_test true e first some = rw e refl
    at_test false e first some =
        ap (onto_first c) first ∙ ap (λ line. line ∷ input_lines (drop_through 10 (d ∷ ds))) (at_list (take_through 10 (d ∷ ds)) some.2)
      where
        at_list : (ts : List ℕ) → ts ≡ some.0 ∷ some.1 → c ∷ strip_last 10 ts ≡ strip_last 10 (c ∷ ts)
        at_list ts f = rw (f, strip_last-cons 10 c some.0 some.1) refl

-- bytes that grow twice grow by both in turn
pub Appends-twice : (before between after : Option (List ℕ)) (first second : List ℕ) → Appends before between first → Appends between after second → Appends before after (first ++ second)
Appends-twice None between after first second a b = tt
Appends-twice (Some xs) None after first second a b = absurd a
Appends-twice (Some xs) (Some ys) None first second a b = absurd b
Appends-twice (Some xs) (Some ys) (Some zs) first second a b = b ∙ ap (λ us. us ++ second) a ∙ append_assoc xs first second

-- a writer that keeps its bytes has grown by none
pub Appends-none : (before : Option (List ℕ)) → Appends before before []
Appends-none None = tt
Appends-none (Some xs) = sym (append-nil xs)

-- bytes that are kept have grown as before
pub Appends-kept : (before between after : Option (List ℕ)) (octets : List ℕ) → Appends before between octets → Keeps between after → Appends before after octets
Appends-kept None between after octets a k = tt
Appends-kept (Some xs) None after octets a k = absurd a
Appends-kept (Some xs) (Some ys) None octets a k = absurd k
Appends-kept (Some xs) (Some ys) (Some zs) octets a k = k ∙ a

-- of these octets all but a rest are written
pub record IsWritten (before after : Option (List ℕ)) (octets rest : List ℕ) : Type 0 where
  pub done : List ℕ
  pub grown : Appends before after done
  pub whole : done ++ rest ≡ octets

pub IsWritten-start : (before : Option (List ℕ)) (octets : List ℕ) → IsWritten before before octets octets
IsWritten-start before octets = record { done = []; grown = Appends-none before; whole = refl }

-- so many octets more
pub IsWritten-more : (before between after : Option (List ℕ)) (octets rest : List ℕ) (n : ℕ) → IsWritten before between octets rest → Appends between after (take n rest) → IsWritten before after octets (drop n rest)
IsWritten-more before between after octets rest n is more = record {
  done = is.done ++ take n rest;
  grown = Appends-twice before between after is.done (take n rest) is.grown more;
  whole = append_assoc is.done (take n rest) (drop n rest) ∙ ap (λ xs. is.done ++ xs) (take-append-drop n rest) ∙ is.whole;
}

-- none more
pub IsWritten-kept : (before between after : Option (List ℕ)) (octets rest : List ℕ) → IsWritten before between octets rest → Keeps between after → IsWritten before after octets rest
IsWritten-kept before between after octets rest is kept = record {
  done = is.done;
  grown = Appends-kept before between after is.done is.grown kept;
  whole = is.whole;
}

-- a beginning of the octets is written
pub Begins-written : (before after : Option (List ℕ)) (octets rest : List ℕ) → IsWritten before after octets rest → Begins before after octets
Begins-written before after octets rest is = record { done = is.done; rest = rest; grown = is.grown; whole = is.whole }

-- where no rest is left, all are written
pub Appends-written : (before after : Option (List ℕ)) (octets rest : List ℕ) → IsWritten before after octets rest → rest ≡ [] → Appends before after octets
Appends-written before after octets rest is none =
    let all : is.done ≡ octets = sym (append-nil is.done) ∙ ap (λ xs. is.done ++ xs) (sym none) ∙ is.whole in
    subst (λ out. Appends before after out) all is.grown

-- a fact for each value that an option may have
pub IfSome-each : (o : Option (List ℕ)) (P : List ℕ → Type 0) → ((xs : List ℕ) → o ≡ Some xs → P xs) → IfSome o P
IfSome-each None P each = tt
IfSome-each (Some xs) P each = each xs refl

-- a fact that stands at an error stands where there is one
pub OnErr-each : {T E : Type 0} (r : Result T E) (P : Type 0) → P → OnErr r P
OnErr-each (Ok x) P fact = tt
OnErr-each (Err e) P fact = fact

-- octets that are written whole are a beginning of themselves
pub Begins-whole : (before after : Option (List ℕ)) (octets : List ℕ) → Appends before after octets → Begins before after octets
Begins-whole before after octets written = record { done = octets; rest = []; grown = written; whole = append-nil octets }

-- what a read up to a line end does with a buffer that was cleared, where the reader tells its octets
pub record ReadsFirstLine (left after : Option (List ℕ)) (cleared line : List ℕ) : Type 0 where
  pub none : cleared ≡ []
  pub more : IfSome left (λ rest. line ≡ cleared ++ take_through 10 rest)
  pub taken : IfSome left (λ rest. after ≡ Some (drop_through 10 rest))
  pub some : 0 < length line
