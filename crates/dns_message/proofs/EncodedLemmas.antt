-- What is written one behind another.
use Rattle.std.proofs.Common.{◌≡◌, ℕ, ◌+◌, ◌<◌, ◌≤◌, List, [], ◌∷◌, ◌++◌, length, take, drop, get_or, Option, Some, None, IfSome, refl, sym, ap, subst, ◌∙◌, arith, length-append, append_assoc}
use Rattle.std.proofs.Math.Path.{fun_ext}
use Rattle.std.proofs.lemmas.List.{append-nil, at_drop_more, at_drop_all, take-append-drop, take-take}
use Rattle.wire_names.specs.Table.{Table, IsTable, table_of}
use Rattle.wire_names.specs.Entry.{Entry}
use Rattle.wire_names.specs.Written.{IsOverwritten, WritesOctets}
use Rattle.wire_names.proofs.OverwrittenLemmas.{length_stays, octets_are, front_stays, IsOverwritten-then}
use Rattle.wire_names.proofs.TabledLemmas.{IsTableOf, IsTable-longer, table_goes_on}
use Rattle.dns_message.specs.Encoding.{Encoding, these, before, each}
use Rattle.dns_message.specs.Encoded.{IsEncoded, IsStopped, WritesParts, WritesEncoding}
use Rattle.dns_message.proofs.TrueLemmas.{IsEncoded-positions, lawful, table_is}

-- so many octets don't fit, nor do more
pub IsStopped-more : (a b : List ℕ) (at size whole : ℕ) → size ≤ whole → IsStopped a b at size → IsStopped a b at whole
IsStopped-more a b at size whole more q = let short = q.short in record { short = omega arith; front = q.front }

-- octets that don't fit behind others stop the whole, and what is in front of these stays
pub IsStopped-behind : (a b c : List ℕ) (at n : ℕ) (x : List ℕ) (size whole : ℕ) → whole ≡ length x + size → IsOverwritten a b at x n → IsStopped b c n size → IsStopped a c at whole
IsStopped-behind a b c at n x size whole both p q =
    let next_is = p.next_is in
    let same = length_stays a b at x n p in
    let short = q.short in
    let more : at ≤ n = omega arith in
    record {
      short = omega arith;
      front = sym (take-take at n c more) ∙ ap (take at) q.front ∙ take-take at n b more ∙ front_stays a b at x n p at (omega arith);
    }

-- octets that don't fit
pub IsStopped-octets : (a b : List ℕ) (at : ℕ) (x : List ℕ) → WritesOctets a b at x None → IsStopped a b at (length x)
IsStopped-octets a b at x p = record { short = p.0; front = ap (take at) p.1 }

-- octets, and parts behind them
pub WritesParts-then : (a b c : List ℕ) (at n : ℕ) (x y : List ℕ) (r : Option ℕ) → WritesOctets a b at x (Some n) → WritesParts b c n y r → WritesParts a c at (x ++ y) r
WritesParts-then a b c at n x y None p q = IsStopped-behind a b c at n x (length y) (length (x ++ y)) (length-append x y) p q
WritesParts-then a b c at n x y (Some m) p q = IsOverwritten-then a b c at n m x y p q

-- octets alone
pub WritesParts-octets : (a b : List ℕ) (at : ℕ) (x : List ℕ) (r : Option ℕ) → WritesOctets a b at x r → WritesParts a b at x r
WritesParts-octets a b at x None p = IsStopped-octets a b at x p
WritesParts-octets a b at x (Some n) p = p

-- octets that don't fit don't fit with more behind them
pub WritesParts-stop : (a b : List ℕ) (at : ℕ) (x y : List ℕ) → WritesOctets a b at x None → WritesParts a b at (x ++ y) None
WritesParts-stop a b at x y p = IsStopped-more a b at (length x) (length (x ++ y)) (omega (arith, length-append x y)) (IsStopped-octets a b at x p)

-- the table of a buffer's names, as far as a position
abbrev pub table_at : List ℕ → ℕ → List Entry → Table
table_at out at positions = table_of (take at out) positions

-- positions of names stay what they are while octets are put behind them
pub stays : (a b : List ℕ) (at n : ℕ) (positions : List Entry) (octets : List ℕ) → IsTable (take at a) positions → IsOverwritten a b at octets n → IsTableOf (take n b) positions (table_at a at positions)
stays a b at n positions octets table p =
    subst (λ (x : List ℕ). IsTableOf x positions (table_at a at positions)) (sym (octets_are a b at octets n p))
    (record { all = IsTable-longer (take at a) octets positions table; is = table_goes_on (take at a) octets positions table })

-- octets as they are
pub WritesEncoding-these : (octets a b : List ℕ) (at : ℕ) (positions : List Entry) (r : Option ℕ) → IsTable (take at a) positions → WritesParts a b at octets r → WritesEncoding (these octets) a b at positions positions r
unfolding these
WritesEncoding-these octets a b at positions None table p = p
WritesEncoding-these octets a b at positions (Some n) table p =
    let same = stays a b at n positions octets table p in
    IsEncoded-positions (octets, table_at a at positions) a b at positions n p same.all same.is

-- what is written of an encoding is its octets
pub WritesParts-encoding : (p : Encoding) (a b : List ℕ) (at : ℕ) (s t : List Entry) (r : Option ℕ) → WritesEncoding p a b at s t r → WritesParts a b at (p (table_at a at s) at).0 r
WritesParts-encoding p a b at s t None w = w
WritesParts-encoding p a b at s t (Some n) w = w.octets

-- what the writer of names has done
pub WritesEncoding-name : (p : Encoding) (a b : List ℕ) (at : ℕ) (positions after : List Entry) (r : Option ℕ) → WritesOctets a b at (p (table_at a at positions) at).0 r → IfSome r (λ next. IsTable (take next b) after) → IfSome r (λ next. table_of (take next b) after ≡ (p (table_at a at positions) at).1) → WritesEncoding p a b at positions after r
WritesEncoding-name p a b at positions after None put all table = IsStopped-octets a b at _ put
WritesEncoding-name p a b at positions after (Some n) put all table = IsEncoded-positions _ a b at after n put all table

-- what is written behind something else is written for the table and the position behind that
there : (p q : Encoding) (a b : List ℕ) (at n : ℕ) (s t : List Entry) → IsEncoded (p (table_at a at s) at) a b at t n → q (table_at b n t) n ≡ q (p (table_at a at s) at).1 (at + length (p (table_at a at s) at).0)
there p q a b at n s t w = ap (λ (x : Table). q x n) (table_is w) ∙ ap (q (p (table_at a at s) at).1) w.octets.next_is

-- one thing, and another behind it
pub WritesEncoding-then : (p q : Encoding) (a b c : List ℕ) (at n : ℕ) (s t u : List Entry) (r : Option ℕ) → WritesEncoding p a b at s t (Some n) → WritesEncoding q b c n t u r → WritesEncoding (before p q) a c at s u r
unfolding before
WritesEncoding-then p q a b c at n s t u None w v =
    let short = subst (λ (x : List ℕ × Table). IsStopped b c n (length x.0)) (there p q a b at n s t w) v in
    IsStopped-behind a b c at n _ _ _ (length-append (p (table_at a at s) at).0 (q (p (table_at a at s) at).1 (at + length (p (table_at a at s) at).0)).0) w.octets short
WritesEncoding-then p q a b c at n s t u (Some m) w v =
    let last = subst (λ (x : List ℕ × Table). IsEncoded x b c n u m) (there p q a b at n s t w) v in
    record { octets = IsOverwritten-then a b c at n m _ _ w.octets last.octets; positions_are = last.positions_are; true_of = last.true_of }

-- what doesn't fit doesn't fit with more behind it
pub WritesEncoding-stop : (p q : Encoding) (a b : List ℕ) (at : ℕ) (s t u : List Entry) → WritesEncoding p a b at s t None → WritesEncoding (before p q) a b at s u None
unfolding before
WritesEncoding-stop p q a b at s t u stopped =
    let both = length-append (p (table_at a at s) at).0 (q (p (table_at a at s) at).1 (at + length (p (table_at a at s) at).0)).0 in
    IsStopped-more a b at _ _ (omega arith) stopped

-- one thing, and octets behind it
pub WritesEncoding-octets : (p : Encoding) (octets a b c : List ℕ) (at n : ℕ) (s t : List Entry) (r : Option ℕ) → WritesEncoding p a b at s t (Some n) → WritesParts b c n octets r → WritesEncoding (before p (these octets)) a c at s t r
WritesEncoding-octets p octets a b c at n s t r w v = WritesEncoding-then p (these octets) a b c at n s t t r w (WritesEncoding-these octets b c n t r (lawful w) v)

-- octets, and something behind them
pub WritesEncoding-behind : (octets : List ℕ) (q : Encoding) (a b c : List ℕ) (at n : ℕ) (s u : List Entry) (r : Option ℕ) → IsTable (take at a) s → IsOverwritten a b at octets n → WritesEncoding q b c n s u r → WritesEncoding (before (these octets) q) a c at s u r
WritesEncoding-behind octets q a b c at n s u r table p v = WritesEncoding-then (these octets) q a b c at n s s u r (WritesEncoding-these octets a b at s (Some n) table p) v

-- nothing is written anywhere
pub WritesEncoding-nothing : (a : List ℕ) (at : ℕ) (positions : List Entry) → at ≤ length a → IsTable (take at a) positions → WritesEncoding (these []) a a at positions positions (Some at)
WritesEncoding-nothing a at positions within table =
    let whole : (take at a ++ []) ++ drop at a ≡ a = ap (λ (t : List ℕ). t ++ drop at a) (append-nil (take at a)) ∙ take-append-drop at a in
    WritesEncoding-these [] a a at positions (Some at) table (record { next_is = omega arith; within = within; new_is = sym whole })

-- one thing alone
pub each-one : {A : Type 0} (put : A → Encoding) (x : A) → each put (x ∷ []) ≡ put x
unfolding each before these
each-one put x = fun_ext (λ (table : Table). fun_ext (λ (at : ℕ). ap (λ (octets : List ℕ). (octets, (put x table at).1)) (append-nil (put x table at).0)))

-- behind nothing
pub before-nothing : (p : Encoding) → before (these []) p ≡ p
unfolding before these
before-nothing p = fun_ext (λ (table : Table). fun_ext (λ (at : ℕ).
    let place : at + 0 ≡ at = omega arith in
    ap (λ (n : ℕ). ((p table n).0, (p table n).1)) place))

-- three things, one behind another
pub before-assoc : (p q r : Encoding) → before (before p q) r ≡ before p (before q r)
unfolding before
before-assoc p q r = fun_ext (λ (table : Table). fun_ext (λ (at : ℕ).
    let one = p table at in
    let two = q one.1 (at + length one.0) in
    let place : at + length (one.0 ++ two.0) ≡ at + length one.0 + length two.0 = omega (arith, length-append one.0 two.0) in
    ap (λ (n : ℕ). ((one.0 ++ two.0) ++ (r two.1 n).0, (r two.1 n).1)) place
    ∙ ap (λ (octets : List ℕ). (octets, (r two.1 (at + length one.0 + length two.0)).1)) (append_assoc one.0 two.0 (r two.1 (at + length one.0 + length two.0)).0)))

-- the elements of two lists
pub each-append : {A : Type 0} (put : A → Encoding) (xs ys : List A) → each put (xs ++ ys) ≡ before (each put xs) (each put ys)
unfolding each
each-append put [] ys = sym (before-nothing (each put ys))
each-append put (x ∷ xs) ys = ap (before (put x)) (each-append put xs ys) ∙ sym (before-assoc (put x) (each put xs) (each put ys))

-- a loop that writes a list's elements is at an index: where the rest of them is written, the whole is
pub record Completes {A : Type 0} (put : A → Encoding) (xs : List A) (i : ℕ) (was : List ℕ) (first : ℕ) (own : List Entry) (out : List ℕ) (at : ℕ) (positions : List Entry) : Type 0 where
  pub within : at ≤ length out
  pub room : length out ≡ length was
  pub lawful : IsTable (take at out) positions
  pub rest : (new : List ℕ) (after : List Entry) (r : Option ℕ) → WritesEncoding (each put (drop i xs)) out new at positions after r → WritesEncoding (each put xs) was new first own after r

-- at its start
pub Completes-first : {A : Type 0} (put : A → Encoding) (xs : List A) (was : List ℕ) (first : ℕ) (own : List Entry) → first ≤ length was → IsTable (take first was) own → Completes put xs 0 was first own was first own
Completes-first put xs was first own within lawful = record { within = within; room = refl; lawful = lawful; rest = λ new after r h. h }

-- the element at an index and the rest are all from there on
each_at : {A : Type 0} (put : A → Encoding) (xs : List A) (i : ℕ) (x : A) → (i < length xs) × (x ≡ get_or xs i x) → before (put x) (each put (drop (i + 1) xs)) ≡ each put (drop i xs)
unfolding each
each_at put xs i x h = ap (λ y. before (put y) (each put (drop (i + 1) xs))) h.1 ∙ sym (at_drop_more (each put) xs i x h.0)

-- the element at the index was written
pub Completes-more : {A : Type 0} (put : A → Encoding) (xs : List A) (i : ℕ) (x : A) (was out then : List ℕ) (first at next : ℕ) (own s t : List Entry) → (i < length xs) × (x ≡ get_or xs i x) → Completes put xs i was first own out at s → WritesEncoding (put x) out then at s t (Some next) → Completes put xs (i + 1) was first own then next t
Completes-more put xs i x was out then first at next own s t h c w = record {
  within = omega (arith, w.octets.within, length_stays out then at _ next w.octets);
  room = length_stays out then at _ next w.octets ∙ c.room;
  lawful = lawful w;
  rest = λ new after r v. c.rest new after r (subst (λ p. WritesEncoding p out new at s after r) (each_at put xs i x h) (WritesEncoding-then (put x) (each put (drop (i + 1) xs)) out then new at next s t after r w v));
}

-- the element at the index doesn't fit, so the whole doesn't
pub Completes-stop : {A : Type 0} (put : A → Encoding) (xs : List A) (i : ℕ) (x : A) (was out then : List ℕ) (first at : ℕ) (own s t : List Entry) (all : Encoding) (r : Option ℕ) → (i < length xs) × (x ≡ get_or xs i x) → all ≡ each put xs → r ≡ None → Completes put xs i was first own out at s → WritesEncoding (put x) out then at s t None → WritesEncoding all was then first own t r
Completes-stop put xs i x was out then first at own s t all r h e n c short =
    let stopped = c.rest then t None (subst (λ p. WritesEncoding p out then at s t None) (each_at put xs i x h) (WritesEncoding-stop (put x) (each put (drop (i + 1) xs)) out then at s t t short)) in
    rw (e, n) stopped

-- all elements were written, so the whole was
pub Completes-end : {A : Type 0} (put : A → Encoding) (xs : List A) (i : ℕ) (was out : List ℕ) (first at : ℕ) (own s : List Entry) (all : Encoding) → length xs ≤ i → all ≡ each put xs → Completes put xs i was first own out at s → WritesEncoding all was out first own s (Some at)
unfolding each
Completes-end put xs i was out first at own s all h e c =
    let ended = c.rest out s (Some at) (subst (λ p. WritesEncoding p out out at s s (Some at)) (sym (at_drop_all (each put) xs i h)) (WritesEncoding-nothing out at s c.within c.lawful)) in
    rw e ended
