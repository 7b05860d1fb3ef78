-- Names and data, one behind another.
use Rattle.std.proofs.Common.{◌≡◌, Bool, ℕ, zero, suc, ◌+◌, ◌-◌, ◌<◌, ◌≤◌, List, [], ◌∷◌, ◌++◌, length, take, drop, Option, Some, None, refl, sym, ap, subst, ◌∙◌, arith, length-append, append_assoc}
use Rattle.std.proofs.lemmas.List.{length-take-le, length-drop, take_at, drop_at, drop-drop}
use Rattle.std.proofs.Math.Seq.{take-length}
use Rattle.std.specs.Int.{to_be_bytes, w16}
use Rattle.std.specs.List.{flat_map}
use Rattle.dns_name.specs.Name.{wire_of, name_in, IsName}
use Rattle.dns_name.proofs.ReadLemmas.{wire_some}
use Rattle.dns_name.specs.Labels.{labels_in, IsFirstName}
use Rattle.dns_name.proofs.FirstLemmas.{first_size, first_rest}
use Rattle.dns_rdata.specs.Layout.{names_in}
use Rattle.wire_names.specs.Table.{Table, IsTable, position_in}
use Rattle.wire_names.specs.Entry.{Entry}
use Rattle.wire_names.specs.Written.{IsOverwritten, WritesOctets, name_octets, pointer_to}
use Rattle.wire_names.proofs.OverwrittenLemmas.{length_stays, octets_are, IsOverwritten-then}
use Rattle.dns_message.specs.declared.query.Question.{Question}
use Rattle.dns_message.specs.Encoding.{Encoding, these, named, before, measured, each}
use Rattle.dns_message.specs.Encoded.{IsTrueOf, IsEncoded, IsStopped, WritesEncoding}
use Rattle.dns_message.specs.Octets.{names_octets, question_octets}
use Rattle.dns_message.proofs.KeepsLemmas.{Keeps, Keeps-measured}
use Rattle.dns_message.proofs.EncodedLemmas.{table_at, stays, IsStopped-more, IsStopped-octets, IsStopped-behind, WritesParts-octets, WritesEncoding-these, WritesEncoding-then, WritesEncoding-stop, before-nothing, before-assoc}
use Rattle.dns_message.proofs.TrueLemmas.{IsTrueOf-positions, lawful as names_lawful}

-- a name has no more octets with pointers than in full
length-name_if : (table : Table) (label : List ℕ) (name : List (List ℕ)) (found : Option ℕ) → length (name_octets table name) ≤ length (wire_of name) → length (elim found as (λ _. List ℕ) [ Some target ↦ pointer_to target | None ↦ length label ∷ label ++ name_octets table name ]) ≤ length (wire_of (label ∷ name))
length-name_if table label name None h = omega (arith, length-append label (name_octets table name), length-append label (wire_of name))
length-name_if table label name (Some target) h = omega (arith, length-append label (wire_of name), wire_some name)

pub length-name_octets : (table : Table) (name : List (List ℕ)) → length (name_octets table name) ≤ length (wire_of name)
length-name_octets table [] = omega arith
length-name_octets table (label ∷ name) = length-name_if table label name (position_in table (label ∷ name)) (length-name_octets table name)

-- a question has at most 259 octets
pub length-question : (q : Question) (table : Table) (at : ℕ) → IsName q.name → length (question_octets q table at).0 ≤ 259
unfolding question_octets before named these
length-question q table at lawful =
    let octets = length-append (name_octets table q.name) (to_be_bytes w16 q.rtype.0 ++ to_be_bytes w16 q.class.0) in
    let short = length-name_octets table q.name in
    let most = lawful.short in
    omega arith

-- a loop that writes so many names at the front of data is at a name: where the rest is written, the whole is
pub record IsAmong (compress : Bool) (count : ℕ) (all was : List ℕ) (first : ℕ) (own : List Entry) (i : ℕ) (rest out : List ℕ) (at : ℕ) (positions : List Entry) : Type 0 where
  pub within : at ≤ length out
  pub lawful : IsTable (take at out) positions
  pub left : ℕ
  pub left_is : left + i ≡ count
  pub goes : (new : List ℕ) (after : List Entry) (r : Option ℕ) → WritesEncoding (names_octets compress left rest) out new at positions after r → WritesEncoding (names_octets compress count all) was new first own after r

pub IsAmong-first : (compress : Bool) (count : ℕ) (all was : List ℕ) (first : ℕ) (own : List Entry) → first ≤ length was → IsTable (take first was) own → IsAmong compress count all was first own 0 all was first own
IsAmong-first compress count all was first own within lawful =
    record { within = within; lawful = lawful; left = count; left_is = omega arith; goes = λ new after r h. h }

-- names, and what is behind them
abbrev names_and : Bool → List ℕ → List (List (List ℕ)) → Encoding
names_and compress octets names = before (each (named compress) names) (these (drop (length (flat_map wire_of names)) octets))

-- the names in front, by whether there is one
abbrev names_by : ℕ → List ℕ → Option (List (List ℕ)) → List (List (List ℕ))
names_by count octets found = elim found as (λ _. List (List (List ℕ))) [ None ↦ [] | Some name ↦ name ∷ names_in count (drop (length (wire_of name)) octets) ]

no_names : (compress : Bool) (octets : List ℕ) → names_and compress octets [] ≡ these octets
unfolding each
no_names compress octets = before-nothing (these octets)

names_none : (compress : Bool) (left : ℕ) (octets : List ℕ) → name_in octets ≡ None → names_octets compress left octets ≡ these octets
unfolding names_octets
names_none compress zero octets e = no_names compress octets
names_none compress (suc left) octets e =
    ap (λ (found : Option (List (List ℕ))). names_and compress octets (names_by left octets found)) e ∙ no_names compress octets

one_more : (compress : Bool) (octets : List ℕ) (name : List (List ℕ)) (names : List (List (List ℕ))) → names_and compress octets (name ∷ names) ≡ before (named compress name) (names_and compress (drop (length (wire_of name)) octets) names)
unfolding each
one_more compress octets name names =
    let place : length (wire_of name ++ flat_map wire_of names) ≡ length (wire_of name) + length (flat_map wire_of names) = length-append (wire_of name) (flat_map wire_of names) in
    let behind : drop (length (wire_of name ++ flat_map wire_of names)) octets ≡ drop (length (flat_map wire_of names)) (drop (length (wire_of name)) octets) =
    ap (λ (n : ℕ). drop n octets) place ∙ sym (drop-drop (length (flat_map wire_of names)) (length (wire_of name)) octets) in
    ap (λ (rest : List ℕ). before (before (named compress name) (each (named compress) names)) (these rest)) behind
    ∙ before-assoc (named compress name) (each (named compress) names) (these (drop (length (flat_map wire_of names)) (drop (length (wire_of name)) octets)))

names_some : (compress : Bool) (left : ℕ) (octets : List ℕ) (name : List (List ℕ)) → name_in octets ≡ Some name → before (named compress name) (names_octets compress left (drop (length (wire_of name)) octets)) ≡ names_octets compress (suc left) octets
unfolding names_octets
names_some compress left octets name e =
    sym (ap (λ (found : Option (List (List ℕ))). names_and compress octets (names_by left octets found)) e
    ∙ one_more compress octets name (names_in left (drop (length (wire_of name)) octets)))

names_zero : (compress : Bool) (octets : List ℕ) → names_octets compress 0 octets ≡ these octets
unfolding names_octets
names_zero compress octets = no_names compress octets

-- no name is in front
pub IsAmong-none : (compress : Bool) (count : ℕ) (all was : List ℕ) (first : ℕ) (own : List Entry) (i : ℕ) (rest out : List ℕ) (at : ℕ) (positions : List Entry) (new : List ℕ) (r : Option ℕ) → IsAmong compress count all was first own i rest out at positions → None ≡ name_in rest → WritesOctets out new at rest r → WritesEncoding (names_octets compress count all) was new first own positions r
IsAmong-none compress count all was first own i rest out at positions new r h e p =
    h.goes new positions r (subst (λ q. WritesEncoding q out new at positions positions r) (sym (names_none compress h.left rest (sym e))) (WritesEncoding-these rest out new at positions r h.lawful (WritesParts-octets out new at rest r p)))

-- no name is left
left_none : (compress : Bool) (left : ℕ) (octets : List ℕ) → left ≡ 0 → names_octets compress left octets ≡ these octets
left_none compress left octets e = ap (λ (n : ℕ). names_octets compress n octets) e ∙ names_zero compress octets

pub IsAmong-end : (compress : Bool) (count : ℕ) (all was : List ℕ) (first : ℕ) (own : List Entry) (i : ℕ) (rest out : List ℕ) (at : ℕ) (positions : List Entry) (new : List ℕ) (r : Option ℕ) → IsAmong compress count all was first own i rest out at positions → count ≤ i → WritesOctets out new at rest r → WritesEncoding (names_octets compress count all) was new first own positions r
IsAmong-end compress count all was first own i rest out at positions new r h e p =
    let left_is = h.left_is in
    let none : h.left ≡ 0 = omega arith in
    h.goes new positions r (subst (λ q. WritesEncoding q out new at positions positions r) (sym (left_none compress h.left rest none)) (WritesEncoding-these rest out new at positions r h.lawful (WritesParts-octets out new at rest r p)))

-- a name is in front
pub record IsNext (compress : Bool) (count i left : ℕ) (rest : List ℕ) (name : List (List ℕ)) : Type 0 where
  pub behind : ℕ
  pub behind_is : behind + (i + 1) ≡ count
  pub text : before (named compress name) (names_octets compress behind (drop (length (wire_of name)) rest)) ≡ names_octets compress left rest

next_name : (compress : Bool) (count i left : ℕ) (rest : List ℕ) (name : List (List ℕ)) → left + i ≡ count → i < count → name_in rest ≡ Some name → IsNext compress count i left rest name
next_name compress count i zero rest name e h n = absurd (omega arith)
next_name compress count i (suc left) rest name e h n = record { behind = left; behind_is = omega arith; text = names_some compress left rest name n }

more_among : (compress : Bool) (count : ℕ) (all was : List ℕ) (first : ℕ) (own : List Entry) (i : ℕ) (rest out : List ℕ) (at : ℕ) (positions : List Entry) (then : List ℕ) (next len : ℕ) (after : List Entry) (name : List (List ℕ)) → IsAmong compress count all was first own i rest out at positions → i < count → Some name ≡ name_in rest → len ≡ length (wire_of name) → WritesEncoding (named compress name) out then at positions after (Some next) → IsAmong compress count all was first own (i + 1) (drop len rest) then next after
more_among compress count all was first own i rest out at positions then next len after name h less e l w =
    let more = next_name compress count i h.left rest name h.left_is less (sym e) in
    let there : drop (length (wire_of name)) rest ≡ drop len rest = ap (λ (n : ℕ). drop n rest) (sym l) in
    let text = ap (λ (octets : List ℕ). before (named compress name) (names_octets compress more.behind octets)) (sym there) ∙ more.text in
    record {
      within = omega (arith, w.octets.within, length_stays out then at _ next w.octets);
      lawful = names_lawful w;
      left = more.behind;
      left_is = more.behind_is;
      goes = λ new end r v. h.goes new end r (subst (λ q. WritesEncoding q out new at positions end r) text (WritesEncoding-then (named compress name) (names_octets compress more.behind (drop len rest)) out then new at next positions after end r w v));
    }

-- the same by the octets that the name takes
pub IsAmong-behind : (compress : Bool) (count : ℕ) (all was : List ℕ) (first : ℕ) (own : List Entry) (i : ℕ) (rest out : List ℕ) (at : ℕ) (positions : List Entry) (then : List ℕ) (next : ℕ) (after : List Entry) (octets behind : List ℕ) → IsAmong compress count all was first own i rest out at positions → i < count → IsFirstName rest octets behind → WritesEncoding (named compress (labels_in octets)) out then at positions after (Some next) → IsAmong compress count all was first own (i + 1) behind then next after
IsAmong-behind compress count all was first own i rest out at positions then next after octets behind h less front w =
    subst (λ (xs : List ℕ). IsAmong compress count all was first own (i + 1) xs then next after) (sym (first_rest rest octets behind front))
    (more_among compress count all was first own i rest out at positions then next (length octets) after (labels_in octets) h less (sym front.name) (first_size octets front.whole) w)

pub IsAmong-stop : (compress : Bool) (count : ℕ) (all was : List ℕ) (first : ℕ) (own : List Entry) (i : ℕ) (rest out : List ℕ) (at : ℕ) (positions : List Entry) (then : List ℕ) (after : List Entry) (name : List (List ℕ)) (r : Option ℕ) → IsAmong compress count all was first own i rest out at positions → i < count → Some name ≡ name_in rest → r ≡ None → WritesEncoding (named compress name) out then at positions after None → WritesEncoding (names_octets compress count all) was then first own after r
IsAmong-stop compress count all was first own i rest out at positions then after name r h less e n short =
    let more = next_name compress count i h.left rest name h.left_is less (sym e) in
    let stopped = h.goes then after None (subst (λ q. WritesEncoding q out then at positions after None) more.text (WritesEncoding-stop (named compress name) (names_octets compress more.behind (drop (length (wire_of name)) rest)) out then at positions after after short)) in
    rw n stopped

-- something behind its length has two octets more
pub length-measured : (p : Encoding) (table : Table) (at : ℕ) → length (measured p table at).0 ≡ 2 + length (p table (at + 2)).0
unfolding measured
length-measured p table at = length-append (to_be_bytes w16 (length (p table (at + 2)).0)) (p table (at + 2)).0

-- what has no room for its length doesn't fit
pub measured_short : (p : Encoding) (a b : List ℕ) (at : ℕ) (s t : List Entry) → WritesOctets a b at (0 ∷ 0 ∷ []) None → WritesEncoding (measured p) a b at s t None
measured_short p a b at s t h = IsStopped-more a b at 2 _ (omega (arith, length-measured p (table_at a at s) at)) (IsStopped-octets a b at (0 ∷ 0 ∷ []) h)

-- what doesn't fit behind its length doesn't fit with it
pub measured_stop : (p : Encoding) (a b c : List ℕ) (at n : ℕ) (s t : List Entry) → IsTable (take at a) s → IsOverwritten a b at (0 ∷ 0 ∷ []) n → WritesEncoding p b c n s t None → WritesEncoding (measured p) a c at s t None
measured_stop p a b c at n s t table put short =
    let same = stays a b at n s (0 ∷ 0 ∷ []) table put in
    let here = subst (λ (x : Table). IsStopped b c n (length (p x n).0)) same.is short in
    IsStopped-behind a b c at n (0 ∷ 0 ∷ []) (length (p (table_at a at s) n).0) _
    (length-measured p (table_at a at s) at ∙ ap (λ (k : ℕ). 2 + length (p (table_at a at s) k).0) (sym put.next_is)) put here

-- two octets of a buffer are set, and all else stays
patched : (front old more octets back c d : List ℕ) (at : ℕ) → length front ≡ at → length old ≡ 2 → c ≡ (front ++ (old ++ more)) ++ back → d ≡ (take at c ++ octets) ++ drop (at + 2) c → d ≡ (front ++ (octets ++ more)) ++ back
patched front old more octets back c d at f o whole is =
    let one : c ≡ front ++ (old ++ (more ++ back)) = whole ∙ simp append_assoc in
    let two : c ≡ (front ++ old) ++ (more ++ back) = one ∙ sym (append_assoc front old (more ++ back)) in
    let both = length-append front old in
    let first : take at c ≡ front = ap (take at) one ∙ take_at front (old ++ (more ++ back)) at f in
    let second : drop (at + 2) c ≡ more ++ back = ap (drop (at + 2)) two ∙ drop_at (front ++ old) (more ++ back) (at + 2) (omega arith) in
    is ∙ ap (λ (x : List ℕ). (x ++ octets) ++ drop (at + 2) c) first ∙ ap (λ (x : List ℕ). (front ++ octets) ++ x) second ∙ simp append_assoc

-- something was written behind two octets, which then were set to its length
pub measured_whole : (p : Encoding) (a b c d : List ℕ) (at n next : ℕ) (s t : List Entry) → Keeps p → at ≤ length a → IsTable (take at a) s → IsOverwritten a b at (0 ∷ 0 ∷ []) n → IsEncoded (p (table_at b n s) n) b c n t next → d ≡ take at c ++ to_be_bytes w16 (next - n) ++ drop (at + 2) c → IsEncoded (measured p (table_at a at s) at) a d at t next
unfolding measured
measured_whole p a b c d at n next s t keeps within table put w e =
    let own = table_at a at s in
    let same = stays a b at n s (0 ∷ 0 ∷ []) table put in
    let next_is = put.next_is in
    let place : n ≡ at + 2 = omega arith in
    let there : p (table_at b n s) n ≡ p own (at + 2) = ap (λ (x : Table). p x n) same.is ∙ ap (p own) place in
    let v = subst (λ (x : List ℕ × Table). IsEncoded x b c n t next) there w in
    let more = (p own (at + 2)).0 in
    let end = v.octets.next_is in
    let count : next - n ≡ length more = omega arith in
    let set : d ≡ take at c ++ to_be_bytes w16 (length more) ++ drop (at + 2) c = e ∙ ap (λ (k : ℕ). take at c ++ to_be_bytes w16 k ++ drop (at + 2) c) count in
    let front = length-take-le at a within in
    let both = IsOverwritten-then a b c at n next (0 ∷ 0 ∷ []) more put v.octets in
    let last = both.next_is in
    let size = length-append (0 ∷ 0 ∷ []) more in
    let size_set = length-append (to_be_bytes w16 (length more)) more in
    let octets : IsOverwritten a d at (to_be_bytes w16 (length more) ++ more) next = record {
      next_is = omega arith;
      within = both.within;
      new_is = patched (take at a) (0 ∷ 0 ∷ []) more (to_be_bytes w16 (length more)) (drop next a) c d at front refl both.new_is set;
    } in
    let holds = (Keeps-measured p keeps).kept (take at a) own (IsTrueOf-positions (take at a) s own table refl) in
    let here = subst (λ (k : ℕ). IsTrueOf (take at a ++ (measured p own k).0) (measured p own k).1) front holds in
    record {
      octets = octets;
      positions_are = v.positions_are;
      true_of = subst (λ (x : List ℕ). IsTrueOf x (measured p own at).1) (sym (octets_are a d at _ next octets)) here;
    }
