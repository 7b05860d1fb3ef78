-- What is written keeps the table of names true: each of its positions is one where its name is read.
use Rattle.std.proofs.Common.{◌≡◌, ℕ, zero, suc, ◌+◌, Bool, true, List, [], ◌∷◌, ◌++◌, length, take, drop, All, Option, Some, None, refl, sym, ap, subst, ◌∙◌, length-append, append_assoc}
use Rattle.std.proofs.lemmas.List.Elements.{All-nil, All-cons, All-head, All-tail}
use Rattle.std.specs.Int.{to_be_bytes, w16}
use Rattle.dns_name.specs.Name.{wire_of, name_in, IsName}
use Rattle.dns_name.proofs.LawLemmas.{name_in-is_present}
use Rattle.dns_rdata.specs.declared.layout.Layout.{Layout}
use Rattle.dns_rdata.specs.declared.layout.Layout.TheVariants.{Fields, Strings, Opaque}
use Rattle.dns_rdata.specs.Layout.{layout_of, names_in}
use Rattle.dns_rdata.specs.Record.{Record}
use Rattle.wire_names.specs.Table.{Table, keyed}
use Rattle.wire_names.specs.Entry.{Entry}
use Rattle.wire_names.specs.Written.{written, table_after}
use Rattle.wire_names.proofs.TabledLemmas.{IsTableOf, after_name}
use Rattle.dns_message.specs.declared.query.Question.{Question}
use Rattle.dns_message.specs.Encoded.{IsTrueOf}
use Rattle.dns_message.specs.Encoding.{Encoding, these, named, before, measured, each}
use Rattle.dns_message.specs.Message.{Message}
use Rattle.dns_message.specs.Octets.{question_octets, names_octets, octets_by, data_laid, data_octets, fixed_octets, record_octets, questions, sections_octets}
use Rattle.dns_message.proofs.TrueLemmas.{IsTrueOf-positions, IsTrueOf-more}

-- positions that stand for a table, as wire_names has it
true_after : (msg : List ℕ) (positions : List Entry) (table : Table) → IsTableOf msg positions table → IsTrueOf msg table
true_after msg positions table h = IsTrueOf-positions msg positions table h.all h.is

-- what is written behind a message of which the table is true leaves one of which the table behind it is true
pub record Keeps (p : Encoding) : Type 0 where
  pub kept : (msg : List ℕ) (table : Table) → IsTrueOf msg table → IsTrueOf (msg ++ (p table (length msg)).0) (p table (length msg)).1

-- in a message, octets of which a table is true end at a position, and the rest stand behind it
pub record Stands (whole front rest : List ℕ) (table : Table) (n : ℕ) : Type 0 where
  pub at : n ≡ length front
  pub is : whole ≡ front ++ rest
  pub holds : IsTrueOf front table

-- and so it is behind what was written there
pub Stands-behind : (p : Encoding) (whole front rest : List ℕ) (table : Table) (n : ℕ) → Keeps p → Stands whole front ((p table n).0 ++ rest) table n → Stands whole (front ++ (p table n).0) rest (p table n).1 (n + length (p table n).0)
Stands-behind p whole front rest table n keeps s =
    let octets = (p table n).0 in
    let P : ℕ → Type 0 = λ k. IsTrueOf (front ++ (p table k).0) (p table k).1 in
    record {
      at = ap (λ k. k + length octets) s.at ∙ sym (length-append front octets);
      is = s.is ∙ sym (append_assoc front octets rest);
      holds = subst P (sym s.at) (keeps.kept front table s.holds);
    }

pub Keeps-these : (octets : List ℕ) → Keeps (these octets)
unfolding these
Keeps-these octets = record { kept = λ msg table h. IsTrueOf-more msg octets table h }

pub Keeps-named : (compress : Bool) (name : List (List ℕ)) → IsName name → Keeps (named compress name)
unfolding named
Keeps-named compress name lawful = record {
  kept = λ msg table h.
      subst (λ (t : Table). IsTrueOf (msg ++ written compress t name) (table_after compress t (length msg) name)) h.names
      (true_after _ _ _ (after_name compress msg (keyed table) name h.targets lawful));
}

pub Keeps-before : (p q : Encoding) → Keeps p → Keeps q → Keeps (before p q)
unfolding before
Keeps-before p q k l = record {
  kept = λ msg table h.
      let first = (p table (length msg)).0 in
      let next = (p table (length msg)).1 in
      let both = l.kept (msg ++ first) next (k.kept msg table h) in
      let there = subst (λ (n : ℕ). IsTrueOf ((msg ++ first) ++ (q next n).0) (q next n).1) (length-append msg first) both in
      subst (λ (octets : List ℕ). IsTrueOf octets (q next (length msg + length first)).1) (append_assoc msg first (q next (length msg + length first)).0) there;
}

pub Keeps-measured : (p : Encoding) → Keeps p → Keeps (measured p)
unfolding measured these before
Keeps-measured p k = record {
  kept = λ msg table h.
      (Keeps-before (these (to_be_bytes w16 (length (p table (length msg + 2)).0))) p (Keeps-these _) k).kept msg table h;
}

pub Keeps-each : {A : Type 0} (put : A → Encoding) (xs : List A) → All (λ x. Keeps (put x)) xs → Keeps (each put xs)
unfolding each
Keeps-each put [] all = Keeps-these []
Keeps-each put (x ∷ xs) all =
    Keeps-before (put x) (each put xs) (All-head (λ y. Keeps (put y)) x xs all) (Keeps-each put xs (All-tail (λ y. Keeps (put y)) x xs all))

-- the names that octets begin with are lawful
lawful_found : (count : ℕ) (octets : List ℕ) (found : Option (List (List ℕ))) → name_in octets ≡ found → ((rest : List ℕ) → All IsName (names_in count rest)) → All IsName (elim found as (λ _. List (List (List ℕ))) [ None ↦ [] | Some name ↦ name ∷ names_in count (drop (length (wire_of name)) octets) ])
lawful_found count octets None e rest = All-nil IsName
lawful_found count octets (Some name) e rest = All-cons IsName name _ (name_in-is_present octets name e).0 (rest (drop (length (wire_of name)) octets))

pub lawful_names : (count : ℕ) (octets : List ℕ) → All IsName (names_in count octets)
lawful_names zero octets = All-nil IsName
lawful_names (suc count) octets = lawful_found count octets (name_in octets) refl (lawful_names count)

-- names
pub Keeps-all : (compress : Bool) (names : List (List (List ℕ))) → All IsName names → Keeps (each (named compress) names)
Keeps-all compress names all = Keeps-each (named compress) names (λ k d h. Keeps-named compress _ (all k d h))

pub Keeps-names : (compress : Bool) (count : ℕ) (octets : List ℕ) → Keeps (names_octets compress count octets)
unfolding names_octets
Keeps-names compress count octets = Keeps-before _ _ (Keeps-all compress (names_in count octets) (lawful_names count octets)) (Keeps-these _)

-- data
Keeps-by : (layout : Layout) (octets : List ℕ) → Keeps (octets_by layout octets)
Keeps-by (Fields front names back compressed) octets =
    Keeps-before (these (take front octets)) (names_octets compressed names (drop front octets)) (Keeps-these _) (Keeps-names compressed names (drop front octets))
Keeps-by Strings octets = Keeps-these octets
Keeps-by Opaque octets = Keeps-these octets

Keeps-at : (o : Option Layout) (octets : List ℕ) → Keeps (data_laid o octets)
Keeps-at None octets = Keeps-these octets
Keeps-at (Some layout) octets = Keeps-by layout octets

pub Keeps-data : (rtype : ℕ) (octets : List ℕ) → Keeps (data_octets rtype octets)
unfolding data_octets
Keeps-data rtype octets = Keeps-at (layout_of rtype) octets

-- a question
pub Keeps-question : (q : Question) → IsName q.name → Keeps (question_octets q)
unfolding question_octets
Keeps-question q lawful = Keeps-before (named true q.name) _ (Keeps-named true q.name lawful) (Keeps-these _)

-- a record
pub Keeps-record : (r : Record) → IsName r.owner → Keeps (record_octets r)
unfolding record_octets
Keeps-record r lawful =
    Keeps-before (named true r.owner) _ (Keeps-named true r.owner lawful)
    (Keeps-before (these (fixed_octets r)) _ (Keeps-these _) (Keeps-measured (data_octets r.rtype r.rdata) (Keeps-data r.rtype r.rdata)))

-- records of lawful owners
pub Keeps-records : (rs : List Record) → All (λ r. IsName r.owner) rs → Keeps (each record_octets rs)
Keeps-records rs all = Keeps-each record_octets rs (λ k d h. Keeps-record _ (all k d h))

-- the names of a message's question and owners are lawful
pub record IsLawful (m : Message) : Type 0 where
  pub question : All (λ q. IsName q.name) (questions m.question)
  pub answer : All (λ r. IsName r.owner) m.answer
  pub authority : All (λ r. IsName r.owner) m.authority
  pub additional : All (λ r. IsName r.owner) m.additional

-- the sections of a message
pub Keeps-sections : (m : Message) → IsLawful m → Keeps (sections_octets m)
unfolding sections_octets
Keeps-sections m lawful =
    Keeps-before (each question_octets (questions m.question)) _ (Keeps-each question_octets (questions m.question) (λ k d h. Keeps-question _ (lawful.question k d h)))
    (Keeps-before (each record_octets m.answer) _ (Keeps-records m.answer lawful.answer)
    (Keeps-before (each record_octets m.authority) _ (Keeps-records m.authority lawful.authority)
    (Keeps-before (each record_octets m.additional) _ (Keeps-records m.additional lawful.additional) (Keeps-these _))))
