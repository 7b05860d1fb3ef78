-- How the data and the records of an update are read, one after another.
use Rattle.std.proofs.Common.{subst, eq-eqb, ⊎_elim, lit<, ◌≡◌, ℕ, suc, ◌+◌, ◌-◌, ◌<◌, ◌≤◌, ◌^◌, Bool, true, false, cond, ◌||◌, ◌==◌, nat_le, List, [], ◌∷◌, ◌++◌, append_assoc, Option, Some, None, Ok, Err, refl, sym, ap, ◌∙◌, arith, option_map, option_and_then}
use Rattle.std.specs.List.{flat_map}
use Rattle.std.proofs.lemmas.Bool.{cases_Bool}
use Rattle.std.proofs.lemmas.Bool.Decides.{Decides-eqb}
use Rattle.std.proofs.lemmas.List.{append-nil}
use Rattle.dns_name.specs.Name.{Name, wire_of}
use Rattle.dns_rdata.specs.Raw.{RawRecord}
use Rattle.wire_names.specs.NameAt.{name_at}
use Rattle.wire_names.specs.declared.part.NameReadFault.{NameReadFault}
use Rattle.dns_rdata.specs.declared.layout.Layout.{Layout}
use Rattle.dns_rdata.specs.declared.layout.Layout.TheVariants.{Fields, Strings, Opaque}
use Rattle.dns_rdata.specs.Layout.{layout_of}
use Rattle.dns_rdata.specs.Numbers.{is_metatype}
use Rattle.dns_message.specs.Message.{Entry}
use Rattle.dns_message.specs.Expanded.{names_at, octets_from, expanded_by, expanded_data}
use Rattle.dns_message.specs.Updates.{raw_at, raws_at}
use Rattle.dns_message.specs.declared.update.Section.{Section}

-- what stands in front of names that are read, with these in full behind it
abbrev pub joined : List ℕ → List Name × ℕ → List ℕ × ℕ
joined own r = (own ++ flat_map wire_of r.0, r.1)

-- some of the names were read: what all give behind what stood there first, the others give behind what is there
pub record IsExpanding (names : ℕ) (msg : List ℕ) (start done place : ℕ) (first own : List ℕ) : Type 0 where
  pub is : option_map (joined first) (names_at names msg start) ≡ option_map (joined own) (names_at (names - done) msg place)

pub IsExpanding-start : (names : ℕ) (msg : List ℕ) (start : ℕ) (first : List ℕ) → IsExpanding names msg start 0 start first first
IsExpanding-start names msg start first = record { is = ap (λ n. option_map (joined first) (names_at n msg start)) (omega arith) }

left : (count done : ℕ) → done < count → count - done ≡ suc (count - (done + 1))
left count done h = omega arith

-- a name is read, and those behind it; or it has a fault
one_name : (count : ℕ) (msg : List ℕ) (place next : ℕ) (name : Name) → name_at msg place ≡ Ok (name, next) → names_at (suc count) msg place ≡ option_map (λ rest. (name ∷ rest.0, rest.1)) (names_at count msg next)
unfolding names_at
one_name count msg place next name e = rw (e, names_at) refl

no_name : (count : ℕ) (msg : List ℕ) (place : ℕ) (fault : NameReadFault) → name_at msg place ≡ Err fault → names_at (suc count) msg place ≡ None
unfolding names_at
no_name count msg place fault e = rw (e, names_at) refl

joined_next : (own : List ℕ) (name : Name) (o : Option (List Name × ℕ)) → option_map (joined own) (option_map (λ rest. (name ∷ rest.0, rest.1)) o) ≡ option_map (joined (own ++ wire_of name)) o
joined_next own name None = refl
joined_next own name (Some r) = ap (λ (t : List ℕ). Some (t, r.1)) (sym (append_assoc own (wire_of name) (flat_map wire_of r.0)))

pub IsExpanding-one : (names : ℕ) (msg : List ℕ) (start done place : ℕ) (first own : List ℕ) (name : Name) (next : ℕ) → IsExpanding names msg start done place first own → done < names → name_at msg place ≡ Ok (name, next) → IsExpanding names msg start (done + 1) next first (own ++ wire_of name)
IsExpanding-one names msg start done place first own name next on more e = record {
  is =
      on.is
      ∙ ap (λ n. option_map (joined own) (names_at n msg place)) (left names done more)
      ∙ ap (option_map (joined own)) (one_name (names - (done + 1)) msg place next name e)
      ∙ joined_next own name (names_at (names - (done + 1)) msg next);
}

-- what lies by the layout of such data, where its names are read
abbrev pub with_back : List ℕ → ℕ → ℕ → Option (List ℕ × ℕ) → Option (List ℕ)
with_back msg back end o = option_and_then (λ p. cond (p.1 + back == end) (Some (p.0 ++ octets_from msg p.1 back)) None) o

expanded_is : (front names back : ℕ) (msg : List ℕ) (at size : ℕ) (o : Option (List Name × ℕ)) → option_and_then (λ r. cond (r.1 + back == at + size) (Some (octets_from msg at front ++ flat_map wire_of r.0 ++ octets_from msg r.1 back)) None) o ≡ with_back msg back (at + size) (option_map (joined (octets_from msg at front)) o)
expanded_is front names back msg at size None = refl
expanded_is front names back msg at size (Some r) = refl

pub IsExpanding-stop : (front names back : ℕ) (msg : List ℕ) (at size done place : ℕ) (own : List ℕ) (fault : NameReadFault) → IsExpanding names msg (at + front) done place (octets_from msg at front) own → done < names → name_at msg place ≡ Err fault → expanded_by (Fields front names back true) msg at size ≡ None
IsExpanding-stop front names back msg at size done place own fault on more e =
    expanded_is front names back msg at size (names_at names msg (at + front))
    ∙ ap (with_back msg back (at + size))
    (on.is
    ∙ ap (λ n. option_map (joined own) (names_at n msg place)) (left names done more)
    ∙ ap (option_map (joined own)) (no_name (names - (done + 1)) msg place fault e))

none_left : (msg : List ℕ) (place : ℕ) (own : List ℕ) → option_map (joined own) (names_at 0 msg place) ≡ Some (own, place)
unfolding names_at
none_left msg place own = ap (λ (t : List ℕ). Some (t, place)) (append-nil own)

pub IsExpanding-end : (front names back : ℕ) (msg : List ℕ) (at size done place : ℕ) (own : List ℕ) → IsExpanding names msg (at + front) done place (octets_from msg at front) own → names ≤ done → expanded_by (Fields front names back true) msg at size ≡ cond (place + back == at + size) (Some (own ++ octets_from msg place back)) None
IsExpanding-end front names back msg at size done place own on all =
    expanded_is front names back msg at size (names_at names msg (at + front))
    ∙ ap (with_back msg back (at + size))
    (on.is
    ∙ ap (λ n. option_map (joined own) (names_at n msg place)) (omega arith)
    ∙ none_left msg place own)

-- data whose names end where the data ends, less the octets behind, and data whose names don't
pub ends_right : (a b : ℕ) (o : Option (List ℕ)) → a ≡ b → cond (a == b) o None ≡ o
ends_right a b o e = rw (eq-eqb a b e) refl

pub ends_wrong : (a b : ℕ) (o : Option (List ℕ)) → (a ≡ b → ⊥) → cond (a == b) o None ≡ None
ends_wrong a b o h = ⊎_elim (λ e. absurd (h ((Decides-eqb a b).0 e))) (λ e. rw e refl) (cases_Bool (a == b))

-- what the expanded data of a record are, by how the data of its type lie
pub data_of_fields : (msg : List ℕ) (e : Entry) (front names back : ℕ) (compressed : Bool) → Some (Fields front names back compressed) ≡ layout_of e.rtype → expanded_data msg e ≡ expanded_by (Fields front names back true) msg e.at e.size
unfolding expanded_data
data_of_fields msg e front names back compressed h = rw (sym h, expanded_data) refl

pub data_of_strings : (msg : List ℕ) (e : Entry) → Some Strings ≡ layout_of e.rtype → expanded_data msg e ≡ Some (octets_from msg e.at e.size)
unfolding expanded_data
data_of_strings msg e h = rw (sym h, expanded_data) refl

pub data_of_opaque : (msg : List ℕ) (e : Entry) → Some Opaque ≡ layout_of e.rtype → expanded_data msg e ≡ Some (octets_from msg e.at e.size)
unfolding expanded_data
data_of_opaque msg e h = rw (sym h, expanded_data) refl

pub data_of_none : (msg : List ℕ) (e : Entry) → None ≡ layout_of e.rtype → expanded_data msg e ≡ Some (octets_from msg e.at e.size)
unfolding expanded_data
data_of_none msg e h = rw (sym h, expanded_data) refl

-- few octets stand in front of the names of any data
front_of : Option Layout → ℕ
front_of None = 0
front_of (Some (Fields front names back compressed)) = front
front_of (Some Strings) = 0
front_of (Some Opaque) = 0

front_of_cond : (b : Bool) (x y : Option Layout) → front_of x < 65536 → front_of y < 65536 → front_of (cond b x y) < 65536
front_of_cond true x y h k = h
front_of_cond false x y h k = k

front_of_layout : (rtype : ℕ) → front_of (layout_of rtype) < 65536
unfolding layout_of front_of
front_of_layout rtype =
    front_of_cond (rtype == 1) _ _ (lit< tt)
    (front_of_cond (rtype == 2) _ _ (lit< tt)
    (front_of_cond (rtype == 5) _ _ (lit< tt)
    (front_of_cond (rtype == 6) _ _ (lit< tt)
    (front_of_cond (rtype == 12) _ _ (lit< tt)
    (front_of_cond (rtype == 15) _ _ (lit< tt)
    (front_of_cond (rtype == 16) _ _ (lit< tt)
    (front_of_cond (rtype == 28) _ _ (lit< tt)
    (front_of_cond (rtype == 33) _ _ (lit< tt)
    (front_of_cond (is_metatype rtype || nat_le (2 ^ 16) rtype) None (Some Opaque) (lit< tt) (lit< tt))))))))))

pub front_is_short : (rtype front names back : ℕ) (compressed : Bool) → Some (Fields front names back compressed) ≡ layout_of rtype → front < 65536
unfolding front_of
front_is_short rtype front names back compressed h =
    let P : Option Layout → Type 0 = λ o. front_of o < 65536 in subst P (sym h) (front_of_layout rtype)

-- some of the records were read: all are these and the others
abbrev pub behind : List RawRecord → List RawRecord × ℕ → List RawRecord × ℕ
behind own r = (own ++ r.0, r.1)

pub record IsReading (section : Section) (count : ℕ) (msg : List ℕ) (at done place : ℕ) (own : List RawRecord) : Type 0 where
  pub is : raws_at section count msg at ≡ option_map (behind own) (raws_at section (count - done) msg place)

same_raws : (o : Option (List RawRecord × ℕ)) → o ≡ option_map (behind []) o
same_raws None = refl
same_raws (Some r) = refl

pub IsReading-start : (section : Section) (count : ℕ) (msg : List ℕ) (at : ℕ) → IsReading section count msg at 0 at []
IsReading-start section count msg at = record { is = same_raws (raws_at section count msg at) ∙ ap (λ n. option_map (behind []) (raws_at section n msg at)) (omega arith) }

one_raw : (section : Section) (count : ℕ) (msg : List ℕ) (place next : ℕ) (r : RawRecord) → raw_at section msg place ≡ Some (r, next) → raws_at section (suc count) msg place ≡ option_map (λ rest. (r ∷ rest.0, rest.1)) (raws_at section count msg next)
unfolding raws_at
one_raw section count msg place next r e = rw (e, raws_at) refl

no_raw : (section : Section) (count : ℕ) (msg : List ℕ) (place : ℕ) → raw_at section msg place ≡ None → raws_at section (suc count) msg place ≡ None
unfolding raws_at
no_raw section count msg place e = rw (e, raws_at) refl

behind_next : (own : List RawRecord) (r : RawRecord) (o : Option (List RawRecord × ℕ)) → option_map (behind own) (option_map (λ rest. (r ∷ rest.0, rest.1)) o) ≡ option_map (behind (own ++ r ∷ [])) o
behind_next own r None = refl
behind_next own r (Some rest) = ap (λ (t : List RawRecord). Some (t, rest.1)) (sym (append_assoc own (r ∷ []) rest.0))

pub IsReading-one : (section : Section) (count : ℕ) (msg : List ℕ) (at done place : ℕ) (own : List RawRecord) (r : RawRecord) (next : ℕ) → IsReading section count msg at done place own → done < count → raw_at section msg place ≡ Some (r, next) → IsReading section count msg at (done + 1) next (own ++ r ∷ [])
IsReading-one section count msg at done place own r next on more e = record {
  is =
      on.is
      ∙ ap (λ n. option_map (behind own) (raws_at section n msg place)) (left count done more)
      ∙ ap (option_map (behind own)) (one_raw section (count - (done + 1)) msg place next r e)
      ∙ behind_next own r (raws_at section (count - (done + 1)) msg next);
}

pub IsReading-stop : (section : Section) (count : ℕ) (msg : List ℕ) (at done place : ℕ) (own : List RawRecord) → IsReading section count msg at done place own → done < count → raw_at section msg place ≡ None → raws_at section count msg at ≡ None
IsReading-stop section count msg at done place own on more e =
    on.is
    ∙ ap (λ n. option_map (behind own) (raws_at section n msg place)) (left count done more)
    ∙ ap (option_map (behind own)) (no_raw section (count - (done + 1)) msg place e)

no_raws : (section : Section) (msg : List ℕ) (place : ℕ) (own : List RawRecord) → option_map (behind own) (raws_at section 0 msg place) ≡ Some (own, place)
unfolding raws_at
no_raws section msg place own = ap (λ (t : List RawRecord). Some (t, place)) (append-nil own)

pub IsReading-end : (section : Section) (count : ℕ) (msg : List ℕ) (at done place : ℕ) (own : List RawRecord) → IsReading section count msg at done place own → count ≤ done → raws_at section count msg at ≡ Some (own, place)
IsReading-end section count msg at done place own on all =
    on.is
    ∙ ap (λ n. option_map (behind own) (raws_at section n msg place)) (omega arith)
    ∙ no_raws section msg place own
