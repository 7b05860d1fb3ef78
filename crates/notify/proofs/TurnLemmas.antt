-- The first of a list that passes, and what becomes of the list.
use Rattle.std.proofs.Common.{◌≡◌, ℕ, suc, ◌<◌, true, List, ◌∷◌, ◌++◌, length, get_or, take, drop, Option, Some, refl, sym, ap, subst, ◌∙◌, arith, drop-cons, get_or-take}
use Rattle.std.proofs.Math.Seq.{set_split}
use Rattle.std.proofs.lemmas.List.{take-append-drop, length-take}
use Rattle.std.specs.Prelude.{slice_set}
use Rattle.std.specs.declared.net.socket_addr.SocketAddr.{SocketAddr}
use Rattle.dns_name.specs.Name.{Name}
use Rattle.dns_rdata.specs.Record.{Record}
use Rattle.notify.specs.Notified.{Notified}
use Rattle.notify.specs.Copies.{is_due, as_answered}
use Rattle.notify.specs.Turns.{IsFirst, FindsFirst, TurnsAs, GoesOn, IsAnsweredBy, heard_of, Hears}
use Rattle.notify.specs.declared.due.Due.{Due}
use Rattle.notify.specs.declared.secondary.Secondary.{Secondary}

-- the place is one of the list
pub place_finds : {A : Type 0} (P : A → Type 0) (xs : List A) (r : Option ℕ) (i : ℕ) → r ≡ Some i → FindsFirst P xs r → i < length xs
place_finds P xs r i some found = (subst (FindsFirst P xs) some found).0

-- the first that passes stands between what is in front of it and what is behind it
first_finds : {A : Type 0} (P : A → Type 0) (xs : List A) (r : Option ℕ) (i : ℕ) (x : A) → r ≡ Some i → FindsFirst P xs r → x ≡ get_or xs i x → IsFirst P xs (take i xs) x (drop (suc i) xs)
first_finds P xs r i x some found is =
    let at = subst (FindsFirst P xs) some found in
    record {
      parts = sym (take-append-drop i xs) ∙ ap (λ back. take i xs ++ back) (drop-cons xs i x at.0 ∙ ap (λ y. y ∷ drop (suc i) xs) (sym is));
      passes = subst P (sym is) (at.1 x);
      before = λ k d within passes. at.2 k d (omega arith) (omega (arith, within, length-take i xs)) (subst P (get_or-take i xs k d (omega (arith, within, length-take i xs))) passes);
    }

-- the first that something is due to has its turn
pub goes_on : (old : Notified) (xs ys : List Secondary) (time clock n number id : ℕ) (zone : List Record) (out : List ℕ) (due : Due) (s later : Secondary) (r : Option ℕ) (i : ℕ) → record { secondaries = xs; time = time; clock = clock } ≡ old → r ≡ Some i
    → ys ≡ xs → n ≡ number → FindsFirst (λ s. is_due time n s ≡ true) ys r → s ≡ get_or xs i s → TurnsAs time number id zone out s due later
    → GoesOn number id zone old (Some due) out (record { secondaries = slice_set xs i later; time = time; clock = clock })
goes_on old xs ys time clock n number id zone out due s later r i view some same of found is turns =
    let own = subst (λ (zs : List Secondary). FindsFirst (λ s. is_due time n s ≡ true) zs r) same found in
    let there = subst (λ (m : ℕ). FindsFirst (λ s. is_due time m s ≡ true) xs r) of own in
    let new : Notified = record { secondaries = slice_set xs i later; time = time; clock = clock } in
    let split : new ≡ record { secondaries = take i xs ++ later ∷ drop (suc i) xs; time = time; clock = clock } = ap (λ (zs : List Secondary). record { secondaries = zs; time = time; clock = clock }) (set_split xs i later (place_finds (λ s. is_due time number s ≡ true) xs r i some there)) in
    subst (λ (o : Notified). GoesOn number id zone o (Some due) out new) view (take i xs, s, drop (suc i) xs, later, first_finds (λ s. is_due time number s ≡ true) xs r i s some there is, turns, split)

-- the first that answers has answered
pub hears : (old : Notified) (xs ys : List Secondary) (time clock : ℕ) (apex : Name) (from : SocketAddr) (octets : List ℕ) (s : Secondary) (r : Option ℕ) (i : ℕ) → record { secondaries = xs; time = time; clock = clock } ≡ old → r ≡ Some i
    → ys ≡ xs → FindsFirst (IsAnsweredBy apex from octets) ys r → s ≡ get_or xs i s
    → Hears apex from octets old (Some (heard_of s.silent)) (record { secondaries = slice_set xs i (as_answered s); time = time; clock = clock })
hears old xs ys time clock apex from octets s r i view some same found is =
    let there = subst (λ (zs : List Secondary). FindsFirst (IsAnsweredBy apex from octets) zs r) same found in
    let new : Notified = record { secondaries = slice_set xs i (as_answered s); time = time; clock = clock } in
    let split : new ≡ record { secondaries = take i xs ++ as_answered s ∷ drop (suc i) xs; time = time; clock = clock } = ap (λ (zs : List Secondary). record { secondaries = zs; time = time; clock = clock }) (set_split xs i (as_answered s) (place_finds (IsAnsweredBy apex from octets) xs r i some there)) in
    subst (λ (o : Notified). Hears apex from octets o (Some (heard_of s.silent)) new) view (take i xs, s, drop (suc i) xs, first_finds (IsAnsweredBy apex from octets) xs r i s some there is, refl, split)
