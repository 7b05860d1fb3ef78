-- Whether records have a TSIG, record by record.
use Rattle.std.proofs.Common.{◌≡◌, ◌==◌, ◌||◌, ℕ, ◌+◌, ◌-◌, ◌<◌, ◌≤◌, Bool, true, false, List, [], ◌∷◌, ◌++◌, append_assoc, Option, Some, None, refl, sym, ap, ◌∙◌, arith, option_map}
use Rattle.std.proofs.lemmas.List.{append-nil}
use Rattle.dns_message.specs.Message.{Entry}
use Rattle.dns_message.specs.Reads.{record_at, records_at}
use Rattle.dns_message.specs.Tsig.{type_TSIG, has_tsig}
use Rattle.dns_message.proofs.ReadLemmas.{behind_one, next_one, left, IsPassed}

abbrev behind : List Entry → List Entry × ℕ → List Entry × ℕ
behind front r = (front ++ r.0, r.1)

abbrev reported : List Entry × ℕ → Bool × ℕ
reported r = (has_tsig r.0, r.1)

pub record IsHad (count : ℕ) (msg : List ℕ) (at done place : ℕ) (has : Bool) : Type 0 where
  pub front : List Entry
  pub is : records_at count msg at ≡ option_map (behind front) (records_at (count - done) msg place)
  pub says : has ≡ has_tsig front

same_records : (o : Option (List Entry × ℕ)) → o ≡ option_map (behind []) o
same_records None = refl
same_records (Some r) = refl

none_had : has_tsig [] ≡ false
unfolding has_tsig
none_had = refl

or_last : (a b c : Bool) → a || (b || c) ≡ (a || b) || c
or_last true b c = refl
or_last false b c = refl

or_none : (b : Bool) → b || false ≡ b
or_none true = refl
or_none false = refl

more_had : (front : List Entry) (e : Entry) → has_tsig (front ++ e ∷ []) ≡ has_tsig front || (e.rtype == type_TSIG)
unfolding has_tsig
more_had [] e = or_none (e.rtype == type_TSIG)
more_had (r ∷ front) e = ap (λ b. r.rtype == type_TSIG || b) (more_had front e) ∙ or_last (r.rtype == type_TSIG) (has_tsig front) (e.rtype == type_TSIG)

pub IsHad-start : (count : ℕ) (msg : List ℕ) (at : ℕ) → IsHad count msg at 0 at false
IsHad-start count msg at = record {
  front = [];
  is = same_records (records_at count msg at) ∙ ap (λ n. option_map (behind []) (records_at n msg at)) (omega arith);
  says = sym none_had;
}

behind_next : (front : List Entry) (e : Entry) (o : Option (List Entry × ℕ)) → option_map (behind front) (option_map (λ rest. (e ∷ rest.0, rest.1)) o) ≡ option_map (behind (front ++ e ∷ [])) o
behind_next front e None = refl
behind_next front e (Some r) = ap (λ (t : List Entry). Some (t, r.1)) (sym (append_assoc front (e ∷ []) r.0))

pub IsHad-passed : (count : ℕ) (msg : List ℕ) (at done place rtype next : ℕ) (has after : Bool) → IsHad count msg at done place has → done < count → IsPassed msg place rtype next → after ≡ has || (rtype == type_TSIG) → IsHad count msg at (done + 1) next after
IsHad-passed count msg at done place rtype next has after on more past so = record {
  front = on.front ++ past.entry ∷ [];
  is =
      on.is
      ∙ ap (λ n. option_map (behind on.front) (records_at n msg place)) (left count done more)
      ∙ ap (option_map (behind on.front)) (next_one (count - (done + 1)) msg place)
      ∙ ap (λ o. option_map (behind on.front) (behind_one (count - (done + 1)) msg o)) past.is_present
      ∙ behind_next on.front past.entry (records_at (count - (done + 1)) msg next);
  says = so ∙ ap (λ b. b || (rtype == type_TSIG)) on.says ∙ ap (λ t. has_tsig on.front || (t == type_TSIG)) (sym past.rtype_is) ∙ sym (more_had on.front past.entry);
}

pub IsHad-stop : (count : ℕ) (msg : List ℕ) (at done place : ℕ) (has : Bool) → IsHad count msg at done place has → done < count → record_at msg place ≡ None → option_map reported (records_at count msg at) ≡ None
IsHad-stop count msg at done place has on more is =
    ap (option_map reported)
    (on.is
    ∙ ap (λ n. option_map (behind on.front) (records_at n msg place)) (left count done more)
    ∙ ap (option_map (behind on.front)) (next_one (count - (done + 1)) msg place)
    ∙ ap (λ o. option_map (behind on.front) (behind_one (count - (done + 1)) msg o)) is)

none_left : (msg : List ℕ) (place : ℕ) (front : List Entry) → option_map (behind front) (records_at 0 msg place) ≡ Some (front, place)
unfolding records_at
none_left msg place front = ap (λ (t : List Entry). Some (t, place)) (append-nil front)

pub IsHad-end : (count : ℕ) (msg : List ℕ) (at done place : ℕ) (has : Bool) → IsHad count msg at done place has → count ≤ done → option_map reported (records_at count msg at) ≡ Some (has, place)
IsHad-end count msg at done place has on all =
    ap (option_map reported) (on.is ∙ ap (λ n. option_map (behind on.front) (records_at n msg place)) (omega arith) ∙ none_left msg place on.front)
    ∙ ap (λ (b : Bool). Some (b, place)) (sym on.says)
