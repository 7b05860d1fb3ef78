-- Lemmas on a run's versions, and on those that are kept.
use Rattle.std.proofs.Common.{◌≡◌, ℕ, suc, zero, ◌+◌, ◌-◌, ◌≤◌, min, Bool, true, false, ◌&&◌, ◌==◌, bytes_eq, List, [], ◌∷◌, ◌++◌, length, take, drop, Option, Some, None, refl, sym, ap, ◌∙◌, subst, arith, append_assoc, append-nil, take-append-drop, length-drop, eqb-true, eq-eqb}
use Rattle.std.specs.Option.{option_and_then}
use Rattle.std.specs.Cmp.Lexicographic.{pointwise}
use Rattle.std.proofs.lemmas.Bool.{cond-true, cond-false}
use Rattle.std.proofs.lemmas.List.{length_push, take-append-le, drop-append-le, drop_all, take_all}
use Rattle.std.proofs.lemmas.Slice.Eq.{bytes_eq-Decides}
use Rattle.dns_rdata.specs.Record.{Record}
use Rattle.dns_rdata.specs.declared.numbers.Serial.{Serial}
use Rattle.zone_tree.specs.Zone.{soa_of}
use Rattle.zone_tree.specs.Version.{Version, KnowsChanges}
use Rattle.transfer_core.specs.Chain.{zones_of, AreBehind, told_changes}
use Rattle.transfer_core.specs.Lists.{newest}
use Rattle.transfer_core.specs.Window.{AreKept, changes_since}
use Rattle.commands.specs.Versions.{are_alike, Past, begun, all_of, followed_by, Keeping, kept_of, kept_with, Holds}

halves : (a b : Bool) → a && b ≡ true → (a ≡ true) × (b ≡ true)
halves true b e = (refl, e)
halves false b e = absurd (cc)

not_so : (b : Bool) → (b ≡ true → ⊥) → b ≡ false
not_so true never = absurd (never refl)
not_so false never = refl

-- lists are the same where each two of their values are
pointwise_only : {X : Type 0} (E : X → X → Bool) → ((x y : X) → E x y ≡ true → x ≡ y) → (xs ys : List X) → pointwise E xs ys ≡ true → xs ≡ ys
pointwise_only E each [] [] e = refl
pointwise_only E each [] (y ∷ ys) e = absurd (cc)
pointwise_only E each (x ∷ xs) [] e = absurd (cc)
pointwise_only E each (x ∷ xs) (y ∷ ys) e =
    let parts = halves (E x y) (pointwise E xs ys) e in
    let first = each x y parts.0 in
    let rest = pointwise_only E each xs ys parts.1 in
    λ i. first i ∷ rest i

pointwise_itself : {X : Type 0} (E : X → X → Bool) → ((x : X) → E x x ≡ true) → (xs : List X) → pointwise E xs xs ≡ true
pointwise_itself E each [] = refl
pointwise_itself E each (x ∷ xs) = rw (each x) (pointwise_itself E each xs)

bytes_only : (xs ys : List ℕ) → bytes_eq xs ys ≡ true → xs ≡ ys
bytes_only xs ys = (bytes_eq-Decides xs ys).0

bytes_itself : (xs : List ℕ) → bytes_eq xs xs ≡ true
bytes_itself xs = (bytes_eq-Decides xs xs).1 refl

alike_only : (r s : Record) → are_alike r s ≡ true → r ≡ s
alike_only r s e =
    let parts = halves (bytes_eq r.rdata s.rdata && pointwise bytes_eq r.owner s.owner) (r.rtype == s.rtype && r.ttl == s.ttl) e in
    let octets = halves (bytes_eq r.rdata s.rdata) (pointwise bytes_eq r.owner s.owner) parts.0 in
    let numbers = halves (r.rtype == s.rtype) (r.ttl == s.ttl) parts.1 in
    let rdata = bytes_only r.rdata s.rdata octets.0 in
    let owner = pointwise_only bytes_eq bytes_only r.owner s.owner octets.1 in
    let rtype = eqb-true r.rtype s.rtype numbers.0 in
    let ttl = eqb-true r.ttl s.ttl numbers.1 in
    λ i. let own : Record = record { owner = owner i; rtype = rtype i; ttl = ttl i; rdata = rdata i } in own

alike_itself : (r : Record) → are_alike r r ≡ true
alike_itself r =
    let rdata = bytes_itself r.rdata in
    let owner = pointwise_itself bytes_eq bytes_itself r.owner in
    let rtype : (r.rtype == r.rtype) ≡ true = eq-eqb r.rtype r.rtype refl in
    let ttl : (r.ttl == r.ttl) ≡ true = eq-eqb r.ttl r.ttl refl in
    rw (rdata, owner, rtype, ttl) refl

-- the versions stay where the zone does
pub followed_same : (past : Past) (zone : List Record) → zone ≡ past.newest → followed_by past zone ≡ past
followed_same past zone e =
    cond-true _ _ _ (ap (λ (z : List Record). pointwise are_alike past.newest z) e ∙ pointwise_itself are_alike alike_itself past.newest)

-- there is one more version where the zone is another
pub followed_other : (past : Past) (zone : List Record) → (zone ≡ past.newest → ⊥) → followed_by past zone ≡ record { older = all_of past; newest = zone }
followed_other past zone other =
    cond-false _ _ _ (not_so (pointwise are_alike past.newest zone) (λ e. other (sym (pointwise_only are_alike alike_only past.newest zone e))))

-- one more version behind others
behind_push : (zone : List Record) (vs : List Version) (v next : Version) → AreBehind zone (vs ++ v ∷ []) → KnowsChanges v.zone next → AreBehind zone ((vs ++ v ∷ []) ++ next ∷ [])
behind_push zone [] v next h known = (h.0, (known, tt))
behind_push zone (w ∷ ws) v next h known = (h.0, behind_push w.zone ws v next h.1 known)

kept_push : (gone : List (List Record)) (vs : List Version) (v next : Version) → AreKept gone (vs ++ v ∷ []) → KnowsChanges v.zone next → AreKept gone ((vs ++ v ∷ []) ++ next ∷ [])
kept_push [] [] v next h known = (h.0, (known, tt))
kept_push [] (w ∷ ws) v next h known = (h.0, behind_push w.zone ws v next h.1 known)
kept_push (z ∷ []) vs v next h known = behind_push z vs v next h known
kept_push (z ∷ y ∷ zs) vs v next h known = kept_push (y ∷ zs) vs v next h known

-- the oldest version goes
kept_shift : (gone : List (List Record)) (v : Version) (vs : List Version) → AreKept gone (v ∷ vs) → AreKept (gone ++ v.zone ∷ []) vs
kept_shift [] v vs h = h.1
kept_shift (z ∷ []) v vs h = h.1
kept_shift (z ∷ y ∷ zs) v vs h = kept_shift (y ∷ zs) v vs h

kept_drop : (d : ℕ) (gone : List (List Record)) (vs : List Version) → AreKept gone vs → AreKept (gone ++ zones_of (take d vs)) (drop d vs)
kept_drop zero gone vs h = subst (λ (g : List (List Record)). AreKept g vs) (sym (append-nil gone)) h
kept_drop (suc d) gone [] h = subst (λ (g : List (List Record)). AreKept g []) (sym (append-nil gone)) h
kept_drop (suc d) gone (v ∷ vs) h =
    subst (λ (g : List (List Record)). AreKept g (drop d vs)) (append_assoc gone (v.zone ∷ []) (zones_of (take d vs))) (kept_drop d (gone ++ v.zone ∷ []) vs (kept_shift gone v vs h))

zones_append : (vs more : List Version) → zones_of (vs ++ more) ≡ zones_of vs ++ zones_of more
zones_append [] more = refl
zones_append (v ∷ vs) more = ap (λ zs. v.zone ∷ zs) (zones_append vs more)

-- all versions are those that are gone and those that are kept
pub all_held : (past : Past) (kept : Keeping) (holds : Holds past kept) → all_of past ≡ holds.gone ++ zones_of (kept_of kept)
all_held past kept holds =
    ap (λ zs. zs ++ past.newest ∷ []) holds.older
    ∙ ap (λ z. (holds.gone ++ zones_of kept.older) ++ z ∷ []) holds.newest
    ∙ append_assoc holds.gone (zones_of kept.older) (kept.newest.zone ∷ [])
    ∙ ap (λ zs. holds.gone ++ zs) (sym (zones_append kept.older (kept.newest ∷ [])))

-- the first version is kept
pub holds_first : (zone : List Record) (first : Version) → first ≡ record { number = 0; zone = zone; changes = None } → Holds (begun zone) (record { older = []; newest = first })
holds_first zone first e =
    record { gone = []; older = refl; newest = sym (ap (λ (v : Version). v.zone) e); known = (ap (λ (v : Version). v.changes) e, tt); count = refl }

-- the next version is kept, with the newest of the others
pub holds_next : (past : Past) (kept : Keeping) (next : Version) → Holds past kept → KnowsChanges kept.newest.zone next → Holds (record { older = all_of past; newest = next.zone }) (kept_with kept (Some next))
holds_next past kept next holds known =
    let all = kept_of kept in
    let d : ℕ = length all - 8 in
    let size : length all ≡ length kept.older + 1 = length_push kept.older kept.newest in
    let short : d ≤ length all = omega arith in
    let versions : zones_of all ≡ zones_of (take d all) ++ zones_of (drop d all) = ap (λ (vs : List Version). zones_of vs) (sym (take-append-drop d all)) ∙ zones_append (take d all) (drop d all) in
    let more = kept_drop d holds.gone (all ++ next ∷ []) (kept_push holds.gone kept.older kept.newest next holds.known known) in
    let longer : length (past.older ++ past.newest ∷ []) ≡ length past.older + 1 = length_push past.older past.newest in
    let left : length (drop d all) ≡ length all - d = length-drop d all in
    record {
      gone = holds.gone ++ zones_of (take d all);
      older = all_held past kept holds ∙ ap (λ zs. holds.gone ++ zs) versions ∙ sym (append_assoc holds.gone (zones_of (take d all)) (zones_of (drop d all)));
      newest = refl;
      known = rw (take-append-le d all (next ∷ []) short, drop-append-le d all (next ∷ []) short) at more;
      count = omega (arith, size, longer, left, holds.count);
    }

-- the newest zone is that of the last version
newest_last : (zone : List Record) (vs : List Version) (v : Version) → newest zone (zones_of (vs ++ v ∷ [])) ≡ v.zone
newest_last zone [] v = refl
newest_last zone (w ∷ ws) v = newest_last w.zone ws v

-- what is told of all that are kept is what changed since the version of a serial
pub told_of_kept : (past : Past) (kept : Keeping) (holds : Holds past kept) (whole : Bool) (chain : List Version) (upto : ℕ) (held : Option Serial) → upto ≡ length (kept_of kept)
    → told_changes whole (soa_of (newest [] (zones_of (take upto (kept_of kept))))) chain ≡ option_and_then (λ serial. changes_since 16 (zones_of (drop upto (kept_of kept))) upto serial.0 (holds.gone ++ zones_of (take upto (kept_of kept)))) held
    → told_changes whole (soa_of kept.newest.zone) chain ≡ option_and_then (λ serial. changes_since 16 [] (min 9 (length (all_of past))) serial.0 (all_of past)) held
told_of_kept past kept holds whole chain upto held e reported =
    let vs = kept_of kept in
    let taken : take upto vs ≡ vs = ap (λ (n : ℕ). take n vs) e ∙ take_all (length vs) vs (omega arith) in
    let dropped : drop upto vs ≡ [] = ap (λ (n : ℕ). drop n vs) e ∙ drop_all (length vs) vs (omega arith) in
    let last : newest [] (zones_of (take upto vs)) ≡ kept.newest.zone = ap (λ (l : List Version). newest [] (zones_of l)) taken ∙ newest_last [] kept.older kept.newest in
    let size : length vs ≡ length kept.older + 1 = length_push kept.older kept.newest in
    let longer : length (past.older ++ past.newest ∷ []) ≡ length past.older + 1 = length_push past.older past.newest in
    let count : upto ≡ min 9 (length (all_of past)) = omega (arith, e, size, longer, holds.count) in
    let all : holds.gone ++ zones_of (take upto vs) ≡ all_of past = ap (λ (l : List Version). holds.gone ++ zones_of l) taken ∙ sym (all_held past kept holds) in
    ap (λ (z : List Record). told_changes whole (soa_of z) chain) (sym last)
    ∙ reported
    ∙ ap (λ (l : List Version). option_and_then (λ serial. changes_since 16 (zones_of l) upto serial.0 (holds.gone ++ zones_of (take upto vs))) held) dropped
    ∙ ap (λ (n : ℕ). option_and_then (λ serial. changes_since 16 [] n serial.0 (holds.gone ++ zones_of (take upto vs))) held) count
    ∙ ap (λ (zs : List (List Record)). option_and_then (λ serial. changes_since 16 [] (min 9 (length (all_of past))) serial.0 zs) held) all
