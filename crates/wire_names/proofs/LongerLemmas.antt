-- A message that goes on spells what it spelt.
use Rattle.std.proofs.Common.{◌≡◌, ℕ, ◌+◌, ◌-◌, ◌<◌, ◌≤◌, ◌==◌, Bool, true, false, nat_lt, nat_le, cond, List, [], ◌∷◌, ◌++◌, length, take, drop, Result, Ok, Err, refl, sym, ap, ◌∙◌, arith}
use Rattle.std.specs.Result.{IsOk}
use Rattle.std.proofs.lemmas.Bool.Decides.{nat_tests}
use Rattle.std.proofs.lemmas.List.{length-append, length-drop, drop-append-le, take-append-le}
use Rattle.std.proofs.lemmas.List.Elements.{All-head, All-tail}
use Rattle.dns_name.specs.Name.{wire_of}
use Rattle.wire_names.specs.NameAt.{name_at}
use Rattle.wire_names.specs.Parts.{part_at, part_of, label_of, pointer_of, label_at}
use Rattle.wire_names.specs.Spells.{Spells, closing, label, pointer}
use Rattle.wire_names.specs.Table.{Entry, AreEntries, IsTarget, IsEntry, spelt_at, table_of}
use Rattle.wire_names.specs.declared.part.NameReadFault.{NameReadFault}
use Rattle.wire_names.specs.declared.part.NameReadFault.TheVariants.{Short, BadLength}
use Rattle.wire_names.specs.declared.part.Part.{Part}
use Rattle.wire_names.specs.declared.part.Part.TheVariants.{Closing, Label, Pointer}
use Rattle.wire_names.proofs.GrammarLemmas.{IsLabelAt-part, name_at_spelt}
use Rattle.wire_names.proofs.TableLemmas.{ReadsAt-target}

label_longer_if : (b : Bool) (n : ℕ) (octets more : List ℕ) (part : Part) → nat_le n (length octets) ≡ b → cond b (Ok (Label n)) (Err Short) ≡ Ok part → label_of n (octets ++ more) ≡ Ok part
label_longer_if true n octets more part t e =
    let both = length-append octets more in
    let fits : nat_le n (length (octets ++ more)) ≡ true = grind (arith, nat_tests) in
    rw fits e
label_longer_if false n octets more part t e = cc

pointer_longer : (n : ℕ) (octets more : List ℕ) (part : Part) → pointer_of n octets ≡ Ok part → pointer_of n (octets ++ more) ≡ Ok part
pointer_longer n [] more part e = cc
pointer_longer n (low ∷ octets) more part e = e

part_longer_if : (z s b : Bool) (x : ℕ) (octets more : List ℕ) (part : Part) → cond z (Ok Closing) (cond s (label_of x octets) (cond b (Err BadLength) (pointer_of (x - 192) octets))) ≡ Ok part → cond z (Ok Closing) (cond s (label_of x (octets ++ more)) (cond b (Err BadLength) (pointer_of (x - 192) (octets ++ more)))) ≡ Ok part
part_longer_if true s b x octets more part e = e
part_longer_if false true b x octets more part e = label_longer_if (nat_le x (length octets)) x octets more part refl e
part_longer_if false false true x octets more part e = e
part_longer_if false false false x octets more part e = pointer_longer (x - 192) octets more part e

part_of-longer : (octets more : List ℕ) (part : Part) → part_of octets ≡ Ok part → part_of (octets ++ more) ≡ Ok part
part_of-longer [] more part e = cc
part_of-longer (x ∷ octets) more part e = part_longer_if (x == 0) (nat_lt x 64) (nat_lt x 192) x octets more part e

some_octets : (octets : List ℕ) (part : Part) → part_of octets ≡ Ok part → 0 < length octets
some_octets [] part e = cc
some_octets (x ∷ octets) part e = omega arith

-- a part stands inside the message
pub part_within : (msg : List ℕ) (at : ℕ) (part : Part) → part_at msg at ≡ Ok part → at < length msg
part_within msg at part e =
    let some = some_octets (drop at msg) part e in
    let left = length-drop at msg in
    omega arith

pub part_longer : (msg more : List ℕ) (at : ℕ) (part : Part) → part_at msg at ≡ Ok part → part_at (msg ++ more) at ≡ Ok part
part_longer msg more at part e =
    let within = part_within msg at part e in
    let split = drop-append-le at msg more (omega arith) in
    ap part_of split ∙ part_of-longer (drop at msg) more part e

label_longer : (msg more : List ℕ) (at n : ℕ) → at + 1 + n ≤ length msg → label_at (msg ++ more) at n ≡ label_at msg at n
label_longer msg more at n h =
    let split = drop-append-le (at + 1) msg more (omega arith) in
    let left = length-drop (at + 1) msg in
    ap (take n) split ∙ take-append-le n (drop (at + 1) msg) more (omega arith)

-- what is spelt is spelt in a message that goes on
pub spells_longer : (msg more : List ℕ) (run at next : ℕ) (name : List (List ℕ)) → Spells msg run at name next → Spells (msg ++ more) run at name next
spells_longer msg more run at next _ (closing p e) = closing (part_longer msg more at Closing p) e
spells_longer msg more run at next _ (label {n = n} {l = l} {ls = ls} p e s) =
    let is = IsLabelAt-part msg at n p in
    label (part_longer msg more at (Label n) p) (e ∙ sym (label_longer msg more at n is.within)) (spells_longer msg more run (at + 1 + n) next ls s)
spells_longer msg more run at next name (pointer {target = a} {beyond = x} p g s e) =
    pointer (part_longer msg more at (Pointer a) p) g (spells_longer msg more a a x name s) e

-- a place that spells a name is inside the message
pub spells_within : (msg : List ℕ) (run at next : ℕ) (name : List (List ℕ)) → Spells msg run at name next → at < length msg
spells_within msg run at next _ (closing p e) = part_within msg at Closing p
spells_within msg run at next _ (label {n = n} p e s) = part_within msg at (Label n) p
spells_within msg run at next name (pointer {target = a} p g s e) = part_within msg at (Pointer a) p

-- a position where this name is read
pub record ReadsName (msg : List ℕ) (at : ℕ) (name : List (List ℕ)) : Type 0 where
  pub read : IsOk (name_at msg at)
  pub spelt : spelt_at msg at ≡ name

is_ok_from : (r : Result (List (List ℕ) × ℕ) NameReadFault) (x : List (List ℕ) × ℕ) → r ≡ Ok x → IsOk r
is_ok_from (Ok y) x e = refl
is_ok_from (Err fault) x e = cc

pub ReadsName-spells : (msg : List ℕ) (at next : ℕ) (name : List (List ℕ)) → Spells msg at at name next → length (wire_of name) ≤ 255 → ReadsName msg at name
ReadsName-spells msg at next name s h =
    let is = (name_at_spelt msg at next name).1 (s, h) in
    record {
      read = is_ok_from (name_at msg at) (name, next) is;
      spelt = ap (λ (r : Result (List (List ℕ) × ℕ) NameReadFault). elim r [ Ok x ↦ x.0 | Err fault ↦ [] ]) is;
    }

-- a position of the table reads the same name in a message that goes on
pub target_longer : (msg more : List ℕ) (at : ℕ) → IsTarget msg at → ReadsName (msg ++ more) at (spelt_at msg at)
target_longer msg more at target =
    let own = ReadsAt-target msg at target in
    let both = (name_at_spelt msg at own.next (spelt_at msg at)).0 own.is in
    ReadsName-spells (msg ++ more) at own.next (spelt_at msg at) (spells_longer msg more at at own.next (spelt_at msg at) both.0) both.1

pub IsTarget-longer : (msg more : List ℕ) (at : ℕ) → IsTarget msg at → IsTarget (msg ++ more) at
IsTarget-longer msg more at target = record { low = target.low; read = (target_longer msg more at target).read }

IsEntry-longer : (msg more : List ℕ) (entry : Entry) → IsEntry msg entry → IsEntry (msg ++ more) entry
IsEntry-longer msg more entry is = record {
  target = IsTarget-longer msg more entry.position is.target;
  label = record { read = (target_longer msg more entry.position is.target).read; len = is.label.len; label = part_longer msg more entry.position (Label is.label.len) is.label.label };
}

pub AreEntries-longer : (msg more : List ℕ) (entries : List Entry) → AreEntries msg entries → AreEntries (msg ++ more) entries
AreEntries-longer msg more entries table = λ k d h. IsEntry-longer msg more _ (table k d h)

-- and the table is the same
pub table_longer : (msg more : List ℕ) (entries : List Entry) → AreEntries msg entries → table_of (msg ++ more) entries ≡ table_of msg entries
table_longer msg more [] table = refl
table_longer msg more (entry ∷ entries) table =
    let at = entry.position in
    let first = (target_longer msg more at (All-head (IsEntry msg) entry entries table).target).spelt in
    let rest = table_longer msg more entries (All-tail (IsEntry msg) entry entries table) in
    let pair : (at, spelt_at (msg ++ more) at) ∷ table_of (msg ++ more) entries ≡ (at, spelt_at msg at) ∷ table_of (msg ++ more) entries = ap (λ (n : List (List ℕ)). (at, n) ∷ table_of (msg ++ more) entries) first in
    pair ∙ ap (λ (t : List (ℕ × List (List ℕ))). (at, spelt_at msg at) ∷ t) rest
