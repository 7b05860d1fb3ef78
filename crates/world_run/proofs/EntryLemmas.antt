-- Entries of the window, one after the other.
use Rattle.std.proofs.Common.{◌≡◌, refl, sym, ap, ◌∙◌, ℕ, ◌+◌, ◌<◌, ◌≤◌, Bool, true, false, List, [], ◌∷◌, ◌++◌, length, filter, drop, get_or, nat_le, arith}
use Rattle.std.specs.Prelude.{◌==◌}
use Rattle.std.proofs.lemmas.List.{drop_more, drop_all, append_assoc, append-nil}
use Rattle.dns_rdata.specs.SerialOrder.{serial_distance}
use Rattle.transfer_core.specs.Window.{span, fits}
use Rattle.world_run.specs.Entries.{serials_in, owners_in, leaving, behind}
use Rattle.world_run.specs.declared.entries.Entry.{Entry}

-- the entries from a place on, by the one there
pub entries_from : (entries : List Entry) (at : ℕ) (entry : Entry) → at < length entries → entry ≡ get_or entries at entry → drop at entries ≡ entry ∷ drop (at + 1) entries
entries_from entries at entry within is = drop_more entries at entry within ∙ ap (λ (e : Entry). e ∷ drop (at + 1) entries) (sym is)

leaving_none : (size : ℕ) (entries : List Entry) (serial : ℕ) → fits size (serials_in entries ++ serial ∷ []) ≡ true → leaving size entries serial ≡ []
leaving_none size [] serial fit = refl
leaving_none size (entry ∷ entries) serial fit = rw fit refl

-- those from a place on stay
pub stay_there : (size : ℕ) (entries : List Entry) (at serial : ℕ) (owners : List ℕ) → fits size (serials_in (drop at entries) ++ serial ∷ []) ≡ true → owners ++ leaving size (drop at entries) serial ≡ leaving size entries serial → owners ≡ leaving size entries serial
stay_there size entries at serial owners fit so_far =
    sym (append-nil owners) ∙ (ap (λ ls. owners ++ ls) (sym (leaving_none size (drop at entries) serial fit)) ∙ so_far)

leaving_one : (size : ℕ) (entry : Entry) (entries : List Entry) (serial : ℕ) → fits size (serials_in (entry ∷ entries) ++ serial ∷ []) ≡ false → leaving size (entry ∷ entries) serial ≡ entry.owner ∷ leaving size entries serial
leaving_one size entry entries serial not_fit = rw not_fit refl

-- the one at a place leaves
pub one_leaves : (size : ℕ) (entries : List Entry) (at serial : ℕ) (entry : Entry) (owners now : List ℕ) → at < length entries → entry ≡ get_or entries at entry → fits size (serials_in (drop at entries) ++ serial ∷ []) ≡ false
    → now ≡ owners ++ entry.owner ∷ [] → owners ++ leaving size (drop at entries) serial ≡ leaving size entries serial → now ++ leaving size (drop (at + 1) entries) serial ≡ leaving size entries serial
one_leaves size entries at serial entry owners now within is not_fit now_is so_far =
    let here = entries_from entries at entry within is in
    let not_here : fits size (serials_in (entry ∷ drop (at + 1) entries) ++ serial ∷ []) ≡ false = ap (λ es. fits size (serials_in es ++ serial ∷ [])) (sym here) ∙ not_fit in
    ap (λ ls. ls ++ leaving size (drop (at + 1) entries) serial) now_is
    ∙ (append_assoc owners (entry.owner ∷ []) (leaving size (drop (at + 1) entries) serial)
    ∙ (ap (λ ls. owners ++ ls) (sym (ap (λ es. leaving size es serial) here ∙ leaving_one size entry (drop (at + 1) entries) serial not_here)) ∙ so_far))

-- all leave
pub all_leave : (size : ℕ) (entries : List Entry) (at serial : ℕ) (owners : List ℕ) → length entries ≤ at → owners ++ leaving size (drop at entries) serial ≡ leaving size entries serial → owners ≡ leaving size entries serial
all_leave size entries at serial owners end so_far =
    sym (append-nil owners) ∙ (ap (λ es. owners ++ leaving size es serial) (sym (drop_all at entries end)) ∙ so_far)

-- what is found of the entries behind that of a serial, where the rest of them are these
abbrev pub found_of : ℕ → Bool → List ℕ → List Entry → List ℕ
found_of serial true owners entries = owners ++ owners_in entries
found_of serial false owners entries = behind serial entries

-- the entries numbered up to a number, from a place on
abbrev pub left_up_to : ℕ → List Entry → ℕ → List Entry
left_up_to number entries at = filter (λ (entry : Entry). nat_le entry.number number) (drop at entries)

left_with : (number : ℕ) (entries : List Entry) (at : ℕ) (entry : Entry) → at < length entries → entry ≡ get_or entries at entry → nat_le entry.number number ≡ true → left_up_to number entries at ≡ entry ∷ left_up_to number entries (at + 1)
left_with number entries at entry within is up = ap (filter (λ (e : Entry). nat_le e.number number)) (entries_from entries at entry within is) ∙ rw up refl

-- an entry that is numbered behind the number is passed over
pub left_without : (number : ℕ) (entries : List Entry) (at : ℕ) (entry : Entry) → at < length entries → entry ≡ get_or entries at entry → nat_le entry.number number ≡ false → left_up_to number entries at ≡ left_up_to number entries (at + 1)
left_without number entries at entry within is behind_it = ap (filter (λ (e : Entry). nat_le e.number number)) (entries_from entries at entry within is) ∙ rw behind_it refl

-- one behind that of the serial is taken
pub one_found : (serial number : ℕ) (entries : List Entry) (at : ℕ) (entry : Entry) (owners now all : List ℕ) → at < length entries → entry ≡ get_or entries at entry → nat_le entry.number number ≡ true → now ≡ owners ++ entry.owner ∷ []
    → found_of serial true owners (left_up_to number entries at) ≡ all → found_of serial true now (left_up_to number entries (at + 1)) ≡ all
one_found serial number entries at entry owners now all within is up now_is so_far =
    ap (λ ls. ls ++ owners_in (left_up_to number entries (at + 1))) now_is
    ∙ (append_assoc owners (entry.owner ∷ []) (owners_in (left_up_to number entries (at + 1)))
    ∙ (ap (λ es. owners ++ owners_in es) (sym (left_with number entries at entry within is up)) ∙ so_far))

-- that of the serial is met
pub serial_met : (serial number : ℕ) (entries : List Entry) (at : ℕ) (entry : Entry) (owners all : List ℕ) → at < length entries → entry ≡ get_or entries at entry → nat_le entry.number number ≡ true → (entry.serial.0 == serial) ≡ true → owners ≡ []
    → found_of serial false owners (left_up_to number entries at) ≡ all → found_of serial true owners (left_up_to number entries (at + 1)) ≡ all
serial_met serial number entries at entry owners all within is up same none so_far =
    ap (λ ls. ls ++ owners_in (left_up_to number entries (at + 1))) none
    ∙ (sym (ap (behind serial) (left_with number entries at entry within is up) ∙ rw same refl) ∙ so_far)

-- or another
pub serial_missed : (serial number : ℕ) (entries : List Entry) (at : ℕ) (entry : Entry) (owners all : List ℕ) → at < length entries → entry ≡ get_or entries at entry → nat_le entry.number number ≡ true → (entry.serial.0 == serial) ≡ false
    → found_of serial false owners (left_up_to number entries at) ≡ all → found_of serial false owners (left_up_to number entries (at + 1)) ≡ all
serial_missed serial number entries at entry owners all within is up other so_far =
    sym (ap (behind serial) (left_with number entries at entry within is up) ∙ rw other refl) ∙ so_far

pub passed_over : (serial number : ℕ) (found : Bool) (entries : List Entry) (at : ℕ) (entry : Entry) (owners all : List ℕ) → at < length entries → entry ≡ get_or entries at entry → nat_le entry.number number ≡ false
    → found_of serial found owners (left_up_to number entries at) ≡ all → found_of serial found owners (left_up_to number entries (at + 1)) ≡ all
passed_over serial number found entries at entry owners all within is behind_it so_far =
    ap (found_of serial found owners) (sym (left_without number entries at entry within is behind_it)) ∙ so_far

none_left : (number : ℕ) (entries : List Entry) (at : ℕ) → length entries ≤ at → left_up_to number entries at ≡ []
none_left number entries at end = ap (filter (λ (e : Entry). nat_le e.number number)) (drop_all at entries end)

-- all entries are looked at
pub all_found : (serial number : ℕ) (found : Bool) (entries : List Entry) (at : ℕ) (owners all : List ℕ) → length entries ≤ at → (found ≡ false → owners ≡ []) → found_of serial found owners (left_up_to number entries at) ≡ all → owners ≡ all
all_found serial number true entries at owners all end none so_far = sym (append-nil owners) ∙ (ap (λ es. owners ++ owners_in es) (sym (none_left number entries at end)) ∙ so_far)
all_found serial number false entries at owners all end none so_far = none refl ∙ (ap (behind serial) (sym (none_left number entries at end)) ∙ so_far)

-- the way from one entry to the next, with the way from there on, is the whole way
pub way_on : (entries : List Entry) (at serial last sum now all : ℕ) (entry : Entry) → at < length entries → entry ≡ get_or entries at entry → now ≡ sum + serial_distance last entry.serial.0
    → sum + span last (serials_in (drop at entries) ++ serial ∷ []) ≡ all → now + span entry.serial.0 (serials_in (drop (at + 1) entries) ++ serial ∷ []) ≡ all
way_on entries at serial last sum now all entry within is now_is so_far =
    let here : span last (serials_in (drop at entries) ++ serial ∷ []) ≡ serial_distance last entry.serial.0 + span entry.serial.0 (serials_in (drop (at + 1) entries) ++ serial ∷ []) =
    ap (λ es. span last (serials_in es ++ serial ∷ [])) (entries_from entries at entry within is) in
    omega (arith, now_is, here, so_far)

pub way_end : (entries : List Entry) (at serial last sum all : ℕ) → length entries ≤ at → sum + span last (serials_in (drop at entries) ++ serial ∷ []) ≡ all → sum + serial_distance last serial ≡ all
way_end entries at serial last sum all end so_far =
    let here : span last (serials_in (drop at entries) ++ serial ∷ []) ≡ serial_distance last serial + 0 = ap (λ es. span last (serials_in es ++ serial ∷ [])) (drop_all at entries end) in
    omega (arith, here, so_far)
