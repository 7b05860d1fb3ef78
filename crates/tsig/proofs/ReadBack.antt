-- The fields of a TSIG that are written are read.
use Rattle.std.proofs.Common.{◌≡◌, ◌==◌, ℕ, Bool, true, false, ◌+◌, ◌*◌, ◌/◌, ◌%◌, ◌^◌, ◌<◌, List, [], ◌∷◌, ◌++◌, length, take, drop, Option, Some, None, refl, sym, ap, ◌∙◌, arith, length-append, if◌then◌else◌}
use Rattle.std.specs.Int.{to_be_bytes, from_be_bytes, w16, w32}
use Rattle.std.proofs.lemmas.List.{take_at, drop_at, drop-drop}
use Rattle.std.proofs.lemmas.Nat.{from_be_bytes-to_be_bytes_2, from_be_bytes-to_be_bytes_4}
use Rattle.dns_message.specs.Message.{number_at}
use Rattle.dns_message.specs.Reads.{long_number_at}
use Rattle.tsig.specs.Fields.{Fields, HaveRoom, with_length, written, fields_in}

-- what is written after the MAC
abbrev ending : Fields → List ℕ
ending f = to_be_bytes w16 f.original ++ (to_be_bytes w16 f.error ++ with_length f.other)

-- what is read, by the MAC's size and what stands after it
abbrev from : ℕ → List ℕ → List ℕ → Option Fields
from size behind o =
    if 16 + size + number_at behind 4 == length o
    then Some (record {
      time = number_at o 0 * 2 ^ 32 + long_number_at o 2;
      fudge = number_at o 6;
      mac = take size (drop 10 o);
      original = number_at behind 0;
      error = number_at behind 2;
      other = drop 6 behind;
    })
    else None

chosen : (b : Bool) (x : Option Fields) → b ≡ true → (if b then x else None) ≡ x
chosen true x e = refl
chosen false x e = cc

eq_same : (n m : ℕ) → n ≡ m → (n == m) ≡ true
eq_same n m e = grind arith

size_read : (f : Fields) → HaveRoom f → number_at (written f) 8 ≡ length f.mac
size_read f room = from_be_bytes-to_be_bytes_2 (length f.mac) room.mac

behind_is : (f : Fields) → drop (10 + length f.mac) (written f) ≡ ending f
behind_is f = sym (drop-drop (length f.mac) 10 (written f)) ∙ drop_at f.mac (ending f) (length f.mac) refl

long : (f : Fields) → length (written f) ≡ 16 + length f.mac + length f.other
long f = simp length-append (omega arith)

abbrev some : Fields → Option Fields
some f = Some f

alike : (f : Fields) (time fudge original error : ℕ) (mac other : List ℕ) → time ≡ f.time → fudge ≡ f.fudge → mac ≡ f.mac → original ≡ f.original → error ≡ f.error → other ≡ f.other
    → some (record { time = time; fudge = fudge; mac = mac; original = original; error = error; other = other }) ≡ Some f
alike f time fudge original error mac other t u m o e r =
    ap (λ x. some (record { time = x; fudge = fudge; mac = mac; original = original; error = error; other = other })) t
    ∙ ap (λ x. some (record { time = f.time; fudge = x; mac = mac; original = original; error = error; other = other })) u
    ∙ ap (λ x. some (record { time = f.time; fudge = f.fudge; mac = x; original = original; error = error; other = other })) m
    ∙ ap (λ x. some (record { time = f.time; fudge = f.fudge; mac = f.mac; original = x; error = error; other = other })) o
    ∙ ap (λ x. some (record { time = f.time; fudge = f.fudge; mac = f.mac; original = f.original; error = x; other = other })) e
    ∙ ap (λ x. some (record { time = f.time; fudge = f.fudge; mac = f.mac; original = f.original; error = f.error; other = x })) r

high_bits : (time : ℕ) → time < 2 ^ 48 → time / 2 ^ 32 % 2 ^ 16 ≡ time / 2 ^ 32
high_bits time room = omega (arith, room)

time_read : (f : Fields) → HaveRoom f → number_at (written f) 0 * 2 ^ 32 + long_number_at (written f) 2 ≡ f.time
time_read f room =
    let high = from_be_bytes-to_be_bytes_2 (f.time / 2 ^ 32 % 2 ^ 16) (omega arith) in
    let low = from_be_bytes-to_be_bytes_4 (f.time % 2 ^ 32) (omega arith) in
    ap (λ n. n * 2 ^ 32 + long_number_at (written f) 2) (high ∙ high_bits f.time room.time) ∙ ap (λ n. f.time / 2 ^ 32 * 2 ^ 32 + n) low ∙ omega arith

pub read_back : (f : Fields) → HaveRoom f → fields_in (written f) ≡ Some f
read_back f room =
    let other = from_be_bytes-to_be_bytes_2 (length f.other) room.other in
    ap (λ n. from n (drop (10 + n) (written f)) (written f)) (size_read f room)
    ∙ ap (λ b. from (length f.mac) b (written f)) (behind_is f)
    ∙ chosen (16 + length f.mac + number_at (ending f) 4 == length (written f)) _ (eq_same _ _ (ap (λ n. 16 + length f.mac + n) other ∙ sym (long f)))
    ∙ alike f _ _ _ _ _ _ (time_read f room) (from_be_bytes-to_be_bytes_2 f.fudge room.fudge) (take_at f.mac (ending f) (length f.mac) refl) (from_be_bytes-to_be_bytes_2 f.original room.original) (from_be_bytes-to_be_bytes_2 f.error room.error) refl
