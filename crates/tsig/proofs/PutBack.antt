-- What is put back of a message behind which a record was put.
use Rattle.std.proofs.Common.{◌≡◌, ℕ, ◌+◌, ◌-◌, ◌^◌, ◌<◌, List, [], ◌∷◌, ◌++◌, length, take, drop, refl, sym, ap, ◌∙◌, arith}
use Rattle.std.specs.Int.{w16, to_be_bytes, from_be_bytes}
use Rattle.std.proofs.lemmas.List.{take_at}
use Rattle.std.proofs.lemmas.Nat.{from_be_bytes-to_be_bytes_2}
use Rattle.std.proofs.lemmas.List.{take_all}
use Rattle.std.proofs.lemmas.Slice.Eq.{bytes_eq-Decides}
use Rattle.std.specs.Prelude.{true, bytes_eq}
use Rattle.dns_message.specs.Message.{number_at}
use Rattle.tsig.specs.Digested.{without_tsig, message, timers, variables, mac_over}
use Rattle.tsig.specs.Fields.{Fields}
use Rattle.tsig.specs.Keys.{SharedKey}
use Rattle.tsig.specs.Verification.{is_right}
use Rattle.tsig.specs.Signing.{stamped, with_record, signed}
use Rattle.tsig.specs.declared.stamp.Stamp.{Stamp}

-- ARCOUNT less one
one_less : (count : ℕ) → count < 2 ^ 16 - 1 → from_be_bytes w16 (to_be_bytes w16 (count + 1)) - 1 ≡ count
one_less count fits = ap (λ n. n - 1) (from_be_bytes-to_be_bytes_2 (count + 1) (omega (arith, fits))) ∙ omega arith

front_of : (rest tail : List ℕ) → take (12 + length rest - 12) (rest ++ tail) ≡ rest
front_of rest tail = take_at rest tail (12 + length rest - 12) (omega arith)

pub put_back : (id count a b c d e f g h : ℕ) (rest tail : List ℕ) → count < 2 ^ 16 - 1
    → without_tsig (message id (a ∷ b ∷ c ∷ d ∷ e ∷ f ∷ g ∷ h ∷ []) (count + 1) (rest ++ tail)) (12 + length rest) id ≡ message id (a ∷ b ∷ c ∷ d ∷ e ∷ f ∷ g ∷ h ∷ []) count rest
unfolding without_tsig
put_back id count a b c d e f g h rest tail fits =
    ap (λ n. to_be_bytes w16 id ++ ((a ∷ b ∷ c ∷ d ∷ e ∷ f ∷ g ∷ h ∷ []) ++ (to_be_bytes w16 n ++ take (12 + length rest - 12) (rest ++ tail)))) (one_less count fits)
    ∙ ap (λ l. to_be_bytes w16 id ++ ((a ∷ b ∷ c ∷ d ∷ e ∷ f ∷ g ∷ h ∷ []) ++ (to_be_bytes w16 count ++ l))) (front_of rest tail)

-- a MAC begins with itself
begins : (mac : List ℕ) → bytes_eq mac (take (length mac) mac) ≡ true
begins mac = (bytes_eq-Decides mac (take (length mac) mac)).1 (sym (take_all (length mac) mac (omega arith)))

-- a record behind a message is one more in its count
counted : (id count a b c d e f g h : ℕ) (rest tail : List ℕ) → count < 2 ^ 16 - 1
    → with_record (message id (a ∷ b ∷ c ∷ d ∷ e ∷ f ∷ g ∷ h ∷ []) count rest) tail ≡ message id (a ∷ b ∷ c ∷ d ∷ e ∷ f ∷ g ∷ h ∷ []) (count + 1) (rest ++ tail)
counted id count a b c d e f g h rest tail fits =
    ap (λ n. to_be_bytes w16 id ++ ((a ∷ b ∷ c ∷ d ∷ e ∷ f ∷ g ∷ h ∷ []) ++ (to_be_bytes w16 (n + 1) ++ (rest ++ tail)))) (from_be_bytes-to_be_bytes_2 count (omega (arith, fits)))

-- so what was signed is put back of it
pub what_was_signed : (id count a b c d e f g h : ℕ) (rest tail : List ℕ) → id < 2 ^ 16 → count < 2 ^ 16 - 1
    → without_tsig (with_record (message id (a ∷ b ∷ c ∷ d ∷ e ∷ f ∷ g ∷ h ∷ []) count rest) tail) (12 + length rest) (number_at (message id (a ∷ b ∷ c ∷ d ∷ e ∷ f ∷ g ∷ h ∷ []) count rest) 0)
    ≡ message id (a ∷ b ∷ c ∷ d ∷ e ∷ f ∷ g ∷ h ∷ []) count rest
unfolding without_tsig
what_was_signed id count a b c d e f g h rest tail small fits =
    ap (λ m. without_tsig m (12 + length rest) (number_at (message id (a ∷ b ∷ c ∷ d ∷ e ∷ f ∷ g ∷ h ∷ []) count rest) 0)) (counted id count a b c d e f g h rest tail fits)
    ∙ ap (without_tsig (message id (a ∷ b ∷ c ∷ d ∷ e ∷ f ∷ g ∷ h ∷ []) (count + 1) (rest ++ tail)) (12 + length rest)) (from_be_bytes-to_be_bytes_2 id small)
    ∙ put_back id count a b c d e f g h rest tail fits

-- and its MAC is right
pub signed_right : (key : SharedKey) (prior : List ℕ) (stamp : Stamp) (id count a b c d e f g h : ℕ) (rest : List ℕ) → id < 2 ^ 16 → count < 2 ^ 16 - 1
    → let plain = message id (a ∷ b ∷ c ∷ d ∷ e ∷ f ∷ g ∷ h ∷ []) count rest in
    let own = mac_over key prior plain (stamped stamp plain []) in
    is_right key prior (signed key prior stamp plain) (12 + length rest) (stamped stamp plain own) ≡ true
unfolding is_right variables timers
signed_right key prior stamp id count a b c d e f g h rest small fits =
    let plain = message id (a ∷ b ∷ c ∷ d ∷ e ∷ f ∷ g ∷ h ∷ []) count rest in
    let own = mac_over key prior plain (stamped stamp plain []) in
    ap (λ m. bytes_eq own (take (length own) (mac_over key prior m (stamped stamp plain own)))) (what_was_signed id count a b c d e f g h rest _ small fits) ∙ begins own
