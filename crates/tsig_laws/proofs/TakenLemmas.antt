-- A request that passes each check is taken as signed.
use Rattle.std.proofs.Common.{◌≡◌, ℕ, ◌-◌, ◌≤◌, true, false, not, ◌&&◌, List, [], length, Some, if◌then◌else◌, refl, ap, ◌∙◌, arith}
use Rattle.std.specs.Prelude.{nat_lt, nat_le}
use Rattle.std.proofs.lemmas.Bool.Decides.{nat_tests}
use Rattle.dns_message.specs.Reads.{is_reply}
use Rattle.dns_message.specs.Tsig.{place_in}
use Rattle.dns_message.specs.declared.tsig.Place.TheVariants.{At}
use Rattle.hmac.specs.Hmac.{mac_size}
use Rattle.hmac.specs.declared.algorithm.Algorithm.{Algorithm}
use Rattle.hmac.specs.declared.algorithm.Algorithm.TheVariants.{Sha256, Sha384, Sha512}
use Rattle.tsig.specs.Keys.{SharedKey, key_of}
use Rattle.tsig.specs.Tsig.{Tsig, tsig_at}
use Rattle.tsig.specs.Verification.{is_size, is_right, is_timely, request_tsig_of, by_mac, by_key, by_tsig, by_place, verified}
use Rattle.tsig.specs.declared.verifying.Verification.TheVariants.{Silent, Malformed, BadSig, BadTime, BadTrunc, Signed}

not_fewer : (a b : ℕ) → b ≤ a → nat_lt a b ≡ false
not_fewer a b e = grind (arith, nat_tests)

-- a MAC of the algorithm's size may stand there, and isn't cut short
whole_size : (algorithm : Algorithm) → is_size (mac_size algorithm) (mac_size algorithm) ≡ true
whole_size Sha256 = refl
whole_size Sha384 = refl
whole_size Sha512 = refl

not_short : (algorithm : Algorithm) → nat_lt (mac_size algorithm) (mac_size algorithm) ≡ false
not_short Sha256 = refl
not_short Sha384 = refl
not_short Sha512 = refl

timely : (now time fudge : ℕ) → now - time ≤ fudge → time - now ≤ fudge → (nat_le (now - time) fudge && nat_le (time - now) fudge) ≡ true
timely now time fudge early late =
    let first : nat_le (now - time) fudge ≡ true = grind (arith, nat_tests) in
    let second : nat_le (time - now) fudge ≡ true = grind (arith, nat_tests) in
    ap (λ b. b && nat_le (time - now) fudge) first ∙ second

-- a request whose key is known, whose MAC is whole and right, and whose time is within its fudge
pub by_its_mac : (now : ℕ) (msg : List ℕ) (start : ℕ) (tsig : Tsig) (index : ℕ) (key : SharedKey) → length tsig.fields.mac ≡ mac_size key.secret.algorithm → is_right key [] msg start tsig.fields ≡ true
    → now - tsig.fields.time ≤ tsig.fields.fudge → tsig.fields.time - now ≤ tsig.fields.fudge → by_mac now msg start tsig index key ≡ Signed (request_tsig_of index start tsig.fields)
by_its_mac now msg start tsig index key long right early late =
    let size = mac_size key.secret.algorithm in
    let said = request_tsig_of index start tsig.fields in
    let fits : is_size size (length tsig.fields.mac) ≡ true = ap (is_size size) long ∙ whole_size key.secret.algorithm in
    let whole : nat_lt (length tsig.fields.mac) size ≡ false = ap (λ n. nat_lt n size) long ∙ not_short key.secret.algorithm in
    ap (λ b. if not b then Malformed else if not (is_right key [] msg start tsig.fields) then BadSig tsig else if not (is_timely now tsig.fields) then BadTime said else if nat_lt (length tsig.fields.mac) size then BadTrunc said else Signed said) fits
    ∙ ap (λ b. if not b then BadSig tsig else if not (is_timely now tsig.fields) then BadTime said else if nat_lt (length tsig.fields.mac) size then BadTrunc said else Signed said) right
    ∙ ap (λ b. if not b then BadTime said else if nat_lt (length tsig.fields.mac) size then BadTrunc said else Signed said) (timely now tsig.fields.time tsig.fields.fudge early late)
    ∙ ap (λ b. if b then BadTrunc said else Signed said) whole

-- one whose TSIG is found, and read
pub taken : (keys : List SharedKey) (key : SharedKey) (index now : ℕ) (msg : List ℕ) (start : ℕ) (tsig : Tsig) → 12 ≤ length msg → is_reply msg ≡ false → place_in msg ≡ Some (At start) → tsig_at msg start ≡ Some tsig
    → key_of tsig.owner tsig.algorithm keys ≡ Some (index, key) → by_mac now msg start tsig index key ≡ Signed (request_tsig_of index start tsig.fields)
    → verified keys now msg ≡ Signed (request_tsig_of index start tsig.fields)
taken keys key index now msg start tsig header asks stands reads known good =
    ap (λ b. if b then Silent else (if is_reply msg then Silent else by_place keys now msg (place_in msg))) (not_fewer (length msg) 12 header)
    ∙ ap (λ b. if b then Silent else by_place keys now msg (place_in msg)) asks
    ∙ ap (by_place keys now msg) stands
    ∙ ap (by_tsig keys now msg start) reads
    ∙ ap (by_key now msg start tsig) known
    ∙ good
