-- What a request is that is taken as signed.
use Rattle.std.proofs.Common.{◌≡◌, ◌≢◌, ℕ, ◌-◌, ◌<◌, ◌≤◌, Bool, true, false, not, ◌&&◌, List, [], length, take, Option, Some, None, option_map, option_and_then, if◌then◌else◌, slice_get, get_or, unwrap_or, refl, sym, ap, ◌∙◌, arith}
use Rattle.std.specs.Prelude.{nat_le, nat_lt, bytes_eq, position}
use Rattle.std.proofs.lemmas.Bool.Decides.{nat_tests}
use Rattle.std.proofs.lemmas.List.{take_all}
use Rattle.std.proofs.lemmas.List.Quantifiers.{position-Some}
use Rattle.std.proofs.lemmas.Option.{get_or_from_slice_get}
use Rattle.std.proofs.lemmas.Slice.Eq.{bytes_eq-Decides}
use Rattle.hmac.proofs.Sizes.{length-hmac_by}
use Rattle.hmac.specs.Hmac.{mac_size}
use Rattle.dns_message.specs.Reads.{is_reply}
use Rattle.dns_message.specs.Tsig.{place_in}
use Rattle.dns_message.specs.declared.tsig.Place.{Place}
use Rattle.dns_message.specs.declared.tsig.Place.TheVariants.{Bare, Bad, At}
use Rattle.dns_name.specs.Name.{Name}
use Rattle.tsig.specs.Digested.{without_tsig, variables, digested, mac_over}
use Rattle.tsig.specs.Keys.{SharedKey, is_named, index_of, key_of}
use Rattle.tsig.specs.SignedBy.{IsSignedBy}
use Rattle.tsig.specs.Verification.{by_mac, by_key, by_tsig, by_place, verified, request_tsig_of, is_size, is_right, is_timely}
use Rattle.tsig.specs.Tsig.{Tsig, tsig_at}
use Rattle.tsig.specs.declared.request_tsig.RequestTsig.{RequestTsig}
use Rattle.tsig.specs.declared.verifying.Verification.{Verification}
use Rattle.tsig.specs.declared.verifying.Verification.TheVariants.{Unsigned, Silent, Malformed, BadKey, BadSig, BadTime, BadTrunc, Signed}

-- of a choice that comes to Signed the side that isn't Signed wasn't taken
past : (b : Bool) (x y : Verification) (request_tsig : RequestTsig) → ¬ (x ≡ Signed request_tsig) → (if b then x else y) ≡ Signed request_tsig → (b ≡ false) × (y ≡ Signed request_tsig)
past true x y request_tsig other is = absurd (other is)
past false x y request_tsig other is = (refl, is)

holds : (b : Bool) → not b ≡ false → b ≡ true
holds true e = refl
holds false e = cc

-- what was taken was judged
found : (now : ℕ) (msg : List ℕ) (start : ℕ) (tsig : Tsig) (o : Option (ℕ × SharedKey)) (request_tsig : RequestTsig) → by_key now msg start tsig o ≡ Signed request_tsig
    → (r : ℕ × SharedKey) × (o ≡ Some r) × (by_mac now msg start tsig r.0 r.1 ≡ Signed request_tsig)
found now msg start tsig None request_tsig is = cc
found now msg start tsig (Some r) request_tsig is = (r, refl, is)

read : (keys : List SharedKey) (now : ℕ) (msg : List ℕ) (start : ℕ) (o : Option Tsig) (request_tsig : RequestTsig) → by_tsig keys now msg start o ≡ Signed request_tsig
    → (tsig : Tsig) × (o ≡ Some tsig) × (by_key now msg start tsig (key_of tsig.owner tsig.algorithm keys) ≡ Signed request_tsig)
read keys now msg start None request_tsig is = cc
read keys now msg start (Some tsig) request_tsig is = (tsig, refl, is)

placed : (keys : List SharedKey) (now : ℕ) (msg : List ℕ) (o : Option Place) (request_tsig : RequestTsig) → by_place keys now msg o ≡ Signed request_tsig
    → (start : ℕ) × (o ≡ Some (At start)) × (by_tsig keys now msg start (tsig_at msg start) ≡ Signed request_tsig)
placed keys now msg None request_tsig is = cc
placed keys now msg (Some Bare) request_tsig is = cc
placed keys now msg (Some Bad) request_tsig is = cc
placed keys now msg (Some (At start)) request_tsig is = (start, refl, is)

abbrev some_is : {A : Type 0} → A → Option A
some_is x = Some x

some_same : {A : Type 0} {x y : A} → some_is x ≡ Some y → x ≡ y
some_same {A} {x} {y} is = ap (λ o. unwrap_or o x) is

-- a key that is named is in the list, and has the names: at the index that was found
named_at : (owner algorithm : Name) (keys : List SharedKey) (index : ℕ) (o : Option SharedKey) (r : ℕ × SharedKey) → position (is_named owner algorithm) keys ≡ Some index
    → slice_get keys index ≡ o → option_map (λ key. (index, key)) o ≡ Some r → (slice_get keys r.0 ≡ Some r.1) × (is_named owner algorithm r.1 ≡ true)
named_at owner algorithm keys index None r at there is = cc
named_at owner algorithm keys index (Some key) r at there is =
    let same : (index, key) ≡ r = some_same is in
    let passes : is_named owner algorithm (get_or keys index key) ≡ true = (position-Some (is_named owner algorithm) keys index key at).1 in (
      ap (slice_get keys) (sym (ap (λ p. p.0) same)) ∙ there ∙ ap (λ p. Some p.1) same,
      ap (is_named owner algorithm) (sym (ap (λ p. p.1) same)) ∙ ap (is_named owner algorithm) (sym (get_or_from_slice_get keys index key key there)) ∙ passes,
    )

-- and where one was looked for
named : (owner algorithm : Name) (keys : List SharedKey) (o : Option ℕ) (r : ℕ × SharedKey) → position (is_named owner algorithm) keys ≡ o
    → option_and_then (λ index. option_map (λ key. (index, key)) (slice_get keys index)) o ≡ Some r → (slice_get keys r.0 ≡ Some r.1) × (is_named owner algorithm r.1 ≡ true)
named owner algorithm keys None r at is = cc
named owner algorithm keys (Some index) r at is = named_at owner algorithm keys index (slice_get keys index) r at refl is

-- what holds of a request that was judged to be signed
record IsGood (now : ℕ) (msg : List ℕ) (start : ℕ) (tsig : Tsig) (index : ℕ) (key : SharedKey) (request_tsig : RequestTsig) : Type 0 where
  size : is_size (mac_size key.secret.algorithm) (length tsig.fields.mac) ≡ true
  right : is_right key [] msg start tsig.fields ≡ true
  timely : is_timely now tsig.fields ≡ true
  whole : nat_lt (length tsig.fields.mac) (mac_size key.secret.algorithm) ≡ false
  said : request_tsig_of index start tsig.fields ≡ request_tsig

abbrev signed_is : RequestTsig → Verification
signed_is x = Signed x

signed_same : {x y : RequestTsig} → signed_is x ≡ Signed y → x ≡ y
signed_same is = cc

good : (now : ℕ) (msg : List ℕ) (start : ℕ) (tsig : Tsig) (index : ℕ) (key : SharedKey) (request_tsig : RequestTsig) → by_mac now msg start tsig index key ≡ Signed request_tsig
    → IsGood now msg start tsig index key request_tsig
good now msg start tsig index key request_tsig is =
    let size = past (not (is_size (mac_size key.secret.algorithm) (length tsig.fields.mac))) Malformed _ request_tsig (λ e. cc) is in
    let right = past (not (is_right key [] msg start tsig.fields)) (BadSig tsig) _ request_tsig (λ e. cc) size.1 in
    let timely = past (not (is_timely now tsig.fields)) (BadTime (request_tsig_of index start tsig.fields)) _ request_tsig (λ e. cc) right.1 in
    let whole = past (nat_lt (length tsig.fields.mac) (mac_size key.secret.algorithm)) (BadTrunc (request_tsig_of index start tsig.fields)) (Signed (request_tsig_of index start tsig.fields)) request_tsig (λ e. cc) timely.1 in
    record {
      size = holds _ size.0;
      right = holds _ right.0;
      timely = holds _ timely.0;
      whole = whole.0;
      said = signed_same whole.1;
    }

both : (a b : Bool) → (a && b) ≡ true → (a ≡ true) × (b ≡ true)
both true b e = (refl, e)
both false b e = absurd (let h : false ≡ true = e in cc)

-- a MAC that is as long as the whole is the whole
whole_mac : (mac own : List ℕ) → bytes_eq mac (take (length mac) own) ≡ true → length own ≤ length mac → mac ≡ own
whole_mac mac own same long = (bytes_eq-Decides mac (take (length mac) own)).0 same ∙ take_all (length mac) own long

-- not fewer than so many
enough : (own mac size : ℕ) → own ≡ size → nat_lt mac size ≡ false → own ≤ mac
enough own mac size same few = grind (arith, nat_tests)

le-true : (a b : ℕ) → nat_le a b ≡ true → a ≤ b
le-true a b e = grind (arith, nat_tests)

-- so a request that is taken is signed
pub taken : (keys : List SharedKey) (now : ℕ) (msg : List ℕ) (request_tsig : RequestTsig) → verified keys now msg ≡ Signed request_tsig → IsSignedBy keys now msg request_tsig
unfolding is_right
taken keys now msg request_tsig is =
    let long = past (nat_lt (length msg) 12) Silent _ request_tsig (λ e. cc) is in
    let asked = past (is_reply msg) Silent _ request_tsig (λ e. cc) long.1 in
    let at = placed keys now msg (place_in msg) request_tsig asked.1 in
    let tsig = read keys now msg at.0 (tsig_at msg at.0) request_tsig at.2 in
    let key = found now msg at.0 tsig.0 (key_of tsig.0.owner tsig.0.algorithm keys) request_tsig tsig.2 in
    let is_named_so = named tsig.0.owner tsig.0.algorithm keys (index_of tsig.0.owner tsig.0.algorithm keys) key.0 refl key.1 in
    let is_good = good now msg at.0 tsig.0 key.0.0 key.0.1 request_tsig key.2 in
    let times = both _ _ is_good.timely in
    let f = tsig.0.fields in
    let own = mac_over key.0.1 [] (without_tsig msg at.0 f.original) f in
    record {
      start = at.0;
      tsig = tsig.0;
      key = key.0.1;
      stands = at.1;
      read = tsig.1;
      known = ap (λ a. slice_get keys a.key) (sym is_good.said) ∙ is_named_so.0;
      named = is_named_so.1;
      right = whole_mac f.mac own is_good.right (enough (length own) (length f.mac) (mac_size key.0.1.secret.algorithm) (length-hmac_by key.0.1.secret (digested [] (without_tsig msg at.0 f.original) (variables key.0.1 f))) is_good.whole);
      early = le-true (now - f.time) f.fudge times.0;
      late = le-true (f.time - now) f.fudge times.1;
      mac_is = ap (λ a. a.mac.items) (sym is_good.said);
      start_is = ap (λ a. a.start) (sym is_good.said);
    }
