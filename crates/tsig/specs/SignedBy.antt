-- A request that the holder of a key signed (RFC 8945, 5.2).
use Rattle.std.specs.Prelude.{◌≡◌, ℕ, ◌-◌, ◌≤◌, true, List, [], Some, slice_get}
use Rattle.dns_message.specs.Tsig.{place_in}
use Rattle.dns_message.specs.declared.tsig.Place.TheVariants.{At}
use Rattle.tsig.specs.Digested.{without_tsig, mac_over}
use Rattle.tsig.specs.Keys.{SharedKey, is_named}
use Rattle.tsig.specs.Tsig.{Tsig, tsig_at}
use Rattle.tsig.specs.declared.request_tsig.RequestTsig.{RequestTsig}

-- a key of this index has the name and the algorithm of the message's TSIG, whose MAC is the key's HMAC of the message without the TSIG and of the TSIG's variables, and
-- whose time is within its fudge; and so much is said of it
pub record IsSignedBy (keys : List SharedKey) (now : ℕ) (msg : List ℕ) (request_tsig : RequestTsig) : Type 0 where
  pub start : ℕ
  pub tsig : Tsig
  pub key : SharedKey
  pub stands : place_in msg ≡ Some (At start)
  pub read : tsig_at msg start ≡ Some tsig
  pub known : slice_get keys request_tsig.key ≡ Some key
  pub named : is_named tsig.owner tsig.algorithm key ≡ true
  pub right : tsig.fields.mac ≡ mac_over key [] (without_tsig msg start tsig.fields.original) tsig.fields
  pub early : now - tsig.fields.time ≤ tsig.fields.fudge
  pub late : tsig.fields.time - now ≤ tsig.fields.fudge
  pub mac_is : request_tsig.mac.items ≡ tsig.fields.mac
  pub start_is : request_tsig.start ≡ start
