-- What stands after the algorithm's name in the data of a TSIG (RFC 8945, 4.2).
use Rattle.std.specs.Prelude.{ℕ, ◌+◌, ◌*◌, ◌/◌, ◌%◌, ◌^◌, ◌<◌, ◌==◌, List, [], ◌++◌, length, take, drop, Option, Some, None, if◌then◌else◌}
use Rattle.std.specs.Int.{to_be_bytes, w16, w32}
use Rattle.dns_message.specs.Message.{number_at}
use Rattle.dns_message.specs.Reads.{long_number_at}
use Rattle.tsig.specs.declared.tsig_error.TsigError.{TsigError}
use Rattle.tsig.specs.declared.tsig_error.TsigError.TheVariants.{NoError, BadSig, BadKey, BadTime, BadTrunc}

-- Time Signed in seconds since 1970, Fudge in seconds, the MAC, Original ID, Error, and Other Data
pub record Fields : Type 0 where
  pub time : ℕ
  pub fudge : ℕ
  pub mac : List ℕ
  pub original : ℕ
  pub error : ℕ
  pub other : List ℕ

-- a time in 48 bits
abbrev pub time_octets : ℕ → List ℕ
time_octets time = to_be_bytes w16 (time / 2 ^ 32 % 2 ^ 16) ++ to_be_bytes w32 (time % 2 ^ 32)

-- octets behind their number, of 16 bits
abbrev pub with_length : List ℕ → List ℕ
with_length octets = to_be_bytes w16 (length octets) ++ octets

-- the fields as they are written
abbrev pub written : Fields → List ℕ
written f =
    time_octets f.time
    ++ (to_be_bytes w16 f.fudge ++ (with_length f.mac ++ (to_be_bytes w16 f.original ++ (to_be_bytes w16 f.error ++ with_length f.other))))

-- the fields that octets are; none where these end before them or after them
abbrev pub fields_in : List ℕ → Option Fields
fields_in octets =
    let size = number_at octets 8 in
    let behind = drop (10 + size) octets in
    if 16 + size + number_at behind 4 == length octets
    then Some (record {
      time = number_at octets 0 * 2 ^ 32 + long_number_at octets 2;
      fudge = number_at octets 6;
      mac = take size (drop 10 octets);
      original = number_at behind 0;
      error = number_at behind 2;
      other = drop 6 behind;
    })
    else None

-- fields whose numbers have room
pub record HaveRoom (f : Fields) : Type 0 where
  pub time : f.time < 2 ^ 48
  pub fudge : f.fudge < 2 ^ 16
  pub mac : length f.mac < 2 ^ 16
  pub original : f.original < 2 ^ 16
  pub error : f.error < 2 ^ 16
  pub other : length f.other < 2 ^ 16

-- the number of an error (RFC 8945, 3)
abbrev pub error_number : TsigError → ℕ
error_number NoError = 0
error_number BadSig = 16
error_number BadKey = 17
error_number (BadTime now) = 18
error_number BadTrunc = 22

-- Other Data of an error: of BADTIME the server's time (RFC 8945, 5.2.3)
abbrev pub other_of : TsigError → List ℕ
other_of NoError = []
other_of BadSig = []
other_of BadKey = []
other_of (BadTime now) = time_octets now
other_of BadTrunc = []
