-- What the words of a key file stand for (RFC 8945, 4.2 and 6; RFC 4648, 4).
use Rattle.std.specs.Prelude.{◌≡◌, ◌≤◌, ℕ, ◌-◌, Bool, ◌||◌, ◌==◌, List, [], ◌∷◌, ◌++◌, length, map, take, drop, codes, bytes_eq, nat_lt, if◌then◌else◌, Result, Ok, Err}
use Rattle.std.specs.List.{All, IsDistinct}
use Rattle.std.specs.Char.{to_ascii_lowercase}
use Rattle.base64.specs.Engines.{standard}
use Rattle.base64.specs.GeneralPurpose.{decode_of}
use Rattle.dns_name.specs.Name.{Name, wire_of, is_same, fold_name}
use Rattle.dns_name.specs.Text.{name_of_text}
use Rattle.hmac.specs.Hmac.{keyed}
use Rattle.hmac.specs.declared.algorithm.Algorithm.{Algorithm}
use Rattle.hmac.specs.declared.algorithm.Algorithm.TheVariants.{Sha256, Sha384, Sha512}
use Rattle.tsig.specs.Keys.{SharedKey}
use Rattle.key_file.specs.declared.fault.KeyFault.{KeyFault}
use Rattle.key_file.specs.declared.fault.KeyFault.TheVariants.{WeakAlgorithm, UnknownAlgorithm, BadName, LongName, Base64, Size}

-- a name, refused where it has more than 128 octets (own)
abbrev pub short_name : Name → Result Name KeyFault
short_name name = if nat_lt 128 (length (wire_of name)) then Err LongName else Ok name

-- the key's name that a word is, in lower case; a word without a final dot is below the root
abbrev pub key_name : List ℕ → Result Name KeyFault
key_name word = elim (name_of_text word []) [ Err fault ↦ Err BadName | Ok name ↦ short_name (fold_name name) ]

-- whether a text is this word, in any case
abbrev pub is_word : List ℕ → List ℕ → Bool
is_word text word = bytes_eq (map to_ascii_lowercase text) (map to_ascii_lowercase word)

-- a word without the dot at its end, where it has one
abbrev pub without_dot : List ℕ → List ℕ
without_dot word = if bytes_eq (drop (length word - 1) word) (codes ".") then take (length word - 1) word else word

-- whether a word names an algorithm that RFC 8945, 6 advises against, in any case
abbrev pub is_weak : List ℕ → Bool
is_weak word = is_word word (codes "hmac-md5.sig-alg.reg.int") || is_word word (codes "hmac-md5") || is_word word (codes "hmac-sha1")

-- the algorithm that a word without a final dot names, in any case (RFC 8945, 6)
abbrev pub algorithm_named : List ℕ → Result Algorithm KeyFault
algorithm_named word =
    if is_word word (codes "hmac-sha256") then Ok Sha256
    else if is_word word (codes "hmac-sha384") then Ok Sha384
    else if is_word word (codes "hmac-sha512") then Ok Sha512
    else if is_weak word then Err WeakAlgorithm
    else Err UnknownAlgorithm

-- a secret, where it has an octet and at most 1,024 (own)
abbrev pub sized : List ℕ → Result (List ℕ) KeyFault
sized secret = if length secret == 0 || nat_lt 1024 (length secret) then Err Size else Ok secret

-- the secret that a word is in base64 (RFC 4648, 4)
abbrev pub secret_in : List ℕ → Result (List ℕ) KeyFault
secret_in word = elim (decode_of standard word) [ Err fault ↦ Err Base64 | Ok secret ↦ sized secret ]

-- whether two keys have one name, but for case
abbrev pub have_one_name : SharedKey → SharedKey → Bool
have_one_name key other = is_same key.name other.name

-- keys of which a key file may consist: at most 256, each name in lower case and of at most 128 octets, no two of one name
pub record AreKeys (keys : List SharedKey) : Type 0 where
  pub few : length keys ≤ 256
  pub short : All (λ key. length (wire_of key.name) ≤ 128) keys
  pub folded : All (λ key. fold_name key.name ≡ key.name) keys
  pub distinct : IsDistinct have_one_name keys

-- the keys after a statement's key was added: those before it, and one of the name, the algorithm and the secret that its words stand for
pub record IsKeyOf (name algorithm secret : List ℕ) (before after : List SharedKey) : Type 0 where
  pub key : SharedKey
  pub octets : List ℕ
  pub name_is : key_name name ≡ Ok key.name
  pub algorithm_is : algorithm_named (without_dot algorithm) ≡ Ok key.secret.algorithm
  pub octets_are : secret_in secret ≡ Ok octets
  pub secret_is : key.secret ≡ keyed key.secret.algorithm octets
  pub added : after ≡ before ++ key ∷ []
