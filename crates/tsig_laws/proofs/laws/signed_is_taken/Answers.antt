-- Its MAC is whole and right, its TSIG is read as it was written, and so it is taken.
use Rattle.std.proofs.Common.{◌≡◌, ◌+◌, ◌≤◌, false, [], ◌∷◌, ◌++◌, length, length-append, Some, sym, ap, ◌∙◌, arith}
use Rattle.std.proofs.lemmas.Nat.{from_be_bytes-to_be_bytes_2}
use Rattle.dns_name.specs.Name.{wire_of}
use Rattle.dns_message.specs.Message.{number_at}
use Rattle.dns_message.specs.Reads.{is_reply}
use Rattle.hmac.proofs.Sizes.{length-hmac_by}
use Rattle.tsig.specs.Digested.{message, mac_over, digested, variables}
use Rattle.tsig.specs.Fields.{written}
use Rattle.tsig.specs.Keys.{algorithm_name}
use Rattle.tsig.specs.Signing.{stamped, signed}
use Rattle.tsig.specs.Tsig.{Tsig, tsig_at}
use Rattle.tsig.proofs.SizeLemmas.{name_size, mac_few}
use Rattle.tsig_laws.proofs.ReadLemmas.{algorithm_lawful, room_of, few_octets, numbers, tsig_read, counted, header_long, header_asks}
use Rattle.tsig_laws.proofs.TakenLemmas.{by_its_mac, taken}
use Rattle.tsig_laws.proofs.laws.signed_is_taken.Goals as goal

pub returns : goal.returns
returns c keys key index now stamp id count a b d e f g h i rest small fits asking lawful time fudge stands known early late =
    let middle = a ∷ b ∷ d ∷ e ∷ f ∷ g ∷ h ∷ i ∷ [] in
    let plain = message id middle count rest in
    let sent = signed key [] stamp plain in
    let mac = mac_over key [] plain (stamped stamp plain []) in
    let own = stamped stamp plain mac in
    let algorithm = algorithm_name key.secret.algorithm in
    let tsig : Tsig = record { owner = key.name; algorithm = algorithm; fields = own } in
    let long = length-hmac_by key.secret (digested [] plain (variables key (stamped stamp plain []))) in
    let most = mac_few key.secret.algorithm in
    let few : length mac ≤ 64 = omega (arith, long, most) in
    let first : number_at plain 0 ≡ id = from_be_bytes-to_be_bytes_2 id small in
    let room = room_of stamp plain mac time fudge few (omega (arith, first, small)) in
    let size = name_size key.secret.algorithm in
    let short = lawful.short in
    let names : length (wire_of key.name) + length (wire_of algorithm) ≤ 470 = omega (arith, size, short) in
    let front = message id middle (count + 1) rest in
    let tail = wire_of key.name ++ numbers (wire_of algorithm ++ written own) in
    let same : sent ≡ front ++ tail = counted id count a b d e f g h i rest tail fits in
    let behind : length front ≡ 12 + length rest = header_long id (count + 1) a b d e f g h i rest in
    let reads : tsig_at sent (12 + length rest) ≡ Some tsig =
    ap (λ m. tsig_at m (12 + length rest)) same ∙ ap (tsig_at (front ++ tail)) (sym behind)
    ∙ tsig_read front key.name algorithm own lawful (algorithm_lawful key.secret.algorithm) (c.fields_are_read_back.ensures own room) names (few_octets key.secret.algorithm stamp plain mac few) in
    let asks : is_reply sent ≡ false = ap is_reply same ∙ header_asks id (count + 1) a b d e f g h i rest tail asking in
    let all = ap length same ∙ length-append front tail in
    let header : 12 ≤ length sent = omega (arith, all, behind) in
    taken keys key index now sent (12 + length rest) tsig header asks stands reads known
    (by_its_mac now sent (12 + length rest) tsig index key long (c.what_is_signed.ensures.right key [] stamp id count a b d e f g h i rest small fits) early late)
