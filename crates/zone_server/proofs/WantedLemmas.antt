-- What a request gets for whose reading there is no memory.
use Rattle.std.proofs.Common.{◌≡◌, ℕ, ◌==◌, true, false, not, ◌&&◌, Bool, List, length, nat_lt, Some, None, Ok, Err, refl, ap, sym, ◌∙◌, arith}
use Rattle.std.proofs.lemmas.Bool.Decides.{nat_tests}
use Rattle.dns_rdata.specs.Record.{Record}
use Rattle.dns_message.specs.Reads.{header_of, is_reply, opcode_of}
use Rattle.dns_message.specs.Request.{is_update, update_of, reads, IsWant}
use Rattle.dns_message.specs.Updates.{update_in}
use Rattle.dns_message.proofs.UpdatesLemmas.{head_kept}
use Rattle.dns_message.specs.declared.query.Head.{Head}
use Rattle.dns_message.specs.declared.query.Parsed.{Parsed}
use Rattle.dns_message.specs.declared.query.Parsed.TheVariants.{NoMemory}
use Rattle.dns_message.specs.declared.update.Update.{Update}
use Rattle.serve_core.specs.declared.transport.Transport.{Transport}
use Rattle.serve_core.specs.Served.{Want, ForNothing, ForReading, ForMaking, got_for, got_of, without_memory}
use Rattle.serve_core.proofs.WantLemmas.{reads-want}

starved_update : (head : Head) (o : _) → ((update : Update) → o ≡ Some (Ok update) → update.head ≡ head) → head.opcode ≡ 5 → without_memory (update_of head o) ≡ NoMemory head
starved_update head None kept e =
    let is_update : (head.opcode == 5) ≡ true = ap (λ (n : ℕ). n == 5) e in
    rw is_update refl
starved_update head (Some (Ok update)) kept e = ap (λ (h : Head). NoMemory h) (kept update refl)
starved_update head (Some (Err bad)) kept e =
    let is_update : (head.opcode == 5) ≡ true = ap (λ (n : ℕ). n == 5) e in
    rw is_update refl

-- a request for which there is no memory is told as such, whatever it says
starved_request : (msg : List ℕ) (reported : Parsed) → IsWant msg reported → without_memory (reads msg) ≡ reported
starved_request msg reported want =
    ap without_memory (reads-want msg reported want) ∙ starved_update (header_of msg) (update_in (header_of msg) msg) (head_kept (header_of msg) msg) want.update ∙ sym want.is

told_already : (transport : Transport) (may : Bool) (want : Want) (zone : List Record) (head : Head) → got_of transport may want zone (NoMemory head) ≡ got_for transport may zone (NoMemory head)
told_already transport may ForNothing zone head = refl
told_already transport may ForReading zone head = refl
told_already transport may ForMaking zone head = refl

-- and gets what is got for want of memory in reading it
pub wanted_got : (transport : Transport) (may : Bool) (wants : Want) (zone : List Record) (msg : List ℕ) (reported : Parsed) → IsWant msg reported → got_of transport may wants zone reported ≡ got_of transport may ForReading zone (reads msg)
wanted_got transport may wants zone msg reported want =
    ap (got_of transport may wants zone) want.is
    ∙ told_already transport may wants zone (header_of msg)
    ∙ ap (got_for transport may zone) (sym want.is)
    ∙ ap (got_for transport may zone) (sym (starved_request msg reported want))

-- it asks for an update by its header
pub want_asks : (msg : List ℕ) (reported : Parsed) → IsWant msg reported → is_update msg ≡ true
want_asks msg reported want =
    let least = want.whole in
    let whole : nat_lt (length msg) 12 ≡ false = grind (arith, nat_tests) in
    ap (λ b. not b && not (is_reply msg) && (opcode_of msg == 5)) whole ∙ ap (λ b. not b && (opcode_of msg == 5)) want.asks ∙ ap (λ (n : ℕ). n == 5) want.update
