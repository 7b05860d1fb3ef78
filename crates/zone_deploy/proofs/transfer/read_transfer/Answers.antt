use Rattle.std.proofs.Common.{◌≡◌, ◌||◌, true, false, List, ℕ, [], ◌∷◌, ◌++◌, sym, ap, ◌∙◌}
use Rattle.transfer_in.specs.Taking.{records_of_message}
use Rattle.zone_deploy.specs.Exchanges.{ends_with, has_records}
use Rattle.zone_deploy.proofs.TransferLemmas.{octets_of, octets_of-more, under_way-more, under_way-last}
use Rattle.zone_deploy.proofs.transfer.read_transfer.Goals as goal

pub returns-then-is_last : goal.returns-then-is_last
returns-then-is_last g c =
    let m : List ℕ = c.in_ok-message.message.items in
    let last : ends_with c.loop.has_begun (records_of_message m) ≡ true =
    ap (λ (o : List ℕ). ends_with c.loop.has_begun (records_of_message o)) (sym c.deref.ensures.value) ∙ sym c.in_ok-is_last.ensures.last ∙ c.if-is_last.true in
    let all : octets_of c.in_ok-whole.whole.items ≡ octets_of c.loop.messages.items ++ m ∷ [] =
    ap octets_of (c.in_ok-whole.ensures.same ∙ c.in_ok-put_part.ensures) ∙ octets_of-more c.loop.messages.items c.in_ok-message.message in
    λ now is.
    rw all (under_way-last _ _ _ _ _ _ _ _ _ _ m c.loop.invariant c.in_ok-message.ensures.read c.in_ok-message.ensures.code c.in_ok-message.ensures.signed last now is c.in_ok-whole.ensures.closed)

pub loop-preserved : goal.loop-preserved
loop-preserved g c =
    let m : List ℕ = c.in_ok-message.message.items in
    let goes_on : ends_with c.loop.has_begun (records_of_message m) ≡ false =
    ap (λ (o : List ℕ). ends_with c.loop.has_begun (records_of_message o)) (sym c.deref.ensures.value) ∙ sym c.in_ok-is_last.ensures.last ∙ c.if-is_last.false in
    let begun : c.note_part.new.has_begun ≡ (c.loop.has_begun || has_records (records_of_message m)) =
    c.in_ok-is_last.ensures.begun ∙ ap (λ (o : List ℕ). c.loop.has_begun || has_records (records_of_message o)) c.deref.ensures.value in
    let all : octets_of c.put_part.new.messages.items ≡ octets_of c.loop.messages.items ++ m ∷ [] =
    ap octets_of c.in_ok-put_part.ensures ∙ octets_of-more c.loop.messages.items c.in_ok-message.message in
    rw (begun, all) (under_way-more _ _ _ _ _ _ _ _ _ _ m c.loop.invariant c.in_ok-message.ensures.read c.in_ok-message.ensures.code c.in_ok-message.ensures.signed goes_on)
