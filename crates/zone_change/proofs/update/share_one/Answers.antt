use Rattle.std.proofs.Common.{◌≡◌, Bool, true, false, ◌&&◌, ◌==◌, sym, ◌∙◌, bytes_eq}
use Rattle.std.specs.List.{list_any}
use Rattle.dns_rdata.specs.Record.{ttl_of}
use Rattle.zone_change.proofs.ServerLemmas.{shared}
use Rattle.zone_change.proofs.update.share_one.Goals as goal

pub returns-then-have_one_datum : goal.returns-then-have_one_datum
returns-then-have_one_datum c =
    let own = c.args.own.now in
    let other = c.args.other.now in
    let one : Bool = list_any (λ e. list_any (λ d. bytes_eq e.octets d.octets) c.data.result.now) c.data-2.result.now in
    let is : one ≡ true = sym c.have_one_datum.ensures ∙ c.if-have_one_datum.true in
    c.eq.ensures ∙ (λ i. c.ttl.ensures.of i == c.ttl-then-have_one_datum.ensures.of i) ∙ (λ i. sym is i && ttl_of other == ttl_of own)
    ∙ shared own other c.data.result.now c.data-2.result.now c.data.ensures.records c.data-2.ensures.records c.requires.owner c.requires.rtype

pub returns-else-have_one_datum : goal.returns-else-have_one_datum
returns-else-have_one_datum c =
    let own = c.args.own.now in
    let other = c.args.other.now in
    let one : Bool = list_any (λ e. list_any (λ d. bytes_eq e.octets d.octets) c.data.result.now) c.data-2.result.now in
    let is : one ≡ false = sym c.have_one_datum.ensures ∙ c.if-have_one_datum.false in
    c.have_one_datum.ensures ∙ is ∙ (λ i. sym is i && ttl_of other == ttl_of own)
    ∙ shared own other c.data.result.now c.data-2.result.now c.data.ensures.records c.data-2.ensures.records c.requires.owner c.requires.rtype
