use Rattle.std.proofs.Common.{◌≡◌, ◌+◌, ◌*◌, ℕ, List, length, subst, arith, Vec, Global}
use Rattle.std.proofs.lemmas.List.{length-map}
use Rattle.journal.specs.Batch.{Messages, octets_in, request_octets}
use Rattle.journal.proofs.RequestLemmas.{octets_of, request_is_long}
use Rattle.journal.proofs.request.RequestMessages.batch_len.Goals as goal

pub returns : goal.returns
returns c =
    let long : length (request_octets c.args.self.now) ≡ octets_in c.args.self.now + (4 * length (octets_of c.self.inside.more.items) + 2) =
    subst (λ (r : Messages). length (request_octets r) ≡ octets_in r + (4 * length (octets_of c.self.inside.more.items) + 2)) c.self.view_is
    (request_is_long c.self.inside.first.items (octets_of c.self.inside.more.items)) in
    omega (arith, long, length-map c.self.inside.more.items (λ (m : Vec ℕ Global). m.items), c.self.inside.more.ok.0)
