use Rattle.std.proofs.Common.{◌≡◌, [], length, refl, sym, ap, ◌∙◌, append-nil}
use Rattle.journal.specs.Head.{head_of}
use Rattle.journal.specs.Log.{octets_of}
use Rattle.store_server.proofs.create.empty_log.Goals as goal

pub returns-clause-empty : goal.returns-clause-empty
returns-clause-empty c =
    let head = c.args.head.now in
    let is : c.args.octets.now ≡ octets_of head [] = c.requires.octets ∙ sym (append-nil (head_of head)) in
    c.in_ok-resume.ensures.holds head [] ([], c.requires.written ∙ is ∙ sym (append-nil (octets_of head []))) c.requires.salt refl (ap length is) tt
