use Rattle.std.proofs.Common.{List, ℕ, ◌++◌, ap, sym, ◌∙◌}
use Rattle.std.proofs.lemmas.Slice.{pushed}
use Rattle.journal.specs.Head.{name, sum_octets}
use Rattle.journal.proofs.HeadLemmas.{head_written}
use Rattle.journal.proofs.head_octets.write_head.Goals as goal

pub returns : goal.returns
returns c =
    let one = pushed name c.new-octets.ensures.items c.in_ok-extend_from_slice.was c.extend_from_slice.ensures.items in
    let two = pushed c.to_be_bytes.result one c.in_ok-extend_from_slice-2.was c.extend_from_slice-2.ensures.items in
    let three = pushed c.args.head.now.random two c.in_ok-extend_from_slice-3.was c.extend_from_slice-3.ensures.items in
    let four = c.in_ok-put_sum.ensures ∙ ap (λ (o : List ℕ). o ++ sum_octets c.args.head.now.text) three in
    let five = pushed c.to_be_bytes-2.result four c.in_ok-extend_from_slice-4.was c.extend_from_slice-4.ensures.items in
    let six = c.in_ok-put_sum-2.ensures ∙ ap (λ (o : List ℕ). o ++ sum_octets c.args.head.now.origin) five in
    let all = pushed c.digest-salt.result (sym c.as_slice.ensures.value) c.in_ok-extend_from_slice-5.was c.extend_from_slice-5.ensures.items in
    head_written c.args.head.now c.to_be_bytes.result c.to_be_bytes-2.result c.as_slice.result.now c.digest-salt.result c.extend_from_slice-5.new.self.items
    c.to_be_bytes.ensures c.to_be_bytes-2.ensures (c.as_slice.ensures.value ∙ six) c.digest-salt.ensures all
