use Rattle.std.proofs.Common.{◌≡◌, ℕ, List, take, drop, None, ap, subst, ◌∙◌}
use Rattle.std.proofs.lemmas.List.{take_min, drop_min}
use Rattle.wire_names.specs.Written.{IsOverwritten}
use Rattle.dns_message.specs.Encoding.{these}
use Rattle.dns_message.specs.Encoded.{WritesEncoding}
use Rattle.dns_message.specs.Octets.{names_octets}
use Rattle.dns_message.proofs.EncodedLemmas.{stays, WritesParts-octets, WritesEncoding-these, WritesEncoding-stop, WritesEncoding-behind}
use Rattle.dns_message.proofs.data.put_fields.Goals as goal

pub returns-in_err-at : goal.returns-in_err-at
returns-in_err-at c =
    let front : c.split_at.result.0.now ≡ take c.args.front c.args.octets.now = c.split_at.ensures.front ∙ ap (λ (n : ℕ). take n c.args.octets.now) c.min.ensures ∙ take_min c.args.front c.args.octets.now in
    let parts = WritesParts-octets c.args.out.now c.put.new.out c.args.at c.split_at.result.0.now None c.in_err-at.ensures in
    let short = WritesEncoding-these c.split_at.result.0.now c.args.out.now c.put.new.out c.args.at c.args.names.now None c.requires.table parts in
    let stops = subst (λ (octets : List ℕ). WritesEncoding (these octets) c.args.out.now c.put.new.out c.args.at c.args.names.now c.args.names.now None) front short in
    rw c.from_residual.ensures (WritesEncoding-stop (these (take c.args.front c.args.octets.now)) (names_octets c.args.compress c.args.count (drop c.args.front c.args.octets.now)) c.args.out.now c.put.new.out c.args.at c.args.names.now c.args.names.now c.args.names.now stops)

pub put_names-requires-clause-table : goal.put_names-requires-clause-table
put_names-requires-clause-table c = (stays _ _ _ _ _ _ c.requires.table c.in_ok-at.ensures).all

pub returns : goal.returns
returns c =
    let front : c.split_at.result.0.now ≡ take c.args.front c.args.octets.now = c.split_at.ensures.front ∙ ap (λ (n : ℕ). take n c.args.octets.now) c.min.ensures ∙ take_min c.args.front c.args.octets.now in
    let rest : c.split_at.result.1.now ≡ drop c.args.front c.args.octets.now = c.split_at.ensures.back ∙ ap (λ (n : ℕ). drop n c.args.octets.now) c.min.ensures ∙ drop_min c.args.front c.args.octets.now in
    let first = subst (λ (octets : List ℕ). IsOverwritten c.args.out.now c.put.new.out c.args.at octets c.in_ok-at.at) front c.in_ok-at.ensures in
    let second = subst (λ (octets : List ℕ). WritesEncoding (names_octets c.args.compress c.args.count octets) c.put.new.out c.put_names.new.out c.in_ok-at.at c.args.names.now c.put_names.new.names c.put_names.result) rest c.put_names.ensures in
    WritesEncoding-behind _ _ _ _ _ _ _ _ _ _ c.requires.table first second
