-- What is copied is the front of what is left.
use Rattle.std.proofs.Common.{◌≡◌, ◌-◌, ◌∙◌, sym, ap, drop, take, length, arith, length-drop, take_all}
use Rattle.std.proofs.lemmas.List.{drop-drop}
use Rattle.memory_devices.proofs.StreamLemmas.{gives_front}
use Rattle.memory_devices.proofs.memory_stream.MemoryStreamStream.read.Goals as goal

pub returns-clause-gives : goal.returns-clause-gives
returns-clause-gives c =
    let at = c.self.inside.at in
    let n = c.copy_front-len.result in
    let octets = c.deref.result.now in
    let left : drop at c.self.inside.input.items ≡ c.args.self.now.left = ap (λ t. t.left) c.self.view_is in
    let whole : take (length octets - at) (drop at octets) ≡ drop at octets = take_all (length octets - at) (drop at octets) (omega (arith, length-drop at octets)) in
    let front = c.copy_front-len.ensures.copied ∙ ap (λ l. take n l) (whole ∙ ap (λ l. drop at l) c.deref.ensures.value ∙ left) in
    let rest = sym (drop-drop n at c.self.inside.input.items) ∙ ap (λ l. drop n l) left in
    gives_front n c.args.self.now.left _ _ _ _ front rest (ap (λ t. t.written) c.self.view_is)
