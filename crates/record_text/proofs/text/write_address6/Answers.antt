use Rattle.std.proofs.Common.{ℕ, ◌≡◌, ◌≤◌, ◌∷◌, [], ◌++◌, ◌∙◌, List, Option, Some, refl, sym, ap, subst, take, length, string_bytes, lit<}
use Rattle.std.proofs.lemmas.List.{append_assoc}
use Rattle.std.specs.Net.Addr.{segments_of}
use Rattle.record_text.specs.Text.{groups_text}
use Rattle.record_text.specs.Private.{WritesWord}
use Rattle.record_text.proofs.TextLemmas.{address6_word}
use Rattle.record_text.proofs.text.write_address6.Goals as goal

pub returns-clause-word : goal.returns-clause-word
returns-clause-word c =
    let octets = c.args.octets.now in
    let before = string_bytes c.args.text.now in
    let after = string_bytes c.write_groups.new.text in
    let word = groups_text (segments_of (take 16 octets)) in
    let long : 16 ≤ length octets = c.in-Some.ensures.variant.0 refl in
    let space : string_bytes c.push.new.self ≡ before ++ 32 ∷ [] = c.in_ok-push.ensures.bytes ∙ ap (λ (os : List ℕ). before ++ os) (c.in_ok-push.ensures.ascii (lit< tt)) in
    let wrote : after ≡ string_bytes c.push.new.self ++ groups_text c.segments-groups.result = c.in_ok-write_groups.ensures in
    let same : c.segments-groups.result ≡ segments_of (take 16 octets) = c.segments-groups.ensures ∙ c.from.ensures ∙ ap segments_of c.in-Some.ensures.cases.same in
    let assoc = append_assoc before (32 ∷ []) word in
    let is : after ≡ before ++ 32 ∷ word = wrote ∙ ap (λ (t : List ℕ). t ++ groups_text c.segments-groups.result) space ∙ ap (λ (gs : List ℕ). (before ++ 32 ∷ []) ++ groups_text gs) same ∙ assoc in
    subst (λ (w : Option (List ℕ × ℕ)). WritesWord w before after (Some 16)) (sym (address6_word octets long)) (refl, is)
