use Rattle.std.proofs.Common.{◌≡◌, ℕ, [], ◌∷◌, length, Option, ◌∙◌, ap, rules, subst}
use Rattle.std.specs.Option.{option_copied}
use Rattle.dns_rdata.specs.declared.numbers.Rcode.TheVariants.{NoError}
use Rattle.dns_message.specs.Encoded.{WritesParts}
use Rattle.dns_message.specs.Octets.{questions}
use Rattle.dns_message.specs.Opt.{opt_part, opt_count}
use Rattle.dns_message.proofs.AnswersLemmas.{wrote}
use Rattle.dns_message.proofs.answers.write_answers.Goals as goal

pub returns-clause-octets : goal.returns-clause-octets
returns-clause-octets g c =
    let question = option_copied c.args.question in
    let count = c.put_body-at.result.1 in
    let opt = subst (λ (r : Option ℕ). WritesParts c.put_body-at.new.out c.put_opt.new.out c.put_body-at.result.0 (opt_part NoError c.args.opt) r) c.unwrap-at.ensures c.put_opt.ensures in
    let asked : c.from-asked.result ≡ length (questions question) = search rules in
    let opts : c.from.result ≡ opt_count c.args.opt = search rules in
    let counts : c.from-asked.result ∷ count ∷ 0 ∷ c.from.result ∷ [] ≡ length (questions question) ∷ count ∷ 0 ∷ opt_count c.args.opt ∷ [] = ap (λ (n : ℕ). n ∷ count ∷ 0 ∷ c.from.result ∷ []) asked ∙ ap (λ (n : ℕ). length (questions question) ∷ count ∷ 0 ∷ n ∷ []) opts in
    (wrote c.args.head question c.args.opt _ _ _ _ _ _ _ _ _ _ _ c.requires.least c.requires.most c.put_body-at.auto.out c.put_body-at.ensures opt counts c.put_header.ensures).octets

pub returns-clause-left : goal.returns-clause-left
returns-clause-left g c =
    let question = option_copied c.args.question in
    let count = c.put_body-at.result.1 in
    let opt = subst (λ (r : Option ℕ). WritesParts c.put_body-at.new.out c.put_opt.new.out c.put_body-at.result.0 (opt_part NoError c.args.opt) r) c.unwrap-at.ensures c.put_opt.ensures in
    let asked : c.from-asked.result ≡ length (questions question) = search rules in
    let opts : c.from.result ≡ opt_count c.args.opt = search rules in
    let counts : c.from-asked.result ∷ count ∷ 0 ∷ c.from.result ∷ [] ≡ length (questions question) ∷ count ∷ 0 ∷ opt_count c.args.opt ∷ [] = ap (λ (n : ℕ). n ∷ count ∷ 0 ∷ c.from.result ∷ []) asked ∙ ap (λ (n : ℕ). length (questions question) ∷ count ∷ 0 ∷ n ∷ []) opts in
    (wrote c.args.head question c.args.opt _ _ _ _ _ _ _ _ _ _ _ c.requires.least c.requires.most c.put_body-at.auto.out c.put_body-at.ensures opt counts c.put_header.ensures).rest

pub returns-clause-count : goal.returns-clause-count
returns-clause-count g c =
    let question = option_copied c.args.question in
    let count = c.put_body-at.result.1 in
    let opt = subst (λ (r : Option ℕ). WritesParts c.put_body-at.new.out c.put_opt.new.out c.put_body-at.result.0 (opt_part NoError c.args.opt) r) c.unwrap-at.ensures c.put_opt.ensures in
    let asked : c.from-asked.result ≡ length (questions question) = search rules in
    let opts : c.from.result ≡ opt_count c.args.opt = search rules in
    let counts : c.from-asked.result ∷ count ∷ 0 ∷ c.from.result ∷ [] ≡ length (questions question) ∷ count ∷ 0 ∷ opt_count c.args.opt ∷ [] = ap (λ (n : ℕ). n ∷ count ∷ 0 ∷ c.from.result ∷ []) asked ∙ ap (λ (n : ℕ). length (questions question) ∷ count ∷ 0 ∷ n ∷ []) opts in
    (wrote c.args.head question c.args.opt _ _ _ _ _ _ _ _ _ _ _ c.requires.least c.requires.most c.put_body-at.auto.out c.put_body-at.ensures opt counts c.put_header.ensures).reported
