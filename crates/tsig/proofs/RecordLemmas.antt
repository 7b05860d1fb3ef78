-- What the data of a record says, by whether it was read.
use Rattle.std.proofs.Common.{◌≡◌, ℕ, List, Option, Some, None, Bor, option_map, option_and_then, refl, sym, ap, ◌∙◌}
use Rattle.dns_message.specs.Message.{Entry}
use Rattle.dns_name.specs.Name.{Name}
use Rattle.tsig.specs.Tsig.{Tsig, tsig_of, data_of}

abbrev now_of : Bor (List ℕ) → List ℕ
now_of octets = octets.now

-- of the record's data, or of the record
through : (owner : Name) (msg : List ℕ) (o : Option (Entry × ℕ)) → option_and_then (λ r. tsig_of owner (data_of msg r)) o ≡ option_and_then (tsig_of owner) (option_map (data_of msg) o)
through owner msg None = refl
through owner msg (Some r) = refl

-- where there is no data, there is no TSIG
pub none_behind : (owner : Name) (msg : List ℕ) (o : Option (Entry × ℕ)) (own : Option (Bor (List ℕ))) → option_map now_of own ≡ option_map (data_of msg) o → own ≡ None
    → None ≡ option_and_then (λ r. tsig_of owner (data_of msg r)) o
none_behind owner msg o own same is = sym (through owner msg o ∙ ap (option_and_then (tsig_of owner)) (sym same ∙ ap (option_map now_of) is))

-- and else the one of that data
pub some_behind : (owner : Name) (msg : List ℕ) (o : Option (Entry × ℕ)) (own : Option (Bor (List ℕ))) (octets : Bor (List ℕ)) → option_map now_of own ≡ option_map (data_of msg) o → own ≡ Some octets
    → tsig_of owner octets.now ≡ option_and_then (λ r. tsig_of owner (data_of msg r)) o
some_behind owner msg o own octets same is = sym (through owner msg o ∙ ap (option_and_then (tsig_of owner)) (sym same ∙ ap (option_map now_of) is))
