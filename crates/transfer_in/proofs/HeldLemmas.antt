-- Records as they are held.
use Rattle.std.proofs.Common.{◌≡◌, ◌<◌, ◌^◌, ℕ, List, Some, All, sym, subst, ap, ◌∙◌}
use Rattle.dns_name.specs.Name.{Name, IsName, fold_name}
use Rattle.dns_rdata.specs.Data.{data_of, IsData}
use Rattle.dns_rdata.specs.Record.{IsLawful}
use Rattle.dns_rdata.proofs.NameLemmas.{fold_name-fold_name}

-- a record that enters is lawful
pub entered_lawful : (owner stored : Name) (rtype ttl : ℕ) (own : List ℕ) → stored ≡ fold_name owner → IsName stored → All (All (λ octet. octet < 256)) stored → ttl < 2 ^ 31 → data_of rtype own ≡ Some own → All (λ octet. octet < 256) own → IsLawful (record { owner = stored; rtype = rtype; ttl = ttl; rdata = own })
entered_lawful owner stored rtype ttl own folds name bytes lasts form each = record {
  name = name;
  owner_octets = bytes;
  folded = folds ∙ sym (fold_name-fold_name owner) ∙ ap fold_name (sym folds);
  lasts = lasts;
  form = form;
  octets = each;
}

-- and so is a record of a zone
pub lent_lawful : (owner stored : Name) (rtype ttl typed : ℕ) (octets : List ℕ) → stored ≡ fold_name owner → IsName stored → All (All (λ octet. octet < 256)) stored → ttl < 2 ^ 31 → typed ≡ rtype → IsData (record { rtype = typed; octets = octets }) → IsLawful (record { owner = stored; rtype = rtype; ttl = ttl; rdata = octets })
lent_lawful owner stored rtype ttl typed octets folds name bytes lasts same is = record {
  name = name;
  owner_octets = bytes;
  folded = folds ∙ sym (fold_name-fold_name owner) ∙ ap fold_name (sym folds);
  lasts = lasts;
  form = subst (λ t. data_of t octets ≡ Some octets) same is.form;
  octets = is.bytes;
}
