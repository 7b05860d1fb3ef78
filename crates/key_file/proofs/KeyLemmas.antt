-- That the keys of a file stay lawful, one by one.
use Rattle.std.proofs.Common.{◌≡◌, ℕ, ◌≤◌, ◌<◌, Bool, false, List, [], ◌∷◌, ◌++◌, length, map, Option, Some, None, refl, sym, subst, ◌∙◌, arith}
use Rattle.std.specs.Option.{is_some}
use Rattle.std.specs.Char.{to_ascii_lowercase}
use Rattle.std.specs.Cmp.{on_equiv}
use Rattle.std.specs.List.{IsDistinct, list_any, position, position_or_len}
use Rattle.std.proofs.lemmas.Grind.{common_steps}
use Rattle.std.proofs.lemmas.List.{length_push}
use Rattle.std.proofs.lemmas.List.Folds.{list_any_none}
use Rattle.std.proofs.lemmas.List.Sums.{fails_before_first}
use Rattle.std.proofs.lemmas.List.Elements.{All-nil, All-push}
use Rattle.std.proofs.lemmas.Map.Keys.{IsDistinct-push}
use Rattle.std.proofs.lemmas.Str.Ascii.{lowercase-lowercase}
use Rattle.dns_name.specs.Name.{Name, wire_of, is_same, fold_name}
use Rattle.dns_name.specs.Order.{is_same_equiv}
use Rattle.tsig.specs.Keys.{SharedKey, index_named}
use Rattle.key_file.specs.Keys.{AreKeys, have_one_name}

-- folding again changes nothing
fold_label-fold_label : (label : List ℕ) → map to_ascii_lowercase (map to_ascii_lowercase label) ≡ map to_ascii_lowercase label
fold_label-fold_label [] = refl
fold_label-fold_label (x ∷ label) =
    let first = lowercase-lowercase x in
    let rest = fold_label-fold_label label in
    cc

pub fold_twice : (name : List (List ℕ)) → fold_name (fold_name name) ≡ fold_name name
fold_twice [] = refl
fold_twice (label ∷ name) =
    let first = fold_label-fold_label label in
    let rest = fold_twice name in
    cc

-- where no place is the first none passes
none_passes : (p : SharedKey → Bool) (keys : List SharedKey) → position p keys ≡ None → list_any p keys ≡ false
none_passes p keys e =
    let all : length keys ≤ position_or_len p keys = grind (arith, common_steps) in
    list_any_none p keys (λ k d lt. fails_before_first p keys k d (omega arith))

-- a key's name is another's where the other's is its
from_others : (key : SharedKey) (keys : List SharedKey) → list_any (have_one_name key) keys ≡ list_any (λ other. is_same other.name key.name) keys
from_others key [] = refl
from_others key (other ∷ keys) =
    let first : is_same key.name other.name ≡ is_same other.name key.name = is_same_equiv.symm key.name other.name in
    let rest = from_others key keys in
    cc

-- one more key, whose name none has
pub with_key : (keys : List SharedKey) (key : SharedKey) → AreKeys keys → length keys < 256 → length (wire_of key.name) ≤ 128 → fold_name key.name ≡ key.name
    → index_named key.name keys ≡ None → AreKeys (keys ++ key ∷ [])
with_key keys key are room short folded none =
    let len = length_push keys key in
    record {
      few = omega arith;
      short = All-push (λ (k : SharedKey). length (wire_of k.name) ≤ 128) keys key are.short short;
      folded = All-push (λ (k : SharedKey). fold_name k.name ≡ k.name) keys key are.folded folded;
      distinct = IsDistinct-push (on_equiv (λ (k : SharedKey). k.name) is_same_equiv) keys key are.distinct (from_others key keys ∙ none_passes (λ (other : SharedKey). is_same other.name key.name) keys none);
    }

is_none : (index : Option ℕ) → is_some index ≡ false → index ≡ None
is_none None e = refl
is_none (Some index) e = cc

-- the same of a list to which it is added
pub added : (before after : List SharedKey) (key : SharedKey) (name : Name) → AreKeys before → length before < 256 → length (wire_of name) ≤ 128 → fold_name name ≡ name → is_some (index_named name before) ≡ false → key.name ≡ name
    → after ≡ before ++ key ∷ [] → AreKeys after
added before after key name are room short folded none own is =
    subst AreKeys (sym is) (
    with_key before key are room (subst (λ (n : Name). length (wire_of n) ≤ 128) (sym own) short) (subst (λ (n : Name). fold_name n ≡ n) (sym own) folded)
    (subst (λ (n : Name). index_named n before ≡ None) (sym own) (is_none (index_named name before) none)))

-- a file without a key
pub no_keys : AreKeys []
unfolding IsDistinct
no_keys = record { few = omega arith; short = All-nil (λ (k : SharedKey). length (wire_of k.name) ≤ 128); folded = All-nil (λ (k : SharedKey). fold_name k.name ≡ k.name); distinct = tt }
