-- The machine value of a `Bare`.
use Rattle.std.proofs.Common.{◌≡◌, ℕ, ◌^◌, ◌<◌, T, List, [], ◌∷◌, ◌++◌, ap, ◌∙◌}
use mir.Syntax.{Ty, ty_ptr, ty_int, ty_struct, tcons, tnil, w64}
use mir.Val.{Val, vstruct, vcons, vnil, of_list, has_ty, WT}
use denote.RattleType.{RattleType}
use denote.Laws.{Is}
use denote.RawPtr.{Ptr, block_ptr, null_ptr}
use Rattle.core.specs.Mem.Slots.{lease_ptr, lease_len}
use Rattle.core.specs.declared.alloc.Allocator.{Ghosts}
use Rattle.core.proofs.slots.Leases.{lease_val}
use Rattle.atomic_table.proofs.Rights.{lease_good, lease_told}
use Rattle.raw_slots.specs.contracts.place.Spot as spots
use Rattle.raw_slots.specs.contracts.bare.Bare as bare
use Rattle.raw_slots.proofs.Fields.{lone_word, lone_good, row_told}

abbrev pub bare_val : Ptr → Ptr → ℕ → Ptr → Val
bare_val a p n q = vstruct (vcons (lone_word a) (vcons (lease_val p n) (vcons (lone_word q) vnil)))

abbrev pub bare_ty : Ty
bare_ty = ty_struct [] (tcons (ty_struct [] (tcons ty_ptr tnil)) (tcons (ty_struct [] (tcons ty_ptr (tcons (ty_int w64) (tcons (ty_struct [] tnil) tnil)))) (tcons (ty_struct [] (tcons ty_ptr tnil)) tnil)))

fits_all : (a p q : Ptr) (n : ℕ) → n < 2 ^ 64 → WT (bare_val a p n q)
fits_all a p q n f = ((lone_good a).1, ((lease_good p n f).1, ((lone_good q).1, tt)))

pub bare_good : (a p q : Ptr) (n : ℕ) → n < 2 ^ 64 → T (has_ty bare_ty (bare_val a p n q)) × WT (bare_val a p n q)
bare_good (block_ptr b o) (block_ptr c e) (block_ptr h i) n f = (tt, fits_all (block_ptr b o) (block_ptr c e) (block_ptr h i) n f)
bare_good (block_ptr b o) (block_ptr c e) null_ptr n f = (tt, fits_all (block_ptr b o) (block_ptr c e) null_ptr n f)
bare_good (block_ptr b o) null_ptr (block_ptr h i) n f = (tt, fits_all (block_ptr b o) null_ptr (block_ptr h i) n f)
bare_good (block_ptr b o) null_ptr null_ptr n f = (tt, fits_all (block_ptr b o) null_ptr null_ptr n f)
bare_good null_ptr (block_ptr c e) (block_ptr h i) n f = (tt, fits_all null_ptr (block_ptr c e) (block_ptr h i) n f)
bare_good null_ptr (block_ptr c e) null_ptr n f = (tt, fits_all null_ptr (block_ptr c e) null_ptr n f)
bare_good null_ptr null_ptr (block_ptr h i) n f = (tt, fits_all null_ptr null_ptr (block_ptr h i) n f)
bare_good null_ptr null_ptr null_ptr n f = (tt, fits_all null_ptr null_ptr null_ptr n f)

module _ (R : RattleType) where
  pub spot_told : (x : (spots.the_row R).Denot) (vs : List Val) → Is (spots.the_row R) x vs → vs ≡ lone_word x.at ∷ []
  spot_told x vs is = is.1.0 ∙ ap (λ (ws : List Val). vstruct (of_list (ws ++ [])) ∷ []) is.1.1.0

  module _ (Z : RattleType) (g : Ghosts Z.Denot) where
    pub bare_told : (d : (bare.the_row R Z g).Denot) (vs : List Val) → Is (bare.the_row R Z g) d vs → (vs ≡ bare_val d.row.at (lease_ptr d.lease) (lease_len d.lease) d.first.at ∷ []) × (lease_len d.lease < 2 ^ 64)
    bare_told d vs so = let is = so.0 in let p : Ptr = lease_ptr d.lease in let n : ℕ = lease_len d.lease in let inner = lease_told R Z g d.lease is.0.1.0 is.1.1.1.0 in (
      is.1.0 ∙ ap (λ (ws : List Val). vstruct (of_list (ws ++ (is.0.1.0 ++ (is.0.1.1.0 ++ [])))) ∷ []) (row_told R d.row.at is.0.0 is.1.1.0.0)
          ∙ ap (λ (ws : List Val). vstruct (of_list (lone_word d.row.at ∷ (ws ++ (is.0.1.1.0 ++ [])))) ∷ []) inner.0
          ∙ ap (λ (ws : List Val). vstruct (of_list (lone_word d.row.at ∷ lease_val p n ∷ (ws ++ []))) ∷ []) (spot_told d.first is.0.1.1.0 is.1.1.1.1.0),
      inner.1,
    )
