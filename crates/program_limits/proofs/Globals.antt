-- The bytes of globals, one after another.
use Rattle.std.proofs.Common.{◌≡◌, ◌≤◌, ◌<◌, ℕ, zero, suc, ◌+◌, List, [], ◌∷◌, length, drop, get_or, refl, ap, arith, map}
use Rattle.nim_types.specs.Types.{Ty, int, Facts}
use Rattle.nim_types.specs.Table.{type_at}
use Rattle.nim_program.specs.declared.stmt.PlaceDecl.{PlaceDecl}
use Rattle.nim_program.specs.Sizes.{type_bytes, globals_size}
use Rattle.nim_program.specs.View.{declared_of}
use Rattle.program_limits.proofs.Capping.{drop_next}

-- a number beyond the types is that of an int
pub int_beyond : (ts : List Ty) (i : ℕ) → length ts ≤ i → type_at ts i ≡ int
int_beyond [] i l = refl
int_beyond (t ∷ ts) zero l = absurd (omega (arith, l))
int_beyond (t ∷ ts) (suc i) l = int_beyond ts i (omega (arith, l))

module _ (facts : Facts) (ts : List Ty) where
  pub globals_next : (xs : List PlaceDecl) (i : ℕ) (x : PlaceDecl) → i < length xs → x ≡ get_or xs i x →
      globals_size facts (map (declared_of ts) (drop i xs)) ≡
      type_bytes facts (type_at ts x.ty) + globals_size facts (map (declared_of ts) (drop (i + 1) xs))
  globals_next xs i x l e = ap (λ ys. globals_size facts (map (declared_of ts) ys)) (drop_next xs i x l e)
