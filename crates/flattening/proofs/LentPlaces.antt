-- What of operands is lent: by a call and by other acts, and nothing of what is owned.
use Rattle.std.proofs.Common.{◌≡◌, ℕ, suc, ◌+◌, Bool, true, false, List, [], ◌++◌, refl, ap, ap₂}
use Rattle.std.specs.Prelude.{not, ◌&&◌, ◌||◌, if◌then◌else◌}
use Rattle.nim_types.specs.Types.{Ty, Facts}
use Rattle.nim_program.specs.declared.operation.Use.{Use}
use Rattle.nim_program.specs.declared.operation.Use.TheVariants.{Owned}
use Rattle.nim_program.specs.declared.program.Mode.{Mode}
use Rattle.nim_program.specs.Program.{Act, Building, Expr, Args, NoArg, ByValue, ByPath, node_of, type_of}
use Rattle.nim_meaning.specs.Shapes.{is_lent, is_text}
use Rattle.flat_code.specs.declared.place.PlaceKind.TheVariants as K
use Rattle.flattening.specs.ExprLines.{has_hooks, is_call}
use Rattle.flattening.specs.Numbering.{width, width_at}
use Rattle.flattening.specs.Places.{temporary, lent_place, expr_places, path_places, operand_places, part_places}

module _ (types : List Ty) (facts : Facts) (modes : (proc position : ℕ) → Mode) where
  none_lent : {X : Type 0} (b : Bool) (xs : List X) → (if b && false then xs else []) ≡ []
  none_lent true xs = refl
  none_lent false xs = refl

  pub owned_list : (args : Args) (i t : ℕ) → operand_places types facts modes (Building []) args (λ j. Owned) i t ≡ part_places types facts modes args t
  owned_list NoArg i t = refl
  owned_list (ByValue value rest) i t =
      ap₂ (λ lent more. expr_places types facts modes value t ++ (lent ++ more))
      (none_lent (has_hooks facts value) (temporary types facts modes (node_of value) (type_of value) K.Within t))
      (owned_list rest (suc i) (t + width value))
  owned_list (ByPath path rest) i t = ap (λ more. path_places types facts modes path t ++ more) (owned_list rest (suc i) (t + width_at path))

  lent_by : (a b : Act) → is_call facts a ≡ is_call facts b → (how : Use) (value : Expr) (t : ℕ) →
      lent_place types facts modes a how value t ≡ lent_place types facts modes b how value t
  lent_by a b e how value t =
      ap (λ c.
      if has_hooks facts value && (is_lent how && (c || not (is_text value))) then temporary types facts modes (node_of value) (type_of value) K.Within t
      else []) e

  pub lent_alike : (a b : Act) → is_call facts a ≡ is_call facts b → (args : Args) (uses : ℕ → Use) (i t : ℕ) →
      operand_places types facts modes a args uses i t ≡ operand_places types facts modes b args uses i t
  lent_alike a b e NoArg uses i t = refl
  lent_alike a b e (ByValue value rest) uses i t =
      ap₂ (λ lent more. expr_places types facts modes value t ++ (lent ++ more)) (lent_by a b e (uses i) value t)
      (lent_alike a b e rest uses (suc i) (t + width value))
  lent_alike a b e (ByPath path rest) uses i t =
      ap (λ more. path_places types facts modes path t ++ more) (lent_alike a b e rest uses (suc i) (t + width_at path))
