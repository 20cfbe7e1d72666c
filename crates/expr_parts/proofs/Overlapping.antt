-- Overlap of paths, by their steps.
use Rattle.std.proofs.Common.{◌≡◌, List, [], ◌∷◌, ◌++◌, refl, sym, ap, ◌∙◌}
use Rattle.std.specs.Prelude.{Bool, true, false, not, ◌||◌, nat_eq, map}
use Rattle.nim_types.specs.Types.{Ty}
use Rattle.nim_program.specs.declared.expr.Path.{Path as RustPath}
use Rattle.nim_program.specs.declared.expr.Path.TheVariants as P
use Rattle.nim_program.specs.Program.{Path}
use Rattle.nim_program.specs.View.{path_of as path_in}
use Rattle.expr_parts.specs.declared.overlap.Step.{Step as RustStep}
use Rattle.expr_parts.specs.declared.overlap.Step.TheVariants as step
use Rattle.expr_rules.specs.Paths.{steps_of, differ, overlap, overlaps_any, field, element}
use Rattle.expr_parts.specs.View.{step_of, steps_in, differ_in}
use Rattle.expr_parts.proofs.Choosing.{map_last}

pub steps_are : (ts : List Ty) (p : RustPath) → steps_of (path_in ts p) ≡ map step_of (steps_in p)
steps_are ts (P.Variable node ty place global) = refl
steps_are ts (P.Fresh' p e) = refl
steps_are ts (P.Field' node ty p base k) = ap (λ z. z ++ field k ∷ []) (steps_are ts base) ∙ sym (map_last step_of (steps_in base) (step.Field k))
steps_are ts (P.Element' node ty p base q index constant) =
    ap (λ z. z ++ element ∷ []) (steps_are ts base) ∙ sym (map_last step_of (steps_in base) step.Element)
steps_are ts (P.Deref' ty p base) = steps_are ts base

pub differ_is : (a b : List RustStep) → differ (map step_of a) (map step_of b) ≡ differ_in a b
differ_is [] b = refl
differ_is (step.Field i ∷ a) [] = refl
differ_is (step.Element ∷ a) [] = refl
differ_is (step.Field i ∷ a) (step.Field j ∷ b) = ap (λ z. not (nat_eq i j) || z) (differ_is a b)
differ_is (step.Field i ∷ a) (step.Element ∷ b) = differ_is a b
differ_is (step.Element ∷ a) (step.Field j ∷ b) = differ_is a b
differ_is (step.Element ∷ a) (step.Element ∷ b) = differ_is a b

or_assoc : (a b c : Bool) → a || (b || c) ≡ (a || b) || c
or_assoc true b c = refl
or_assoc false b c = refl

pub any_of : (ts : List Ty) (p : Path) (xs ys : List RustPath)
    → overlaps_any p (map (path_in ts) (xs ++ ys)) ≡ overlaps_any p (map (path_in ts) xs) || overlaps_any p (map (path_in ts) ys)
any_of ts p [] ys = refl
any_of ts p (x ∷ xs) ys =
    ap (λ z. overlap p (path_in ts x) || z) (any_of ts p xs ys)
    ∙ or_assoc (overlap p (path_in ts x)) (overlaps_any p (map (path_in ts) xs)) (overlaps_any p (map (path_in ts) ys))
