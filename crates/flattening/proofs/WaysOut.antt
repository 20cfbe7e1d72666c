-- Lists of what ends, as the lines by which it ends.
use Rattle.std.proofs.Common.{◌≡◌, List, [], ◌∷◌, ◌++◌, refl, ap, ◌∙◌}
use Rattle.std.specs.Prelude.{Bool, true, false, if◌then◌else◌}
use Rattle.nim_types.specs.Types.{Ty, Facts}
use Rattle.nim_program.specs.declared.stmt.Leaving.{Leaving}
use Rattle.nim_program.specs.declared.stmt.Leaving.TheVariants as K
use Rattle.nim_program.specs.Program.{Declared, Param}
use Rattle.nim_meaning.specs.Here.{is_hooked}
use Rattle.nim_meaning.specs.Waiting.{Wait}
use Rattle.flat_code.specs.declared.line.Owning.{Owning}
use Rattle.flat_code.specs.declared.line.Owning.TheVariants as W
use Rattle.flat_code.specs.declared.line.Line.{Line}
use Rattle.flat_code.specs.declared.line.Line.TheVariants as L
use Rattle.flattening.specs.Numbering.{type_number, number_or}
use Rattle.flattening.specs.ExprLines.{end_lines}
use Rattle.flattening.specs.StmtLines.{Exits, ending, leaving_by, place_end, param_ends}
use Rattle.flattening.specs.Views.{own_lines, waits_own, place_owns, params_own}

-- functions that are equal everywhere
same_function : {A B : Type 0} {f g : A → B} → ((x : A) → f x ≡ g x) → f ≡ g
same_function h = λ i x. h x i

owns_both : (es fs : List Owning) (k : List Line) → own_lines (es ++ fs) k ≡ own_lines fs (own_lines es k)
owns_both [] fs k = refl
owns_both (e ∷ es) fs k = owns_both es fs (L.Own e [] ∷ k)

pub both_own : (es fs : List Owning) → own_lines (es ++ fs) ≡ (λ k. own_lines fs (own_lines es k))
both_own es fs = same_function (owns_both es fs)

waits_owned : (types : List Ty) (waits : List Wait) (k : List Line) → own_lines (waits_own types waits) k ≡ end_lines types waits k
waits_owned types [] k = refl
waits_owned types (w ∷ ws) k = waits_owned types ws (L.Own (W.TemporaryEnds w.node (number_or types w.of)) [] ∷ k)

pub waits_end : (types : List Ty) (waits : List Wait) → own_lines (waits_own types waits) ≡ end_lines types waits
waits_end types waits = same_function (waits_owned types waits)

place_owned : (types : List Ty) (facts : Facts) (place : Declared) (k : List Line) → own_lines (place_owns types facts place) k ≡ place_end types facts place k
place_owned types facts place k = on (is_hooked facts place.of)
  where
    on : (b : Bool) → own_lines (if b then W.PlaceEnds place.number (type_number types place.of) ∷ [] else []) k
        ≡ (if b then L.Own (W.PlaceEnds place.number (type_number types place.of)) [] ∷ k else k)
    on true = refl
    on false = refl

pub place_ends : (types : List Ty) (facts : Facts) (place : Declared) → own_lines (place_owns types facts place) ≡ place_end types facts place
place_ends types facts place = same_function (place_owned types facts place)

params_owned : (types : List Ty) (facts : Facts) (params : List Param) (k : List Line) →
    own_lines (params_own types facts params) k ≡ param_ends types facts params k
params_owned types facts [] k = refl
params_owned types facts (param ∷ params) k =
    owns_both (place_owns types facts param.place) (params_own types facts params) k
    ∙ (ap (own_lines (params_own types facts params)) (place_owned types facts param.place k)
    ∙ params_owned types facts params (place_end types facts param.place k))

pub params_end : (types : List Ty) (facts : Facts) (params : List Param) → own_lines (params_own types facts params) ≡ param_ends types facts params
params_end types facts params = same_function (params_owned types facts params)

-- What ends is put before control leaves further.
pub leaves_through : (ends : List Line → List Line) (exits : Exits) (leaving : Leaving) (k : List Line) →
    ends (leaving_by exits leaving k) ≡ leaving_by (ending ends exits) leaving k
leaves_through ends exits K.Break k = refl
leaves_through ends exits K.Continue k = refl
leaves_through ends exits K.Return k = refl
