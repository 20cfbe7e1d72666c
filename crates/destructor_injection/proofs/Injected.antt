-- Flat code line by line under a plan is owned code of it.
use Rattle.std.proofs.Common.{◌≡◌, refl, sym, subst, ℕ, List, [], map}
use Rattle.arc_base.specs.Event.{Event}
use Rattle.arc_base.specs.Behaviour.{Behaviour, Steady, Sound, Agrees}
use Rattle.nim_types.specs.declared.types.TypeDef.{TypeDef}
use Rattle.nim_plan.specs.declared.plan.Plan.{Plan}
use Rattle.flat_code.specs.declared.code.Code.{Code}
use Rattle.flat_code.specs.declared.code.CodeProc.{CodeProc}
use Rattle.flat_code.specs.declared.line.Line.{Line}
use Rattle.flat_code.specs.declared.line.Line.TheVariants as L
use Rattle.flat_code.specs.declared.owned.OwnedLine.{OwnedLine}
use Rattle.flat_code.specs.Scene.{Known, known_in, Scene}
use Rattle.flat_code.specs.Lines.{does}
use Rattle.flat_code.specs.Whole.{label_in}
use Rattle.flat_code.specs.Codes.{each_line, by_lines, flat_plain, flat_meaning, under, owned_plain, owned_label, owned_does, owned_meaning}
use Rattle.flat_code.specs.Codes.{flat_within, owned_within}
use Rattle.flat_code.proofs.ForCallers.{same_agrees, same_pace, runs_by_lines, within_by_lines, form_by_lines}
use Rattle.destructor_injection.specs.Injecting.{IsOwned}

-- each line is, and is labelled, as it was, and does what it did under the plan
same_line : (known : Known) (plan : Plan) (line : Line) →
    (owned_plain (under plan line) ≡ line) × (owned_label (under plan line) ≡ label_in line)
    × ((x : Scene) → owned_does known x (under plan line) ≡ does known plan x line)
same_line known plan (L.Apply to operation how ty of from) = (refl, refl, λ x. refl)
same_line known plan (L.Construct to how ty fields from) = (refl, refl, λ x. refl)
same_line known plan (L.Constant to how ty pieces) = (refl, refl, λ x. refl)
same_line known plan (L.Call to how ty proc from) = (refl, refl, λ x. refl)
same_line known plan (L.Get to from how ty) = (refl, refl, λ x. refl)
same_line known plan (L.Look to from) = (refl, refl, λ x. refl)
same_line known plan (L.Root to place global) = (refl, refl, λ x. refl)
same_line known plan (L.Fresh to from waits) = (refl, refl, λ x. refl)
same_line known plan (L.Standing to ty pieces) = (refl, refl, λ x. refl)
same_line known plan (L.Part to from field) = (refl, refl, λ x. refl)
same_line known plan (L.Item to from index) = (refl, refl, λ x. refl)
same_line known plan (L.Object to from) = (refl, refl, λ x. refl)
same_line known plan (L.Pass to from how ty) = (refl, refl, λ x. refl)
same_line known plan (L.Truth to value) = (refl, refl, λ x. refl)
same_line known plan (L.Fill place from) = (refl, refl, λ x. refl)
same_line known plan (L.Blank place ty) = (refl, refl, λ x. refl)
same_line known plan (L.Give place from) = (refl, refl, λ x. refl)
same_line known plan (L.Own what from) = (refl, refl, λ x. refl)
same_line known plan (L.Zero to) = (refl, refl, λ x. refl)
same_line known plan (L.Length to from) = (refl, refl, λ x. refl)
same_line known plan (L.Still from len) = (refl, refl, λ x. refl)
same_line known plan (L.Element to from index) = (refl, refl, λ x. refl)
same_line known plan (L.Beyond counter last inclusive to) = (refl, refl, λ x. refl)
same_line known plan (L.Next counter last) = (refl, refl, λ x. refl)
same_line known plan (L.Label name) = (refl, refl, λ x. refl)
same_line known plan (L.Jump to) = (refl, refl, λ x. refl)
same_line known plan (L.Unless from to) = (refl, refl, λ x. refl)
same_line known plan (L.Fits from these to) = (refl, refl, λ x. refl)
same_line known plan L.Enter = (refl, refl, λ x. refl)
same_line known plan (L.Turn to) = (refl, refl, λ x. refl)
same_line known plan (L.TurnIf from to) = (refl, refl, λ x. refl)
same_line known plan (L.CountTurn counter last inclusive to) = (refl, refl, λ x. refl)
same_line known plan (L.Return result) = (refl, refl, λ x. refl)

pub shown : (table : List TypeDef) (plan : Plan) (flat : Code Line) (heap : ℕ) (input : List ℕ) (n : ℕ) →
    owned_meaning table (by_lines (under plan) flat) heap input n ≡ flat_meaning table flat plan heap input n
shown table plan flat heap input n =
    let known = known_in table in
    runs_by_lines (under plan) label_in owned_label (λ line. (same_line known plan line).1)
    (does known plan) (owned_does known) (λ x line. (same_line known plan line).2 x) known flat heap input n

pub shown_within : (table : List TypeDef) (plan : Plan) (flat : Code Line) (units heap : ℕ) (input : List ℕ) (n : ℕ) →
    owned_within table (by_lines (under plan) flat) units heap input n ≡ flat_within table flat plan units heap input n
shown_within table plan flat units heap input n =
    let known = known_in table in
    within_by_lines (under plan) label_in owned_label (λ line. (same_line known plan line).1)
    (does known plan) (owned_does known) (λ x line. (same_line known plan line).2 x) known flat units heap input n

abbrev owned_with : List (CodeProc OwnedLine) → Code OwnedLine
owned_with procs = record { procs = procs }

pub owned_by : (flat : Code Line) (plan : Plan) (procs : List (CodeProc OwnedLine)) → procs ≡ map (each_line (under plan)) flat.procs →
    ((b : Behaviour Event) → Steady b → Sound b → Agrees b b) →
    ((table : List TypeDef) (flat : Code Line) (plan : Plan) (heap : ℕ) (input : List ℕ) → Steady (flat_meaning table flat plan heap input)) →
    IsOwned flat plan (owned_with procs)
owned_by flat plan procs e itself steady = subst (λ ps. IsOwned flat plan (owned_with ps)) (sym e) (record {
  agrees = λ table heap input sound.
      same_agrees (owned_meaning table (by_lines (under plan) flat) heap input) (flat_meaning table flat plan heap input)
      (shown table plan flat heap input) (itself (flat_meaning table flat plan heap input) (steady table flat plan heap input) sound);
  paced = λ table heap input sound.
      same_pace (owned_meaning table (by_lines (under plan) flat) heap input) (flat_meaning table flat plan heap input) (shown table plan flat heap input);
  form = form_by_lines (under plan) flat_plain owned_plain (λ line. (same_line (known_in []) plan line).0) flat;
  each = refl;
})
