-- What flat, owned and block code mean: after n lines, of which turns and calls may spend so many units, or as many as there are. They differ in
-- their lines alone: those of flat code are under its plan, those of owned code have the plan's acts in them, and those of block code are to have
-- the error word.
use Rattle.std.specs.Prelude.{◌≡◌, ℕ, suc, ◌+◌, ◌*◌, ◌≤◌, true, List, [], ◌∷◌, map, length, Option, Some, None}
use Rattle.arc_base.specs.Event.{Event}
use Rattle.arc_base.specs.Behaviour.{Behaviour}
use Rattle.nim_types.specs.declared.types.TypeDef.{TypeDef}
use Rattle.nim_types.specs.Table.{type_at}
use Rattle.nim_plan.specs.declared.plan.Plan.{Plan}
use Rattle.nim_program.specs.declared.program.HookOf.{HookOf}
use Rattle.nim_program.specs.View.{if_type}
use Rattle.nim_meaning.specs.Values.{default_of, Slot, Holds}
use Rattle.nim_meaning.specs.Here.{gives_hooked, form_for, act_at}
use Rattle.nim_meaning.specs.Places.{taken_by}
use Rattle.flat_code.specs.declared.code.Code.{Code}
use Rattle.flat_code.specs.declared.code.CodeProc.{CodeProc}
use Rattle.flat_code.specs.declared.line.Line.{Line}
use Rattle.flat_code.specs.declared.line.Line.TheVariants.{Get}
use Rattle.flat_code.specs.declared.owned.OwnedLine.{OwnedLine}
use Rattle.flat_code.specs.declared.owned.OwnedLine.TheVariants as O
use Rattle.flat_code.specs.declared.block.BlockLine.{BlockLine}
use Rattle.flat_code.specs.declared.block.BlockLine.TheVariants as B
use Rattle.flat_code.specs.declared.place.PlaceKind.{PlaceKind}
use Rattle.flat_code.specs.declared.place.PlaceKind.TheVariants.{Result}
use Rattle.flat_code.specs.declared.place.FlatPlace.{FlatPlace}
use Rattle.flat_code.specs.Scene.{Known, known_in, Scene, Did}
use Rattle.flat_code.specs.Lines.{destination, does, gives, using_place}
use Rattle.flat_code.specs.Running.{Proc, runs, runs_within}
use Rattle.flat_code.specs.Whole.{label_in, are_whole}
use Rattle.flat_code.specs.Fits.{code_fits}
use Rattle.flat_code.specs.Waits.{AllWaitRight}
use Rattle.flat_code.specs.Sizes.{code_weight, data_bytes}

-- ---- what codes have in common

abbrev pub if_result : PlaceKind → List Slot → List Slot → List Slot
if_result Result slots rest = slots
if_result kind slots rest = rest

-- the slot of a procedure's result, which starts at the default of its type
abbrev pub result_in : Known → List FlatPlace → List Slot
result_in known [] = []
result_in known (p ∷ places) = if_result p.kind (Holds (default_of known.facts (type_at known.types p.ty)) ∷ []) (result_in known places)

-- how many of these places may wait
abbrev pub and_waits : Option ℕ → ℕ → ℕ
and_waits None n = n
and_waits (Some node) n = suc n

abbrev pub waiting_in : List FlatPlace → ℕ
waiting_in [] = 0
waiting_in (p ∷ places) = and_waits p.waits (waiting_in places)

abbrev pub proc_of : {L : Type 0} → Known → CodeProc L → Proc L
proc_of known p = record {
  first = p.first;
  span = p.span;
  result = result_in known p.places;
  waits = waiting_in p.places;
  hook = p.hook;
  lines = p.lines;
}

abbrev pub procs_of : {L : Type 0} → Known → Code L → List (Proc L)
procs_of known code = map (proc_of known) code.procs

-- the hooks of users, procedure by procedure
abbrev pub hooks_of : {L : Type 0} → Code L → List (Option HookOf)
hooks_of code = map (λ (p : CodeProc _). p.hook) code.procs

-- no procedure is one
abbrev pub AreNone : List (Option HookOf) → Type 0
AreNone [] = Unit {0}
AreNone (hook ∷ hooks) = (hook ≡ None) × AreNone hooks

-- the places of each procedure
abbrev pub places_of : {L : Type 0} → Code L → List (List FlatPlace)
places_of code = map (λ (p : CodeProc _). p.places) code.procs

abbrev pub lines_in : {L : Type 0} → List (CodeProc L) → ℕ
lines_in [] = 0
lines_in (p ∷ procs) = length p.lines + lines_in procs

-- each line becomes another one, and nothing else changes
abbrev pub each_line : {L M : Type 0} → (L → M) → CodeProc L → CodeProc M
each_line f p = record { first = p.first; span = p.span; places = p.places; lines = map f p.lines; hook = p.hook }

abbrev pub by_lines : {L M : Type 0} → (L → M) → Code L → Code M
by_lines f code = record { procs = map (each_line f) code.procs }

-- What passes promise of a code's form, where these are what their lines are in flat code: at most so many lines for each line of the other code, which
-- weigh no more and have no more data; each procedure has its places, and is a hook where it was; and lines lead somewhere, fit, and let values wait
-- where they did.
pub record KeepsForm {L M : Type 0} (plain : L → Line) (plain' : M → Line) (lines_each : ℕ) (other : Code L) (code : Code M) : Type 0 where
  pub lines : lines_in code.procs ≤ lines_each * lines_in other.procs
  pub weight : code_weight plain' code.procs ≤ code_weight plain other.procs
  pub statics : (table : List TypeDef) → data_bytes plain' table code.procs ≤ data_bytes plain table other.procs
  pub places : places_of code ≡ places_of other
  pub hooks : hooks_of code ≡ hooks_of other
  pub whole : (known : Known) → are_whole (λ line. label_in (plain line)) plain (procs_of known other) ≡ true →
      are_whole (λ line. label_in (plain' line)) plain' (procs_of known code) ≡ true
  pub fits : (known : Known) → code_fits plain known other.procs ≡ true → code_fits plain' known code.procs ≡ true
  pub waits : (known : Known) → AllWaitRight plain known other.procs → AllWaitRight plain' known code.procs

-- ---- flat code: its lines are under a plan

abbrev pub flat_plain : Line → Line
flat_plain line = line

abbrev pub flat_meaning : List TypeDef → Code Line → Plan → (heap : ℕ) → (input : List ℕ) → Behaviour Event
flat_meaning table flat plan heap input = runs label_in (does (known_in table) plan) (procs_of (known_in table) flat) heap input

abbrev pub flat_within : List TypeDef → Code Line → Plan → (units heap : ℕ) → (input : List ℕ) → Behaviour Event
flat_within table flat plan units heap input = runs_within label_in (does (known_in table) plan) (procs_of (known_in table) flat) units heap input

-- ---- owned code

-- the plan that says nothing
abbrev pub no_plan : Plan
no_plan = record { sites = []; sinks = []; skips = [] }

-- a line of flat code under a plan
abbrev pub under : Plan → Line → OwnedLine
under plan (Get to from how ty) = O.Take to from how (act_at plan how.node) ty
under plan line = O.Plain line

-- as a line of flat code, whatever the plan says
abbrev pub owned_plain : OwnedLine → Line
owned_plain (O.Plain line) = line
owned_plain (O.Take to from how act ty) = Get to from how ty

abbrev pub owned_label : OwnedLine → Option ℕ
owned_label line = label_in (owned_plain line)

abbrev pub owned_does : Known → Scene → OwnedLine → Did
owned_does known x (O.Plain line) = does known no_plan x line
owned_does known x (O.Take to from how act ty) =
    using_place x.temps from (λ place location. gives x to
    (taken_by (gives_hooked known.facts (if_type known.types ty)) (form_for known.facts (if_type known.types ty)) (destination x how) act location))

abbrev pub owned_meaning : List TypeDef → Code OwnedLine → (heap : ℕ) → (input : List ℕ) → Behaviour Event
owned_meaning table owned heap input = runs owned_label (owned_does (known_in table)) (procs_of (known_in table) owned) heap input

abbrev pub owned_within : List TypeDef → Code OwnedLine → (units heap : ℕ) → (input : List ℕ) → Behaviour Event
owned_within table owned units heap input = runs_within owned_label (owned_does (known_in table)) (procs_of (known_in table) owned) units heap input

-- ---- block code

abbrev pub block_plain : BlockLine → Line
block_plain (B.Plain line) = owned_plain line

abbrev pub block_label : BlockLine → Option ℕ
block_label line = label_in (block_plain line)

abbrev pub block_does : Known → Scene → BlockLine → Did
block_does known x (B.Plain line) = owned_does known x line

abbrev pub block_meaning : List TypeDef → Code BlockLine → (heap : ℕ) → (input : List ℕ) → Behaviour Event
block_meaning table blocks heap input = runs block_label (block_does (known_in table)) (procs_of (known_in table) blocks) heap input

abbrev pub block_within : List TypeDef → Code BlockLine → (units heap : ℕ) → (input : List ℕ) → Behaviour Event
block_within table blocks units heap input = runs_within block_label (block_does (known_in table)) (procs_of (known_in table) blocks) units heap input
