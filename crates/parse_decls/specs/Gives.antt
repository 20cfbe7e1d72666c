-- What a call that reads gives.
use Rattle.std.specs.Prelude.{◌≡◌, ℕ, ◌≤◌, length, Result, Ok, Err, ⊤}
use Rattle.arc_base.specs.declared.place.Place.{Place}
use Rattle.arc_base.specs.declared.place.Code.{Code}
use Rattle.arc_base.specs.declared.place.Code.TheVariants as C
use Rattle.arc_base.specs.declared.place.Stop.{Stop}
use Rattle.arc_base.specs.declared.place.Stop.TheVariants.{Refused, Memory}
use Rattle.nim_tree.specs.declared.types.Field.{Field}
use Rattle.nim_tree.specs.Types.{written_of}
use Rattle.parse_exprs.specs.declared.input.Input.{Input}
use Rattle.parse_exprs.specs.Look.{Origin, next_at}
use Rattle.parse_exprs.specs.Parsed.{IsFirst}
use Rattle.parse_exprs.specs.Input.{origin_of, from_at}
use Rattle.parse_decls.specs.declared.reading.Reading.{Reading}
use Rattle.parse_decls.specs.Outcome.{Why, too_deep, left_out, stuck, tired, Out, got, bad, Settles}
use Rattle.parse_decls.specs.Run.{Typed}

-- what a refusal says of why nothing is read
abbrev pub Tells : Origin → Why → Code → Place → Type 0
Tells x (too_deep rest) code at = (code ≡ C.NestTooDeep) × IsFirst x rest at
Tells x (left_out rest) code at = (code ≡ C.LeftOut) × IsFirst x rest at
Tells x (stuck rest) code at = (code ≡ C.Syntax) × (at ≡ next_at x rest)
Tells x tired code at = ⊥

-- what is answered for it
abbrev pub Told : Origin → Why → Stop → Type 0
Told x why (Refused code at) = Tells x why code at
Told x why Memory = ⊥

-- what the run comes to where the source is refused
pub record Refuses {X : Type 0} (run : ℕ → Out X) (x : Origin) (code : Code) (at : Place) : Type 0 where
  pub why : Why
  pub runs : Settles run (bad why)
  pub tells : Tells x why code at

abbrev pub Fails : {X : Type 0} → (ℕ → Out X) → Origin → Stop → Type 0
Fails run x (Refused code at) = Refuses run x code at
Fails run x Memory = ⊤

-- a was read; next is the token behind it, from a least one on
pub record Found {X : Type 0} (run : ℕ → Out X) (input : Input) (least : ℕ) (a : X) (next : ℕ) : Type 0 where
  pub runs : Settles run (got a (from_at input next))
  pub goes : least ≤ next
  pub within : next ≤ length input.tokens.now

-- `of` reads the value off the tree
abbrev pub Comes : {T X : Type 0} → (of : T → X) → (ℕ → Out X) → Input → (least : ℕ) → Result (Reading T) Stop → Type 0
Comes of run input least (Ok p) = Found run input least (of p.value) p.next
Comes of run input least (Err stop) = Fails run (origin_of input) stop

-- what one run comes to, another comes to as well
abbrev pub Leads : {X : Type 0} → (ℕ → Out X) → (ℕ → Out X) → Type 0
Leads part whole = (o : Out _) → Settles part o → Settles whole o

-- a run that has come to next goes on as part
pub record SoFar {X : Type 0} (part whole : ℕ → Out X) (input : Input) (least next : ℕ) : Type 0 where
  pub leads : Leads part whole
  pub goes : least ≤ next
  pub within : next ≤ length input.tokens.now

abbrev pub typed_of : Field → Typed
typed_of f = record { names = f.names.items; of = written_of f.of }
