-- The rows of operations that take nothing from where it waits, by their operands.
use Rattle.std.proofs.Common.{◌≡◌, refl, sym, ap, subst, ◌∙◌, arith, ℕ, Bool, true, false, inl, inr, List, [], ◌∷◌, ◌++◌, Option, Some, None}
use Rattle.std.specs.Prelude.{◌&&◌}
use Rattle.std.proofs.lemmas.Bool.{false≢true, and_parts}
use Rattle.nim_types.specs.Types.{Ty, Facts}
use Rattle.nim_types.specs.Forms.{Form, hooked, HasForm}
use Rattle.nim_types.specs.Forms.{of_int, of_bool, of_char, of_text, of_sequence, of_any_sequence, of_array, of_tuple, of_parameter, of_enum}
use Rattle.nim_types.specs.Forms.{of_object, of_distinct, of_ref, of_exception}
use Rattle.nim_types.specs.Types.{Fact, members, fields, base, below, fact_of, enum, object, distinct, exception}
use Rattle.nim_program.specs.declared.operation.Use.{Use}
use Rattle.nim_program.specs.declared.operation.Use.TheVariants.{Owned, Given as ToPlace, Held, Lent, Looked}
use Rattle.nim_program.specs.declared.operation.Operation.{Operation}
use Rattle.nim_program.specs.declared.operation.Operation.TheVariants as O
use Rattle.nim_program.specs.Program.{Doing, Expr, Path, Args, NoArg, ByValue, ByPath, type_of, type_at, types_in}
use Rattle.nim_program.specs.Kinds as kind
use Rattle.nim_program.specs.Kinds.{TypeKind, kind_of, kind_if, declared_kind, is_int, is_bool, is_text, is_joined, is_ref, is_resource, is_resized}
use Rattle.nim_program.specs.Fitting.{fits, places_in, updates as is_updated, steps as is_stepped}
use Rattle.nim_program.specs.Typed.{are_placed}
use Rattle.nim_program.specs.Uses.{use_by}
use Rattle.nim_program.specs.Scopes as scopes
use Rattle.nim_meaning.specs.Values.{Value, Location, Operand, At}
use Rattle.nim_meaning.specs.State.{World}
use Rattle.nim_meaning.specs.Texts.{are_seen}
use Rattle.nim_meaning.specs.Here.{Here, form_for}
use Rattle.nim_meaning.specs.Table.{operates}
use Rattle.holders.specs.Owned.{HasBlocksAlone}
use Rattle.holders.specs.Sure.{Sure}
use Rattle.holders.specs.Territory.{Owner}
use Rattle.holders.specs.Ways.{Step}
use Rattle.holders.specs.Finding.{Found}
use Rattle.holders.specs.Running.{Region}
use Rattle.holders.specs.Staging.{Stage}
use Rattle.holders.proofs.PlainRows.{read_found}
use Rattle.holders.specs.Asked.{Limits, IfSimple, ActAsked, Asked, AskedAt, AllAsked}
use Rattle.holders.specs.Evaluating.{Hand, empty, holds, AtHand, Settled, none_settled, bare, held, lent, found, seen, copied, in_hand}
use Rattle.holders.proofs.Claims.{asked_type, asked_at}
use Rattle.holders.proofs.Constants.{hooked_is}
use Rattle.holders.proofs.FormKinds.{same_type}
use Rattle.holders.proofs.Settling.{HandThere, all_are_seen}
use Rattle.holders.proofs.Table.{OutOf, unary, binary, compare, join, show, new_elements, echo, quit, let_go, default_row}
use Rattle.holders.proofs.PlaceRows.{measure, read_into, append, set_length, pop, update, assign_bare, assign_copy, assign_held, move, swap}
use Rattle.holders.proofs.Converting.{convert_bare, convert_held}
use Rattle.holders.proofs.Staging.{hand_stage, hand_alone, IsHeld}

abbrev use_number : Use → ℕ
use_number Owned = 0
use_number ToPlace = 1
use_number Held = 2
use_number Lent = 3
use_number Looked = 4

other_use : {A : Type 0} {a b : Use} → a ≡ b → (use_number a ≡ use_number b → ⊥) → A
other_use e apart = absurd (apart (ap use_number e))

-- ---- kinds that have hooks of their own

no_ref_kind : {A : Type 0} (x : Option Fact) → is_ref (declared_kind x) ≡ true → A
no_ref_kind None e = absurd (false≢true e)
no_ref_kind (Some (members names)) e = absurd (false≢true e)
no_ref_kind (Some (fields all own)) e = absurd (false≢true e)
no_ref_kind (Some (base s)) e = absurd (false≢true e)
no_ref_kind (Some (below p)) e = absurd (false≢true e)

pub ref_has : {facts : Facts} {ty : Ty} {f : Form} → HasForm facts ty f → HasBlocksAlone f → is_ref (kind_of facts ty) ≡ true → ⊥
ref_has of_int b e = false≢true e
ref_has of_bool b e = false≢true e
ref_has of_char b e = false≢true e
ref_has of_text b e = false≢true e
ref_has (of_sequence q h) b e = false≢true e
ref_has (of_any_sequence q) b e = false≢true e
ref_has (of_array h) b e = false≢true e
ref_has (of_tuple h) b e = false≢true e
ref_has of_parameter b e = false≢true e
ref_has {facts} (of_enum {key = key}) b e = no_ref_kind (fact_of facts (enum key)) e
ref_has {facts} (of_object {key = key} {arguments = arguments} q h) b e = no_ref_kind (fact_of facts (object key arguments)) e
ref_has {facts} (of_distinct {key = key} q h) b e = no_ref_kind (fact_of facts (distinct key)) e
ref_has of_ref b e = b
ref_has {facts} (of_exception {key = key}) b e = no_ref_kind (fact_of facts (exception key)) e

ref_none : (facts : Facts) (o : Option Ty) → IfSimple facts o → is_ref (kind_if facts o) ≡ true → ⊥
ref_none facts None simple e = false≢true e
ref_none facts (Some ty) simple e = ref_has simple.has simple.blocks e

resource_has : {facts : Facts} {ty : Ty} {f : Form} → HasForm facts ty f → HasBlocksAlone f → kind.is_declared_as ty (kind_of facts ty) ≡ true →
    is_resource (kind_of facts ty) ≡ true → ⊥
resource_has of_int b d e = false≢true e
resource_has of_bool b d e = false≢true e
resource_has of_char b d e = false≢true e
resource_has of_text b d e = false≢true e
resource_has (of_sequence q h) b d e = false≢true e
resource_has (of_any_sequence q) b d e = false≢true e
resource_has (of_array h) b d e = false≢true e
resource_has (of_tuple h) b d e = false≢true e
resource_has of_parameter b d e = false≢true e
resource_has {facts} (of_enum {key = key}) b d e = no_enum (kind_of facts (enum key)) d e
  where
    no_enum : (k : TypeKind) → kind.is_declared_as (enum key) k ≡ true → is_resource k ≡ true → ⊥
    no_enum (kind.object r ts) d e = false≢true d
    no_enum kind.int d e = false≢true e
    no_enum kind.bool d e = false≢true e
    no_enum kind.char d e = false≢true e
    no_enum kind.text d e = false≢true e
    no_enum (kind.enum n) d e = false≢true e
    no_enum (kind.sequence t) d e = false≢true e
    no_enum (kind.array n t) d e = false≢true e
    no_enum (kind.tuple ts) d e = false≢true e
    no_enum (kind.distinct t) d e = false≢true e
    no_enum (kind.ref t) d e = false≢true e
    no_enum kind.exception d e = false≢true e
    no_enum kind.parameter d e = false≢true e
    no_enum kind.other d e = false≢true e
resource_has (of_object {own_hooks = true} q h) b d e = b
resource_has (of_object {own_hooks = false} q h) b d e = false≢true (sym (ap (λ x. is_resource (declared_kind x)) q) ∙ e)
resource_has (of_distinct q h) b d e = false≢true (sym (ap (λ x. is_resource (declared_kind x)) q) ∙ e)
resource_has of_ref b d e = false≢true e
resource_has {facts} (of_exception {key = key}) b d e = no_exception (kind_of facts (exception key)) d e
  where
    no_exception : (k : TypeKind) → kind.is_declared_as (exception key) k ≡ true → is_resource k ≡ true → ⊥
    no_exception (kind.object r ts) d e = false≢true d
    no_exception kind.int d e = false≢true e
    no_exception kind.bool d e = false≢true e
    no_exception kind.char d e = false≢true e
    no_exception kind.text d e = false≢true e
    no_exception (kind.enum n) d e = false≢true e
    no_exception (kind.sequence t) d e = false≢true e
    no_exception (kind.array n t) d e = false≢true e
    no_exception (kind.tuple ts) d e = false≢true e
    no_exception (kind.distinct t) d e = false≢true e
    no_exception (kind.ref t) d e = false≢true e
    no_exception kind.exception d e = false≢true e
    no_exception kind.parameter d e = false≢true e
    no_exception kind.other d e = false≢true e

resource_none : (facts : Facts) (o : Option Ty) → IfSimple facts o → is_resource (kind_if facts o) ≡ true → ⊥
resource_none facts None simple e = false≢true e
resource_none facts (Some ty) simple e = resource_has simple.has simple.blocks simple.declared e

-- ---- rows

-- what takes values from where they wait
abbrev pub takes_held : Operation → Bool
takes_held O.Make = true
takes_held O.Sequence = true
takes_held O.Add = true
takes_held operation = false

module _ (here : Here) (scope : scopes.Here) (limits : Limits) (root : (global : Bool) → ℕ → ℕ) (OfCall : ℕ → Args → Type 0) (r : Region)
    (ms os : List Owner) (first places : ℕ) (nodes old : List ℕ) (start now : World) where
  abbrev SettledBy : (uses : (position : ℕ) → Use) → Hand → Args → ℕ → List Operand → Type 0
  SettledBy uses h args i xs = Settled here scope limits root uses ms os now h args i xs

  abbrev HandAt : Hand → Type 0
  HandAt h = AtHand h r ms os first places nodes old start now

  abbrev Gives : Option Ty → Value → World → Type 0
  Gives ty v after = OutOf here.facts r ms os first places nodes old start ty v after

  hand_there : (h : Hand) → HandAt h → HandThere now h
  hand_there empty s = tt
  hand_there (holds f v) s = (s.under.given, s.under.has)

  -- operands that are there
  seen_by : (uses : (position : ℕ) → Use) (args : Args) {h : Hand} {xs : List Operand} → ((j : ℕ) → uses j ≡ Held → ⊥) → HandAt h →
      SettledBy uses h args 0 xs → are_seen now xs ≡ true
  seen_by uses args {h} none s settled =
      all_are_seen here scope limits root uses ms os now (hand_stage h s).runs.territory none (hand_there h s) settled

  -- the operand of one value
  -- where all of them are looked at, or lent, nothing is under way
  hand_free : (uses : (position : ℕ) → Use) {h : Hand} {args : Args} {i : ℕ} {xs : List Operand} → ((j : ℕ) → uses j ≡ Owned → ⊥) →
      ((j : ℕ) → uses j ≡ ToPlace → ⊥) → SettledBy uses h args i xs → IsHeld h → ⊥
  hand_free uses a b none_settled q = q
  hand_free uses a b (bare which h more) q = hand_free uses a b more q
  hand_free uses a b (held purpose hooks c stands more) q = hand_free uses a b more q
  hand_free uses a b (lent purpose hooks own c more) q = hand_free uses a b more q
  hand_free uses a b (found f w more) q = hand_free uses a b more q
  hand_free uses a b (seen purpose h) q = q
  hand_free uses a b (copied purpose hooks f) q = q
  hand_free uses a b (in_hand {i = i} (inl e) hooks) q = a i e
  hand_free uses a b (in_hand {i = i} (inr e) hooks) q = b i e

  looked_at : {h : Hand} {args : Args} {xs : List Operand} → SettledBy (λ j. Looked) h args 0 xs → HandAt h → Stage r ms os first places nodes old start now
  looked_at {h} settled s =
      hand_alone h (hand_free (λ j. Looked) (λ j e. other_use e (λ q. omega (arith, q))) (λ j e. other_use e (λ q. omega (arith, q))) settled) s

  lent_alone : {h : Hand} {args : Args} {xs : List Operand} → SettledBy (λ j. Lent) h args 0 xs → HandAt h → Stage r ms os first places nodes old start now
  lent_alone {h} settled s =
      hand_alone h (hand_free (λ j. Lent) (λ j e. other_use e (λ q. omega (arith, q))) (λ j e. other_use e (λ q. omega (arith, q))) settled) s

  record One (xs : List Operand) : Type 0 where
    operand : Operand
    is : xs ≡ operand ∷ []

  one_operand : (uses : (position : ℕ) → Use) {h : Hand} {value : Expr} {i : ℕ} {xs : List Operand} → SettledBy uses h (ByValue value NoArg) i xs → One xs
  one_operand uses (bare which b none_settled) = record { operand = _; is = refl }
  one_operand uses (held purpose hooks a stands none_settled) = record { operand = _; is = refl }
  one_operand uses (lent purpose hooks own a none_settled) = record { operand = _; is = refl }
  one_operand uses (seen purpose h) = record { operand = _; is = refl }
  one_operand uses (copied purpose hooks f) = record { operand = _; is = refl }
  one_operand uses (in_hand purpose hooks) = record { operand = _; is = refl }

  written : {n : ℕ} {steps : List Step} {f : Form} {l : Location} {b : Bool} → b ≡ true → Found (ms ++ os) now b n steps f l →
      Found (ms ++ os) now true n steps f l
  written {n} {steps} {f} {l} e there = subst (λ b. Found (ms ++ os) now b n steps f l) e there

  abbrev AskedOf : Args → Type 0
  AskedOf operands = AllAsked here.facts limits OfCall operands

  value_type : (value : Expr) → Asked here.facts limits OfCall value → IfSimple here.facts (type_of value)
  value_type value a = asked_type here.facts limits OfCall value a

  path_type : (path : Path) → AskedAt here.facts limits OfCall path → IfSimple here.facts (type_at path)
  path_type path a = asked_at here.facts limits OfCall path a

  -- by the operation
  pub row_so : {h : Hand} (at : HandAt h) →
      (operation : Operation) (ty : Option Ty) (operands : Args) {xs : List Operand} → takes_held operation ≡ false → IfSimple here.facts ty →
      ActAsked here.facts limits OfCall (Doing operation) operands → AskedOf operands → fits here.facts operation ty (types_in operands) ≡ true →
      are_placed (places_in operation) operands ≡ true → SettledBy (λ j. use_by operation) h operands 0 xs →
      Sure (operates operation here.facts ty (types_in operands) xs) (Gives ty) now
  row_so at O.Default ty NoArg takes simple act asked typed placed none_settled =
      default_row here.facts r ms os first places nodes old start ty [] now simple typed at
  row_so {h} at O.Default ty (ByValue value rest) takes simple act asked typed placed settled = absurd (false≢true typed)
  row_so {h} at O.Default ty (ByPath path rest) takes simple act asked typed placed settled = absurd (false≢true typed)
  row_so {h} at (O.Unary o) ty operands {xs} takes simple act asked typed placed settled =
      unary here.facts r ms os first places nodes old start o ty (types_in operands) xs now simple typed
      (seen_by (λ j. Looked) operands (λ j e. other_use e (λ q. omega (arith, q))) at settled) (looked_at settled at)
  row_so {h} at (O.Binary o) ty operands {xs} takes simple act asked typed placed settled =
      binary here.facts r ms os first places nodes old start o ty (types_in operands) xs now simple typed
      (seen_by (λ j. Looked) operands (λ j e. other_use e (λ q. omega (arith, q))) at settled) (looked_at settled at)
  row_so {h} at (O.Compare c) ty operands {xs} takes simple act asked typed placed settled =
      compare here.facts r ms os first places nodes old start c ty (types_in operands) xs now simple typed
      (seen_by (λ j. Lent) operands (λ j e. other_use e (λ q. omega (arith, q))) at settled) (lent_alone settled at)
  row_so {h} at O.Join ty operands {xs} takes simple act asked typed placed settled =
      join here.facts r ms os first places nodes old start ty (types_in operands) xs now simple typed
      (seen_by (λ j. Lent) operands (λ j e. other_use e (λ q. omega (arith, q))) at settled) (lent_alone settled at)
  row_so {h} at O.Show ty operands {xs} takes simple act asked typed placed settled =
      show here.facts r ms os first places nodes old start ty (types_in operands) xs now simple typed
      (seen_by (λ j. Looked) operands (λ j e. other_use e (λ q. omega (arith, q))) at settled) (looked_at settled at)
  row_so {h} at O.NewSequence ty operands {xs} takes simple act asked typed placed settled =
      new_elements here.facts r ms os first places nodes old start ty (types_in operands) xs now simple typed
      (seen_by (λ j. Looked) operands (λ j e. other_use e (λ q. omega (arith, q))) at settled) (looked_at settled at)
  row_so {h} at O.Echo ty operands {xs} takes simple act asked typed placed settled =
      echo here.facts r ms os first places nodes old start ty (types_in operands) xs now typed
      (seen_by (λ j. Lent) operands (λ j e. other_use e (λ q. omega (arith, q))) at settled) (lent_alone settled at)
  row_so {h} at O.Quit ty operands {xs} takes simple act asked typed placed settled =
      quit here.facts r ms os first places nodes old start ty (types_in operands) xs now
      (seen_by (λ j. Looked) operands (λ j e. other_use e (λ q. omega (arith, q))) at settled)
  row_so {h} at O.Discard ty operands {xs} takes simple act asked typed placed settled =
      let_go here.facts r ms os first places nodes old start ty (types_in operands) xs now typed
      (seen_by (λ j. Looked) operands (λ j e. other_use e (λ q. omega (arith, q))) at settled) (looked_at settled at)
  -- of one value
  row_so at O.Convert ty (ByValue value NoArg) takes simple act asked typed placed (bare (inl unhooked) b none_settled) =
      convert_bare here.facts r ms os first places nodes old start now ty (type_of value) simple (value_type value asked.0) typed unhooked
      (seen_by (λ j. Owned) (ByValue value NoArg) (λ j e. other_use e (λ q. omega (arith, q))) at (bare (inl unhooked) b none_settled)) at b
  row_so at O.Convert ty (ByValue value NoArg) takes simple act asked typed placed (bare (inr (inl e)) b none_settled) =
      other_use e.0 (λ q. omega (arith, q))
  row_so at O.Convert ty (ByValue value NoArg) takes simple act asked typed placed (bare (inr (inr e)) b none_settled) =
      other_use e (λ q. omega (arith, q))
  row_so at O.Convert ty (ByValue value NoArg) takes simple act asked typed placed (held e hooks a stands none_settled) =
      other_use e (λ q. omega (arith, q))
  row_so at O.Convert ty (ByValue value NoArg) takes simple act asked typed placed (lent e hooks own a none_settled) = other_use e (λ q. omega (arith, q))
  row_so at O.Convert ty (ByValue value NoArg) takes simple act asked typed placed (seen e b) = other_use e (λ q. omega (arith, q))
  row_so at O.Convert ty (ByValue value NoArg) takes simple act asked typed placed (copied e hooks f) = other_use e (λ q. omega (arith, q))
  row_so at O.Convert ty (ByValue value NoArg) takes simple act asked typed placed (in_hand e hooks) =
      convert_held here.facts r ms os first places nodes old start now ty (type_of value) simple (value_type value asked.0) typed
      (seen_by (λ j. Owned) (ByValue value NoArg) (λ j e. other_use e (λ q. omega (arith, q))) at (in_hand e hooks)) at
  row_so {h} at O.Convert ty NoArg takes simple act asked typed placed settled = absurd (false≢true typed)
  row_so {h} at O.Convert ty (ByPath path rest) takes simple act asked typed placed settled = absurd (false≢true placed)
  row_so {h} at O.Convert ty (ByValue value (ByValue other rest)) takes simple act asked typed placed settled = absurd (false≢true typed)
  row_so {h} at O.Convert ty (ByValue value (ByPath path rest)) takes simple act asked typed placed settled = absurd (false≢true typed)
  -- of one place
  row_so at (O.Measure m) ty (ByPath path NoArg) takes simple act asked typed placed (found f w none_settled) =
      measure here.facts r ms os first places nodes old start now at m ty (type_at path ∷ []) simple typed
      (seen_by (λ j. Looked) (ByPath path NoArg) (λ j e. other_use e (λ q. omega (arith, q))) at (found f w none_settled)) (read_found at.runs.territory f)
  row_so {h} at (O.Measure m) ty NoArg takes simple act asked typed placed settled = absurd (false≢true typed)
  row_so {h} at (O.Measure m) ty (ByValue value rest) takes simple act asked typed placed settled = absurd (false≢true placed)
  row_so {h} at (O.Measure m) ty (ByPath path (ByValue value rest)) takes simple act asked typed placed settled = absurd (false≢true typed)
  row_so {h} at (O.Measure m) ty (ByPath path (ByPath other rest)) takes simple act asked typed placed settled = absurd (false≢true typed)
  row_so at O.ReadLineInto ty (ByPath path NoArg) takes simple act asked typed placed (found f w none_settled) =
      read_into here.facts r ms os first places nodes old start now at (type_at path) (written act.0 f) ty simple (path_type path asked.0) typed
      (seen_by (λ j. Looked) (ByPath path NoArg) (λ j e. other_use e (λ q. omega (arith, q))) at (found f w none_settled))
  row_so {h} at O.ReadLineInto ty NoArg takes simple act asked typed placed settled = absurd (false≢true typed)
  row_so {h} at O.ReadLineInto ty (ByValue value rest) takes simple act asked typed placed settled = absurd (false≢true placed)
  row_so {h} at O.ReadLineInto ty (ByPath path (ByValue value rest)) takes simple act asked typed placed settled = absurd (false≢true typed)
  row_so {h} at O.ReadLineInto ty (ByPath path (ByPath other rest)) takes simple act asked typed placed settled = absurd (false≢true typed)
  row_so at O.Pop ty (ByPath path NoArg) takes simple act asked typed placed (found f w none_settled) =
      pop here.facts r ms os first places nodes old start now at (type_at path) (written act.0 f) ty (path_type path asked.0) typed
      (seen_by (λ j. Looked) (ByPath path NoArg) (λ j e. other_use e (λ q. omega (arith, q))) at (found f w none_settled))
  row_so {h} at O.Pop ty NoArg takes simple act asked typed placed settled = absurd (false≢true typed)
  row_so {h} at O.Pop ty (ByValue value rest) takes simple act asked typed placed settled = absurd (false≢true placed)
  row_so {h} at O.Pop ty (ByPath path (ByValue value rest)) takes simple act asked typed placed settled = absurd (false≢true typed)
  row_so {h} at O.Pop ty (ByPath path (ByPath other rest)) takes simple act asked typed placed settled = absurd (false≢true typed)
  row_so at O.Move ty (ByPath path NoArg) takes simple act asked typed placed (found f w none_settled) =
      move here.facts r ms os first places nodes old start now at (type_at path) (written act.0 f) ty simple typed
      (seen_by (λ j. Looked) (ByPath path NoArg) (λ j e. other_use e (λ q. omega (arith, q))) at (found f w none_settled))
  row_so {h} at O.Move ty NoArg takes simple act asked typed placed settled = absurd (false≢true typed)
  row_so {h} at O.Move ty (ByValue value rest) takes simple act asked typed placed settled = absurd (false≢true placed)
  row_so {h} at O.Move ty (ByPath path (ByValue value rest)) takes simple act asked typed placed settled = absurd (false≢true typed)
  row_so {h} at O.Move ty (ByPath path (ByPath other rest)) takes simple act asked typed placed settled = absurd (false≢true typed)
  row_so {h} at (O.Update o) (Some ty) (ByPath path NoArg) takes simple act asked typed placed settled = absurd (false≢true typed)
  row_so at (O.Update o) None (ByPath path NoArg) takes simple act asked typed placed (found f w none_settled) =
      update here.facts r ms os first places nodes old start now at (type_at path) (written act.0 f) o [] [] (path_type path asked.0)
      (and_parts (is_stepped o) (is_int (kind_if here.facts (type_at path))) typed).1
      (seen_by (λ j. Looked) (ByPath path NoArg) (λ j e. other_use e (λ q. omega (arith, q))) at (found f w none_settled))
  row_so {h} at O.ReadLine ty operands takes simple act asked typed placed settled = absurd act
  row_so {h} at O.Make ty operands takes simple act asked typed placed settled = absurd (false≢true (sym takes))
  row_so {h} at O.Sequence ty operands takes simple act asked typed placed settled = absurd (false≢true (sym takes))
  row_so {h} at O.Add ty operands takes simple act asked typed placed settled = absurd (false≢true (sym takes))
  row_so {h} at O.IsNil ty NoArg takes simple act asked typed placed settled = absurd (false≢true typed)
  row_so {h} at O.IsNil ty (ByValue value NoArg) takes simple act asked typed placed settled =
      absurd (ref_none here.facts (type_of value) (value_type value asked.0)
      (and_parts (is_bool (kind_if here.facts ty)) (is_ref (kind_if here.facts (type_of value))) typed).1)
  row_so {h} at O.IsNil ty (ByValue value (ByValue other rest)) takes simple act asked typed placed settled = absurd (false≢true typed)
  row_so {h} at O.IsNil ty (ByValue value (ByPath other rest)) takes simple act asked typed placed settled = absurd (false≢true typed)
  row_so {h} at O.IsNil ty (ByPath path rest) takes simple act asked typed placed settled = absurd (false≢true placed)
  row_so {h} at O.Destroy (Some ty) operands takes simple act asked typed placed settled = absurd (false≢true typed)
  row_so {h} at O.Destroy None NoArg takes simple act asked typed placed settled = absurd (false≢true typed)
  row_so {h} at O.Destroy None (ByValue value rest) takes simple act asked typed placed settled = absurd (false≢true placed)
  row_so {h} at O.Destroy None (ByPath path NoArg) takes simple act asked typed placed settled =
      absurd (resource_none here.facts (type_at path) (path_type path asked.0) typed)
  row_so {h} at O.Destroy None (ByPath path (ByValue value rest)) takes simple act asked typed placed settled = absurd (false≢true typed)
  row_so {h} at O.Destroy None (ByPath path (ByPath other rest)) takes simple act asked typed placed settled = absurd (false≢true typed)
  row_so {h} at O.Blank (Some ty) operands takes simple act asked typed placed settled = absurd (false≢true typed)
  row_so {h} at O.Blank None NoArg takes simple act asked typed placed settled = absurd (false≢true typed)
  row_so {h} at O.Blank None (ByValue value rest) takes simple act asked typed placed settled = absurd (false≢true placed)
  row_so {h} at O.Blank None (ByPath path NoArg) takes simple act asked typed placed settled =
      absurd (resource_none here.facts (type_at path) (path_type path asked.0) typed)
  row_so {h} at O.Blank None (ByPath path (ByValue value rest)) takes simple act asked typed placed settled = absurd (false≢true typed)
  row_so {h} at O.Blank None (ByPath path (ByPath other rest)) takes simple act asked typed placed settled = absurd (false≢true typed)
  -- of a place and a value
  row_so {h} at (O.Update o) (Some ty) (ByPath path (ByValue value NoArg)) takes simple act asked typed placed settled = absurd (false≢true typed)
  row_so {h} at (O.Update o) None (ByPath path (ByValue value NoArg)) takes simple act asked typed placed (found {l = l} {xs = ys} f w more) =
      let seen = seen_by (λ j. Looked) (ByPath path (ByValue value NoArg)) (λ j e. other_use e (λ q. omega (arith, q))) at (found f w more) in
      update here.facts r ms os first places nodes old start now (looked_at {args = ByPath path (ByValue value NoArg)} (found f w more) at) (type_at path)
      (written act.0 f) o (type_of value ∷ []) ys
      (path_type path asked.0)
      (and_parts (is_int (kind_if here.facts (type_at path))) (is_int (kind_if here.facts (type_of value)))
      (and_parts (is_updated o) (is_int (kind_if here.facts (type_at path)) && is_int (kind_if here.facts (type_of value))) typed).1).0 seen
  row_so {h} at (O.Update o) ty NoArg takes simple act asked typed placed settled = absurd (false≢true placed)
  row_so {h} at (O.Update o) ty (ByValue value rest) takes simple act asked typed placed settled = absurd (false≢true placed)
  row_so {h} at (O.Update o) ty (ByPath path (ByPath other rest)) takes simple act asked typed placed settled = absurd (false≢true placed)
  row_so {h} at (O.Update o) (Some ty) (ByPath path (ByValue value (ByValue other rest))) takes simple act asked typed placed settled =
      absurd (false≢true typed)
  row_so {h} at (O.Update o) None (ByPath path (ByValue value (ByValue other rest))) takes simple act asked typed placed settled =
      absurd (false≢true typed)
  row_so {h} at (O.Update o) ty (ByPath path (ByValue value (ByPath other rest))) takes simple act asked typed placed settled = absurd (false≢true placed)
  row_so {h} at O.Append (Some ty) operands takes simple act asked typed placed settled = absurd (false≢true typed)
  row_so {h} at O.Append None NoArg takes simple act asked typed placed settled = absurd (false≢true typed)
  row_so {h} at O.Append None (ByValue value rest) takes simple act asked typed placed settled = absurd (false≢true placed)
  row_so {h} at O.Append None (ByPath path NoArg) takes simple act asked typed placed settled = absurd (false≢true typed)
  row_so {h} at O.Append None (ByPath path (ByPath other rest)) takes simple act asked typed placed settled = absurd (false≢true placed)
  row_so {h} at O.Append None (ByPath path (ByValue value (ByValue other rest))) takes simple act asked typed placed settled = absurd (false≢true typed)
  row_so {h} at O.Append None (ByPath path (ByValue value (ByPath other rest))) takes simple act asked typed placed settled = absurd (false≢true typed)
  row_so {h} at O.Append None (ByPath path (ByValue value NoArg)) takes simple act asked typed placed (found {l = l} f w more) =
      let y = one_operand (λ j. Lent) more in
      let seen = seen_by (λ j. Lent) (ByPath path (ByValue value NoArg)) (λ j e. other_use e (λ q. omega (arith, q))) at (found f w more) in
      subst (λ zs. Sure (operates O.Append here.facts None (type_at path ∷ type_of value ∷ []) (At l ∷ zs)) (Gives None) now) (sym y.is)
      (append here.facts r ms os first places nodes old start now (lent_alone {args = ByPath path (ByValue value NoArg)} (found f w more) at) (type_at path)
      (written act.0 f) (type_of value) y.operand
      (path_type path asked.0)
      (and_parts (is_text (kind_if here.facts (type_at path))) (is_joined (kind_if here.facts (type_of value))) typed).0
      (subst (λ zs. are_seen now (At l ∷ zs) ≡ true) y.is seen))
  row_so {h} at O.SetLength (Some ty) operands takes simple act asked typed placed settled = absurd (false≢true typed)
  row_so {h} at O.SetLength None NoArg takes simple act asked typed placed settled = absurd (false≢true typed)
  row_so {h} at O.SetLength None (ByValue value rest) takes simple act asked typed placed settled = absurd (false≢true placed)
  row_so {h} at O.SetLength None (ByPath path NoArg) takes simple act asked typed placed settled = absurd (false≢true typed)
  row_so {h} at O.SetLength None (ByPath path (ByPath other rest)) takes simple act asked typed placed settled = absurd (false≢true placed)
  row_so {h} at O.SetLength None (ByPath path (ByValue value (ByValue other rest))) takes simple act asked typed placed settled =
      absurd (false≢true typed)
  row_so {h} at O.SetLength None (ByPath path (ByValue value (ByPath other rest))) takes simple act asked typed placed settled = absurd (false≢true typed)
  row_so {h} at O.SetLength None (ByPath path (ByValue value NoArg)) takes simple act asked typed placed (found {l = l} f w more) =
      let y = one_operand (λ j. Looked) more in
      let seen = seen_by (λ j. Looked) (ByPath path (ByValue value NoArg)) (λ j e. other_use e (λ q. omega (arith, q))) at (found f w more) in
      subst (λ zs. Sure (operates O.SetLength here.facts None (type_at path ∷ type_of value ∷ []) (At l ∷ zs)) (Gives None) now) (sym y.is)
      (set_length here.facts r ms os first places nodes old start now (looked_at {args = ByPath path (ByValue value NoArg)} (found f w more) at) (type_at path)
      (written act.0 f) (type_of value) y.operand
      (path_type path asked.0)
      (and_parts (is_resized (kind_if here.facts (type_at path))) (is_int (kind_if here.facts (type_of value))) typed).0
      (subst (λ zs. are_seen now (At l ∷ zs) ≡ true) y.is seen))
  row_so {h} at O.Swap (Some ty) operands takes simple act asked typed placed settled = absurd (false≢true typed)
  row_so {h} at O.Swap None NoArg takes simple act asked typed placed settled = absurd (false≢true typed)
  row_so {h} at O.Swap None (ByValue value rest) takes simple act asked typed placed settled = absurd (false≢true placed)
  row_so {h} at O.Swap None (ByPath path NoArg) takes simple act asked typed placed settled = absurd (false≢true typed)
  row_so {h} at O.Swap None (ByPath path (ByValue value rest)) takes simple act asked typed placed settled = absurd (false≢true placed)
  row_so {h} at O.Swap None (ByPath path (ByPath other (ByValue value rest))) takes simple act asked typed placed settled = absurd (false≢true typed)
  row_so {h} at O.Swap None (ByPath path (ByPath other (ByPath third rest))) takes simple act asked typed placed settled = absurd (false≢true typed)
  row_so at O.Swap None (ByPath path (ByPath other NoArg)) takes simple act asked typed placed (found f w (found g v none_settled)) =
      swap here.facts r ms os first places nodes old start now at (type_at path) (written act.0 f) (type_at other) typed (written act.1.0 g)
      (seen_by (λ j. Looked) (ByPath path (ByPath other NoArg)) (λ j e. other_use e (λ q. omega (arith, q))) at (found f w (found g v none_settled)))
  row_so {h} at O.Assign (Some ty) operands takes simple act asked typed placed settled = absurd (false≢true typed)
  row_so {h} at O.Assign None NoArg takes simple act asked typed placed settled = absurd (false≢true typed)
  row_so {h} at O.Assign None (ByValue value rest) takes simple act asked typed placed settled = absurd (false≢true placed)
  row_so {h} at O.Assign None (ByPath path NoArg) takes simple act asked typed placed settled = absurd (false≢true typed)
  row_so {h} at O.Assign None (ByPath path (ByPath other rest)) takes simple act asked typed placed settled = absurd (false≢true placed)
  row_so {h} at O.Assign None (ByPath path (ByValue value (ByValue other rest))) takes simple act asked typed placed settled = absurd (false≢true typed)
  row_so {h} at O.Assign None (ByPath path (ByValue value (ByPath other rest))) takes simple act asked typed placed settled = absurd (false≢true typed)
  row_so at O.Assign None (ByPath path (ByValue value NoArg)) takes simple act asked typed placed (found f w (bare (inl unhooked) b none_settled)) =
      assign_bare here.facts r ms os first places nodes old start now at (type_at path) (written act.0 f) (type_of value) typed
      (ap (λ o. hooked (form_for here.facts o)) (sym (same_type {a = type_of value} {b = type_at path} typed)) ∙ unhooked) b
      (seen_by (λ j. ToPlace) (ByPath path (ByValue value NoArg)) (λ j e. other_use e (λ q. omega (arith, q))) at
      (found f w (bare (inl unhooked) b none_settled)))
  row_so at O.Assign None (ByPath path (ByValue value NoArg)) takes simple act asked typed placed (found f w (bare (inr (inl e)) b none_settled)) =
      other_use e.0 (λ q. omega (arith, q))
  row_so at O.Assign None (ByPath path (ByValue value NoArg)) takes simple act asked typed placed (found f w (bare (inr (inr e)) b none_settled)) =
      other_use e (λ q. omega (arith, q))
  row_so at O.Assign None (ByPath path (ByValue value NoArg)) takes simple act asked typed placed (found f w (held e hooks a stands none_settled)) =
      other_use e (λ q. omega (arith, q))
  row_so at O.Assign None (ByPath path (ByValue value NoArg)) takes simple act asked typed placed (found f w (lent e hooks own a none_settled)) =
      other_use e (λ q. omega (arith, q))
  row_so at O.Assign None (ByPath path (ByValue value NoArg)) takes simple act asked typed placed (found f w (seen e b)) =
      other_use e (λ q. omega (arith, q))
  row_so at O.Assign None (ByPath path (ByValue value NoArg)) takes simple act asked typed placed (found f w (copied e hooks g)) =
      assign_copy here.facts r ms os first places nodes old start now at (type_at path) (written act.0 f) (type_of value) typed
      (ap (λ o. hooked (form_for here.facts o)) (sym (same_type {a = type_of value} {b = type_at path} typed))
      ∙ (sym (hooked_is here.facts (type_of value)) ∙ hooks)) g
      (seen_by (λ j. ToPlace) (ByPath path (ByValue value NoArg)) (λ j e. other_use e (λ q. omega (arith, q))) at (found f w (copied e hooks g)))
  row_so at O.Assign None (ByPath path (ByValue value NoArg)) takes simple act asked typed placed (found f w (in_hand e hooks)) =
      assign_held here.facts r ms os first places nodes old start now (type_at path) (type_of value) (written act.0 f) typed
      (ap (λ o. hooked (form_for here.facts o)) (sym (same_type {a = type_of value} {b = type_at path} typed))
      ∙ (sym (hooked_is here.facts (type_of value)) ∙ hooks))
      (seen_by (λ j. ToPlace) (ByPath path (ByValue value NoArg)) (λ j e. other_use e (λ q. omega (arith, q))) at (found f w (in_hand e hooks))) at
