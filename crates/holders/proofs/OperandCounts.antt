-- How many operands an operation has, and which of them are its last ones.
use Rattle.std.proofs.Common.{◌≡◌, refl, ap, ◌∙◌, arith, ℕ, suc, ◌≤◌, Bool, true, false, inl, inr, ◌⊎◌, List, [], ◌∷◌, length, Option, Some, None}
use Rattle.std.specs.Prelude.{◌&&◌}
use Rattle.std.proofs.lemmas.Bool.{false≢true, and_parts}
use Rattle.nim_types.specs.Types.{Ty, Facts}
use Rattle.nim_program.specs.declared.operation.Use.{Use}
use Rattle.nim_program.specs.declared.operation.Use.TheVariants.{Held, Lent, Looked}
use Rattle.nim_program.specs.declared.operation.Operation.{Operation}
use Rattle.nim_program.specs.declared.operation.Operation.TheVariants as O
use Rattle.nim_program.specs.Program.{Args, NoArg, ByValue, ByPath, type_of, types_in}
use Rattle.nim_program.specs.Kinds.{kind_if, is_of}
use Rattle.nim_program.specs.Fitting.{fits, binary_takes, places_in}
use Rattle.nim_program.specs.Uses.{use_by}
use Rattle.nim_program.specs.Typed.{are_placed}
use Rattle.nim_meaning.specs.Here.{Here, gives_hooked, form_for}
use Rattle.holders.specs.Asked.{IfSimple}
use Rattle.holders.specs.Evaluating.{AllLast}
use Rattle.holders.proofs.Constants.{not_hooked}
use Rattle.holders.proofs.FormKinds.{same_type}
use Rattle.holders.proofs.Table.{binary_type}

-- ---- how many operands an operation has

-- one operand at most, of all places and values
abbrev pub is_single : Operation → Bool
is_single O.Default = true
is_single (O.Unary o) = true
is_single O.Convert = true
is_single O.Show = true
is_single O.NewSequence = true
is_single (O.Measure m) = true
is_single O.IsNil = true
is_single O.Quit = true
is_single O.ReadLine = true
is_single O.ReadLineInto = true
is_single O.Pop = true
is_single O.Move = true
is_single O.Discard = true
is_single O.Destroy = true
is_single O.Blank = true
is_single operation = false

-- a place, and one more operand
abbrev pub is_double : Operation → Bool
is_double O.Assign = true
is_double (O.Update o) = true
is_double O.SetLength = true
is_double O.Swap = true
is_double operation = false

module _ (here : Here) (uses : (position : ℕ) → Use) where
  abbrev pub AllPlain : Args → Type 0
  AllPlain NoArg = Unit {0}
  AllPlain (ByValue value rest) = (gives_hooked here.facts (type_of value) ≡ false) × AllPlain rest
  AllPlain (ByPath path rest) = AllPlain rest

  pub one_last : (args : Args) (i : ℕ) → length (types_in args) ≤ 1 → AllLast here uses args i
  one_last NoArg i le = tt
  one_last (ByValue value NoArg) i le = tt
  one_last (ByValue value (ByValue other rest)) i le = absurd (omega (arith, le))
  one_last (ByValue value (ByPath path rest)) i le = absurd (omega (arith, le))
  one_last (ByPath path rest) i le = one_last rest (suc i) (omega (arith, le))

  pub two_last : (args : Args) (i : ℕ) → are_placed 1 args ≡ true → length (types_in args) ≤ 2 → AllLast here uses args i
  two_last NoArg i placed le = absurd (false≢true placed)
  two_last (ByValue value rest) i placed le = absurd (false≢true placed)
  two_last (ByPath path rest) i placed le = one_last rest (suc i) (omega (arith, le))

  pub paths_last : (args : Args) (i : ℕ) → are_placed 2 args ≡ true → length (types_in args) ≤ 2 → AllLast here uses args i
  paths_last NoArg i placed le = absurd (false≢true placed)
  paths_last (ByValue value rest) i placed le = absurd (false≢true placed)
  paths_last (ByPath path rest) i placed le = one_last rest (suc i) (omega (arith, le))

  -- what is held or lent may come before others
  pub all_last : ((j : ℕ) → (uses j ≡ Held) ⊎ (uses j ≡ Lent)) → (args : Args) (i : ℕ) → AllLast here uses args i
  all_last h NoArg i = tt
  all_last h (ByValue value NoArg) i = tt
  all_last h (ByValue value (ByValue other rest)) i = (inr (h i), all_last h (ByValue other rest) (suc i))
  all_last h (ByValue value (ByPath path rest)) i = (inr (h i), all_last h (ByPath path rest) (suc i))
  all_last h (ByPath path rest) i = all_last h rest (suc i)

  pub bare_last : (args : Args) (i : ℕ) → AllPlain args → AllLast here uses args i
  bare_last NoArg i h = tt
  bare_last (ByValue value NoArg) i h = tt
  bare_last (ByValue value (ByValue other rest)) i h = (inl h.0, bare_last (ByValue other rest) (suc i) h.1)
  bare_last (ByValue value (ByPath path rest)) i h = (inl h.0, bare_last (ByPath path rest) (suc i) h.1)
  bare_last (ByPath path rest) i h = bare_last rest (suc i) h

module _ (facts : Facts) where
  pub fits_one : (operation : Operation) (ty : Option Ty) (of : List (Option Ty)) → is_single operation ≡ true → fits facts operation ty of ≡ true →
      length of ≤ 1
  fits_one operation ty [] single typed = omega arith
  fits_one operation ty (a ∷ []) single typed = omega arith
  fits_one O.Default ty (a ∷ b ∷ of) single typed = absurd (false≢true typed)
  fits_one (O.Unary o) ty (a ∷ b ∷ of) single typed = absurd (false≢true typed)
  fits_one (O.Binary o) ty (a ∷ b ∷ of) single typed = absurd (false≢true single)
  fits_one (O.Compare c) ty (a ∷ b ∷ of) single typed = absurd (false≢true single)
  fits_one O.Convert ty (a ∷ b ∷ of) single typed = absurd (false≢true typed)
  fits_one O.Join ty (a ∷ b ∷ of) single typed = absurd (false≢true single)
  fits_one O.Show ty (a ∷ b ∷ of) single typed = absurd (false≢true typed)
  fits_one O.Make ty (a ∷ b ∷ of) single typed = absurd (false≢true single)
  fits_one O.Sequence ty (a ∷ b ∷ of) single typed = absurd (false≢true single)
  fits_one O.NewSequence ty (a ∷ b ∷ of) single typed = absurd (false≢true typed)
  fits_one (O.Measure m) ty (a ∷ b ∷ of) single typed = absurd (false≢true typed)
  fits_one O.IsNil ty (a ∷ b ∷ of) single typed = absurd (false≢true typed)
  fits_one O.Echo ty (a ∷ b ∷ of) single typed = absurd (false≢true single)
  fits_one O.Quit None (a ∷ b ∷ of) single typed = absurd (false≢true typed)
  fits_one O.Quit (Some ty) (a ∷ b ∷ of) single typed = absurd (false≢true typed)
  fits_one O.ReadLine ty (a ∷ b ∷ of) single typed = absurd (false≢true typed)
  fits_one O.ReadLineInto ty (a ∷ b ∷ of) single typed = absurd (false≢true typed)
  fits_one O.Assign ty (a ∷ b ∷ of) single typed = absurd (false≢true single)
  fits_one (O.Update o) ty (a ∷ b ∷ of) single typed = absurd (false≢true single)
  fits_one O.Add ty (a ∷ b ∷ of) single typed = absurd (false≢true single)
  fits_one O.Append ty (a ∷ b ∷ of) single typed = absurd (false≢true single)
  fits_one O.SetLength ty (a ∷ b ∷ of) single typed = absurd (false≢true single)
  fits_one O.Pop ty (a ∷ b ∷ of) single typed = absurd (false≢true typed)
  fits_one O.Move ty (a ∷ b ∷ of) single typed = absurd (false≢true typed)
  fits_one O.Swap ty (a ∷ b ∷ of) single typed = absurd (false≢true single)
  fits_one O.Discard None (a ∷ b ∷ of) single typed = absurd (false≢true typed)
  fits_one O.Discard (Some ty) (a ∷ b ∷ of) single typed = absurd (false≢true typed)
  fits_one O.Destroy None (a ∷ b ∷ of) single typed = absurd (false≢true typed)
  fits_one O.Destroy (Some ty) (a ∷ b ∷ of) single typed = absurd (false≢true typed)
  fits_one O.Blank None (a ∷ b ∷ of) single typed = absurd (false≢true typed)
  fits_one O.Blank (Some ty) (a ∷ b ∷ of) single typed = absurd (false≢true typed)

  -- places with one more operand
  pub fits_two : (operation : Operation) (ty : Option Ty) (of : List (Option Ty)) → is_double operation ≡ true → fits facts operation ty of ≡ true →
      length of ≤ 2
  fits_two operation ty [] double typed = omega arith
  fits_two operation ty (a ∷ []) double typed = omega arith
  fits_two operation ty (a ∷ b ∷ []) double typed = omega arith
  fits_two O.Assign None (a ∷ b ∷ c ∷ of) double typed = absurd (false≢true typed)
  fits_two O.Assign (Some ty) (a ∷ b ∷ c ∷ of) double typed = absurd (false≢true typed)
  fits_two (O.Update o) None (a ∷ b ∷ c ∷ of) double typed = absurd (false≢true typed)
  fits_two (O.Update o) (Some ty) (a ∷ b ∷ c ∷ of) double typed = absurd (false≢true typed)
  fits_two O.SetLength None (a ∷ b ∷ c ∷ of) double typed = absurd (false≢true typed)
  fits_two O.SetLength (Some ty) (a ∷ b ∷ c ∷ of) double typed = absurd (false≢true typed)
  fits_two O.Swap None (a ∷ b ∷ c ∷ of) double typed = absurd (false≢true typed)
  fits_two O.Swap (Some ty) (a ∷ b ∷ c ∷ of) double typed = absurd (false≢true typed)
  fits_two O.Default ty (a ∷ b ∷ c ∷ of) double typed = absurd (false≢true double)
  fits_two (O.Unary o) ty (a ∷ b ∷ c ∷ of) double typed = absurd (false≢true double)
  fits_two (O.Binary o) ty (a ∷ b ∷ c ∷ of) double typed = absurd (false≢true double)
  fits_two (O.Compare x) ty (a ∷ b ∷ c ∷ of) double typed = absurd (false≢true double)
  fits_two O.Convert ty (a ∷ b ∷ c ∷ of) double typed = absurd (false≢true double)
  fits_two O.Join ty (a ∷ b ∷ c ∷ of) double typed = absurd (false≢true double)
  fits_two O.Show ty (a ∷ b ∷ c ∷ of) double typed = absurd (false≢true double)
  fits_two O.Make ty (a ∷ b ∷ c ∷ of) double typed = absurd (false≢true double)
  fits_two O.Sequence ty (a ∷ b ∷ c ∷ of) double typed = absurd (false≢true double)
  fits_two O.NewSequence ty (a ∷ b ∷ c ∷ of) double typed = absurd (false≢true double)
  fits_two (O.Measure m) ty (a ∷ b ∷ c ∷ of) double typed = absurd (false≢true double)
  fits_two O.IsNil ty (a ∷ b ∷ c ∷ of) double typed = absurd (false≢true double)
  fits_two O.Echo ty (a ∷ b ∷ c ∷ of) double typed = absurd (false≢true double)
  fits_two O.Quit ty (a ∷ b ∷ c ∷ of) double typed = absurd (false≢true double)
  fits_two O.ReadLine ty (a ∷ b ∷ c ∷ of) double typed = absurd (false≢true double)
  fits_two O.ReadLineInto ty (a ∷ b ∷ c ∷ of) double typed = absurd (false≢true double)
  fits_two O.Add ty (a ∷ b ∷ c ∷ of) double typed = absurd (false≢true double)
  fits_two O.Append ty (a ∷ b ∷ c ∷ of) double typed = absurd (false≢true double)
  fits_two O.Pop ty (a ∷ b ∷ c ∷ of) double typed = absurd (false≢true double)
  fits_two O.Move ty (a ∷ b ∷ c ∷ of) double typed = absurd (false≢true double)
  fits_two O.Discard ty (a ∷ b ∷ c ∷ of) double typed = absurd (false≢true double)
  fits_two O.Destroy ty (a ∷ b ∷ c ∷ of) double typed = absurd (false≢true double)
  fits_two O.Blank ty (a ∷ b ∷ c ∷ of) double typed = absurd (false≢true double)

-- operands that are only looked at, or go on, are last ones
pub operands_last : (here : Here) (operation : Operation) (ty : Option Ty) (operands : Args) → IfSimple here.facts ty →
    fits here.facts operation ty (types_in operands) ≡ true → are_placed (places_in operation) operands ≡ true →
    AllLast here (λ j. use_by operation) operands 0
operands_last here operation ty operands simple typed placed = by operation typed placed
  where
    single : (operation : Operation) → is_single operation ≡ true → fits here.facts operation ty (types_in operands) ≡ true →
        AllLast here (λ j. use_by operation) operands 0
    single operation e typed = one_last here (λ j. use_by operation) operands 0 (fits_one here.facts operation ty (types_in operands) e typed)

    place_first : (operation : Operation) → is_double operation ≡ true → fits here.facts operation ty (types_in operands) ≡ true →
        are_placed 1 operands ≡ true → AllLast here (λ j. use_by operation) operands 0
    place_first operation e typed placed =
        two_last here (λ j. use_by operation) operands 0 placed (fits_two here.facts operation ty (types_in operands) e typed)

    both_plain : (o : _) (operands : Args) → fits here.facts (O.Binary o) ty (types_in operands) ≡ true → are_placed 0 operands ≡ true →
        AllPlain here (λ j. Looked) operands
    both_plain o NoArg typed placed = tt
    both_plain o (ByPath path rest) typed placed = absurd (false≢true placed)
    both_plain o (ByValue a NoArg) typed placed = absurd (false≢true typed)
    both_plain o (ByValue a (ByPath path rest)) typed placed = absurd (false≢true placed)
    both_plain o (ByValue a (ByValue b (ByPath path rest))) typed placed = absurd (false≢true placed)
    both_plain o (ByValue a (ByValue b (ByValue c rest))) typed placed = absurd (false≢true typed)
    both_plain o (ByValue a (ByValue b NoArg)) typed placed =
        let e = binary_type here.facts o ty simple
        (and_parts (binary_takes o (kind_if here.facts ty)) (is_of (type_of a) ty && is_of (type_of b) ty) typed).0 in
        let q = and_parts (is_of (type_of a) ty) (is_of (type_of b) ty)
        (and_parts (binary_takes o (kind_if here.facts ty)) (is_of (type_of a) ty && is_of (type_of b) ty) typed).1 in (
          not_hooked here.facts (type_of a) (ap (form_for here.facts) (same_type {a = type_of a} {b = ty} q.0) ∙ e),
          (not_hooked here.facts (type_of b) (ap (form_for here.facts) (same_type {a = type_of b} {b = ty} q.1) ∙ e), tt),
        )

    by : (operation : Operation) → fits here.facts operation ty (types_in operands) ≡ true → are_placed (places_in operation) operands ≡ true →
        AllLast here (λ j. use_by operation) operands 0
    by O.Default typed placed = single O.Default refl typed
    by (O.Unary o) typed placed = single (O.Unary o) refl typed
    by (O.Binary o) typed placed = bare_last here (λ j. Looked) operands 0 (both_plain o operands typed placed)
    by (O.Compare c) typed placed = all_last here (λ j. Lent) (λ j. inr refl) operands 0
    by O.Convert typed placed = single O.Convert refl typed
    by O.Join typed placed = all_last here (λ j. Lent) (λ j. inr refl) operands 0
    by O.Show typed placed = single O.Show refl typed
    by O.Make typed placed = all_last here (λ j. Held) (λ j. inl refl) operands 0
    by O.Sequence typed placed = all_last here (λ j. Held) (λ j. inl refl) operands 0
    by O.NewSequence typed placed = single O.NewSequence refl typed
    by (O.Measure m) typed placed = single (O.Measure m) refl typed
    by O.IsNil typed placed = single O.IsNil refl typed
    by O.Echo typed placed = all_last here (λ j. Lent) (λ j. inr refl) operands 0
    by O.Quit typed placed = single O.Quit refl typed
    by O.ReadLine typed placed = single O.ReadLine refl typed
    by O.ReadLineInto typed placed = single O.ReadLineInto refl typed
    by O.Assign typed placed = place_first O.Assign refl typed placed
    by (O.Update o) typed placed = place_first (O.Update o) refl typed placed
    by O.Add typed placed = all_last here (λ j. Held) (λ j. inl refl) operands 0
    by O.Append typed placed = all_last here (λ j. Lent) (λ j. inr refl) operands 0
    by O.SetLength typed placed = place_first O.SetLength refl typed placed
    by O.Pop typed placed = single O.Pop refl typed
    by O.Move typed placed = single O.Move refl typed
    by O.Swap typed placed =
        paths_last here (λ j. Looked) operands 0 placed (fits_two here.facts O.Swap ty (types_in operands) refl typed)
    by O.Discard typed placed = single O.Discard refl typed
    by O.Destroy typed placed = single O.Destroy refl typed
    by O.Blank typed placed = single O.Blank refl typed
