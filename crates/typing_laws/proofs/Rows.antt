-- The operations that are called by name.
use Rattle.std.proofs.Common.{◌≡◌, ℕ, Bool, true, false, List, [], ◌∷◌, Option, Some, None, refl, sym, ap, subst, ◌∙◌}
use Rattle.std.specs.Prelude.{ℤ}
use Rattle.std.proofs.lemmas.Bool.{or_left}
use Rattle.nim_types.specs.Types as type
use Rattle.nim_types.specs.Types.{Ty, Facts, same, same_text}
use Rattle.nim_types.proofs.ForCallers.{same_refl}
use Rattle.nim_program.specs.declared.expr.Node.{Node}
use Rattle.nim_program.specs.declared.operation.Measure.{Measure}
use Rattle.nim_program.specs.declared.operation.Measure.TheVariants as measure
use Rattle.nim_program.specs.declared.operation.Operator.{Operator}
use Rattle.nim_program.specs.declared.operation.Operator.TheVariants as operator
use Rattle.nim_program.specs.declared.operation.Operation.{Operation}
use Rattle.nim_program.specs.declared.operation.Operation.TheVariants as O
use Rattle.nim_program.specs.Program as P
use Rattle.nim_program.specs.Program.{Act, Doing, Giving, Number, Expr, Path, Args, NoArg, ByValue, ByPath, type_of, type_at, types_in}
use Rattle.nim_program.specs.Ints.{low, high}
use Rattle.nim_program.specs.Kinds as kind
use Rattle.nim_program.specs.Kinds.{kind_of, is_ordinal, plain_kind, is_value, is_constant, is_held, is_of, has_length, is_selected}
use Rattle.nim_program.specs.Fitting.{fits, is_base_of, places_in, steps, updates}
use Rattle.nim_program.specs.Scopes.{Here}
use Rattle.nim_program.specs.Program.{is_written}
use Rattle.nim_program.specs.Typed.{may_take, are_placed}
use Rattle.expr_rules.specs.Answers.{Valued, Operand, only_if}
use Rattle.expr_rules.specs.Paths.{path_of}
use Rattle.expr_rules.specs.Builtins as B
use Rattle.expr_rules.specs.Builtins.{Hand, as_value, in_place, to_write, handed, written_by, BuiltIn, on_nothing, on_one as row_on_one, on_place_and_value}
use Rattle.expr_rules.specs.Builtins.{on_places, on_type, on_input, on_input_and_place, if_kind, likewise, popped, joined_to, elements_of, stepped_by}
use Rattle.expr_rules.specs.Builtins.{resized_by}
use Rattle.expr_rules.specs.Builtins.{stepping, operations, if_operation, operations_in, operations_named}
use Rattle.expr_rules.specs.Meant.{RowFits, row_nothing, row_one, row_place_and_value, row_places, row_type, row_input, row_input_and_place}
use Rattle.expr_rules.specs.Meant.{FirstRow, this_row, later_row, AllWritable, one_written}
use Rattle.typing_laws.specs.Sound.{Sound, AreSound, of_int, of_bool, of_char, of_text, of_sequence}
use Rattle.typing_laws.specs.Knows.{IfSound}
use Rattle.typing_laws.proofs.Tests.{both, some_one, none_some, is_by, the_same}
use Rattle.typing_laws.proofs.SoundKinds.{the_int, the_text, an_ordinal, plainly_selected, shown_by, lengthy, held, plain_as}
use Rattle.typing_laws.proofs.Right.{Right, RightValue, AllRight, doing, giving, on_one, path_right, operand_typed}
use Rattle.typing_laws.proofs.Settled.{AllOf, settled_in_right}

-- what a row makes of operands that are right is right
abbrev pub RowRight : Here → BuiltIn → Type 0
RowRight here row = (n : Node) (os : List Operand) (vs : List Valued) (e : Expr) → RowFits n row os vs e → AllRight here os → AllWritable vs → Right here e

abbrev pub AllRows : Here → List BuiltIn → Type 0
AllRows here [] = Unit {0}
AllRows here (row ∷ rest) = RowRight here row × AllRows here rest

-- ---- rows on one operand

-- how operands of the operation are handed on
abbrev HandFits : Here → Hand → Operation → Type 0
HandFits here as_value o = places_in o ≡ 0
HandFits here in_place o = (places_in o ≡ 1) × ((path : Path) → may_take here o path ≡ true)
HandFits here to_write o = (places_in o ≡ 1) × ((path : Path) → may_take here o path ≡ is_written path)

first_written : {v : Valued} {rest : List Valued} → AllWritable (v ∷ rest) → v.writable ≡ true
first_written (one_written e h) = e

on_path : (here : Here) (n : Node) (ty : Option Ty) (o : Operation) (v : Valued) → RightValue here v → fits here.facts o ty (Some v.of ∷ []) ≡ true
    → places_in o ≡ 1 → may_take here o (path_of v.expr) ≡ true → IfSound here.facts ty → Right here (P.Apply n ty (Doing o) (ByPath (path_of v.expr) NoArg))
on_path here n ty o v h f p m s =
    doing here n ty o (ByPath (path_of v.expr) NoArg) (subst (λ a. fits here.facts o ty (a ∷ []) ≡ true) (sym (path_right here v h).0) f)
    (ap (λ k. are_placed k (ByPath (path_of v.expr) NoArg)) p) (both m refl) (operand_typed here v NoArg h refl) s

handed_right : (here : Here) (n : Node) (ty : Option Ty) (o : Operation) (hand : Hand) (v : Valued) → HandFits here hand o → RightValue here v
    → fits here.facts o ty (Some v.of ∷ []) ≡ true → AllWritable (written_by hand v) → IfSound here.facts ty
    → Right here (P.Apply n ty (Doing o) (handed hand v))
handed_right here n ty o as_value v p h f w s = on_one here n ty o v h f p s
handed_right here n ty o in_place v p h f w s = on_path here n ty o v h f p.0 (p.1 (path_of v.expr)) s
handed_right here n ty o to_write v p h f w s = on_path here n ty o v h f p.0 (p.1 (path_of v.expr) ∙ h.written (first_written w)) s

one_row : (here : Here) (hand : Hand) (gives : Ty → Option (Option Ty)) (o : Operation) → HandFits here hand o
    → ((t : Ty) (ty : Option Ty) → Sound here.facts t → gives t ≡ Some ty → (fits here.facts o ty (Some t ∷ []) ≡ true) × IfSound here.facts ty)
    → RowRight here (row_on_one hand gives o)
one_row here hand gives o p f n os vs e (row_one {v = v} {ty = ty} g) h w =
    let q = f v.of ty h.0.sound g in handed_right here n ty o hand v p h.0 q.0 w q.1

-- where a test holds
tested : (test : Ty → Bool) (given ty : Option Ty) (t : Ty) → if_kind test given t ≡ Some ty → (test t ≡ true) × (given ≡ ty)
tested test given ty t e = by_test (test t) refl e
  where
    by_test : (b : Bool) → test t ≡ b → only_if b given ≡ Some ty → (test t ≡ true) × (given ≡ ty)
    by_test true f e = (f, some_one e)
    by_test false f e = none_some e

kind_row : (here : Here) (hand : Hand) (test : Ty → Bool) (given : Option Ty) (o : Operation) → HandFits here hand o → IfSound here.facts given
    → ((t : Ty) → Sound here.facts t → test t ≡ true → fits here.facts o given (Some t ∷ []) ≡ true) → RowRight here (row_on_one hand (if_kind test given) o)
kind_row here hand test given o p s f =
    one_row here hand (if_kind test given) o p (λ t ty h e.
    let q = tested test given ty t e in
    (subst (λ g. fits here.facts o g (Some t ∷ []) ≡ true) q.1 (f t h q.0), subst (IfSound here.facts) q.1 s))

-- ---- rows on a place

pair_row : (here : Here) (goes : Ty → List Ty) (o : Operation) → places_in o ≡ 1 → ((path : Path) → may_take here o path ≡ is_written path)
    → ((t : Ty) → Sound here.facts t → AllOf (λ s. Sound here.facts s × (fits here.facts o None (Some t ∷ Some s ∷ []) ≡ true)) (goes t))
    → RowRight here (on_place_and_value goes o)
pair_row here goes o p m f n os vs e (row_place_and_value {v = v} {w = w} s) h written =
    let q = settled_in_right here (λ s. fits here.facts o None (Some v.of ∷ Some s ∷ []) ≡ true) (f v.of h.0.sound) h.1.0 s in
    doing here n None o (ByPath (path_of v.expr) (ByValue w.expr NoArg))
    (subst (λ a. fits here.facts o None (a ∷ type_of w.expr ∷ []) ≡ true) (sym (path_right here v h.0).0)
    (subst (λ b. fits here.facts o None (Some v.of ∷ b ∷ []) ≡ true) (sym q.0.gives) q.1))
    (ap (λ k. are_placed k (ByPath (path_of v.expr) (ByValue w.expr NoArg))) p)
    (both (m (path_of v.expr) ∙ h.0.written (first_written written)) refl)
    (operand_typed here v (ByValue w.expr NoArg) h.0 (both q.0.typed refl)) tt

module _ (here : Here) where
  steps_fit : (o : Operator) → updates o ≡ true → (t : Ty) → Sound here.facts t
      → AllOf (λ s. Sound here.facts s × (fits here.facts (O.Update o) None (Some t ∷ Some s ∷ []) ≡ true)) (stepped_by t)
  steps_fit o u type.int h = ((of_int, both u refl), tt)
  steps_fit o u t h = tt

  texts_fit : (t : Ty) → Sound here.facts t
      → AllOf (λ s. Sound here.facts s × (fits here.facts O.Append None (Some t ∷ Some s ∷ []) ≡ true)) (joined_to t)
  texts_fit type.text h = ((of_text, refl), ((of_char, refl), tt))
  texts_fit t h = tt

  element : {t : Ty} → Sound here.facts (type.sequence t) → Sound here.facts t
  element (of_sequence h) = h

  elements_fit : (t : Ty) → Sound here.facts t → AllOf (λ s. Sound here.facts s × (fits here.facts O.Add None (Some t ∷ Some s ∷ []) ≡ true)) (elements_of t)
  elements_fit (type.sequence t) h = ((element h, same_refl t), tt)
  elements_fit t h = tt

  sizes_fit : (t : Ty) → Sound here.facts t → AllOf (λ s. Sound here.facts s × (fits here.facts O.SetLength None (Some t ∷ Some s ∷ []) ≡ true)) (resized_by t)
  sizes_fit type.text h = ((of_int, refl), tt)
  sizes_fit (type.sequence t) h = ((of_int, refl), tt)
  sizes_fit t h = tt

  popped_fits : (t : Ty) (ty : Option Ty) → Sound here.facts t → popped t ≡ Some ty → (fits here.facts O.Pop ty (Some t ∷ []) ≡ true) × IfSound here.facts ty
  popped_fits (type.sequence t) ty h e = (
    subst (λ o. fits here.facts O.Pop o (Some (type.sequence t) ∷ []) ≡ true) (some_one e) (same_refl t),
    subst (IfSound here.facts) (some_one e) (element h),
  )
  popped_fits t ty h e = none_some e

  moved_fits : (t : Ty) (ty : Option Ty) → Sound here.facts t → likewise t ≡ Some ty → (fits here.facts O.Move ty (Some t ∷ []) ≡ true) × IfSound here.facts ty
  moved_fits t ty h e =
      (subst (λ o. fits here.facts O.Move o (Some t ∷ []) ≡ true) (some_one e) (same_refl t), subst (IfSound here.facts) (some_one e) h)

  -- ---- other rows

  nothing_row : RowRight here (on_nothing O.Quit)
  nothing_row n os vs e row_nothing h w = record { typed = refl; sound = tt }

  places_row : RowRight here (on_places O.Swap)
  places_row n os vs e (row_places {v = v} {w = w} s) h (one_written a (one_written b rest)) =
      doing here n None O.Swap (ByPath (path_of v.expr) (ByPath (path_of w.expr) NoArg))
      (is_by (path_right here v h.0).0 ((path_right here w h.1.0).0 ∙ ap (λ t. Some t) (sym (the_same s)))) refl
      (both (h.0.written a) (both (h.1.0.written b) refl)) (operand_typed here v (ByPath (path_of w.expr) NoArg) h.0 (operand_typed here w NoArg h.1.0 refl)) tt

  input_row : RowRight here (on_input type.text O.ReadLine)
  input_row n os vs e row_input h w = record { typed = refl; sound = of_text }

  input_into : RowRight here (on_input_and_place B.is_text type.bool O.ReadLineInto)
  input_into n os vs e (row_input_and_place {v = v} t) h w =
      on_path here n (Some type.bool) O.ReadLineInto v h.1.0
      (subst (λ t. fits here.facts O.ReadLineInto (Some type.bool) (Some t ∷ []) ≡ true) (sym (the_text t)) refl)
      refl (h.1.0.written (first_written w)) of_bool

  default_row : RowRight here (on_type likewise (Doing O.Default))
  default_row n os vs e (row_type {t = t} {ty = ty} g) h w =
      subst (λ ty. Right here (P.Apply n ty (Doing O.Default) NoArg)) (some_one g)
      (doing here n (Some t) O.Default NoArg (held h.0) refl refl refl h.0)

  limit_row : AreSound here.facts → (z : ℤ) → is_value kind.int z ≡ true → RowRight here (on_type (if_kind B.is_int (Some type.int)) (Giving (Number z)))
  limit_row sound z v n os vs e (row_type {t = t} {ty = ty} g) h w =
      subst (λ ty. Right here (P.Apply n ty (Giving (Number z)) NoArg)) (tested B.is_int (Some type.int) ty t g).1
      (giving here n type.int (Number z) (subst (λ k. is_value k z ≡ true) (sym (plain_as sound of_int refl)) v) of_int)

  step_rows : (o : Operator) → steps o ≡ true → updates o ≡ true → AllRows here (stepping o)
  step_rows o s u = (
    kind_row here to_write B.is_int None (O.Update o) (refl, λ path. refl) tt
        (λ t h e. subst (λ t. fits here.facts (O.Update o) None (Some t ∷ []) ≡ true) (sym (the_int e)) (both s refl)),
    (pair_row here stepped_by (O.Update o) refl (λ path. refl) (steps_fit o u), tt),
  )

  len_row : (m : Measure) → RowRight here (row_on_one in_place (if_kind B.has_length (Some type.int)) (O.Measure m))
  len_row m = kind_row here in_place B.has_length (Some type.int) (O.Measure m) (refl, λ path. refl) of_int (λ t h e. lengthy h e)

  on_int : (hand : Hand) (given : Option Ty) (o : Operation) → HandFits here hand o → IfSound here.facts given
      → fits here.facts o given (Some type.int ∷ []) ≡ true → RowRight here (row_on_one hand (if_kind B.is_int given) o)
  on_int hand given o p s f =
      kind_row here hand B.is_int given o p s (λ t h e. subst (λ t. fits here.facts o given (Some t ∷ []) ≡ true) (sym (the_int e)) f)

  -- ---- the table

  abbrev AllNamed : List (List ℕ × List BuiltIn) → Type 0
  AllNamed [] = Unit {0}
  AllNamed (row ∷ rest) = AllRows here row.1 × AllNamed rest

  all_named : AreSound here.facts → AllNamed operations
  all_named sound = (
    (len_row measure.Len, tt),
    (
      (len_row measure.High, (limit_row sound high refl, tt)),
      (
        (limit_row sound low refl, tt),
        (
          (
            kind_row here as_value B.is_ordinal (Some type.int) O.Convert refl of_int
                (λ t h e. or_left (is_ordinal (kind_of here.facts t)) (is_base_of (kind_of here.facts t) type.int) (an_ordinal h e)),
            tt,
          ),
          (
            (on_int as_value (Some type.char) O.Convert refl of_char refl, tt),
            (
              (
                kind_row here as_value B.is_shown (Some type.text) O.Show refl of_text
                    (λ t h e. shown_by (plain_kind here.facts t) (plainly_selected sound h e)),
                tt,
              ),
              (
                step_rows operator.Add refl refl,
                (
                  step_rows operator.Subtract refl refl,
                  (
                    (pair_row here joined_to O.Append refl (λ path. refl) texts_fit, (pair_row here elements_of O.Add refl (λ path. refl) elements_fit, tt)),
                    (
                      (pair_row here resized_by O.SetLength refl (λ path. refl) sizes_fit, tt),
                      (
                        (one_row here to_write popped O.Pop (refl, λ path. refl) popped_fits, tt),
                        (
                          (default_row, tt),
                          (
                            (one_row here to_write likewise O.Move (refl, λ path. refl) moved_fits, tt),
                            (
                              (places_row, tt),
                              (
                                (nothing_row, (on_int as_value None O.Quit refl tt refl, tt)),
                                (
                                  (input_row, (input_into, tt)),
                                  tt,
                                ),
                              ),
                            ),
                          ),
                        ),
                      ),
                    ),
                  ),
                ),
              ),
            ),
          ),
        ),
      ),
    ),
  )

  chosen : (b : Bool) (rows rest : List BuiltIn) → AllRows here rows → AllRows here rest → AllRows here (if_operation b rows rest)
  chosen true rows rest h k = h
  chosen false rows rest h k = k

  among : (x : List ℕ) (table : List (List ℕ × List BuiltIn)) → AllNamed table → AllRows here (operations_in x table)
  among x [] h = tt
  among x (row ∷ rest) h = chosen (same_text x row.0) row.1 (operations_in x rest) h.0 (among x rest h.1)

  by_row : {n : Node} {rows : List BuiltIn} {os : List Operand} {vs : List Valued} {e : Expr} → AllRows here rows → FirstRow n rows os vs e → AllRight here os
      → AllWritable vs → Right here e
  by_row {n} all (this_row {os = os} {vs = vs} {e = e} f) h w = all.0 n os vs e f h w
  by_row all (later_row other f) h w = by_row all.1 f h w

  pub operation_right : AreSound here.facts → {n : Node} (x : List ℕ) {os : List Operand} {vs : List Valued} {e : Expr}
      → FirstRow n (operations_named x) os vs e → AllRight here os → AllWritable vs → Right here e
  operation_right sound x f h w = by_row (among x operations (all_named sound)) f h w
