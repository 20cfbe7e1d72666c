-- The rows of operations that take nothing from where it waits, by types and by what their operands are.
use Rattle.std.proofs.Common.{◌≡◌, refl, sym, ap, subst, ◌∙◌, ℕ, Bool, true, false, List, [], ◌∷◌, ◌++◌, Option, Some, None, arith}
use Rattle.std.specs.Prelude.{◌&&◌, ◌||◌, ℤ, pos, ◌*◌}
use Rattle.std.proofs.lemmas.Bool.{false≢true, and_parts, or_left}
use Rattle.nim_types.specs.Types.{Ty, Facts}
use Rattle.nim_types.specs.Forms.{Form, plain, block, elements, hooked, size, form_of}
use Rattle.nim_types.proofs.ForCallers.{the_form}
use Rattle.nim_program.specs.declared.operation.Operation.{Operation}
use Rattle.nim_program.specs.declared.operation.Operation.TheVariants as O
use Rattle.nim_program.specs.declared.operation.Operator.{Operator}
use Rattle.nim_program.specs.declared.operation.UnaryOperator.{UnaryOperator}
use Rattle.nim_program.specs.declared.operation.UnaryOperator.TheVariants.{Not, Plus, Negate, Complement}
use Rattle.nim_program.specs.declared.operation.Comparison.{Comparison}
use Rattle.nim_program.specs.Ints.{Checked, Fine, Trapped, applied, applied_to}
use Rattle.nim_program.specs.Kinds.{kind_if, plain_kind_if, is_int, is_bool, is_text, is_joined, is_shown, is_sequence, is_compared, is_of}
use Rattle.arc_base.specs.declared.outside.Stream.TheVariants.{Out as Output}
use Rattle.nim_program.specs.Fitting.{fits, unary_takes, binary_takes, is_bitwise}
use Rattle.nim_meaning.specs.Values.{Value, Number, nothing, Operand, operand, number, repeated, blank}
use Rattle.nim_meaning.specs.Heap.{Elements}
use Rattle.nim_meaning.specs.State.{World}
use Rattle.nim_meaning.specs.Texts.{are_seen, shown, texts_of}
use Rattle.nim_meaning.specs.Here.{gives_hooked, any_hooked, form_for}
use Rattle.nim_meaning.specs.Acts.{line_of}
use Rattle.nim_meaning.specs.Deeds as deeds
use Rattle.nim_meaning.specs.Deeds.{Deed, give, looks, unless_gone, write, ◌>>◌}
use Rattle.nim_meaning.specs.Lifted.{fresh, fresh_text}
use Rattle.nim_meaning.specs.Table.{does, operates, outcome}
use Rattle.nim_meaning.specs.OwnedRows.{owned, counted, element_of as element_form_of}
use Rattle.holders.specs.Owned.{Full, Constant, Has, a_number, HasBlocksAlone}
use Rattle.holders.specs.Sure.{Sure}
use Rattle.holders.specs.Territory.{Owner}
use Rattle.holders.specs.Handing.{HandsOut}
use Rattle.holders.specs.Running.{Region}
use Rattle.holders.specs.Staging.{Stage, Holding}
use Rattle.holders.proofs.Sure.{sure_weaker}
use Rattle.holders.proofs.Owning.{plain_anywhere, from_full}
use Rattle.holders.proofs.ElementLists.{blank_has}
use Rattle.holders.proofs.PlainRows.{none_clear}
use Rattle.holders.proofs.Rows.{text_comes}
use Rattle.holders.proofs.Operations.{guarded, new_sequence}
use Rattle.holders.proofs.Staging.{stage_hands, no_given, bare_stage}
use Rattle.holders.specs.Asked.{IfSimple}
use Rattle.holders.specs.Evaluating.{Bare}
use Rattle.holders.proofs.Constants.{hooked_is, not_hooked, int_type, bool_type}
use Rattle.holders.proofs.FormKinds.{text_form, sequence_form}
use Rattle.holders.specs.Becoming.{none}

-- what a row gives: a value without hooks, or one that is under way
abbrev pub Out : (hooks : Bool) → Form → (r : Region) (ms os : List Owner) (first places : ℕ) (nodes old : List ℕ) (start : World) → Value → World → Type 0
Out false f r ms os first places nodes old start v now = Stage r ms os first places nodes old start now × Bare f v
Out true f r ms os first places nodes old start v now = Holding f v r ms os first places nodes old start now

-- ---- the types of numbers

unary_type : (facts : Facts) (operator : UnaryOperator) (ty : Option Ty) → IfSimple facts ty → unary_takes operator (kind_if facts ty) ≡ true →
    form_for facts ty ≡ plain
unary_type facts Not ty simple e = bool_type facts ty simple e
unary_type facts Plus ty simple e = int_type facts ty simple e
unary_type facts Negate ty simple e = int_type facts ty simple e
unary_type facts Complement ty simple e = int_type facts ty simple e

pub binary_type : (facts : Facts) (operator : Operator) (ty : Option Ty) → IfSimple facts ty → binary_takes operator (kind_if facts ty) ≡ true →
    form_for facts ty ≡ plain
binary_type facts operator ty simple e = by (is_int (kind_if facts ty)) refl e
  where
    by : (b : Bool) → is_int (kind_if facts ty) ≡ b → b || (is_bitwise operator && is_bool (kind_if facts ty)) ≡ true → form_for facts ty ≡ plain
    by true q e = int_type facts ty simple q
    by false q e = bool_type facts ty simple (and_parts (is_bitwise operator) (is_bool (kind_if facts ty)) e).1

module _ (facts : Facts) (r : Region) (ms os : List Owner) (first places : ℕ) (nodes old : List ℕ) (start : World) where
  abbrev pub OutOf : Option Ty → Value → World → Type 0
  OutOf ty v now = Out (gives_hooked facts ty) (form_for facts ty) r ms os first places nodes old start v now

  abbrev pub At_stage : World → Type 0
  At_stage now = Stage r ms os first places nodes old start now

  -- a number
  abbrev pub Numbers : Value → World → Type 0
  Numbers v now = At_stage now × Bare plain v

  pub number_bare : (z : ℤ) → Bare plain (Number z)
  number_bare z world = a_number

  pub out_bare : (ty : Option Ty) (deed : Deed Value) (now : World) → gives_hooked facts ty ≡ false →
      Sure deed (λ v after. At_stage after × Bare (form_for facts ty) v) now → Sure deed (OutOf ty) now
  out_bare ty deed now e h =
      subst (λ b. Sure deed (λ v after. Out b (form_for facts ty) r ms os first places nodes old start v after) now) (sym e) h

  pub out_held : (ty : Option Ty) (deed : Deed Value) (now : World) → gives_hooked facts ty ≡ true →
      Sure deed (λ v after. Holding (form_for facts ty) v r ms os first places nodes old start after) now → Sure deed (OutOf ty) now
  out_held ty deed now e h =
      subst (λ b. Sure deed (λ v after. Out b (form_for facts ty) r ms os first places nodes old start v after) now) (sym e) h

  pub out_number : (ty : Option Ty) (deed : Deed Value) (now : World) → form_for facts ty ≡ plain → Sure deed Numbers now → Sure deed (OutOf ty) now
  out_number ty deed now e h =
      out_bare ty deed now (not_hooked facts ty e) (subst (λ f. Sure deed (λ v after. At_stage after × Bare f v) now) (sym e) h)

  -- nothing
  pub out_none : (deed : Deed Value) (now : World) → Sure deed (λ v after. At_stage after × (v ≡ nothing)) now → Sure deed (OutOf None) now
  out_none deed now h =
      sure_weaker deed (λ v after. At_stage after × (v ≡ nothing)) (OutOf None) now h
      (λ v after q. (q.0, λ world. subst (λ x. Has world Constant plain x []) (sym q.1) a_number))

  -- a value that may have hooks
  pub out_either : (ty : Option Ty) (deed : Deed Value) (now : World) →
      Sure deed (λ v after. Holding (form_for facts ty) v r ms os first places nodes old start after) now → Sure deed (OutOf ty) now
  out_either ty deed now h = by (gives_hooked facts ty) refl
    where
      by : (b : Bool) → gives_hooked facts ty ≡ b → Sure deed (OutOf ty) now
      by true e = out_held ty deed now e h
      by false e =
          out_bare ty deed now e
          (sure_weaker deed (λ v after. Holding (form_for facts ty) v r ms os first places nodes old start after)
          (λ v after. At_stage after × Bare (form_for facts ty) v) now h
          (λ v after g. (
            bare_stage r os first places old start (sym (hooked_is facts ty) ∙ e) g,
            λ world. plain_anywhere world Constant
                (sym (hooked_is facts ty) ∙ e) (from_full g.under.has),
          )))

  -- a value without blocks is under way
  pub hold_bare : {f : Form} {v : Value} {now : World} → At_stage now → Has now Full f v [] → Holding f v r ms os first places nodes old start now
  hold_bare s h = record {
    out = none;
    stage = s;
    out_is = λ k. omega arith;
    under = record { given = []; has = h; distinct = tt; strange = λ k m n. elim m [ ]; clear = none_clear (ms ++ os) };
    came = λ k m. elim m [ ];
  }

  -- ---- guards

  -- a row of all types, and that of types with hooks
  pub operated : (operation : Operation) (ty : Option Ty) (of : List (Option Ty)) (xs : List Operand) (P : Value → World → Type 0) (now : World) →
      (gives_hooked facts ty || any_hooked facts of ≡ true → (are_seen now xs ≡ true)) →
      (gives_hooked facts ty || any_hooked facts of ≡ true → Sure (owned operation facts ty of xs (does operation facts ty of xs)) P now) →
      (gives_hooked facts ty || any_hooked facts of ≡ false → Sure (does operation facts ty of xs) P now) → Sure (operates operation facts ty of xs) P now
  operated operation ty of xs P now seen hooks bare = by (gives_hooked facts ty || any_hooked facts of) refl
    where
      rows : Deed Value
      rows = owned operation facts ty of xs (does operation facts ty of xs)

      by : (b : Bool) → gives_hooked facts ty || any_hooked facts of ≡ b → Sure (operates operation facts ty of xs) P now
      by true e =
          subst (λ b. Sure (deeds.branch b (looks (λ world. unless_gone (are_seen world xs) rows)) (does operation facts ty of xs)) P now) (sym e)
          (guarded (are_seen now xs) rows P now (seen e) (hooks e))
      by false e =
          subst (λ b. Sure (deeds.branch b (looks (λ world. unless_gone (are_seen world xs) rows)) (does operation facts ty of xs)) P now) (sym e) (bare e)

  -- one row for all types
  pub one_row : (operation : Operation) (ty : Option Ty) (of : List (Option Ty)) (xs : List Operand) (P : Value → World → Type 0) (now : World) →
      ((otherwise : Deed Value) → owned operation facts ty of xs otherwise ≡ otherwise) → are_seen now xs ≡ true → Sure (does operation facts ty of xs) P now →
      Sure (operates operation facts ty of xs) P now
  one_row operation ty of xs P now same seen h =
      operated operation ty of xs P now (λ e. seen) (λ e. subst (λ deed. Sure deed P now) (sym (same (does operation facts ty of xs))) h) (λ e. h)

  -- ---- numbers

  outcome_so : (c : Checked) {now : World} → At_stage now → Sure (outcome c) Numbers now
  outcome_so (Fine z) s = (s, number_bare z)
  outcome_so (Trapped trap) s = tt

  pub numbers : (operation : Operation) (ty : Option Ty) (of : List (Option Ty)) (xs : List Operand) (now : World) →
      ((otherwise : Deed Value) → owned operation facts ty of xs otherwise ≡ otherwise) → are_seen now xs ≡ true → form_for facts ty ≡ plain →
      Sure (does operation facts ty of xs) Numbers now → Sure (operates operation facts ty of xs) (OutOf ty) now
  numbers operation ty of xs now same seen e h =
      out_number ty (operates operation facts ty of xs) now e (one_row operation ty of xs Numbers now same seen h)

  pub unary : (operator : UnaryOperator) (ty : Option Ty) (of : List (Option Ty)) (xs : List Operand) (now : World) → IfSimple facts ty →
      fits facts (O.Unary operator) ty of ≡ true → are_seen now xs ≡ true → At_stage now → Sure (operates (O.Unary operator) facts ty of xs) (OutOf ty) now
  unary operator ty [] xs now simple typed seen s = absurd (false≢true typed)
  unary operator ty (a ∷ []) xs now simple typed seen s =
      numbers (O.Unary operator) ty (a ∷ []) xs now (λ d. refl) seen
      (unary_type facts operator ty simple (and_parts (unary_takes operator (kind_if facts ty)) (is_of a ty) typed).0)
      (outcome_so (applied_to operator (number xs 0)) s)
  unary operator ty (a ∷ b ∷ of) xs now simple typed seen s = absurd (false≢true typed)

  pub binary : (operator : Operator) (ty : Option Ty) (of : List (Option Ty)) (xs : List Operand) (now : World) → IfSimple facts ty →
      fits facts (O.Binary operator) ty of ≡ true → are_seen now xs ≡ true → At_stage now → Sure (operates (O.Binary operator) facts ty of xs) (OutOf ty) now
  binary operator ty [] xs now simple typed seen s = absurd (false≢true typed)
  binary operator ty (a ∷ []) xs now simple typed seen s = absurd (false≢true typed)
  binary operator ty (a ∷ b ∷ []) xs now simple typed seen s =
      numbers (O.Binary operator) ty (a ∷ b ∷ []) xs now (λ d. refl) seen
      (binary_type facts operator ty simple (and_parts (binary_takes operator (kind_if facts ty)) (is_of a ty && is_of b ty) typed).0)
      (outcome_so (applied operator (number xs 0) (number xs 1)) s)
  binary operator ty (a ∷ b ∷ c ∷ of) xs now simple typed seen s = absurd (false≢true typed)

  pub compare : (comparison : Comparison) (ty : Option Ty) (of : List (Option Ty)) (xs : List Operand) (now : World) → IfSimple facts ty →
      fits facts (O.Compare comparison) ty of ≡ true → are_seen now xs ≡ true → At_stage now →
      Sure (operates (O.Compare comparison) facts ty of xs) (OutOf ty) now
  compare comparison ty [] xs now simple typed seen s = absurd (false≢true typed)
  compare comparison ty (a ∷ []) xs now simple typed seen s = absurd (false≢true typed)
  compare comparison ty (a ∷ b ∷ []) xs now simple typed seen s =
      out_number ty (operates (O.Compare comparison) facts ty (a ∷ b ∷ []) xs) now
      (bool_type facts ty simple (and_parts (is_bool (kind_if facts ty)) (is_of a b && is_compared comparison (plain_kind_if facts a)) typed).0)
      (operated (O.Compare comparison) ty (a ∷ b ∷ []) xs Numbers now (λ e. seen) (λ e. (s, number_bare _)) (λ e. (s, number_bare _)))
  compare comparison ty (a ∷ b ∷ c ∷ of) xs now simple typed seen s = absurd (false≢true typed)

  -- ---- texts that come to be

  text_out : (ty : Option Ty) (t : List ℕ) {now : World} → form_for facts ty ≡ block → At_stage now →
      Sure (fresh_text t) (λ v after. Holding (form_for facts ty) v r ms os first places nodes old start after) now
  text_out ty t {now} e s =
      subst (λ f. Sure (fresh_text t) (λ v after. Holding f v r ms os first places nodes old start after) now) (sym e)
      (sure_weaker (fresh_text t) (HandsOut block (ms ++ os) [] s.runs.territory.blocks now)
      (λ v after. Holding block v r ms os first places nodes old start after) now (text_comes s.runs.territory t)
      (λ v after h. stage_hands r os first places old start s (no_given r os first places old start) h))

  pub has_hooks : (ty : Option Ty) {f : Form} → form_for facts ty ≡ f → hooked f ≡ true → gives_hooked facts ty ≡ true
  has_hooks ty e h = hooked_is facts ty ∙ (ap hooked e ∙ h)

  pub none_bare : {A : Type 0} (ty : Option Ty) (of : List (Option Ty)) → gives_hooked facts ty ≡ true → gives_hooked facts ty || any_hooked facts of ≡ false →
      A
  none_bare ty of e q = absurd (false≢true (sym q ∙ or_left (gives_hooked facts ty) (any_hooked facts of) e))

  pub join : (ty : Option Ty) (of : List (Option Ty)) (xs : List Operand) (now : World) → IfSimple facts ty → fits facts O.Join ty of ≡ true →
      are_seen now xs ≡ true → At_stage now → Sure (operates O.Join facts ty of xs) (OutOf ty) now
  join ty [] xs now simple typed seen s = absurd (false≢true typed)
  join ty (a ∷ []) xs now simple typed seen s = absurd (false≢true typed)
  join ty (a ∷ b ∷ []) xs now simple typed seen s =
      let e = text_form facts ty simple (and_parts (is_text (kind_if facts ty)) (is_joined (kind_if facts a) && is_joined (kind_if facts b)) typed).0 in
      let t = shown facts now a (operand xs 0) ++ shown facts now b (operand xs 1) in
      operated O.Join ty (a ∷ b ∷ []) xs (OutOf ty) now (λ q. seen) (λ q. out_held ty (fresh_text t) now (has_hooks ty e refl) (text_out ty t e s))
      (λ q. none_bare ty (a ∷ b ∷ []) (has_hooks ty e refl) q)
  join ty (a ∷ b ∷ c ∷ of) xs now simple typed seen s = absurd (false≢true typed)

  pub show : (ty : Option Ty) (of : List (Option Ty)) (xs : List Operand) (now : World) → IfSimple facts ty → fits facts O.Show ty of ≡ true →
      are_seen now xs ≡ true → At_stage now → Sure (operates O.Show facts ty of xs) (OutOf ty) now
  show ty [] xs now simple typed seen s = absurd (false≢true typed)
  show ty (a ∷ []) xs now simple typed seen s =
      let e = text_form facts ty simple (and_parts (is_text (kind_if facts ty)) (is_shown (plain_kind_if facts a)) typed).0 in
      let t = shown facts now a (operand xs 0) in
      operated O.Show ty (a ∷ []) xs (OutOf ty) now (λ q. seen) (λ q. out_held ty (fresh_text t) now (has_hooks ty e refl) (text_out ty t e s))
      (λ q. none_bare ty (a ∷ []) (has_hooks ty e refl) q)
  show ty (a ∷ b ∷ of) xs now simple typed seen s = absurd (false≢true typed)

  pub new_elements : (ty : Option Ty) (of : List (Option Ty)) (xs : List Operand) (now : World) → IfSimple facts ty → fits facts O.NewSequence ty of ≡ true →
      are_seen now xs ≡ true → At_stage now → Sure (operates O.NewSequence facts ty of xs) (OutOf ty) now
  new_elements ty [] xs now simple typed seen s = absurd (false≢true typed)
  new_elements ty (a ∷ []) xs now simple typed seen s =
      let e = sequence_form facts ty simple (and_parts (is_sequence (kind_if facts ty)) (is_int (kind_if facts a)) typed).0 in
      let made : (f : Form) → Deed Value = λ f. counted (number xs 0) (λ n. fresh n (n * size f) (Elements (repeated n (blank f)))) in
      operated O.NewSequence ty (a ∷ []) xs (OutOf ty) now (λ q. seen)
      (λ q. out_held ty (made (element_form_of (form_for facts ty))) now (has_hooks ty e.is refl)
      (subst (λ f. Sure (made (element_form_of f)) (λ v after. Holding f v r ms os first places nodes old start after) now) (sym e.is)
      (sure_weaker (made e.form) (HandsOut (elements e.form) (ms ++ os) [] s.runs.territory.blocks now)
      (λ v after. Holding (elements e.form) v r ms os first places nodes old start after) now
      (new_sequence s.runs.territory e.form e.blocks (number xs 0))
      (λ v after h. stage_hands r os first places old start s (no_given r os first places old start) h))))
      (λ q. none_bare ty (a ∷ []) (has_hooks ty e.is refl) q)
  new_elements ty (a ∷ b ∷ of) xs now simple typed seen s = absurd (false≢true typed)

  -- ---- what gives nothing

  pub echo : (ty : Option Ty) (of : List (Option Ty)) (xs : List Operand) (now : World) → fits facts O.Echo ty of ≡ true → are_seen now xs ≡ true →
      At_stage now →
      Sure (operates O.Echo facts ty of xs) (OutOf ty) now
  echo (Some ty) of xs now typed seen s = absurd (false≢true typed)
  echo None of xs now typed seen s =
      one_row O.Echo None of xs (OutOf None) now (λ d. refl) seen
      (subst (λ b. Sure (unless_gone b (write Output (line_of (texts_of facts now of xs))) >> give nothing) (OutOf None) now) (sym seen)
      (s, number_bare (pos 0)))

  pub quit : (ty : Option Ty) (of : List (Option Ty)) (xs : List Operand) (now : World) → are_seen now xs ≡ true →
      Sure (operates O.Quit facts ty of xs) (OutOf ty) now
  quit ty of xs now seen = one_row O.Quit ty of xs (OutOf ty) now (λ d. refl) seen tt

  pub let_go : (ty : Option Ty) (of : List (Option Ty)) (xs : List Operand) (now : World) → fits facts O.Discard ty of ≡ true → are_seen now xs ≡ true →
      At_stage now → Sure (operates O.Discard facts ty of xs) (OutOf ty) now
  let_go (Some ty) of xs now typed seen s = absurd (false≢true typed)
  let_go None of xs now typed seen s = one_row O.Discard None of xs (OutOf None) now (λ d. refl) seen (s, number_bare (pos 0))

  -- ---- the default of a type

  pub default_row : (ty : Option Ty) (of : List (Option Ty)) (now : World) → IfSimple facts ty → fits facts O.Default ty of ≡ true → At_stage now →
      Sure (operates O.Default facts ty of []) (OutOf ty) now
  default_row None [] now simple typed s = absurd (false≢true typed)
  default_row (Some ty) [] now simple typed s =
      out_either (Some ty) (operates O.Default facts (Some ty) [] []) now
      (one_row O.Default (Some ty) [] [] (λ v after. Holding (form_of facts ty) v r ms os first places nodes old start after) now (λ d. refl) refl
      (hold_bare s (blank_has now Full (form_of facts ty) (subst HasBlocksAlone (sym (the_form simple.has)) simple.blocks))))
  default_row ty (a ∷ of) now simple typed s = absurd (false≢true typed)
