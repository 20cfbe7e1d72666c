-- Values without hooks don't wait.
use Rattle.std.proofs.Common.{◌≡◌, refl, ap, ap₂, ◌∙◌, ℕ, suc, Bool, true, false, not, ◌&&◌, ◌||◌, List, [], ◌++◌, Option, Some, None}
use Rattle.std.proofs.lemmas.Bool.{and_parts, false≢true}
use Rattle.nim_types.specs.Types.{Ty, Facts}
use Rattle.nim_types.specs.Forms.{Form}
use Rattle.nim_program.specs.declared.operation.Operation.TheVariants as O
use Rattle.nim_program.specs.declared.operation.Use.{Use}
use Rattle.nim_program.specs.declared.operation.Use.TheVariants.{Owned, Lent, Looked}
use Rattle.nim_program.specs.declared.program.Mode.{Mode}
use Rattle.nim_program.specs.Program.{Literal, Act, Doing, Building, Giving, Calling, Characters, ByConditions, ByLabels, Expr, Apply, Read, Early, Choose}
use Rattle.nim_program.specs.Program.{Path, Variable, Fresh, Field, Element, Deref, Args, NoArg, ByValue, ByPath, type_of, type_at, constant_in, types_in}
use Rattle.nim_program.specs.Folds.{by_constant}
use Rattle.nim_program.specs.Uses.{use_of}
use Rattle.nim_meaning.specs.Shapes.{is_held, selector_type}
use Rattle.nim_meaning.specs.Here.{is_hooked, gives_hooked, any_hooked, form_for}
use Rattle.nim_meaning.specs.Waiting.{Wait, wait_if, own_wait, held_if, waiting, waiting_at, waiting_all, waiting_first, held_from}
use Rattle.nim_meaning.specs.Runs.{is_plain_type, is_written, is_plain_value, is_plain_path, are_plain, writes_literals}

pub not_true : (b : Bool) → not b ≡ true → b ≡ false
not_true true h = absurd (false≢true h)
not_true false h = refl

none_of : (b : Bool) (n : ℕ) (ty : Option Ty) (f : Form) → wait_if (b && false) n ty f ≡ []
none_of true n ty f = refl
none_of false n ty f = refl

held_none : (b : Bool) (n : ℕ) (rest : List ℕ) → held_if (b && false) n rest ≡ rest
held_none true n rest = refl
held_none false n rest = refl

nothing_more : {X : Type 0} (xs ys : List X) → xs ≡ [] → ys ≡ [] → xs ++ ys ≡ []
nothing_more xs ys e f = ap (λ zs. zs ++ ys) e ∙ f

module _ (facts : Facts) where
  abbrev hooked : Ty → Bool
  hooked = is_hooked facts

  pub plain_none : (ty : Option Ty) → is_plain_type hooked ty ≡ true → gives_hooked facts ty ≡ false
  plain_none None h = refl
  plain_none (Some ty) h = not_true (hooked ty) h

  mutual
    pub plain_value : (e : Expr) → is_plain_value hooked e ≡ true → gives_hooked facts (type_of e) ≡ false
    plain_value (Apply node ty act operands) h = plain_none ty (and_parts (is_plain_type hooked ty) (are_plain hooked (writes_literals act) operands) h).0
    plain_value (Read path) h = plain_path path h
    plain_value (Early node ty short left right) h =
        not_true (hooked ty) (and_parts (not (hooked ty)) (is_plain_value hooked left && is_plain_value hooked right) h).0
    plain_value (Choose node ty chooser parts) h = plain_none ty (and_parts (is_plain_type hooked ty) (are_plain hooked false parts) h).0

    pub plain_path : (path : Path) → is_plain_path hooked path ≡ true → gives_hooked facts (type_at path) ≡ false
    plain_path (Variable node ty place global) h = not_true (hooked ty) h
    plain_path (Fresh value) h = plain_value value h
    plain_path (Field node ty base field) h = not_true (hooked ty) (and_parts (not (hooked ty)) (is_plain_path hooked base) h).0
    plain_path (Element node ty base index constant) h =
        not_true (hooked ty) (and_parts (not (hooked ty)) (is_plain_path hooked base && is_plain_value hooked index) h).0
    plain_path (Deref ty base) h = not_true (hooked ty) (and_parts (not (hooked ty)) (is_plain_path hooked base) h).0

  -- the types of operands that are plain
  pub plain_types : (args : Args) → are_plain hooked false args ≡ true → any_hooked facts (types_in args) ≡ false
  plain_types NoArg h = refl
  plain_types (ByValue value rest) h =
      let p = and_parts (is_plain_value hooked value) (are_plain hooked false rest) h in
      ap₂ (λ a b. a || b) (plain_value value p.0) (plain_types rest p.1)
  plain_types (ByPath path rest) h =
      let p = and_parts (is_plain_path hooked path) (are_plain hooked false rest) h in
      ap₂ (λ a b. a || b) (plain_path path p.0) (plain_types rest p.1)

  pub plain_selector : (tests : Args) → are_plain hooked false tests ≡ true → gives_hooked facts (selector_type tests) ≡ false
  plain_selector NoArg h = refl
  plain_selector (ByValue selector rest) h = plain_value selector (and_parts (is_plain_value hooked selector) (are_plain hooked false rest) h).0
  plain_selector (ByPath path rest) h = plain_path path (and_parts (is_plain_path hooked path) (are_plain hooked false rest) h).0

  -- what is written is lent
  pub written_lends : (modes : ℕ → ℕ → Mode) (act : Act) → writes_literals act ≡ true → (j : ℕ) → use_of modes act j ≡ Lent
  written_lends modes (Doing O.Echo) h j = refl
  written_lends modes (Doing o) h j = absurd (false≢true h)
  written_lends modes (Building fields) h j = absurd (false≢true h)
  written_lends modes (Giving literal) h j = absurd (false≢true h)
  written_lends modes (Calling proc types) h j = absurd (false≢true h)

  module _ (modes : (proc position : ℕ) → Mode) where
    own_none : (w : Bool) (n : ℕ) (ty : Option Ty) → gives_hooked facts ty ≡ false → own_wait facts modes w n ty ≡ []
    own_none w n ty e = ap (λ b. wait_if (b && w) n ty (form_for facts ty)) e

    -- a literal that is written
    written_none : (how : Use) (node : _) (ty : Option Ty) (t : List ℕ) → how ≡ Lent →
        waiting facts modes (Apply node ty (Giving (Characters t)) NoArg) how ≡ []
    written_none how node ty t e =
        ap (λ how. waiting facts modes (Apply node ty (Giving (Characters t)) NoArg) how) e ∙ none_of (gives_hooked facts ty) node.number ty (form_for facts ty)

    none_operand : (written : Bool) (value : Expr) (how : Use) → (written ≡ true → how ≡ Lent) →
        (is_plain_value hooked value ≡ true → waiting facts modes value how ≡ []) →
        (is_written hooked written value || is_plain_value hooked value) ≡ true → waiting facts modes value how ≡ []
    none_operand true (Apply node ty (Giving (Characters t)) NoArg) how lent plain h = written_none how node ty t (lent refl)
    none_operand written value how lent plain h = plain h

    if_constant_none : (c : Option Literal) (rest : List Wait) → rest ≡ [] → by_constant c (λ literal. []) rest ≡ []
    if_constant_none None rest e = e
    if_constant_none (Some literal) rest e = refl

    mutual
      pub none_waits : (e : Expr) (how : Use) → is_plain_value hooked e ≡ true → waiting facts modes e how ≡ []
      none_waits (Apply node ty act operands) how h =
          let p = and_parts (is_plain_type hooked ty) (are_plain hooked (writes_literals act) operands) h in
          nothing_more _ _ (none_wait (writes_literals act) operands (use_of modes act) 0 (written_lends modes act) p.1)
          (own_none _ node.number ty (plain_none ty p.0))
      none_waits (Read path) how h = nothing_more _ _ (none_at path h) (own_none _ _ (type_at path) (plain_path path h))
      none_waits (Early node ty short left right) how h =
          let p = and_parts (not (hooked ty)) (is_plain_value hooked left && is_plain_value hooked right) h in
          let q = and_parts (is_plain_value hooked left) (is_plain_value hooked right) p.1 in
          nothing_more _ _ (none_waits left Owned q.0) (none_waits right Owned q.1)
      none_waits (Choose node ty ByConditions parts) how h =
          own_none _ node.number ty (plain_none ty (and_parts (is_plain_type hooked ty) (are_plain hooked false parts) h).0)
      none_waits (Choose node ty (ByLabels labels) parts) how h =
          let p = and_parts (is_plain_type hooked ty) (are_plain hooked false parts) h in
          nothing_more _ _ (none_first parts p.1) (own_none _ node.number ty (plain_none ty p.0))

      pub none_at : (path : Path) → is_plain_path hooked path ≡ true → waiting_at facts modes path ≡ []
      none_at (Variable node ty place global) h = refl
      none_at (Fresh value) h = if_constant_none (constant_in value) _ (none_waits value Looked h)
      none_at (Field node ty base field) h = none_at base (and_parts (not (hooked ty)) (is_plain_path hooked base) h).1
      none_at (Element node ty base index constant) h =
          let p = and_parts (not (hooked ty)) (is_plain_path hooked base && is_plain_value hooked index) h in
          let q = and_parts (is_plain_path hooked base) (is_plain_value hooked index) p.1 in
          nothing_more _ _ (none_at base q.0) (none_waits index Owned q.1)
      none_at (Deref ty base) h = none_at base (and_parts (not (hooked ty)) (is_plain_path hooked base) h).1

      pub none_wait : (written : Bool) (args : Args) (uses : ℕ → Use) (i : ℕ) → (written ≡ true → (j : ℕ) → uses j ≡ Lent) →
          are_plain hooked written args ≡ true → waiting_all facts modes args uses i ≡ []
      none_wait written NoArg uses i lent h = refl
      none_wait written (ByValue value rest) uses i lent h =
          let p = and_parts (is_written hooked written value || is_plain_value hooked value) (are_plain hooked written rest) h in
          nothing_more _ _ (none_operand written value (uses i) (λ w. lent w i) (λ g. none_waits value (uses i) g) p.0)
          (none_wait written rest uses (suc i) lent p.1)
      none_wait written (ByPath path rest) uses i lent h =
          let p = and_parts (is_plain_path hooked path) (are_plain hooked written rest) h in
          nothing_more _ _ (none_at path p.0) (none_wait written rest uses (suc i) lent p.1)

      pub none_first : (parts : Args) → are_plain hooked false parts ≡ true → waiting_first facts modes parts ≡ []
      none_first NoArg h = refl
      none_first (ByValue selector rest) h = none_waits selector Looked (and_parts (is_plain_value hooked selector) (are_plain hooked false rest) h).0
      none_first (ByPath path rest) h = none_at path (and_parts (is_plain_path hooked path) (are_plain hooked false rest) h).0

    held_skips : (written : Bool) (value : Expr) (how : Use) (n : ℕ) (rest : List ℕ) → (written ≡ true → how ≡ Lent) →
        (is_written hooked written value || is_plain_value hooked value) ≡ true →
        held_if (gives_hooked facts (type_of value) && is_held how) n rest ≡ rest
    held_skips true (Apply node ty (Giving (Characters t)) NoArg) how n rest lent h =
        ap (λ how. held_if (gives_hooked facts ty && is_held how) n rest) (lent refl) ∙ held_none (gives_hooked facts ty) n rest
    held_skips written value how n rest lent h = ap (λ b. held_if (b && is_held how) n rest) (plain_value value h)

    -- no operation takes one up
    pub none_held : (written : Bool) (args : Args) (uses : ℕ → Use) (i : ℕ) → (written ≡ true → (j : ℕ) → uses j ≡ Lent) →
        are_plain hooked written args ≡ true → held_from facts modes args uses i ≡ []
    none_held written NoArg uses i lent h = refl
    none_held written (ByValue value rest) uses i lent h =
        let p = and_parts (is_written hooked written value || is_plain_value hooked value) (are_plain hooked written rest) h in
        held_skips written value (uses i) _ _ (λ w. lent w i) p.0 ∙ none_held written rest uses (suc i) lent p.1
    none_held written (ByPath path rest) uses i lent h =
        none_held written rest uses (suc i) lent (and_parts (is_plain_path hooked path) (are_plain hooked written rest) h).1
