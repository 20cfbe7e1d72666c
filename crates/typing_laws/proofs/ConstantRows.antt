-- What operations do with constants: they give the values that the rules compute, and change nothing.
use Rattle.std.proofs.Common.{◌≡◌, ℕ, zero, suc, Bool, true, false, List, [], ◌∷◌, length, Option, Some, None, refl, sym, ap, subst, ◌∙◌, arith}
use Rattle.std.specs.Prelude.{ℤ, pos, ◌-ℤ◌, ◌&&◌, ◌||◌, not}
use Rattle.nim_types.specs.Types as type
use Rattle.nim_types.specs.Types.{Ty, Facts}
use Rattle.nim_program.specs.declared.operation.Measure.{Measure}
use Rattle.nim_program.specs.declared.operation.Measure.TheVariants.{Len, High}
use Rattle.nim_program.specs.declared.operation.Operation.{Operation}
use Rattle.nim_program.specs.declared.operation.Operation.TheVariants as O
use Rattle.nim_program.specs.declared.operation.UnaryOperator.{UnaryOperator}
use Rattle.nim_program.specs.declared.operation.Operator.{Operator}
use Rattle.nim_program.specs.declared.operation.Comparison.{Comparison}
use Rattle.nim_program.specs.declared.operation.Use.{Use}
use Rattle.nim_program.specs.declared.operation.Use.TheVariants.{Looked}
use Rattle.nim_program.specs.Program as P
use Rattle.nim_program.specs.Program.{Literal, Literals, Characters, NoObject, PartsOf, ElementsOf, NoLiteral, ALiteral, Building}
use Rattle.nim_program.specs.Program.{Expr, Path, Fresh, Args, NoArg, ByValue, ByPath, type_of, node_of, types_in, constant_in}
use Rattle.nim_program.specs.Folds.{by_constant}
use Rattle.nim_program.specs.Ints.{Checked, Fine, Trapped, applied, applied_to, compared, truth, within}
use Rattle.nim_program.specs.Kinds.{kind_of, for_some, is_constant}
use Rattle.nim_program.specs.Fitting.{fits, built, is_built, are_distinct, places_in}
use Rattle.nim_program.specs.Typed.{are_placed}
use Rattle.nim_meaning.specs.Values as V
use Rattle.nim_meaning.specs.Values.{Value, Operand, Given, At, Made, at_base, number, location, length_of, literal_value, literal_values, bytes}
use Rattle.nim_meaning.specs.State.{World, is_whole}
use Rattle.nim_meaning.specs.Acts.{Does, give, ◌>>=◌}
use Rattle.nim_meaning.specs.Deeds as deeds
use Rattle.nim_meaning.specs.Deeds.{Deed, carry, ◌>>=◌ as then_deed}
use Rattle.nim_meaning.specs.Here.{Here, any_hooked, form_for, gives_hooked}
use Rattle.nim_meaning.specs.Shapes.{is_given, is_held, is_lent, is_read, is_text}
use Rattle.nim_meaning.specs.Waiting.{held_from, held_if}
use Rattle.nim_meaning.specs.Table as T
use Rattle.nim_meaning.specs.Table.{outcome, acts, does, limit_for}
use Rattle.nim_meaning.specs.Meaning.{eval, aimed, gets_copy, ready_all, source}
use Rattle.nim_meaning.specs.Aims.{Aim, Root, Value_of, settle, find, Ready, Evaluated, Aimed, is_lent_own, operand_for, fresh_root}
use Rattle.expr_rules.specs.Constants as C
use Rattle.expr_rules.specs.Constants.{comes_to, if_fine, limited, alone, in_pair, unary_of, binary_of, compare_of}
use Rattle.expr_rules.specs.Constants.{measure_of, converted, among, of_literal, if_computed, computing, with_values}
use Rattle.expr_rules.specs.Constants.{values_in, field_literals, fields_of, object_of}
use Rattle.typing_laws.specs.Sound.{AreSound}
use Rattle.typing_laws.specs.Given.{Gives, AlwaysGives}
use Rattle.typing_laws.proofs.Tests.{never, ever}
use Rattle.typing_laws.proofs.Measures.{come_one, limited_is}
use Rattle.typing_laws.proofs.Giving.{given, after, branching, costing}
use Rattle.typing_laws.proofs.Unhooked.{hooked_text, no_joined, no_shown, no_listed}
use Rattle.typing_laws.proofs.FieldValues.{object_is}

-- ---- values and parts

abbrev pub is_characters : Literal → Bool
is_characters (Characters bytes) = true
is_characters l = false

abbrev pub is_number : Literal → Bool
is_number (P.Number z) = true
is_number l = false

-- An expression gives the value of a literal, wherever it is used. The value has no hooks, and is no text.
pub record Meant (run : Here) (e : Expr) (l : Literal) : Type 0 where
  pub value : (how : Use) → AlwaysGives (eval e how run) (literal_value l)
  pub plain : gives_hooked run.facts (type_of e) ≡ false
  pub no_text : is_characters l ≡ false

-- the same of one that a path begins with, and a constant is read where it stands
pub record Begins (run : Here) (e : Expr) (l : Literal) : Type 0 where
  pub meant : Meant run e l
  pub standing : (k : Literal) → constant_in e ≡ Some k → k ≡ l

-- operands that give these values
pub data Come (run : Here) : Args → Literals → Type 0 where
  no_more : Come run NoArg NoLiteral
  by_value : (e : Expr) (l : Literal) {rest : Args} {ls : Literals} → Meant run e l → Come run rest ls → Come run (ByValue e rest) (ALiteral l ls)
  by_path : (e : Expr) (l : Literal) {rest : Args} {ls : Literals} → Begins run e l → Come run rest ls → Come run (ByPath (Fresh e) rest) (ALiteral l ls)

-- ---- operands

abbrev aim_by : Option Literal → Literal → Aim
aim_by None l = Value_of (literal_value l)
aim_by (Some k) l = Root (Made (literal_value l))

abbrev pub aim_at : Path → Literal → Aim
aim_at (Fresh e) l = aim_by (constant_in e) l
aim_at path l = Value_of (literal_value l)

abbrev pub readies : Literals → Args → List Ready
readies NoLiteral operands = []
readies (ALiteral l ls) NoArg = []
readies (ALiteral l ls) (ByValue e rest) = Evaluated (Given (literal_value l)) ∷ readies ls rest
readies (ALiteral l ls) (ByPath path rest) = Aimed (aim_at path l) ∷ readies ls rest

abbrev pub taken : Literals → Args → List Operand
taken NoLiteral operands = []
taken (ALiteral l ls) NoArg = []
taken (ALiteral l ls) (ByValue e rest) = Given (literal_value l) ∷ taken ls rest
taken (ALiteral l ls) (ByPath path rest) = At (at_base (Made (literal_value l))) ∷ taken ls rest

module _ (run : Here) where
  aimed_by : (c : Option Literal) (l : Literal) (go : Does Aim) → ((k : Literal) → c ≡ Some k → k ≡ l) → AlwaysGives go (Value_of (literal_value l)) →
      AlwaysGives (by_constant c (λ k. give (Root (Made (literal_value k)))) go) (aim_by c l)
  aimed_by None l go h g = g
  aimed_by (Some k) l go h g =
      subst (λ j. AlwaysGives (give (Root (Made (literal_value k)))) (Root (Made (literal_value j)))) (h k refl) (given (Root (Made (literal_value k))))

  found_by : (c : Option Literal) (l : Literal) → AlwaysGives (find (aim_by c l)) (at_base (Made (literal_value l)))
  found_by None l = given (at_base (Made (literal_value l)))
  found_by (Some k) l = costing 1 (give (at_base (Made (literal_value l)))) (at_base (Made (literal_value l))) (given (at_base (Made (literal_value l))))

  pub all_ready : {operands : Args} {ls : Literals} → Come run operands ls → (uses : ℕ → Use) (i : ℕ)
      → AlwaysGives (ready_all operands uses i run) (readies ls operands)
  all_ready no_more uses i = given []
  all_ready (by_value e l {rest = rest} {ls = ls} m more) uses i =
      let last : Value → List Ready → Does (List Ready) =
      (λ v ready. give (Evaluated (operand_for (is_lent_own run.facts (uses i) e) run.level (node_of e).number v) ∷ ready)) in
      let all : List Ready = Evaluated (Given (literal_value l)) ∷ readies ls rest in
      branching (gets_copy run (uses i) e)
      (source e run >>= (λ location. ready_all rest uses (suc i) run >>= (λ ready. give (Evaluated (At location) ∷ ready))))
      (eval e (uses i) run >>= (λ v. ready_all rest uses (suc i) run >>= last v)) all
      (ap (λ b. b && (is_given (uses i) && is_read e)) m.plain)
      (after (eval e (uses i) run) (λ v. ready_all rest uses (suc i) run >>= last v) (literal_value l) all (m.value (uses i))
      (after (ready_all rest uses (suc i) run) (last (literal_value l)) (readies ls rest) all (all_ready more uses (suc i))
      (subst (λ b. AlwaysGives (give (Evaluated (operand_for (b && (is_lent (uses i) && not (is_text e))) run.level (node_of e).number (literal_value l))
      ∷ readies ls rest)) all)
      (sym m.plain)
      (given all))))
  all_ready (by_path e l {rest = rest} {ls = ls} m more) uses i =
      let aim : Aim = aim_by (constant_in e) l in
      let all : List Ready = Aimed aim ∷ readies ls rest in
      let root : Value → Does Aim = (λ v. give (fresh_root (gives_hooked run.facts (type_of e)) run.level (node_of e).number v)) in
      after (aimed (Fresh e) run) (λ a. ready_all rest uses (suc i) run >>= (λ ready. give (Aimed a ∷ ready))) aim all
      (aimed_by (constant_in e) l (eval e Looked run >>= root) m.standing
      (after (eval e Looked run) root (literal_value l) (Value_of (literal_value l)) (m.meant.value Looked)
      (subst (λ b. AlwaysGives (give (fresh_root b run.level (node_of e).number (literal_value l))) (Value_of (literal_value l))) (sym m.meant.plain)
      (given (Value_of (literal_value l))))))
      (after (ready_all rest uses (suc i) run) (λ ready. give (Aimed aim ∷ ready)) (readies ls rest) all (all_ready more uses (suc i)) (given all))

  pub settled : {operands : Args} {ls : Literals} → Come run operands ls → AlwaysGives (settle (readies ls operands)) (taken ls operands)
  settled no_more = given []
  settled (by_value e l {rest = rest} {ls = ls} m more) =
      let all : List Operand = Given (literal_value l) ∷ taken ls rest in
      after (settle (readies ls rest)) (λ xs. give (Given (literal_value l) ∷ xs)) (taken ls rest) all (settled more) (given all)
  settled (by_path e l {rest = rest} {ls = ls} m more) =
      let all : List Operand = At (at_base (Made (literal_value l))) ∷ taken ls rest in
      after (find (aim_by (constant_in e) l)) (λ place. settle (readies ls rest) >>= (λ xs. give (At place ∷ xs))) (at_base (Made (literal_value l))) all
      (found_by (constant_in e) l)
      (after (settle (readies ls rest)) (λ xs. give (At (at_base (Made (literal_value l))) ∷ xs)) (taken ls rest) all (settled more) (given all))

  -- none of them has hooks, nor is taken up
  pub none_hooked : {operands : Args} {ls : Literals} → Come run operands ls → any_hooked run.facts (types_in operands) ≡ false
  none_hooked no_more = refl
  none_hooked (by_value e l {rest = rest} m more) = ap (λ b. b || any_hooked run.facts (types_in rest)) m.plain ∙ none_hooked more
  none_hooked (by_path e l {rest = rest} m more) = ap (λ b. b || any_hooked run.facts (types_in rest)) m.meant.plain ∙ none_hooked more

  pub none_held : {operands : Args} {ls : Literals} → Come run operands ls → (uses : ℕ → Use) (i : ℕ) → held_from run.facts run.modes operands uses i ≡ []
  none_held no_more uses i = refl
  none_held (by_value e l {rest = rest} m more) uses i =
      ap (λ b. held_if (b && is_held (uses i)) (node_of e).number (held_from run.facts run.modes rest uses (suc i))) m.plain
      ∙ none_held more uses (suc i)
  none_held (by_path e l m more) uses i = none_held more uses (suc i)

  values_taken : {operands : Args} {ls : Literals} → Come run operands ls → are_placed 0 operands ≡ true → V.values_in (taken ls operands) ≡ literal_values ls
  values_taken no_more p = refl
  values_taken (by_value e l m more) p = ap (λ vs. V.More (literal_value l) vs) (values_taken more p)
  values_taken (by_path e l m more) p = never p

-- ---- what is done with them

-- a deed that gives the value of a literal, which is no text
pub record Done (deed : Deed Value) (l : Literal) : Type 0 where
  pub gives : AlwaysGives (carry (then_deed deed (λ v. deeds.give v))) (literal_value l)
  pub no_text : is_characters l ≡ false

a_number : (z : ℤ) (l : Literal) → P.Number z ≡ l → Done (deeds.give (V.Number z)) l
a_number z l e = subst (λ l. Done (deeds.give (V.Number z)) l) e (record { gives = given (V.Number z); no_text = refl })

-- a checked number
checked : (c : Checked) (l : Literal) → if_fine c ≡ comes_to l → Done (outcome c) l
checked (Fine z) l e = a_number z l (come_one e)
checked (Trapped trap) l e = cc

pub working : (n : ℕ) (deed : Deed Value) (l : Literal) → Done deed l → Done (deeds.costs n deed) l
working n deed l d = record {
  gives = costing n (carry (then_deed deed (λ v. deeds.give v))) (literal_value l) d.gives;
  no_text = d.no_text;
}

given_deed : (v : Value) (l : Literal) → v ≡ literal_value l → is_characters l ≡ false → Done (deeds.give v) l
given_deed v l e n = record { gives = subst (λ w. AlwaysGives (give v) w) e (given v); no_text = n }

module _ (run : Here) where
  abbrev facts : Facts
  facts = run.facts

  -- one operand, by its value
  record Single (go : Literal → C.Evaluated Literal) (xs : List Operand) (l : Literal) : Type 0 where
    one : Literal
    is : xs ≡ Given (literal_value one) ∷ []
    comes : go one ≡ comes_to l
    no_text : is_characters one ≡ false

  single : (go : Literal → C.Evaluated Literal) {operands : Args} {ls : Literals} (l : Literal) → Come run operands ls → are_placed 0 operands ≡ true
      → alone go ls ≡ comes_to l → Single go (taken ls operands) l
  single go l no_more p e = cc
  single go l (by_value a x m no_more) p e = record { one = x; is = refl; comes = e; no_text = m.no_text }
  single go l (by_value a x m (by_value b y n more)) p e = cc
  single go l (by_value a x m (by_path b y n more)) p e = cc
  single go l (by_path a x m more) p e = never p

  -- two operands
  record Pair (go : Literal → Literal → C.Evaluated Literal) (xs : List Operand) (l : Literal) : Type 0 where
    left : Literal
    right : Literal
    is : xs ≡ Given (literal_value left) ∷ Given (literal_value right) ∷ []
    comes : go left right ≡ comes_to l
    no_text : is_characters left ≡ false

  pair : (go : Literal → Literal → C.Evaluated Literal) {operands : Args} {ls : Literals} (l : Literal) → Come run operands ls → are_placed 0 operands ≡ true
      → in_pair go ls ≡ comes_to l → Pair go (taken ls operands) l
  pair go l no_more p e = cc
  pair go l (by_value a x m no_more) p e = cc
  pair go l (by_value a x m (by_value b y n no_more)) p e = record { left = x; right = y; is = refl; comes = e; no_text = m.no_text }
  pair go l (by_value a x m (by_value b y n (by_value c z o more))) p e = cc
  pair go l (by_value a x m (by_value b y n (by_path c z o more))) p e = cc
  pair go l (by_value a x m (by_path b y n more)) p e = never p
  pair go l (by_path a x m more) p e = never p

  -- ---- rows of the table

  unary : (o : UnaryOperator) (a l : Literal) → unary_of o a ≡ comes_to l → Done (outcome (applied_to o (V.number_of (literal_value a)))) l
  unary o (P.Number x) l e = checked (applied_to o x) l e
  unary o (Characters bytes) l e = cc
  unary o NoObject l e = cc
  unary o (PartsOf all) l e = cc
  unary o (ElementsOf all) l e = cc

  binary : (o : Operator) (a b l : Literal) → binary_of o a b ≡ comes_to l
      → Done (outcome (applied o (V.number_of (literal_value a)) (V.number_of (literal_value b)))) l
  binary o (P.Number x) (P.Number y) l e = checked (applied o x y) l e
  binary o (P.Number x) (Characters bytes) l e = cc
  binary o (P.Number x) NoObject l e = cc
  binary o (P.Number x) (PartsOf all) l e = cc
  binary o (P.Number x) (ElementsOf all) l e = cc
  binary o (Characters bytes) b l e = cc
  binary o NoObject b l e = cc
  binary o (PartsOf all) b l e = cc
  binary o (ElementsOf all) b l e = cc

  -- the deed of a comparison
  abbrev comparing : Comparison → Value → Value → Deed Value
  comparing c v w = deeds.costs (bytes v) (deeds.give (V.Number (truth (compared c (V.number_of v) (V.number_of w)))))

  compare : (c : Comparison) (a b l : Literal) → is_characters a ≡ false → compare_of c a b ≡ comes_to l
      → Done (comparing c (literal_value a) (literal_value b)) l
  compare c (P.Number x) (P.Number y) l n e =
      working 4 (deeds.give (V.Number (truth (compared c x y)))) l (a_number (truth (compared c x y)) l (come_one e))
  compare c (P.Number x) (Characters bytes) l n e = cc
  compare c (P.Number x) NoObject l n e = cc
  compare c (P.Number x) (PartsOf all) l n e = cc
  compare c (P.Number x) (ElementsOf all) l n e = cc
  compare c (Characters bytes) b l n e = ever n
  compare c NoObject b l n e = cc
  compare c (PartsOf all) b l n e = cc
  compare c (ElementsOf all) b l n e = cc

  -- a value is handed on
  handing : (a l : Literal) → is_characters a ≡ false → ◌≡◌ {A = C.Evaluated Literal} (comes_to a) (comes_to l) → Done (T.moved (literal_value a)) l
  handing a l n e =
      working (bytes (literal_value a)) (deeds.give (literal_value a)) l
      (subst (λ l. Done (deeds.give (literal_value a)) l) (come_one e) (given_deed (literal_value a) a refl n))

  -- one of so many
  one_among : (values : ℕ) (a l : Literal) → among values a ≡ comes_to l
      → Done (then_deed (outcome (within values (V.number_of (literal_value a)))) T.moved) l
  one_among values (P.Number x) l e = by_check (within values x) e
    where
      by_check : (c : Checked) → if_fine c ≡ comes_to l → Done (then_deed (outcome c) T.moved) l
      by_check (Fine z) e = working 4 (deeds.give (V.Number z)) l (a_number z l (come_one e))
      by_check (Trapped trap) e = cc
  one_among values (Characters bytes) l e = cc
  one_among values NoObject l e = cc
  one_among values (PartsOf all) l e = cc
  one_among values (ElementsOf all) l e = cc

  convert : (ty : Option Ty) (a l : Literal) → is_characters a ≡ false → converted facts ty a ≡ comes_to l
      → Done (then_deed (T.converted (limit_for facts ty) (literal_value a)) T.moved) l
  convert None a l n e = handing a l n e
  convert (Some type.char) a l n e = one_among 256 a l e
  convert (Some (type.enum key)) a l n e = one_among _ a l e
  convert (Some type.int) a l n e = handing a l n e
  convert (Some type.bool) a l n e = handing a l n e
  convert (Some type.text) a l n e = handing a l n e
  convert (Some (type.sequence t)) a l n e = handing a l n e
  convert (Some (type.array m t)) a l n e = handing a l n e
  convert (Some (type.tuple names ts)) a l n e = handing a l n e
  convert (Some (type.parameter m)) a l n e = handing a l n e
  convert (Some (type.object key ts)) a l n e = handing a l n e
  convert (Some (type.distinct key)) a l n e = handing a l n e
  convert (Some (type.ref name t)) a l n e = handing a l n e
  convert (Some (type.exception key)) a l n e = handing a l n e

  -- lengths
  measured_same : (m : Measure) (n : ℕ) → T.measured m n ≡ C.measured m n
  measured_same Len n = refl
  measured_same High zero = refl
  measured_same High (suc n) = one_less n
    where
      one_less : (n : ℕ) → pos (suc n) -ℤ pos 1 ≡ pos n
      one_less n = grind arith

  as_many : (all : Literals) → V.count (literal_values all) ≡ C.count all
  as_many NoLiteral = refl
  as_many (ALiteral l all) = ap suc (as_many all)

  length_is : (m : Measure) (a l : Literal) → measure_of m a ≡ comes_to l → P.Number (T.measured m (length_of (literal_value a))) ≡ l
  length_is m (P.Number x) l e = cc
  length_is m (Characters bytes) l e = ap (λ z. P.Number z) (measured_same m (length bytes)) ∙ come_one e
  length_is m NoObject l e = cc
  length_is m (PartsOf all) l e = ap (λ z. P.Number z) (ap (T.measured m) (as_many all) ∙ measured_same m (C.count all)) ∙ come_one e
  length_is m (ElementsOf all) l e = ap (λ z. P.Number z) (ap (T.measured m) (as_many all) ∙ measured_same m (C.count all)) ∙ come_one e

  -- what a constant is made of is never gone
  whole : (a : Literal) (world : World) → is_whole world (literal_value a) ≡ true
  whole (P.Number x) world = refl
  whole (Characters bytes) world = refl
  whole NoObject world = refl
  whole (PartsOf all) world = refl
  whole (ElementsOf all) world = refl

  measuring : (m : Measure) {operands : Args} {ls : Literals} (l : Literal) → Come run operands ls → are_placed 1 operands ≡ true
      → alone (measure_of m) ls ≡ comes_to l
      → Done (deeds.sees (location (taken ls operands) 0) (λ world v. deeds.give (V.Number (T.measured m (length_of v))))) l
  measuring m l no_more p e = cc
  measuring m l (by_value a x n more) p e = never p
  measuring m l (by_path a x n no_more) p e =
      let q = length_is m x l e in
      let z : ℤ = T.measured m (length_of (literal_value x)) in
      let d = a_number z l q in
      record {
        gives = λ s. subst
            (λ b. Gives (carry (then_deed (deeds.unless_gone b (deeds.give (V.Number z))) (λ v. deeds.give v)) s) (literal_value l) s.world s.meter.units
            s.meter.out)
            (sym (whole x s.world)) (d.gives s);
        no_text = d.no_text;
      }
  measuring m l (by_path a x n (by_value b y o more)) p e = cc
  measuring m l (by_path a x n (by_path b y o more)) p e = cc

  -- values of parts side by side
  making : {operands : Args} {ls : Literals} (l : Literal) → Come run operands ls → are_placed 0 operands ≡ true → limited (PartsOf ls) ≡ comes_to l
      → Done (deeds.costs (bytes (V.Parts (V.values_in (taken ls operands)))) (deeds.give (V.Parts (V.values_in (taken ls operands))))) l
  making {operands = operands} {ls = ls} l come p e =
      let is = (limited_is (PartsOf ls) l e).0 in
      let v = V.Parts (V.values_in (taken ls operands)) in
      working (bytes v) (deeds.give v) l
      (subst (λ l. Done (deeds.give v) l) is
      (given_deed v (PartsOf ls) (ap (λ all. V.Parts all) (values_taken run come p)) refl))

  -- an operation
  pub doing : (o : Operation) (ty : Option Ty) (of : List (Option Ty)) {operands : Args} {ls : Literals} (l : Literal) → Come run operands ls
      → are_placed (places_in o) operands ≡ true → fits facts o ty of ≡ true → gives_hooked facts ty ≡ false →
      if_computed (computing facts ty of o) (comes_to ls) ≡ comes_to l
      → Done (does o facts ty of (taken ls operands)) l
  doing (O.Unary op) ty of {operands = operands} {ls = ls} l come p f u e =
      let r = single (unary_of op) l come p e in
      subst (λ xs. Done (does (O.Unary op) facts ty of xs) l) (sym r.is) (unary op r.one l r.comes)
  doing (O.Binary op) ty of {operands = operands} {ls = ls} l come p f u e =
      let r = pair (binary_of op) l come p e in
      subst (λ xs. Done (does (O.Binary op) facts ty of xs) l) (sym r.is) (binary op r.left r.right l r.comes)
  doing (O.Compare c) ty of {operands = operands} {ls = ls} l come p f u e =
      let r = pair (compare_of c) l come p e in
      subst (λ xs. Done (does (O.Compare c) facts ty of xs) l) (sym r.is) (compare c r.left r.right l r.no_text r.comes)
  doing O.Convert ty of {operands = operands} {ls = ls} l come p f u e =
      let r = single (converted facts ty) l come p e in
      subst (λ xs. Done (does O.Convert facts ty of xs) l) (sym r.is) (convert ty r.one l r.no_text r.comes)
  doing (O.Measure m) ty of l come p f u e = measuring m l come p e
  doing O.Make ty of l come p f u e = making l come p e
  doing O.Join ty of l come p f u e = no_joined facts ty of f u
  doing O.Show ty of l come p f u e = no_shown facts ty of f u
  doing O.Sequence ty of l come p f u e = no_listed facts ty of f u
  doing o ty of l come p f u e = cc

  -- a construction
  pub building : (sound : AreSound facts) (t : Ty) (given : List ℕ) {operands : Args} {ls : Literals} (l : Literal) → Come run operands ls
      → are_placed 0 operands ≡ true → is_built (built facts (kind_of facts t)) ≡ true → are_distinct given ≡ true → gives_hooked facts (Some t) ≡ false
      → object_of facts (Some t) (with_values given ls) ≡ comes_to l
      → Done (acts (Building given) facts (Some t) (types_in operands) (taken ls operands)) l
  building sound t given {operands = operands} {ls = ls} l come p b d u e =
      let all = field_literals facts 0 (fields_of facts (Some t)) (with_values given ls) in
      let start = V.default_of facts t in
      let v = T.with_fields start given (V.values_in (taken ls operands)) in
      let is : v ≡ literal_value (PartsOf all) =
      ap (T.with_fields start given) (values_taken run come p) ∙ object_is facts sound t b u given ls d in
      working 1 (deeds.costs (bytes start) (deeds.give v)) l
      (working (bytes start) (deeds.give v) l
      (subst (λ l. Done (deeds.give v) l) (limited_is (PartsOf all) l e).0 (given_deed v (PartsOf all) is refl)))

  -- a literal
  pub literal : (sound : AreSound facts) (ty : Option Ty) (x l : Literal) → for_some ty (λ t. is_constant facts t x) ≡ true → gives_hooked facts ty ≡ false
      → of_literal x ≡ comes_to l → Done (T.constant_row facts ty (T.literal_bytes x) (literal_value x)) l
  literal sound ty x l c u e =
      subst (λ b. Done (deeds.costs 1 (T.constant_for b (form_for facts ty) (T.literal_bytes x) (literal_value x))) l) (sym u)
      (by_sort ty x c u e)
    where
      no_hooks : (x : Literal) → is_characters x ≡ false → ◌≡◌ {A = C.Evaluated Literal} (comes_to x) (comes_to l)
          → Done (deeds.costs 1 (deeds.costs (T.literal_bytes x) (deeds.give (literal_value x)))) l
      no_hooks x n e =
          working 1 (deeds.costs (T.literal_bytes x) (deeds.give (literal_value x))) l
          (working (T.literal_bytes x) (deeds.give (literal_value x)) l
          (subst (λ l. Done (deeds.give (literal_value x)) l) (come_one e) (given_deed (literal_value x) x refl n)))

      by_sort : (ty : Option Ty) (x : Literal) → for_some ty (λ t. is_constant facts t x) ≡ true → gives_hooked facts ty ≡ false → of_literal x ≡ comes_to l
          → Done (deeds.costs 1 (deeds.costs (T.literal_bytes x) (deeds.give (literal_value x)))) l
      by_sort ty (P.Number z) c u e = no_hooks (P.Number z) refl e
      by_sort ty NoObject c u e = no_hooks NoObject refl e
      by_sort ty (PartsOf all) c u e = no_hooks (PartsOf all) refl e
      by_sort ty (ElementsOf all) c u e = no_hooks (ElementsOf all) refl e
      by_sort None (Characters text) c u e = never c
      by_sort (Some t) (Characters text) c u e = ever (sym (hooked_text facts sound t c) ∙ u)
