-- The places of an expression, and its lines: they are of what is built, and for each byte that counts there are two at most.
use Rattle.std.proofs.Common.{◌≡◌, ℕ, suc, ◌+◌, ◌*◌, ◌≤◌, Bool, true, false, ◌&&◌, List, [], ◌∷◌, ◌++◌, Option, Some, None, refl, sym, ap, ap₂, subst}
use Rattle.std.proofs.Common.{◌∙◌, append_assoc, arith}
use Rattle.std.specs.Prelude.{if◌then◌else◌, map}
use Rattle.std.proofs.lemmas.Bool.{and_parts}
use Rattle.nim_types.specs.Types.{Ty, Facts}
use Rattle.nim_program.specs.declared.expr.Node.{Node}
use Rattle.nim_program.specs.declared.operation.Short.{Short}
use Rattle.nim_program.specs.declared.operation.Short.TheVariants.{And, Or}
use Rattle.nim_program.specs.declared.expr.Label.TheVariants as B
use Rattle.nim_program.specs.declared.operation.Use.{Use}
use Rattle.nim_program.specs.declared.operation.Use.TheVariants.{Owned, Looked}
use Rattle.nim_program.specs.declared.program.Mode.{Mode}
use Rattle.nim_program.specs.Folds.{numbers, total, total_at, totals, if_constant, begun_by}
use Rattle.nim_program.specs.Program.{Label, Ordinals, Exactly}
use Rattle.nim_program.specs.Program.{Act, Doing, Building, Giving, Calling, ByConditions, ByLabels}
use Rattle.nim_program.specs.Program.{Expr, Apply, Read, Early, Choose, Path, Variable, Fresh, Field, Element, Deref, Args, NoArg, ByValue, ByPath, Declared}
use Rattle.nim_program.specs.Program.{type_of, type_at, types_in, node_at}
use Rattle.nim_program.specs.Program.{is_written, Literal, constant_in, node_of}
use Rattle.nim_program.specs.Sizes.{type_bytes, value_bytes, own_bytes}
use Rattle.nim_program.specs.Typed.{is_fresh, behind_first, is_located}
use Rattle.nim_program.specs.Uses.{use_of}
use Rattle.nim_program.specs.View.{if_type}
use Rattle.nim_meaning.specs.Here.{is_hooked, gives_hooked}
use Rattle.nim_meaning.specs.LeftOut.{is_built, is_act_built}
use Rattle.nim_meaning.specs.Shapes.{waits, has_node, is_covered, is_last_value}
use Rattle.nim_meaning.specs.Waiting.{Wait, held_if, waiting, held_from}
use Rattle.flat_code.specs.declared.line.From.{From}
use Rattle.flat_code.specs.declared.line.From.TheVariants as F
use Rattle.flat_code.specs.declared.line.UseAt.{UseAt}
use Rattle.flat_code.specs.declared.line.Owning.TheVariants as O
use Rattle.flat_code.specs.declared.line.Line.{Line}
use Rattle.flat_code.specs.declared.line.Line.TheVariants as L
use Rattle.flat_code.specs.declared.place.FlatPlace.{FlatPlace}
use Rattle.flat_code.specs.declared.place.PlaceKind.{PlaceKind}
use Rattle.flat_code.specs.declared.place.PlaceKind.TheVariants as K
use Rattle.flat_code.specs.Sizes.{kind_bytes}
use Rattle.flattening.specs.declared.numbers.Purpose.TheVariants.{End, Next, Arm}
use Rattle.flattening.specs.Numbering.{number_or, if_number, all_numbers, width, width_at, label, arm_count, looked_from, selector_from}
use Rattle.flattening.specs.ExprLines.{use_at, has_hooks, is_copied, is_lent_at, is_one_text, waits_at, branch_use, froms, find_lines, settle_lines}
use Rattle.flattening.specs.ExprLines.{label_tests}
use Rattle.flattening.specs.ExprLines.{value_tests, arm_label, act_line, none_fits, handed_on, early_lines, taken_lines, end_lines, value_ends, branch_ends}
use Rattle.flattening.specs.ExprLines.{back_line, begin_line, lines, aim_lines, copied_lines, ready_lines, choice_lines, select_lines, arm_lines}
use Rattle.flattening.specs.Places.{waits_by, place, temporary, value_at, read_place, selector_place, expr_places, path_places, operand_places, part_places}
use Rattle.flat_code.specs.BuiltCode.{is_param, IsBuiltLine}
use Rattle.flattening.proofs.Listed.{listed}
use Rattle.flattening.proofs.Simple.{never, AllValues, LabelsFit, IsFine, IfFine, IsSmall, SmallFirst, IsSimple, IsSimplePath, AreSimple}
use Rattle.flattening.proofs.Covers.{bytes_least, known, Covers, covers_none, covers_line, ◌>>◌, ◌~>◌, ◌<~◌, covers_most, covers_as, place_built, fine_bytes}
use Rattle.flattening.proofs.Covers.{word_lent, lent_least}

module _ (types : List Ty) (facts : Facts) (modes : (proc position : ℕ) → Mode) (globals : List Declared) where
  abbrev pub C : List FlatPlace → (spare most : ℕ) → (List Line → List Line) → Type 0
  C places spare most front = Covers types facts places spare most front

  -- ---- what counts

  abbrev pub W : Expr → ℕ
  W e = total numbers (own_bytes facts globals) e

  abbrev pub WP : Path → ℕ
  WP path = total_at numbers (own_bytes facts globals) false path

  abbrev pub WR : Path → ℕ
  WR path = total_at numbers (own_bytes facts globals) true path

  abbrev pub WA : Args → ℕ
  WA args = totals numbers (own_bytes facts globals) args

  -- a location is a word
  abbrev pub word_if : Option Ty → ℕ
  word_if None = 0
  word_if (Some ty) = 4

  -- of what a path may begin with its location, and of what may be lent
  abbrev pub led_spare : Expr → ℕ
  led_spare (Apply node ty act operands) = word_if ty
  led_spare (Read path) = word_lent facts (type_at path)
  led_spare (Early node ty short left right) = 4
  led_spare (Choose node ty chooser parts) = word_if ty

  fresh_spare : (e : Expr) → is_fresh e ≡ true → led_spare e ≡ word_if (type_of e)
  fresh_spare (Apply node ty act operands) h = refl
  fresh_spare (Read path) h = never h
  fresh_spare (Early node ty short left right) h = refl
  fresh_spare (Choose node ty chooser parts) h = refl

  lent_spare : (e : Expr) → has_hooks facts e ≡ true → word_if (type_of e) ≤ led_spare e
  lent_spare (Apply node ty act operands) h = omega arith
  lent_spare (Read path) h = by (type_at path) h
    where
      by : (ty : Option Ty) → gives_hooked facts ty ≡ true → word_if ty ≤ word_lent facts ty
      by None h = omega arith
      by (Some ty) h = subst (λ b. 4 ≤ (if b then 4 else 0)) (sym h) (omega arith)
  lent_spare (Early node ty short left right) h = omega arith
  lent_spare (Choose node ty chooser parts) h = omega arith

  -- ---- types of parts

  mutual
    pub value_fine : (e : Expr) → IsSimple types facts e → IfFine types facts (type_of e)
    value_fine (Apply node ty act operands) s = s.0
    value_fine (Read path) s = path_fine path s.1
    value_fine (Early node ty short left right) s = s.0
    value_fine (Choose node ty chooser parts) s = s.0

    path_fine : (path : Path) → IsSimplePath types facts path → IfFine types facts (type_at path)
    path_fine (Variable node ty place global) s = s
    path_fine (Fresh value) s = value_fine value s.1
    path_fine (Field node ty base field) s = s.0
    path_fine (Element node ty base index constant) s = s.0
    path_fine (Deref ty base) s = absurd s

  -- types by their numbers
  one_same : (ty : Option Ty) → IfFine types facts ty → if_type types (if_number types ty) ≡ ty
  one_same None f = refl
  one_same (Some ty) f = ap (λ t. Some t) (listed types ty f.0.0)

  types_same : (args : Args) → AreSimple types facts args → map (if_type types) (all_numbers types (types_in args)) ≡ types_in args
  types_same NoArg s = refl
  types_same (ByValue e rest) s = ap₂ (λ t ts. t ∷ ts) (one_same (type_of e) (value_fine e s.0)) (types_same rest s.1)
  types_same (ByPath path rest) s = ap₂ (λ t ts. t ∷ ts) (one_same (type_at path) (path_fine path s.0)) (types_same rest s.1)

  -- ---- lines for no places, and for one

  pub silent : (line : Line) → IsBuiltLine (known types facts) line → C [] 0 0 (λ k. line ∷ k)
  silent line r = covers_line types facts line r

  -- the start of a path that begins with a value
  begins : (constant : Option Literal) (value : Expr) (t : ℕ) → C [] 0 0 (λ k. begin_line types facts constant value t ∷ k)
  begins (Some literal) value t = silent (begin_line types facts (Some literal) value t) tt
  begins None value t = silent (begin_line types facts None value t) tt

  pub find : (path : Path) (t : ℕ) → IsSimplePath types facts path → C [] 0 0 (find_lines types facts path t)
  find (Variable node ty place global) t s = silent (L.Root t place global) tt
  find (Fresh value) t s = begins (constant_in value) value t
  find (Field node ty base field) t s = find base (suc t) s.1 ~> silent (L.Part t (suc t) field) tt
  find (Element node ty base index constant) t s = find base (suc t) s.1 ~> silent (L.Item t (suc t) (suc t + width_at base)) tt
  find (Deref ty base) t s = absurd s

  settle : (args : Args) (t : ℕ) → AreSimple types facts args → C [] 0 0 (settle_lines types facts args t)
  settle NoArg t s = covers_none types facts
  settle (ByValue value rest) t s = settle rest (t + width value) s.1
  settle (ByPath path rest) t s = find path t s.0 ~> settle rest (t + width_at path) s.1

  -- what is taken up, what ends, and what waits behind a call
  taken : (nodes : List ℕ) → C [] 0 0 (taken_lines nodes)
  taken [] = covers_none types facts
  taken (node ∷ nodes) = silent (L.Own (O.TakenUp node) []) tt ~> taken nodes

  pub ended : (waits : List Wait) → C [] 0 0 (end_lines types waits)
  ended [] = covers_none types facts
  ended (w ∷ ws) = ended ws ~> silent (L.Own (O.TemporaryEnds w.node (number_or types w.of)) []) tt

  pub value_ended : (e : Expr) (how : Use) → C [] 0 0 (value_ends types facts modes e how)
  value_ended e how = ended (waiting facts modes e how)

  branch_ended : (e : Expr) → C [] 0 0 (branch_ends types facts modes e)
  branch_ended e = value_ended e Owned ~> taken (held_if (has_hooks facts e) (node_of e).number [])

  -- a line that is there where a condition holds
  pub line_if : (b : Bool) (line : Line) → IsBuiltLine (known types facts) line → C [] 0 0 (λ k. if b then line ∷ k else k)
  line_if true line r = silent line r
  line_if false line r = covers_none types facts

  back : (t : ℕ) (act : Act) (how : UseAt) (ty : Option Ty) → C [] 0 0 (back_line types facts modes t act how ty)
  back t (Doing operation) how ty = covers_none types facts
  back t (Building fields) how ty = covers_none types facts
  back t (Giving literal) how ty = covers_none types facts
  back t (Calling proc given) how ty = line_if (gives_hooked facts ty && waits how.how) (L.Own (O.Waits how.node) (F.Value t ∷ [])) tt

  pub tests : (labels : List Label) (s a : ℕ) → C [] 0 0 (label_tests labels s a)
  tests [] s a = covers_none types facts
  tests (Ordinals low high ∷ labels) s a = silent (L.Fits s (B.Ordinals low high) a) tt ~> tests labels s a
  tests (Exactly text ∷ labels) s a = silent (L.Fits s (B.Text text) a) tt ~> tests labels s a

  all_tests : (labels : List (List Label)) (values : Args) (s t : ℕ) → C [] 0 0 (value_tests labels values s t)
  all_tests labels NoArg s t = covers_none types facts
  all_tests labels (ByPath path rest) s t = covers_none types facts
  all_tests [] (ByValue value rest) s t = covers_none types facts
  all_tests (these ∷ labels) (ByValue value rest) s t = tests these s (label Arm t) ~> all_tests labels rest s (t + width value)

  pub arm : (b : Bool) (other a : ℕ) → C [] 0 0 (arm_label b other a)
  arm true other a = silent (L.Label other) tt ~> silent (L.Label a) tt
  arm false other a = silent (L.Label a) tt

  -- a place for no line
  pub one_place : (waits : Option ℕ) (number : ℕ) (node : Node) (kind : PlaceKind) (ty : Ty) (bytes : ℕ) → IsFine types facts ty → is_param kind ≡ false →
      kind_bytes kind (type_bytes facts ty) ≡ bytes →
      C (place types facts modes waits number node.at kind ty ∷ []) 0 bytes (λ k. k)
  one_place waits number node kind ty bytes f own e = record {
    built = (place_built types facts modes waits number node kind ty f, tt);
    lines = λ k h. h;
    bytes = let i = fine_bytes types facts modes waits number node kind ty f own ∙ e in omega (arith, i);
  }

  pub value_place : (node : Node) (ty : Option Ty) (t : ℕ) → IfFine types facts ty →
      C (value_at types facts modes true node ty t) (word_if ty) (2 * value_bytes facts ty) (λ k. k)
  value_place node None t f = covers_most types facts 0 0 (omega arith) (covers_none types facts)
  value_place node (Some ty) t f =
      let l = bytes_least facts ty in
      covers_most types facts 4 (2 * type_bytes facts ty) (omega (arith, l))
      (one_place (waits_by true (is_hooked facts ty) node.number) t node K.Temp ty (type_bytes facts ty) f refl refl)

  led_place : (node : Node) (ty : Option Ty) (b : Bool) (t : ℕ) → IfFine types facts ty →
      C (temporary types facts modes node ty (if b then K.Location else K.Within) t) 0 (word_if ty) (λ k. k)
  led_place node None b t f = covers_none types facts
  led_place node (Some ty) true t f = one_place None t node K.Location ty 4 f refl refl
  led_place node (Some ty) false t f = one_place None t node K.Within ty 4 f refl refl

  -- ---- what is done with operands

  act_built : (t : ℕ) (act : Act) (how : UseAt) (ty : Option Ty) (operands : Args) (from : List From) →
      AreSimple types facts operands → is_act_built act facts ty operands ≡ true →
      IsBuiltLine (known types facts) (act_line types facts modes t act how ty (types_in operands) from)
  act_built t (Doing operation) how ty operands from s b = ap (is_built operation facts) (types_same operands s) ∙ b
  act_built t (Building fields) how None operands from s b = tt
  act_built t (Building fields) how (Some ty) operands from s b = tt
  act_built t (Giving literal) how None operands from s b = tt
  act_built t (Giving literal) how (Some ty) operands from s b = tt
  act_built t (Calling proc given) how ty operands from s b = tt

  -- ---- paths

  abbrev path_spare : Path → ℕ
  path_spare (Variable node ty place global) = 12
  path_spare (Fresh value) = if_constant (constant_in value) 12 0
  path_spare (Field node ty base field) = 12
  path_spare (Element node ty base index constant) = 12
  path_spare (Deref ty base) = 0

  abbrev Aimed : Path → (t : ℕ) → Type 0
  Aimed path t = C (path_places types facts modes path t) (path_spare path) (2 * WP path) (aim_lines types facts modes path t)

  word_most : (ty : Option Ty) → word_if ty ≤ 4
  word_most None = omega arith
  word_most (Some ty) = omega arith

  -- what a path begins with, behind its location
  abbrev begun_bytes : Option Literal → Expr → ℕ
  begun_bytes constant value =
      if_constant constant (own_bytes facts globals (begun_by constant false value)) (own_bytes facts globals (begun_by constant false value) + W value)

  begun : (constant : Option Literal) (value : Expr) (t : ℕ) → is_fresh value ≡ true → IfFine types facts (type_of value) →
      C (expr_places types facts modes value (suc t)) (led_spare value) (2 * W value) (lines types facts modes value Looked (suc t)) →
      C (temporary types facts modes (node_of value) (type_of value) K.Within t ++ if_constant constant [] (expr_places types facts modes value (suc t)))
      (if_constant constant 12 0)
      (2 * begun_bytes constant value) (λ k. if_constant constant k (lines types facts modes value Looked (suc t) k))
  begun None value t fresh fine comes =
      let e = fresh_spare value fresh in
      covers_most types facts 0 _ (omega (arith, e)) (led_place (node_of value) (type_of value) false t fine >> comes)
  begun (Some literal) value t fresh fine comes =
      let e = word_most (type_of value) in
      covers_most types facts 12 _ (omega (arith, e)) (led_place (node_of value) (type_of value) false t fine >> covers_none types facts)

  -- what a path needs, and then its steps
  abbrev stepped : Path → (t : ℕ) → List Line → List Line
  stepped path t k = aim_lines types facts modes path t (find_lines types facts path t k)

  -- with its value, in temporary s
  looked_node : (waits : Option ℕ) (path : Path) (s t : ℕ) (node : Node) (ty : Ty) (spare most : ℕ) → IsFine types facts ty →
      IsSimplePath types facts path → Aimed path t → spare + (2 * WP path + type_bytes facts ty) ≤ most + path_spare path →
      C (place types facts modes waits s node.at K.Temp ty ∷ path_places types facts modes path t) spare most (stepped path t)
  looked_node waits path s t node ty spare most f simple aimed le =
      covers_most types facts spare most (omega (arith, le))
      (one_place waits s node K.Temp ty (type_bytes facts ty) f refl refl >> (aimed <~ find path t simple))

  abbrev waits_at_node : (may : Bool) → Node → Ty → Option ℕ
  waits_at_node may node ty = waits_by may (is_hooked facts ty) node.number

  -- its value is read to temporary u
  got : (may : Bool) (path : Path) (u t : ℕ) → is_located path ≡ true → IsSimplePath types facts path → Aimed path t →
      C (read_place types facts modes may path u ++ path_places types facts modes path t) (word_lent facts (type_at path)) (2 * WR path) (stepped path t)
  got may (Variable node ty n global) u t is s aimed =
      let l = lent_least types facts ty s in
      looked_node (waits_at_node may node ty) (Variable node ty n global) u t node ty (word_lent facts (Some ty)) (2 * WR (Variable node ty n global)) s s
      aimed (omega (arith, l))
  got may (Fresh value) u t is s aimed = never is
  got may (Field node ty base field) u t is s aimed =
      let l = lent_least types facts ty s.0 in
      looked_node (waits_at_node may node ty) (Field node ty base field) u t node ty (word_lent facts (Some ty)) (2 * WR (Field node ty base field)) s.0 s
      aimed (omega (arith, l))
  got may (Element node ty base index constant) u t is s aimed =
      let l = lent_least types facts ty s.0 in
      looked_node (waits_at_node may node ty) (Element node ty base index constant) u t node ty (word_lent facts (Some ty))
      (2 * WR (Element node ty base index constant)) s.0 s aimed (omega (arith, l))
  got may (Deref ty base) u t is s aimed = absurd s

  -- a selector, which is small, comes to temporary u
  pub selected : (path : Path) (u t : ℕ) → IsSimplePath types facts path → Aimed path t → (is_located path ≡ true) × IsSmall types facts (type_at path) →
      C (read_place types facts modes false path u ++ path_places types facts modes path t) 0 (2 * WP path) (λ k. stepped path t (L.Look u t ∷ k))
  selected path u t s aimed small = looked path s aimed small <~ silent (L.Look u t) tt
    where
      looked : (path : Path) → IsSimplePath types facts path → Aimed path t → (is_located path ≡ true) × IsSmall types facts (type_at path) →
          C (read_place types facts modes false path u ++ path_places types facts modes path t) 0 (2 * WP path) (stepped path t)
      looked (Variable node ty place global) s aimed small =
          let l = small.1 in
          looked_node (waits_at_node false node ty) (Variable node ty place global) u t node ty 0 (2 * WP (Variable node ty place global)) s s aimed
          (omega (arith, l))
      looked (Fresh value) s aimed small = never small.0
      looked (Field node ty base field) s aimed small =
          let l = small.1 in
          looked_node (waits_at_node false node ty) (Field node ty base field) u t node ty 0 (2 * WP (Field node ty base field)) s.0 s aimed
          (omega (arith, l))
      looked (Element node ty base index constant) s aimed small =
          let l = small.1 in
          looked_node (waits_at_node false node ty) (Element node ty base index constant) u t node ty 0 (2 * WP (Element node ty base index constant)) s.0 s
          aimed (omega (arith, l))
      looked (Deref ty base) s aimed small = absurd s

  early : (short : Short) (t s : ℕ) → C [] 0 0 (early_lines types facts modes short t s)
  early And t s = silent (L.Truth t false) tt ~> silent (L.Unless s (label End t)) tt
  early Or t s =
      silent (L.Truth t true) tt
      ~> (silent (L.Unless s (label Next t)) tt ~> (silent (L.Jump (label End t)) tt ~> silent (L.Label (label Next t)) tt))

  no_fit : (t : ℕ) (ty : Option Ty) (how : UseAt) → C [] 0 0 (λ k. none_fits types facts modes t ty how ∷ k)
  no_fit t ty how = silent (none_fits types facts modes t ty how) refl

  -- behind the last value nothing follows
  last_none : (covered : Bool) (rest : Args) (u : ℕ) → covered && is_last_value rest ≡ true → part_places types facts modes rest u ≡ []
  last_none true NoArg u h = refl
  last_none true (ByValue value rest) u h = never h
  last_none true (ByPath path rest) u h = never h
  last_none false rest u h = never h

  -- one arm, and those that follow, if any
  pub arm_then : (b : Bool) (other a : ℕ) {xs : List FlatPlace} (ys : List FlatPlace) {r m : ℕ} (n : ℕ) {F G : List Line → List Line} → C xs r m F →
      (b ≡ true → ys ≡ []) → C ys 0 n G → C (xs ++ ys) 0 (m + n) (λ k. arm_label b other a (F (if b then k else G k)))
  arm_then true other a {xs} ys n p none q =
      covers_as types facts (ap (λ zs. xs ++ zs) (sym (none refl)))
      (covers_most types facts 0 _ (omega arith) (arm true other a ~> (p >> covers_none types facts)))
  arm_then false other a ys n p none q = covers_most types facts 0 _ (omega arith) (arm false other a ~> (p >> q))

  -- places without their lines
  placed : {xs : List FlatPlace} {r m : ℕ} {F : List Line → List Line} → C xs r m F → C xs r m (λ k. k)
  placed p = record { built = p.built; lines = λ k h. h; bytes = p.bytes }

  -- an operand, from where a place copies it, or where it may be lent
  handed : (xs ys zs : List FlatPlace) {r m n z : ℕ} (F G H T : List Line → List Line) (line : Line) (b c text : Bool) →
      IsBuiltLine (known types facts) line →
      (c ≡ true → z ≤ r) → C xs r m F → C xs r m H → C [] 0 0 T → C zs 0 z (λ k. k) → C ys 0 n G →
      C (xs ++ ((if c then zs else []) ++ ys)) 0 (m + n)
      (λ k. if b then H (G k) else if c && text then T (G k) else F (if c then line ∷ G k else G k))
  handed xs ys zs F G H T line true true text built spare p h t z q =
      let l = spare refl in covers_most types facts 0 _ (omega (arith, l)) (h >> (z >> q))
  handed xs ys zs F G H T line true false text built spare p h t z q = covers_most types facts 0 _ (omega arith) (h >> q)
  handed xs ys zs F G H T line false true true built spare p h t z q =
      let l = spare refl in covers_most types facts 0 _ (omega (arith, l)) (placed p >> (t ~> (z >> q)))
  handed xs ys zs F G H T line false true false built spare p h t z q =
      let l = spare refl in covers_most types facts 0 _ (omega (arith, l)) (p >> (silent line built ~> (z >> q)))
  handed xs ys zs F G H T line false false text built spare p h t z q = covers_most types facts 0 _ (omega arith) (p >> q)

  -- what a `case` chooses by comes to its temporary, before other values
  abbrev Chosen : (parts : Args) (u : ℕ) (front : List Line → List Line) → Type 0
  Chosen parts u front = C (selector_place types facts modes parts u ++ part_places types facts modes parts (selector_from parts u)) 0 (2 * WA parts) front

  -- the value of a branch
  abbrev branch_value : (e : Expr) (u : ℕ) → Type 0
  branch_value e u =
      C (expr_places types facts modes e u) (led_spare e) (2 * W e) (lines types facts modes e (branch_use types facts modes e) u)

  branch : (e : Expr) (ty : Option Ty) (how : UseAt) (t u : ℕ) → branch_value e u →
      C (expr_places types facts modes e u) (led_spare e) (2 * W e)
      (λ k. lines types facts modes e (branch_use types facts modes e) u (branch_ends types facts modes e (handed_on types facts modes t u how ty ∷ k)))
  branch e ty how t u comes = comes <~ (branch_ended e ~> silent (handed_on types facts modes t u how ty) tt)

  mutual
    pub expr : (e : Expr) (how : Use) (t : ℕ) → IsSimple types facts e →
        C (expr_places types facts modes e t) (led_spare e) (2 * W e) (lines types facts modes e how t)
    expr (Apply node ty act operands) how t s =
        let from = froms facts act operands (use_of modes act) 0 (suc t) in
        let line = act_line types facts modes t act (use_at how node.number) ty (types_in operands) from in
        covers_most types facts _ _ (omega arith)
        (value_place node ty t s.0
        >> (ready act operands (use_of modes act) 0 (suc t) s.2
        <~ (settle operands (suc t) s.2
        ~> (taken (held_from facts modes operands (use_of modes act) 0)
        ~> (silent line (act_built t act (use_at how node.number) ty operands from s.2 s.1) ~> back t act (use_at how node.number) ty)))))
    expr (Read path) how t s =
        got (has_node path) path t (suc t) s.0 s.1 (aim path (suc t) s.1)
        <~ silent (L.Get t (suc t) (use_at how (node_at path).number) (if_number types (type_at path))) tt
    expr (Early node ty short left right) how t s =
        covers_most types facts _ _ (omega arith)
        (value_place node (Some ty) t s.0
        >> (expr left Owned (suc t) s.1
        >> (early short t (suc t)
        ~> (expr right Owned (suc t + width left) s.2
        <~ (silent (L.Pass t (suc t + width left) (use_at how node.number) None) tt ~> silent (L.Label (label End t)) tt)))))
    expr (Choose node ty ByConditions parts) how t s =
        covers_most types facts _ _ (omega arith)
        (value_place node ty t s.0 >> (choice parts ty (use_at how node.number) t (suc t) s.1 s.2 <~ silent (L.Label (label End t)) tt))
    expr (Choose node ty (ByLabels labels) parts) how t s =
        covers_most types facts _ _ (omega arith)
        (value_place node ty t s.0
        >> (select labels parts ty (use_at how node.number) t (suc t + arm_count (ByLabels labels)) s.1 s.2.0 s.2.1 s.2.2
        <~ silent (L.Label (label End t)) tt))

    pub aim : (path : Path) (t : ℕ) → IsSimplePath types facts path → Aimed path t
    aim (Variable node ty place global) t s =
        covers_most types facts 12 _ (omega arith) (led_place node (Some ty) (is_written (Variable node ty place global)) t s)
    aim (Fresh value) t s = begun (constant_in value) value t s.0 (value_fine value s.1) (expr value Looked (suc t) s.1)
    aim (Field node ty base field) t s =
        covers_most types facts 12 _ (omega arith)
        (led_place node (Some ty) (is_written (Field node ty base field)) t s.0 >> aim base (suc t) s.1)
    aim (Element node ty base index constant) t s =
        covers_most types facts 12 _ (omega arith)
        (led_place node (Some ty) (is_written (Element node ty base index constant)) t s.0
        >> (aim base (suc t) s.1 >> expr index Owned (suc t + width_at base) s.2))
    aim (Deref ty base) t s = absurd s

    -- where a place copies from
    pub copied : (e : Expr) (t : ℕ) {front : List Line → List Line} → IsSimple types facts e →
        C (expr_places types facts modes e t) (led_spare e) (2 * W e) front →
        C (expr_places types facts modes e t) (led_spare e) (2 * W e) (copied_lines types facts modes e t)
    copied (Read path) t s p = got (has_node path) path t (suc t) s.0 s.1 (aim path (suc t) s.1)
    copied (Apply node ty act operands) t s p = placed p
    copied (Early node ty short left right) t s p = placed p
    copied (Choose node ty chooser parts) t s p = placed p

    pub ready : (act : Act) (args : Args) (uses : (position : ℕ) → Use) (i t : ℕ) → AreSimple types facts args →
        C (operand_places types facts modes act args uses i t) 0 (2 * WA args) (ready_lines types facts modes act args uses i t)
    ready act NoArg uses i t s = covers_none types facts
    ready act (ByValue e rest) uses i t s =
        let comes = expr e (uses i) t s.0 in
        covers_most types facts 0 _ (omega arith)
        (handed (expr_places types facts modes e t) (operand_places types facts modes act rest uses (suc i) (t + width e))
        (temporary types facts modes (node_of e) (type_of e) K.Within t) (lines types facts modes e (uses i) t)
        (ready_lines types facts modes act rest uses (suc i) (t + width e)) (copied_lines types facts modes e t)
        (λ k. begin_line types facts (constant_in e) e t ∷ k) (L.Fresh t t (waits_at facts e))
        (is_copied facts (uses i) e) (is_lent_at facts act (uses i) e) (is_one_text (constant_in e)) tt
        (λ lent. lent_spare e (and_parts (has_hooks facts e) _ lent).0) comes (copied e t s.0 comes) (begins (constant_in e) e t)
        (led_place (node_of e) (type_of e) false t (value_fine e s.0)) (ready act rest uses (suc i) (t + width e) s.1))
    ready act (ByPath path rest) uses i t s =
        covers_most types facts 0 _ (omega arith) (aim path t s.0 >> ready act rest uses (suc i) (t + width_at path) s.1)

    choice : (parts : Args) (ty : Option Ty) (how : UseAt) (t u : ℕ) → AreSimple types facts parts → AllValues parts →
        C (part_places types facts modes parts u) 0 (2 * WA parts) (choice_lines types facts modes parts ty how t u)
    choice NoArg ty how t u s a = no_fit t ty how
    choice (ByPath path rest) ty how t u s a = absurd a
    choice (ByValue last NoArg) ty how t u s a =
        covers_most types facts 0 _ (omega arith) (branch last ty how t u (expr last (branch_use types facts modes last) u s.0) >> covers_none types facts)
    choice (ByValue condition (ByPath path rest)) ty how t u s a = absurd a
    choice (ByValue condition (ByValue e rest)) ty how t u s a =
        covers_most types facts 0 _ (omega arith)
        (expr condition Owned u s.0
        >> (value_ended condition Owned
        ~> (silent (L.Unless u (label Arm u)) tt
        ~> (branch e ty how t (u + width condition) (expr e (branch_use types facts modes e) (u + width condition) s.1.0)
        >> (silent (L.Jump (label End t)) tt
        ~> (silent (L.Label (label Arm u)) tt ~> choice rest ty how t (u + width condition + width e) s.1.1 a))))))

    select : (labels : List (List Label)) (parts : Args) (ty : Option Ty) (how : UseAt) (t u : ℕ) → AreSimple types facts parts →
        AllValues (behind_first parts) → SmallFirst types facts parts → LabelsFit labels (behind_first parts) →
        Chosen parts u (select_lines types facts modes labels parts ty how t u)
    select labels NoArg ty how t u s a small fit = no_fit t ty how
    select labels (ByValue selector rest) ty how t u s a small fit =
        covers_most types facts 0 _ (omega arith)
        (expr selector Looked u s.0
        >> (all_tests labels rest u (u + width selector)
        ~> (silent (L.Jump (label Next t)) tt
        ~> arms (is_covered (type_of selector)) labels rest ty how t (u + width selector) s.1 a fit)))
    select labels (ByPath path rest) ty how t u s a small fit =
        let n = looked_from path u in
        covers_as types facts
        (append_assoc (read_place types facts modes false path u) (path_places types facts modes path n)
        (part_places types facts modes rest (n + width_at path)))
        (covers_most types facts 0 _ (omega arith)
        (selected path u n s.0 (aim path n s.0) small
        >> (all_tests labels rest u (n + width_at path)
        ~> (silent (L.Jump (label Next t)) tt
        ~> arms (is_covered (type_at path)) labels rest ty how t (n + width_at path) s.1 a fit))))

    arms : (covered : Bool) (labels : List (List Label)) (values : Args) (ty : Option Ty) (how : UseAt) (t u : ℕ) → AreSimple types facts values →
        AllValues values → LabelsFit labels values →
        C (part_places types facts modes values u) 0 (2 * WA values) (arm_lines types facts modes covered labels values ty how t u)
    arms covered labels NoArg ty how t u s a fit = silent (L.Label (label Next t)) tt ~> no_fit t ty how
    arms covered labels (ByPath path rest) ty how t u s a fit = absurd a
    arms covered [] (ByValue e NoArg) ty how t u s a fit =
        covers_most types facts 0 _ (omega arith)
        (silent (L.Label (label Next t)) tt ~> (branch e ty how t u (expr e (branch_use types facts modes e) u s.0) >> covers_none types facts))
    arms covered [] (ByValue e (ByValue other rest)) ty how t u s a fit = absurd fit
    arms covered [] (ByValue e (ByPath path rest)) ty how t u s a fit = absurd fit
    arms covered (these ∷ labels) (ByValue e rest) ty how t u s a fit =
        covers_most types facts 0 _ (omega arith)
        (arm_then (covered && is_last_value rest) (label Next t) (label Arm u) (part_places types facts modes rest (u + width e)) (2 * WA rest)
        (branch e ty how t u (expr e (branch_use types facts modes e) u s.0))
        (last_none covered rest (u + width e))
        (silent (L.Jump (label End t)) tt ~> arms covered labels rest ty how t (u + width e) s.1 a fit))
