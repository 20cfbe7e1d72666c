-- An expression that is constant by the rules gives its value in the meaning, whatever the state.
use Rattle.std.proofs.Common.{◌≡◌, ◌⊎◌, inl, inr, ℕ, Bool, true, false, List, ◌∷◌, Option, Some, None, refl, sym, ap, subst, ◌∙◌}
use Rattle.std.specs.Prelude.{ℤ, pos, not, ◌&&◌, ◌||◌, if◌then◌else◌}
use Rattle.std.proofs.lemmas.Bool.{and_parts}
use Rattle.nim_types.specs.Types as type
use Rattle.nim_types.specs.Types.{Ty, Facts}
use Rattle.nim_types.specs.Forms.{hooked, form_of}
use Rattle.nim_program.specs.declared.expr.Node.{Node}
use Rattle.nim_program.specs.declared.operation.Operation.TheVariants as O
use Rattle.nim_program.specs.declared.operation.Short.{Short}
use Rattle.nim_program.specs.declared.operation.Short.TheVariants.{And, Or}
use Rattle.nim_program.specs.declared.operation.Use.{Use}
use Rattle.nim_program.specs.declared.operation.Use.TheVariants.{Owned, Lent, Looked}
use Rattle.nim_program.specs.Program as P
use Rattle.nim_program.specs.Program.{Literal, Literals, Characters, NoObject, PartsOf, ElementsOf, NoLiteral, ALiteral, Act, Doing, Building, Giving, Calling}
use Rattle.nim_program.specs.Program.{Expr, Apply, Read, Early, Choose, Path, Fresh, Args, NoArg, ByValue, ByPath, type_of, types_in, constant_in}
use Rattle.nim_program.specs.Ints.{is_true}
use Rattle.nim_program.specs.Kinds.{kind_of, plain_kind, is_bool, is_text, is_ref, is_sequence, has_parts, is_of, is_there, is_constant}
use Rattle.nim_program.specs.Kinds.{count_literals}
use Rattle.nim_program.specs.Fitting.{fits, built, is_built, are_distinct, building_fits, early_fits, places_in, are_fields}
use Rattle.nim_program.specs.Scopes.{Here as Scope}
use Rattle.nim_program.specs.Typed.{is_typed, is_typed_path, are_typed, are_placed, act_fits, is_whole, is_fresh}
use Rattle.nim_meaning.specs.Values as V
use Rattle.nim_meaning.specs.Values.{Value, Operand, number, literal_value}
use Rattle.nim_meaning.specs.Ways.{At as Spot}
use Rattle.nim_meaning.specs.ActTree.{Chooses, Does as Done_by}
use Rattle.nim_meaning.specs.Acts.{Does, give, ◌>>=◌}
use Rattle.nim_meaning.specs.Acts as Acts
use Rattle.nim_meaning.specs.Deeds as deeds
use Rattle.nim_meaning.specs.Texts.{are_seen}
use Rattle.nim_meaning.specs.Deeds.{Deed, carry, ◌>>=◌ as then_deed}
use Rattle.nim_meaning.specs.Here.{Here, is_hooked, any_hooked, form_for, gives_hooked}
use Rattle.nim_meaning.specs.OwnedRows.{owned}
use Rattle.nim_meaning.specs.Waiting.{held_from}
use Rattle.nim_meaning.specs.Table.{acts, constant_for, does, operates}
use Rattle.nim_meaning.specs.Runs.{is_plain_type, is_plain_value, is_plain_path, are_plain, writes_literals}
use Rattle.nim_meaning.specs.Meaning.{eval, destination, ready_all, carried, early, at_node, row, taking_up}
use Rattle.nim_meaning.specs.Aims.{settle, Evaluated}
use Rattle.nim_meaning.specs.Places.{made_by}
use Rattle.nim_program.specs.Uses.{use_of}
use Rattle.expr_rules.specs.Constants as C
use Rattle.expr_rules.specs.Constants.{comes_to, traps, varies}
use Rattle.expr_rules.specs.Constants.{if_computed, computing, with_values, act_value, short_of, unless_varies}
use Rattle.expr_rules.specs.Constants.{value_in, values_in, value_at, object_of}
use Rattle.typing_laws.specs.Sound.{AreSound, of_bool}
use Rattle.typing_laws.specs.Given.{AlwaysGives}
use Rattle.typing_laws.proofs.Tests.{never, some_one, none_some}
use Rattle.typing_laws.proofs.SoundKinds.{plain_as}
use Rattle.typing_laws.proofs.Measures.{come_one, one_comes, two_come, bool_by, limited_is}
use Rattle.typing_laws.proofs.Constants as K
use Rattle.typing_laws.proofs.Constants.{Closed, ClosedOne}
use Rattle.typing_laws.proofs.Preserved.{preserved}
use Rattle.typing_laws.proofs.Giving.{given, after, costing, passes, handed_over}
use Rattle.typing_laws.proofs.ConstantRows.{Meant, Come, no_more, by_value, by_path, Done, is_characters, is_number, readies, taken, all_ready, settled}
use Rattle.typing_laws.proofs.ConstantRows.{none_held, none_hooked}
use Rattle.typing_laws.proofs.ConstantRows.{working, doing, building, literal}

-- ---- what is plain

plain_type : (facts : Facts) (ty : Option Ty) → is_plain_type (is_hooked facts) ty ≡ true → gives_hooked facts ty ≡ false
plain_type facts None h = refl
plain_type facts (Some ty) h = not_true (is_hooked facts ty) h
  where
    not_true : (b : Bool) → not b ≡ true → b ≡ false
    not_true false e = refl
    not_true true e = never e

-- `echo` alone has operands that needn't be plain, and gives no constant
silent : (facts : Facts) (ty : Option Ty) (of : List (Option Ty)) (act : Act) (all : C.Evaluated Literals) (l : Literal)
    → act_value facts ty of act all ≡ comes_to l → writes_literals act ≡ false
silent facts ty of (Doing O.Echo) all l e = cc
silent facts ty of (Doing o) all l e = refl
silent facts ty of (Building given) all l e = refl
silent facts ty of (Giving x) all l e = refl
silent facts ty of (Calling proc types) all l e = refl

-- a constant comes to its own value
standing_is : (facts : Facts) (e : Expr) (l k : Literal) → value_in facts e ≡ comes_to l → constant_in e ≡ Some k → k ≡ l
standing_is facts (Apply node ty (Giving (P.Characters bytes)) NoArg) l k c s = sym (some_one s) ∙ (limited_is _ _ c).0
standing_is facts (Apply node ty (Giving (P.Number z)) NoArg) l k c s = sym (some_one s) ∙ come_one c
standing_is facts (Apply node ty (Giving P.NoObject) NoArg) l k c s = sym (some_one s) ∙ come_one c
standing_is facts (Apply node ty (Giving (P.PartsOf all)) NoArg) l k c s = sym (some_one s) ∙ come_one c
standing_is facts (Apply node ty (Giving (P.ElementsOf all)) NoArg) l k c s = sym (some_one s) ∙ come_one c
standing_is facts (Apply node ty (Giving x) (ByValue value rest)) l k c s = none_some s
standing_is facts (Apply node ty (Giving x) (ByPath path rest)) l k c s = none_some s
standing_is facts (Apply node ty (Doing o) operands) l k c s = none_some s
standing_is facts (Apply node ty (Building fields) operands) l k c s = none_some s
standing_is facts (Apply node ty (Calling proc types) operands) l k c s = none_some s
standing_is facts (Read path) l k c s = none_some s
standing_is facts (Early node ty short left right) l k c s = none_some s
standing_is facts (Choose node ty chooser parts) l k c s = none_some s

-- ---- expressions

module _ (run : Here) (around : Scope) (sound : AreSound run.facts) (closed : Closed) (closed_one : ClosedOne) where
  abbrev here : Scope
  here = record around { facts = run.facts }

  abbrev of_run : Facts
  of_run = run.facts

  -- a row carried out, with what becomes of its value
  row_gives : (node : Node) (ty : Option Ty) (act : Act) (operands : Args) (ls : Literals) (l : Literal) (how : Use) → Come run operands ls
      → gives_hooked of_run ty ≡ false
      → AlwaysGives (carried run node.number act how ty operands (taken ls operands)) (literal_value l)
      → AlwaysGives (eval (Apply node ty act operands) how run) (literal_value l)
  row_gives node ty act operands ls l how come u g =
      let held : List ℕ = held_from of_run run.modes operands (use_of run.modes act) 0 in
      let last : List Operand → Does Value =
      (λ xs. at_node node.number Done_by (taking_up run held (carried run node.number act how ty operands xs))) in
      after (ready_all operands (use_of run.modes act) 0 run) (λ ready. settle ready >>= last) (readies ls operands) (literal_value l)
      (all_ready run come (use_of run.modes act) 0)
      (after (settle (readies ls operands)) last (taken ls operands) (literal_value l) (settled run come)
      (passes (Spot node.number Done_by) (taking_up run held (carried run node.number act how ty operands (taken ls operands))) (literal_value l)
      (subst (λ nodes. AlwaysGives (taking_up run nodes (carried run node.number act how ty operands (taken ls operands))) (literal_value l))
      (sym (none_held run come (use_of run.modes act) 0)) g)))

  meant : (node : Node) (ty : Option Ty) (act : Act) (operands : Args) (ls : Literals) (l : Literal) → Come run operands ls → gives_hooked of_run ty ≡ false
      → Done (acts act of_run ty (types_in operands) (taken ls operands)) l
      → ((how : Use) → carried run node.number act how ty operands (taken ls operands)
      ≡ carry (row of_run act (destination run how node.number) ty (types_in operands) (taken ls operands)))
      → Meant run (Apply node ty act operands) l
  meant node ty act operands ls l come u d is = record {
    value = λ how. row_gives node ty act operands ls l how come u
        (subst (λ (does : Does Value). AlwaysGives does (literal_value l)) (sym (is how))
        (handed_over of_run act ty (destination run how node.number) (acts act of_run ty (types_in operands) (taken ls operands)) (literal_value l) u d.gives));
    plain = u;
    no_text = d.no_text;
  }

  applied_meant : (node : Node) (ty : Option Ty) (act : Act) (operands : Args) (l : Literal) → act_fits here ty act operands ≡ true
      → gives_hooked of_run ty ≡ false → ((ls : Literals) → values_in of_run operands ≡ comes_to ls → Come run operands ls)
      → act_value of_run ty (types_in operands) act (values_in of_run operands) ≡ comes_to l → Meant run (Apply node ty act operands) l
  applied_meant node ty (Doing o) operands l f u come e = by_go (values_in of_run operands) refl e
    where
      by_go : (all : C.Evaluated Literals) → values_in of_run operands ≡ all
          → if_computed (computing of_run ty (types_in operands) o) all ≡ comes_to l → Meant run (Apply node ty (Doing o) operands) l
      by_go (comes_to ls) c e =
          let p = and_parts (fits of_run o ty (types_in operands)) _ f in
          meant node ty (Doing o) operands ls l (come ls c) u
          (working 1 (operates o of_run ty (types_in operands) (taken ls operands)) l
          (subst (λ b. Done (deeds.branch b (deeds.looks (λ world. deeds.unless_gone (are_seen world (taken ls operands))
          (owned o of_run ty (types_in operands) (taken ls operands) (does o of_run ty (types_in operands) (taken ls operands)))))
          (does o of_run ty (types_in operands) (taken ls operands))) l)
          (sym (ap (λ b. b || any_hooked of_run (types_in operands)) u ∙ none_hooked run (come ls c)))
          (doing run o ty (types_in operands) l (come ls c) (and_parts (are_placed (places_in o) operands) _ p.1).0 p.0 u e))) (λ how. refl)
      by_go traps c e = no_traps (computing of_run ty (types_in operands) o) e
        where
          no_traps : (go : Option (Literals → C.Evaluated Literal)) → if_computed go traps ≡ comes_to l → Meant run (Apply node ty (Doing o) operands) l
          no_traps None e = cc
          no_traps (Some go) e = cc
      by_go varies c e = no_varies (computing of_run ty (types_in operands) o) e
        where
          no_varies : (go : Option (Literals → C.Evaluated Literal)) → if_computed go varies ≡ comes_to l → Meant run (Apply node ty (Doing o) operands) l
          no_varies None e = cc
          no_varies (Some go) e = cc
  applied_meant node None (Building given) operands l f u come e =
      never (and_parts (building_fits of_run None given (types_in operands)) (are_placed 0 operands) f).0
  applied_meant node (Some t) (Building given) operands l f u come e =
      let p = and_parts (building_fits of_run (Some t) given (types_in operands)) (are_placed 0 operands) f in
      let k = built of_run (kind_of of_run t) in
      let q = and_parts (is_built k) (are_distinct given && are_fields k given (types_in operands)) p.0 in
      let r = one_comes (λ ls. object_of of_run (Some t) (with_values given ls)) (values_in of_run operands) l e in
      meant node (Some t) (Building given) operands r.value l (come r.value r.comes) u
      (building run sound t given l (come r.value r.comes) p.1 q.0
      (and_parts (are_distinct given) (are_fields k given (types_in operands)) q.1).0 u r.is) (λ how. refl)
  applied_meant node ty (Giving x) NoArg l f u come e =
      meant node ty (Giving x) NoArg NoLiteral l no_more u (literal run sound ty x l f u e) (λ how. refl)
  applied_meant node ty (Giving x) (ByValue value rest) l f u come e = never f
  applied_meant node ty (Giving x) (ByPath path rest) l f u come e = never f
  applied_meant node ty (Calling proc types) operands l f u come e = cc

  -- ---- `and` and `or`

  unless : (b : C.Evaluated Literal) (z : ℤ) (l : Literal) → unless_varies b z ≡ comes_to l → P.Number z ≡ l
  unless (comes_to x) z l e = come_one e
  unless traps z l e = come_one e
  unless varies z l e = cc

  -- what the whole comes to behind its left operand
  abbrev Decided : Node → Short → Expr → Expr → Literal → Type 0
  Decided node short a b l =
      AlwaysGives (eval a Owned run >>= (λ x. at_node node.number Chooses (early short (is_true (V.number_of x)) (eval b Owned run)))) (literal_value l)
      × (is_characters l ≡ false)

  decided : (node : Node) (short : Short) (a b : Expr) (x : ℤ) (l : Literal) (c : Bool) → Meant run a (P.Number x) → is_true x ≡ c
      → AlwaysGives (early short c (eval b Owned run)) (literal_value l) → is_characters l ≡ false → Decided node short a b l
  decided node short a b x l c m i g n = (
    after (eval a Owned run) (λ x. at_node node.number Chooses (early short (is_true (V.number_of x)) (eval b Owned run))) (V.Number x) (literal_value l)
        (m.value Owned)
        (passes (Spot node.number Chooses) (early short (is_true x) (eval b Owned run)) (literal_value l)
        (subst (λ c. AlwaysGives (early short c (eval b Owned run)) (literal_value l)) (sym i) g)),
    n,
  )

  at_once : (node : Node) (short : Short) (a b : Expr) (x : ℤ) (l : Literal) (c : Bool) (z : ℤ) → Meant run a (P.Number x) → is_true x ≡ c
      → AlwaysGives (early short c (eval b Owned run)) (V.Number z) → P.Number z ≡ l → Decided node short a b l
  at_once node short a b x l c z m i g is = subst (λ l. Decided node short a b l) is (decided node short a b x (P.Number z) c m i g refl)

  short_meant : (node : Node) (short : Short) (a b : Expr) (va vb : C.Evaluated Literal) (l : Literal)
      → ((l : Literal) → va ≡ comes_to l → is_number l ≡ true) → ((l : Literal) → va ≡ comes_to l → Meant run a l)
      → ((l : Literal) → vb ≡ comes_to l → Meant run b l) → short_of short va vb ≡ comes_to l → Decided node short a b l
  short_meant node And a b (comes_to (P.Number x)) vb l num f g e = by_test (is_true x) refl e
    where
      by_test : (c : Bool) → is_true x ≡ c → (if c then vb else unless_varies vb (pos 0)) ≡ comes_to l → Decided node And a b l
      by_test true i e = let m = g l e in decided node And a b x l true (f (P.Number x) refl) i (m.value Owned) m.no_text
      by_test false i e = at_once node And a b x l false (pos 0) (f (P.Number x) refl) i (given (V.Number (pos 0))) (unless vb (pos 0) l e)
  short_meant node Or a b (comes_to (P.Number x)) vb l num f g e = by_test (is_true x) refl e
    where
      by_test : (c : Bool) → is_true x ≡ c → (if c then unless_varies vb (pos 1) else vb) ≡ comes_to l → Decided node Or a b l
      by_test true i e = at_once node Or a b x l true (pos 1) (f (P.Number x) refl) i (given (V.Number (pos 1))) (unless vb (pos 1) l e)
      by_test false i e = let m = g l e in decided node Or a b x l false (f (P.Number x) refl) i (m.value Owned) m.no_text
  short_meant node short a b (comes_to (Characters x)) vb l num f g e = never (num (Characters x) refl)
  short_meant node short a b (comes_to NoObject) vb l num f g e = never (num NoObject refl)
  short_meant node short a b (comes_to (PartsOf x)) vb l num f g e = never (num (PartsOf x) refl)
  short_meant node short a b (comes_to (ElementsOf x)) vb l num f g e = never (num (ElementsOf x) refl)
  short_meant node And a b traps (comes_to y) l num f g e = cc
  short_meant node And a b traps traps l num f g e = cc
  short_meant node And a b traps varies l num f g e = cc
  short_meant node And a b varies (comes_to y) l num f g e = cc
  short_meant node And a b varies traps l num f g e = cc
  short_meant node And a b varies varies l num f g e = cc
  short_meant node Or a b traps (comes_to y) l num f g e = cc
  short_meant node Or a b traps traps l num f g e = cc
  short_meant node Or a b traps varies l num f g e = cc
  short_meant node Or a b varies (comes_to y) l num f g e = cc
  short_meant node Or a b varies traps l num f g e = cc
  short_meant node Or a b varies varies l num f g e = cc

  -- a constant bool is a number
  bool_number : (l : Literal) → is_constant of_run type.bool l ≡ true → is_number l ≡ true
  bool_number (P.Number z) c = refl
  bool_number (Characters text) c = never (subst (λ k. is_text k ≡ true) (plain_as sound of_bool refl) c)
  bool_number NoObject c = never (subst (λ k. is_ref k ≡ true) (plain_as sound of_bool refl) c)
  bool_number (PartsOf all) c =
      never (subst (λ k. has_parts k (count_literals all) ≡ true) (plain_as sound of_bool refl)
      (and_parts (has_parts (plain_kind of_run type.bool) (count_literals all)) _ c).0)
  bool_number (ElementsOf all) c =
      never (subst (λ k. is_sequence k ≡ true) (plain_as sound of_bool refl)
      (and_parts (is_sequence (plain_kind of_run type.bool)) _ (and_parts _ _ c).0).0)

  -- ---- the whole

  mutual
    value_meant : (e : Expr) (l : Literal) → is_typed here e ≡ true → is_plain_value (is_hooked of_run) e ≡ true → value_in of_run e ≡ comes_to l →
        Meant run e l
    value_meant (P.Apply node ty act operands) l h n c =
        let p = and_parts (act_fits here ty act operands) (are_typed here operands) h in
        let q = and_parts (is_plain_type (is_hooked of_run) ty) (are_plain (is_hooked of_run) (writes_literals act) operands) n in
        let w = subst (λ written. are_plain (is_hooked of_run) written operands ≡ true)
        (silent of_run ty (types_in operands) act (values_in of_run operands) l c) q.1 in
        applied_meant node ty act operands l p.0 (plain_type of_run ty q.0) (λ ls v. values_meant operands ls p.1 w v) c
    value_meant (P.Read path) l h n c = cc
    value_meant (P.Early node ty short a b) l h n c =
        let p = and_parts (early_fits of_run ty (type_of a) (type_of b)) (is_typed here a && is_typed here b) h in
        let q = and_parts (is_bool (kind_of of_run ty)) (is_of (type_of a) (Some ty) && is_of (type_of b) (Some ty)) p.0 in
        let r = and_parts (is_of (type_of a) (Some ty)) (is_of (type_of b) (Some ty)) q.1 in
        let u = and_parts (is_typed here a) (is_typed here b) p.1 in
        let o = and_parts (is_plain_value (is_hooked of_run) a) (is_plain_value (is_hooked of_run) b)
        (and_parts (not (is_hooked of_run ty)) _ n).1 in
        let is : ty ≡ type.bool = bool_by of_run sound ty q.0 in
        let at : type_of a ≡ Some type.bool = K.of_type of_run sound closed closed_one (type_of a) ty r.0 ∙ ap (λ t. Some t) is in
        let d = short_meant node short a b (value_in of_run a) (value_in of_run b) l
        (λ l v. bool_number l (preserved here sound closed closed_one a type.bool l of_bool u.0 at v))
        (λ l v. value_meant a l u.0 o.0 v) (λ l v. value_meant b l u.1 o.1 v) c in
        record {
          value = λ how. costing 1 (eval a Owned run >>= (λ x. at_node node.number Chooses (early short (is_true (V.number_of x)) (eval b Owned run))))
              (literal_value l) d.0;
          plain = ap (λ t. hooked (form_of of_run t)) is;
          no_text = d.1;
        }
    value_meant (P.Choose node ty chooser parts) l h n c = cc

    values_meant : (operands : Args) (ls : Literals) → are_typed here operands ≡ true → are_plain (is_hooked of_run) false operands ≡ true
        → values_in of_run operands ≡ comes_to ls → Come run operands ls
    values_meant NoArg ls h n c = subst (λ ls. Come run NoArg ls) (come_one c) no_more
    values_meant (ByValue e rest) ls h n c =
        let p = and_parts (is_typed here e) (are_typed here rest) h in
        let o = and_parts (is_plain_value (is_hooked of_run) e) (are_plain (is_hooked of_run) false rest) n in
        let q = two_come (λ l all. comes_to (ALiteral l all)) (value_in of_run e) (values_in of_run rest) ls c in
        subst (λ ls. Come run (ByValue e rest) ls) (come_one q.is)
        (by_value e q.left (value_meant e q.left p.0 o.0 q.left_comes) (values_meant rest q.right p.1 o.1 q.right_comes))
    values_meant (ByPath path rest) ls h n c =
        let p = and_parts (is_whole of_run path && is_typed_path here path) (are_typed here rest) h in
        let o = and_parts (is_plain_path (is_hooked of_run) path) (are_plain (is_hooked of_run) false rest) n in
        let q = two_come (λ l all. comes_to (ALiteral l all)) (value_at of_run path) (values_in of_run rest) ls c in
        subst (λ ls. Come run (ByPath path rest) ls) (come_one q.is)
        (path_meant path rest q.left q.right (and_parts (is_whole of_run path) (is_typed_path here path) p.0).1 o.0 q.left_comes
        (values_meant rest q.right p.1 o.1 q.right_comes))

    path_meant : (path : Path) (rest : Args) (l : Literal) (ls : Literals) → is_typed_path here path ≡ true → is_plain_path (is_hooked of_run) path ≡ true
        → value_at of_run path ≡ comes_to l → Come run rest ls → Come run (ByPath path rest) (ALiteral l ls)
    path_meant (P.Variable node ty place global) rest l ls h n c more = cc
    path_meant (P.Fresh e) rest l ls h n c more =
        by_path e l (record {
          meant = value_meant e l (and_parts (is_fresh e && is_there (type_of e)) (is_typed here e) h).1 n c;
          standing = λ k s. standing_is of_run e l k c s;
        }) more
    path_meant (P.Field node ty base field) rest l ls h n c more = cc
    path_meant (P.Element node ty base index constant) rest l ls h n c more = cc
    path_meant (P.Deref ty base) rest l ls h n c more = cc

-- where the meaning and the rules know the same of types
pub constant_given : (closed : Closed) (closed_one : ClosedOne) (around : Scope) (run : Here) → run.facts ≡ around.facts → AreSound around.facts → (e : Expr)
    (l : Literal) → is_typed around e ≡ true → is_plain_value (is_hooked around.facts) e ≡ true → value_in around.facts e ≡ comes_to l → (how : Use)
    → AlwaysGives (eval e how run) (literal_value l)
constant_given closed closed_one around run same sound e l h n c how =
    (value_meant run around (subst AreSound (sym same) sound) closed closed_one e l
    (subst (λ f. is_typed (record around { facts = f }) e ≡ true) (sym same) h)
    (subst (λ f. is_plain_value (is_hooked f) e ≡ true) (sym same) n)
    (subst (λ f. value_in f e ≡ comes_to l) (sym same) c)).value how

-- a text that is only read, whether its type has hooks or not
text_row : (run : Here) (node : ℕ) (ty : Option Ty) (text : List ℕ) (how : Use)
    → ((hooked : Bool) → made_by hooked (destination run how node) (V.Fixed text) ≡ deeds.give (V.Fixed text)) → (hooked : Bool)
    → AlwaysGives (carry (then_deed (deeds.costs 1 (constant_for hooked (form_for run.facts ty) 0 (V.Fixed text)))
    (made_by hooked (destination run how node)))) (V.Fixed text)
text_row run node ty text how read true =
    subst (λ (d : Deed Value). AlwaysGives (carry (deeds.costs 1 d)) (V.Fixed text)) (sym (read true))
    (costing 1 (give (V.Fixed text)) (V.Fixed text) (given (V.Fixed text)))
text_row run node ty text how read false =
    costing 1 (Acts.costs 0 (give (V.Fixed text))) (V.Fixed text) (costing 0 (give (V.Fixed text)) (V.Fixed text) (given (V.Fixed text)))

text_read : (run : Here) (node : Node) (ty : Option Ty) (text : List ℕ) (how : Use)
    → ((hooked : Bool) → made_by hooked (destination run how node.number) (V.Fixed text) ≡ deeds.give (V.Fixed text))
    → AlwaysGives (eval (Apply node ty (Giving (Characters text)) NoArg) how run) (V.Fixed text)
text_read run node ty text how read s =
    text_row run node.number ty text how read (gives_hooked run.facts ty) (Acts.with_trail (Spot node.number Done_by ∷ s.trail) s)

lent_read : (run : Here) (node : ℕ) (text : List ℕ) (hooked : Bool) → made_by hooked (destination run Lent node) (V.Fixed text) ≡ deeds.give (V.Fixed text)
lent_read run node text true = refl
lent_read run node text false = refl

looked_read : (run : Here) (node : ℕ) (text : List ℕ) (hooked : Bool)
    → made_by hooked (destination run Looked node) (V.Fixed text) ≡ deeds.give (V.Fixed text)
looked_read run node text true = refl
looked_read run node text false = refl

pub text_given : (run : Here) (node : Node) (ty : Option Ty) (text : List ℕ) (how : Use) → (how ≡ Lent) ⊎ (how ≡ Looked)
    → AlwaysGives (eval (Apply node ty (Giving (Characters text)) NoArg) how run) (V.Fixed text)
text_given run node ty text how (inl e) =
    subst (λ how. AlwaysGives (eval (Apply node ty (Giving (Characters text)) NoArg) how run) (V.Fixed text)) (sym e)
    (text_read run node ty text Lent (lent_read run node.number text))
text_given run node ty text how (inr e) =
    subst (λ how. AlwaysGives (eval (Apply node ty (Giving (Characters text)) NoArg) how run) (V.Fixed text)) (sym e)
    (text_read run node ty text Looked (looked_read run node.number text))
