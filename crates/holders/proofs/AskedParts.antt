-- What is asked of expressions and statements holds where a typed program is built whole, and lends as it may.
use Rattle.std.proofs.Common.{◌≡◌, refl, sym, ap, subst, ℕ, Bool, true, false, List, [], ◌∷◌, ◌++◌, Option}
use Rattle.std.specs.Prelude.{◌&&◌, ◌||◌, not, nat_lt, Some, None}
use Rattle.std.proofs.lemmas.Bool.{false≢true, and_parts}
use Rattle.nim_types.specs.Types.{Ty, Facts, same}
use Rattle.nim_types.specs.Forms.{Form, Forms, plain, reference, block, elements, row, parts, resource, wrapped, no_forms, forms, HasForm}
use Rattle.nim_types.proofs.ForCallers.{the_form, same_sound}
use Rattle.nim_program.specs.declared.expr.Node.{Node}
use Rattle.nim_program.specs.declared.operation.Operation.{Operation}
use Rattle.nim_program.specs.declared.operation.Operation.TheVariants as O
use Rattle.nim_program.specs.Program.{Act, Doing, Building, Giving, Calling, Expr, Apply, Read, Early, Choose, Path, Variable, Fresh, Field, Element, Deref}
use Rattle.nim_program.specs.Program.{Args, NoArg, ByValue, ByPath, type_of, type_at, types_in, node_at}
use Rattle.nim_program.specs.Folds.{lists, total, total_at, totals}
use Rattle.nim_program.specs.Kinds.{kind_of, kind_if, is_bool, is_of, is_int, is_there, is_among_types, are_among_types, are_declared, is_declared_as}
use Rattle.nim_program.specs.Kinds.{field_at, element_of}
use Rattle.nim_program.specs.Fitting.{early_fits, chooser_fits}
use Rattle.nim_program.specs.Scopes as scopes
use Rattle.nim_program.specs.Typed.{own_types, type_if, act_types, act_fits, is_typed, is_typed_path, are_typed, is_read, is_whole, is_fresh, choice_is_placed}
use Rattle.nim_program.proofs.ForCallers.{in_fresh}
use Rattle.nim_meaning.specs.LeftOut.{out_if, earlier, ◌or_then◌, is_act_built, is_built, first_unbuilt, left_out_in, left_out_in_path}
use Rattle.nim_meaning.specs.LeftOut.{left_out_in_args, is_exception_type}
use Rattle.nim_meaning.specs.Unbuilt.{has_unbuilt, has_unbuilt_any, is_unbuilt, gives_unbuilt}
use Rattle.decl_rules.specs.Occurrences.{Occurrence, in_expr, in_path, in_args, calls_if, callee, hands_by}
use Rattle.lending_laws.specs.Apart.{ActLends, ExprLends, PathLends, ArgsLend}
use Rattle.holders.specs.Owned.{HasBlocksAlone, HaveBlocksAlone}
use Rattle.holders.specs.Asked.{Limits, Simple, IfSimple, ActAsked, Asked, AskedAt, AllAsked}
use Rattle.holders.specs.Procedures.{SiteSo}
use Rattle.holders.proofs.FormKinds.{same_type, held_of}
use Rattle.holders.proofs.Claims.{asked_at}
use Rattle.holders.proofs.SitesAsked.{AllOccur, occur_first, occur_second, no_refs, DoingMay, doing_may, calling_may, site_so}

-- ---- what isn't left out

pub or_false : (a b : Bool) → (a || b) ≡ false → (a ≡ false) × (b ≡ false)
or_false true b e = absurd (false≢true (sym e))
or_false false b e = (refl, e)

not_false : (a : Bool) → not a ≡ false → a ≡ true
not_false true e = refl
not_false false e = absurd (false≢true (sym e))

abbrev is_some_node : Option Node → Bool
is_some_node None = false
is_some_node (Some n) = true

pub some_node : {A : Type 0} (n : Node) → Some n ≡ None → A
some_node n e = absurd (false≢true (sym (ap is_some_node e)))

pub neither : (a b : Option Node) → (a or_then b) ≡ None → (a ≡ None) × (b ≡ None)
neither None b e = (refl, e)
neither (Some n) b e = some_node n e

pub stays_in : (c : Bool) (n : Node) → out_if c n ≡ None → c ≡ false
stays_in true n e = some_node n e
stays_in false n e = refl

pub none_earlier : (a b : Option Node) → earlier a b ≡ None → (a ≡ None) × (b ≡ None)
none_earlier None b e = (refl, e)
none_earlier (Some n) None e = some_node n e
none_earlier (Some n) (Some m) e = some_node m (neither (out_if (nat_lt n.number m.number) n) (Some m) e).1

-- ---- types

abbrev pub AllAmong : List Ty → List Ty → Type 0
AllAmong types [] = Unit {0}
AllAmong types (t ∷ ts) = (is_among_types types t ≡ true) × AllAmong types ts

pub all_among : (types ts : List Ty) → are_among_types types ts ≡ true → AllAmong types ts
all_among types [] e = tt
all_among types (t ∷ ts) e = let q = and_parts (is_among_types types t) (are_among_types types ts) e in (q.0, all_among types ts q.1)

module _ (types : List Ty) where
  pub among_first : (xs ys : List Ty) → AllAmong types (xs ++ ys) → AllAmong types xs
  among_first [] ys h = tt
  among_first (x ∷ xs) ys h = (h.0, among_first xs ys h.1)

  pub among_second : (xs ys : List Ty) → AllAmong types (xs ++ ys) → AllAmong types ys
  among_second [] ys h = h
  among_second (x ∷ xs) ys h = among_second xs ys h.1

  with_nothing : (xs : List Ty) → AllAmong types xs → AllAmong types (xs ++ [])
  with_nothing [] h = tt
  with_nothing (x ∷ xs) h = (h.0, with_nothing xs h.1)

  -- what a value that a path begins with has
  pub among_fresh : (read : Bool) (value : Expr) → AllAmong types (total_at lists own_types read (Fresh value)) → AllAmong types (total lists own_types value)
  among_fresh read value h =
      in_fresh own_types (λ node ty read literal. refl) (AllAmong types) (λ xs ys k. among_second xs ys k) (λ xs k. with_nothing xs k) read value h

mutual
  blocks_alone : (f : Form) → has_unbuilt f ≡ false → HasBlocksAlone f
  blocks_alone plain e = tt
  blocks_alone reference e = absurd (false≢true (sym e))
  blocks_alone block e = tt
  blocks_alone (elements f) e = blocks_alone f e
  blocks_alone (row n f) e = blocks_alone f e
  blocks_alone (parts fs) e = all_blocks_alone fs e
  blocks_alone (resource fs) e = absurd (false≢true (sym e))
  blocks_alone (wrapped f) e = blocks_alone f e

  all_blocks_alone : (fs : Forms) → has_unbuilt_any fs ≡ false → HaveBlocksAlone fs
  all_blocks_alone no_forms e = tt
  all_blocks_alone (forms f fs) e =
      let q = or_false (has_unbuilt f) (has_unbuilt_any fs) e in (blocks_alone f q.0, all_blocks_alone fs q.1)

declared_there : (facts : Facts) (types : List Ty) → are_declared facts types ≡ true → (ty : Ty) → is_among_types types ty ≡ true →
    is_declared_as ty (kind_of facts ty) ≡ true
declared_there facts [] d ty e = absurd (false≢true e)
declared_there facts (t ∷ ts) d ty e =
    let q = and_parts (is_declared_as t (kind_of facts t)) (are_declared facts ts) d in
    by (same ty t) refl e q.0 (λ g. declared_there facts ts q.1 ty g)
  where
    by : (b : Bool) → same ty t ≡ b → b || is_among_types ts ty ≡ true → is_declared_as t (kind_of facts t) ≡ true →
        (is_among_types ts ty ≡ true → is_declared_as ty (kind_of facts ty) ≡ true) → is_declared_as ty (kind_of facts ty) ≡ true
    by true s e one rest = subst (λ u. is_declared_as u (kind_of facts u) ≡ true) (sym (same_sound ty t s)) one
    by false s e one rest = rest e

-- ---- expressions

module _ (types : List Ty) (facts : Facts) (has_forms : (ty : Ty) → is_among_types types ty ≡ true → (f : Form) × HasForm facts ty f)
    (declared : are_declared facts types ≡ true) (named : (proc g : ℕ) → Bool) where
  pub simple_type : (ty : Ty) → is_among_types types ty ≡ true → is_unbuilt facts ty ≡ false → Simple facts ty
  simple_type ty among e =
      let h = has_forms ty among in
      record {
        form = h.0;
        has = h.1;
        blocks = blocks_alone h.0 (subst (λ f. has_unbuilt f ≡ false) (the_form h.1) e);
        declared = declared_there facts types declared ty among;
      }

  simple_if : (ty : Option Ty) (rest : List Ty) → AllAmong types (type_if ty ++ rest) → gives_unbuilt facts ty ≡ false → IfSimple facts ty
  simple_if None rest among e = tt
  simple_if (Some ty) rest among e = simple_type ty among.0 e

  abbrev pub OfCall : Limits → ℕ → Args → Type 0
  OfCall limits proc operands = SiteSo named (limits.seen true) proc operands

  module _ (scope : scopes.Here) (facts_are : scope.facts ≡ facts) (no_dest : scope.dest ≡ None) (limits : Limits)
      (own_seen : (n : ℕ) → limits.seen false n ≡ true) where
    abbrev Asks : Expr → Type 0
    Asks e = Asked facts limits (OfCall limits) e

    abbrev Occur : List Occurrence → Type 0
    Occur os = AllOccur named (limits.seen true) os

    -- ---- of what is built, the value is built

    mutual
      pub built : (e : Expr) → is_typed scope e ≡ true → left_out_in facts e ≡ None → gives_unbuilt facts (type_of e) ≡ false
      built (Apply node ty act operands) typed out =
          (or_false (gives_unbuilt facts ty) (not (is_act_built act facts ty operands))
          (stays_in (gives_unbuilt facts ty || not (is_act_built act facts ty operands)) node
          (neither (out_if (gives_unbuilt facts ty || not (is_act_built act facts ty operands)) node) (left_out_in_args facts operands) out).0)).0
      built (Read path) typed out = built_path path (and_parts (is_read scope.facts path) (is_typed_path scope path) typed).1 out
      built (Early node ty short left right) typed out =
          let t = and_parts (early_fits scope.facts ty (type_of left) (type_of right)) (is_typed scope left && is_typed scope right) typed in
          let b = and_parts (is_bool (kind_of scope.facts ty)) (is_of (type_of left) (Some ty) && is_of (type_of right) (Some ty)) t.0 in
          let o = neither (left_out_in facts left) (left_out_in facts right) out in
          let l = and_parts (is_typed scope left) (is_typed scope right) t.1 in
          subst (λ u. gives_unbuilt facts u ≡ false)
          (same_type {a = type_of left} {b = Some ty} (and_parts (is_of (type_of left) (Some ty)) (is_of (type_of right) (Some ty)) b.1).0) (built left l.0 o.0)
      built (Choose node ty chooser choices) typed out =
          (or_false (gives_unbuilt facts ty) (first_unbuilt facts (types_in choices))
          (stays_in (gives_unbuilt facts ty || first_unbuilt facts (types_in choices)) node
          (neither (out_if (gives_unbuilt facts ty || first_unbuilt facts (types_in choices)) node) (left_out_in_args facts choices) out).0)).0

      built_path : (path : Path) → is_typed_path scope path ≡ true → left_out_in_path facts path ≡ None → gives_unbuilt facts (type_at path) ≡ false
      built_path (Variable node ty place global) typed out = stays_in (is_unbuilt facts ty) node out
      built_path (Fresh value) typed out =
          built value (and_parts (is_fresh value && is_there (type_of value)) (is_typed scope value) typed).1 out
      built_path (Field node ty base field) typed out =
          (or_false (is_unbuilt facts ty) (is_exception_type (type_at base)) (stays_in (is_unbuilt facts ty || is_exception_type (type_at base)) node
          (neither (out_if (is_unbuilt facts ty || is_exception_type (type_at base)) node) (left_out_in_path facts base) out).0)).0
      built_path (Element node ty base index constant) typed out =
          stays_in (is_unbuilt facts ty) node
          (neither (out_if (is_unbuilt facts ty) node) (left_out_in_path facts base or_then left_out_in facts index) out).0
      built_path (Deref ty base) typed out = some_node (node_at base) out

    -- ---- acts

    doing_asked : (operation : Operation) (of : List (Option Ty)) (operands : Args) → is_built operation facts of ≡ true → DoingMay limits operation operands →
        ActAsked facts limits (OfCall limits) (Doing operation) operands
    doing_asked (O.Measure measure) of operands e may = tt
    doing_asked O.ReadLine of operands e may = absurd (false≢true e)
    doing_asked _ of operands e may = may

    no_types : (proc : ℕ) (ts : List Ty) (ty : Option Ty) (operands : Args) → is_act_built (Calling proc ts) facts ty operands ≡ true → ts ≡ []
    no_types proc [] ty operands e = refl
    no_types proc (t ∷ ts) ty operands e = absurd (false≢true e)

    act_asked : (ty : Option Ty) (act : Act) (operands : Args) → act_fits scope ty act operands ≡ true → are_typed scope operands ≡ true →
        is_act_built act facts ty operands ≡ true → ActLends limits.kept act operands →
        Occur (calls_if (callee act) ++ in_args (callee act) operands) → AllAsked facts limits (OfCall limits) operands →
        ActAsked facts limits (OfCall limits) act operands
    act_asked ty (Doing operation) operands fits typed is_built lends occur asked =
        doing_asked operation (types_in operands) operands is_built
        (doing_may scope limits no_dest operation ty operands fits (no_refs scope limits (OfCall limits) operands typed (at_scope operands asked)) lends.1)
      where
        at_scope : (args : Args) → AllAsked facts limits (OfCall limits) args → AllAsked scope.facts limits (OfCall limits) args
        at_scope args a = subst (λ fs. AllAsked fs limits (OfCall limits) args) (sym facts_are) a
    act_asked ty (Building fields) operands fits typed is_built lends occur asked = tt
    act_asked ty (Giving literal) operands fits typed is_built lends occur asked = tt
    act_asked ty (Calling proc ts) operands fits typed is_built lends occur asked =
        let refs = no_refs scope limits (OfCall limits) operands typed (subst (λ fs. AllAsked fs limits (OfCall limits) operands) (sym facts_are) asked) in (
          no_types proc ts ty operands is_built,
          (calling_may scope limits proc ts ty operands fits refs lends.1, site_so named (limits.seen true) proc operands refs lends.0 occur),
        )

    -- ---- the induction

    mutual
      pub expr_asked : (e : Expr) → is_typed scope e ≡ true → left_out_in facts e ≡ None → AllAmong types (total lists own_types e) →
          ExprLends limits.kept e → Occur (in_expr e) → Asks e
      expr_asked (Apply node ty act operands) typed out among lends occur =
          let t = and_parts (act_fits scope ty act operands) (are_typed scope operands) typed in
          let o = neither (out_if (gives_unbuilt facts ty || not (is_act_built act facts ty operands)) node) (left_out_in_args facts operands) out in
          let b = or_false (gives_unbuilt facts ty) (not (is_act_built act facts ty operands))
          (stays_in (gives_unbuilt facts ty || not (is_act_built act facts ty operands)) node o.0) in
          let own = among_first types (type_if ty ++ act_types act) (totals lists own_types operands) among in
          let asked = args_asked (callee act) operands t.1 o.1 (among_second types (type_if ty ++ act_types act) (totals lists own_types operands) among)
          lends.1 (occur_second named (limits.seen true) (calls_if (callee act)) (in_args (callee act) operands) occur) in (
            simple_if ty (act_types act) own b.0,
            (
              act_asked ty act operands t.0 t.1 (not_false (is_act_built act facts ty operands) b.1) lends.0 occur asked,
              asked,
            ),
          )
      expr_asked (Read path) typed out among lends occur =
          path_asked true path (and_parts (is_read scope.facts path) (is_typed_path scope path) typed).1 out among lends occur
      expr_asked (Early node ty short left right) typed out among lends occur =
          let t = and_parts (early_fits scope.facts ty (type_of left) (type_of right)) (is_typed scope left && is_typed scope right) typed in
          let l = and_parts (is_typed scope left) (is_typed scope right) t.1 in
          let o = neither (left_out_in facts left) (left_out_in facts right) out in (
            simple_type ty among.0 (built (Early node ty short left right) typed out),
            (
              expr_asked left l.0 o.0 (among_first types (total lists own_types left) (total lists own_types right) among.1) lends.0
                  (occur_first named (limits.seen true) (in_expr left) (in_expr right) occur),
              expr_asked right l.1 o.1 (among_second types (total lists own_types left) (total lists own_types right) among.1) lends.1
                  (occur_second named (limits.seen true) (in_expr left) (in_expr right) occur),
            ),
          )
      expr_asked (Choose node ty chooser choices) typed out among lends occur =
          let t = and_parts (chooser_fits scope.facts ty chooser (types_in choices) && choice_is_placed chooser choices) (are_typed scope choices) typed in
          let o = neither (out_if (gives_unbuilt facts ty || first_unbuilt facts (types_in choices)) node) (left_out_in_args facts choices) out in (
            simple_if ty [] (among_first types (type_if ty ++ []) (totals lists own_types choices) among) (built (Choose node ty chooser choices) typed out),
            args_asked None choices t.1 o.1 (among_second types (type_if ty ++ []) (totals lists own_types choices) among) lends occur,
          )

      pub path_asked : (read : Bool) (path : Path) → is_typed_path scope path ≡ true → left_out_in_path facts path ≡ None →
          AllAmong types (total_at lists own_types read path) → PathLends limits.kept path → Occur (in_path path) →
          AskedAt facts limits (OfCall limits) path
      path_asked read (Variable node ty place true) typed out among lends occur =
          (simple_type ty among.0 (stays_in (is_unbuilt facts ty) node out), occur.0)
      path_asked read (Variable node ty place false) typed out among lends occur =
          (simple_type ty among.0 (stays_in (is_unbuilt facts ty) node out), own_seen place)
      path_asked read (Fresh value) typed out among lends occur =
          expr_asked value (and_parts (is_fresh value && is_there (type_of value)) (is_typed scope value) typed).1 out
          (among_fresh types read value among) lends occur
      path_asked read (Field node ty base field) typed out among lends occur =
          let o = neither (out_if (is_unbuilt facts ty || is_exception_type (type_at base)) node) (left_out_in_path facts base) out in
          let b = or_false (is_unbuilt facts ty) (is_exception_type (type_at base))
          (stays_in (is_unbuilt facts ty || is_exception_type (type_at base)) node o.0) in
          let asked = path_asked false base
          (and_parts (is_of (field_at (kind_if scope.facts (type_at base)) field) (Some ty)) (is_typed_path scope base) typed).1 o.1 among.1 lends.1 occur
          in (
            simple_type ty among.0 b.0,
            (held_of facts (type_at base) (asked_at facts limits (OfCall limits) base asked) lends.0, asked),
          )
      path_asked read (Element node ty base index constant) typed out among lends occur =
          let q = and_parts (is_typed_path scope base) (is_typed scope index)
          (and_parts (is_of (element_of (kind_if scope.facts (type_at base))) (Some ty) && is_int (kind_if scope.facts (type_of index)))
          (is_typed_path scope base && is_typed scope index) typed).1 in
          let o = neither (out_if (is_unbuilt facts ty) node) (left_out_in_path facts base or_then left_out_in facts index) out in
          let u = neither (left_out_in_path facts base) (left_out_in facts index) o.1 in (
            simple_type ty among.0 (stays_in (is_unbuilt facts ty) node o.0),
            (
              path_asked false base q.0 u.0 (among_first types (total_at lists own_types false base) (total lists own_types index) among.1) lends.0
                  (occur_first named (limits.seen true) (in_path base) (in_expr index) occur),
              expr_asked index q.1 u.1 (among_second types (total_at lists own_types false base) (total lists own_types index) among.1) lends.1
                  (occur_second named (limits.seen true) (in_path base) (in_expr index) occur),
            ),
          )
      path_asked read (Deref ty base) typed out among lends occur = some_node (node_at base) out

      pub args_asked : (by : Option ℕ) (args : Args) → are_typed scope args ≡ true → left_out_in_args facts args ≡ None →
          AllAmong types (totals lists own_types args) → ArgsLend limits.kept args → Occur (in_args by args) →
          AllAsked facts limits (OfCall limits) args
      args_asked by NoArg typed out among lends occur = tt
      args_asked by (ByValue value rest) typed out among lends occur =
          let t = and_parts (is_typed scope value) (are_typed scope rest) typed in
          let o = neither (left_out_in facts value) (left_out_in_args facts rest) out in (
            expr_asked value t.0 o.0 (among_first types (total lists own_types value) (totals lists own_types rest) among) lends.0
                (occur_first named (limits.seen true) (in_expr value) (in_args by rest) occur),
            args_asked by rest t.1 o.1 (among_second types (total lists own_types value) (totals lists own_types rest) among) lends.1
                (occur_second named (limits.seen true) (in_expr value) (in_args by rest) occur),
          )
      args_asked by (ByPath path rest) typed out among lends occur =
          let t = and_parts (is_whole scope.facts path && is_typed_path scope path) (are_typed scope rest) typed in
          let o = neither (left_out_in_path facts path) (left_out_in_args facts rest) out in
          let behind = occur_second named (limits.seen true) (in_path path) (hands_by by path ++ in_args by rest) occur in (
            path_asked false path (and_parts (is_whole scope.facts path) (is_typed_path scope path) t.0).1 o.0
                (among_first types (total_at lists own_types false path) (totals lists own_types rest) among) lends.0
                (occur_first named (limits.seen true) (in_path path) (hands_by by path ++ in_args by rest) occur),
            args_asked by rest t.1 o.1 (among_second types (total_at lists own_types false path) (totals lists own_types rest) among) lends.1
                (occur_second named (limits.seen true) (hands_by by path) (in_args by rest) behind),
          )
