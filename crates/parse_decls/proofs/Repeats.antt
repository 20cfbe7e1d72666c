-- Loops that read one thing after another.
use Rattle.std.proofs.Common.{◌≡◌, ℕ, suc, ◌++◌, ◌≤◌, List, [], ◌∷◌, length, Bool, true, false, refl, sym, ap, subst, ◌∙◌, arith}
use Rattle.std.specs.Prelude.{if◌then◌else◌, ◌||◌, map}
use Rattle.arc_base.specs.declared.place.Stop.{Stop}
use Rattle.indent_scanner.specs.declared.token.Token.{Token}
use Rattle.nim_tree.specs.declared.name.Name.{Name}
use Rattle.nim_tree.specs.declared.name.Declared.{Declared}
use Rattle.nim_tree.specs.declared.name.Pragma.{Pragma}
use Rattle.nim_tree.specs.declared.types.Field.{Field}
use Rattle.nim_tree.specs.declared.types.TypeTree.{TypeTree}
use Rattle.nim_tree.specs.Types.{Written, Arguments, argument, and_argument, arguments_of, Fields, fields, and_field, fields_of, written_of, Declaration}
use Rattle.nim_tree.specs.Statements.{Definition, Parameters}
use Rattle.parse_exprs.specs.declared.input.Bracket.TheVariants.{Round}
use Rattle.parse_exprs.specs.declared.input.Input.{Input}
use Rattle.parse_exprs.specs.declared.layout.Layout.{Layout}
use Rattle.parse_exprs.specs.declared.layout.Layout.TheVariants.{Brackets, Lines}
use Rattle.parse_exprs.specs.Look.{Origin, comma_at, name_on, kind_at, closes_at}
use Rattle.parse_exprs.specs.Input.{origin_of, from_at}
use Rattle.parse_decls.specs.Look.{behind, is_pragma_close, stands_at, separator_at, member_at, more_members_at, past_comma}
use Rattle.parse_decls.specs.Outcome.{Out, got, bad, then_do, unless_stuck, Settles}
use Rattle.parse_decls.specs.Run.{run_name, run_more_names, run_shown, run_more_declared, run_pragma, run_more_pragmas, run_type, run_arguments, Typed}
use Rattle.parse_decls.specs.Run.{run_part, run_parts, run_defined, run_defs, run_field, run_fields, run_declaration, run_declarations, run_param}
use Rattle.parse_decls.specs.Run.{run_more_params, run_more_members}
use Rattle.parse_decls.specs.Gives.{Fails, Found, Leads, SoFar}
use Rattle.parse_decls.proofs.Settling.{settles_suc, settles_then, settles_if, settles_else, settles_bad}
use Rattle.parse_decls.proofs.Coming.{fails_by}

-- a run that reads, while the test holds, one thing at the tokens that skip gives, and adds it
pub record Loop (S A X : Type 0) : Type 0 where
  pub run : S → List Token → ℕ → Out X
  pub test : List Token → Bool
  pub skip : List Token → List Token
  pub step : List Token → ℕ → Out A
  pub add : S → A → S
  pub finish : S → List Token → ℕ → Out X
  pub law : (some : S) (ts : List Token) (k : ℕ) → run some ts (suc k) ≡ (if test ts then then_do (step (skip ts) k) (λ one mid. run (add some one) mid k)
      else finish some ts k)

pub loop_on : {S A X : Type 0} (l : Loop S A X) (whole : ℕ → Out X) (input : Input) (least most : ℕ) (some all : S) (next at : ℕ) (one : A) (after : ℕ)
    → l.skip (from_at input next) ≡ from_at input at → most ≡ suc at → next ≤ at
    → SoFar (l.run some (from_at input next)) whole input least next → l.test (from_at input next) ≡ true
    → Found (l.step (from_at input at)) input most one after → all ≡ l.add some one
    → SoFar (l.run all (from_at input after)) whole input least after
loop_on l whole input least most some all next at one after s m n so e f a = record {
  leads = λ o h. so.leads o (settles_suc
      (settles_if (l.finish some (from_at input next)) e
      (settles_then (λ k one mid. l.run (l.add some one) mid k) (subst (λ ts. Settles (l.step ts) (got one (from_at input after))) (sym s) f.runs)
      (subst (λ x. Settles (l.run x (from_at input after)) o) a h)))
      (λ k. l.law some (from_at input next) k));
  goes = omega (arith, m, n, so.goes, f.goes);
  within = f.within;
}

pub loop_fails : {S A X : Type 0} (l : Loop S A X) (whole : ℕ → Out X) (input : Input) (least : ℕ) (some : S) (next at : ℕ) (stop : Stop)
    → l.skip (from_at input next) ≡ from_at input at
    → SoFar (l.run some (from_at input next)) whole input least next → l.test (from_at input next) ≡ true
    → Fails (l.step (from_at input at)) (origin_of input) stop → Fails whole (origin_of input) stop
loop_fails l whole input least some next at stop s so e f = fails_by (l.step (from_at input at)) whole (origin_of input)
    (λ why h. so.leads _ (settles_suc
    (settles_if (l.finish some (from_at input next)) e
    (settles_bad (λ k one mid. l.run (l.add some one) mid k) (subst (λ ts. Settles (l.step ts) (bad why)) (sym s) h)))
    (λ k. l.law some (from_at input next) k))) stop f

pub begins : {S A X : Type 0} (l : Loop S A X) (whole : ℕ → Out X) (input : Input) (least : ℕ) (some all : S) (next : ℕ) → all ≡ some
    → Leads (l.run some (from_at input next)) whole → least ≤ next → next ≤ length input.tokens.now
    → SoFar (l.run all (from_at input next)) whole input least next
begins l whole input least some all next e h g w = record {
  leads = λ o s. h o (subst (λ x. Settles (l.run x (from_at input next)) o) e s);
  goes = g;
  within = w;
}

pub loop_ends : {S A X : Type 0} (l : Loop S A X) (whole : ℕ → Out X) (input : Input) (least : ℕ) (some : S) (next : ℕ)
    → SoFar (l.run some (from_at input next)) whole input least next → l.test (from_at input next) ≡ false
    → SoFar (l.finish some (from_at input next)) whole input least next
loop_ends l whole input least some next so e = record {
  leads = λ o h. so.leads o (settles_suc (settles_else (λ k. then_do (l.step (l.skip (from_at input next)) k) (λ one mid. l.run (l.add some one) mid k)) e h)
      (λ k. l.law some (from_at input next) k));
  goes = so.goes;
  within = so.within;
}

-- ---- lists of the specs and of the code

pub only_one : {A : Type 0} {all none : List A} (one : A) → all ≡ none ++ one ∷ [] → none ≡ [] → all ≡ one ∷ []
only_one one e n = e ∙ ap (λ list. list ++ one ∷ []) n

pub and_next : {A B : Type 0} (f : A → B) (some : List A) (one : A) → map f (some ++ one ∷ []) ≡ map f some ++ f one ∷ []
and_next f [] one = refl
and_next f (first ∷ some) one = ap (λ all. f first ∷ all) (and_next f some one)

pub and_last : (some : List TypeTree) (one : TypeTree) → arguments_of (some ++ one ∷ []) ≡ and_argument (arguments_of some) (written_of one)
and_last [] one = refl
and_last (first ∷ some) one = ap (argument (written_of first)) (and_last some one)

pub and_part : (some : List Field) (one : Field) → fields_of (some ++ one ∷ []) ≡ and_field (fields_of some) one.names.items (written_of one.of)
and_part [] one = refl
and_part (first ∷ some) one = ap (fields first.names.items (written_of first.of)) (and_part some one)

-- ---- the loops

abbrev pub names_loop : Origin → Layout → Loop (List Name) Name (List Name)
names_loop x i = record {
  run = λ some ts k. run_more_names k x i some ts;
  test = comma_at i;
  skip = behind;
  step = λ ts k. run_name x Brackets ts;
  add = λ some one. some ++ one ∷ [];
  finish = λ some ts k. got some ts;
  law = λ some ts k. refl;
}

abbrev pub declared_loop : Origin → Layout → Loop (List Declared) Declared (List Declared)
declared_loop x i = record {
  run = λ some ts k. run_more_declared k x i some ts;
  test = comma_at i;
  skip = behind;
  step = λ ts k. run_shown x i (name_on Brackets ts) ts;
  add = λ some one. some ++ one ∷ [];
  finish = λ some ts k. got some ts;
  law = λ some ts k. refl;
}

abbrev pub pragmas_loop : Origin → Loop (List Pragma) Pragma (List Pragma)
pragmas_loop x = record {
  run = λ some ts k. run_more_pragmas k x some ts;
  test = comma_at Brackets;
  skip = behind;
  step = λ ts k. run_pragma x ts;
  add = λ some one. some ++ one ∷ [];
  finish = λ some ts k. unless_stuck (kind_at is_pragma_close ts) ts (got some (behind ts));
  law = λ some ts k. refl;
}

abbrev pub arguments_loop : Origin → List Token → ℕ → Loop Arguments Written Arguments
arguments_loop x whole n = record {
  run = λ some ts k. run_arguments k x whole n some ts;
  test = comma_at Brackets;
  skip = behind;
  step = λ ts k. run_type k x Brackets whole n ts;
  add = and_argument;
  finish = λ some ts k. got some ts;
  law = λ some ts k. refl;
}

abbrev pub parts_loop : Origin → List Token → ℕ → Loop Fields Typed Fields
parts_loop x whole n = record {
  run = λ some ts k. run_parts k x whole n some ts;
  test = comma_at Brackets;
  skip = behind;
  step = λ ts k. run_part k x whole n ts;
  add = λ some one. and_field some one.names one.of;
  finish = λ some ts k. got some ts;
  law = λ some ts k. refl;
}

abbrev pub definitions_loop : Origin → ℕ → Loop (List Definition) Definition (List Definition)
definitions_loop x n = record {
  run = λ some ts k. run_defs k x n some ts;
  test = stands_at n;
  skip = λ ts. ts;
  step = λ ts k. run_defined k x Brackets (Lines n) ts;
  add = λ some one. some ++ one ∷ [];
  finish = λ some ts k. got some ts;
  law = λ some ts k. refl;
}

abbrev pub fields_loop : Origin → ℕ → Loop Fields Typed Fields
fields_loop x n = record {
  run = λ some ts k. run_fields k x n some ts;
  test = stands_at n;
  skip = λ ts. ts;
  step = λ ts k. run_field k x n ts;
  add = λ some one. and_field some one.names one.of;
  finish = λ some ts k. got some ts;
  law = λ some ts k. refl;
}

abbrev pub declarations_loop : Origin → ℕ → Loop (List Declaration) Declaration (List Declaration)
declarations_loop x n = record {
  run = λ some ts k. run_declarations k x n some ts;
  test = stands_at n;
  skip = λ ts. ts;
  step = λ ts k. run_declaration k x Brackets n ts;
  add = λ some one. some ++ one ∷ [];
  finish = λ some ts k. got some ts;
  law = λ some ts k. refl;
}

abbrev pub params_loop : Origin → Loop (List Parameters) Parameters (List Parameters)
params_loop x = record {
  run = λ some ts k. run_more_params k x some ts;
  test = separator_at;
  skip = behind;
  step = λ ts k. run_param k x ts;
  add = λ some one. some ++ one ∷ [];
  finish = λ some ts k. unless_stuck (closes_at Round ts) ts (got some (behind ts));
  law = λ some ts k. refl;
}

pub either_way : {X : Type 0} (go : List Token → X) (stop : X) (c m : Bool) (a b : List Token) → (if c then go a else if m then go b else stop)
    ≡ (if c || m then go (if c then a else b) else stop)
either_way go stop true m a b = refl
either_way go stop false true a b = refl
either_way go stop false false a b = refl

abbrev pub members_loop : Origin → ℕ → Loop (List Name) Name (List Name)
members_loop x m = record {
  run = λ some ts k. run_more_members k x m some ts;
  test = more_members_at m;
  skip = past_comma (Lines m);
  step = λ ts k. run_name x Brackets ts;
  add = λ some one. some ++ one ∷ [];
  finish = λ some ts k. got some ts;
  law = λ some ts k. either_way (λ at. then_do (run_name x Brackets at) (λ name mid. run_more_members k x m (some ++ name ∷ []) mid)) (got some ts)
      (comma_at (Lines m) ts) (member_at m ts) (behind ts) ts;
}
