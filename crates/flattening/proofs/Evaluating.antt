-- Flat code follows operations, reads and paths.
use Rattle.std.proofs.Common.{◌≡◌, ℕ, suc, ◌+◌, Bool, true, false, List, ◌∷◌, length, Option, Some, None, refl, sym, ap, ◌∙◌, arith}
use Rattle.std.specs.Prelude.{ℤ}
use Rattle.std.proofs.lemmas.Bool.{false≢true}
use Rattle.nim_types.specs.Types.{Ty, Facts}
use Rattle.nim_program.specs.declared.expr.Node.{Node}
use Rattle.nim_program.specs.declared.operation.Use.TheVariants.{Owned, Looked}
use Rattle.nim_program.specs.declared.program.Mode.{Mode}
use Rattle.nim_program.specs.Program.{Literal, Act, Expr, Apply, Read, Path, Variable, Fresh, Field, Element, Deref, Args}
use Rattle.nim_program.specs.Program.{node_of, node_at, type_of, type_at, types_in, constant_in}
use Rattle.nim_program.specs.Folds.{by_constant, if_constant}
use Rattle.nim_program.specs.Uses.{use_of}
use Rattle.nim_program.specs.View.{if_type}
use Rattle.nim_meaning.specs.Values.{number_of, literal_value, Standing, Made}
use Rattle.nim_meaning.specs.State.{State}
use Rattle.nim_meaning.specs.ActTree.{Does as Done_by}
use Rattle.nim_meaning.specs.Ways.{At as Point}
use Rattle.nim_meaning.specs.Acts.{give, ◌>>=◌, with_trail}
use Rattle.nim_meaning.specs.Shapes.{is_read}
use Rattle.nim_meaning.specs.Here.{Here, level_of, gives_hooked}
use Rattle.nim_meaning.specs.Waiting.{held_from}
use Rattle.nim_meaning.specs.Meaning.{destination, carried, got, got_by, eval}
use Rattle.nim_meaning.specs.Aims.{Root, PartOf, ItemOf, ObjectOf, fresh_root}
use Rattle.flat_code.specs.declared.line.Line.{Line}
use Rattle.flat_code.specs.declared.line.Line.TheVariants as L
use Rattle.flat_code.specs.Scene.{Temps, with_value, location_at}
use Rattle.flat_code.specs.Lines.{using, level_at}
use Rattle.flat_code.specs.Lines as does
use Rattle.flattening.specs.Numbering.{if_number, width, width_at, widths}
use Rattle.flattening.specs.ExprLines.{use_at, froms, act_line, back_line, find_lines, settle_lines, taken_lines, lines}
use Rattle.flattening.specs.Flattened.{modes_of}
use Rattle.flattening.specs.Formed.{Scope, Formed, PathFormed}
use Rattle.flattening.proofs.Runs.{Runs}
use Rattle.flattening.proofs.Worlds.{since_none, since_then}
use Rattle.flattening.proofs.Openings.{answering_all}
use Rattle.flattening.proofs.Temps.{kept_none, kept_then, kept_wide, kept_value, put_same, value_before}
use Rattle.flattening.proofs.Spots.{Spot, here_of, there, scene, Lands, after, answers, further, performs_alone, at_point}
use Rattle.flattening.proofs.Standing.{grounded, Stands, stands_since}
use Rattle.flattening.proofs.Groups.{Has, ExprFollows, taken_follows}
use Rattle.flattening.proofs.Paths.{leads_now, leads_wide, Begins, aims_kept, aim_gain, gains, find_follows}
use Rattle.flattening.proofs.Acting.{CallsFollow, type_is, act_follows}
use Rattle.flattening.proofs.Operands.{settle_follows}
use Rattle.flattening.proofs.Lending.{AimFollows, SourceFollows, ArgsFollow}
use Rattle.flattening.proofs.Widths.{same_width, fresh_width, some_width_at, read_width}

module _ (c : Spot) (top : Bool) (room : ℕ → Type 0) (names : (proc place : ℕ) → Type 0) (Open : Scope) where
  abbrev facts : Facts
  facts = c.fixed.program.facts

  abbrev types : List Ty
  types = c.fixed.program.types

  abbrev modes : (proc position : ℕ) → Mode
  modes = modes_of c.fixed.program c.fixed.plan

  abbrev here : Here
  here = here_of c

  -- ---- paths

  same_level : (global : Bool) → level_of global here ≡ level_at global c.level
  same_level true = refl
  same_level false = refl

  pub variable_follows : (node : Node) (ty : Ty) (place : ℕ) (global : Bool) → AimFollows c top room names Open (Variable node ty place global)
  variable_follows node ty place global t k temps s h =
      answers (Root (Standing (level_of global here) place)) s temps (omega arith) (ap (λ l. Root (Standing l place)) (same_level global))
      (kept_none t (t + 1) temps) (since_none c.level s.world)

  -- a constant is where it stands, any other value comes to the next temporary
  begin_follows : (constant : Option Literal) (value : Expr) → ExprFollows c top room names Open value → (t : ℕ) (k : List Line) (temps : Temps) (s : State) →
      Stands c room Open s.world →
      Runs c.fixed (Lands c k t (t + fresh_width constant value) temps s.world (Begins c top room names Open constant value t)) 0 (if_constant constant 0 2)
      (there c (if_constant constant k (lines types facts modes value Looked (suc t) k)) temps s.world) s.meter
      (by_constant constant (λ literal. give (Root (Made (literal_value literal)))) (eval value Looked here
      >>= (λ v. give (fresh_root (gives_hooked facts (type_of value)) c.level (node_of value).number v))) s)
  begin_follows None value follows t k temps s h =
      after 2 (omega arith) (omega arith) (follows Looked (suc t) k temps s h)
      (λ v b now comes kept since.
      answers (fresh_root (gives_hooked facts (type_of value)) c.level (node_of value).number v) b now (omega arith) (v, comes, refl)
      (kept_wide (omega arith) (omega arith) kept) since)
  begin_follows (Some literal) value follows t k temps s h =
      answers (Root (Made (literal_value literal))) s temps (omega arith) refl (kept_none t (t + 1) temps) (since_none c.level s.world)

  pub fresh_follows : (value : Expr) → ExprFollows c top room names Open value → AimFollows c top room names Open (Fresh value)
  fresh_follows value follows t k temps s h = begin_follows (constant_in value) value follows t k temps s h

  pub field_follows : (node : Node) (ty : Ty) (base : Path) (field : ℕ) → AimFollows c top room names Open base →
      AimFollows c top room names Open (Field node ty base field)
  field_follows node ty base field follows t k temps s h =
      let w = same_width base in
      after (aim_gain base) (omega arith) (omega arith) (follows (suc t) k temps s h)
      (λ aim b now aims kept since. answers (PartOf aim field) b now (omega arith) (aim, refl, aims) (kept_wide (omega arith) (omega (arith, w)) kept) since)

  pub element_follows : (node : Node) (ty : Ty) (base : Path) (index : Expr) (constant : Option ℤ) → AimFollows c top room names Open base →
      ExprFollows c top room names Open index → AimFollows c top room names Open (Element node ty base index constant)
  element_follows node ty base index constant follows index_follows t k temps s h =
      let w = same_width base in
      let u = suc t + width_at base in
      after (aim_gain base) (omega arith) (omega arith) (follows (suc t) (lines types facts modes index Owned u k) temps s h)
      (λ aim b now aims kept since.
      after (aim_gain base) (omega arith) (omega arith) (index_follows Owned u k now b (stands_since h since))
      (λ z d last comes kept2 since2.
      answers (ItemOf aim (number_of z)) d last (omega arith)
      (aim, z, comes, refl, aims_kept c top room names Open base (suc t) aim now last (λ i le less. value_before i less kept2) aims)
      (kept_then (kept_wide (omega arith) (omega (arith, w)) kept) (kept_wide (omega arith) (omega (arith, w)) kept2)) (since_then since since2)))

  pub deref_follows : (ty : Ty) (base : Path) → AimFollows c top room names Open base → AimFollows c top room names Open (Deref ty base)
  deref_follows ty base follows t k temps s h =
      let w = same_width base in
      after (aim_gain base) (omega arith) (omega arith) (follows (suc t) k temps s h)
      (λ aim b now aims kept since. answers (ObjectOf aim) b now (omega arith) (aim, refl, aims) (kept_wide (omega arith) (omega (arith, w)) kept) since)

  -- ---- what is looked up is read, or copied from

  pub source_follows : (path : Path) → PathFormed (grounded c top room names) Open path → AimFollows c top room names Open path →
      SourceFollows c top room names Open (Read path)
  source_follows path f follows read t k temps s h =
      let w = read_width path in
      let v = some_width_at path in
      let g = gains path in
      let u = suc t in
      after (aim_gain path) (omega arith) (omega arith) (follows u (find_lines types facts path u k) temps s h)
      (λ aim b now aims kept since.
      after 2 (omega arith) (omega (arith, g)) (find_follows c top room names Open path f u k now aim aims b (stands_since h since))
      (λ l d last looked kept2 since2.
      at_point (give l) path d
      (λ trail.
      answers l (with_trail trail d) last (omega arith)
      (leads_wide {lo' = u} {hi' = u + width_at path} (omega arith) (omega (arith, w)) looked.leads, omega (arith, w, v))
      (kept_wide (omega arith) (omega (arith, w)) (kept_then kept kept2)) (since_then since since2))))

  pub not_read : (value : Expr) → is_read value ≡ false → SourceFollows c top room names Open value
  not_read value e read = absurd (false≢true (sym e ∙ read))

  -- ---- operations, and what is read

  pub apply_follows : CallsFollow c names → (node : Node) (ty : Option Ty) (act : Act) (operands : Args) →
      Formed (grounded c top room names) Open (Apply node ty act operands) → ArgsFollow c top room names Open act operands →
      ExprFollows c top room names Open (Apply node ty act operands)
  apply_follows calls node ty act operands f follows how t k temps s h =
      let u = suc t in
      let uses = use_of modes act in
      let held = held_from facts modes operands uses 0 in
      let to = use_at how node.number in
      let run = act_line types facts modes t act to ty (types_in operands) (froms facts act operands uses 0 u) ∷ back_line types facts modes t act to ty k in
      let taken = taken_lines held run in
      after (length held) (omega arith) (omega arith) (follows uses 0 u (settle_lines types facts operands u taken) temps s h)
      (λ ready b now r kept since.
      after (length held + 0) (omega arith) (omega arith)
      (settle_follows c top room names Open act operands f.1 uses u taken now ready r b (stands_since h since))
      (λ xs d last takes kept2 since2.
      let d1 : State = with_trail (Point node.number Done_by ∷ d.trail) d in
      let h1 = stands_since h (since_then since since2) in
      further {lo' = t} {hi' = t + width (Apply node ty act operands)} (omega arith) (omega arith)
      (kept_then (kept_wide (omega arith) (omega arith) kept) (kept_wide (omega arith) (omega arith) kept2)) (since_then since since2) (λ v n p kept. p)
      (taken_follows c top room names Open held run last (carried here node.number act how ty operands xs) d1
      (λ g since3.
      further {lo' = t} {hi' = u + widths operands} (omega arith) (omega arith) (kept_none t (t + width (Apply node ty act operands)) last) since3
      (λ v n p kept. p)
      (act_follows c top room names Open calls act operands node ty f.0 how xs u t k last g (omega arith) takes (stands_since h1 since3))))))

  pub read_follows : (path : Path) → Formed (grounded c top room names) Open (Read path) → AimFollows c top room names Open path →
      ExprFollows c top room names Open (Read path)
  read_follows path f follows how t k temps s h =
      let n = (node_at path).number in
      let ty = type_at path in
      let w = read_width path in
      let g = gains path in
      let u = suc t in
      let get = L.Get t u (use_at how n) (if_number types ty) ∷ k in
      let to = destination here how n in
      after (aim_gain path) (omega arith) (omega arith) (follows u (find_lines types facts path u get) temps s h)
      (λ aim b now aims kept since.
      after 2 (omega arith) (omega (arith, g)) (find_follows c top room names Open path f.1 u get now aim aims b (stands_since h since))
      (λ l d last looked kept2 since2.
      at_point (got here how n ty l) path d
      (λ trail.
      let x = scene c last d.world in
      let deed = got_by facts c.fixed.plan to n ty l in
      further {lo' = t} {hi' = suc t} (omega arith) (omega (arith, w)) (kept_wide (omega arith) (omega (arith, w)) (kept_then kept kept2))
      (since_then since since2)
      (λ v n p kept. p)
      (performs_alone c (λ v. with_value t last v) deed (with_trail trail d) (omega arith)
      (answering_all (λ v. Has t v (with_value t last v)) (λ v. put_same last.values t v) deed)
      (λ v. kept_value t v (omega arith) (omega arith) (kept_none t (suc t) last))
      (ap (λ o. using o (λ place. does.gives x t (got_by facts c.fixed.plan to n (if_type types (if_number types ty)) (location_at last place))))
      looked.leads.is
      ∙ (ap (λ l. does.gives x t (got_by facts c.fixed.plan to n (if_type types (if_number types ty)) l)) (leads_now looked.leads)
      ∙ ap (λ ty. does.gives x t (got_by facts c.fixed.plan to n ty l)) (type_is types ty f.0)))))))
