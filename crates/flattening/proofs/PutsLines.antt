-- The labels of a part's lines are those of its numbers: lines that pay for the names that they give, and have none to spare for a label, put none.
use Rattle.std.proofs.Common.{◌≡◌, ℕ, suc, ◌+◌, ◌*◌, ◌<◌, ◌≤◌, ◌⊎◌, inl, inr, Bool, true, false, List, [], ◌∷◌, length, Option}
use Rattle.std.proofs.Common.{refl, ap, ◌∙◌, arith}
use Rattle.std.specs.Prelude.{nat_lt}
use Rattle.std.proofs.lemmas.Bool.{cases_lt, lt-ltb, ltb-true, eq-eqb, ne_eqb}
use Rattle.nim_types.specs.Types.{Ty, Facts}
use Rattle.nim_program.specs.declared.operation.Use.{Use}
use Rattle.nim_program.specs.declared.program.Mode.{Mode}
use Rattle.nim_program.specs.declared.stmt.Leaving.{Leaving}
use Rattle.nim_program.specs.Program.{Literal, Label, ByLabels, Act, Expr, Path, Variable, Fresh, Field, Element, Deref, Args}
use Rattle.nim_program.specs.Program.{Declared, Stmt, Stmts, Blocks, constant_in}
use Rattle.flat_code.specs.declared.line.Line.{Line}
use Rattle.flat_code.specs.declared.line.Line.TheVariants as L
use Rattle.flat_code.specs.declared.line.UseAt.{UseAt}
use Rattle.flattening.specs.declared.numbers.Purpose.TheVariants.{Arm, Next}
use Rattle.flat_code.specs.Alike.{label_name}
use Rattle.flattening.specs.ExprLines.{find_lines, lines, aim_lines, copied_lines, is_copied, ready_lines, choice_lines, arm_lines, begin_line}
use Rattle.flattening.specs.Numbering.{width, width_at, widths, arm_count, width_in, width_of, label, behind_selector}
use Rattle.flattening.specs.StmtLines.{Exits, leaving_by, selector_lines, lines_in, lines_of, branch_lines, arm_blocks}
use Rattle.flattening.proofs.Costs.{Front, Costs, Counted, Kept, kept_of, ground_of, Rules, no_rules}
use Rattle.flattening.proofs.CostExprs as exprs
use Rattle.flattening.proofs.CostStmts as stmts
use Rattle.flattening.proofs.CostStmts.{Twice, ExitsPaid}
use Rattle.flattening.proofs.LineNames.{begin_name}
use Rattle.flattening.proofs.NameCosts.{name_costs}
use Rattle.flattening.proofs.Puts.{found, is_empty, Puts, puts_none, puts_line, puts_label, ◌>>◌}
use Rattle.flattening.proofs.Tallies.{count, is_it, below, below_one, upto, arm}
use Rattle.flattening.proofs.Temps.{Outside}
use Rattle.flattening.proofs.Widths.{width_of_blocks}

-- ---- lines that put a label only where they take more than they spare

record Shows (name spare most : ℕ) (front : Front) : Type 0 where
  enough : spare ≤ most
  skips : most ≤ spare → (k : List Line) → found name (front k) ≡ found name k
  some : (k : List Line) → is_empty k ≡ false → is_empty (front k) ≡ false

-- those that put none
shows : (name : ℕ) {F : Front} → Puts 0 0 F → Shows name 0 0 F
shows name p = record { enough = omega arith; skips = λ le k. p.skips name k (λ z. z); some = p.some }

shows_both : {name r s a b : ℕ} {F G : Front} → Shows name r a F → Shows name s b G → Shows name (r + s) (a + b) (λ k. F (G k))
shows_both {name} {r} {s} {a} {b} {F} {G} p q =
    let h = p.enough in
    let i = q.enough in
    record {
      enough = omega (arith, h, i);
      skips = λ le k. p.skips (omega (arith, le, i)) (G k) ∙ q.skips (omega (arith, le, h)) k;
      some = λ k h. p.some (G k) (q.some k h);
    }

shows_most : {name r a : ℕ} {F : Front} (r' a' : ℕ) → r' + a ≤ a' + r → Shows name r a F → Shows name r' a' F
shows_most {name} {r} {a} {F} r' a' le p =
    record { enough = omega (arith, le, p.enough); skips = λ l k. p.skips (omega (arith, le, l)) k; some = p.some }

shows_label : (name n : ℕ) → Shows name 0 (is_it (label_name name) (label_name n)) (λ k. L.Label n ∷ k)
unfolding is_it
shows_label name n = record {
  enough = omega arith;
  skips = λ le k. (puts_label {lo = n} {hi = suc n} n (omega arith) (omega arith)).skips name k
      (λ low. at le (cases_lt n name) low);
  some = λ k h. refl;
}
  where
    at : is_it (label_name name) (label_name n) ≤ 0 → (n < name) ⊎ (name ≤ n) → n ≤ name → suc n ≤ name
    at le (inl less) low = omega (arith, less)
    at le (inr more) low =
        let e : is_it (label_name name) (label_name n) ≡ 1 = ap count (eq-eqb (label_name n) (label_name name) (omega (arith, more, low))) in
        absurd (omega (arith, le, e))

-- ---- the numbers of a label

module _ (name : ℕ) where
  abbrev Z : (t : ℕ) → ℕ
  Z t = upto (label_name name) t

  is_below : (t : ℕ) → name < 4 * t → Z t ≡ 1
  unfolding below
  is_below t less = ap count (lt-ltb (label_name name) (8 * t) (omega (arith, less)))

  not_below : (t : ℕ) → 4 * t ≤ name → Z t ≡ 0
  unfolding below
  not_below t least = at (nat_lt (label_name name) (8 * t)) refl
    where
      at : (b : Bool) → nat_lt (label_name name) (8 * t) ≡ b → count b ≡ 0
      at true e = absurd (omega (arith, ltb-true (label_name name) (8 * t) e, least))
      at false e = refl

  -- a label outside of numbers from t on, below u
  pub spans : (lo t u : ℕ) → lo ≤ 4 * t → Outside lo (4 * u) name → Z u ≤ Z t
  spans lo t u le out = at (cases_lt name (4 * t))
    where
      at : (name < 4 * t) ⊎ (4 * t ≤ name) → Z u ≤ Z t
      at (inl less) = omega (arith, is_below t less, below_one (label_name name) (8 * u))
      at (inr least) = omega (arith, not_below u (out (omega (arith, le, least))))

  is_arm : (t : ℕ) → name ≡ 4 * t → arm (label_name name) t ≡ 1
  unfolding is_it
  is_arm t e = ap count (eq-eqb (label_name (label Arm t)) (label_name name) (omega (arith, e)))

  -- and which isn't spared
  pub spans_part : (t u : ℕ) → Outside (4 * t + 1) (4 * u) name → Z u ≤ Z t + arm (label_name name) t
  spans_part t u out = at (cases_lt name (4 * t)) (cases_lt (4 * t) name)
    where
      at : (name < 4 * t) ⊎ (4 * t ≤ name) → (4 * t < name) ⊎ (name ≤ 4 * t) → Z u ≤ Z t + arm (label_name name) t
      at (inl less) h = omega (arith, is_below t less, below_one (label_name name) (8 * u))
      at (inr least) (inl less) = omega (arith, not_below u (out (omega (arith, less))))
      at (inr least) (inr most) = omega (arith, is_arm t (omega (arith, most, least)), below_one (label_name name) (8 * u))

  pub not_marked : (lo hi n : ℕ) → lo ≤ n → n < hi → Outside lo hi name → is_it (label_name name) (label_name n) ≡ 0
  unfolding is_it
  not_marked lo hi n low high out =
      ap count (ne_eqb (label_name n) (label_name name) (λ e. absurd (omega (arith, out (omega (arith, low, e)), high, e))))

-- ways out put no labels
abbrev pub ExitsPut : Exits → Type 0
ExitsPut exits = (way : Leaving) → (lo hi : ℕ) → Puts lo hi (leaving_by exits way)

module _ (types : List Ty) (facts : Facts) (modes : (proc position : ℕ) → Mode) where
  begins_plain : {lo hi : ℕ} (constant : Option Literal) (value : Expr) (t : ℕ) → Puts lo hi (λ k. begin_line types facts constant value t ∷ k)
  begins_plain constant value t = puts_line _ (begin_name types facts modes constant value t).1.0

  pub puts_find : {lo hi : ℕ} (path : Path) (t : ℕ) → Puts lo hi (find_lines types facts path t)
  puts_find (Variable node ty place global) t = puts_line _ refl
  puts_find (Fresh value) t = begins_plain (constant_in value) value t
  puts_find (Field node ty base field) t = puts_find base (suc t) >> puts_line _ refl
  puts_find (Element node ty base index constant) t = puts_find base (suc t) >> puts_line _ refl
  puts_find (Deref ty base) t = puts_find base (suc t) >> puts_line _ refl

  costs : (name : ℕ) → Costs types facts modes
  costs name = name_costs types facts modes (label_name name) (λ t. 0) (λ t. 0) (λ t. omega arith) (λ t. omega arith)

  counted : (name : ℕ) → Counted types facts modes (costs name)
  unfolding costs name_costs
  counted name = record {
    ground = ground_of types facts modes (costs name) (λ t. refl) (λ spare most front. Shows name spare most front) (shows name puts_none)
        (λ r s a b F G p q. shows_both p q) (λ r a r' a' F le p. shows_most r' a' le p) (λ n. shows_label name n);
    plain = λ z l e f. shows name (puts_line l f);
    freed = λ z l t e f bare free. shows name (puts_line l f);
    given = λ z l t e f. shows_most 0 (0 + 0) (omega arith) (shows name (puts_line l f));
    led = λ z l t e f. shows name (puts_line l f);
  }

  abbrev kept : (name : ℕ) → Kept types facts modes (costs name)
  kept name = kept_of types facts modes (costs name) (counted name)

  rules : (name : ℕ) → Rules (kept name).ground.Stray
  unfolding counted
  rules name = no_rules (kept name).ground.Stray tt

  twice : (name : ℕ) → Twice types facts modes (costs name) (kept name)
  unfolding costs name_costs counted
  twice name = λ z path t r a F go.
      record { paid = shows_most r _ (omega arith) (go z tt 0 (λ z' u. record { paid = shows name (puts_find path t) })).paid }

  around : (name : ℕ) → (costs name).Ways
  unfolding costs name_costs
  around name = tt

  out_of : (name : ℕ) (z : (kept name).ground.World) (exits : Exits) → ExitsPut exits →
      ExitsPaid types facts modes (costs name) (kept name) (rules name) (twice name) z exits (around name)
  unfolding costs name_costs counted
  out_of name z exits h way z' u = record { paid = shows name (h way 0 0) }

  puts_of : {lo hi : ℕ} {F : Front} {r a : (name : ℕ) → ℕ} → ((name : ℕ) → Shows name (r name) (a name) F) →
      ((name : ℕ) → Outside lo hi name → a name ≤ r name) → Puts lo hi F
  puts_of p le = record { skips = λ name k out. (p name).skips (le name out) k; some = (p 0).some }

  -- ---- expressions

  pub expr_puts : (e : Expr) (how : Use) (t : ℕ) → Puts (4 * t + 1) (4 * (t + width e)) (lines types facts modes e how t)
  unfolding costs name_costs counted
  expr_puts e how t =
      puts_of
      (λ name. shows_most (Z name t + arm (label_name name) t) _ (omega arith) ((exprs.expr types facts modes (costs name) (kept name) e how t).outer tt).paid)
      (λ name out. spans_part name t (t + width e) out)

  pub copied_puts : (e : Expr) (how : Use) (t : ℕ) → is_copied facts how e ≡ true →
      Puts (4 * t + 1) (4 * (t + width e)) (copied_lines types facts modes e t)
  unfolding costs name_costs counted
  copied_puts e how t copied =
      puts_of
      (λ name. shows_most (Z name t + arm (label_name name) t) _ (omega arith)
      (exprs.copies_from types facts modes (costs name) (kept name) e how t copied tt).paid)
      (λ name out. spans_part name t (t + width e) out)

  pub aim_puts : (path : Path) (t : ℕ) → Puts (4 * t) (4 * (t + width_at path)) (aim_lines types facts modes path t)
  unfolding costs name_costs counted
  aim_puts path t =
      puts_of
      (λ name. shows_most (Z name t) _ (omega arith) (exprs.aim types facts modes (costs name) (kept name) path t tt tt).paid)
      (λ name out. spans name (4 * t) t (t + width_at path) (omega arith) out)

  pub ready_puts : (act : Act) (args : Args) (uses : ℕ → Use) (i t : ℕ) →
      Puts (4 * t) (4 * (t + widths args)) (ready_lines types facts modes act args uses i t)
  unfolding costs name_costs counted
  ready_puts act args uses i t =
      puts_of
      (λ name. shows_most (Z name t) _ (omega arith) (exprs.ready types facts modes (costs name) (kept name) act args uses i t tt).paid)
      (λ name out. spans name (4 * t) t (t + widths args) (omega arith) out)

  pub choice_puts : (parts : Args) (ty : Option Ty) (how : UseAt) (t u : ℕ) → Puts (4 * u) (4 * (u + widths parts))
      (choice_lines types facts modes parts ty how t u)
  unfolding costs name_costs counted
  choice_puts parts ty how t u =
      puts_of
      (λ name. (exprs.choice types facts modes (costs name) (kept name) parts ty how t u tt tt tt).paid)
      (λ name out. omega (arith, spans name (4 * u) u (u + widths parts) (omega arith) out))

  pub arms_puts : (covered : Bool) (labels : List (List Label)) (values : Args) (ty : Option Ty) (how : UseAt) (t u : ℕ) → t < u →
      Puts (4 * t + 2) (4 * (u + widths values)) (arm_lines types facts modes covered labels values ty how t u)
  unfolding costs name_costs counted
  arms_puts covered labels values ty how t u less =
      puts_of
      (λ name. (exprs.arms types facts modes (costs name) (kept name) covered labels values ty how t u tt tt tt).paid)
      (λ name out.
      omega (
        arith,
        spans name (4 * t + 2) u (u + widths values) (omega (arith, less)) out,
        not_marked name (4 * t + 2) (4 * (u + widths values)) (label Next t)
            (omega arith) (omega (arith, less)) out,
      ))

  -- ---- statements

  module _ (result : Option Declared) where
    pub selector_puts : (args : Args) (t : ℕ) → Puts (4 * t) (4 * behind_selector args t) (selector_lines types facts modes result args t)
    unfolding costs name_costs counted rules
    selector_puts args t =
        puts_of {r = λ name. Z name t} {a = λ name. Z name (behind_selector args t)}
        (λ name. shows_most (Z name t) (Z name (behind_selector args t)) (omega arith)
        (stmts.selector types facts modes (costs name) (kept name) (rules name) (twice name) result [] args t (inl tt) tt).paid)
        (λ name out. omega (arith, spans name (4 * t) t (behind_selector args t) (omega arith) out))

    pub stmt_puts : (stmt : Stmt) (exits : Exits) (t : ℕ) → ExitsPut exits → Puts (4 * t) (4 * (t + width_in stmt))
        (lines_in types facts modes result stmt exits t)
    unfolding costs name_costs counted rules around
    stmt_puts stmt exits t out =
        puts_of
        (λ name. (stmts.stmt types facts modes (costs name) (kept name) (rules name) (twice name) result stmt exits (around name) t tt tt
        (out_of name tt exits out)).paid)
        (λ name o. spans name (4 * t) t (t + width_in stmt) (omega arith) o)

    pub stmts_puts : (b : Stmts) (exits : Exits) (t : ℕ) → ExitsPut exits → Puts (4 * t) (4 * (t + width_of b))
        (lines_of types facts modes result b exits t)
    unfolding costs name_costs counted rules around
    stmts_puts b exits t out =
        puts_of
        (λ name. (stmts.block types facts modes (costs name) (kept name) (rules name) (twice name) result b exits (around name) t tt tt
        (out_of name tt exits out)).paid)
        (λ name o. spans name (4 * t) t (t + width_of b) (omega arith) o)

    pub branches_puts : (tests : Args) (blocks : Blocks) (exits : Exits) (t u : ℕ) → ExitsPut exits →
        Puts (4 * u) (4 * (u + (widths tests + width_of_blocks blocks))) (branch_lines types facts modes result tests blocks exits t u)
    unfolding costs name_costs counted rules around
    branches_puts tests blocks exits t u out =
        puts_of
        (λ name. (stmts.branches types facts modes (costs name) (kept name) (rules name) (twice name) result tests blocks exits (around name) t u tt tt tt
        (out_of name tt exits out)).paid)
        (λ name o. spans name (4 * u) u (u + (widths tests + width_of_blocks blocks)) (omega arith) o)

    pub arm_blocks_puts : (covered : Bool) (labels : List (List Label)) (blocks : Blocks) (exits : Exits) (t arm u : ℕ) → t < arm →
        arm + arm_count (ByLabels labels) ≤ u → ExitsPut exits →
        Puts (4 * t + 2) (4 * (u + width_of_blocks blocks)) (arm_blocks types facts modes result covered labels blocks exits t arm u)
    unfolding costs name_costs counted rules around
    arm_blocks_puts covered labels blocks exits t arm u less le out =
        puts_of
        (λ name. (stmts.arms types facts modes (costs name) (kept name) (rules name) (twice name) result covered labels blocks exits (around name) t arm u
        tt tt tt (out_of name tt exits out)).paid)
        (λ name o.
        let i = spans name (4 * t + 2) arm (arm + length labels) (omega (arith, less)) (λ low. let g = o low in omega (arith, g, le)) in
        omega (
          arith,
          spans name (4 * t + 2) u (u + width_of_blocks blocks) (omega (arith, less, le)) o,
          i,
          not_marked name (4 * t + 2)
              (4 * (u + width_of_blocks blocks)) (label Next t) (omega arith) (omega (arith, less, le)) o,
        ))
