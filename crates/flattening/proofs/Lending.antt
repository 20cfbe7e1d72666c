-- Operands are evaluated from left to right: each by value, by where it waits, or by where its place copies from.
use Rattle.std.proofs.Common.{◌≡◌, ℕ, suc, ◌+◌, ◌<◌, ◌≤◌, Bool, true, false, List, [], ◌∷◌, length, Option, Some, None, refl, sym, ap, ◌∙◌, subst, arith}
use Rattle.std.specs.Prelude.{◌&&◌, ◌||◌, not, if◌then◌else◌}
use Rattle.std.proofs.lemmas.Bool.{and_parts}
use Rattle.arc_base.specs.Event.{Event}
use Rattle.arc_base.specs.BigStep.{Meter, Res}
use Rattle.nim_types.specs.Types.{Ty, Facts}
use Rattle.nim_program.specs.declared.operation.Use.{Use}
use Rattle.nim_program.specs.declared.program.Mode.{Mode}
use Rattle.nim_program.specs.declared.expr.Node.{Node}
use Rattle.nim_program.specs.declared.operation.Use.TheVariants.{Owned, Given as ToPlace, Held, Lent, Looked}
use Rattle.nim_program.specs.Program.{Characters, Act, Giving, Expr, Apply, Path, Args, NoArg, ByValue, ByPath, node_of, type_of, constant_in}
use Rattle.nim_meaning.specs.Values.{Value, Fixed, Made, Waiting, at_base, Location, Operand, Given, At as AtPlace}
use Rattle.nim_meaning.specs.State.{State, World}
use Rattle.nim_meaning.specs.Shapes.{is_read, is_given, is_held, is_lent, is_text}
use Rattle.nim_meaning.specs.Here.{Here, gives_hooked, form_for}
use Rattle.nim_meaning.specs.ActTree.{Does as Done_by}
use Rattle.nim_meaning.specs.Ways.{At as Point}
use Rattle.nim_meaning.specs.Acts.{Outcome, Does, give, branch, ◌>>=◌, with_trail}
use Rattle.nim_meaning.specs.Deeds as deeds
use Rattle.nim_meaning.specs.Deeds.{carry, costs, ◌>>=◌ as ◌>>>◌}
use Rattle.nim_meaning.specs.Table.{constant_for}
use Rattle.nim_meaning.specs.Places.{made_by}
use Rattle.nim_meaning.specs.Waiting.{held_if, held_from}
use Rattle.nim_meaning.specs.Aims.{Ready, Evaluated, Aimed, operand_for, standing, is_lent_own, is_lent_literal}
use Rattle.nim_meaning.specs.Meaning.{eval, source, ready_all, aimed, destination}
use Rattle.flat_code.specs.declared.line.From.{From}
use Rattle.flat_code.specs.declared.line.From.TheVariants as F
use Rattle.flat_code.specs.declared.line.Line.{Line}
use Rattle.flat_code.specs.declared.line.Line.TheVariants as L
use Rattle.flat_code.specs.declared.line.Piece.TheVariants as P
use Rattle.flat_code.specs.Scene.{Where, Located, Within, Temps, with_place, location_at}
use Rattle.flat_code.specs.Lines.{using, fresh_at}
use Rattle.flat_code.specs.Lines as does
use Rattle.flattening.specs.Numbering.{number_or, width, width_at, widths}
use Rattle.flattening.specs.ExprLines.{is_copied, is_call, is_lent_at, is_lent_text, is_one_text, begin_line, lines, aim_lines, copied_lines, lent_line}
use Rattle.flattening.specs.ExprLines.{ready_lines}
use Rattle.flattening.specs.Flattened.{modes_of}
use Rattle.flattening.specs.Formed.{Scope}
use Rattle.flattening.proofs.Runs.{M, Runs}
use Rattle.flattening.proofs.Worlds.{Since, since_then}
use Rattle.flattening.proofs.Temps.{Kept, kept_none, kept_then, kept_wide, kept_place, put_same, value_before, place_before}
use Rattle.flattening.proofs.Spots.{Spot, here_of, there, scene, Lands, after, answers, goes, performs_ticked}
use Rattle.flattening.proofs.Standing.{Stands, stands_since}
use Rattle.flattening.proofs.Groups.{ExprFollows}
use Rattle.flattening.proofs.Paths.{Leads, Aims, aims_kept, aim_gain}
use Rattle.flattening.proofs.LineNames.{never}
use Rattle.flattening.proofs.Literals.{IsText, text_is}
use Rattle.flattening.proofs.Operands.{IsAt, is_at_later, lent_as, Readies}
use Rattle.flattening.proofs.Widths.{some_width}

module _ (c : Spot) (top : Bool) (room : ℕ → Type 0) (names : (proc place : ℕ) → Type 0) (Open : Scope) where
  abbrev facts : Facts
  facts = c.fixed.program.facts

  abbrev types : List Ty
  types = c.fixed.program.types

  abbrev modes : (proc position : ℕ) → Mode
  modes = modes_of c.fixed.program c.fixed.plan

  abbrev here : Here
  here = here_of c

  -- ---- what is shown of operands

  abbrev pub AimFollows : Path → Type 0
  AimFollows path = (t : ℕ) (k : List Line) (temps : Temps) (s : State) → Stands c room Open s.world →
      Runs c.fixed (Lands c k t (t + width_at path) temps s.world (Aims c top room names Open path t)) 0 (aim_gain path)
      (there c (aim_lines types facts modes path t k) temps s.world) s.meter (aimed path here s)

  -- where a place copies from
  abbrev pub SourceFollows : Expr → Type 0
  SourceFollows value = is_read value ≡ true → (t : ℕ) (k : List Line) (temps : Temps) (s : State) → Stands c room Open s.world →
      Runs c.fixed
      (Lands c k t (t + width value) temps s.world (λ l now. Leads t (t + width value) (suc t) l now × (suc t < t + width value))) 0 2
      (there c (copied_lines types facts modes value t k) temps s.world) s.meter (source value here s)

  -- each operand that is held leaves one work for its line
  abbrev pub ArgsFollow : Act → Args → Type 0
  ArgsFollow act args = (uses : ℕ → Use) (i t : ℕ) (k : List Line) (temps : Temps) (s : State) → Stands c room Open s.world →
      Runs c.fixed (Lands c k t (t + widths args) temps s.world (Readies c top room names Open act args uses i t)) 0
      (length (held_from facts modes args uses i))
      (there c (ready_lines types facts modes act args uses i t k) temps s.world) s.meter (ready_all args uses i here s)

  -- ---- a value that is lent

  -- what stands for it: h of hooks, l lent, x a literal text, a an argument of a call
  abbrev Is : (node t hi : ℕ) (v : Value) (h l x a : Bool) → Temps → Type 0
  Is node t hi v h l x a last = IsAt t hi (if h && (l && (a || not x)) then F.Place t else F.Value t)
      (standing (a && (h && (l && x))) (operand_for (h && (l && not x)) c.level node v)) last

  module _ (node t hi : ℕ) (v : Value) (now : Temps) (less : t < hi) (has : now.values t ≡ Some v) where
    abbrev fresh_line : (h l x a : Bool) → List Line → List Line
    fresh_line h l x a k = if h && (l && (a || not x)) then L.Fresh t t (if h && not x then Some node else None) ∷ k else k

    as_value : IsAt t hi (F.Value t) (Given v) now
    as_value = (v, refl, has, omega arith, less)

    -- it waits
    at_node : IsAt t hi (F.Place t) (AtPlace (at_base (Waiting c.level node))) (with_place t now (Located (at_base (Waiting c.level node))))
    at_node = (
      at_base (Waiting c.level node),
      refl,
      record { place = Located (at_base (Waiting c.level node)); is = put_same now.places t _; at = λ later h. refl },
      omega arith,
      less,
    )

    -- nobody owns it
    by_itself : IsAt t hi (F.Place t) (AtPlace (at_base (Made v))) (with_place t now (Within t []))
    by_itself = (
      at_base (Made v),
      refl,
      record {
        place = Within t [];
        is = put_same now.places t (Within t []);
        at = λ later h. ap (λ o. location_at (record later { values = λ i. o }) (Within t [])) (h t (omega arith) less ∙ has);
      },
      omega arith,
      less,
    )

    waits_line : (k : List Line) (world : World) {A : Type 0} {Good : Outcome A → State → M → Type 0} {p q : ℕ} {r : Res State (Outcome A)}
        (meter : Meter Event) →
        Runs c.fixed Good p q (there c k (with_place t now (Located (at_base (Waiting c.level node)))) world) meter r →
        Runs c.fixed Good p q (there c (L.Fresh t t (Some node) ∷ k) now world) meter r
    waits_line k world {p = p} meter f =
        goes c p 0 (omega arith) (ap (λ o. using o (λ v. does.leads (scene c now world) t (Within t []) (fresh_at (Some node) c.level v))) has) f

    own_line : (k : List Line) (world : World) {A : Type 0} {Good : Outcome A → State → M → Type 0} {p q : ℕ} {r : Res State (Outcome A)}
        (meter : Meter Event) →
        Runs c.fixed Good p q (there c k (with_place t now (Within t [])) world) meter r →
        Runs c.fixed Good p q (there c (L.Fresh t t None ∷ k) now world) meter r
    own_line k world {p = p} meter f =
        goes c p 0 (omega arith) (ap (λ o. using o (λ v. does.leads (scene c now world) t (Within t []) (fresh_at None c.level v))) has) f

    placed : (place : Where) → Kept t hi now (with_place t now place)
    placed place = kept_place t place (omega arith) less (kept_none t hi now)

    pub lends : {A : Type 0} {Good : Outcome A → State → M → Type 0} {p q : ℕ} {r : Res State (Outcome A)} (h l x a : Bool) (k : List Line) (world : World)
        (meter : Meter Event) →
        ((last : Temps) → Is node t hi v h l x a last → Kept t hi now last → Runs c.fixed Good p q (there c k last world) meter r) →
        Runs c.fixed Good p q (there c (fresh_line h l x a k) now world) meter r
    lends false l x true k world meter go = go now as_value (kept_none t hi now)
    lends false l x false k world meter go = go now as_value (kept_none t hi now)
    lends true false x true k world meter go = go now as_value (kept_none t hi now)
    lends true false x false k world meter go = go now as_value (kept_none t hi now)
    lends true true false true k world meter go = waits_line k world meter (go _ at_node (placed _))
    lends true true false false k world meter go = waits_line k world meter (go _ at_node (placed _))
    lends true true true true k world meter go = own_line k world meter (go _ by_itself (placed _))
    lends true true true false k world meter go = go now as_value (kept_none t hi now)

  -- ---- the text of a literal that is lent, where it stands

  abbrev StandsThere : (t hi : ℕ) → Value → Temps → Type 0
  StandsThere t hi v now = IsAt t hi (F.Place t) (AtPlace (at_base (Made v))) now

  as_lent : (node t hi : ℕ) (v : Value) (h l x a : Bool) (last : Temps) → h && (l && (a || not x)) ≡ true → x ≡ true → StandsThere t hi v last →
      Is node t hi v h l x a last
  as_lent node t hi v true true true true last lent text there = there
  as_lent node t hi v true true true false last lent text there = never lent
  as_lent node t hi v true true false a last lent text there = never text
  as_lent node t hi v true false x a last lent text there = never lent
  as_lent node t hi v false l x a last lent text there = never lent

  module _ (node : Node) (ty : Option Ty) (text : List ℕ) where
    abbrev literal : Expr
    literal = Apply node ty (Giving (Characters text)) NoArg

    -- what it is as it is evaluated
    abbrev evaluated : (hooked : Bool) (how : Use) → Does Value
    evaluated hooked how = carry (costs 1 (constant_for hooked (form_for facts ty) 0 (Fixed text)) >>> made_by hooked (destination here how node.number))

    text_follows : (hooked : Bool) (how : Use) → hooked ≡ true → is_lent how ≡ true → (t hi : ℕ) → t < hi → (k : List Line) (temps : Temps) (s : State) →
        Runs c.fixed (Lands c k t hi temps s.world (StandsThere t hi)) 0 2
        (there c (L.Standing t (number_or types ty) (P.Text text ∷ []) ∷ k) temps s.world) s.meter (evaluated hooked how s)
    text_follows true Lent hooked lent t hi less k temps s =
        performs_ticked c (λ v. with_place t temps (Located (at_base (Made v)))) (deeds.give (Fixed text)) s (omega arith) (
          at_base (Made (Fixed text)),
          refl,
          record { place = Located (at_base (Made (Fixed text))); is = put_same temps.places t _; at = λ later h. refl },
          omega arith,
          less,
        )
        (λ v. kept_place t (Located (at_base (Made v))) (omega arith) less (kept_none t hi temps)) refl
    text_follows false how hooked lent t hi less k temps s = never hooked
    text_follows true Owned hooked lent t hi less k temps s = never lent
    text_follows true ToPlace hooked lent t hi less k temps s = never lent
    text_follows true Held hooked lent t hi less k temps s = never lent
    text_follows true Looked hooked lent t hi less k temps s = never lent

  -- ---- one operand, and those behind it

  at_is : (b : Bool) (l : Location) → standing b (AtPlace l) ≡ AtPlace l
  at_is true l = refl
  at_is false l = refl

  most_held : (b : Bool) (node : ℕ) (xs : List ℕ) → length (held_if b node xs) ≤ suc (length xs)
  most_held true node xs = omega arith
  most_held false node xs = omega arith

  module _ (act : Act) (value : Expr) (rest : Args) (follows : ExprFollows c top room names Open value) (sources : SourceFollows value)
      (more : ArgsFollow act rest) (uses : ℕ → Use) (i t : ℕ) (k : List Line) (temps : Temps) (s : State) (h : Stands c room Open s.world) where
    abbrev how : Use
    how = uses i

    abbrev u : ℕ
    u = t + width value

    abbrev hi : ℕ
    hi = t + widths (ByValue value rest)

    abbrev behind_it : List Line
    behind_it = ready_lines types facts modes act rest uses (suc i) u k

    abbrev gain : ℕ
    gain = length (held_from facts modes (ByValue value rest) uses i)

    abbrev copies : Does (List Ready)
    copies = source value here >>= (λ location. ready_all rest uses (suc i) here >>= (λ ready. give (Evaluated (AtPlace location) ∷ ready)))

    abbrev gives : Does (List Ready)
    gives = eval value how here >>= (λ v. ready_all rest uses (suc i) here
        >>= (λ ready. give (Evaluated (operand_for (is_lent_own facts how value) c.level (node_of value).number v) ∷ ready)))

    abbrev from_by : Bool → From
    from_by b = if b then F.Place (suc t) else if is_lent_at facts act how value then F.Place t else F.Value t

    abbrev Ends : List Ready → Temps → Type 0
    Ends = Readies c top room names Open act (ByValue value rest) uses i t

    -- the operands behind it, where it is known
    rest_follows : (b : Bool) → is_copied facts how value ≡ b → (x : Operand) (last : Temps) (d : State) →
        IsAt t u (from_by b) (lent_as c top room names Open act how value x) last → Kept t u temps last → Since c.level s.world d.world →
        Runs c.fixed (Lands c k t hi temps s.world Ends) 2 gain (there c behind_it last d.world) d.meter
        ((ready_all rest uses (suc i) here >>= (λ ready. give (Evaluated x ∷ ready))) d)
    rest_follows b e x last d is kept since =
        let m = most_held (gives_hooked facts (type_of value) && is_held how) (node_of value).number (held_from facts modes rest uses (suc i)) in
        let more_gain = length (held_from facts modes rest uses (suc i)) in
        after (2 + more_gain) (omega arith) (omega arith) (more uses (suc i) u k last d (stands_since h since))
        (λ r g fin ready kept2 since2.
        answers (Evaluated x ∷ r) g fin (omega (arith, m)) (
          x,
          r,
          refl,
          subst (λ b. IsAt t u (from_by b) (lent_as c top room names Open act how value x) fin) (sym e)
              (is_at_later t u (from_by b) (lent_as c top room names Open act how value x) last fin (λ j le less. value_before j less kept2)
              (λ j le less. place_before j less kept2) is),
          ready,
        )
        (kept_then (kept_wide (omega arith) (omega arith) kept) (kept_wide (omega arith) (omega arith) kept2)) (since_then since since2))

    by_copy : (b : Bool) → is_copied facts how value ≡ b →
        Runs c.fixed (Lands c k t hi temps s.world Ends) 0 gain
        (there c (if b then copied_lines types facts modes value t behind_it else if is_lent_text facts act how value
        then begin_line types facts (constant_in value) value t ∷ behind_it
        else lines types facts modes value how t (lent_line facts act how value t behind_it))
        temps s.world) s.meter (branch b copies gives s)
    by_copy true e =
        let read = (and_parts (is_given how) (is_read value) (and_parts (gives_hooked facts (type_of value)) (is_given how && is_read value) e).1).1 in
        after 2 (omega arith) (omega arith) (sources read t behind_it temps s h)
        (λ l d now leads kept since.
        rest_follows true e (AtPlace l) now d
        (subst (λ x. IsAt t u (F.Place (suc t)) x now) (sym (at_is (is_call facts act && is_lent_literal facts how value) l))
        (l, refl, leads.0, omega arith, leads.1)) kept since)
    by_copy false e = by_text (is_lent_text facts act how value) refl
      where
        n : ℕ
        n = (node_of value).number

        by_text : (x : Bool) → is_lent_text facts act how value ≡ x →
            Runs c.fixed (Lands c k t hi temps s.world Ends) 0 gain
            (there c (if x then begin_line types facts (constant_in value) value t ∷ behind_it
            else lines types facts modes value how t (lent_line facts act how value t behind_it))
            temps s.world) s.meter (gives s)
        by_text true x =
            let w = some_width value in
            let q = and_parts (is_lent_at facts act how value) (is_one_text (constant_in value)) x in
            let l = and_parts (gives_hooked facts (type_of value)) _ q.0 in
            after 2 (omega arith) (omega arith) (stands_follows (text_is value q.1) l.0 (and_parts (is_lent how) _ l.1).0 (omega (arith, w)))
            (λ v d now is kept since.
            rest_follows false e (operand_for (is_lent_own facts how value) c.level n v) now d
            (as_lent n t u v (gives_hooked facts (type_of value)) (is_lent how) (is_text value) (is_call facts act) now q.0
            (ap is_text (text_is value q.1).is) is) kept since)
          where
            stands_follows : (i : IsText value) → gives_hooked facts (type_of value) ≡ true → is_lent how ≡ true → t < u →
                Runs c.fixed (Lands c behind_it t u temps s.world (StandsThere t u)) 0 2
                (there c (begin_line types facts (constant_in value) value t ∷ behind_it) temps s.world) s.meter (eval value how here s)
            stands_follows i hooked lent less =
                subst (λ v. Runs c.fixed (Lands c behind_it t u temps s.world (StandsThere t u)) 0 2
                (there c (begin_line types facts (constant_in v) v t ∷ behind_it) temps s.world) s.meter (eval v how here s)) (sym i.is)
                (text_follows i.node i.ty i.text (gives_hooked facts i.ty) how (sym (ap (λ v. gives_hooked facts (type_of v)) i.is) ∙ hooked) lent t u less
                behind_it temps (with_trail (Point i.node.number Done_by ∷ s.trail) s))
        by_text false x =
            let w = some_width value in
            after 2 (omega arith) (omega arith) (follows how t (lent_line facts act how value t behind_it) temps s h)
            (λ v d now has kept since.
            lends n t u v now (omega (arith, w)) has (gives_hooked facts (type_of value)) (is_lent how) (is_text value) (is_call facts act) behind_it
            d.world d.meter
            (λ last is kept2.
            rest_follows false e (operand_for (is_lent_own facts how value) c.level n v) last d is (kept_then kept kept2) since))

    pub value_follows : Runs c.fixed (Lands c k t hi temps s.world Ends) 0 gain
        (there c (ready_lines types facts modes act (ByValue value rest) uses i t k) temps s.world) s.meter (ready_all (ByValue value rest) uses i here s)
    value_follows = by_copy (is_copied facts how value) refl

  -- a path, and those behind it
  pub path_follows : (act : Act) (path : Path) (rest : Args) → AimFollows path → ArgsFollow act rest → ArgsFollow act (ByPath path rest)
  path_follows act path rest follows more uses i t k temps s h =
      let u = t + width_at path in
      let g = length (held_from facts modes rest uses (suc i)) in
      after 0 (omega arith) (omega arith) (follows t (ready_lines types facts modes act rest uses (suc i) u k) temps s h)
      (λ aim b now aims kept since.
      after g (omega arith) (omega arith) (more uses (suc i) u k now b (stands_since h since))
      (λ r d last ready kept2 since2.
      answers (Aimed aim ∷ r) d last (omega arith)
      (aim, r, refl, aims_kept c top room names Open path t aim now last (λ j le less. value_before j less kept2) aims, ready)
      (kept_then (kept_wide (omega arith) (omega arith) kept) (kept_wide (omega arith) (omega arith) kept2)) (since_then since since2)))
