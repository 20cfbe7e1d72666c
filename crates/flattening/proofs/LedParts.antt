-- The lines of programs lead somewhere.
use Rattle.std.proofs.Common.{◌≡◌, ℕ, ◌⊎◌, inl, inr, Bool, true, false, List, [], ◌∷◌, ◌++◌, Option, Some, None, refl, arith}
use Rattle.std.specs.Prelude.{map, if◌then◌else◌}
use Rattle.std.proofs.lemmas.Bool.{and_from}
use Rattle.nim_types.specs.Types.{Ty, Facts}
use Rattle.nim_plan.specs.declared.plan.Plan.{Plan}
use Rattle.nim_program.specs.declared.program.HookOf.{HookOf}
use Rattle.nim_program.specs.declared.program.Mode.{Mode}
use Rattle.nim_program.specs.declared.stmt.Leaving.TheVariants.{Break, Continue, Return}
use Rattle.nim_program.specs.Program.{Declared, Param, Body, Proc, Program}
use Rattle.nim_meaning.specs.Here.{is_hooked}
use Rattle.flat_code.specs.declared.code.CodeProc.{CodeProc}
use Rattle.flat_code.specs.declared.line.Owning.TheVariants as W
use Rattle.flat_code.specs.declared.line.Line.{Line}
use Rattle.flat_code.specs.declared.line.Line.TheVariants as L
use Rattle.flat_code.specs.Codes.{flat_plain, proc_of, procs_of}
use Rattle.flat_code.specs.Scene.{Known}
use Rattle.flat_code.specs.Whole.{label_in, target, back_to, stands, all_lead, are_whole}
use Rattle.flattening.specs.Flattened.{modes_of}
use Rattle.flattening.specs.Given.{flat_body, flat_proc, flat_of}
use Rattle.flattening.specs.Numbering.{type_number}
use Rattle.flattening.specs.StmtLines.{place_end, param_ends, outermost, returned, number_of, body_lines}
use Rattle.flattening.proofs.Costs.{In, Costs, Kept, Rules, no_rules}
use Rattle.flattening.proofs.CostExprs.{find}
use Rattle.flattening.proofs.CostStmts.{Twice, ExitsPaid, block}
use Rattle.flattening.proofs.Led.{Found, here, Led, led_none, led_more, over, ◌>>◌, a_line, silent, ended, begun}
use Rattle.flattening.proofs.NameCosts.{name_costs}

in_front : (n : ℕ) (more names : List ℕ) → In n more → In n (more ++ names)
in_front n [] names i = absurd i
in_front n (m ∷ more) names (inl e) = inl e
in_front n (m ∷ more) names (inr i) = inr (in_front n more names i)

in_rest : (n : ℕ) (more names : List ℕ) → In n names → In n (more ++ names)
in_rest n [] names i = i
in_rest n (m ∷ more) names i = inr (in_rest n more names i)

in_either : (n : ℕ) (more names : List ℕ) → In n (more ++ names) → In n more ⊎ In n names
in_either n [] names i = inr i
in_either n (m ∷ more) names (inl e) = inl (inl e)
in_either n (m ∷ more) names (inr i) = next (in_either n more names i)
  where
    next : In n more ⊎ In n names → In n (m ∷ more) ⊎ In n names
    next (inl i) = inl (inr i)
    next (inr i) = inr i

stands_if : (k : List Line) (o : Option ℕ) → ((n : ℕ) → o ≡ Some n → Found n k) → stands label_in flat_plain k o ≡ true
stands_if k None h = refl
stands_if k (Some n) h = h n refl

-- the labels that stand behind lines, and before them
record Labels : Type 0 where
  after : List ℕ
  above : List ℕ

module _ (types : List Ty) (facts : Facts) (modes : (proc position : ℕ) → Mode) (whole : List Line) where
  -- nothing is counted
  costs : Costs types facts modes
  costs = name_costs types facts modes 0 (λ t. 0) (λ t. 0) (λ t. omega arith) (λ t. omega arith)

  abbrev E : Labels → (List Line → List Line) → Type 0
  E z front = Led whole (λ n. In n z.after) (λ n. In n z.above) front

  quiet : (z : Labels) (l : Line) → label_in l ≡ None → target l ≡ None → back_to l ≡ None → E z (λ k. l ∷ k)
  quiet z l e f g = silent whole (λ n. In n z.after) (λ n. In n z.above) l f g

  leads : (z : Labels) (l : Line) → ((n : ℕ) → target l ≡ Some n → In n z.after) → ((n : ℕ) → back_to l ≡ Some n → In n z.above) → E z (λ k. l ∷ k)
  leads z l to from =
      a_line whole (λ n. In n z.after) (λ n. In n z.above) l (λ k found. stands_if k (target l) (λ n e. found n (to n e)))
      (λ before. stands_if whole (back_to l) (λ n e. before n (from n e)))

  kept : Kept types facts modes costs
  unfolding costs name_costs
  kept = record {
    ground = record {
      World = Labels;
      Under = λ z z'. ((n : ℕ) → In n z.after → In n z'.after) × ((n : ℕ) → In n z.above → In n z'.above);
      self = λ z. ((λ n i. i), (λ n i. i));
      further = λ z z' z'' u v. ((λ n i. v.0 n (u.0 n i)), (λ n i. v.1 n (u.1 n i)));
      Free = λ z t. Unit {0};
      free = λ z z' t u f. tt;
      Stray = Unit {0};
      all_free = λ s z t. tt;
      no_value = λ s t. refl;
      Pays = λ z spare most front. E z front;
      none = λ z. led_none whole (λ n. In n z.after) (λ n. In n z.above);
      both = λ z r s a b F G p q. p >> q;
      most = λ z r a r' a' F le p. p;
      marked = λ z n. silent whole (λ n. In n z.after) (λ n. In n z.above) (L.Label n) refl refl;
      once = λ z t r a F go. go z ((λ n i. i), (λ n i. i)) tt;
    };
    Behind = λ z n. In n z.after;
    behind = λ z z' n u i. u.0 n i;
    Before = λ z n. In n z.above;
    before = λ z z' n u i. u.1 n i;
    plain = λ z l e f g h. leads z l g h;
    freed = λ z l t e f g h bare free. leads z l g h;
    given = λ z l t e q. quiet z l q.0 q.1 q.2;
    led = λ z l t e q. quiet z l q.0 q.1 q.2;
    ended = λ z n r a F go.
        ended whole (λ n. In n z.after) (λ n. In n z.above) n (go (record { after = n ∷ z.after; above = z.above }) ((λ m i. inr i), (λ m i. i)) (inl refl));
    begun = λ z n r a F go.
        begun whole (λ n. In n z.after) (λ n. In n z.above) n (go (record { after = z.after; above = n ∷ z.above }) ((λ m i. i), (λ m i. inr i)) (inl refl));
    There = λ n F. (k : List Line) → Found n (F k);
    here = λ n m e k. here m n k e;
    first = λ n F G h k. h (G k);
    past = λ z n r a F G p h k. p.keeps n (G k) (h k);
    within = λ z m n F go. go (record { after = m ∷ z.after; above = z.above }) ((λ m i. inr i), (λ m i. i)) (inl refl);
    over = λ z more r s a b F G go p h.
        over whole (λ n. In n z.after) (λ n. In n z.above) (λ n. In n more)
        (led_more whole (λ n i. in_either n more z.after i) (λ n i. i)
        (go (record { after = more ++ z.after; above = z.above }) ((λ n i. in_rest n more z.after i), (λ n i. i)) (λ n i. in_front n more z.after i))) p
        (λ n i k. h n i k);
  }

  twice : Twice types facts modes costs kept
  unfolding costs name_costs kept
  twice = λ z path t r a F go.
      record { paid = (go z ((λ n i. i), (λ n i. i)) 0 (λ z' u. record { paid = (find types facts modes costs kept z' path t).paid })).paid }

  rules : Rules kept.ground.Stray
  unfolding kept
  rules = no_rules (Unit {0}) tt

-- ---- a program

module _ (types : List Ty) (facts : Facts) (modes : (proc position : ℕ) → Mode) (params : List Param) (body : Body) where
  abbrev whole : List Line
  whole = body_lines types facts modes params body

  abbrev outside : Labels
  outside = record { after = []; above = [] }

  place_led : (z : Labels) (place : Declared) → E types facts modes whole z (place_end types facts place)
  place_led z place = at (is_hooked facts place.of)
    where
      at : (b : Bool) → E types facts modes whole z (λ k. if b then L.Own (W.PlaceEnds place.number (type_number types place.of)) [] ∷ k else k)
      at true = quiet types facts modes whole z (L.Own (W.PlaceEnds place.number (type_number types place.of)) []) refl refl refl
      at false = led_none whole (λ n. In n z.after) (λ n. In n z.above)

  params_led : (z : Labels) (some : List Param) → E types facts modes whole z (param_ends types facts some)
  params_led z [] = led_none whole (λ n. In n z.after) (λ n. In n z.above)
  params_led z (param ∷ some) = params_led z some >> place_led z param.place

  back_led : (z : Labels) → E types facts modes whole z (λ k. param_ends types facts params (returned body.result k))
  back_led z = params_led z params >> quiet types facts modes whole z (L.Return (number_of body.result)) refl refl refl

  around : (costs types facts modes whole).Ways
  unfolding costs name_costs
  around = tt

  ways_led : (z : (kept types facts modes whole).ground.World) →
      ExitsPaid types facts modes (costs types facts modes whole) (kept types facts modes whole) (rules types facts modes whole)
      (twice types facts modes whole) z (outermost (λ k. param_ends types facts params (returned body.result k))) around
  unfolding costs name_costs kept
  ways_led z Break y u = record { paid = led_none whole (λ n. In n y.after) (λ n. In n y.above) }
  ways_led z Continue y u = record { paid = led_none whole (λ n. In n y.after) (λ n. In n y.above) }
  ways_led z Return y u = record { paid = back_led y }

  body_leads : all_lead label_in flat_plain whole whole ≡ true
  unfolding costs name_costs kept rules
  body_leads =
      let inner = (block types facts modes (costs types facts modes whole) (kept types facts modes whole) (rules types facts modes whole)
      (twice types facts modes whole) body.result body.stmts (outermost (λ k. param_ends types facts params (returned body.result k))) around 0 tt outside
      (ways_led outside)).paid in
      (inner >> params_led outside params).all (returned body.result []) refl (λ n h. absurd h) (λ n h. absurd h) (λ n h. h) refl

module _ (program : Program) (plan : Plan) (known : Known) where
  proc_leads : (hook : Option HookOf) (params : List Param) (body : Option Body) →
      all_lead label_in flat_plain (flat_proc program plan hook params body).lines (flat_proc program plan hook params body).lines ≡ true
  proc_leads hook params None = refl
  proc_leads hook params (Some body) = body_leads program.types program.facts (modes_of program plan) params body

  all_whole : (procs : List Proc) (more : List (CodeProc Line)) → are_whole label_in flat_plain (map (proc_of known) more) ≡ true →
      are_whole label_in flat_plain (map (proc_of known) (map (λ (p : Proc). flat_proc program plan p.hook p.params p.body) procs ++ more)) ≡ true
  all_whole [] more rest = rest
  all_whole (p ∷ procs) more rest = and_from _ _ (proc_leads p.hook p.params p.body) (all_whole procs more rest)

  pub code_whole : are_whole (λ line. label_in (flat_plain line)) flat_plain (procs_of known (flat_of program plan)) ≡ true
  code_whole =
      all_whole program.procs (flat_body program plan None [] program.start ∷ [])
      (and_from _ _ (body_leads program.types program.facts (modes_of program plan) [] program.start) refl)
