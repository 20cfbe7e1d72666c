-- The names that the lines of a body give are those of its numbers; and each is given alike.
use Rattle.std.proofs.Common.{◌≡◌, ℕ, suc, ◌+◌, ◌<◌, ◌⊎◌, inl, inr, Bool, true, false, List, [], ◌∷◌, Option, Some, refl, ap, arith}
use Rattle.std.specs.Prelude.{nat_eq, if◌then◌else◌}
use Rattle.std.proofs.lemmas.Bool.{eqb-true, ne_eqb}
use Rattle.nim_types.specs.Types.{Ty, Facts}
use Rattle.nim_program.specs.declared.program.Mode.{Mode}
use Rattle.nim_program.specs.declared.stmt.Leaving.TheVariants.{Break, Continue, Return}
use Rattle.nim_program.specs.Program.{Path, Variable, Fresh, Field, Element, Deref, Declared, Stmts, Param, constant_in}
use Rattle.nim_meaning.specs.Here.{is_hooked}
use Rattle.flat_code.specs.declared.line.Owning.TheVariants as W
use Rattle.flat_code.specs.declared.line.Line.{Line}
use Rattle.flat_code.specs.declared.line.Line.TheVariants as L
use Rattle.flat_code.specs.Alike.{value_name, location_name, label_name, name_of, gives_text, IsProperty}
use Rattle.flattening.specs.ExprLines.{find_lines, begin_line}
use Rattle.flattening.specs.Numbering.{type_number, width_at, width_of}
use Rattle.flattening.specs.StmtLines.{place_end, param_ends, returned, lines_of, number_of, outermost}
use Rattle.flattening.proofs.Costs.{steps, Costs, Counted, Kept, kept_of, Rules}
use Rattle.flattening.proofs.CostExprs.{find}
use Rattle.flattening.proofs.CostStmts.{Twice, ExitsPaid, block}
use Rattle.flattening.proofs.LineNames.{begin_name}
use Rattle.flattening.proofs.NameCosts.{name_costs}
use Rattle.flattening.proofs.Tallies.{Tally, tally_none, ◌>>◌, tally_most, Flags, flag, count, is_it, upto, value, led, tally, Free}
use Rattle.flattening.proofs.Tallies.{tally_plain, tally_line, tally_free, tally_led, once, once_as}

module _ (types : List Ty) (facts : Facts) (modes : (proc position : ℕ) → Mode) (name : ℕ) (has : Line → (behind : List Line) → Bool) (of_values : Bool)
    (is : IsProperty has of_values) where
  abbrev T : Flags → (spare most : ℕ) → (List Line → List Line) → Type 0
  T z spare most front = Tally (tally name has of_values is z) spare most front

  costs : Costs types facts modes
  costs = name_costs types facts modes name (value name) (led name) (λ t. omega arith) (λ t. omega arith)

  freed : (z : Flags) (l : Line) (t : ℕ) → name_of l ≡ Some (value_name t) → ⊥ ⊎ (gives_text l ≡ false) → Free name has of_values is z t → T z 0 0 (λ k. l ∷ k)
  freed z l t e (inl stray) free = absurd stray
  freed z l t e (inr bare) free = tally_free name has of_values is z l t e bare free

  -- a typed program's lines alone
  counted : Counted types facts modes costs
  unfolding costs name_costs
  counted = record {
    ground = record {
      World = Flags;
      Under = λ z z'. (c : Bool) → flag z c ≡ true → flag z' c ≡ true;
      self = λ z c h. h;
      further = λ z z' z'' u v c h. v c (u c h);
      Free = λ z t. Free name has of_values is z t;
      free = λ z z' t u f e. u of_values (f e);
      Stray = ⊥;
      all_free = λ stray z t. absurd stray;
      no_value = λ stray t. absurd stray;
      Pays = T;
      none = λ z. tally_none;
      both = λ z r s a b F G p q. p >> q;
      most = λ z r a r' a' F le p. tally_most r' a' le p;
      marked = λ z n. tally_line name has of_values is z (L.Label n) (label_name n) refl;
      once = λ z t r a F go. once name has of_values is z t r a go;
    };
    plain = λ z l e f. tally_plain name has of_values is z l e;
    freed = λ z l t e f bare free. freed z l t e bare free;
    given = λ z l t e f. tally_most 0 (0 + value name t) (omega arith) (tally_line name has of_values is z l (value_name t) e);
    led = λ z l t e f. tally_line name has of_values is z l (location_name t) e;
  }

  abbrev kept : Kept types facts modes costs
  kept = kept_of types facts modes costs counted

  -- ---- a path that is looked up twice, by the same lines

  abbrev cost : Path → (t : ℕ) → ℕ
  cost path t = steps types facts (λ l t. led name t) path t

  led_zero : (t : ℕ) → name < location_name t → led name t ≡ 0
  unfolding is_it
  led_zero t less = ap count (ne_eqb (location_name t) name (λ e. absurd (omega (arith, less, e))))

  find_zero : (path : Path) (t : ℕ) → name < location_name t → cost path t ≡ 0
  find_zero (Variable node ty place global) t less = led_zero t less
  find_zero (Fresh e) t less = led_zero t less
  find_zero (Field node ty base field) t less =
      omega (arith, find_zero base (suc t) (omega (arith, less)), led_zero t less)
  find_zero (Element node ty base index constant) t less =
      omega (arith, find_zero base (suc t) (omega (arith, less)), led_zero t less)
  find_zero (Deref ty base) t less = omega (arith, find_zero base (suc t) (omega (arith, less)), led_zero t less)

  found_cost : (z : Flags) (path : Path) (t : ℕ) → T z 0 (cost path t) (find_lines types facts path t)
  unfolding costs name_costs counted
  found_cost z path t = (find types facts modes costs kept z path t).paid

  -- its lines are free where a flag says that what they give is given so
  abbrev Found : Path → (t : ℕ) → Type 0
  Found path t = (b : Bool) × ((z : Flags) → flag z b ≡ true → T z 0 0 (find_lines types facts path t))

  -- one more step
  step_found : (base : Path) (t : ℕ) (line : Line) → name_of line ≡ Some (location_name t) → Found base (suc t) →
      (b : Bool) × ((z : Flags) → flag z b ≡ true → T z 0 0 (λ k. find_lines types facts base (suc t) (line ∷ k)))
  unfolding is_it
  step_found base t line e found = at (nat_eq (location_name t) name) refl
    where
      at : (c : Bool) → nat_eq (location_name t) name ≡ c →
          (b : Bool) × ((z : Flags) → flag z b ≡ true → T z 0 0 (λ k. find_lines types facts base (suc t) (line ∷ k)))
      at true same = (
        has line [],
        λ z flagged. tally_most 0 0 (omega (arith, find_zero base (suc t) (omega (arith, eqb-true (location_name t) name same))))
            (found_cost z base (suc t) >> tally_led name has of_values is z line t e flagged),
      )
      at false other =
          let h : led name t ≡ 0 = ap count other in
          (found.0, λ z flagged. tally_most 0 0 (omega (arith, h)) (found.1 z flagged >> tally_line name has of_values is z line (location_name t) e))

  find_found : (path : Path) (t : ℕ) → Found path t
  find_found (Variable node ty place global) t =
      (has (L.Root t place global) [], λ z flagged. tally_led name has of_values is z (L.Root t place global) t refl flagged)
  find_found (Fresh e) t =
      let line = begin_line types facts (constant_in e) e t in
      (has line [], λ z flagged. tally_led name has of_values is z line t (begin_name types facts modes (constant_in e) e t).0 flagged)
  find_found (Field node ty base field) t = step_found base t (L.Part t (suc t) field) refl (find_found base (suc t))
  find_found (Element node ty base index constant) t =
      step_found base t (L.Item t (suc t) (suc t + width_at base)) refl (find_found base (suc t))
  find_found (Deref ty base) t = step_found base t (L.Object t (suc t)) refl (find_found base (suc t))

  twice : Twice types facts modes costs kept
  unfolding costs name_costs counted
  twice = λ z path t r a F go.
      let c = cost path t in
      let found = find_found path t in
      record {
        paid = tally_most r _ (omega arith) (once_as name has of_values is z found.0 c r a
            (λ z' keeps flagged. tally_most r a (omega arith) (go z' keeps 0 (λ z'' u. record { paid = found.1 z'' (u found.0 flagged) })).paid)
            (λ zero. tally_most r a (omega arith)
            (go z (λ c h. h) 0 (λ z'' u. record { paid = tally_most 0 0 (omega (arith, zero)) (found_cost z'' path t) })).paid));
      }

  -- ---- a body

  place_tally : (z : Flags) (place : Declared) → T z 0 0 (place_end types facts place)
  place_tally z place = at (is_hooked facts place.of)
    where
      line : Line
      line = L.Own (W.PlaceEnds place.number (type_number types place.of)) []

      at : (b : Bool) → T z 0 0 (λ k. if b then line ∷ k else k)
      at true = tally_plain name has of_values is z line refl
      at false = tally_none

  params_tally : (z : Flags) (params : List Param) → T z 0 0 (param_ends types facts params)
  params_tally z [] = tally_none
  params_tally z (param ∷ params) = params_tally z params >> place_tally z param.place

  back_tally : (z : Flags) (params : List Param) (result : Option Declared) → T z 0 0 (λ k. param_ends types facts params (returned result k))
  back_tally z params result = params_tally z params >> tally_plain name has of_values is z (L.Return (number_of result)) refl

  around : costs.Ways
  unfolding costs name_costs
  around = tt

  -- what a typed program's statements are
  module _ (rules : Rules ⊥) where
    typed : Rules kept.ground.Stray
    unfolding counted
    typed = rules

    ways_named : (params : List Param) (result : Option Declared) (z : kept.ground.World) →
        ExitsPaid types facts modes costs kept typed twice z (outermost (λ k. param_ends types facts params (returned result k))) around
    unfolding costs name_costs counted
    ways_named params result z Break y u = record { paid = tally_none }
    ways_named params result z Continue y u = record { paid = tally_none }
    ways_named params result z Return y u = record { paid = back_tally y params result }

    pub body_named : (params : List Param) (result : Option Declared) (b : Stmts) → rules.AllRight b → (z : Flags) →
        T z (upto name 0) (upto name (0 + width_of b))
        (λ k. lines_of types facts modes result b (outermost (λ k. param_ends types facts params (returned result k))) 0
        (param_ends types facts params (returned result k)))
    unfolding costs name_costs counted typed
    body_named params result b s z =
        tally_most _ _ (omega arith)
        ((block types facts modes costs kept typed twice result b (outermost (λ k. param_ends types facts params (returned result k))) around 0 s z
        (ways_named params result z)).paid
        >> back_tally z params result)
