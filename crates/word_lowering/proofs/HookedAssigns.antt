-- Assignments of what has hooks: a hook is called, by which the place gets a copy, or takes the value over from its temporary.
use Rattle.std.proofs.Common.{◌≡◌, ◌⊎◌, inl, inr, ℕ, List, [], ◌∷◌, map, Bool, true, false, Option, Some, None, refl, sym, ap, ap₂, subst, ◌∙◌}
use Rattle.std.specs.Prelude.{◌&&◌, ◌||◌, option_map}
use Rattle.std.proofs.lemmas.Bool.{and_parts}
use Rattle.nim_types.specs.Table.{facts_in, type_at, types_in}
use Rattle.nim_types.specs.Types.{Facts, Ty}
use Rattle.nim_program.specs.Kinds.{same_value}
use Rattle.nim_program.specs.View.{if_type}
use Rattle.nim_program.specs.declared.operation.Operation.TheVariants as O
use Rattle.nim_meaning.specs.Deeds.{Deed, behind, branch, costs, give, looks, perform, unless_gone, ◌>>=◌}
use Rattle.nim_meaning.specs.Here.{any_hooked, gives_hooked}
use Rattle.nim_meaning.specs.Lifted.{assigns}
use Rattle.nim_meaning.specs.OwnedRows.{owned}
use Rattle.nim_meaning.specs.Places.{kept_if, may_change}
use Rattle.nim_meaning.specs.Table.{does}
use Rattle.nim_meaning.specs.State.{is_seen}
use Rattle.nim_meaning.specs.Texts.{are_seen}
use Rattle.nim_meaning.specs.Values.{At, Given, Operand, Value, nothing}
use Rattle.flat_code.specs.declared.block.BlockLine.{BlockLine}
use Rattle.flat_code.specs.declared.line.From.{From}
use Rattle.flat_code.specs.declared.line.From.TheVariants as F
use Rattle.flat_code.specs.declared.line.UseAt.{UseAt}
use Rattle.flat_code.specs.Codes.{block_plain}
use Rattle.flat_code.specs.Fits.{is_location, is_value}
use Rattle.flat_code.specs.Lines.{form_in, gives, traded, using, using_all, without_all}
use Rattle.flat_code.specs.Running.{scene_of}
use Rattle.flat_code.specs.Scene.{Did, Passes, Temps, Where, known_in, location_at, with_value}
use Rattle.flat_code.specs.Shapes.{shape_of}
use Rattle.hook_lifting.specs.declared.lifted.Hook.TheVariants.{Assigns, Sinks}
use Rattle.word_lowering.specs.HookCalled.{hook_called}
use Rattle.word_lowering.specs.LineCode.{assigned_code, label_before, location, operands, row_code, value}
use Rattle.word_lowering.specs.Stored.{is_hooked}
use Rattle.word_lowering.proofs.AddressFacts.{AtAddress}
use Rattle.word_lowering.proofs.ApplyFits.{apply_line}
use Rattle.word_lowering.proofs.Gets.{nothing_temps}
use Rattle.word_lowering.proofs.GoneWalks.{IsUnwaited, not_seen, nothing_waits}
use Rattle.word_lowering.proofs.HandAssigns.{assign_given_settles, before, before_good, none_before}
use Rattle.word_lowering.proofs.HookAssigns.{assign_settles}
use Rattle.word_lowering.proofs.HookBasis.{HookBasis, first_hook, hand_routines, room_here, routines_here}
use Rattle.word_lowering.proofs.HookCalls.{IsArgument}
use Rattle.word_lowering.proofs.HookedHere.{hooked_named}
use Rattle.word_lowering.proofs.HookedLines.{small_at, source_at, value_inside, value_look}
use Rattle.word_lowering.proofs.HookedSources.{led_argument}
use Rattle.word_lowering.proofs.HookedTypes.{HookedType, chain_few}
use Rattle.word_lowering.proofs.LineFits.{are_of, same_type}
use Rattle.word_lowering.proofs.Lines.{Basis, Completes, IsGood, Settles, bound_for, completes_quiet, known, starts, where_there, Whole}
use Rattle.word_lowering.proofs.Options.{none_some}
use Rattle.word_lowering.proofs.OwnedFits.{FitsRow, fits_row}
use Rattle.word_lowering.proofs.Related.{Both, body_of, high}
use Rattle.word_lowering.proofs.Scenes.{IsThere, house, looked, of_location, of_value}
use Rattle.word_lowering.proofs.Settling.{code_here, code_next}
use Rattle.word_lowering.proofs.ShapeFacts.{never, of_numbers}
use Rattle.word_lowering.proofs.Sites.{InMemory, around}
use Rattle.word_lowering.proofs.Targets.{home_of_value, no_target}
use Rattle.word_lowering.proofs.ValueFacts.{has_type, type_in}

one_hooked : (a b : Bool) → b ≡ a → ((a || (b || false)) || false) ≡ true → a ≡ true
one_hooked true b e h = refl
one_hooked false true e h = never (sym e)
one_hooked false false e h = h

none_right : (a : Bool) → (a && false) ≡ false
none_right true = refl
none_right false = refl

module _ (x : Basis) (b : HookBasis x) (g : Both) (rest : List BlockLine) (to : ℕ) (how : UseAt) (n : ℕ) (other_ty : Option ℕ) where
  abbrev of : Ty
  of = type_at (types_in x.table) n

  abbrev types : List (Option Ty)
  types = map (if_type (known x).types) (Some n ∷ other_ty ∷ [])

  abbrev line_of : List From → BlockLine
  line_of from = apply_line x g rest to O.Assign how None (Some n ∷ other_ty ∷ []) from

  -- what the row does, by what it hands over and whether a type of it has hooks
  abbrev does_so : List From → (hooked : Bool) → List Operand → Did
  does_so from hooked xs =
      gives (without_all (traded hooked O.Assign from) (scene_of (high x.table x.blocks (starts g (line_of from) rest)))) to
      (costs 1 (branch hooked (looks (λ world. unless_gone (are_seen world xs)
      (owned O.Assign (facts_in x.table) None types xs (does O.Assign (facts_in x.table) None types xs))))
      (does O.Assign (facts_in x.table) None types xs)) >>= kept_if false (bound_for g how))

  module _ (is : is_hooked x.table n ≡ true) (l : ℕ) (operand : From) (y : IsGood x (starts g (line_of (F.Place l ∷ operand ∷ [])) rest))
      (l_typed : type_in x is_location (body_of g) l ≡ Some of) (none : type_in x is_value (body_of g) to ≡ None) where
    abbrev line : BlockLine
    line = line_of (F.Place l ∷ operand ∷ [])

    abbrev here : Both
    here = starts g line rest

    h : HookedType x n
    h = hooked_named x g.call.site y.linked.0 (of_location l) n l_typed is

    -- operands that aren't seen
    unseen : (temps : Temps) (deed : Deed Value) (xs : List Operand) → are_seen g.world xs ≡ false → Settles x here rest (Passes (behind [] 1 (perform
        (unless_gone (are_seen g.world xs) deed >>= kept_if false (bound_for g how) >>= (λ v. give (with_value to temps v))) g.world)))
    unseen temps deed xs e =
        subst (λ seen. Settles x here rest (Passes (behind [] 1 (perform
        (unless_gone seen deed >>= kept_if false (bound_for g how) >>= (λ v. give (with_value to temps v))) g.world)))) (sym e) (λ before. tt)

    -- the text of a literal, which nothing changes
    unchanged : (temps : Temps) (deed : Deed Value) (xs : List Operand) → Settles x here rest (Passes (behind [] 1 (perform
        (unless_gone (are_seen g.world xs) (unless_gone false deed) >>= kept_if false (bound_for g how) >>= (λ v. give (with_value to temps v))) g.world)))
    unchanged temps deed xs =
        where_there x here rest (are_seen g.world xs) (λ seen. Passes (behind [] 1 (perform
        (unless_gone seen (unless_gone false deed) >>= kept_if false (bound_for g how) >>= (λ v. give (with_value to temps v))) g.world)))
        (λ before. tt) (λ seen before. tt)

    -- from a location
    module _ (m : ℕ) (is_place : operand ≡ F.Place m) (m_typed : type_in x is_location (body_of g) m ≡ Some of) (there other : Where)
        (e : g.call.temps.places l ≡ Some there) (f : g.call.temps.places m ≡ Some other)
        (code : code_here x g line rest y ≡ hook_called (first_hook x) Assigns n (location (around x.table x.blocks (body_of g)) l).home
        (location (around x.table x.blocks (body_of g)) m).home (code_next x g line rest y)) where
      abbrev xs : List Operand
      xs = At (location_at g.call.temps there) ∷ At (location_at g.call.temps other) ∷ []

      -- what it does, if that place may change
      abbrev Row : Bool → Type 0
      Row may = Settles x here rest (gives (scene_of (high x.table x.blocks here)) to (costs 1 (looks (λ world. unless_gone (are_seen world xs)
          (unless_gone may (assigns (form_in (known_in x.table) n) (location_at g.call.temps there) (At (location_at g.call.temps other))))))
          >>= kept_if false (bound_for g how)))

      copies_there : may_change (location_at g.call.temps there).base ≡ true → Row true
      copies_there may =
          let s = source_at x b g line rest y n h l l_typed there e in
          let u = source_at x b g line rest y n h m m_typed other f in
          by s u (led_argument x g line rest y b.is_table b.have n h.numbers g.call.site g.call.temps true there s.address may s.leads_to)
          (led_argument x g line rest y b.is_table b.have n h.numbers g.call.site g.call.temps false other u.address tt u.leads_to)
        where
          deed : Deed Value
          deed = assigns (form_in (known_in x.table) n) (location_at g.call.temps there) (At (location_at g.call.temps other))

          by : (s : AtAddress x g line rest y (location (around x.table x.blocks (body_of g)) l) there (shape_of (facts_in x.table) of))
              (u : AtAddress x g line rest y (location (around x.table x.blocks (body_of g)) m) other (shape_of (facts_in x.table) of))
              → IsArgument x g line rest y b.is_table b.have true (location_at g.call.temps there) s.address n ⊎ IsUnwaited g.world
              (location_at g.call.temps there)
              → IsArgument x g line rest y b.is_table b.have false (location_at g.call.temps other) u.address n ⊎ IsUnwaited g.world
              (location_at g.call.temps other)
              → Row true
          by s u (inl p) (inl q) =
              assign_settles x g line rest y b.is_table b.have b.short (first_hook x) (routines_here x b g line rest y) b.hooks_there n h.def h.entry h.hooks
              h.built (location_at g.call.temps there) (location_at g.call.temps other) s.address u.address s.home u.home p q s.high_is u.high_is s.points
              u.points (room_here x b g line rest y Assigns n (chain_few x n h Assigns)) h.levels
              (code ∙ ap₂ (λ j k. hook_called (first_hook x) Assigns n j k (code_next x g line rest y)) s.home_is u.home_is) to
              (nothing_temps x g line rest y to nothing (no_target x g line rest y to none)) (bound_for g how) xs
          by s u (inr gone) q =
              unseen g.call.temps deed xs (ap (λ c. c && (is_seen g.world (location_at g.call.temps other) && true))
              (not_seen g.world (location_at g.call.temps there) (nothing_waits g.world (location_at g.call.temps there) gone)))
          by s u (inl p) (inr gone) =
              unseen g.call.temps deed xs (ap (λ c. is_seen g.world (location_at g.call.temps there) && (c && true))
              (not_seen g.world (location_at g.call.temps other) (nothing_waits g.world (location_at g.call.temps other) gone))
              ∙ none_right (is_seen g.world (location_at g.call.temps there)))

      pub assigns_copy : Row (may_change (location_at g.call.temps there).base)
      assigns_copy = by (may_change (location_at g.call.temps there).base) refl
        where
          by : (may : Bool) → may_change (location_at g.call.temps there).base ≡ may → Row may
          by true e = copies_there e
          by false e =
              unchanged g.call.temps (assigns (form_in (known_in x.table) n) (location_at g.call.temps there) (At (location_at g.call.temps other))) xs

    -- from a value, which its temporary has no more
    module _ (t : ℕ) (t_typed : type_in x is_value (body_of g) t ≡ Some of) (t_there : IsThere g.call.site (of_value t)) (there : Where) (v : Value)
        (e : g.call.temps.places l ≡ Some there) (has : g.call.temps.values t ≡ Some v)
        (code : code_here x g line rest y ≡ hook_called (first_hook x) Sinks n (location (around x.table x.blocks (body_of g)) l).home
        (house g.call.site (of_value t)).home (code_next x g line rest y)) where
      pub t_hooked : of_numbers (looked x.table g.call.site (of_value t)) ≡ false
      t_hooked = ap of_numbers (value_look x b g line rest y n h t t_typed) ∙ h.numbers

      pub t_inside : InMemory (house g.call.site (of_value t)).home
      t_inside = value_inside x b g line rest y n h t t_there t_typed

      abbrev left : Both
      left = before x g line rest y b.is_table b.have t v has t_there t_inside t_hooked

      abbrev gets : List Operand
      gets = At (location_at g.call.temps there) ∷ Given v ∷ []

      abbrev Takes : Bool → Type 0
      Takes may = Settles x here rest (gives (record (scene_of (high x.table x.blocks here)) { temps = left.call.temps }) to
          (costs 1 (looks (λ world. unless_gone (are_seen world gets)
          (unless_gone may (assigns (form_in (known_in x.table) n) (location_at g.call.temps there) (Given v))))) >>= kept_if false (bound_for g how)))

      given_there : may_change (location_at g.call.temps there).base ≡ true → Takes true
      given_there may =
          let s = source_at x b g line rest y n h l l_typed there e in
          by s (led_argument x left line rest (before_good x g line rest y b.is_table b.have t v has t_there t_inside t_hooked) b.is_table b.have n h.numbers
          g.call.site g.call.temps true there s.address may s.leads_to)
        where
          by : (s : AtAddress x g line rest y (location (around x.table x.blocks (body_of g)) l) there (shape_of (facts_in x.table) of))
              → IsArgument x left line rest (before_good x g line rest y b.is_table b.have t v has t_there t_inside t_hooked) b.is_table b.have true
              (location_at g.call.temps there) s.address n ⊎ IsUnwaited g.world (location_at g.call.temps there) → Takes true
          by s (inl p) =
              assign_given_settles x g line rest y b.is_table b.have t v has t_there t_inside t_hooked b.short (first_hook x)
              (hand_routines x b left line rest (before_good x g line rest y b.is_table b.have t v has t_there t_inside t_hooked) t t_there t_inside
              (none_before x g line rest y b.is_table b.have t v has t_there t_inside t_hooked) t_hooked v) b.hooks_there n h.def h.entry h.hooks h.built
              (value_look x b g line rest y n h t t_typed) (small_at x b g line rest y n h (of_value t) t_there t_inside) (location_at g.call.temps there)
              s.address p (room_here x b g line rest y Sinks n (chain_few x n h Sinks)) h.levels s.home s.points
              (code ∙ ap (λ j. hook_called (first_hook x) Sinks n j (house g.call.site (of_value t)).home (code_next x g line rest y)) s.home_is) to
              (bound_for g how) gets
              (nothing_temps x left line rest (before_good x g line rest y b.is_table b.have t v has t_there t_inside t_hooked) to nothing
              (no_target x g line rest y to none))
          by s (inr gone) =
              unseen left.call.temps (assigns (form_in (known_in x.table) n) (location_at g.call.temps there) (Given v)) gets
              (ap (λ c. c && are_seen g.world (Given v ∷ []))
              (not_seen g.world (location_at g.call.temps there) (nothing_waits g.world (location_at g.call.temps there) gone)))

      pub assigns_given : Takes (may_change (location_at g.call.temps there).base)
      assigns_given = by (may_change (location_at g.call.temps there).base) refl
        where
          by : (may : Bool) → may_change (location_at g.call.temps there).base ≡ may → Takes may
          by true e = given_there e
          by false e = unchanged left.call.temps (assigns (form_in (known_in x.table) n) (location_at g.call.temps there) (Given v)) gets

module _ (x : Basis) (b : HookBasis x) (g : Both) (rest : List BlockLine) (to : ℕ) (how : UseAt) where
  abbrev facts : Facts
  facts = facts_in x.table

  abbrev assign_line : Option ℕ → List (Option ℕ) → List From → BlockLine
  assign_line ty of from = apply_line x g rest to O.Assign how ty of from

  -- with two operands, of one type with hooks
  module _ (n : ℕ) (other_ty : Option ℕ) (hooks : (any_hooked facts (map (if_type (known x).types) (Some n ∷ other_ty ∷ [])) || false) ≡ true)
      (same : if_type (known x).types other_ty ≡ Some (type_at (types_in x.table) n)) where
    abbrev both_ty : Ty
    both_ty = type_at (types_in x.table) n

    abbrev all_types : List (Option Ty)
    all_types = map (if_type (known x).types) (Some n ∷ other_ty ∷ [])

    given_hooks : gives_hooked facts (Some both_ty) ≡ true
    given_hooks = one_hooked (gives_hooked facts (Some both_ty)) (gives_hooked facts (if_type (known x).types other_ty)) (ap (gives_hooked facts) same) hooks

    is : is_hooked x.table n ≡ true
    is = x.hooks n ∙ given_hooks

    any_is : any_hooked facts all_types ≡ true
    any_is = ap (λ c. c || any_hooked facts (if_type (known x).types other_ty ∷ [])) given_hooks

    abbrev Does : List From → Bool → Type 0
    Does from hooked =
        Completes x (starts g (assign_line None (Some n ∷ other_ty ∷ []) from) rest) rest
        (using_all g.call.temps from (does_so x b g rest to how n other_ty from hooked))

    two_operands : (from : List From) → Whole x g rest (assign_line None (Some n ∷ other_ty ∷ []) from)
    two_operands [] y = never (fits_row x g rest to O.Assign how None (Some n ∷ other_ty ∷ []) [] y).typed
    two_operands (f ∷ []) y = never (and_parts _ _ (fits_row x g rest to O.Assign how None (Some n ∷ other_ty ∷ []) (f ∷ []) y).typed).1
    two_operands (f ∷ k ∷ m ∷ from) y =
        never (and_parts _ _ (and_parts _ _ (fits_row x g rest to O.Assign how None (Some n ∷ other_ty ∷ []) (f ∷ k ∷ m ∷ from) y).typed).1).1
    two_operands (F.Value t ∷ k ∷ []) y = never (fits_row x g rest to O.Assign how None (Some n ∷ other_ty ∷ []) (F.Value t ∷ k ∷ []) y).placed
    two_operands (F.Place l ∷ F.Place m ∷ []) y = subst (Does from) (sym any_is) (by (g.call.temps.places l) refl)
      where
        from : List From
        from = F.Place l ∷ F.Place m ∷ []

        line : BlockLine
        line = assign_line None (Some n ∷ other_ty ∷ []) from

        fits : FitsRow x g rest to O.Assign how None (Some n ∷ other_ty ∷ []) from y
        fits = fits_row x g rest to O.Assign how None (Some n ∷ other_ty ∷ []) from y

        first : Where → Operand
        first there = At (location_at g.call.temps there)

        l_typed : type_in x is_location (body_of g) l ≡ Some both_ty
        l_typed = same_type (type_in x is_location (body_of g) l) (Some both_ty)
            (and_parts (same_value (type_in x is_location (body_of g) l) (Some both_ty)) _ fits.typed).0

        m_typed : type_in x is_location (body_of g) m ≡ Some both_ty
        m_typed = same_type (type_in x is_location (body_of g) m) (if_type (known x).types other_ty)
            (and_parts (same_value (type_in x is_location (body_of g) m) (if_type (known x).types other_ty)) _
            (and_parts (same_value (type_in x is_location (body_of g) l) (Some both_ty)) _ fits.typed).1).0 ∙ same

        by_other : (there : Where) → g.call.temps.places l ≡ Some there → (o : Option Where) → g.call.temps.places m ≡ o → Completes x (starts g line rest) rest
            (using (option_map first o) (λ v. does_so x b g rest to how n other_ty from true (first there ∷ v ∷ [])))
        by_other there e None f = λ before. tt
        by_other there e (Some other) f =
            completes_quiet x g line rest (does_so x b g rest to how n other_ty from true (first there ∷ first other ∷ [])) refl
            (assigns_copy x b g rest to how n other_ty is l (F.Place m) y l_typed (same_type (type_in x is_value (body_of g) to) None fits.given) m refl m_typed
            there other e f (ap (λ c. assigned_code (around x.table x.blocks (body_of g)) c
            (row_code (around x.table x.blocks (body_of g)) O.Assign (label_before (map block_plain rest)) None (Some n ∷ other_ty ∷ [])
            (value (around x.table x.blocks (body_of g)) to) (operands (around x.table x.blocks (body_of g)) from)) (Some n) from
            (code_next x g line rest y)) is))

        by : (o : Option Where) → g.call.temps.places l ≡ o → Completes x (starts g line rest) rest
            (using (option_map first o) (λ u. using (option_map first (g.call.temps.places m))
            (λ v. does_so x b g rest to how n other_ty from true (u ∷ v ∷ []))))
        by None e = λ before. tt
        by (Some there) e = by_other there e (g.call.temps.places m) refl
    two_operands (F.Place l ∷ F.Value t ∷ []) y = subst (Does from) (sym any_is) (by (g.call.temps.places l) refl)
      where
        from : List From
        from = F.Place l ∷ F.Value t ∷ []

        line : BlockLine
        line = assign_line None (Some n ∷ other_ty ∷ []) from

        fits : FitsRow x g rest to O.Assign how None (Some n ∷ other_ty ∷ []) from y
        fits = fits_row x g rest to O.Assign how None (Some n ∷ other_ty ∷ []) from y

        first : Where → Operand
        first there = At (location_at g.call.temps there)

        l_typed : type_in x is_location (body_of g) l ≡ Some both_ty
        l_typed = same_type (type_in x is_location (body_of g) l) (Some both_ty)
            (and_parts (same_value (type_in x is_location (body_of g) l) (Some both_ty)) _ fits.typed).0

        t_typed : type_in x is_value (body_of g) t ≡ Some both_ty
        t_typed = same_type (type_in x is_value (body_of g) t) (if_type (known x).types other_ty)
            (and_parts (same_value (type_in x is_value (body_of g) t) (if_type (known x).types other_ty)) _
            (and_parts (same_value (type_in x is_location (body_of g) l) (Some both_ty)) _ fits.typed).1).0 ∙ same

        t_there : IsThere g.call.site (of_value t)
        t_there = home_of_value x g line rest y t (inl refl) (has_type x g.call.site (of_value t) both_ty y.linked.0 t_typed).named

        by_other : (there : Where) → g.call.temps.places l ≡ Some there → (o : Option Value) → g.call.temps.values t ≡ o → Completes x (starts g line rest) rest
            (using (option_map Given o) (λ v. does_so x b g rest to how n other_ty from true (first there ∷ v ∷ [])))
        by_other there e None f = λ before. tt
        by_other there e (Some v) f =
            completes_quiet x g line rest (does_so x b g rest to how n other_ty from true (first there ∷ Given v ∷ [])) refl
            (assigns_given x b g rest to how n other_ty is l (F.Value t) y l_typed (same_type (type_in x is_value (body_of g) to) None fits.given) t
            t_typed t_there
            there v e f (ap (λ c. assigned_code (around x.table x.blocks (body_of g)) c
            (row_code (around x.table x.blocks (body_of g)) O.Assign (label_before (map block_plain rest)) None (Some n ∷ other_ty ∷ [])
            (value (around x.table x.blocks (body_of g)) to) (operands (around x.table x.blocks (body_of g)) from)) (Some n) from
            (code_next x g line rest y)) is))

        by : (o : Option Where) → g.call.temps.places l ≡ o → Completes x (starts g line rest) rest
            (using (option_map first o) (λ u. using (option_map Given (g.call.temps.values t))
            (λ v. does_so x b g rest to how n other_ty from true (u ∷ v ∷ []))))
        by None e = λ before. tt
        by (Some there) e = by_other there e (g.call.temps.values t) refl

  -- whatever it names: no other line of an assignment fits
  pub assign_whole : (ty : Option ℕ) (of : List (Option ℕ)) (from : List From)
      → (any_hooked facts (map (if_type (known x).types) of) || gives_hooked facts (if_type (known x).types ty)) ≡ true
      → Whole x g rest (assign_line ty of from)
  assign_whole (Some n) of from h y = never (fits_row x g rest to O.Assign how (Some n) of from y).row
  assign_whole None [] from h y = never (fits_row x g rest to O.Assign how None [] from y).row
  assign_whole None (a ∷ []) from h y = never (fits_row x g rest to O.Assign how None (a ∷ []) from y).row
  assign_whole None (a ∷ c ∷ d ∷ of) from h y = never (fits_row x g rest to O.Assign how None (a ∷ c ∷ d ∷ of) from y).row
  assign_whole None (None ∷ c ∷ []) from h y =
      let f = are_of (if_type (known x).types c) None (fits_row x g rest to O.Assign how None (None ∷ c ∷ []) from y).row in
      absurd (none_some f.ty f.is_other)
  assign_whole None (Some n ∷ c ∷ []) from h y =
      let f = are_of (if_type (known x).types c) (Some (type_at (types_in x.table) n)) (fits_row x g rest to O.Assign how None (Some n ∷ c ∷ []) from y).row in
      two_operands n c h (f.is ∙ sym f.is_other) from y
