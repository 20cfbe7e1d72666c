-- The lines of each hook do its walk.
use Rattle.std.proofs.Common.{◌≡◌, ℕ, zero, suc, ◌+◌, ◌*◌, ◌≤◌, Bool, true, false, List, [], ◌∷◌, Some, None, refl, sym, ap, ◌∙◌, subst, arith}
use Rattle.std.specs.Prelude.{pos, if◌then◌else◌, slice_get}
use Rattle.std.proofs.lemmas.Bool.{false≢true, and_parts}
use Rattle.nim_types.specs.Types.{Ty, Facts}
use Rattle.nim_types.specs.Types as type
use Rattle.nim_types.specs.Forms.{Form, plain, reference, block, elements, row, parts, resource, wrapped, Forms, of_some, hooked, hooked_any}
use Rattle.nim_types.specs.Forms.{object_form}
use Rattle.nim_types.specs.Table.{IsTable, types_in, facts_in}
use Rattle.nim_types.specs.declared.types.TypeDef.{TypeDef}
use Rattle.nim_types.specs.declared.types.TypeDef.TheVariants as D
use Rattle.nim_program.specs.Sizes.{HaveForms}
use Rattle.nim_meaning.specs.Acts.{branch}
use Rattle.nim_meaning.specs.Values.{Number, deeper, Location}
use Rattle.nim_meaning.specs.State.{World}
use Rattle.nim_meaning.specs.Deeds.{Deed, perform, ◌>>◌, ◌>>=◌, give}
use Rattle.nim_meaning.specs.Lifted.{walk, walk_all, each_part, copied, replaced, sunk, assigning, sinking}
use Rattle.flat_code.specs.declared.line.Line.TheVariants as L
use Rattle.flat_code.specs.Scene.{Known, known_in, Located, Temps, with_value, with_place}
use Rattle.flat_code.specs.Lines.{form_in}
use Rattle.flat_code.specs.Running.{settled}
use Rattle.hook_lifting.specs.declared.lifted.Hook.{Hook}
use Rattle.hook_lifting.specs.declared.lifted.Hook.TheVariants.{Copies, Assigns, Sinks, Ends}
use Rattle.hook_lifting.specs.declared.lifted.LiftedLine.{LiftedLine}
use Rattle.hook_lifting.specs.declared.lifted.LiftedLine.TheVariants as O
use Rattle.hook_lifting.specs.Lifted.{has_hooks, is_needed, part_lines, array_lines, loop_lines, lines_of, is_routine}
use Rattle.hook_lifting.specs.Lifting.{walk_of, hook_deed, does_by, label_of, both_places, comes_to, beginning}
use Rattle.hook_lifting.specs.Weights.{price, least_pace, extra_of, is_built, all_built}
use Rattle.hook_lifting.specs.Doing.{Does_hook}
use Rattle.hook_lifting.proofs.Deeds.{nothing_later}
use Rattle.hook_lifting.proofs.EntryForms.{forms_at, entry_form, form_at}
use Rattle.hook_lifting.proofs.Follows.{Setting, near_alike, at, Follows, weaker, settles, alike, goes, calls, calls_last, returns}
use Rattle.hook_lifting.proofs.Least.{least_walk, least_needed}
use Rattle.hook_lifting.proofs.Loops.{Keeps, keeps_none, keeps_place, each_of, loop_follows}
use Rattle.hook_lifting.proofs.Steps.{part_leads, member_leads, assigning_follows, sinking_follows}
use Rattle.hook_lifting.proofs.Sequences.{copies_follow, ends_follow}
use Rattle.hook_lifting.proofs.Walks.{takes_blocks, ok_hook, ends_nothing}

module _ (table : List TypeDef) where
  abbrev known : Known
  known = known_in table

  -- where the form of a type is built, or isn't
  abbrev setting : (pace : ℕ) → least_pace ≤ pace → (extra : ℕ) → Bool → Setting
  setting pace steep extra built = record { known = known; pace = pace; steep = steep; extra = extra; built = built }

  abbrev tys : List Ty
  tys = types_in table

  abbrev facts : Facts
  facts = facts_in table

  abbrev form : ℕ → Form
  form ty = form_in known ty

  abbrev last : List LiftedLine
  last = O.Plain (L.Return None) ∷ []

  abbrev forms_of : List ℕ → Forms
  forms_of ps = forms_at table ps

  module _ (pace : ℕ) (steep : least_pace ≤ pace) (built : Bool) (hook : Hook) (level : ℕ) (to from : Location) where
    abbrev g : Setting
    g = setting pace steep 2 built

    abbrev places : Temps
    places = both_places to from

    -- the walk over a form
    abbrev walks : Form → Deed (Unit {0})
    walks f = walk (walk_of hook) f to from

    -- ---- parts

    not_needed : (hook : Hook) (f : Form) → is_needed hook (hooked f) ≡ false → (a b : Location) → walk (walk_of hook) f a b ≡ give tt
    not_needed Copies f e a b = absurd (false≢true (sym e))
    not_needed Assigns f e a b = absurd (false≢true (sym e))
    not_needed Sinks f e a b = absurd (false≢true (sym e))
    not_needed Ends f e a b = ends_nothing f e a b

    module _ (whole : List LiftedLine) where
      -- a part, in front of the others; its own walk pays for its lines
      part_by : (ty i : ℕ) (rest : List LiftedLine) (later : Deed (Unit {0})) → (built ≡ true → is_built (form ty) ≡ true)
          → ((temps : Temps) (new : World) → Keeps places temps → Follows g 1 0 (perform later new) (at whole level rest temps new))
          → (b : Bool) → is_needed hook (has_hooks table ty) ≡ b → (temps : Temps) (world : World) → Keeps places temps
          → Follows g 1 0 (perform (walk (walk_of hook) (form ty) (deeper to i) (deeper from i) >> later) world)
          (at whole level (if b then O.Plain (L.Part 2 0 i) ∷ O.Plain (L.Part 3 1 i) ∷ O.Hook hook ty 2 3 ∷ rest else rest) temps world)
      part_by ty i rest later is_fine more true e temps world keeps =
          let temps2 = with_place 2 temps (Located (deeper to i)) in
          let temps3 = with_place 3 temps2 (Located (deeper from i)) in
          let keeps2 = keeps_place 2 (Located (deeper to i)) (omega arith) keeps in
          let m1 = at whole level (O.Plain (L.Part 2 0 i) ∷ O.Plain (L.Part 3 1 i) ∷ O.Hook hook ty 2 3 ∷ rest) temps world in
          let m2 = at whole level (O.Plain (L.Part 3 1 i) ∷ O.Hook hook ty 2 3 ∷ rest) temps2 world in
          settles {p = 1} {q = 0} (2 * 4)
          (weaker {p = 1 + (1 + (4 + 1))} {q = 0} (omega arith) (omega arith)
          (goes 1 m2
          (ap (λ did. settled label_of (does_by known) [] m1 (O.Plain (L.Part 3 1 i) ∷ O.Hook hook ty 2 3 ∷ rest) did)
          (part_leads known level 2 0 i temps world to (keeps.places 0 (omega arith))))
          (goes 1 (at whole level (O.Hook hook ty 2 3 ∷ rest) temps3 world)
          (ap (λ did. settled label_of (does_by known) [] m2 (O.Hook hook ty 2 3 ∷ rest) did)
          (part_leads known level 3 1 i temps2 world from (keeps2.places 1 (omega arith))))
          (calls g whole level (takes_blocks hook) 4 hook ty 2 3 rest temps3 world (walk (walk_of hook) (form ty) (deeper to i) (deeper from i)) later
          (λ b. least_needed hook (form ty) (is_fine b) e (deeper to i) (deeper from i) world) refl
          (ok_hook hook (form ty) (deeper to i) (deeper from i))
          (λ new. more temps3 new (keeps_place 3 (Located (deeper from i)) (omega arith) keeps2))))))
      part_by ty i rest later is_fine more false e temps world keeps =
          alike (walk (walk_of hook) (form ty) (deeper to i) (deeper from i) >> later) later world
          (λ world. ap (λ (d : Deed (Unit {0})). perform (d >> later) world) (not_needed hook (form ty) e (deeper to i) (deeper from i)))
          (more temps world keeps)

      parts_follow : (ps : List ℕ) (i : ℕ) → (built ≡ true → all_built (forms_of ps) ≡ true) → (temps : Temps) (world : World) → Keeps places temps
          → Follows g 1 0 (perform (walk_all (walk_of hook) (forms_of ps) i to from) world) (at whole level (part_lines table hook ps i last) temps world)
      parts_follow [] i fine temps world keeps = returns g whole level [] temps world
      parts_follow (ty ∷ ps) i fine temps world keeps =
          part_by ty i (part_lines table hook ps (suc i) last) (walk_all (walk_of hook) (forms_of ps) (suc i) to from)
          (λ b. (and_parts (is_built (form ty)) (all_built (forms_of ps)) (fine b)).0)
          (λ temps new keeps. parts_follow ps (suc i) (λ b. (and_parts (is_built (form ty)) (all_built (forms_of ps)) (fine b)).1) temps new keeps)
          (is_needed hook (has_hooks table ty)) refl temps world keeps

    -- ---- arrays

    each_is : (of n i : ℕ) → each_of (λ i. hook_deed known hook of (deeper to i) (deeper from i)) n i ≡ each_part n (walk (walk_of hook) (form of)) i to from
    each_is of zero i = refl
    each_is of (suc n) i = ap (λ (rest : Deed (Unit {0})). hook_deed known hook of (deeper to i) (deeper from i) >> rest) (each_is of n (suc i))

    some_hooked : (n : ℕ) (b : Bool) → of_some n b ≡ true → b ≡ true
    some_hooked zero b e = absurd (false≢true e)
    some_hooked (suc n) b e = e

    array_follows : (n of : ℕ) → of_some n (hooked (form of)) ≡ true → (built ≡ true → is_built (form of) ≡ true) → (world : World) →
        Follows g 5 0 (perform (walks (row n (form of))) world)
        (at (array_lines hook n of last) level (array_lines hook n of last) places world)
    array_follows n of hooks fine world =
        let whole = array_lines hook n of last in
        let temps = with_value 5 places (Number (pos n)) in
        let left : ℕ → Location = λ i. deeper to i in
        let right : ℕ → Location = λ i. deeper from i in
        let each : Deed (Unit {0}) = each_of (λ i. hook_deed known hook of (left i) (right i)) n 0 in
        weaker {p = 1 + (2 + (0 * n + 2))} {q = 0} (omega arith) (omega arith)
        (goes 1 (at whole level (loop_lines hook of (O.Member 2 0 4 n) (O.Member 3 1 4 n) last) temps world) refl
        (alike (walks (row n (form of))) (each >> give tt) world
        (λ world.
        ap (λ b. perform (branch b (each_part n (walk (walk_of hook) (form of)) 0 to from) ((walk_of hook).plainly to from)) world) hooks
        ∙ (ap (λ d. perform d world) (sym (each_is of n 0)) ∙ sym (nothing_later each world)))
        (loop_follows g whole level hook of (O.Member 2 0 4 n) (O.Member 3 1 4 n) last temps n left right (takes_blocks hook)
        (λ i. ok_hook hook (form of) (left i) (right i)) 0 8 (omega arith)
        (λ i world b. least_walk hook (form of) (fine b) (some_hooked n (hooked (form of)) hooks) (left i) (right i) world) refl refl refl
        (λ now world i keeps counted less. member_leads known level 2 0 n i now world to (keeps.places 0 (omega arith)) counted less)
        (λ now world i keeps counted less. member_leads known level 3 1 n i now world from (keeps.places 1 (omega arith)) counted less)
        refl refl 2 0 (give tt) (λ now keeps new. goes 1 (at whole level last now new) refl (returns g whole level [] now new)) temps world
        (keeps_none temps))))

    -- ---- what has parts, or is of another type, or has nothing to do

    parts_hooked : (ps : List ℕ) → hooked_any (forms_of ps) ≡ true → (built ≡ true → all_built (forms_of ps) ≡ true) → (world : World) →
        Follows g 8 0 (perform (walks (parts (forms_of ps))) world)
        (at (part_lines table hook ps 0 last) level (part_lines table hook ps 0 last) places world)
    parts_hooked ps hooks fine world =
        let whole = part_lines table hook ps 0 last in
        weaker {p = 1} {q = 0} (omega arith) (omega arith)
        (alike (walks (parts (forms_of ps))) (walk_all (walk_of hook) (forms_of ps) 0 to from) world
        (λ world. ap (λ b. perform (branch b (walk_all (walk_of hook) (forms_of ps) 0 to from) ((walk_of hook).plainly to from)) world) hooks)
        (parts_follow whole ps 0 fine places world (keeps_none places)))

    base_follows : (base : ℕ) (world : World) → Follows g 8 0 (perform (walks (wrapped (form base))) world)
        (at (O.Hook hook base 0 1 ∷ last) level (O.Hook hook base 0 1 ∷ last) places world)
    base_follows base world =
        let whole = O.Hook hook base 0 1 ∷ last in
        weaker {p = 4 + 1} {q = 0} (omega arith) (omega arith)
        (calls_last g whole level (takes_blocks hook) hook base 0 1 last places world (walks (form base)) refl (ok_hook hook (form base) to from)
        (λ new. returns g whole level [] places new))

    none_follows : (world : World) → Follows g 8 0 (perform {A = Unit {0}} (give tt) world) (at last level last places world)
    none_follows world = weaker {p = 1} {q = 0} (omega arith) (omega arith) (returns g last level [] places world)

  -- ---- by the entry of the type

  module _ (is_table : IsTable table) (formed : HaveForms table) (ty : ℕ) (hooks : has_hooks table ty ≡ true) (pace : ℕ) (steep : least_pace ≤ pace)
      (level : ℕ) (to from : Location) (world : World) where
    -- where its form is built weights are known
    abbrev here : (extra : ℕ) → Setting
    here extra = setting pace steep extra (is_built (form ty))

    abbrev Holds : Hook → TypeDef → Type 0
    Holds hook d =
        Follows (here (extra_of d)) 8 0 (perform (walk (walk_of hook) (form ty) to from) world)
        (at (lines_of table hook ty d) level (lines_of table hook ty d) (both_places to from) world)

    -- by its form
    by_form : (extra : ℕ) (f : Form) → form ty ≡ f → (lines : List LiftedLine) (hook : Hook) →
        Follows (here extra) 8 0 (perform (walk (walk_of hook) f to from) world)
        (at lines level lines (both_places to from) world) → Follows (here extra) 8 0 (perform (walk (walk_of hook) (form ty) to from) world)
        (at lines level lines (both_places to from) world)
    by_form extra f e lines hook h =
        subst (λ f. Follows (here extra) 8 0 (perform (walk (walk_of hook) f to from) world) (at lines level lines (both_places to from) world)) (sym e) h

    hooked_by : (f : Form) → form ty ≡ f → hooked f ≡ true
    hooked_by f e = subst (λ f. hooked f ≡ true) e hooks

    built_by : (f : Form) → form ty ≡ f → is_built (form ty) ≡ true → is_built f ≡ true
    built_by f e built = subst (λ f. is_built f ≡ true) e built

    never : {A : Type 0} (f : Form) → form ty ≡ f → hooked f ≡ false → A
    never f e none = absurd (false≢true (sym none ∙ hooked_by f e))

    by_text : (hook : Hook) → form ty ≡ block → is_routine D.Text hook ≡ false → Holds hook D.Text
    by_text Copies e runs = absurd (false≢true (sym runs))
    by_text Ends e runs = absurd (false≢true (sym runs))
    by_text Assigns e runs =
        subst (λ d. Follows (here 0) 8 0 (perform d world)
        (at (lines_of table Assigns ty D.Text) level (lines_of table Assigns ty D.Text) (both_places to from) world))
        (subst (λ f. (copied f from >>= replaced f to) ≡ walk assigning f to from) (sym e) refl)
        (assigning_follows (here 0) (lines_of table Assigns ty D.Text) level ty to from world)
    by_text Sinks e runs =
        subst (λ d. Follows (here 0) 8 0 (perform d world)
        (at (lines_of table Sinks ty D.Text) level (lines_of table Sinks ty D.Text) (both_places to from) world))
        (subst (λ f. sunk f to from ≡ walk sinking f to from) (sym e) refl)
        (sinking_follows (here 0) (lines_of table Sinks ty D.Text) level ty to from world)

    by_sequence : (hook : Hook) (of : ℕ) → form ty ≡ elements (form of) → Holds hook (D.Seq of)
    by_sequence Copies of e = by_form 0 (elements (form of)) e (lines_of table Copies ty (D.Seq of)) Copies
        (copies_follow (here 0) table level ty of to from e world)
    by_sequence Assigns of e =
        subst (λ d. Follows (here 0) 8 0 (perform d world)
        (at (lines_of table Assigns ty (D.Seq of)) level (lines_of table Assigns ty (D.Seq of)) (both_places to from) world))
        (subst (λ f. (copied f from >>= replaced f to) ≡ walk assigning f to from) (sym e) refl)
        (assigning_follows (here 0) (lines_of table Assigns ty (D.Seq of)) level ty to from world)
    by_sequence Sinks of e =
        subst (λ d. Follows (here 0) 8 0 (perform d world)
        (at (lines_of table Sinks ty (D.Seq of)) level (lines_of table Sinks ty (D.Seq of)) (both_places to from) world))
        (subst (λ f. sunk f to from ≡ walk sinking f to from) (sym e) refl)
        (sinking_follows (here 0) (lines_of table Sinks ty (D.Seq of)) level ty to from world)
    by_sequence Ends of e = by_form 0 (elements (form of)) e (lines_of table Ends ty (D.Seq of)) Ends
        (ends_follow (here 0) table level ty of to from e refl world)

    by_parts : (hook : Hook) (ps : List ℕ) → form ty ≡ parts (forms_of ps) → Follows (here 2) 8 0 (perform (walk (walk_of hook) (form ty) to from) world)
        (at (part_lines table hook ps 0 last) level (part_lines table hook ps 0 last) (both_places to from) world)
    by_parts hook ps e =
        by_form 2 (parts (forms_of ps)) e (part_lines table hook ps 0 last) hook
        (parts_hooked pace steep (is_built (form ty)) hook level to from ps (hooked_by (parts (forms_of ps)) e) (built_by (parts (forms_of ps)) e) world)

    by_object : (hook : Hook) (own_hooks : Bool) (ps : List ℕ) → form ty ≡ object_form own_hooks (forms_of ps) →
        let lines = if own_hooks then last else part_lines table hook ps 0 last in
        Follows (here 2) 8 0 (perform (walk (walk_of hook) (form ty) to from) world) (at lines level lines (both_places to from) world)
    by_object hook true ps e =
        by_form 2 (resource (forms_of ps)) e last hook (none_follows pace steep (is_built (form ty)) hook level to from world)
    by_object hook false ps e = by_parts hook ps e

    by_entry : (hook : Hook) (d : TypeDef) → form ty ≡ entry_form table d → is_routine d hook ≡ false → Holds hook d
    by_entry hook D.Int e runs = never plain e refl
    by_entry hook D.Bool e runs = never plain e refl
    by_entry hook D.Char e runs = never plain e refl
    by_entry hook D.Text e runs = by_text hook e runs
    by_entry hook (D.Seq of) e runs = by_sequence hook of e
    by_entry hook (D.Param n) e runs = never plain e refl
    by_entry hook (D.Enum name place all) e runs = never plain e refl
    by_entry hook (D.Array n of) e runs =
        by_form 2 (row n (form of)) e (lines_of table hook ty (D.Array n of)) hook
        (weaker {p = 5} {q = 0} (omega arith) (omega arith)
        (array_follows pace steep (is_built (form ty)) hook level to from n of (hooked_by (row n (form of)) e) (built_by (row n (form of)) e) world))
    by_entry hook (D.Tuple names ps) e runs = by_parts hook ps e
    by_entry hook (D.Object name place of names own_hooks ps) e runs = by_object hook own_hooks ps e
    by_entry hook (D.Distinct name place base) e runs =
        by_form 2 (wrapped (form base)) e (lines_of table hook ty (D.Distinct name place base)) hook
        (base_follows pace steep (is_built (form ty)) hook level to from base world)
    by_entry hook (D.Ref name base) e runs =
        by_form 2 reference e last hook (none_follows pace steep (is_built (form ty)) hook level to from world)
    by_entry hook (D.Exception name place parent) e runs = never plain e refl

  pub does_hook : IsTable table → HaveForms table → (hook : Hook) (ty : ℕ) (d : TypeDef) → slice_get table ty ≡ Some d → has_hooks table ty ≡ true →
      is_routine d hook ≡ false → Does_hook known hook ty d (lines_of table hook ty d)
  does_hook is_table formed hook ty d at hooks runs pace steep level to from world =
      let f = by_entry is_table formed ty hooks pace steep level to from world hook d (form_at table is_table formed ty d at) runs in
      let begins = beginning (lines_of table hook ty d) level to from world in
      let a = near_alike (setting pace steep (extra_of d) (is_built (form ty))) 8 (perform (hook_deed known hook ty to from) world)
      (comes_to known f.count begins)
      (price known pace f.count begins) f.near in
      (f.count, a.0, a.1)
