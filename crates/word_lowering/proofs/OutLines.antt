-- A value is moved out of a location, where its type's default stays.
use Rattle.std.proofs.Common.{◌≡◌, ℕ, ◌+◌, ◌≤◌, List, [], true, pos, refl, sym, ap, ap₂, subst, ◌∙◌, arith, None, Option, Some, false, ◌*◌, ◌∷◌}
use Rattle.nim_program.specs.declared.operation.Operation.TheVariants as O
use Rattle.nim_meaning.specs.Values.{Value, Number, Parts, Handle, Fixed, Ref, Resource, Gone, Vacant, bytes, Location, At, default_of, location_of}
use Rattle.nim_meaning.specs.State.{is_full_at, is_there, load, store, is_whole}
use Rattle.flat_code.specs.declared.block.BlockLine.{BlockLine}
use Rattle.flat_code.specs.declared.line.From.TheVariants as F
use Rattle.flat_code.specs.declared.line.Line.TheVariants as L
use Rattle.flat_code.specs.Scene.{Temps, Passes, Where, location_at, with_value}
use Rattle.flat_code.specs.Shapes.{Shape, has_shape, shape_of}
use Rattle.rv32_isa.specs.declared.micro_op.Size.TheVariants.{Byte}
use Rattle.word_code.specs.Memory.{Memory, with_number}
use Rattle.word_code.specs.Words.{Vars}
use Rattle.word_code.specs.declared.word.WordInstr.{WordInstr}
use Rattle.word_code.proofs.ForCallers.{at, Runs, then_runs}
use Rattle.word_lowering.specs.declared.homes.Home.{Home}
use Rattle.word_lowering.specs.declared.homes.Housed.{Housed}
use Rattle.word_lowering.specs.declared.spots.Spot.TheVariants.{Lies}
use Rattle.word_lowering.specs.LineCode.{location}
use Rattle.word_lowering.specs.Spots.{moves, clears, cleared, spot_of}
use Rattle.word_lowering.proofs.RoutineCalls.{awaiting}
use Rattle.word_lowering.proofs.Clears.{gets_cleared}
use Rattle.word_lowering.proofs.Gets.{Gets, SameTemps, good_place, gets_moved, good_value, same_temps}
use Rattle.word_lowering.proofs.InMemory.{AllZero, blank_zero, bytes_some}
use Rattle.word_lowering.proofs.LetterStores.{letter_may, letter_near, letter_then}
use Rattle.word_lowering.proofs.Lines.{reaches, Basis, IsGood, all_procs, all_sites, changed, changed_later, data_there, stands_next, starts, Settles, goes_on}
use Rattle.word_lowering.proofs.Lines.{known}
use Rattle.word_lowering.proofs.Lines.{bound_for}
use Rattle.word_lowering.proofs.Lines.{mapped_settles, where_there}
use Rattle.word_lowering.proofs.Located.{full_there, owned_readable}
use Rattle.word_lowering.proofs.MovedLines.{own_plain}
use Rattle.word_lowering.proofs.Moves.{ToMemory, is_single, zero_to_letter, zero_to_memory, zeros_to_memory}
use Rattle.word_lowering.proofs.OutPlaces.{Written, far_written, letter_written, own_written, written_at}
use Rattle.word_lowering.proofs.ReadFacts.{read_location}
use Rattle.word_lowering.proofs.Related.{routines, Both, body_of, within, high}
use Rattle.word_lowering.proofs.Scenes.{Ground, Points, ReachesHere, house, looked, may_owned, of_place, of_location, of_value}
use Rattle.word_lowering.proofs.ShapeFacts.{bytes_is, letter as a_letter, letter_is, never, of_numbers, values_of_numbers}
use Rattle.word_lowering.proofs.Sources.{Readable, more_steps}
use Rattle.word_lowering.proofs.Stores.{good_written, ground_then}
use Rattle.flat_code.specs.Fits.{if_kind, is_location, is_standing, place_named}
use Rattle.flat_code.specs.Lines.{gives}
use Rattle.flat_code.specs.Running.{scene_of}
use Rattle.flat_code.specs.declared.line.From.{From}
use Rattle.nim_meaning.specs.Deeds.{Answers, Stores, costs, does, give, sets, unless_gone, ◌>>=◌, ◌>>◌}
use Rattle.nim_meaning.specs.Here.{gives_hooked}
use Rattle.nim_meaning.specs.Places.{changes, exchanged, kept_if, may_change}
use Rattle.nim_program.specs.Kinds.{is_of, same_value}
use Rattle.nim_program.specs.View.{if_type}
use Rattle.flat_code.specs.declared.line.UseAt.{UseAt}
use Rattle.nim_types.specs.Forms.{form_of}
use Rattle.nim_types.specs.Table.{facts_in, type_at}
use Rattle.nim_types.specs.Types.{Ty}
use Rattle.std.proofs.lemmas.Bool.{and_from, and_parts}
use Rattle.word_lowering.proofs.ApplyFits.{applies, RowHere}
use Rattle.word_lowering.proofs.ControlLines.{plain, value_type}
use Rattle.word_lowering.proofs.LineFits.{are_of, same_type, single_is}
use Rattle.word_lowering.proofs.OperandLines.{value_type_by}
use Rattle.word_lowering.proofs.Settling.{LabelsLead, code_next}
use Rattle.word_lowering.proofs.Sites.{around}
use Rattle.word_lowering.proofs.Targets.{pointed, target}
use Rattle.word_lowering.proofs.ValueFacts.{type_in, value_plain, PlainNames}
use Rattle.word_lowering.proofs.GoodLeads.{owned_seen}

module _ (x : Basis) (g : Both) (line : BlockLine) (rest : List BlockLine) (y : IsGood x (starts g line rest)) where
  -- what is true behind the code that clears a location
  pub record Cleared (h : Housed) (l : Location) (d : Value) (temps : Temps) (k : List WordInstr) : Type 0 where
    pub vars : Vars
    pub memory : Memory
    pub words : Vars
    pub awaits : ℕ
    pub steps : ℕ
    pub some : 1 ≤ steps
    pub few : steps ≤ 9 + bytes d
    pub runs : Runs x.live (all_procs x) steps (at (within x.table x.blocks g) g.memory (clears h k) g.call.vars g.words)
        (at (awaiting (within x.table x.blocks g) awaits) memory k vars words)
    pub ground : Ground
    pub good : IsGood x (changed_later g rest temps vars memory words awaits (store g.world l d) ground g.input)

  module _ (h : Housed) (l : Location) (s : Shape) (numbers : of_numbers s ≡ true) (live : is_there g.world l ≡ true) (d : Value)
      (shaped : has_shape d s ≡ true) (zero_value : AllZero d)
      (word_is : h.is_word ≡ is_single d) (size_is : h.bytes ≡ bytes d) (temps : Temps) (same : SameTemps x g line rest y temps) (k : List WordInstr) where
    -- zeros at an address
    zeros_at : (home : Home) (a : ℕ) → Points g.call.site.base g.call.vars home a → Readable x (all_sites x g line rest y) y.linked g.memory a (bytes d)
        → ToMemory x.law x.live (all_procs x) (within x.table x.blocks g) refl g.words g.memory (cleared (is_single d) (bytes d) (Lies home) k) g.call.vars a
        d (9 + bytes d) k
    zeros_at = by d zero_value
      where
        by : (d : Value) → AllZero d → (home : Home) (a : ℕ) → Points g.call.site.base g.call.vars home a
            → Readable x (all_sites x g line rest y) y.linked g.memory a (bytes d)
            → ToMemory x.law x.live (all_procs x) (within x.table x.blocks g) refl g.words g.memory (cleared (is_single d) (bytes d) (Lies home) k)
            g.call.vars a d (9 + bytes d) k
        by (Number z) zero_value home a points range =
            let area = range.area 1 (omega arith) in
            let near = range.near in
            subst (λ u. ToMemory x.law x.live (all_procs x) (within x.table x.blocks g) refl g.words g.memory (cleared true 4 (Lies home) k) g.call.vars a
            (Number u) 13 k) (sym zero_value)
            (more_steps x (all_sites x g line rest y) y.linked (within x.table x.blocks g) refl g.words g.memory y.memory k g.call.vars
            (cleared true 4 (Lies home) k) a 4 13 (Number (pos 0)) (omega arith)
            (zero_to_memory x.law x.live (all_procs x) (within x.table x.blocks g) refl g.words g.memory y.memory.sized k g.call.vars home a points 4 area.0
            (omega (arith, near))))
        by (Parts vs) zero_value home a points range =
            zeros_to_memory x.law x.live (all_procs x) (within x.table x.blocks g) refl g.words g.memory y.memory.sized k g.call.vars home a points
            (routines x.table x.blocks) x.runtimes.others.statics (reaches x) (data_there x (all_sites x g line rest y) g.memory y.memory) vs zero_value
            range.area range.near
        by (Handle n b) zero_value home a points range = absurd zero_value
        by (Fixed text) zero_value home a points range = absurd zero_value
        by (Ref object) zero_value home a points range = absurd zero_value
        by (Resource all n) zero_value home a points range = absurd zero_value
        by (Gone value final) zero_value home a points range = absurd zero_value
        by Vacant zero_value home a points range = absurd zero_value

    -- where something is
    pub cleared_there : may_change l.base ≡ true → is_whole g.world (load g.world l) ≡ true → Written x g line rest y h l s → Cleared h l d temps k
    cleared_there may whole (own_written n there own is look old slot l_is) =
        let shape : has_shape d (looked x.table g.call.site (of_place n)) ≡ true = subst (λ k. has_shape d k ≡ true) (sym look) shaped in
        let plain_is = own_plain (house g.call.site (of_place n)) own in
        let get = subst (λ u. Gets x g line rest y (clears u k) k (of_place n) d (9 + bytes d)) (sym is)
        (gets_cleared x g line rest y (of_place n) there plain_is d (ap of_numbers look ∙ numbers) shape zero_value k) in
        subst (λ u. Cleared h u d temps k) (sym l_is) (record {
          vars = get.vars;
          memory = get.memory;
          words = get.words;
          awaits = get.awaits;
          steps = get.steps;
          some = get.some;
          few = get.few;
          runs = get.runs;
          ground = g.ground;
          good = good_place x g line rest y n there own d rest (stands_next x.table x.blocks (body_of g) line rest y.stands) temps same
              (clears h k) k (9 + bytes d) (ap of_numbers look ∙ numbers) shape plain_is get;
        })
    cleared_there may whole (far_written home spot up a points stood leads) =
        let sites = all_sites x g line rest y in
        let f = owned_seen x (starts g line rest) y l a s (may_owned l.base stood may) leads whole in
        let range : Readable x sites y.linked g.memory a (bytes d)
        = subst (λ n. Readable x sites y.linked g.memory a n) (sym (bytes_is d s numbers shaped)) (owned_readable x (starts g line rest) y l a s f live) in
        let r = zeros_at home a points range in
        let code : clears h k ≡ cleared (is_single d) (bytes d) (Lies home) k
        = ap₂ (λ b n. cleared b n (spot_of h) k) word_is size_is ∙ ap (λ p. cleared (is_single d) (bytes d) p k) spot in
        record {
          vars = r.vars;
          memory = r.memory;
          words = r.words;
          awaits = r.awaits;
          steps = r.steps;
          some = r.some;
          few = r.few;
          runs = subst (λ c. Runs x.live (all_procs x) r.steps (at (within x.table x.blocks g) g.memory c g.call.vars g.words)
              (at (awaiting (within x.table x.blocks g) r.awaits) r.memory k r.vars r.words)) (sym code) r.runs;
          ground = ground_then x g line rest y l a s numbers live d shaped r.memory r.changed r.there f;
          good = good_written x g line rest y l a s numbers live d shaped r.memory r.changed r.there f rest
              (stands_next x.table x.blocks (body_of g) line rest y.stands) temps same r.vars r.words r.awaits r.same;
        }
    cleared_there may whole (letter_written home spot up a points stood letter leads) =
        by d (subst (λ u. has_shape d u ≡ true) (letter_is s letter) shaped) zero_value
      where
        by : (d : Value) → has_shape d a_letter ≡ true → AllZero d → Cleared h l d temps k
        by (Number z) fits zero =
            let seen = and_from (is_there g.world l) (is_whole g.world (load g.world l)) live whole in
            let reaches = subst (ReachesHere x.table x.blocks (all_sites x g line rest y) g.ground g.world l a) (letter_is s letter) leads in
            let owned = may_owned l.base stood may in
            let may_put = letter_may x g line rest y l a owned reaches seen in
            let put = zero_to_letter x.law x.live (all_procs x) (within x.table x.blocks g) refl g.words g.memory k g.call.vars home a points
            (letter_near x g line rest y l a owned reaches seen) may_put h.is_word h.bytes in
            let s = letter_then x g line rest y l a owned reaches seen 0 (omega arith) in
            let few = put.few in
            subst (λ u. Cleared h l (Number u) temps k) (sym zero) (record {
              vars = put.vars;
              memory = with_number g.memory a Byte 0;
              words = g.words;
              awaits = g.awaits;
              steps = put.steps;
              some = put.some;
              few = omega (arith, few);
              runs = subst (λ c. Runs x.live (all_procs x) put.steps (at (within x.table x.blocks g) g.memory c g.call.vars g.words)
                  (at (within x.table x.blocks g) (with_number g.memory a Byte 0) k put.vars g.words))
                  (sym (ap (λ p. cleared h.is_word h.bytes p k) spot)) put.runs;
              ground = s.ground;
              good = s.good rest (stands_next x.table x.blocks (body_of g) line rest y.stands) temps same put.vars g.words g.awaits put.same;
            })
        by (Parts vs) fits zero = never fits
        by v fits zero = absurd zero

-- ---- the line

no_is_of : (o : Option Ty) → is_of o None ≡ true → false ≡ true
no_is_of None h = h
no_is_of (Some t) h = h

module _ (x : Basis) (labels : LabelsLead x) (g : Both) (rest : List BlockLine) (to : ℕ) (how : UseAt) where
  module _ (ty : ℕ) (a : Option ℕ) (from : ℕ) where
    abbrev moving : BlockLine
    moving = plain (L.Apply to O.Move how (Some ty) (a ∷ []) (F.Place from ∷ []))

    abbrev to_type : Ty
    to_type = type_at (known x).types ty

    abbrev start_value : Value
    start_value = default_of (facts_in x.table) to_type

    moved_out : PlainNames x g.call.site (of_value to ∷ of_location from ∷ []) → (y : IsGood x (starts g moving rest)) (there : Where) →
        g.call.temps.places from ≡ Some there
        → value_type x g moving rest y to ≡ Some to_type → type_in x is_location (body_of g) from ≡ Some to_type
        → if_kind is_standing (place_named is_location (body_of g).proc.places from) ≡ true
        → is_full_at g.world (location_at g.call.temps there) ≡ true → may_change (location_at g.call.temps there).base ≡ true
        → Settles x (starts g moving rest) rest (Passes (Answers [] (1 + (bytes start_value + 0))
        (with_value to g.call.temps (load g.world (location_at g.call.temps there))) (store g.world (location_at g.call.temps there) start_value)))
    moved_out names y there e typed from_typed may full may_be =
        let t = target x g moving rest y to to_type refl refl typed names.0 in
        let p = pointed x g moving rest y from to_type from_typed in
        let r = read_location x g moving rest y from there p.named names.1.0 e full in
        let v : Value = load g.world (location_at g.call.temps there) in
        let from_house : Housed = location (around x.table x.blocks (body_of g)) from in
        let next : List WordInstr = code_next x g moving rest y in
        let v_shaped : has_shape v (shape_of (facts_in x.table) to_type) ≡ true = subst (λ s. has_shape v s ≡ true) p.look r.shaped in
        let look : has_shape v (looked x.table g.call.site (of_value to)) ≡ true = subst (λ s. has_shape v s ≡ true) (sym t.look) v_shaped in
        let get = gets_moved x g moving rest y (of_value to) t.there (value_plain (house g.call.site (of_value to)) t.there.kind) v t.here look
        (clears from_house next) from_house r.read.word r.read.size r.read.small r.all r.read.source in
        let g1 : Both = changed g rest (with_value to g.call.temps v) get.vars get.memory get.words get.awaits g.world in
        let y1 : IsGood x (starts g1 moving rest) = good_value x g moving rest y (moving ∷ rest) y.stands
        (moves (house g.call.site (of_value to)) from_house (clears from_house next)) (clears from_house next) to v (10 + 2 * bytes v) t.there t.here
        look get in
        let w = written_at x g1 moving rest y1 from there p.named (y.linked.0.standing from may) e in
        let seen = full_there x (starts g moving rest) y w.location_is
        (subst (λ l. is_full_at g.world l ≡ true) (ap (location_at g.call.temps) w.is) full) in
        let live : is_there g.world w.location_is ≡ true = seen.0 in
        let size : bytes v ≡ bytes start_value = bytes_is v (shape_of (facts_in x.table) to_type) t.numbers v_shaped
        ∙ sym (bytes_is start_value (shape_of (facts_in x.table) to_type) t.numbers (x.defaults ty)) in
        let single : is_single v ≡ is_single start_value = single_is v (shape_of (facts_in x.table) to_type) t.numbers v_shaped
        ∙ sym (single_is start_value (shape_of (facts_in x.table) to_type) t.numbers (x.defaults ty)) in
        let c = cleared_there x g1 moving rest y1 from_house w.location_is (looked x.table g.call.site (of_location from))
        (ap of_numbers p.look ∙ t.numbers) live start_value
        (subst (λ s. has_shape start_value s ≡ true) (sym p.look) (x.defaults ty))
        (blank_zero (form_of (facts_in x.table) to_type) t.unhooked) (r.read.word ∙ single) (r.read.size ∙ size) (with_value to g.call.temps v)
        (same_temps x g1 moving rest y1) next (subst (λ l. may_change l.base ≡ true) (ap (location_at g.call.temps) w.is) may_be) seen.1 w.written in
        let some = bytes_some v (values_of_numbers v (shape_of (facts_in x.table) to_type) t.numbers v_shaped) in
        subst (λ l. Settles x (starts g moving rest) rest (Passes (Answers [] (1 + (bytes start_value + 0)) (with_value to g.call.temps v)
        (store g.world l start_value)))) (sym (ap (location_at g.call.temps) w.is))
        (goes_on x (starts g moving rest)
        (changed_later g1 rest (with_value to g.call.temps v) c.vars c.memory c.words c.awaits (store g.world w.location_is start_value) c.ground g.input)
        rest c.good
        (get.steps + c.steps) (1 + (bytes start_value + 0)) (with_value to g.call.temps v) (store g.world w.location_is start_value)
        (then_runs x.live (all_procs x) get.runs c.runs) (let h = get.some in omega (arith, h))
        (let h = get.few in let i = c.few in omega (arith, h, i, size, some)) refl)

    pub move_value : RowHere x g rest to O.Move how (Some ty) (a ∷ []) (F.Place from ∷ [])
    move_value names y =
        let f = applies x g rest to O.Move how (Some ty) (a ∷ []) (F.Place from ∷ []) names y in
        let typed = value_type_by (value_type x g moving rest y to) (Some to_type) to_type f.given refl in
        let v = same_type (type_in x is_location (body_of g) from) (if_type (known x).types a)
        (and_parts (same_value (type_in x is_location (body_of g) from) (if_type (known x).types a)) true f.typed).0 in
        let w = are_of (if_type (known x).types a) (Some to_type) f.row in
        let from_typed : type_in x is_location (body_of g) from ≡ Some to_type = v ∙ (w.is ∙ sym w.is_other) in
        let may = and_parts (if_kind is_standing (place_named is_location (body_of g).proc.places from)) true f.written in
        let t = target x g moving rest y to to_type refl refl typed names.0 in
        mapped_settles x (starts g moving rest) rest (g.call.temps.places from) (λ place. At (location_at g.call.temps place))
        (λ l. gives (scene_of (high x.table x.blocks (starts g moving rest))) to
        (costs 1 (exchanged (location_of l) start_value) >>= kept_if (gives_hooked (facts_in x.table) (Some to_type)) (bound_for g how)))
        (λ there e. subst (λ b. Settles x (starts g moving rest) rest (gives (scene_of (high x.table x.blocks (starts g moving rest))) to
        (costs 1 (exchanged (location_at g.call.temps there) start_value) >>= kept_if b (bound_for g how)))) (sym t.unhooked)
        (where_there x (starts g moving rest) rest (is_full_at g.world (location_at g.call.temps there))
        (λ b. gives (scene_of (high x.table x.blocks (starts g moving rest))) to (costs 1 (costs (bytes start_value)
        (unless_gone b (changes (location_at g.call.temps there) start_value >> give (load g.world (location_at g.call.temps there)))))
        >>= kept_if false (bound_for g how))) (λ before. tt)
        (λ seen. where_there x (starts g moving rest) rest (may_change (location_at g.call.temps there).base)
        (λ b. gives (scene_of (high x.table x.blocks (starts g moving rest))) to (costs 1 (costs (bytes start_value)
        (unless_gone b (sets (location_at g.call.temps there) start_value) >> give (load g.world (location_at g.call.temps there))))
        >>= kept_if false (bound_for g how))) (λ before. tt)
        (λ may_be. where_there x (starts g moving rest) rest (is_there g.world (location_at g.call.temps there))
        (λ b. gives (scene_of (high x.table x.blocks (starts g moving rest))) to (costs 1 (costs (bytes start_value)
        (unless_gone b (does (Stores (location_at g.call.temps there) start_value)) >> give (load g.world (location_at g.call.temps there))))
        >>= kept_if false (bound_for g how))) (λ before. tt)
        (λ h. moved_out names y there e typed from_typed may.0 seen may_be)))))

  pub move_line : (ty : Option ℕ) (of : List (Option ℕ)) (from : List From) → RowHere x g rest to O.Move how ty of from
  move_line (Some ty) (a ∷ []) (F.Place from ∷ []) names y = move_value ty a from names y
  move_line ty [] from names y = never (applies x g rest to O.Move how ty [] from names y).row
  move_line ty (a ∷ b ∷ of) from names y = never (applies x g rest to O.Move how ty (a ∷ b ∷ of) from names y).row
  move_line None (a ∷ []) from names y = never (no_is_of (if_type (known x).types a) (applies x g rest to O.Move how None (a ∷ []) from names y).row)
  move_line (Some ty) (a ∷ []) [] names y = never (applies x g rest to O.Move how (Some ty) (a ∷ []) [] names y).typed
  move_line (Some ty) (a ∷ []) (F.Value t ∷ others) names y = never (applies x g rest to O.Move how (Some ty) (a ∷ []) (F.Value t ∷ others) names y).placed
  move_line (Some ty) (a ∷ []) (F.Place from ∷ other ∷ others) names y =
      never (and_parts (same_value (type_in x is_location (body_of g) from) (if_type (known x).types a)) false
      (applies x g rest to O.Move how (Some ty) (a ∷ []) (F.Place from ∷ other ∷ others) names y).typed).1
